use Rattle.std.proofs.Common.{rules, ◌≡◌, ℕ, ◌+◌, ◌-◌, ◌≤◌, List, [], ◌∷◌, arith}
use Rattle.td_words.specs.Place as place
use Rattle.flat_core.specs.Inputs.{Input, input_in}
use Rattle.leaf_engine.specs.Changes.{Change, Put}
use Rattle.import_parts.specs.WordPuts.{put_words}
use Rattle.import_states.proofs.Asked.{hands-past}
use Rattle.import_states.proofs.sessions.ImportImmutablePlan.write.Goals as goal

pub returns-in_default-clause-hands : goal.returns-in_default-clause-hands
returns-in_default-clause-hands c =
    let l = c.args.self.now in
    let x : Input = input_in l.input in
    let n : ℕ = c.args.number in
    let d : ℕ = c.args.act.page in
    let more : 7 ≤ c.args.number = search rules in
    let is : c.args.number ≡ 7 + (c.args.number - 7) = omega (arith, more) in
    let first : List Change =
    Put (place.Word d 4) 6 ∷ Put (place.Word d 5) 1 ∷ Put (place.Word d 10) 1 ∷ Put (place.Word d 11) x.header.session ∷ Put (place.Word d 14) x.header.info ∷ Put (place.Key 2) x.header.session ∷ Put (place.Word c.args.act.named 0) 1 ∷ [] in
    hands-past l.place.machine first (put_words d 64 x.words 0 6) n (n - 7) c.args._hand.now c.args._hand.now c.write.result is (c.write.ensures.hands c.args._hand.now)
