use Rattle.std.proofs.Common.{rules, ◌≡◌, ℕ, ◌+◌, ◌-◌, ◌≤◌, List, [], ◌∷◌, arith}
use Rattle.td_words.specs.Place as place
use Rattle.flat_core.specs.Inputs.{Input, input_in}
use Rattle.leaf_engine.specs.Changes.{Change, Put}
use Rattle.import_parts.specs.WordPuts.{put_words}
use Rattle.import_states.proofs.Asked.{hands-past}
use Rattle.import_states.proofs.vps.ImportVpPlan.write.Goals as goal

pub returns-in_default-clause-hands : goal.returns-in_default-clause-hands
returns-in_default-clause-hands c =
    let l = c.args.self.now in
    let x : Input = input_in l.input in
    let n : ℕ = c.args.number in
    let more : 3 ≤ c.args.number = search rules in
    let is : c.args.number ≡ 3 + (c.args.number - 3) = omega (arith, more) in
    let first : List Change = Put (place.Word l.vp 1) 1 ∷ Put (place.Word l.vp 4) x.header.info ∷ Put (place.Word c.args.act.page 0) (x.header.counter + 1) ∷ [] in
    hands-past l.place.machine first (put_words l.vp 8 x.words 0 8) n (n - 3) c.args._hand.now c.args._hand.now c.write.result is (c.write.ensures.hands c.args._hand.now)
