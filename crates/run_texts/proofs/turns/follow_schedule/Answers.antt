use Rattle.std.proofs.Common.{◌≡◌, ◌∙◌, ◌+◌, ◌<◌, ℕ, None, Some, ap, sym, subst, drop, get_or, set, length, arith}
use Rattle.std.proofs.Math.ListN.{length-set}
use Rattle.script_text.specs.Seen.{ScriptSeen}
use Rattle.leaf_table.specs.Given.{given_in}
use Rattle.trace_table.specs.Benches.{bench_of}
use Rattle.run_texts.specs.Openings.{opening_of}
use Rattle.run_texts.specs.Replaying.{HaveEnded}
use Rattle.run_texts.specs.Looking.{IsLeft, Looked, ended_behind}
use Rattle.run_texts.proofs.Replayed.{machine-at, item-inside, item-next, items-inside, open-of, after-turn, as-before, ended-now, none-left}
use Rattle.run_texts.proofs.turns.follow_schedule.Given.{Over}
use Rattle.run_texts.proofs.turns.follow_schedule.Goals.{In-Some, then-not-moved+else-ended-lps, else-not-moved}
use Rattle.run_texts.proofs.turns.follow_schedule.Goals as goal

pub turn-requires : goal.turn-requires
turn-requires g c =
    let script = c.args.script.now in
    let o = opening_of (given_in c.args.given) script in
    let sought = g.W.Onlooker.seeks c.args.onlooker.now c.loop-item.seen o script.schedule in
    let left = drop c.loop-item.item script.schedule in
    let id = (bench_of c.args.bench.now).pass.table in
    let is : c.from.result ≡ get_or script.schedule c.loop-item.item c.index-lp.result.now =
    c.from.ensures ∙ (c.index-lp.ensures ∙ ap (λ (s : ScriptSeen). get_or s.schedule c.loop-item.item c.index-lp.result.now) c.script.view_is) in
    let inside : c.loop-item.item < length script.schedule = omega (arith, c.loop-item-test.true, c.len-item-end.ensures, ap (λ (s : ScriptSeen). length s.schedule) c.script.view_is) in
    machine-at o left sought c.loop-item.lps id (bench_of c.loop-item.bench) c.from.result c.index-lps-from.result c.loop-item.invariant.left
    (item-inside (given_in c.args.given) script left sought c.loop-item.lps id (bench_of c.loop-item.bench) c.loop-item.item c.index-lp.result.now c.from.result c.requires.form c.loop-item.invariant.left inside is)

-- Behind an item the processors stand where one item less is left, and as many of them have ended as are counted then.
behind : (g : Over) (c : In-Some g)
    → (length (set c.loop-item.lps c.from.result c.turn.new.state) ≡ length c.args.lps.now) × HaveEnded (ended_behind c.loop-item.ended c.index-lp.result.now c.in-Some.moved) (set c.loop-item.lps c.from.result c.turn.new.state)
    × IsLeft (g.W.Onlooker.seeks c.args.onlooker.now) (given_in c.args.given) c.args.script.now (drop (c.loop-item.item + 1) c.args.script.now.schedule) c.turn.new.seen (set c.loop-item.lps c.from.result c.turn.new.state) (bench_of c.args.bench.now).pass.table c.turn.new.bench
behind g c =
    let seeks = g.W.Onlooker.seeks c.args.onlooker.now in
    let stops = g.W.Onlooker.stops in
    let o = opening_of (given_in c.args.given) c.args.script.now in
    let schedule = c.args.script.now.schedule in
    let p = c.from.result in
    let lps = c.loop-item.lps in
    let inside : c.loop-item.item < length schedule = omega (arith, c.loop-item-test.true, c.len-item-end.ensures, ap (λ (s : ScriptSeen). length s.schedule) c.script.view_is) in
    let is : p ≡ get_or schedule c.loop-item.item c.index-lp.result.now =
    c.from.ensures ∙ (c.index-lp.ensures ∙ ap (λ (s : ScriptSeen). get_or s.schedule c.loop-item.item c.index-lp.result.now) c.script.view_is) in
    let within = item-inside (given_in c.args.given) c.args.script.now _ _ lps _ _ c.loop-item.item c.index-lp.result.now p c.requires.form c.loop-item.invariant.left inside is in
    let looked =
    subst (λ (q : ℕ). Looked seeks stops q c.loop-item.seen (get_or lps p c.index-lps-from.result) c.loop-item.bench c.turn.new.seen c.turn.new.state c.turn.new.bench (Some c.in-Some.moved)) (sym c.from.ensures) c.in-Some.ensures in (
      length-set lps p c.turn.new.state ∙ c.loop-item.invariant.count,
      subst (λ (q : ℕ). HaveEnded (ended_behind c.loop-item.ended q c.in-Some.moved) (set lps p c.turn.new.state)) c.from.ensures
          (ended-now seeks stops lps p c.index-lps-from.result c.turn.new.state c.loop-item.bench c.turn.new.bench c.loop-item.seen c.turn.new.seen c.loop-item.ended within c.loop-item.invariant.ended c.in-Some.moved looked),
      after-turn seeks stops c.laws_of_turns.ensures o schedule (drop (c.loop-item.item + 1) schedule) lps p c.index-lps-from.result c.turn.new.state _ c.loop-item.bench c.turn.new.bench c.loop-item.seen c.turn.new.seen
          (open-of (given_in c.args.given) c.args.script.now c.requires.form) c.requires.on within
          (item-next o (seeks c.loop-item.seen o schedule) schedule lps _ _ c.loop-item.item c.index-lp.result.now p c.loop-item.invariant.left inside is) c.in-Some.moved looked,
    )

pub loop-item-preserved : goal.loop-item-preserved
loop-item-preserved g c =
    let b = behind g (goal.at.loop-item-preserved g c).In-Some in
    let is : c.if-not-moved.ended ≡ ended_behind c.loop-item.ended c.index-lp.result.now c.in-Some.moved =
    elim c.if-not-moved.branch [
      | then-not-moved+else-ended-lps w ↦ w.ended-is ∙ (w.ended_behind-ended.ensures ∙ ap (ended_behind c.loop-item.ended c.index-lp.result.now) (sym w.if-not-moved.true))
      | else-not-moved w ↦ w.ended-is ∙ ap (ended_behind c.loop-item.ended c.index-lp.result.now) (sym w.if-not-moved.false)
    ] in
    record { count = b.0; ended = subst (λ (n : ℕ). HaveEnded n (set c.loop-item.lps c.from.result c.turn.new.state)) (sym is) b.1; left = b.2 }

-- the items that are left make no event
pub returns-then-ended-lps-clause-gone : goal.returns-then-ended-lps-clause-gone
returns-then-ended-lps-clause-gone g c =
    let o = opening_of (given_in c.args.given) c.args.script.now in
    let schedule = c.args.script.now.schedule in
    let lps = set c.loop-item.lps c.from.result c.turn.new.state in
    let b = behind g (goal.at.returns-then-ended-lps-clause-gone g c).In-Some in
    let all : ended_behind c.loop-item.ended c.index-lp.result.now c.in-Some.moved ≡ length lps =
    ap (ended_behind c.loop-item.ended c.index-lp.result.now) c.if-not-moved.true ∙ (sym c.ended_behind-ended.ensures ∙ c.if-ended-lps.true) in (
      λ p less. absurd (omega (arith, less)),
      none-left c.laws_of_turns.ensures o (g.W.Onlooker.seeks c.args.onlooker.now c.turn.new.seen o schedule) lps _ _ (drop (c.loop-item.item + 1) schedule) (open-of (given_in c.args.given) c.args.script.now c.requires.form) (c.requires.on c.turn.new.seen)
          (subst (λ (n : ℕ). HaveEnded n lps) all b.1) (items-inside (given_in c.args.given) c.args.script.now _ _ lps _ _ (c.loop-item.item + 1) c.requires.form b.2) b.2,
    )

pub returns-in_default-clause-gone : goal.returns-in_default-clause-gone
returns-in_default-clause-gone g c =
    let seeks = g.W.Onlooker.seeks c.args.onlooker.now in
    let stops = g.W.Onlooker.stops in
    let schedule = c.args.script.now.schedule in
    let p = c.from.result in
    let lps = c.loop-item.lps in
    let looked =
    subst (λ (q : ℕ). Looked seeks stops q c.loop-item.seen (get_or lps p c.index-lps-from.result) c.loop-item.bench c.turn.new.seen c.turn.new.state c.turn.new.bench None) (sym c.from.ensures) c.in_default.ensures in
    (looked.0, (drop c.loop-item.item schedule, as-before seeks stops c.laws_of_turns.ensures (opening_of (given_in c.args.given) c.args.script.now) schedule (drop c.loop-item.item schedule) lps p c.index-lps-from.result c.turn.new.state _ c.loop-item.bench c.turn.new.bench c.loop-item.seen c.turn.new.seen c.loop-item.invariant.left looked))
