use Rattle.std.proofs.Common.{◌∙◌, drop, arith}
use Rattle.std.proofs.lemmas.List.{length-drop, take_all}
use Rattle.std.specs.Slots.{slots_items, slots_counts}
use Rattle.trace_table.specs.Views.{guards}
use Rattle.trace_table.proofs.Ended.{one-more}
use Rattle.trace_table.proofs.closing.machine_words.Goals as goal

pub loop-at-preserved : goal.loop-at-preserved
loop-at-preserved c =
    let row = c.args.ended.now.words in
    let i = c.loop-at.invariant in
    let far = c.loop-at-test.true in
    let long = (slots_counts row).0 in (
      c.in_ok-push.ensures.items ∙ one-more (slots_items row) c.loop-at.words.items c.loop-at.at c.word.result i.0 c.word.ensures (let a = i.1 in omega (arith, far, long, a)),
      i.1,
    )

pub returns : goal.returns
returns c =
    let row = c.args.ended.now.words in
    let i = c.loop-at.invariant in
    let far = c.loop-at-test.false in
    let long = (slots_counts row).0 in
    let all = length-drop guards (slots_items row) in
    i.0 ∙ take_all c.loop-at.at (drop guards (slots_items row)) (let a = i.1 in omega (arith, far, long, a, all))
