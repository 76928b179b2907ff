use Rattle.std.proofs.Common.{List, ◌∙◌, ap, map}
use Rattle.report_core.specs.declared.facts.Facts.{Facts}
use Rattle.leaf_dispatch.specs.Guests.{note_seen}
use Rattle.leaf_dispatch.specs.States.{seen_of}
use Rattle.leaf_dispatch.specs.declared.states.LpState.{LpState}
use Rattle.run_texts.proofs.Replayed.{notes-next}
use Rattle.run_texts.proofs.replay.all_notes.Goals as goal

pub loop-lp-preserved : goal.loop-lp-preserved
loop-lp-preserved c =
    rw c.in-Ok.ensures.items
    (notes-next c.args.report_key.now c.args.lps.now c.loop-lp.lp c.index-lps-lp.result c.loop-lp.text.items c.deref.result.now _ _ c.loop-lp-test.true
    (ap (λ (reports : List Facts). map (note_seen reports) c.notes.result.now) c.reports.ensures ∙ c.notes.ensures.notes ∙ ap (λ (s : LpState). (seen_of s).beside.notes) c.index-lps-lp.is) (c.deref.ensures.value ∙ c.in_ok-lines.ensures)
    c.loop-lp.invariant)
