use Rattle.std.proofs.Common.{◌≡◌, map, take}
use Rattle.flat_core.specs.GuestText.{note_text}
use Rattle.report_text.specs.Lines.{note_line}
use Rattle.leaf_dispatch.specs.Guests.{note_seen}
use Rattle.run_texts.proofs.noted.are_told.Given as goal

abbrev pub invariant-loop-i : goal.invariant-loop-i
invariant-loop-i l = map (note_line l.key l.reports l.lp) (take l.i l.notes) ≡ map (note_text l.key l.lp) (map (note_seen l.reports) (take l.i l.notes))
