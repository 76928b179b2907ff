use Rattle.std.proofs.Common.{◌≡◌, drop}
use Rattle.flat_core.specs.Translations.{look_up}
use Rattle.tlb_epochs.proofs.translations.find.Given as goal

abbrev pub invariant-loop-i : goal.invariant-loop-i
invariant-loop-i l = look_up l.cached l.tdr l.gpa_page l.access ≡ look_up (drop l.i l.cached) l.tdr l.gpa_page l.access
