-- What holds where the page of IMPORT.MEM is taken, and where it is there already, holds after its act.
use Rattle.std.proofs.Common.{ℕ}
use Rattle.td_words.specs.declared.names.PageKind.TheVariants as kind
use Rattle.td_words.specs.declared.names.EntryState.{EntryState}
use Rattle.td_words.specs.declared.names.EntryState.TheVariants as entry
use Rattle.flat_core.specs.World.{World}
use Rattle.flat_core.specs.Tree.{number_at, entry_at}
use Rattle.flat_core.specs.Effects.{set_page, map_page}
use Rattle.flat_core.specs.ImportRows.{fill_page}

pub fill_either : (P : World → Type 0) (t gpa page : ℕ) (ws : ℕ → ℕ) (s : EntryState) (w : World) → P (set_page page ws (map_page page kind.Reg entry.Mapped t 0 (number_at 0 gpa) w)) → P (set_page (entry_at w t 0 gpa).page ws w) → P (fill_page t gpa page ws s w)
fill_either P t gpa page ws entry.Free w taken there = taken
fill_either P t gpa page ws _ w taken there = there
