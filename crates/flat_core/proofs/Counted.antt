-- How many entries of a TD are dirty, and how many are exported, in a reader's terms.
use Rattle.std.proofs.Common.{refl}
use Rattle.td_words.specs.Packing.{is_exported}
use Rattle.flat_core.specs.Exports.{is_dirty, entries_where}
use Rattle.flat_core.specs.Laws.{AreCounted, LawfulWorldsAreCounted, CountsAreKept, ExportedAreCounted}
use Rattle.flat_core.proofs.Exports.{dirty_exported}
use Rattle.flat_core.proofs.Numbers.{upper_unmarked, so_many}
use Rattle.flat_core.proofs.EveryWorld.{every_lawful, kept_with}

pub are_counted : LawfulWorldsAreCounted
are_counted m w l = record {
  dirty = λ t a. (entries_where is_dirty m.pages w.pages w.tds t, l.counts.dirtied t a, so_many m w l t a is_dirty dirty_exported _ refl);
  exported = λ t a. so_many m w l t a is_exported (λ s h. h) _ (l.counts.unrestored t a);
  upper = λ t k n a. upper_unmarked m w l t a k n;
}

pub counts_kept : CountsAreKept
counts_kept = kept_with AreCounted are_counted

pub exported_are_counted : ExportedAreCounted
exported_are_counted o ws schedule = are_counted o.machine _ (every_lawful o ws schedule)
