-- How many entries of a TD of level 0 are in some state (TD Migration Architecture, "Private Memory Migration"). Each that
-- isn't FREE names one private page of the TD, which has its number, so pages are counted.
use Rattle.std.specs.Prelude.{ℕ, Bool, true, false, ◌==◌, ◌&&◌}
use Rattle.td_words.specs.declared.names.PageKind.TheVariants as kind
use Rattle.td_words.specs.declared.names.EntryState.{EntryState}
use Rattle.td_words.specs.declared.names.EntryState.TheVariants as entry
use Rattle.td_words.specs.Packing.{Entry}
use Rattle.flat_core.specs.World.{Pages, Tds}
use Rattle.flat_core.specs.Locks.{one_if, sum_below}
use Rattle.flat_core.specs.Conditions.{same_kind}

-- a guest may have written to the page after its last export
abbrev pub is_dirty : EntryState → Bool
is_dirty entry.ExportedDirty = true
is_dirty entry.ExportedDirtyBlockedW = true
is_dirty _ = false

-- a private page of a TD with these entries of level 0, whose entry is in such a state
abbrev pub is_page_where : (EntryState → Bool) → Pages → ℕ → (ℕ → Entry) → ℕ → Bool
is_page_where f pages t entries p = same_kind (pages.kinds p) kind.Reg && (pages.owners p == t && f (entries (pages.numbers p)).state)

-- how many of a TD's entries are, in a machine of so many pages
abbrev pub entries_where : (EntryState → Bool) → (count : ℕ) → Pages → Tds → ℕ → ℕ
entries_where f count pages tds t = sum_below (λ p. one_if (is_page_where f pages t (tds.entries t 0) p)) count
