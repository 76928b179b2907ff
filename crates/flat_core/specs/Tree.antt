-- The secure EPT of a TD: four levels of 512 entries, the root's being level 3 and those that name private pages level 0
-- (Base Architecture, "Secure EPT"). An entry is known by its level and its number: the GPA that it maps from, in units
-- of what an entry of its level maps. The entries below an entry n have the numbers 512 n to 512 n + 511.
use Rattle.std.specs.Prelude.{ℕ, zero, suc, ◌+◌, ◌-◌, ◌*◌, ◌/◌, ◌%◌, List, [], ◌∷◌, map, filter, Option, Some, None, Bool, true, false, not, ◌==◌, nat_lt, if◌then◌else◌}
use Rattle.std.specs.List.{list_any}
use Rattle.td_words.specs.declared.names.EntryState.{EntryState}
use Rattle.td_words.specs.declared.names.EntryState.TheVariants as entry
use Rattle.td_words.specs.declared.names.Access.{Access}
use Rattle.td_words.specs.declared.names.Access.TheVariants.{Read, Write}
use Rattle.td_words.specs.declared.names.Mode.{Mode}
use Rattle.td_words.specs.declared.refusals.Status.TheVariants.{EptWalkFailed, EptEntryStateIncorrect, SeptNotEmpty}
use Rattle.td_words.specs.declared.replies.Reply.{Reply}
use Rattle.td_words.specs.NameNumber as numbers
use Rattle.td_words.specs.Packing.{Entry}
use Rattle.flat_core.specs.World.{World}
use Rattle.flat_core.specs.Processor.{OfPage}
use Rattle.flat_core.specs.Arguments.{level_size}
use Rattle.flat_core.specs.Row.{Item, Try, needs}

-- the GPA page and the word of its page that a GPA is in
abbrev pub page_of_gpa : ℕ → ℕ
page_of_gpa gpa = gpa / 4096

abbrev pub word_of_gpa : ℕ → ℕ
word_of_gpa gpa = gpa % 4096 / 8

-- the number at a level of the entry that maps a GPA
abbrev pub number_at : ℕ → ℕ → ℕ
number_at level gpa = gpa / level_size level

abbrev pub entry_at : World → ℕ → ℕ → ℕ → Entry
entry_at w t level gpa = w.tds.entries t level (number_at level gpa)

abbrev pub same_state : EntryState → EntryState → Bool
same_state a b = numbers.entry_number a == numbers.entry_number b

-- which access an entry's state allows a guest (Base Architecture, "Secure EPT Entry State Diagram"; TD Migration
-- Architecture, "Private Memory Migration")
abbrev pub may_read : EntryState → Bool
may_read entry.Mapped = true
may_read entry.BlockedW = true
may_read entry.ExportedBlockedW = true
may_read entry.ExportedDirty = true
may_read entry.ExportedDirtyBlockedW = true
may_read _ = false

abbrev pub may_write : EntryState → Bool
may_write entry.Mapped = true
may_write entry.ExportedDirty = true
may_write _ = false

abbrev pub allows : EntryState → Access → Bool
allows s Read = may_read s
allows s Write = may_write s

-- the levels above one, from the root's down
abbrev pub levels_above : ℕ → List ℕ
levels_above level = filter (λ l. nat_lt level l) (3 ∷ 2 ∷ 1 ∷ [])

-- the entry of a GPA at a level is NL_MAPPED
abbrev pub is_passed : World → (tdr gpa level : ℕ) → Bool
is_passed w t gpa l = same_state (entry_at w t l gpa).state entry.NlMapped

-- a host's walk reaches the entry of a level where each entry above it is passed
abbrev pub walk : World → ℕ → ℕ → ℕ → List (Item Reply)
walk w t gpa level = map (λ l. needs (is_passed w t gpa l) (EptWalkFailed l)) (levels_above level)

-- the entry's state is one of these; it names a page in every state but FREE
abbrev pub state_in : World → ℕ → ℕ → ℕ → List EntryState → Item Reply
state_in w t gpa level allowed =
    needs (list_any (λ s. same_state s (entry_at w t level gpa).state) allowed) (EptEntryStateIncorrect (entry_at w t level gpa).state)

abbrev pub has_page : World → ℕ → ℕ → ℕ → Item Reply
has_page w t gpa level = needs (not (same_state (entry_at w t level gpa).state entry.Free)) (EptEntryStateIncorrect entry.Free)

-- the index of the first of these that is used, from an index on
abbrev pub first_used : (ℕ → Bool) → (index count : ℕ) → Option ℕ
first_used used i zero = None
first_used used i (suc n) = if used i then Some i else first_used used (suc i) n

-- among the 512 entries of the page that an upper entry names
abbrev pub is_used_below : World → (tdr gpa level index : ℕ) → Bool
is_used_below w t gpa level i = not (same_state (w.tds.entries t (level - 1) (512 * number_at level gpa + i)).state entry.Free)

abbrev pub none_used : Option ℕ → Bool
none_used None = true
none_used (Some i) = false

abbrev pub index_shown : Option ℕ → ℕ
index_shown None = 0
index_shown (Some i) = i

abbrev pub empty_below : World → (tdr gpa level : ℕ) → Item Reply
empty_below w t gpa level =
    let first = first_used (is_used_below w t gpa level) 0 512 in needs (none_used first) (SeptNotEmpty (index_shown first))

-- the try of the page that the entry names
abbrev pub named_page : World → ℕ → ℕ → ℕ → Mode → Item Reply
named_page w t gpa level mode = Try (OfPage (entry_at w t level gpa).page) mode
