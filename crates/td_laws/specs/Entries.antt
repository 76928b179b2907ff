-- Entries of the secure EPT: to which states an event leads one (Base Architecture, "Secure EPT Entry State Diagram"; TD Migration
-- Architecture, "Private Memory Migration").
use Rattle.std.specs.Prelude.{◌≡◌, ℕ, List, [], ◌∷◌, true, false}
use Rattle.td_words.specs.declared.names.EntryState.{EntryState}
use Rattle.td_words.specs.declared.names.EntryState.TheVariants as entry
use Rattle.td_words.specs.NameNumber.{entry_number}
use Rattle.flat_core.specs.Opening.{Opening}
use Rattle.flat_core.specs.Conditions.{is_host_in}
use Rattle.flat_core.specs.Event.{State, event}
use Rattle.td_laws.specs.Steps.{may_move}

-- the states to which an entry goes on from each: it is added or blocked, unblocked or removed, accepted; blocked and unblocked for
-- writing, exported, and restored
abbrev pub next_entries : EntryState → List EntryState
next_entries entry.Free = entry.NlMapped ∷ entry.Mapped ∷ entry.Pending ∷ []
next_entries entry.Mapped = entry.Blocked ∷ entry.BlockedW ∷ entry.ExportedBlockedW ∷ []
next_entries entry.Blocked = entry.Mapped ∷ entry.Free ∷ []
next_entries entry.Pending = entry.Mapped ∷ entry.PendingBlocked ∷ []
next_entries entry.PendingBlocked = entry.Pending ∷ entry.Free ∷ []
next_entries entry.NlMapped = entry.NlBlocked ∷ []
next_entries entry.NlBlocked = entry.NlMapped ∷ entry.Free ∷ []
next_entries entry.BlockedW = entry.Mapped ∷ entry.ExportedBlockedW ∷ []
next_entries entry.ExportedBlockedW = entry.ExportedDirty ∷ entry.Mapped ∷ []
next_entries entry.ExportedDirty = entry.ExportedDirtyBlockedW ∷ entry.ExportedBlockedW ∷ entry.Mapped ∷ []
next_entries entry.ExportedDirtyBlockedW = entry.ExportedDirty ∷ entry.ExportedBlockedW ∷ entry.Mapped ∷ []

-- An event leaves each entry of a TD in its state, or moves it to one of these. A page that is the host's has no TD.
abbrev pub EventsMoveEntries : Type 0
EventsMoveEntries = (o : Opening) (s : State) (p t level number : ℕ) → is_host_in s.world.pages t ≡ false
    → may_move entry_number next_entries (s.world.tds.entries t level number).state ((event o s p).world.tds.entries t level number).state ≡ true
