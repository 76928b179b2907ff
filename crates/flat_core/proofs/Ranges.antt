-- Rows that block and unblock, and that give a guest its page back: what their conditions say, and what they make of an
-- entry's state.
use Rattle.std.proofs.Common.{◌≡◌, ◌≢◌, ◌⊎◌, inl, inr, refl, sym, ◌∙◌, ap, ℕ, ◌+◌, List, [], ◌∷◌, length, Bool, true, false, ◌==◌}
use Rattle.std.specs.List.{list_any}
use Rattle.td_words.specs.declared.names.PageKind.TheVariants as kind
use Rattle.td_words.specs.declared.names.LifeState.{LifeState}
use Rattle.td_words.specs.declared.names.LifeState.TheVariants as life
use Rattle.td_words.specs.declared.names.OpState.{OpState}
use Rattle.td_words.specs.declared.names.OpState.TheVariants as op
use Rattle.td_words.specs.declared.names.EntryState.{EntryState}
use Rattle.td_words.specs.declared.names.EntryState.TheVariants as entry
use Rattle.td_words.specs.declared.names.Mode.TheVariants.{Exclusive}
use Rattle.td_words.specs.declared.machines.Machine.{Machine}
use Rattle.td_words.specs.declared.replies.Reply.{Reply}
use Rattle.td_words.specs.NameNumber.{life_number, op_number}
use Rattle.td_words.specs.Packing.{is_exported}
use Rattle.flat_core.specs.World.{World}
use Rattle.flat_core.specs.Row.{Item, Passes}
use Rattle.flat_core.specs.Locks.{one_if}
use Rattle.flat_core.specs.Conditions.{same_kind, blocking_ops, running_ops}
use Rattle.flat_core.specs.Tree.{same_state, entry_at, state_in, named_page}
use Rattle.flat_core.specs.ExportRows.{live_ops, abortable_ops, writable_states, write_blocked, block_write, write_blocked_states, write_unblocked, is_first_dirt, restored_states}
use Rattle.flat_core.specs.BundleRows.{paused_ops, exportable}
use Rattle.flat_core.specs.Exports.{is_dirty}
use Rattle.flat_core.specs.MemRows.{named_row, open_states, blocked_states, removed_states, blocked_state, unblocked_state}
use Rattle.flat_core.specs.Lawful.{IsAlive, is_free, is_node, is_exporting}
use Rattle.flat_core.specs.Access.{allows_less, is_pending, may_be_exempt, has_not_run}
use Rattle.flat_core.specs.Laws.{holds_memory}
use Rattle.flat_core.proofs.Tests.{tdr_kind}
use Rattle.flat_core.proofs.Maps.{behind_walk}

-- operation states: one of those allowed, where the first one isn't among them
pub begun_of : (allowed : List OpState) (s : OpState) → list_any (λ a. op_number a == op_number op.Uninitialized) allowed ≡ false → list_any (λ a. op_number a == op_number s) allowed ≡ true → s ≢ op.Uninitialized
begun_of allowed s never among e = let no : true ≡ false = sym among ∙ (ap (λ (x : OpState). list_any (λ a. op_number a == op_number x) allowed) e ∙ never) in cc

-- and those of an export
pub live_exporting : (s : OpState) → list_any (λ a. op_number a == op_number s) live_ops ≡ true → is_exporting s ≡ true
live_exporting op.LiveExport h = refl
live_exporting _ h = cc

pub paused_exporting : (s : OpState) → list_any (λ a. op_number a == op_number s) paused_ops ≡ true → is_exporting s ≡ true
paused_exporting op.PausedExport h = refl
paused_exporting _ h = cc

pub abortable_exporting : (s : OpState) → list_any (λ a. op_number a == op_number s) abortable_ops ≡ true → is_exporting s ≡ true
abortable_exporting op.LiveExport h = refl
abortable_exporting op.PausedExport h = refl
abortable_exporting _ h = cc

-- what the beginning of such a row has asked
pub record NamedPassed (w : World) (t gpa level : ℕ) (allowed : List EntryState) (rest : List (Item Reply)) : Type 0 where
  pub root : same_kind (w.pages.kinds t) kind.Tdr ≡ true
  pub life : list_any (λ b. life_number b == life_number (w.tds.lives t)) (life.KeysConfigured ∷ []) ≡ true
  pub built : (length (w.tds.controls t) == 2) ≡ true
  pub op : list_any (λ b. op_number b == op_number (w.tds.ops t)) blocking_ops ≡ true
  pub state : list_any (λ s. same_state s (entry_at w t level gpa).state) allowed ≡ true
  pub rest_holds : Passes rest

pub named_passed : (w : World) (t gpa level : ℕ) (allowed : List EntryState) (rest : List (Item Reply)) → Passes (named_row w t gpa level allowed rest) → NamedPassed w t gpa level allowed rest
named_passed w t gpa level allowed rest ps =
    let behind = behind_walk w t gpa level (state_in w t gpa level allowed ∷ named_page w t gpa level Exclusive ∷ rest) (search) in
    record { root = search; life = search; built = search; op = search; state = behind.0; rest_holds = behind.1 }

pub living : (s : LifeState) → list_any (λ b. life_number b == life_number s) (life.KeysConfigured ∷ []) ≡ true → (life_number s == life_number life.Teardown) ≡ false
living life.KeysConfigured h = refl
living _ h = cc

pub configured : (s : LifeState) → list_any (λ b. life_number b == life_number s) (life.KeysConfigured ∷ []) ≡ true → s ≡ life.KeysConfigured
configured life.KeysConfigured h = refl
configured _ h = cc

-- a TD in which virtual processors run may have run
pub has_run : (s : OpState) → list_any (λ b. op_number b == op_number s) running_ops ≡ true → has_not_run s ≡ false
has_run op.Runnable h = refl
has_run op.LiveExport h = refl
has_run op.LiveImport h = refl
has_run _ h = cc

pub named_alive : (w : World) (t gpa level : ℕ) (allowed : List EntryState) (rest : List (Item Reply)) → NamedPassed w t gpa level allowed rest → IsAlive w.pages w.tds t
named_alive w t gpa level allowed rest p = record { kind = tdr_kind _ p.root; life = living (w.tds.lives t) p.life }

-- what the beginning of a row of an export has asked that changes the state of an entry of level 0
pub record EntryPassed (w : World) (t gpa : ℕ) (ops : List OpState) (allowed : List EntryState) : Type 0 where
  pub root : same_kind (w.pages.kinds t) kind.Tdr ≡ true
  pub life : list_any (λ b. life_number b == life_number (w.tds.lives t)) (life.KeysConfigured ∷ []) ≡ true
  pub built : (length (w.tds.controls t) == 2) ≡ true
  pub op : list_any (λ b. op_number b == op_number (w.tds.ops t)) ops ≡ true
  pub state : list_any (λ s. same_state s (entry_at w t 0 gpa).state) allowed ≡ true

pub write_passed : (m : Machine) (w : World) (t gpa : ℕ) → Passes ((block_write m t gpa).items w) → EntryPassed w t gpa live_ops writable_states
write_passed m w t gpa ps = search

pub entry_alive : (w : World) (t gpa : ℕ) (ops : List OpState) (allowed : List EntryState) → EntryPassed w t gpa ops allowed → IsAlive w.pages w.tds t
entry_alive w t gpa ops allowed p = record { kind = tdr_kind _ p.root; life = living (w.tds.lives t) p.life }

-- a state that becomes another one, of the same level, for the same page
pub record Restates (s s' : EntryState) : Type 0 where
  pub used : is_free s ≡ false
  pub unmarked : is_exported s ≡ false
  pub still_used : is_free s' ≡ false
  pub still_unmarked : is_exported s' ≡ false
  pub same_level : is_node s' ≡ is_node s
  pub same_memory : holds_memory s' ≡ holds_memory s
  pub same_pending : is_pending s' ≡ is_pending s

pub block_restates : (s : EntryState) → list_any (λ a. same_state a s) open_states ≡ true → Restates s (blocked_state s)
block_restates entry.Mapped h = record { used = refl; unmarked = refl; still_used = refl; still_unmarked = refl; same_level = refl; same_memory = refl; same_pending = refl }
block_restates entry.Pending h = record { used = refl; unmarked = refl; still_used = refl; still_unmarked = refl; same_level = refl; same_memory = refl; same_pending = refl }
block_restates entry.NlMapped h = record { used = refl; unmarked = refl; still_used = refl; still_unmarked = refl; same_level = refl; same_memory = refl; same_pending = refl }
block_restates _ h = cc

pub unblock_restates : (s : EntryState) → list_any (λ a. same_state a s) blocked_states ≡ true → Restates s (unblocked_state s)
unblock_restates entry.Blocked h = record { used = refl; unmarked = refl; still_used = refl; still_unmarked = refl; same_level = refl; same_memory = refl; same_pending = refl }
unblock_restates entry.PendingBlocked h = record { used = refl; unmarked = refl; still_used = refl; still_unmarked = refl; same_level = refl; same_memory = refl; same_pending = refl }
unblock_restates entry.NlBlocked h = record { used = refl; unmarked = refl; still_used = refl; still_unmarked = refl; same_level = refl; same_memory = refl; same_pending = refl }
unblock_restates _ h = cc

-- and one that does so, is exported where the first one is, and maps a page that its guest has accepted
pub record Remarks (s s' : EntryState) : Type 0 where
  pub used : is_free s ≡ false
  pub still_used : is_free s' ≡ false
  pub same_level : is_node s' ≡ is_node s
  pub same_marked : is_exported s' ≡ is_exported s
  pub same_memory : holds_memory s' ≡ holds_memory s
  pub same_pending : is_pending s' ≡ is_pending s
  pub leaf : same_state s entry.NlMapped ≡ false

pub write_remarks : (s : EntryState) → list_any (λ a. same_state a s) writable_states ≡ true → Remarks s (write_blocked s)
write_remarks entry.Mapped h = record { used = refl; still_used = refl; same_level = refl; same_marked = refl; same_memory = refl; same_pending = refl; leaf = refl }
write_remarks entry.ExportedDirty h = record { used = refl; still_used = refl; same_level = refl; same_marked = refl; same_memory = refl; same_pending = refl; leaf = refl }
write_remarks _ h = cc

pub write_dirt : (s : EntryState) → list_any (λ a. same_state a s) writable_states ≡ true → is_dirty (write_blocked s) ≡ is_dirty s
write_dirt entry.Mapped h = refl
write_dirt entry.ExportedDirty h = refl
write_dirt _ h = cc

pub unwrite_remarks : (s : EntryState) → list_any (λ a. same_state a s) write_blocked_states ≡ true → Remarks s (write_unblocked s)
unwrite_remarks entry.BlockedW h = record { used = refl; still_used = refl; same_level = refl; same_marked = refl; same_memory = refl; same_pending = refl; leaf = refl }
unwrite_remarks entry.ExportedBlockedW h = record { used = refl; still_used = refl; same_level = refl; same_marked = refl; same_memory = refl; same_pending = refl; leaf = refl }
unwrite_remarks entry.ExportedDirtyBlockedW h = record { used = refl; still_used = refl; same_level = refl; same_marked = refl; same_memory = refl; same_pending = refl; leaf = refl }
unwrite_remarks _ h = cc

pub unwrite_dirt : (s : EntryState) → list_any (λ a. same_state a s) write_blocked_states ≡ true → one_if (is_dirty (write_unblocked s)) ≡ one_if (is_dirty s) + one_if (is_first_dirt s)
unwrite_dirt entry.BlockedW h = refl
unwrite_dirt entry.ExportedBlockedW h = refl
unwrite_dirt entry.ExportedDirtyBlockedW h = refl
unwrite_dirt _ h = cc

-- what is restored maps a private page that its guest has accepted, as what is MAPPED does
pub record IsRestored (s : EntryState) : Type 0 where
  pub used : is_free s ≡ false
  pub same_level : is_node entry.Mapped ≡ is_node s
  pub same_memory : holds_memory entry.Mapped ≡ holds_memory s
  pub same_pending : is_pending entry.Mapped ≡ is_pending s
  pub leaf : same_state s entry.NlMapped ≡ false

pub restored : (s : EntryState) → list_any (λ a. same_state a s) restored_states ≡ true → IsRestored s
restored entry.BlockedW h = record { used = refl; same_level = refl; same_memory = refl; same_pending = refl; leaf = refl }
restored entry.ExportedBlockedW h = record { used = refl; same_level = refl; same_memory = refl; same_pending = refl; leaf = refl }
restored entry.ExportedDirty h = record { used = refl; same_level = refl; same_memory = refl; same_pending = refl; leaf = refl }
restored entry.ExportedDirtyBlockedW h = record { used = refl; same_level = refl; same_memory = refl; same_pending = refl; leaf = refl }
restored _ h = cc

-- what is exported maps such a page too, and stays mapped for reading: by a translation that may write no more, or exempt
pub record IsExportable (s : EntryState) : Type 0 where
  pub used : is_free s ≡ false
  pub same_level : is_node entry.ExportedBlockedW ≡ is_node s
  pub same_memory : holds_memory entry.ExportedBlockedW ≡ holds_memory s
  pub same_pending : is_pending entry.ExportedBlockedW ≡ is_pending s
  pub dirt : is_dirty s ≡ is_exported s
  pub leaf : same_state s entry.NlMapped ≡ false

pub can_export : (o : OpState) (s : EntryState) → list_any (λ a. same_state a s) (exportable o) ≡ true → IsExportable s
can_export op.LiveExport entry.BlockedW h = record { used = refl; same_level = refl; same_memory = refl; same_pending = refl; dirt = refl; leaf = refl }
can_export op.LiveExport entry.ExportedDirtyBlockedW h = record { used = refl; same_level = refl; same_memory = refl; same_pending = refl; dirt = refl; leaf = refl }
can_export op.LiveExport _ h = cc
can_export _ entry.Mapped h = record { used = refl; same_level = refl; same_memory = refl; same_pending = refl; dirt = refl; leaf = refl }
can_export _ entry.BlockedW h = record { used = refl; same_level = refl; same_memory = refl; same_pending = refl; dirt = refl; leaf = refl }
can_export _ entry.ExportedDirty h = record { used = refl; same_level = refl; same_memory = refl; same_pending = refl; dirt = refl; leaf = refl }
can_export _ entry.ExportedDirtyBlockedW h = record { used = refl; same_level = refl; same_memory = refl; same_pending = refl; dirt = refl; leaf = refl }
can_export _ _ h = cc

pub export_allows : (writes : Bool) (o : OpState) (s : EntryState) → list_any (λ a. op_number a == op_number o) abortable_ops ≡ true → list_any (λ a. same_state a s) (exportable o) ≡ true
    → allows_less writes entry.ExportedBlockedW ≡ true → ((allows_less writes s ≡ true) × (s ≢ entry.ExportedBlockedW)) ⊎ (may_be_exempt o ≡ true)
export_allows writes op.LiveExport entry.BlockedW a h less = inl (less, λ e. cc)
export_allows writes op.LiveExport entry.ExportedDirtyBlockedW a h less = inl (less, λ e. cc)
export_allows writes op.LiveExport _ a h less = cc
export_allows writes op.PausedExport s a h less = inr refl
export_allows writes _ s a h less = cc

-- what is mapped allows all; so does what isn't blocked for writing any more
pub mapped_allows : (writes : Bool) → allows_less writes entry.Mapped ≡ false
mapped_allows true = refl
mapped_allows false = refl

dirty_allows : (writes : Bool) → allows_less writes entry.ExportedDirty ≡ false
dirty_allows true = refl
dirty_allows false = refl

pub unblocked_allows : (writes : Bool) (s : EntryState) → list_any (λ a. same_state a s) write_blocked_states ≡ true → allows_less writes (write_unblocked s) ≡ false
unblocked_allows writes entry.BlockedW h = mapped_allows writes
unblocked_allows writes entry.ExportedBlockedW h = dirty_allows writes
unblocked_allows writes entry.ExportedDirtyBlockedW h = dirty_allows writes
unblocked_allows writes _ h = cc

-- what is blocked allows nothing
pub blocked_less : (writes : Bool) (s : EntryState) → list_any (λ a. same_state a s) blocked_states ≡ true → allows_less writes s ≡ true
blocked_less writes entry.Blocked h = refl
blocked_less writes entry.PendingBlocked h = refl
blocked_less writes entry.NlBlocked h = refl
blocked_less writes _ h = cc

pub blocked_stops : (s : EntryState) → list_any (λ a. same_state a s) blocked_states ≡ true → same_state s entry.NlMapped ≡ false
blocked_stops entry.Blocked h = refl
blocked_stops entry.PendingBlocked h = refl
blocked_stops entry.NlBlocked h = refl
blocked_stops _ h = cc

-- what is removed was blocked
pub record IsRemoved (s : EntryState) : Type 0 where
  pub used : is_free s ≡ false
  pub unmarked : is_exported s ≡ false
  pub less : (writes : Bool) → allows_less writes s ≡ true
  pub stops : same_state s entry.NlMapped ≡ false

pub page_removed : (s : EntryState) → list_any (λ a. same_state a s) removed_states ≡ true → IsRemoved s
page_removed entry.Blocked h = record { used = refl; unmarked = refl; less = λ writes. refl; stops = refl }
page_removed entry.PendingBlocked h = record { used = refl; unmarked = refl; less = λ writes. refl; stops = refl }
page_removed _ h = cc

pub sept_removed : (s : EntryState) → list_any (λ a. same_state a s) (entry.NlBlocked ∷ []) ≡ true → IsRemoved s
sept_removed entry.NlBlocked h = record { used = refl; unmarked = refl; less = λ writes. refl; stops = refl }
sept_removed _ h = cc

-- what can be removed is blocked, and maps no further entries
pub removed_blocked : (s : EntryState) → list_any (λ a. same_state a s) removed_states ≡ true → (list_any (λ a. same_state a s) blocked_states ≡ true) × (is_node (unblocked_state s) ≡ false)
removed_blocked entry.Blocked h = (refl, refl)
removed_blocked entry.PendingBlocked h = (refl, refl)
removed_blocked _ h = cc
