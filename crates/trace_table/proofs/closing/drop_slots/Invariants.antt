use Rattle.std.proofs.Common.{◌≡◌, ℕ, ◌<◌, false, slice_index_or}
use Rattle.std.specs.Slots.{slots_filled, slots_len}
use Rattle.std.specs.Slots.Ownership.{Filled}
use Rattle.trace_table.proofs.closing.drop_slots.Given as goal

-- the slots up to here are empty
abbrev pub invariant-loop-slot : goal.invariant-loop-slot
invariant-loop-slot l = Filled (slots_filled l.ended.slots) l.slot (slots_len l.ended.slots) × ((k : ℕ) → k < l.slot → slice_index_or (slots_filled l.ended.slots) k false ≡ false) × (l.slot-end ≡ slots_len l.ended.slots)
