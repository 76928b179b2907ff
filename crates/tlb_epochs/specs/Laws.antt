-- The count of the previous epoch tells whether a block is tracked.
use Rattle.std.specs.Prelude.{◌≡◌, ℕ, Contains, Some}
use Rattle.std.specs.List.{All}
use Rattle.flat_core.specs.World.{World}
use Rattle.flat_core.specs.Tracking.{entry_epochs, previous_count}
use Rattle.tlb_epochs.specs.Epochs.{IsNear, entered_before}

-- each virtual processor of a TD that is in guest entered at TD_EPOCH or at the epoch before
abbrev pub AllNear : World → ℕ → Type 0
AllNear w t = (v entry : ℕ) → Contains (w.tds.vps t) v → w.vps.entered v ≡ Some entry → IsNear (w.tds.epochs t) entry

-- the entry epochs of a TD, and how many of them are of the epoch before
pub record CountsTell : Type 0 where
  pub near : (w : World) (t : ℕ) → AllNear w t → All (IsNear (w.tds.epochs t)) (entry_epochs w.vps.entered (w.tds.vps t))
  pub count : (w : World) (t : ℕ) → entered_before (w.tds.epochs t) (entry_epochs w.vps.entered (w.tds.vps t)) ≡ previous_count w t
