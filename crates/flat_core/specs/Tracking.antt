-- TLB epochs (Base Architecture, "TLB Tracking Sequence"). A block at epoch b is tracked where TD_EPOCH is above b and
-- each virtual processor in guest entered at an epoch above b.
use Rattle.std.specs.Prelude.{ℕ, ◌+◌, ◌-◌, ◌^◌, List, [], ◌∷◌, Option, Some, None, Bool, ◌==◌, ◌&&◌, nat_lt}
use Rattle.std.specs.List.{list_all}
use Rattle.td_words.specs.declared.refusals.Status.TheVariants.{TlbTrackingNotDone, PreviousTlbEpochBusy, CounterLimit}
use Rattle.td_words.specs.declared.names.Counter.TheVariants.{TdEpoch}
use Rattle.td_words.specs.declared.replies.Reply.{Reply}
use Rattle.flat_core.specs.World.{World}
use Rattle.flat_core.specs.Locks.{one_if}
use Rattle.flat_core.specs.Row.{Item, needs}

abbrev pub tracked : ℕ → ℕ → List ℕ → Bool
tracked blocked epoch entered = nat_lt blocked epoch && list_all (λ e. nat_lt blocked e) entered

-- the entry epochs of these virtual processors that are in guest
abbrev pub entry_epochs : (ℕ → Option ℕ) → List ℕ → List ℕ
entry_epochs entered [] = []
entry_epochs entered (v ∷ vs) = with_first (entered v) (entry_epochs entered vs)
  where
    with_first : Option ℕ → List ℕ → List ℕ
    with_first None es = es
    with_first (Some e) es = e ∷ es

-- how many of these entered at that epoch
abbrev pub entered_at : (ℕ → Option ℕ) → ℕ → List ℕ → ℕ
entered_at entered epoch [] = 0
entered_at entered epoch (v ∷ vs) = one_at (entered v) + entered_at entered epoch vs
  where
    one_at : Option ℕ → ℕ
    one_at None = 0
    one_at (Some e) = one_if (e == epoch)

-- the block of a TD's page is tracked
abbrev pub is_tracked : World → ℕ → ℕ → Bool
is_tracked w t p = tracked (w.pages.blocked p) (w.tds.epochs t) (entry_epochs w.vps.entered (w.tds.vps t))

-- a block of the TD at that epoch is
abbrev pub tracked_block : World → (tdr blocked : ℕ) → Item Reply
tracked_block w t blocked = needs (tracked blocked (w.tds.epochs t) (entry_epochs w.vps.entered (w.tds.vps t))) TlbTrackingNotDone

abbrev pub tracked_page : World → ℕ → ℕ → Item Reply
tracked_page w t p = needs (is_tracked w t p) TlbTrackingNotDone

-- TD_EPOCH can rise
abbrev pub epoch_room : World → ℕ → Item Reply
epoch_room w t = needs (nat_lt (w.tds.epochs t) (2 ^ 32 - 1)) (CounterLimit TdEpoch)

-- the count of the previous epoch
abbrev pub previous_count : World → ℕ → ℕ
previous_count w t = entered_at w.vps.entered (w.tds.epochs t - 1) (w.tds.vps t)

abbrev pub previous_epoch_left : World → ℕ → Item Reply
previous_epoch_left w t = needs (previous_count w t == 0) (PreviousTlbEpochBusy (previous_count w t))
