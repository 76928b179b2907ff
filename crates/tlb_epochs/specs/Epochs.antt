-- Epochs at which the virtual processors of a TD that are in guest entered (Base Architecture, "TLB Tracking Sequence").
use Rattle.std.specs.Prelude.{ℕ, suc, ◌-◌, ◌≤◌, List, ◌==◌, count_by}

-- TD_EPOCH, or the epoch before
abbrev pub IsNear : (epoch entry : ℕ) → Type 0
IsNear epoch entry = (entry ≤ epoch) × (epoch ≤ suc entry)

-- how many entered at the epoch before TD_EPOCH
abbrev pub entered_before : ℕ → List ℕ → ℕ
entered_before epoch entered = count_by (λ entry. entry == epoch - 1) entered
