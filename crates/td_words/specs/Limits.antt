-- The limits of a machine.
use Rattle.std.specs.Prelude.{ℕ, ◌≤◌, Bool, nat_le, ◌&&◌}
use Rattle.td_words.specs.declared.machines.Machine.{Machine}

-- a machine within the limits: 1 to 8 logical processors, 8 to 1,024 pages, 1 to 15 HKIDs
pub record IsMachine (m : Machine) : Type 0 where
  pub lps : (1 ≤ m.lps) × (m.lps ≤ 8)
  pub pages : (8 ≤ m.pages) × (m.pages ≤ 1024)
  pub hkids : (1 ≤ m.hkids) × (m.hkids ≤ 15)

-- whether so many processors, pages and HKIDs are within the limits
abbrev pub in_limits : ℕ → ℕ → ℕ → Bool
in_limits lps pages hkids = nat_le 1 lps && nat_le lps 8 && nat_le 8 pages && nat_le pages 1024 && nat_le 1 hkids && nat_le hkids 15
