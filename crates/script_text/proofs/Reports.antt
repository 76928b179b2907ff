-- How many reports a list has, and whether there is room for one more operation.
use Rattle.std.proofs.Common.{◌≡◌, ℕ, ◌+◌, ◌<◌, ◌≤◌, List, [], ◌∷◌, ◌++◌, Bool, true, false, leb, ◌&&◌, ◌||◌, arith}
use Rattle.std.specs.Prelude.{if◌then◌else◌}
use Rattle.td_words.specs.declared.calls.GuestOp.{GuestOp}
use Rattle.script_text.specs.Blocks.{is_report, reports_in}

-- one more operation is one more report, or none
pub reports_more : (ops : List GuestOp) (g : GuestOp) → reports_in (ops ++ g ∷ []) ≡ reports_in ops + (if is_report g then 1 else 0)
reports_more [] g = omega arith
reports_more (x ∷ xs) g = let rest = reports_more xs g in omega (arith, rest)

pub few_more : (n k : ℕ) (b : Bool) → k ≤ 4 → (leb 256 n || (b && leb 4 k)) ≡ false → (n < 256) × (k + (if b then 1 else 0) ≤ 4)
few_more n k true few e = (grind (arith, e), grind (arith, e))
few_more n k false few e = (grind (arith, e), omega (arith, few))

-- there is room for one more
pub has_room : (n k : ℕ) (b : Bool) → n < 256 → k + (if b then 1 else 0) ≤ 4 → (leb 256 n || (b && leb 4 k)) ≡ false
has_room n k true few room = grind (arith, few, room)
has_room n k false few room = grind (arith, few)
