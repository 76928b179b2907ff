use Rattle.std.proofs.Common.{◌≡◌, ℕ, ◌≤◌, length, drop}
use Rattle.std.specs.List.{position_from}
use Rattle.std.specs.Map.{lookup}
use Rattle.leaf_dispatch.specs.FirstLists.{is_list_of, is_vcpu}
use Rattle.leaf_dispatch.proofs.first_lists.FirstLists.new.Given as goal

abbrev pub invariant-loop-at : goal.invariant-loop-at
invariant-loop-at l = record {
  inside : l.at ≤ length l.codes;
  firsts : (tdr index : ℕ) → lookup (is_vcpu tdr index) l.firsts.entries ≡ position_from (is_list_of tdr index) l.at (drop l.at l.codes);
}

abbrev pub decreases-loop-at : goal.decreases-loop-at
decreases-loop-at l = l.at
