-- The decisions of removals behind their arguments.
use Rattle.std.proofs.Common.{◌≡◌, ℕ, ◌%◌, ◌^◌, ◌==◌, ◌&&◌, true, nat_lt, List, Result, ◌∙◌}
use Rattle.std.specs.Prelude.{nat_le}
use Rattle.td_words.specs.declared.machines.Machine.{Machine}
use Rattle.td_words.specs.declared.refusals.Status.TheVariants.{OperandInvalid}
use Rattle.flat_core.specs.Arguments.{level_size}
use Rattle.leaf_engine.specs.declared.plans.Stop.{Stop}
use Rattle.leaf_engine.specs.Trees.{Tree, needs, feed}
use Rattle.leaf_engine.specs.Decides.{Ending, Decides}
use Rattle.leaf_parts.proofs.Parts.{passes, feed-passes}
use Rattle.mem_remove.specs.RemoveTrees.{remove_arguments, sept_remove_arguments}

-- the arguments of MEM.PAGE.REMOVE
pub remove-arguments : (n : ℕ) (m : Machine) (tdr gpa : ℕ) → nat_lt tdr m.pages ≡ true → nat_lt gpa (2 ^ 47) ≡ true → (gpa % level_size 0 == 0) ≡ true
    → (t : Tree) (xs : List ℕ) (r : Result Ending Stop) → Decides n t xs r → Decides n (remove_arguments m tdr gpa t) xs r
remove-arguments n m tdr gpa a b c t xs r h =
    let last : Tree = needs (gpa % level_size 0 == 0) (OperandInvalid 2) t in
    let second : Tree = needs (nat_lt gpa (2 ^ 47)) (OperandInvalid 2) last in
    passes n (nat_lt tdr m.pages) (OperandInvalid 1) second xs r a
    (passes n (nat_lt gpa (2 ^ 47)) (OperandInvalid 2) last xs r b
    (passes n (gpa % level_size 0 == 0) (OperandInvalid 2) t xs r c h))

-- the arguments of MEM.SEPT.REMOVE
module _ (n : ℕ) (m : Machine) (tdr gpa level : ℕ) (a : nat_lt tdr m.pages ≡ true) (b : nat_lt gpa (2 ^ 47) ≡ true) (c : (nat_le 1 level && nat_le level 3) ≡ true) (d : (gpa % level_size level == 0) ≡ true) (t : Tree) (xs : List ℕ) where
  abbrev last : Tree
  last = needs (gpa % level_size level == 0) (OperandInvalid 2) t

  abbrev third : Tree
  third = needs (nat_le 1 level && nat_le level 3) (OperandInvalid 3) last

  abbrev second : Tree
  second = needs (nat_lt gpa (2 ^ 47)) (OperandInvalid 2) third

  pub sept-remove-arguments : (r : Result Ending Stop) → Decides n t xs r → Decides n (sept_remove_arguments m tdr gpa level t) xs r
  sept-remove-arguments r h =
      passes n (nat_lt tdr m.pages) (OperandInvalid 1) second xs r a
      (passes n (nat_lt gpa (2 ^ 47)) (OperandInvalid 2) third xs r b
      (passes n (nat_le 1 level && nat_le level 3) (OperandInvalid 3) last xs r c
      (passes n (gpa % level_size level == 0) (OperandInvalid 2) t xs r d h)))

  pub sept-remove-fed : feed (sept_remove_arguments m tdr gpa level t) xs ≡ feed t xs
  sept-remove-fed =
      feed-passes (nat_lt tdr m.pages) (OperandInvalid 1) second xs a
      ∙ (feed-passes (nat_lt gpa (2 ^ 47)) (OperandInvalid 2) third xs b
      ∙ (feed-passes (nat_le 1 level && nat_le level 3) (OperandInvalid 3) last xs c
      ∙ feed-passes (gpa % level_size level == 0) (OperandInvalid 2) t xs d))
