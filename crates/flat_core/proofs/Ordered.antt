-- In a row the conditions on arguments come before all tries.
use Rattle.std.proofs.Common.{◌≡◌, ℕ, suc, List, [], ◌∷◌, ◌++◌, map, Bool, true}
use Rattle.td_words.specs.declared.refusals.Status.TheVariants.{OperandInvalid, EptWalkFailed}
use Rattle.td_words.specs.declared.replies.Reply.{Reply}
use Rattle.td_words.specs.declared.replies.Reply.TheVariants.{Done, Refused, Exited}
use Rattle.flat_core.specs.Row.{Item, Check, Try}

-- what a condition that comes after j tries may answer: a refusal, and one for an argument before the first
abbrev pub MayAnswer : ℕ → Reply → Type 0
MayAnswer j (Done v) = ⊥
MayAnswer j (Refused (OperandInvalid place)) = j ≡ 0
MayAnswer j (Refused _) = Unit {0}
MayAnswer j (Exited out) = ⊥

abbrev pub IsOrdered : ℕ → List (Item Reply) → Type 0
IsOrdered j [] = Unit {0}
IsOrdered j (Check b r ∷ items) = MayAnswer j r × IsOrdered j items
IsOrdered j (Try l m ∷ items) = IsOrdered (suc j) items

-- the conditions on arguments hold
abbrev pub HoldsFor : Bool → Reply → Type 0
HoldsFor b (Done v) = Unit {0}
HoldsFor b (Refused (OperandInvalid place)) = b ≡ true
HoldsFor b (Refused _) = Unit {0}
HoldsFor b (Exited out) = Unit {0}

abbrev pub ArgumentsHold : List (Item Reply) → Type 0
ArgumentsHold [] = Unit {0}
ArgumentsHold (Check b r ∷ items) = HoldsFor b r × ArgumentsHold items
ArgumentsHold (Try l m ∷ items) = ArgumentsHold items

-- a walk is conditions alone
abbrev pub walk_checks : (ℕ → Bool) → List ℕ → List (Item Reply)
walk_checks b ls = map (λ l. Check (b l) (Refused (EptWalkFailed l))) ls

pub walk_ordered : (j : ℕ) (b : ℕ → Bool) (ls : List ℕ) (items : List (Item Reply)) → IsOrdered j items → IsOrdered j (walk_checks b ls ++ items)
walk_ordered j b [] items h = h
walk_ordered j b (l ∷ ls) items h = (tt, walk_ordered j b ls items h)

pub walk_alone_ordered : (j : ℕ) (b : ℕ → Bool) (ls : List ℕ) → IsOrdered j (walk_checks b ls)
walk_alone_ordered j b [] = tt
walk_alone_ordered j b (l ∷ ls) = (tt, walk_alone_ordered j b ls)

pub walk_holds : (b : ℕ → Bool) (ls : List ℕ) (items : List (Item Reply)) → ArgumentsHold items → ArgumentsHold (walk_checks b ls ++ items)
walk_holds b [] items h = h
walk_holds b (l ∷ ls) items h = (tt, walk_holds b ls items h)

pub walk_alone_holds : (b : ℕ → Bool) (ls : List ℕ) → ArgumentsHold (walk_checks b ls)
walk_alone_holds b [] = tt
walk_alone_holds b (l ∷ ls) = (tt, walk_alone_holds b ls)
