-- The decision of the call that extends a TD's measurement, up to the words of its chunk.
use Rattle.std.proofs.Common.{◌≡◌, ℕ, ◌%◌, ◌^◌, Bool, true, false, ◌==◌, nat_lt, List, [], ◌∷◌, Result, Ok, Err, refl, ap, sym, ◌∙◌, subst}
use Rattle.std.specs.List.{list_any}
use Rattle.td_words.specs.declared.names.LockName.TheVariants as name
use Rattle.td_words.specs.declared.names.EntryState.TheVariants as entry
use Rattle.td_words.specs.declared.names.Mode.TheVariants.{Shared}
use Rattle.td_words.specs.declared.machines.Machine.{Machine}
use Rattle.td_words.specs.declared.refusals.Status.TheVariants.{OperandInvalid, EptEntryStateIncorrect}
use Rattle.td_words.specs.declared.replies.Reply.TheVariants.{Refused}
use Rattle.td_words.specs.Address.{lock_at}
use Rattle.td_words.specs.Packing.{Entry}
use Rattle.td_words.specs.Place as place
use Rattle.flat_core.specs.Processor.{OfPage}
use Rattle.flat_core.specs.Tree.{same_state}
use Rattle.leaf_engine.specs.declared.plans.Stop.{Stop}
use Rattle.leaf_engine.specs.declared.plans.Stop.TheVariants as stop
use Rattle.leaf_engine.specs.Decides.{Ending, Decides}
use Rattle.leaf_engine.specs.Trees.{Tree, Lock, needs, feed}
use Rattle.leaf_parts.specs.Parts.{Goes, Feeds}
use Rattle.leaf_parts.proofs.Parts.{goes-stop, goes-off, goes-on, passes, refuses, feed-passes}
use Rattle.sept_parts.specs.declared.finds.Found.{Found}
use Rattle.sept_parts.specs.SeptTrees.{tree_lock_tree, find_tree, state_tree}
use Rattle.mem_build.specs.ExtendTrees.{mapped_tree, conditions_tree, extend_tree}

-- the page that is mapped at a GPA
abbrev pub is_mapped : Entry → Bool
is_mapped e = list_any (λ s. same_state s e.state) (entry.Mapped ∷ [])

module _ (n t tdcs gpa : ℕ) (before between : List ℕ) where
  abbrev locking : (Unit {0} → Tree) → Tree
  locking k = tree_lock_tree t tdcs Shared (k tt)

  abbrev finding : (Found → Tree) → Tree
  finding k = find_tree n t gpa 0 k

  abbrev holding : Entry → (ℕ → Tree) → Tree
  holding e k = Lock (OfPage e.page) (place.Lock e.page) Shared (k e.page)

  abbrev checking : Entry → (ℕ → Tree) → Tree
  checking e k = state_tree e (entry.Mapped ∷ []) (holding e k)

  abbrev whole : (ℕ → Tree) → Tree
  whole k = mapped_tree n t tdcs gpa k

  pub unlocked : (after : List ℕ) (e : Stop) (r : Result ℕ Stop) → r ≡ Err e → Goes {A = Unit {0}} n locking before between (Err e) → Goes n whole before after r
  unlocked after e r is h = goes-off n locking (λ (u : Unit {0}) (k : ℕ → Tree). finding (λ f. checking f.entry k)) before between after e r is h

  module _ (u : Unit {0}) (lock : Goes n locking before between (Ok u)) (told : List ℕ) where
    pub unfound : (after : List ℕ) (e : Stop) (r : Result ℕ Stop) → r ≡ Err e → Goes {A = Found} n finding between told (Err e) → Goes n whole before after r
    unfound after e r is h =
        goes-on n locking (λ (v : Unit {0}) (k : ℕ → Tree). finding (λ f. checking f.entry k)) before between after u r lock
        (goes-off n finding (λ (f : Found) (k : ℕ → Tree). checking f.entry k) between told after e r is h)

    module _ (f : Found) (e : Entry) (is : f.entry ≡ e) (found : Goes n finding between told (Ok f)) where
      behind : (k : ℕ → Tree) (r : Result Ending Stop) → Decides n (checking e k) told r → Decides n (whole k) before r
      behind k r d = lock (λ v. finding (λ g. checking g.entry k)) r (found (λ g. checking g.entry k) r (subst (λ (x : Entry). Decides n (checking x k) told r) (sym is) d))

      pub unmapped : (after : List ℕ) (s : Stop) (r : Result ℕ Stop) → r ≡ Err s → is_mapped e ≡ false → s ≡ stop.Refused (Refused (EptEntryStateIncorrect e.state)) → Goes n whole before after r
      unmapped after s r stopped other refused =
          goes-stop n whole before after r s stopped (λ k. behind k (Err s) (refuses n (is_mapped e) (EptEntryStateIncorrect e.state) (holding e k) told s other refused))

      module _ (mapped : is_mapped e ≡ true) where
        pub unheld : (after : List ℕ) (s : Stop) (r : Result ℕ Stop) → r ≡ Err s → told ≡ [] → s ≡ stop.Lock (name.Page e.page) (lock_at e.page) Shared → Goes n whole before after r
        unheld after s r stopped none wants =
            goes-stop n whole before after r s stopped (λ k. behind k (Err s) (passes n (is_mapped e) (EptEntryStateIncorrect e.state) (holding e k) told (Err s) mapped (rw (none, wants) refl)))

        pub held : (word : ℕ) (after : List ℕ) → told ≡ word ∷ after → Goes n whole before after (Ok e.page)
        held word after some = λ k r d. behind k r (passes n (is_mapped e) (EptEntryStateIncorrect e.state) (holding e k) told r mapped (rw some d))

  module _ (u : Unit {0}) (told : List ℕ) (f : Found) (e : Entry) (is : f.entry ≡ e) (lock : Feeds locking before between (Ok u)) (found : Feeds finding between told (Ok f)) where
    pub fed-on : (word : ℕ) (after : List ℕ) → is_mapped e ≡ true → told ≡ word ∷ after → Feeds whole before after (Ok e.page)
    fed-on word after mapped some = λ k.
        lock (λ v. finding (λ g. checking g.entry k))
        ∙ (found (λ g. checking g.entry k)
        ∙ (ap (λ (x : Entry). feed (checking x k) told) is
        ∙ (feed-passes (is_mapped e) (EptEntryStateIncorrect e.state) (holding e k) told mapped
        ∙ rw some refl)))

-- behind the arguments
module _ (n : ℕ) (m : Machine) (tdr gpa : ℕ) (in_one : nat_lt tdr m.pages ≡ true) (in_two : nat_lt gpa (2 ^ 47) ≡ true) (whole : (gpa % 256 == 0) ≡ true) where
  pub argued : (xs : List ℕ) (r : Result Ending Stop) → Decides n (conditions_tree m tdr gpa) xs r → Decides n (extend_tree m tdr gpa) xs r
  argued xs r d =
      passes n (nat_lt tdr m.pages) (OperandInvalid 1) (needs (nat_lt gpa (2 ^ 47)) (OperandInvalid 2) (needs (gpa % 256 == 0) (OperandInvalid 2) (conditions_tree m tdr gpa))) xs r in_one
      (passes n (nat_lt gpa (2 ^ 47)) (OperandInvalid 2) (needs (gpa % 256 == 0) (OperandInvalid 2) (conditions_tree m tdr gpa)) xs r in_two
      (passes n (gpa % 256 == 0) (OperandInvalid 2) (conditions_tree m tdr gpa) xs r whole d))

  pub argued-fed : (xs : List ℕ) → feed (extend_tree m tdr gpa) xs ≡ feed (conditions_tree m tdr gpa) xs
  argued-fed xs =
      feed-passes (nat_lt tdr m.pages) (OperandInvalid 1) (needs (nat_lt gpa (2 ^ 47)) (OperandInvalid 2) (needs (gpa % 256 == 0) (OperandInvalid 2) (conditions_tree m tdr gpa))) xs in_one
      ∙ (feed-passes (nat_lt gpa (2 ^ 47)) (OperandInvalid 2) (needs (gpa % 256 == 0) (OperandInvalid 2) (conditions_tree m tdr gpa)) xs in_two
      ∙ feed-passes (gpa % 256 == 0) (OperandInvalid 2) (conditions_tree m tdr gpa) xs whole)
