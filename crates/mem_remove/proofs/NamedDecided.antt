-- The decisions of the beginning of the calls that block, unblock and remove.
use Rattle.std.proofs.Common.{◌≡◌, ℕ, Bool, true, false, List, [], ◌∷◌, Result, Ok, Err, refl, ◌∙◌}
use Rattle.std.specs.Prelude.{MatchResult}
use Rattle.std.specs.List.{list_any}
use Rattle.td_words.specs.declared.names.EntryState.{EntryState}
use Rattle.td_words.specs.declared.names.LockName.TheVariants as name
use Rattle.td_words.specs.declared.names.Mode.TheVariants.{Shared, Exclusive}
use Rattle.td_words.specs.declared.refusals.Status.TheVariants.{EptEntryStateIncorrect}
use Rattle.td_words.specs.declared.replies.Reply.TheVariants.{Refused}
use Rattle.td_words.specs.Address.{lock_at}
use Rattle.td_words.specs.Packing.{Entry}
use Rattle.td_words.specs.Place as place
use Rattle.flat_core.specs.Processor.{OfPage}
use Rattle.flat_core.specs.Tree.{same_state}
use Rattle.leaf_engine.specs.declared.plans.Stop.{Stop}
use Rattle.leaf_engine.specs.declared.plans.Stop.TheVariants as stop
use Rattle.leaf_engine.specs.Trees.{Tree, Lock}
use Rattle.leaf_parts.specs.declared.heads.Td.{Td}
use Rattle.leaf_parts.specs.Parts.{Goes, Feeds}
use Rattle.leaf_parts.proofs.Parts.{goes-stop, passes, refuses, feed-passes}
use Rattle.sept_parts.specs.declared.finds.Found.{Found}
use Rattle.sept_parts.specs.SeptTrees.{tree_lock_tree, find_tree}
use Rattle.mem_remove.specs.declared.named_entries.Named.{Named}
use Rattle.mem_remove.specs.NamedTrees.{epoch_lock_tree, taken_tree, named_tree}

-- the entry's state, and the page that it names
module _ (n : ℕ) (e : Entry) (allowed : List EntryState) (before : List ℕ) where
  abbrev pub among : Bool
  among = list_any (λ s. same_state s e.state) allowed

  abbrev taking : (Unit {0} → Tree) → Tree
  taking k = taken_tree e allowed (k tt)

  abbrev holding : Tree → Tree
  holding k = Lock (OfPage e.page) (place.Lock e.page) Exclusive k

  pub other-state : (after : List ℕ) (s : Stop) (r : Result (Unit {0}) Stop) → r ≡ Err s → among ≡ false → s ≡ stop.Refused (Refused (EptEntryStateIncorrect e.state)) → Goes n taking before after r
  other-state after s r stopped other refused = goes-stop n taking before after r s stopped (λ k. refuses n among (EptEntryStateIncorrect e.state) (holding (k tt)) before s other refused)

  pub its-page : (after : List ℕ) (r : Result (Unit {0}) Stop) → among ≡ true → MatchResult r (λ u. (word : ℕ) × (before ≡ word ∷ after)) (λ s. (before ≡ []) × (s ≡ stop.Lock (name.Page e.page) (lock_at e.page) Exclusive)) → Goes n taking before after r
  its-page after (Ok u) a h = λ k r d. passes n among (EptEntryStateIncorrect e.state) (holding (k tt)) before r a (rw h.1 d)
  its-page after (Err s) a h = λ k. passes n among (EptEntryStateIncorrect e.state) (holding (k tt)) before (Err s) a (rw (h.0, h.1) refl)

  pub its-page-fed : (after : List ℕ) (r : Result (Unit {0}) Stop) → among ≡ true → MatchResult r (λ u. (word : ℕ) × (before ≡ word ∷ after)) (λ s. (before ≡ []) × (s ≡ stop.Lock (name.Page e.page) (lock_at e.page) Exclusive)) → Feeds taking before after r
  its-page-fed after (Ok u) a h = λ k. feed-passes among (EptEntryStateIncorrect e.state) (holding (k tt)) before a ∙ rw h.1 refl
  its-page-fed after (Err s) a h = tt

-- what comes behind each part of the beginning
module _ (n t gpa level : ℕ) (allowed : List EntryState) where
  abbrev pub naming : (Named → Tree) → Tree
  naming k = named_tree n t gpa level allowed k

  abbrev pub behind_find : ℕ → (Named → Tree) → Found → Tree
  behind_find tdcs k f = taken_tree f.entry allowed (k (record { tdcs = tdcs; page = f.page; entry = f.entry }))

  abbrev pub behind_epoch : ℕ → (Named → Tree) → Unit {0} → Tree
  behind_epoch tdcs k u = find_tree n t gpa level (behind_find tdcs k)

  abbrev pub behind_tree : ℕ → (Named → Tree) → Unit {0} → Tree
  behind_tree tdcs k u = epoch_lock_tree t tdcs Shared (behind_epoch tdcs k tt)

  abbrev pub behind_head : (Named → Tree) → Td → Tree
  behind_head k td = tree_lock_tree t td.tdcs Exclusive (behind_tree td.tdcs k tt)
