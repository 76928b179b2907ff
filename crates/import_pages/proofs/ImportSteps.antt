-- What is left of the tree of the import of a page, step by step.
use Rattle.std.proofs.Common.{◌≡◌, ℕ, ◌≤◌, Bool, true, false, List, [], ◌∷◌, ◌++◌, length, Option, Some, None, Ok, Err, refl, ap, sym, ◌∙◌, subst}
use Rattle.td_words.specs.declared.replies.Value.TheVariants as value
use Rattle.td_words.specs.declared.replies.Reply.TheVariants.{Done}
use Rattle.td_words.specs.declared.machines.Machine.{Machine}
use Rattle.flat_core.specs.Inputs.{Input}
use Rattle.leaf_engine.specs.declared.needs.Need.TheVariants as need
use Rattle.leaf_engine.specs.declared.plans.Stop.{Stop}
use Rattle.leaf_engine.specs.Decides.{Wants, need_for, told_then}
use Rattle.leaf_engine.specs.Changes.{Change}
use Rattle.leaf_engine.specs.Trees.{Tree, feed, fed, settle, passed, changes_of}
use Rattle.leaf_engine.proofs.Decided.{feed-append, decided, decided-then, decided-none}
use Rattle.leaf_parts.specs.Parts.{Goes, Feeds}
use Rattle.import_pages.specs.declared.page_imports.Importing.{Importing}
use Rattle.import_pages.specs.PageImportTrees.{arriving, all_words, any_taken, changes_behind, end_where, page_import_asked, page_import_tree}
use Rattle.import_pages.specs.PageImportStages.{for_one, one_changes, one_end, rest_of, HasRoom, IsKnown, IsShown, EndsAs}

-- the end, either way
module _ (words behind : List Change) where
  end-fed : (b : Bool) (xs : List ℕ) → feed (end_where b words behind) xs ≡ end_where b words behind
  end-fed true xs = refl
  end-fed false xs = refl

  end-passed : (b : Bool) → passed (settle (end_where b words behind)) ≡ end_where b words behind
  end-passed true = refl
  end-passed false = refl

  end-gives : (b : Bool) (k : ℕ) → Wants k (settle (end_where b words behind)) (need.Verdict (Done value.Nothing))
  end-gives true k = refl
  end-gives false k = refl

  end-changes : (b : Bool) → changes_of (end_where b words behind) ≡ words ++ behind
  end-changes true = refl
  end-changes false = refl

-- that of a single page
module _ (m : Machine) (x : Input) (t page : ℕ) (y : Importing) where
  abbrev words_of : List Change
  words_of = all_words (arriving x page None) (y.filling ∷ [])

  abbrev behind_of : List Change
  behind_of = changes_behind m.pages t (arriving x page None) y.room (y.filling ∷ [])

  one-fed : (xs : List ℕ) → feed (one_end m x t page y) xs ≡ one_end m x t page y
  one-fed xs = end-fed words_of behind_of (any_taken (y.filling ∷ [])) xs

  one-passed : passed (settle (one_end m x t page y)) ≡ one_end m x t page y
  one-passed = end-passed words_of behind_of (any_taken (y.filling ∷ []))

  one-gives : (k : ℕ) → Wants k (settle (one_end m x t page y)) (need.Verdict (Done value.Nothing))
  one-gives k = end-gives words_of behind_of (any_taken (y.filling ∷ [])) k

  one-changes : changes_of (one_end m x t page y) ≡ one_changes m.pages t x.header.gpa x.words y
  one-changes = end-changes words_of behind_of (any_taken (y.filling ∷ []))

-- by how far it is
module _ (m : Machine) (x : Input) (t slot page : ℕ) (o : Option Importing) (told : List ℕ) where
  abbrev here : Tree
  here = rest_of m x t slot page o told

  abbrev whole : Tree
  whole = page_import_tree m x t slot page None

  -- while the conditions are asked
  module _ (none : o ≡ None) where
    asks : here ≡ feed (page_import_tree m x t slot page None) told
    asks = ap (λ (z : Option Importing). rest_of m x t slot page z told) none

    pub asked-known : IsKnown m t o told → length told ≤ 21
    asked-known known = subst (λ (z : Option Importing). IsKnown m t z told) none known

    -- a condition stops
    module _ (left : List ℕ) (e : Stop) (goes : Goes {A = Importing} m.pages (λ f. page_import_asked m x t slot page None (for_one f)) told left (Err e)) where
      pub stop-gives : Wants m.pages (settle here) (need_for (Err e))
      unfolding page_import_tree
      stop-gives = subst (λ (u : Tree). Wants m.pages (settle u) (need_for (Err e))) (sym asks) (decided m.pages whole told (Err e) (goes (one_end m x t page)))

      pub stop-then : (after : List ℕ) → after ≡ told_then told e → rest_of m x t slot page o after ≡ passed (settle here)
      unfolding page_import_tree
      stop-then after is =
          subst (λ (z : Option Importing). rest_of m x t slot page z after ≡ passed (settle (rest_of m x t slot page z told))) (sym none)
          (ap (feed whole) is ∙ decided-then m.pages whole told e (goes (one_end m x t page)))

      pub stop-ends : EndsAs m x t page here None
      unfolding page_import_tree
      stop-ends = subst (λ (u : Tree). changes_of u ≡ []) (sym asks) (decided-none m.pages whole told e (goes (one_end m x t page)))

    -- all of them hold
    module _ (left : List ℕ) (y : Importing) (shown : Feeds (λ (f : Importing → Tree). page_import_asked m x t slot page None (for_one f)) told left (Ok y)) where
      found : here ≡ one_end m x t page y
      unfolding page_import_tree
      found = asks ∙ (shown (one_end m x t page) ∙ one-fed m x t page y left)

      pub found-gives : Wants m.pages (settle here) (need.Verdict (Done value.Nothing))
      found-gives = subst (λ (u : Tree). Wants m.pages (settle u) (need.Verdict (Done value.Nothing))) (sym found) (one-gives m x t page y m.pages)

      pub found-kept : rest_of m x t slot page (Some y) told ≡ passed (settle here)
      found-kept = subst (λ (u : Tree). one_end m x t page y ≡ passed (settle u)) (sym found) (sym (one-passed m x t page y))

      pub found-ends : IsShown m t y → EndsAs m x t page here (Some y)
      found-ends s = (found, s)

  -- a word is told
  pub room-none : HasRoom o told → o ≡ None
  room-none = by o refl
    where
      by : (z : Option Importing) → o ≡ z → HasRoom o told → o ≡ None
      by None is r = is
      by (Some y) is r = absurd (subst (λ (z : Option Importing). HasRoom z told) is r)

  pub word-told : o ≡ None → (w : ℕ) (after : List ℕ) → after ≡ told ++ w ∷ [] → rest_of m x t slot page o after ≡ fed here w
  word-told none w after is =
      subst (λ (z : Option Importing). rest_of m x t slot page z after ≡ fed (rest_of m x t slot page z told) w) (sym none)
      (ap (feed whole) is ∙ sym (feed-append whole told (w ∷ [])))

  -- once they have passed
  module _ (y : Importing) (some : o ≡ Some y) where
    kept : here ≡ one_end m x t page y
    kept = ap (λ (z : Option Importing). rest_of m x t slot page z told) some

    pub kept-gives : Wants m.pages (settle here) (need.Verdict (Done value.Nothing))
    kept-gives = subst (λ (u : Tree). Wants m.pages (settle u) (need.Verdict (Done value.Nothing))) (sym kept) (one-gives m x t page y m.pages)

    pub kept-passed : here ≡ passed (settle here)
    kept-passed = subst (λ (u : Tree). u ≡ passed (settle u)) (sym kept) (sym (one-passed m x t page y))

    pub kept-ends : IsKnown m t o told → EndsAs m x t page here (Some y)
    kept-ends known = (kept, (subst (λ (z : Option Importing). IsKnown m t z told) some known).0)

-- what its changes are
pub ends-changes : (m : Machine) (x : Input) (t page : ℕ) (rest : Tree) (y : Importing) → EndsAs m x t page rest (Some y) → changes_of rest ≡ one_changes m.pages t x.header.gpa x.words y
ends-changes m x t page rest y ends = ap changes_of ends.0 ∙ one-changes m x t page y
