-- What is left of the tree of the export of a page, step by step.
use Rattle.std.proofs.Common.{◌≡◌, ℕ, ◌<◌, ◌≤◌, List, [], ◌∷◌, ◌++◌, length, Option, Some, None, Result, Ok, Err, refl, ap, sym, ◌∙◌, subst, arith}
use Rattle.std.specs.Prelude.{MatchResult}
use Rattle.td_words.specs.Address.{word_at}
use Rattle.td_words.specs.declared.replies.Value.TheVariants as value
use Rattle.td_words.specs.declared.replies.Reply.TheVariants.{Done}
use Rattle.leaf_engine.specs.declared.needs.Need.TheVariants as need
use Rattle.leaf_engine.specs.declared.needs.Place.{Place}
use Rattle.leaf_engine.specs.declared.plans.Stop.{Stop}
use Rattle.leaf_engine.specs.declared.plans.Stop.TheVariants as stop
use Rattle.leaf_engine.specs.Decides.{Decides, Wants, need_for, told_then}
use Rattle.leaf_engine.specs.Trees.{Tree, feed, fed, settle, passed, answer_of, changes_of}
use Rattle.leaf_engine.proofs.Decided.{feed-append, decided, decided-then, decided-none}
use Rattle.leaf_parts.specs.Parts.{Goes, Feeds}
use Rattle.stream_parts.proofs.Unmade.{none-made}
use Rattle.export_pages.specs.declared.page_exports.Exporting.{Exporting}
use Rattle.export_pages.specs.PageExportTrees.{page_export_asked, page_export_end, page_words_tree, page_export_tree}
use Rattle.export_pages.specs.PageExportStages.{rest_of, IsKnown, EndsAs}
use Rattle.export_pages.proofs.WordSteps.{words-stop, words-fed}

pub nothing : (xs : List ℕ) → length xs ≡ 0 → xs ≡ []
nothing [] e = refl
nothing (x ∷ xs) e = cc

-- the words of a page, once it is known
module _ (n gpa k slot : ℕ) (x : Exporting) (words : List ℕ) where
  abbrev tree : Tree
  tree = page_words_tree gpa k slot x

  abbrev left : Tree
  left = feed (page_words_tree gpa k slot x) words

  -- one is still to be told
  module _ (few : length words < 512) where
    stops : Decides n tree words (Err (stop.Load (word_at x.page (length words))))
    stops = words-stop n x.page 512 (page_export_end gpa k slot x) words few

    pub word-gives : (at : ℕ) → at ≡ word_at x.page (length words) → Wants n (settle left) (need.Load at)
    word-gives at is = subst (λ (i : ℕ). Wants n (settle left) (need.Load i)) (sym is) (decided n tree words (Err (stop.Load (word_at x.page (length words)))) stops)

    pub word-kept : left ≡ passed (settle left)
    word-kept = decided-then n tree words (stop.Load (word_at x.page (length words))) stops

    pub word-none : (changes_of left ≡ []) × ((answer_of left).bundles ≡ [])
    word-none = (decided-none n tree words (stop.Load (word_at x.page (length words))) stops, none-made n tree words (stop.Load (word_at x.page (length words))) stops)

  -- all are told
  module _ (all : length words ≡ 512) where
    pub all-end : left ≡ page_export_end gpa k slot x words
    all-end = words-fed x.page 0 512 (page_export_end gpa k slot x) words all

    pub all-gives : Wants n (settle left) (need.Verdict (Done value.Nothing))
    all-gives = subst (λ (t : Tree). Wants n (settle t) (need.Verdict (Done value.Nothing))) (sym all-end) refl

    pub all-kept : left ≡ passed (settle left)
    all-kept = subst (λ (t : Tree). t ≡ passed (settle t)) (sym all-end) refl

-- the conditions have shown the page
module _ (p : Place) (t gpa k slot : ℕ) (told after : List ℕ) (x : Exporting) (shown : Feeds (λ (f : Exporting → Tree). page_export_asked p.machine t gpa k f) told after (Ok x)) where
  abbrev whole : Tree
  whole = page_export_tree p.machine t gpa k slot

  found : feed whole told ≡ feed (page_words_tree gpa k slot x) after
  found = shown (page_words_tree gpa k slot)

  module _ (few : length after < 512) where
    pub found-gives : (at : ℕ) → at ≡ word_at x.page (length after) → Wants p.machine.pages (settle (feed whole told)) (need.Load at)
    found-gives at is = subst (λ (u : Tree). Wants p.machine.pages (settle u) (need.Load at)) (sym found) (word-gives p.machine.pages gpa k slot x after few at is)

    pub found-kept : feed (page_words_tree gpa k slot x) after ≡ passed (settle (feed whole told))
    found-kept = subst (λ (u : Tree). feed (page_words_tree gpa k slot x) after ≡ passed (settle u)) (sym found) (word-kept p.machine.pages gpa k slot x after few)

    pub found-none : (changes_of (feed whole told) ≡ []) × ((answer_of (feed whole told)).bundles ≡ [])
    found-none = subst (λ (u : Tree). (changes_of u ≡ []) × ((answer_of u).bundles ≡ [])) (sym found) (word-none p.machine.pages gpa k slot x after few)

-- by what is known of the page
module _ (p : Place) (t gpa k slot : ℕ) (o : Option Exporting) (told words : List ℕ) where
  abbrev here : Tree
  here = rest_of p t gpa k slot o told words

  abbrev pages : ℕ
  pages = p.machine.pages

  -- while the conditions are asked
  module _ (none : o ≡ None) where
    asks : here ≡ feed (page_export_tree p.machine t gpa k slot) told
    asks = ap (λ (y : Option Exporting). rest_of p t gpa k slot y told words) none

    pub asked-known : IsKnown p.machine k o told words → (length told ≤ 26) × (length words ≡ 0)
    asked-known known = subst (λ (y : Option Exporting). IsKnown p.machine k y told words) none known

    pub asked-told : (x : ℕ) (after : List ℕ) → after ≡ told ++ x ∷ [] → rest_of p t gpa k slot o after words ≡ fed here x
    asked-told x after is =
        subst (λ (y : Option Exporting). rest_of p t gpa k slot y after words ≡ fed (rest_of p t gpa k slot y told words) x) (sym none)
        (ap (feed (page_export_tree p.machine t gpa k slot)) is ∙ sym (feed-append (page_export_tree p.machine t gpa k slot) told (x ∷ [])))

    -- a condition stops
    module _ (left : List ℕ) (e : Stop) (goes : Goes {A = Exporting} pages (λ f. page_export_asked p.machine t gpa k f) told left (Err e)) where
      stopped : Decides pages (page_export_tree p.machine t gpa k slot) told (Err e)
      stopped = goes (page_words_tree gpa k slot)

      pub stop-gives : Wants pages (settle here) (need_for (Err e))
      stop-gives = subst (λ (u : Tree). Wants pages (settle u) (need_for (Err e))) (sym asks) (decided pages (page_export_tree p.machine t gpa k slot) told (Err e) stopped)

      pub stop-then : (after : List ℕ) → after ≡ told_then told e → rest_of p t gpa k slot o after words ≡ passed (settle here)
      stop-then after is =
          subst (λ (y : Option Exporting). rest_of p t gpa k slot y after words ≡ passed (settle (rest_of p t gpa k slot y told words))) (sym none)
          (ap (feed (page_export_tree p.machine t gpa k slot)) is ∙ decided-then pages (page_export_tree p.machine t gpa k slot) told e stopped)

      stop-none : (changes_of here ≡ []) × ((answer_of here).bundles ≡ [])
      stop-none = subst (λ (u : Tree). (changes_of u ≡ []) × ((answer_of u).bundles ≡ [])) (sym asks)
          (decided-none pages (page_export_tree p.machine t gpa k slot) told e stopped, none-made pages (page_export_tree p.machine t gpa k slot) told e stopped)

    -- all of them hold
    module _ (left : List ℕ) (x : Exporting) (shown : Feeds (λ (f : Exporting → Tree). page_export_asked p.machine t gpa k f) told left (Ok x)) (few : length left < 512) where
      pub shown-gives : (at : ℕ) → at ≡ word_at x.page (length left) → Wants pages (settle here) (need.Load at)
      shown-gives at is = subst (λ (u : Tree). Wants pages (settle u) (need.Load at)) (sym asks) (found-gives p t gpa k slot told left x shown few at is)

      pub shown-kept : (after : List ℕ) → length words ≡ 0 → after ≡ words ++ left → rest_of p t gpa k slot (Some x) told after ≡ passed (settle here)
      shown-kept after empty is =
          let same : after ≡ left = is ∙ ap (λ (ws : List ℕ). ws ++ left) (nothing words empty) in
          ap (feed (page_words_tree gpa k slot x)) same
          ∙ subst (λ (u : Tree). feed (page_words_tree gpa k slot x) left ≡ passed (settle u)) (sym asks) (found-kept p t gpa k slot told left x shown few)

      shown-none : (changes_of here ≡ []) × ((answer_of here).bundles ≡ [])
      shown-none = subst (λ (u : Tree). (changes_of u ≡ []) × ((answer_of u).bundles ≡ [])) (sym asks) (found-none p t gpa k slot told left x shown few)

    -- so it has made no bundle yet, and changes nothing
    pub none-ends : (left : List ℕ) (r : Result Exporting Stop)
        → Goes pages (λ f. page_export_asked p.machine t gpa k f) told left r → Feeds (λ (f : Exporting → Tree). page_export_asked p.machine t gpa k f) told left r
        → IsKnown p.machine k o told words → MatchResult r (λ x. length left ≤ length told) (λ e. Unit {0}) → EndsAs p gpa k slot words here None
    none-ends left (Ok x) goes feeds known fewer = (let most : length told ≤ 26 = (asked-known known).0 in shown-none left x feeds (omega (arith, most, fewer)))
    none-ends left (Err e) goes feeds known fewer = stop-none left e goes

  -- once the page is known
  module _ (x : Exporting) (some : o ≡ Some x) where
    reads : here ≡ feed (page_words_tree gpa k slot x) words
    reads = ap (λ (y : Option Exporting). rest_of p t gpa k slot y told words) some

    pub page-known : IsKnown p.machine k o told words → IsKnown p.machine k (Some x) told words
    page-known known = subst (λ (y : Option Exporting). IsKnown p.machine k y told words) some known

    pub page-told : (w : ℕ) (after : List ℕ) → after ≡ words ++ w ∷ [] → rest_of p t gpa k slot o told after ≡ fed here w
    page-told w after is =
        subst (λ (y : Option Exporting). rest_of p t gpa k slot y told after ≡ fed (rest_of p t gpa k slot y told words) w) (sym some)
        (ap (feed (page_words_tree gpa k slot x)) is ∙ sym (feed-append (page_words_tree gpa k slot x) words (w ∷ [])))

    -- a word is still to be told
    module _ (few : length words < 512) where
      pub page-gives : (at : ℕ) → at ≡ word_at x.page (length words) → Wants pages (settle here) (need.Load at)
      page-gives at is = subst (λ (u : Tree). Wants pages (settle u) (need.Load at)) (sym reads) (word-gives pages gpa k slot x words few at is)

      pub page-kept : here ≡ passed (settle here)
      page-kept = subst (λ (u : Tree). u ≡ passed (settle u)) (sym reads) (word-kept pages gpa k slot x words few)

      pub page-ends : EndsAs p gpa k slot words here None
      page-ends = subst (λ (u : Tree). (changes_of u ≡ []) × ((answer_of u).bundles ≡ [])) (sym reads) (word-none pages gpa k slot x words few)

    -- all are told
    module _ (known : IsKnown p.machine k o told words) (enough : 512 ≤ length words) where
      all : length words ≡ 512
      all = (let l = page-known known in let most : length words ≤ 512 = l.4 in omega (arith, most, enough))

      pub end-gives : Wants pages (settle here) (need.Verdict (Done value.Nothing))
      end-gives = subst (λ (u : Tree). Wants pages (settle u) (need.Verdict (Done value.Nothing))) (sym reads) (all-gives pages gpa k slot x words all)

      pub end-kept : here ≡ passed (settle here)
      end-kept = subst (λ (u : Tree). u ≡ passed (settle u)) (sym reads) (all-kept pages gpa k slot x words all)

      pub end-ends : EndsAs p gpa k slot words here (Some x)
      end-ends = (let l = page-known known in (reads ∙ all-end pages gpa k slot x words all, l.0, l.1, l.2, l.3))
