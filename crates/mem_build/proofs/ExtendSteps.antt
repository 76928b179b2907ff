-- What is left of the tree of the call that extends a TD's measurement, step by step.
use Rattle.std.proofs.Common.{◌≡◌, ℕ, zero, suc, ◌+◌, ◌-◌, ◌%◌, ◌<◌, ◌≤◌, Bool, true, false, List, [], ◌∷◌, ◌++◌, length, drop, Option, Some, None, Ok, Err, refl, ap, sym, ◌∙◌, subst, arith, append_assoc, append-nil}
use Rattle.td_words.specs.declared.machines.Machine.{Machine}
use Rattle.td_words.specs.declared.replies.Value.TheVariants as value
use Rattle.td_words.specs.declared.replies.Reply.TheVariants.{Done}
use Rattle.td_words.specs.Address.{word_at}
use Rattle.td_words.specs.Place as place
use Rattle.mrtd_measure.specs.declared.measures.Measure.{Measure}
use Rattle.flat_core.specs.Tree.{word_of_gpa}
use Rattle.word_rules.specs.Rules.{Whole}
use Rattle.word_rules.specs.Views.{look}
use Rattle.leaf_engine.specs.declared.needs.Need.TheVariants as need
use Rattle.leaf_engine.specs.declared.needs.Place.{Place}
use Rattle.leaf_engine.specs.declared.needs.Write.{Write}
use Rattle.leaf_engine.specs.declared.needs.Write.TheVariants as write
use Rattle.leaf_engine.specs.declared.plans.Stop.{Stop}
use Rattle.leaf_engine.specs.Changes.{Hand, Change, Swap, changes_where}
use Rattle.leaf_engine.specs.Decides.{Decides, Wants, IsHand, HandsNext, need_for, told_then}
use Rattle.leaf_engine.specs.Trees.{Tree, Lock, Load, Test, End, Since, feed, fed, settle, passed, changes_of, changes_left}
use Rattle.leaf_engine.proofs.Decided.{feed-append, decided, decided-then}
use Rattle.leaf_parts.specs.Words.{is_hkid}
use Rattle.mem_build.specs.declared.extensions.Chunk.{Chunk}
use Rattle.mem_build.specs.ExtendTrees.{with_chunk, measure_changes, extend_changes, words_tree, measure_tree, chunk_tree, extend_tree, ComesTo}
use Rattle.mem_build.specs.ExtendStages.{rest_of, IsKnown}

-- the words of a page: one more is asked for, or all are told
pub words-ask : (page at left : ℕ) (seen ws : List ℕ) (f : List ℕ → Tree) → length ws < left
    → (k : ℕ → Tree) × (feed (words_tree page at left seen f) ws ≡ Load Whole (place.Word page (at + length ws)) k)
unfolding words_tree
words-ask page at zero seen ws f b = absurd (omega (arith, b))
words-ask page at (suc left) seen [] f b = (let here : at + 0 ≡ at = omega arith in (λ word. words_tree page (at + 1) left (seen ++ word ∷ []) f, rw here refl))
words-ask page at (suc left) seen (w ∷ ws) f b =
    let on = words-ask page (at + 1) left (seen ++ w ∷ []) ws f (omega (arith, b)) in
    let there : at + 1 + length ws ≡ at + suc (length ws) = omega arith in
    (on.0, on.1 ∙ ap (λ (i : ℕ). Load Whole (place.Word page i) on.0) there)

pub words-end : (page at left : ℕ) (seen ws : List ℕ) (f : List ℕ → Tree) → length ws ≡ left → feed (words_tree page at left seen f) ws ≡ feed (f (seen ++ ws)) []
unfolding words_tree
words-end page at zero seen [] f e = ap (λ (xs : List ℕ). feed (f xs) []) (sym (append-nil seen))
words-end page at zero seen (w ∷ ws) f e = cc
words-end page at (suc left) seen [] f e = cc
words-end page at (suc left) seen (w ∷ ws) f e =
    words-end page (at + 1) left (seen ++ w ∷ []) ws f (omega (arith, e)) ∙ ap (λ (xs : List ℕ). feed (f xs) []) (append_assoc seen (w ∷ []) ws)

-- of a chunk, whose words are 32
module _ (m : Machine) (gpa page hkid : ℕ) (words : List ℕ) where
  abbrev rest : Tree
  rest = feed (chunk_tree m gpa page hkid (word_of_gpa gpa) 32 []) words

  chunk-asks : length words < 32 → (k : ℕ → Tree) × (rest ≡ Load Whole (place.Word page (word_of_gpa gpa + length words)) k)
  chunk-asks few = words-ask page (word_of_gpa gpa) 32 [] words (measure_tree m gpa hkid) few

  chunk-ends : length words ≡ 32 → rest ≡ measure_tree m gpa hkid words
  chunk-ends all = words-end page (word_of_gpa gpa) 32 [] words (measure_tree m gpa hkid) all

  pub asks-gives : (n at : ℕ) → length words < 32 → at ≡ word_at page (word_of_gpa gpa + length words) → Wants n (settle rest) (need.Load at)
  asks-gives n at few is = (let a = chunk-asks few in subst (λ (t : Tree). Wants n (settle t) (need.Load at)) (sym a.1) (ap need.Load is))

  pub asks-kept : length words < 32 → rest ≡ passed (settle rest)
  asks-kept few = (let a = chunk-asks few in subst (λ (t : Tree). t ≡ passed (settle t)) (sym a.1) refl)

  pub ends-gives : (n : ℕ) → length words ≡ 32 → Wants n (settle rest) (need.Verdict (Done value.Nothing))
  ends-gives n all = subst (λ (t : Tree). Wants n (settle t) (need.Verdict (Done value.Nothing))) (sym (chunk-ends all)) refl

  pub ends-kept : length words ≡ 32 → rest ≡ passed (settle rest)
  ends-kept all = subst (λ (t : Tree). t ≡ passed (settle t)) (sym (chunk-ends all)) refl

  pub ends-hand : (j k : ℕ) (h h' : Option Measure) (w : Option Write) → length words ≡ 32 → HandsNext m (drop j (extend_changes m gpa hkid words)) (drop k (extend_changes m gpa hkid words)) h h' w → HandsNext m (changes_left rest j) (changes_left rest k) h h' w
  ends-hand j k h h' w all next = subst (λ (t : Tree). HandsNext m (changes_left t j) (changes_left t k) h h' w) (sym (chunk-ends all)) next

  drop-none : (j : ℕ) → drop {A = Change} j [] ≡ []
  drop-none zero = refl
  drop-none (suc j) = refl

  pub asks-none : (j : ℕ) → length words < 32 → changes_left rest j ≡ []
  asks-none j few = (let a = chunk-asks few in subst (λ (t : Tree). changes_left t j ≡ []) (sym a.1) (drop-none j))

-- a tree that changes nothing before it has so many answers
abbrev Bare : Tree → ℕ → Type 0
Bare t zero = Unit {0}
Bare (Lock l q m t) (suc n) = Bare t n
Bare (Load v q k) (suc n) = (x : ℕ) → Bare (k x) n
Bare (Test b r t) (suc n) = Bare t (suc n)
Bare (End r fs cs) (suc n) = fs ++ cs ≡ []
Bare (Since r cs) (suc n) = cs ≡ []

bare : (t : Tree) (n : ℕ) (xs : List ℕ) → Bare t n → length xs < n → changes_of (feed t xs) ≡ []
bare t zero xs h b = absurd (omega (arith, b))
bare (Lock l q m t) (suc n) [] h b = refl
bare (Lock l q m t) (suc n) (x ∷ xs) h b = bare t n xs h (omega (arith, b))
bare (Load v q k) (suc n) [] h b = refl
bare (Load v q k) (suc n) (x ∷ xs) h b = bare (k (look v x)) n xs (h (look v x)) (omega (arith, b))
bare (Test true r t) (suc n) xs h b = bare t (suc n) xs h b
bare (Test false r t) (suc n) xs h b = refl
bare (End r fs cs) (suc n) xs h b = h
bare (Since r cs) (suc n) xs h b = h

chunk-bare : (page at : ℕ) (f : List ℕ → Tree) → Bare (words_tree page at 32 [] f) 1
unfolding words_tree
chunk-bare page at f = λ x. tt

extend-bare : (m : Machine) (t gpa : ℕ) → Bare (extend_tree m t gpa) 16
extend-bare m t gpa = λ pamt life count tdcs op root a b c d hkid. chunk-bare _ _ _

-- by what is known of the chunk
module _ (p : Place) (t gpa : ℕ) (o : Option Chunk) (told words : List ℕ) where
  abbrev left : Tree
  left = rest_of p t gpa o told words

  pub at-chunk : (c : Chunk) → o ≡ Some c → left ≡ feed (chunk_tree p.machine gpa c.page c.hkid (word_of_gpa gpa) 32 []) words
  at-chunk c e = ap (λ (x : Option Chunk). rest_of p t gpa x told words) e

  pub at-conditions : o ≡ None → left ≡ feed (extend_tree p.machine t gpa) told
  at-conditions e = ap (λ (x : Option Chunk). rest_of p t gpa x told words) e

  pub chunk-known : (c : Chunk) → o ≡ Some c → IsKnown p gpa o told words → (c.page < p.machine.pages) × (gpa % 256 ≡ 0) × (length words ≤ 32)
  chunk-known c e known = subst (λ (x : Option Chunk). IsKnown p gpa x told words) e known

  pub conditions-known : o ≡ None → IsKnown p gpa o told words → (words ≡ []) × (length told ≤ 15)
  conditions-known e known = subst (λ (x : Option Chunk). IsKnown p gpa x told words) e known

  -- a word is told
  pub word-told : (c : Chunk) (x : ℕ) (after : List ℕ) → o ≡ Some c → after ≡ words ++ x ∷ [] → rest_of p t gpa o told after ≡ fed left x
  word-told c x after e is =
      subst (λ (y : Option Chunk). rest_of p t gpa y told after ≡ fed (rest_of p t gpa y told words) x) (sym e)
      (rw is (sym (feed-append (chunk_tree p.machine gpa c.page c.hkid (word_of_gpa gpa) 32 []) words (x ∷ []))))

  pub answer-told : (x : ℕ) (after : List ℕ) → o ≡ None → after ≡ told ++ x ∷ [] → rest_of p t gpa o after words ≡ fed left x
  answer-told x after e is =
      subst (λ (y : Option Chunk). rest_of p t gpa y after words ≡ fed (rest_of p t gpa y told words) x) (sym e)
      (rw is (sym (feed-append (extend_tree p.machine t gpa) told (x ∷ []))))

  -- a condition stops it
  module _ (none : o ≡ None) where
    pub stop-gives : (e : Stop) → Decides p.machine.pages (extend_tree p.machine t gpa) told (Err e) → Wants p.machine.pages (settle left) (need_for (Err e))
    stop-gives e d = subst (λ (u : Tree). Wants p.machine.pages (settle u) (need_for (Err e))) (sym (at-conditions none)) (decided p.machine.pages (extend_tree p.machine t gpa) told (Err e) d)

    pub stop-then : (e : Stop) (after : List ℕ) → Decides p.machine.pages (extend_tree p.machine t gpa) told (Err e) → after ≡ told_then told e → rest_of p t gpa o after words ≡ passed (settle left)
    stop-then e after d is =
        subst (λ (y : Option Chunk). rest_of p t gpa y after words ≡ passed (settle (rest_of p t gpa y told words))) (sym none)
        (rw is (decided-then p.machine.pages (extend_tree p.machine t gpa) told e d))

    pub conditions-none : (j : ℕ) → length told ≤ 15 → changes_left left j ≡ []
    conditions-none j few = subst (λ (u : Tree). changes_left u j ≡ []) (sym (at-conditions none))
        (ap (drop j) (bare (extend_tree p.machine t gpa) 16 told (extend-bare p.machine t gpa) (omega (arith, few))) ∙ drop-none p.machine gpa 0 0 [] j)

    -- the conditions hold, and the chunk is known
    module _ (c : Chunk) (after : List ℕ) (known : IsKnown p gpa o told words) (comes : ComesTo p t gpa told after (Ok c)) (uses : length told ≡ 15 + length after) where
      nothing : (xs : List ℕ) → length xs ≡ 0 → xs ≡ []
      nothing [] e = refl
      nothing (x ∷ xs) e = cc

      found : left ≡ feed (chunk_tree p.machine gpa c.page c.hkid (word_of_gpa gpa) 32 []) []
      found =
          let few : length told ≤ 15 = (conditions-known none known).1 in
          at-conditions none ∙ (comes ∙ ap (feed (chunk_tree p.machine gpa c.page c.hkid (word_of_gpa gpa) 32 [])) (nothing after (omega (arith, few, uses))))

      pub found-gives : (at : ℕ) → at ≡ word_at c.page (word_of_gpa gpa + 0) → Wants p.machine.pages (settle left) (need.Load at)
      found-gives at is = subst (λ (u : Tree). Wants p.machine.pages (settle u) (need.Load at)) (sym found) (asks-gives p.machine gpa c.page c.hkid [] p.machine.pages at (omega arith) is)

      pub found-kept : feed (chunk_tree p.machine gpa c.page c.hkid (word_of_gpa gpa) 32 []) words ≡ passed (settle left)
      found-kept =
          ap (feed (chunk_tree p.machine gpa c.page c.hkid (word_of_gpa gpa) 32 [])) (conditions-known none known).0
          ∙ subst (λ (u : Tree). feed (chunk_tree p.machine gpa c.page c.hkid (word_of_gpa gpa) 32 []) [] ≡ passed (settle u)) (sym found) (asks-kept p.machine gpa c.page c.hkid [] (omega arith))

-- the two changes, one after the other
module _ (m : Machine) (gpa hkid slot : ℕ) (words : List ℕ) (is : (is_hkid m hkid ≡ true) × (slot ≡ hkid - 1) × (slot < m.hkids)) (h h' : Option Measure) where
  abbrev Next : ℕ → Type 0
  Next k = HandsNext m (drop k (extend_changes m gpa hkid words)) (drop (k + 1) (extend_changes m gpa hkid words)) h h' (Some (write.Swap slot))

  hands : (k : ℕ) (made : Hand → Hand) → drop k (measure_changes gpa hkid words) ≡ Swap hkid made ∷ drop (k + 1) (measure_changes gpa hkid words) → ((hand : Hand) → IsHand h hand → IsHand h' (made hand)) → Next k
  hands k made e after =
      subst (λ (b : Bool). HandsNext m (drop k (changes_where b (measure_changes gpa hkid words))) (drop (k + 1) (changes_where b (measure_changes gpa hkid words))) h h' (Some (write.Swap slot))) (sym is.0)
      (Swap hkid made, e, is.2, λ hand was. (rw is.1 refl, after hand was))

  pub taken-next : (k : ℕ) → k ≡ 0 → h' ≡ None → Next k
  taken-next k at none = subst Next (sym at) (hands 0 (λ hand. None) refl (λ hand was. subst (λ (x : Option Measure). IsHand x None) (sym none) tt))

  pub put-next : (k : ℕ) → k ≡ 1 → ((hand : Hand) → IsHand h hand → IsHand h' (with_chunk gpa words hand)) → Next k
  put-next k at measured = subst Next (sym at) (hands 1 (with_chunk gpa words) refl measured)
