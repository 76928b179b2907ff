-- What the streams of a TD have once a session has begun, and the words that are stored of it.
use Rattle.std.proofs.Common.{◌≡◌, ℕ, ◌+◌, ◌<◌, true, false, ◌==◌, if◌then◌else◌, List, [], ◌∷◌, length, get_or, refl, sym, ◌∙◌, subst, arith}
use Rattle.std.specs.List.{list_any}
use Rattle.std.proofs.lemmas.Bool.{eqb-true, not-true, and_parts}
use Rattle.td_words.specs.Place as place
use Rattle.flat_core.specs.World.{put}
use Rattle.flat_core.specs.Lawful.{all_differ}
use Rattle.flat_core.specs.Sessions.{put_all}
use Rattle.flat_core.proofs.Tests.{by_test, same_self}
use Rattle.word_rules.specs.Lines.{At, in_lines}
use Rattle.word_rules.specs.Cells.{IsAs}
use Rattle.leaf_engine.specs.Changes.{Memory, changed_all}
use Rattle.leaf_parts.proofs.Aside.{turned}
use Rattle.leaf_parts.proofs.Lines.{line}
use Rattle.export_sessions.specs.SessionTrees.{stream_puts, stream_changes}

-- no word of another kind is stored
pub lock-kept : (counter : ℕ) (ps : List ℕ) (mem : Memory) (r : ℕ) → (changed_all (stream_changes counter ps) mem).words (place.Lock r) ≡ mem.words (place.Lock r)
lock-kept counter [] mem r = refl
lock-kept counter (p ∷ ps) mem r = lock-kept 0 ps (changed_all (stream_puts counter p) mem) r

pub pamt-kept : (counter : ℕ) (ps : List ℕ) (mem : Memory) (r : ℕ) → (changed_all (stream_changes counter ps) mem).words (place.Pamt r) ≡ mem.words (place.Pamt r)
pamt-kept counter [] mem r = refl
pamt-kept counter (p ∷ ps) mem r = pamt-kept 0 ps (changed_all (stream_puts counter p) mem) r

pub key-kept : (counter : ℕ) (ps : List ℕ) (mem : Memory) (k : ℕ) → (changed_all (stream_changes counter ps) mem).words (place.Key k) ≡ mem.words (place.Key k)
key-kept counter [] mem k = refl
key-kept counter (p ∷ ps) mem k = key-kept 0 ps (changed_all (stream_puts counter p) mem) k

pub slots-kept : (counter : ℕ) (ps : List ℕ) (mem : Memory) → (changed_all (stream_changes counter ps) mem).slots ≡ mem.slots
slots-kept counter [] mem = refl
slots-kept counter (p ∷ ps) mem = slots-kept 0 ps (changed_all (stream_puts counter p) mem)

-- nor one of another page
pub page-kept-off : (counter : ℕ) (ps : List ℕ) (mem : Memory) (q i : ℕ) → list_any (λ p. p == q) ps ≡ false → (changed_all (stream_changes counter ps) mem).words (place.Word q i) ≡ mem.words (place.Word q i)
page-kept-off counter [] mem q i n = refl
page-kept-off counter (p ∷ ps) mem q i n = by_test (p == q)
    (λ y. absurd (let no : true ≡ false = rw y at n in cc))
    (λ d. page-kept-off 0 ps (changed_all (stream_puts counter p) mem) q i (rw d at n) ∙ rw (turned p q d) refl)

-- the three words of a stream page
page-words : (counter p i : ℕ) (mem : Memory) → IsAs (in_lines (At 0 counter ∷ At 1 0 ∷ At 2 0 ∷ []) i) ((changed_all (stream_puts counter p) mem).words (place.Word p i))
page-words counter p i mem = rw (same_self p) (three counter i (mem.words (place.Word p i)))
  where
    three : (c k v : ℕ) → IsAs (in_lines (At 0 c ∷ At 1 0 ∷ At 2 0 ∷ []) k) (if k == 2 then 0 else if k == 1 then 0 else if k == 0 then c else v)
    three c k v =
        let word : ℕ = if k == 2 then 0 else if k == 1 then 0 else if k == 0 then c else v in
        line 0 k c (At 1 0 ∷ At 2 0 ∷ []) word (λ e. rw e refl)
        (λ a. line 1 k 0 (At 2 0 ∷ []) word (λ e. rw e refl)
        (λ b. line 2 k 0 [] word (λ e. rw e refl) (λ d. tt)))

-- of streams that count nothing yet
none-counted : (ps : List ℕ) (mem : Memory) (q i : ℕ) → list_any (λ p. p == q) ps ≡ true → IsAs (in_lines (At 0 0 ∷ At 1 0 ∷ At 2 0 ∷ []) i) ((changed_all (stream_changes 0 ps) mem).words (place.Word q i))
none-counted [] mem q i h = cc
none-counted (p ∷ ps) mem q i h = by_test (list_any (λ z. z == q) ps)
    (λ y. none-counted ps (changed_all (stream_puts 0 p) mem) q i y)
    (λ n. by_test (p == q)
    (λ y. subst (λ (v : ℕ). IsAs (in_lines (At 0 0 ∷ At 1 0 ∷ At 2 0 ∷ []) i) v) (sym (page-kept-off 0 ps (changed_all (stream_puts 0 p) mem) q i n))
    (subst (λ (z : ℕ). IsAs (in_lines (At 0 0 ∷ At 1 0 ∷ At 2 0 ∷ []) i) ((changed_all (stream_puts 0 p) mem).words (place.Word z i))) (eqb-true p q y) (page-words 0 p i mem)))
    (λ d. absurd (let no : false ≡ true = rw (d, n) at h in cc)))

-- the first one has counted a bundle
abbrev pub counted_first : List ℕ → ℕ → ℕ
counted_first ps q = if get_or ps 0 0 == q then 1 else 0

pub each-stored : (ps : List ℕ) (mem : Memory) (q i counter cleaned first : ℕ) → 0 < length ps → all_differ ps ≡ true → list_any (λ p. p == q) ps ≡ true → counter ≡ counted_first ps q → cleaned ≡ 0 → first ≡ 0
    → IsAs (in_lines (At 0 counter ∷ At 1 cleaned ∷ At 2 first ∷ []) i) ((changed_all (stream_changes 1 ps) mem).words (place.Word q i))
each-stored [] mem q i counter cleaned first few differ h a b c = cc
each-stored (p ∷ ps) mem q i counter cleaned first few differ h a b c = rw (a, b, c) (by_test (p == q)
    (λ y. rw y (subst (λ (v : ℕ). IsAs (in_lines (At 0 1 ∷ At 1 0 ∷ At 2 0 ∷ []) i) v) (sym (page-kept-off 0 ps (changed_all (stream_puts 1 p) mem) q i (alone y)))
    (subst (λ (z : ℕ). IsAs (in_lines (At 0 1 ∷ At 1 0 ∷ At 2 0 ∷ []) i) ((changed_all (stream_puts 1 p) mem).words (place.Word z i))) (eqb-true p q y) (page-words 1 p i mem))))
    (λ n. rw n (none-counted ps (changed_all (stream_puts 1 p) mem) q i (rw n at h))))
  where
    alone : (p == q) ≡ true → list_any (λ z. z == q) ps ≡ false
    alone y = subst (λ (x : ℕ). list_any (λ z. z == x) ps ≡ false) (eqb-true p q y) (not-true _ (and_parts _ _ differ).0)

-- how many bundles each counts: none but the one that begins the session
module _ (f : ℕ → ℕ) where
  abbrev pub counters_now : List ℕ → ℕ → ℕ
  counters_now ps = put (put_all f ps 0) (get_or ps 0 0) (put_all f ps 0 (get_or ps 0 0) + 1)

  pub counted-here : (ps : List ℕ) (q : ℕ) → 0 < length ps → list_any (λ p. p == q) ps ≡ true → counters_now ps q ≡ counted_first ps q
  counted-here [] q few h = cc
  counted-here (p ∷ ps) q few h = by_test (p == q)
      (λ y. subst (λ (z : ℕ). counters_now (p ∷ ps) z ≡ counted_first (p ∷ ps) z) (eqb-true p q y) (rw (same_self p) refl))
      (λ n. rw (turned p q n, h, n) refl)

  pub counted-there : (ps : List ℕ) (q : ℕ) → 0 < length ps → list_any (λ p. p == q) ps ≡ false → counters_now ps q ≡ f q
  counted-there [] q few n = absurd (omega (arith, few))
  counted-there (p ∷ ps) q few n = by_test (p == q)
      (λ y. absurd (let no : true ≡ false = rw y at n in cc))
      (λ d. rw (turned p q d, n) refl)
