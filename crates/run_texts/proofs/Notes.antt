-- A guest's note is told as it was kept.
use Rattle.std.proofs.Common.{lit<, ◌≡◌, refl, sym, ◌∙◌, ap, subst, ℕ, zero, suc, ◌+◌, ◌*◌, ◌<◌, ◌≤◌, List, [], ◌∷◌, ◌++◌, length, get_or, take, drop, slice_get, arith}
use Rattle.std.specs.Int.{w64, to_le_bytes}
use Rattle.std.proofs.lemmas.Nat.{le_bytes_8}
use Rattle.std.proofs.lemmas.List.{length-take-le, length-drop, take-append-drop, drop-drop, drop_all}
use Rattle.flat_core.specs.Digests.{digest_word, digest_bytes, six_words}
use Rattle.flat_core.specs.GuestText.{note_text}
use Rattle.report_core.specs.declared.facts.Facts.{Facts}
use Rattle.report_text.specs.Lines.{rtmr_line, report_line, kept_line, note_line}
use Rattle.report_text.specs.declared.guest.GuestNote.{GuestNote}
use Rattle.report_text.specs.declared.guest.GuestNote.TheVariants as note
use Rattle.leaf_dispatch.specs.Guests.{note_seen, facts_at, IsPlaced}

abbrev AreBytes : List ℕ → Type 0
AreBytes bs = (i : ℕ) → get_or bs i 0 < 256

taken-bytes : (n : ℕ) (bs : List ℕ) → AreBytes bs → AreBytes (take n bs)
taken-bytes zero bs h i = lit< tt
taken-bytes (suc n) [] h i = lit< tt
taken-bytes (suc n) (b ∷ bs) h zero = h 0
taken-bytes (suc n) (b ∷ bs) h (suc i) = taken-bytes n bs (λ j. h (suc j)) i

left-bytes : (n : ℕ) (bs : List ℕ) → AreBytes bs → AreBytes (drop n bs)
left-bytes zero bs h = h
left-bytes (suc n) [] h = λ i. lit< tt
left-bytes (suc n) (b ∷ bs) h = left-bytes n bs (λ j. h (suc j))

-- the bytes of a word, and then those behind it
word-back : (bs : List ℕ) (k : ℕ) → 8 * k + 8 ≤ length bs → AreBytes bs → to_le_bytes w64 (digest_word bs k) ++ drop (8 * k + 8) bs ≡ drop (8 * k) bs
word-back bs k inside small =
    let rest : List ℕ = drop (8 * k) bs in
    let long : 8 ≤ length rest = omega (arith, inside, length-drop (8 * k) bs) in
    ap (λ (x : List ℕ). x ++ drop (8 * k + 8) bs) (le_bytes_8 (take 8 rest) _ (length-take-le 8 rest long) (taken-bytes 8 rest (left-bytes (8 * k) bs small)) refl)
    ∙ (ap (λ (x : List ℕ). take 8 rest ++ x) (sym (drop-drop 8 (8 * k) bs)) ∙ take-append-drop 8 rest)

-- a digest of 48 bytes is that of its six words
digest-back : (bs : List ℕ) → length bs ≡ 48 → AreBytes bs → digest_bytes (six_words (digest_word bs)) ≡ bs
digest-back bs long small =
    let word : ℕ → List ℕ = λ k. to_le_bytes w64 (digest_word bs k) in
    let five : word 5 ++ [] ≡ drop 40 bs = ap (λ (x : List ℕ). word 5 ++ x) (sym (drop_all 48 bs (omega (arith, long)))) ∙ word-back bs 5 (omega (arith, long)) small in
    let four : word 4 ++ (word 5 ++ []) ≡ drop 32 bs = ap (λ (x : List ℕ). word 4 ++ x) five ∙ word-back bs 4 (omega (arith, long)) small in
    let three : word 3 ++ (word 4 ++ (word 5 ++ [])) ≡ drop 24 bs = ap (λ (x : List ℕ). word 3 ++ x) four ∙ word-back bs 3 (omega (arith, long)) small in
    let two : word 2 ++ (word 3 ++ (word 4 ++ (word 5 ++ []))) ≡ drop 16 bs = ap (λ (x : List ℕ). word 2 ++ x) three ∙ word-back bs 2 (omega (arith, long)) small in
    let one : word 1 ++ (word 2 ++ (word 3 ++ (word 4 ++ (word 5 ++ [])))) ≡ drop 8 bs = ap (λ (x : List ℕ). word 1 ++ x) two ∙ word-back bs 1 (omega (arith, long)) small in
    ap (λ (x : List ℕ). word 0 ++ x) one ∙ word-back bs 0 (omega (arith, long)) small

-- each of its bytes is below 256
pub digest-told : (key : List ℕ) (reports : List Facts) (p : ℕ) (n : GuestNote) (line index : ℕ) (digest : List ℕ) → n ≡ note.Rtmr line index digest → length digest ≡ 48 → ((i : ℕ) → get_or digest i 0 < 256)
    → note_line key reports p n ≡ note_text key p (note_seen reports n)
digest-told key reports p n line index digest is long small =
    subst (λ (z : GuestNote). note_line key reports p z ≡ note_text key p (note_seen reports z)) (sym is) (ap (rtmr_line p line index) (sym (digest-back digest long small)))

-- the facts at a place are kept there
kept-there : (key : List ℕ) (p line : ℕ) (reports : List Facts) (place : ℕ) → place < length reports → kept_line key p line (slice_get reports place) ≡ report_line key p line (facts_at reports place)
kept-there key p line [] place inside = absurd (omega (arith, inside))
kept-there key p line (f ∷ fs) zero inside = refl
kept-there key p line (f ∷ fs) (suc place) inside = kept-there key p line fs place (omega (arith, inside))

pub report-told : (key : List ℕ) (reports : List Facts) (p : ℕ) (n : GuestNote) (line place : ℕ) → n ≡ note.Report line place → IsPlaced (length reports) n → note_line key reports p n ≡ note_text key p (note_seen reports n)
report-told key reports p n line place is placed =
    subst (λ (z : GuestNote). note_line key reports p z ≡ note_text key p (note_seen reports z)) (sym is)
    (kept-there key p line reports place (subst (IsPlaced (length reports)) is placed))
