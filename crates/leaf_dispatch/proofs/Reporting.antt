-- Facts that are added behind others leave the notes as they are, whose places are among those.
use Rattle.std.proofs.Common.{◌≡◌, ℕ, ◌-◌, ◌<◌, ◌≤◌, List, [], ◌∷◌, ◌++◌, length, get_or, map, Option, Some, None, refl, ap, sym, ◌∙◌, subst, arith}
use Rattle.std.specs.Prelude.{option_map}
use Rattle.std.specs.List.{All}
use Rattle.std.proofs.lemmas.List.Elements.{All-head, All-tail}
use Rattle.std.proofs.lemmas.List.{append-nil, length-append, get_or_append_left, get_or-append_right}
use Rattle.report_core.specs.declared.facts.Facts.{Facts}
use Rattle.flat_core.specs.Processor.{Note, ReportNote}
use Rattle.report_text.specs.declared.guest.GuestNote.{GuestNote}
use Rattle.report_text.specs.declared.guest.GuestNote.TheVariants as note
use Rattle.leaf_engine.specs.Trees.{added}
use Rattle.leaf_dispatch.specs.Guests.{no_facts, facts_at, facts_in, note_seen, notes_in, IsPlaced}

note-kept : (before more : List Facts) (n : GuestNote) → IsPlaced (length before) n → note_seen (before ++ more) n ≡ note_seen before n
note-kept before more (note.Load line gpa word) at = refl
note-kept before more (note.Rtmr line index digest) at = refl
note-kept before more (note.Report line place) at = ap (ReportNote line) (get_or_append_left before more no_facts place at)

pub notes-kept : (before more : List Facts) (ns : List GuestNote) → All (IsPlaced (length before)) ns → map (note_seen (before ++ more)) ns ≡ map (note_seen before) ns
notes-kept before more [] at = refl
notes-kept before more (n ∷ ns) at =
    ap (λ (x : Note). x ∷ map (note_seen (before ++ more)) ns) (note-kept before more n (All-head (IsPlaced (length before)) n ns at))
    ∙ ap (λ (xs : List Note). note_seen before n ∷ xs) (notes-kept before more ns (All-tail (IsPlaced (length before)) n ns at))

-- a turn's notes, by the facts that it reported
pub noted-as : (before after : List Facts) (f : Option Facts) (place : Option ℕ) (old new : List GuestNote) (by : Option Facts → List Note) → after ≡ before ++ facts_in f → option_map (facts_at after) place ≡ f → All (IsPlaced (length before)) old
    → map (note_seen after) new ≡ added (map (note_seen after) old) (by (option_map (facts_at after) place)) → map (note_seen after) new ≡ added (map (note_seen before) old) (by f)
noted-as before after f place old new by is at placed h =
    h ∙ (ap (λ (g : Option Facts). added (map (note_seen after) old) (by g)) at
    ∙ ap (λ (ns : List Note). added ns (by f)) (subst (λ (z : List Facts). map (note_seen z) old ≡ map (note_seen before) old) (sym is) (notes-kept before (facts_in f) old placed)))

-- where facts were added behind so many, and where none were
pub place-some : (before after : List Facts) (f : Option Facts) (count : ℕ) → length before ≡ count → after ≡ before ++ facts_in f → count < length after → Some (facts_at after count) ≡ f
place-some before after None count long is more = (let same = ap length (is ∙ append-nil before) in absurd (omega (arith, same, long, more)))
place-some before after (Some f) count long is more =
    let first : count - count ≡ 0 = omega arith in
    ap Some (ap (λ (z : List Facts). facts_at z count) is ∙ (get_or-append_right before (f ∷ []) count count no_facts long (omega arith) ∙ ap (λ (i : ℕ). get_or (f ∷ []) i no_facts) first))

pub place-none : (before after : List Facts) (f : Option Facts) (count : ℕ) → length before ≡ count → after ≡ before ++ facts_in f → length after ≤ count → None ≡ f
place-none before after None count long is few = refl
place-none before after (Some f) count long is few =
    let more = ap length is ∙ length-append before (f ∷ []) in
    absurd (omega (arith, more, long, few))

-- places among some facts are among more
pub placed-more : (n m : ℕ) (notes : List GuestNote) → n ≤ m → All (IsPlaced n) notes → All (IsPlaced m) notes
placed-more n m notes few placed = λ k d inside. by (get_or notes k d) (placed k d inside)
  where
    by : (x : GuestNote) → IsPlaced n x → IsPlaced m x
    by (note.Load line gpa word) at = tt
    by (note.Rtmr line index digest) at = tt
    by (note.Report line place) at = omega (arith, few, at)

-- how many notes there are doesn't go by the facts
pub notes-long : (n : Option GuestNote) (reports others : List Facts) → length (notes_in reports n) ≡ length (notes_in others n)
notes-long None reports others = refl
notes-long (Some n) reports others = refl

-- the place in what is seen of the facts
pub placed-in : (seen after before : List Facts) (f : Option Facts) (place : Option ℕ) → seen ≡ after → after ≡ before ++ facts_in f → (seen ≡ before ++ facts_in f → option_map (facts_at seen) place ≡ f) → option_map (facts_at after) place ≡ f
placed-in seen after before f place is kept at = subst (λ (z : List Facts). option_map (facts_at z) place ≡ f) is (at (is ∙ kept))
