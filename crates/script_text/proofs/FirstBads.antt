-- The first bad line.
use Rattle.std.proofs.Common.{◌≡◌, ℕ, ◌+◌, ◌^◌, ◌<◌, ◌≤◌, List, [], ◌∷◌, ◌++◌, length, Bool, true, false, not, cond, Option, Some, None, ltb, ◌==◌, Result, Ok, Err, ◌⊎◌, inl, inr, refl, ap, sym, ◌∙◌, subst, arith}
use Rattle.std.proofs.lemmas.List.{length-append, append_assoc}
use Rattle.td_words.specs.declared.calls.Call.{Call}
use Rattle.td_words.specs.declared.machines.Machine.{Machine}
use Rattle.td_words.specs.Seen.{CodeSeen}
use Rattle.line_words.specs.Words.{pieces}
use Rattle.script_text.specs.declared.lines.Block.{Block}
use Rattle.script_text.specs.declared.faults.Reason.TheVariants as reason
use Rattle.script_text.specs.declared.faults.ScriptFault.{ScriptFault}
use Rattle.script_text.specs.declared.faults.ScriptFault.TheVariants.{Bad}
use Rattle.script_text.specs.declared.faults.Reason.{Reason}
use Rattle.script_text.specs.Seen.{ScriptSeen}
use Rattle.script_text.specs.Reading.{SoFar, nothing_yet, line_of, read_from, read_of, then_on, ended_of, script_of}
use Rattle.script_text.specs.Laws.{Good, IsBad, FirstBad, FaultsAreFirst}
use Rattle.script_text.specs.Laws.Good.{none, more}
use Rattle.script_text.proofs.Steps.{some_pieces}

-- a fault from a place on, with what was read before it
record FirstFrom (all : List (List ℕ)) (n : ℕ) (r : Reason) : Type 0 where
  pub front : List (List ℕ)
  pub piece : List ℕ
  pub back : List (List ℕ)
  pub so_far : SoFar
  pub cut : all ≡ front ++ piece ∷ back
  pub number : n ≡ length front + 1
  pub good : Good front so_far
  pub bad : IsBad so_far n piece back r

same_fault : (m n : ℕ) (r q : Reason) → (let x : Result ScriptSeen ScriptFault = Err (Bad m q) in x) ≡ Err (Bad n r) → (m ≡ n) × (q ≡ r)
same_fault m n r q h = (cc, cc)

line_fault : (read : Result SoFar Reason) (m n : ℕ) (r : Reason) (f : SoFar → Result ScriptSeen ScriptFault) → then_on read m f ≡ Err (Bad n r) → ((e : SoFar) × (read ≡ Ok e) × (f e ≡ Err (Bad n r))) ⊎ ((m ≡ n) × (read ≡ Err r))
line_fault (Ok e) m n r f h = inl (e, refl, h)
line_fault (Err q) m n r f h = let s = same_fault m n r q h in inr (s.0, ap Err s.1)

end_option : (m : Option Machine) (b : Option Block) (schedule : List ℕ) (codes : List CodeSeen) (calls : List (List Call)) (k n : ℕ) (r : Reason) → script_of m b schedule codes calls k ≡ Err (Bad n r) → k ≡ n
end_option None b schedule codes calls k n r h = (same_fault k n r reason.Machine h).0
end_option (Some m) (Some b) schedule codes calls k n r h = (same_fault k n r reason.Endless h).0
end_option (Some m) None schedule codes calls k n r h = cc

end_cases : (empty : Bool) (d : SoFar) (k n : ℕ) (r : Reason) → cond (not empty) (Err (Bad k reason.Unterminated)) (script_of d.stage.machine d.stage.block d.schedule d.codes d.calls k) ≡ Err (Bad n r) → k ≡ n
end_cases false d k n r h = (same_fault k n r reason.Unterminated h).0
end_cases true d k n r h = end_option d.stage.machine d.stage.block d.schedule d.codes d.calls k n r h

end_number : (d : SoFar) (k n : ℕ) (piece : List ℕ) (r : Reason) → ended_of d k piece ≡ Err (Bad n r) → k ≡ n
end_number d k n piece r h = end_cases (length piece == 0) d k n r h

nonempty : (x : List ℕ) (xs : List (List ℕ)) → (length (x ∷ xs) == 0) ≡ false
nonempty x xs = grind arith

go_on : (d : SoFar) (n : ℕ) (piece next : List ℕ) (later : List (List ℕ)) → read_from d n (piece ∷ next ∷ later) ≡ then_on (line_of d piece) n (λ e. read_from e (n + 1) (next ∷ later))
go_on d n piece next later = rw (nonempty next later) refl

longer : (front : List (List ℕ)) (line : List ℕ) → length (front ++ line ∷ []) + 1 ≡ length front + 1 + 1
longer front line = simp length-append (omega arith)

-- the pieces that are left have the first bad line
abbrev Rest : List (List ℕ) → Type 0
Rest parts = (front : List (List ℕ)) (d : SoFar) (n : ℕ) (r : Reason) → Good front d → (length parts == 0) ≡ false → read_from d (length front + 1) parts ≡ Err (Bad n r) → FirstFrom (front ++ parts) n r

at_end : (front : List (List ℕ)) (piece : List ℕ) (d : SoFar) (n : ℕ) (r : Reason) → Good front d → ended_of d (length front + 1) piece ≡ Err (Bad n r) → FirstFrom (front ++ piece ∷ []) n r
at_end front piece d n r good h =
    let e : length front + 1 ≡ n = end_number d (length front + 1) n piece r h in
    record { front = front; piece = piece; back = []; so_far = d; cut = refl; number = sym e; good = good; bad = let P : ℕ → Type 0 = λ k. ended_of d k piece ≡ Err (Bad n r) in subst P e h }

in_front : (front : List (List ℕ)) (piece next : List ℕ) (later : List (List ℕ)) (d : SoFar) (n : ℕ) (r : Reason) → Good front d → Rest (next ∷ later)
    → ((e : SoFar) × (line_of d piece ≡ Ok e) × (read_from e (length front + 1 + 1) (next ∷ later) ≡ Err (Bad n r))) ⊎ ((length front + 1 ≡ n) × (line_of d piece ≡ Err r)) → FirstFrom (front ++ piece ∷ next ∷ later) n r
in_front front piece next later d n r good rest (inl (e, is, h)) =
    let P : List (List ℕ) → Type 0 = λ all. FirstFrom all n r in
    let Q : ℕ → Type 0 = λ k. read_from e k (next ∷ later) ≡ Err (Bad n r) in
    subst P (append_assoc front (piece ∷ []) (next ∷ later))
    (rest (front ++ piece ∷ []) e n r (more front d piece e good is) (nonempty next later) (subst Q (sym (longer front piece)) h))
in_front front piece next later d n r good rest (inr (e, is)) =
    record { front = front; piece = piece; back = next ∷ later; so_far = d; cut = refl; number = sym e; good = good; bad = is }

in_rest : (piece : List ℕ) (parts : List (List ℕ)) → Rest parts → Rest (piece ∷ parts)
in_rest piece [] rest = λ front d n r good some h. at_end front piece d n r good h
in_rest piece (next ∷ later) rest = λ front d n r good some h.
    in_front front piece next later d n r good rest (line_fault (line_of d piece) (length front + 1) n r (λ e. read_from e (length front + 1 + 1) (next ∷ later)) (sym (go_on d (length front + 1) piece next later) ∙ h))

all_rest : (parts : List (List ℕ)) → Rest parts
all_rest [] = λ front d n r good some h. cc
all_rest (piece ∷ parts) = in_rest piece parts (all_rest parts)

-- good lines are passed
good_passed : (front : List (List ℕ)) (d : SoFar) → Good front d → (piece : List ℕ) (back : List (List ℕ)) → read_from nothing_yet 1 (front ++ piece ∷ back) ≡ read_from d (length front + 1) (piece ∷ back)
good_passed front d none piece back = refl
good_passed front d (more lines b line e g is) piece back =
    rw (append_assoc, longer lines line) (good_passed lines b g line (piece ∷ back) ∙ go_on b (length lines + 1) line piece back ∙ rw is refl)

pub within : (bytes : List ℕ) → length bytes ≤ 2 ^ 24 → read_of bytes ≡ read_from nothing_yet 1 (pieces bytes)
unfolding read_of
within bytes h = let e : ltb (2 ^ 24) (length bytes) ≡ false = grind arith in rw e refl

too_long : (bytes : List ℕ) → 2 ^ 24 < length bytes → read_of bytes ≡ Err (Bad 0 reason.Length)
unfolding read_of
too_long bytes h = let e : ltb (2 ^ 24) (length bytes) ≡ true = grind arith in rw e refl

bad_found : (d : SoFar) (n : ℕ) (piece : List ℕ) (back : List (List ℕ)) (r : Reason) → IsBad d n piece back r → read_from d n (piece ∷ back) ≡ Err (Bad n r)
bad_found d n piece [] r h = h
bad_found d n piece (next ∷ later) r h = go_on d n piece next later ∙ rw h refl

found_at : (bytes : List ℕ) (n : ℕ) (r : Reason) → length bytes ≤ 2 ^ 24 → FirstBad bytes n r → read_of bytes ≡ Err (Bad n r)
found_at bytes n r h f =
    let P : ℕ → Type 0 = λ k. read_from f.so_far k (f.piece ∷ f.back) ≡ Err (Bad n r) in
    within bytes h
    ∙ rw f.cut (good_passed f.front f.so_far f.good f.piece f.back ∙ subst P f.number (bad_found f.so_far n f.piece f.back r f.bad))

named_at : (bytes : List ℕ) (n : ℕ) (r : Reason) → length bytes ≤ 2 ^ 24 → read_of bytes ≡ Err (Bad n r) → FirstBad bytes n r
named_at bytes n r short h =
    let f : FirstFrom (pieces bytes) n r = all_rest (pieces bytes) [] nothing_yet n r none (some_pieces bytes) (sym (within bytes short) ∙ h) in
    record { front = f.front; piece = f.piece; back = f.back; so_far = f.so_far; cut = f.cut; number = f.number; good = f.good; bad = f.bad }

pub first_bads : FaultsAreFirst
first_bads = record { names = named_at; found = found_at; long = too_long }
