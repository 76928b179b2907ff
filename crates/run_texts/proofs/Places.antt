-- Processors by their number, and what changes as one of them has its turn.
use Rattle.std.proofs.Common.{◌≡◌, ◌≢◌, refl, sym, ◌∙◌, ap, ℕ, zero, suc, ◌+◌, ◌<◌, List, [], ◌∷◌, ◌++◌, length, get_or, set, arith}
use Rattle.td_words.specs.Seen.{CodeSeen}
use Rattle.td_words.specs.declared.machines.Machine.{Machine}
use Rattle.td_words.specs.declared.calls.Call.{Call}
use Rattle.flat_core.specs.Opening.{Opening}
use Rattle.flat_core.specs.Event.{calls_of}
use Rattle.leaf_engine.specs.OwnLists.{first_lp}
use Rattle.leaf_table.specs.Given.{Given, given_in, given_of}
use Rattle.leaf_table.specs.Table.{code_in}
use Rattle.leaf_dispatch.specs.States.{seen_of}
use Rattle.leaf_dispatch.specs.declared.states.LpState.{LpState}
use Rattle.run_texts.specs.Replaying.{AreNumbered, AreFirst, seen_at}

pub seen-at : (lps : List LpState) (p : ℕ) (d : LpState) → p < length lps → seen_at lps p ≡ seen_of (get_or lps p d)
seen-at [] p d h = absurd (omega arith)
seen-at (x ∷ xs) zero d h = refl
seen-at (x ∷ xs) (suc p) d h = seen-at xs p d (omega arith)

pub seen-own : (lps : List LpState) (p : ℕ) (s : LpState) → p < length lps → seen_at (set lps p s) p ≡ seen_of s
seen-own [] p s h = absurd (omega arith)
seen-own (x ∷ xs) zero s h = refl
seen-own (x ∷ xs) (suc p) s h = seen-own xs p s (omega arith)

pub seen-other : (lps : List LpState) (p : ℕ) (s : LpState) (q : ℕ) → q ≢ p → seen_at (set lps p s) q ≡ seen_at lps q
seen-other [] p s q ne = refl
seen-other (x ∷ xs) zero s zero ne = absurd (ne refl)
seen-other (x ∷ xs) zero s (suc q) ne = refl
seen-other (x ∷ xs) (suc p) s zero ne = refl
seen-other (x ∷ xs) (suc p) s (suc q) ne = seen-other xs p s q (λ e. ne (ap suc e))

pub place-at : (o : Opening) (n : ℕ) (lps : List LpState) (p : ℕ) (d : LpState) → AreNumbered o n lps → p < length lps → (get_or lps p d).place ≡ record { machine = o.machine; lp = n + p }
place-at o n [] p d h inside = absurd (omega arith)
place-at o n (x ∷ xs) zero d h inside = h.0 ∙ ap (λ (k : ℕ). record { machine = o.machine; lp = k }) (omega arith)
place-at o n (x ∷ xs) (suc p) d h inside = place-at o (suc n) xs p d h.3 (omega arith) ∙ ap (λ (k : ℕ). record { machine = o.machine; lp = k }) (omega arith)

pub given-at : (o : Opening) (n : ℕ) (lps : List LpState) (p : ℕ) (d : LpState) → AreNumbered o n lps → p < length lps → given_in (get_or lps p d).given ≡ given_of o
given-at o n [] p d h inside = absurd (omega arith)
given-at o n (x ∷ xs) zero d h inside = h.1
given-at o n (x ∷ xs) (suc p) d h inside = given-at o (suc n) xs p d h.3 (omega arith)

pub codes-at : (o : Opening) (n : ℕ) (lps : List LpState) (p : ℕ) (d : LpState) → AreNumbered o n lps → p < length lps → code_in (get_or lps p d).codes.now ≡ o.codes
codes-at o n [] p d h inside = absurd (omega arith)
codes-at o n (x ∷ xs) zero d h inside = h.2
codes-at o n (x ∷ xs) (suc p) d h inside = codes-at o (suc n) xs p d h.3 (omega arith)

pub numbered-set : (o : Opening) (n : ℕ) (lps : List LpState) (p : ℕ) (s : LpState) → AreNumbered o n lps → s.place ≡ record { machine = o.machine; lp = n + p } → given_in s.given ≡ given_of o → code_in s.codes.now ≡ o.codes → AreNumbered o n (set lps p s)
numbered-set o n [] p s h e w f = tt
numbered-set o n (x ∷ xs) zero s h e w f = (e ∙ ap (λ (k : ℕ). record { machine = o.machine; lp = k }) (omega arith), w, f, h.3)
numbered-set o n (x ∷ xs) (suc p) s h e w f = (h.0, h.1, h.2, numbered-set o (suc n) xs p s h.3 (e ∙ ap (λ (k : ℕ). record { machine = o.machine; lp = k }) (omega arith)) w f)

-- at the first of their calls

pub first-count : (m : Machine) (given : Given) (codes : List CodeSeen) (n : ℕ) (lps : List LpState) (css : List (List Call)) → AreFirst m given codes n lps css → length lps ≡ length css
first-count m given codes n [] [] h = refl
first-count m given codes n [] (cs ∷ css) h = absurd h
first-count m given codes n (s ∷ ss) [] h = absurd h
first-count m given codes n (s ∷ ss) (cs ∷ css) h = ap suc (first-count m given codes (suc n) ss css h.4)

pub first-numbered : (o : Opening) (given : Given) (codes : List CodeSeen) (n : ℕ) (lps : List LpState) (css : List (List Call)) → given ≡ given_of o → code_in codes ≡ o.codes → AreFirst o.machine given codes n lps css → AreNumbered o n lps
first-numbered o given codes n [] [] w e h = tt
first-numbered o given codes n [] (cs ∷ css) w e h = absurd h
first-numbered o given codes n (s ∷ ss) [] w e h = absurd h
first-numbered o given codes n (s ∷ ss) (cs ∷ css) w e h = (h.0, h.1 ∙ w, ap code_in h.2 ∙ e, first-numbered o given codes (suc n) ss css w e h.4)

pub first-seen : (m : Machine) (given : Given) (codes : List CodeSeen) (n : ℕ) (lps : List LpState) (css : List (List Call)) (p : ℕ) → AreFirst m given codes n lps css → first_lp (calls_of css p) ≡ seen_at lps p
first-seen m given codes n [] [] p h = refl
first-seen m given codes n [] (cs ∷ css) p h = absurd h
first-seen m given codes n (s ∷ ss) [] p h = absurd h
first-seen m given codes n (s ∷ ss) (cs ∷ css) zero h = sym h.3
first-seen m given codes n (s ∷ ss) (cs ∷ css) (suc p) h = first-seen m given codes (suc n) ss css p h.4

-- one more of them
pub first-more : (m : Machine) (given : Given) (codes : List CodeSeen) (n : ℕ) (lps : List LpState) (css : List (List Call)) (s : LpState) (cs : List Call) → AreFirst m given codes n lps css
    → s.place ≡ record { machine = m; lp = n + length lps } → given_in s.given ≡ given → s.codes.now ≡ codes → seen_of s ≡ first_lp cs → AreFirst m given codes n (lps ++ s ∷ []) (css ++ cs ∷ [])
first-more m given codes n [] [] s cs h place same has seen = (place ∙ ap (λ (k : ℕ). record { machine = m; lp = k }) (omega arith), same, has, seen, tt)
first-more m given codes n [] (x ∷ css) s cs h place same has seen = absurd h
first-more m given codes n (x ∷ lps) [] s cs h place same has seen = absurd h
first-more m given codes n (x ∷ lps) (y ∷ css) s cs h place same has seen =
    (h.0, h.1, h.2, h.3, first-more m given codes (suc n) lps css s cs h.4 (place ∙ ap (λ (k : ℕ). record { machine = m; lp = k }) (omega arith)) same has seen)
