-- Words still show the state after a step on one lock's word.
use Rattle.std.proofs.Common.{◌≡◌, refl, sym, ◌∙◌, ap, subst, ℕ, Bool, true, false, ◌==◌, List, [], ◌∷◌, length, arith}
use Rattle.std.specs.Prelude.{Option, Some, None, slice_index}
use Rattle.std.proofs.lemmas.Bool.{eq-eqb, eqb-true}
use Rattle.td_words.specs.declared.names.PageKind.{PageKind}
use Rattle.td_words.specs.declared.names.PageKind.TheVariants as kind
use Rattle.td_words.specs.declared.names.Mode.{Mode}
use Rattle.td_words.specs.declared.names.Mode.TheVariants.{Shared, Exclusive}
use Rattle.td_words.specs.declared.machines.Machine.{Machine}
use Rattle.td_words.specs.declared.places.TheConstants.{TDCS_OP_LOCK, TDCS_TREE_LOCK, TDCS_EPOCH_LOCK, TDCS_RTMR_LOCK, KEY_LOCK}
use Rattle.td_words.specs.NameNumber.{life_number}
use Rattle.td_words.specs.Place.{WordPlace, IsIn, same_place}
use Rattle.td_words.specs.Place as place
use Rattle.flat_core.specs.World.{World, Pages}
use Rattle.flat_core.specs.Processor.{LockId, OfPage, OfOp, OfTree, OfEpoch, OfRtmr, OfKeys, Lp}
use Rattle.flat_core.specs.Locks.{same_lock}
use Rattle.flat_core.specs.Lawful.{Lawful, IsPageOf, AreControls}
use Rattle.flat_core.specs.Opening.{Opening}
use Rattle.flat_core.specs.Row.{Move, Attempts, Undoes, Refuses, Succeeds, Releases, Rests}
use Rattle.flat_core.specs.Event.{State, Event, OfCall, OfOperation, Walks, Reaches, Leaves, is_granted, lp_after, event}
use Rattle.flat_core.specs.Laws.{IsQuiet, QuietEventsStay}
use Rattle.flat_core.specs.World.{put}
use Rattle.td_words.proofs.Placed.{same-true}
use Rattle.flat_core.proofs.Tests.{by_test}
use Rattle.word_rules.specs.Lines.{Line, in_lines}
use Rattle.word_rules.specs.Cells.{lock_word, td_lock_lines, tdcs_lines, control_cell, if_stands, key_cell, page_cell, cell_in, IsAs, Shows}
use Rattle.lock_words.specs.LockWords.{tdcs_of, place_of, TdStands, Stands, weight_at, move_adds, move_takes_off, adds, takes_off, move_lock, lock_of, IsNext, put_word, LockStepsShown}
use Rattle.lock_words.proofs.Places.{same-word}
use Rattle.lock_words.proofs.Follow.{lock-words-follow}

-- the word of a lock that stands is shown

pub first-control : (pages : Pages) (t : ℕ) (cs : List ℕ) → AreControls pages t cs → (length cs == 0) ≡ false → IsPageOf pages t (slice_index cs 0) kind.Tdcx
first-control pages t [] a h = cc
first-control pages t (c ∷ []) a h = a
first-control pages t (c ∷ r ∷ []) a h = a.0
first-control pages t (c ∷ r ∷ x ∷ cs) a h = absurd a

pub tdcs-page : (m : Machine) (w : World) (t : ℕ) → Lawful m w → TdStands w t → IsPageOf w.pages t (tdcs_of w t) kind.Tdcx
tdcs-page m w t la st = first-control w.pages t (w.tds.controls t) (la.tds.controls t st.alive) st.has_tdcs

control-first : (w : World) (locks : LockId → ℕ) (t i : ℕ) (cs : List ℕ) → (length cs == 0) ≡ false → control_cell w locks t (slice_index cs 0) cs i ≡ in_lines (td_lock_lines locks t (tdcs_lines w t)) i
control-first w locks t i [] h = cc
control-first w locks t i (c ∷ cs) h = rw (eq-eqb c c refl) refl

of-td : (w : World) (locks : LockId → ℕ) (t c i : ℕ) → w.pages.kinds c ≡ kind.Tdcx → w.pages.owners c ≡ t → (life_number (w.tds.lives t) == 3) ≡ false
    → control_cell w locks t c (w.tds.controls t) i ≡ in_lines (td_lock_lines locks t (tdcs_lines w t)) i → cell_in w locks (place.Word c i) ≡ in_lines (td_lock_lines locks t (tdcs_lines w t)) i
of-td w locks t c i k o l e = rw (k, o, l) e

td-here : (m : Machine) (w : World) (locks : LockId → ℕ) (t i : ℕ) → Lawful m w → TdStands w t → cell_in w locks (place.Word (tdcs_of w t) i) ≡ in_lines (td_lock_lines locks t (tdcs_lines w t)) i
td-here m w locks t i la st =
    let p = tdcs-page m w t la st in
    of-td w locks t (tdcs_of w t) i p.kind p.owner st.alive.life (control-first w locks t i (w.tds.controls t) st.has_tdcs)

here : (m : Machine) (w : World) (locks : LockId → ℕ) (l : LockId) → Lawful m w → Stands w l → cell_in w locks (place_of w l) ≡ Some (locks l)
here m w locks (OfPage p) la st = refl
here m w locks (OfOp t) la st = td-here m w locks t TDCS_OP_LOCK la st
here m w locks (OfTree t) la st = td-here m w locks t TDCS_TREE_LOCK la st
here m w locks (OfEpoch t) la st = td-here m w locks t TDCS_EPOCH_LOCK la st
here m w locks (OfRtmr t) la st = td-here m w locks t TDCS_RTMR_LOCK la st
here m w locks OfKeys la st = refl

-- all other words show what they showed

abbrev Off : (LockId → ℕ) → (LockId → ℕ) → LockId → Type 0
Off a b l = (k : LockId) → same_lock l k ≡ false → b k ≡ a k

record Four (a b : LockId → ℕ) (t i : ℕ) : Type 0 where
  op : (i == TDCS_OP_LOCK) ≡ true → b (OfOp t) ≡ a (OfOp t)
  tree : (i == TDCS_TREE_LOCK) ≡ true → b (OfTree t) ≡ a (OfTree t)
  epoch : (i == TDCS_EPOCH_LOCK) ≡ true → b (OfEpoch t) ≡ a (OfEpoch t)
  rtmr : (i == TDCS_RTMR_LOCK) ≡ true → b (OfRtmr t) ≡ a (OfRtmr t)

lines-same : (a b : LockId → ℕ) (t i : ℕ) (rest : List (Line ℕ)) → Four a b t i → in_lines (td_lock_lines b t rest) i ≡ in_lines (td_lock_lines a t rest) i
lines-same a b t i rest k =
    by_test (i == TDCS_OP_LOCK) (λ y. rw (y, k.op y) refl) (λ n0.
    by_test (i == TDCS_TREE_LOCK) (λ y. rw (n0, y, k.tree y) refl) (λ n1.
    by_test (i == TDCS_EPOCH_LOCK) (λ y. rw (n0, n1, y, k.epoch y) refl) (λ n2.
    by_test (i == TDCS_RTMR_LOCK) (λ y. rw (n0, n1, n2, y, k.rtmr y) refl) (λ n3. rw (n0, n1, n2, n3) refl))))

-- in the TDCS page c of TD t, at another word than that of the lock
four : (w : World) (a b : LockId → ℕ) (l : LockId) (t i c : ℕ) → Off a b l → tdcs_of w t ≡ c → same_place (place.Word c i) (place_of w l) ≡ false → Four a b t i
four w a b l t i c off e ne =
    record {
      op = λ y. by_test (same_lock l (OfOp t)) (λ s. absurd (clash_op l s y ne)) (λ n. off (OfOp t) n);
      tree = λ y. by_test (same_lock l (OfTree t)) (λ s. absurd (clash_tree l s y ne)) (λ n. off (OfTree t) n);
      epoch = λ y. by_test (same_lock l (OfEpoch t)) (λ s. absurd (clash_epoch l s y ne)) (λ n. off (OfEpoch t) n);
      rtmr = λ y. by_test (same_lock l (OfRtmr t)) (λ s. absurd (clash_rtmr l s y ne)) (λ n. off (OfRtmr t) n);
    }
  where
    at_place : (u j : ℕ) → (u == t) ≡ true → (i == j) ≡ true → same_place (place.Word c i) (place.Word (tdcs_of w u) j) ≡ false → ⊥
    at_place u j s y n =
        let is : u ≡ t = eqb-true u t s in
        let at : tdcs_of w u ≡ c = subst (λ (z : ℕ). tdcs_of w z ≡ c) (sym is) e in
        let no : same_place (place.Word c i) (place.Word c j) ≡ false = rw at at n in
        let bad : true ≡ false = sym (same-word c i j y) ∙ no in cc

    clash_op : (l : LockId) → same_lock l (OfOp t) ≡ true → (i == TDCS_OP_LOCK) ≡ true → same_place (place.Word c i) (place_of w l) ≡ false → ⊥
    clash_op (OfOp u) s y n = at_place u TDCS_OP_LOCK s y n
    clash_op _ s y n = cc

    clash_tree : (l : LockId) → same_lock l (OfTree t) ≡ true → (i == TDCS_TREE_LOCK) ≡ true → same_place (place.Word c i) (place_of w l) ≡ false → ⊥
    clash_tree (OfTree u) s y n = at_place u TDCS_TREE_LOCK s y n
    clash_tree _ s y n = cc

    clash_epoch : (l : LockId) → same_lock l (OfEpoch t) ≡ true → (i == TDCS_EPOCH_LOCK) ≡ true → same_place (place.Word c i) (place_of w l) ≡ false → ⊥
    clash_epoch (OfEpoch u) s y n = at_place u TDCS_EPOCH_LOCK s y n
    clash_epoch _ s y n = cc

    clash_rtmr : (l : LockId) → same_lock l (OfRtmr t) ≡ true → (i == TDCS_RTMR_LOCK) ≡ true → same_place (place.Word c i) (place_of w l) ≡ false → ⊥
    clash_rtmr (OfRtmr u) s y n = at_place u TDCS_RTMR_LOCK s y n
    clash_rtmr _ s y n = cc

control-same : (w : World) (a b : LockId → ℕ) (l : LockId) (t p i : ℕ) (cs : List ℕ) → w.tds.controls t ≡ cs → Off a b l → same_place (place.Word p i) (place_of w l) ≡ false → control_cell w b t p cs i ≡ control_cell w a t p cs i
control-same w a b l t p i [] e off ne = refl
control-same w a b l t p i (c ∷ cs) e off ne =
    by_test (c == p)
    (λ y. rw y (lines-same a b t i (tdcs_lines w t) (four w a b l t i p off (ap (λ (z : List ℕ). slice_index z 0) e ∙ eqb-true c p y) ne)))
    (λ n. rw n refl)

word-same : (w : World) (a b : LockId → ℕ) (l : LockId) (t p i : ℕ) (k : PageKind) → Off a b l → same_place (place.Word p i) (place_of w l) ≡ false → page_cell w b t p k i ≡ page_cell w a t p k i
word-same w a b l t p i kind.Tdcx off ne = ap (λ (z : Option ℕ). if_stands (w.tds.lives t) z) (control-same w a b l t p i (w.tds.controls t) refl off ne)
word-same w a b l t p i kind.Nda off ne = refl
word-same w a b l t p i _ off ne = refl

page-same : (w : World) (a b : LockId → ℕ) (l : LockId) (p : ℕ) → Off a b l → same_place (place.Lock p) (place_of w l) ≡ false → b (OfPage p) ≡ a (OfPage p)
page-same w a b (OfPage q) p off ne = off (OfPage p) (by_test (q == p) (λ y. absurd (let e : q ≡ p = eqb-true q p y in let z : (p == q) ≡ true = eq-eqb p q (sym e) in let bad : true ≡ false = sym z ∙ ne in cc)) (λ n. n))
page-same w a b OfKeys p off ne = off (OfPage p) refl
page-same w a b _ p off ne = off (OfPage p) refl

keys-same : (w : World) (a b : LockId → ℕ) (l : LockId) → Off a b l → same_place (place.Key KEY_LOCK) (place_of w l) ≡ false → b OfKeys ≡ a OfKeys
keys-same w a b OfKeys off ne = cc
keys-same w a b (OfPage q) off ne = off OfKeys refl
keys-same w a b _ off ne = off OfKeys refl

key-same : (w : World) (a b : LockId → ℕ) (l : LockId) (k : ℕ) → Off a b l → same_place (place.Key k) (place_of w l) ≡ false → key_cell w (b OfKeys) k ≡ key_cell w (a OfKeys) k
key-same w a b l k off ne =
    by_test (k == KEY_LOCK)
    (λ y. let is : k ≡ KEY_LOCK = eqb-true k KEY_LOCK y in let ne' : same_place (place.Key KEY_LOCK) (place_of w l) ≡ false = rw is at ne in rw (y, keys-same w a b l off ne') refl)
    (λ n. rw n refl)

others-same : (w : World) (a b : LockId → ℕ) (l : LockId) (q : WordPlace) → Off a b l → same_place q (place_of w l) ≡ false → cell_in w b q ≡ cell_in w a q
others-same w a b l (place.Lock p) off ne = ap Some (page-same w a b l p off ne)
others-same w a b l (place.Pamt p) off ne = refl
others-same w a b l (place.Key k) off ne = key-same w a b l k off ne
others-same w a b l (place.Word p i) off ne = word-same w a b l (w.pages.owners p) p i (w.pages.kinds p) off ne

-- one lock's word is stored
shows-lock : (m : Machine) (words : WordPlace → ℕ) (slots : ℕ → Option (List ℕ)) (s : State) (lps : ℕ → Lp) (l : LockId) → Shows m words slots s → Lawful m s.world → Stands s.world l
    → Off (lock_word s.lps s.lp_count) (lock_word lps s.lp_count) l → Shows m (put_word words (place_of s.world l) (lock_word lps s.lp_count l)) slots (record s { lps = lps })
shows-lock m words slots s lps l sh la st off = record {
  word = λ q i. by_test (same_place q (place_of s.world l))
      (λ y. let is : q ≡ place_of s.world l = same-true q (place_of s.world l) y in
      rw (y, is, here m s.world (lock_word lps s.lp_count) l la st) refl)
      (λ n. rw (n, others-same s.world (lock_word s.lps s.lp_count) (lock_word lps s.lp_count) l q off n) (sh.word q i));
  hasher = sh.hasher;
}

-- an event that changes nothing of the world
module _ (stay : QuietEventsStay) where
  changed-lps : (o : Opening) (s : State) (p : ℕ) (e : Event) → IsNext o s p e → IsQuiet e → event o s p ≡ record s { lps = put s.lps p (lp_after s.world (is_granted s e) e (s.lps p)) }
  changed-lps o s p e n q = rw n.next (ap (λ (z : World). let x : State = record { world = z; lps = put s.lps p (lp_after s.world (is_granted s e) e (s.lps p)); lp_count = s.lp_count } in x) (stay e s.world q))

  weight-off : (j l k : LockId) (m : Mode) → j ≡ l → same_lock l k ≡ false → weight_at j k m ≡ 0
  weight-off j l k m e n = rw (e, n) refl

  move-off : (R : Type 0) (move : Move R) (g : Bool) (l k : LockId) → move_lock move ≡ Some l → same_lock l k ≡ false → (move_adds move g k ≡ 0) × (move_takes_off move k ≡ 0)
  move-off R (Attempts j m) true l k e n = let d : j ≡ l = cc in (weight-off j l k m d n, refl)
  move-off R (Attempts j Shared) false l k e n = let d : j ≡ l = cc in (weight-off j l k Shared d n, refl)
  move-off R (Attempts j Exclusive) false l k e n = (refl, refl)
  move-off R (Undoes j) g l k e n = let d : j ≡ l = cc in (refl, weight-off j l k Shared d n)
  move-off R (Releases h) g l k e n = let d : h.lock ≡ l = cc in (refl, weight-off h.lock l k h.mode d n)
  move-off R (Refuses r) g l k e n = cc
  move-off R Succeeds g l k e n = cc
  move-off R Rests g l k e n = cc

  event-off : (e : Event) (g : Bool) (l k : LockId) → lock_of e ≡ Some l → same_lock l k ≡ false → (adds e g k ≡ 0) × (takes_off e k ≡ 0)
  event-off (OfCall row move) g l k e n = move-off _ move g l k e n
  event-off (OfOperation row move) g l k e n = move-off _ move g l k e n
  event-off (Walks access gpa) g l k e n = cc
  event-off (Reaches t v access r gpa page) g l k e n = cc
  event-off (Leaves v out) g l k e n = cc

  move-none : (R : Type 0) (move : Move R) (g : Bool) (k : LockId) → move_lock move ≡ None → (move_adds move g k ≡ 0) × (move_takes_off move k ≡ 0)
  move-none R (Attempts j m) g k e = cc
  move-none R (Undoes j) g k e = cc
  move-none R (Releases h) g k e = cc
  move-none R (Refuses r) g k e = (refl, refl)
  move-none R Succeeds g k e = (refl, refl)
  move-none R Rests g k e = (refl, refl)

  event-none : (e : Event) (g : Bool) (k : LockId) → lock_of e ≡ None → (adds e g k ≡ 0) × (takes_off e k ≡ 0)
  event-none (OfCall row move) g k e = move-none _ move g k e
  event-none (OfOperation row move) g k e = move-none _ move g k e
  event-none (Walks access gpa) g k e = (refl, refl)
  event-none (Reaches t v access r gpa page) g k e = (refl, refl)
  event-none (Leaves v out) g k e = (refl, refl)

  stays : (o : Opening) (s : State) (p : ℕ) (e : Event) (k : LockId) → IsNext o s p e → (adds e (is_granted s e) k ≡ 0) × (takes_off e k ≡ 0) → let s' = event o s p in lock_word s'.lps s'.lp_count k ≡ lock_word s.lps s.lp_count k
  stays o s p e k n z = let f = lock-words-follow.event o s p e n k in let a = z.0 in let b = z.1 in omega (arith, f, a, b)

  step : (m : Machine) (words : WordPlace → ℕ) (slots : ℕ → Option (List ℕ)) (o : Opening) (s : State) (p : ℕ) (e : Event) (l : LockId)
      → Shows m words slots s → Lawful m s.world → IsNext o s p e → IsQuiet e → lock_of e ≡ Some l → Stands s.world l
      → let s' = event o s p in Shows m (put_word words (place_of s.world l) (lock_word s'.lps s'.lp_count l)) slots s'
  step m words slots o s p e l sh la n q is st =
      let lps' : ℕ → Lp = put s.lps p (lp_after s.world (is_granted s e) e (s.lps p)) in
      let path = changed-lps o s p e n q in
      let off : Off (lock_word s.lps s.lp_count) (lock_word lps' s.lp_count) l = λ k ne.
      subst (λ (x : State). lock_word x.lps x.lp_count k ≡ lock_word s.lps s.lp_count k) path (stays o s p e k n (event-off e (is_granted s e) l k is ne)) in
      subst (λ (x : State). Shows m (put_word words (place_of s.world l) (lock_word x.lps x.lp_count l)) slots x) (sym path) (shows-lock m words slots s lps' l sh la st off)

  quiet : (m : Machine) (words : WordPlace → ℕ) (slots : ℕ → Option (List ℕ)) (o : Opening) (s : State) (p : ℕ) (e : Event)
      → Shows m words slots s → IsNext o s p e → IsQuiet e → lock_of e ≡ None → Shows m words slots (event o s p)
  quiet m words slots o s p e sh n q is =
      let lps' : ℕ → Lp = put s.lps p (lp_after s.world (is_granted s e) e (s.lps p)) in
      let path = changed-lps o s p e n q in
      let same : (k : LockId) → lock_word lps' s.lp_count k ≡ lock_word s.lps s.lp_count k = λ k.
      subst (λ (x : State). lock_word x.lps x.lp_count k ≡ lock_word s.lps s.lp_count k) path (stays o s p e k n (event-none e (is_granted s e) k is)) in
      let all : lock_word lps' s.lp_count ≡ lock_word s.lps s.lp_count = λ i k. same k i in
      let after : Shows m words slots (record s { lps = lps' }) = record { word = λ r i. subst (λ (f : LockId → ℕ). IsAs (cell_in s.world f r) (words r)) (sym all) (sh.word r i); hasher = sh.hasher } in
      subst (λ (x : State). Shows m words slots x) (sym path) after

seen : (m : Machine) (words : WordPlace → ℕ) (slots : ℕ → Option (List ℕ)) (s : State) (l : LockId)
    → Shows m words slots s → Lawful m s.world → Stands s.world l → IsIn m (place_of s.world l) → words (place_of s.world l) ≡ lock_word s.lps s.lp_count l
seen m words slots s l sh la st i = subst (λ (z : Option ℕ). IsAs z (words (place_of s.world l))) (here m s.world (lock_word s.lps s.lp_count) l la st) (sh.word (place_of s.world l) i)

pub lock-steps-shown : QuietEventsStay → LockStepsShown
lock-steps-shown stay = record { step = step stay; quiet = quiet stay; seen = seen }
