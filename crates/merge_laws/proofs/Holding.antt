-- What processors may do by the locks that they hold, and by their grips.
use Rattle.std.proofs.Common.{◌≡◌, ◌⊎◌, ℕ, Bool, true, false, ◌==◌, ◌&&◌, ◌||◌, List, [], ◌∷◌, ◌++◌, length, Some, refl, ap, sym, ◌∙◌, subst, inl, inr}
use Rattle.std.specs.Prelude.{slice_index}
use Rattle.std.specs.List.{list_any}
use Rattle.std.proofs.lemmas.Bool.{eq-eqb}
use Rattle.td_words.specs.declared.machines.Machine.{Machine}
use Rattle.td_words.specs.declared.names.LockName.{LockName}
use Rattle.td_words.specs.declared.names.LockName.TheVariants as name
use Rattle.td_words.specs.declared.names.PageKind.TheVariants as kind
use Rattle.td_words.specs.declared.places.TheConstants.{TDCS_OP_LOCK, TDCS_TREE_LOCK, TDCS_EPOCH_LOCK, TDCS_RTMR_LOCK}
use Rattle.td_words.specs.declared.replies.Reply.{Reply}
use Rattle.td_words.specs.Place.{WordPlace, Word, IsIn, lock_place}
use Rattle.flat_core.specs.World.{World}
use Rattle.flat_core.specs.Processor.{LockId, OfPage, OfOp, OfTree, OfEpoch, OfRtmr, OfKeys, Held, Lp}
use Rattle.flat_core.specs.Locks.{same_lock, is_alone}
use Rattle.flat_core.specs.Lawful.{Lawful}
use Rattle.flat_core.specs.Row.{Item, Check, Try}
use Rattle.flat_core.specs.Event.{State}
use Rattle.flat_core.proofs.Tests.{by_test}
use Rattle.word_rules.specs.Guards.{Guard, Locked, Reached, Written, Role, Want, Has, Sole, Clear as IsClear, Rule, Grip, Apart, MeetsWant, MeetsAll, Meets}
use Rattle.word_rules.specs.Lines.{in_lines}
use Rattle.word_rules.specs.Rules.{View, TdLock, tries}
use Rattle.word_rules.specs.Spots.{Spot, spot, is_current, is_empty, tdcs_classes, control_class}
use Rattle.word_rules.specs.Views.{look}
use Rattle.word_rules.specs.Permissions.{MayAt, Reads, Sees, Tries, Respects}
use Rattle.lock_words.specs.Grips.{HoldsTdr, holds, operation_locks, locks_of, sole_of, lock_has, lock_grip, grip_with, grip_of}
use Rattle.lock_words.specs.LockWords.{tdcs_of, place_of, TdStands, Stands, TdLocksStay}
use Rattle.lock_words.proofs.Shown.{tdcs-page}
use Rattle.lock_words.proofs.Anchored.{lock_spot}
use Rattle.leaf_engine.specs.Trees.{Tree, Lock, Load, Test, End, Since, has_acted}
use Rattle.leaf_engine.specs.Changes.{Memory, Change, Put, PutHash, Raise, Clear, Copy, Swap, changed}
use Rattle.leaf_engine.specs.Means.{Meaning, OfCall, OfOperation, OfAccess, OfWalk, OfExit, Instant, Work, work_of, hold, grasp_of, MayOweAll, Loads, Means}
use Rattle.leaf_engine.specs.Follows.{granted, Current, NotActed}

-- the grip that locks alone give
abbrev pub bare : List Held → Grip
bare hs = lock_grip hs

-- the locks of a processor, the newest first: of its guest's operation, and of its call
abbrev pub locks_at : Lp → List Held
locks_at lp = operation_locks lp.guest ++ lp.call.held

-- what it has by all of them
abbrev pub lock_grip_of : State → ℕ → Grip
lock_grip_of s p = bare (locks_at (s.lps p))

or-true : (a : Bool) → (a || true) ≡ true
or-true true = refl
or-true false = refl

-- locks that were held before those that are
abbrev pub IsOlder : List Held → List Held → Type 0
IsOlder hs all = (newer : List Held) × (all ≡ newer ++ hs)

pub whole : (hs : List Held) → IsOlder hs hs
whole hs = ([], refl)

-- more locks hold what fewer do
any-left : (f : Held → Bool) (a b : List Held) → list_any f a ≡ true → list_any f (a ++ b) ≡ true
any-left f [] b h = cc
any-left f (x ∷ a) b h = by (f x) (list_any f a) (list_any f (a ++ b)) (any-left f a b) h
  where
    by : (c d e : Bool) → (d ≡ true → e ≡ true) → (c || d) ≡ true → (c || e) ≡ true
    by true d e k h = refl
    by false d e k h = k h

any-right : (f : Held → Bool) (a b : List Held) → list_any f b ≡ true → list_any f (a ++ b) ≡ true
any-right f [] b h = h
any-right f (x ∷ a) b h = rw (any-right f a b h) (or-true (f x))

any-inside : (f : Held → Bool) (c a : List Held) (x : Held) → list_any f (c ++ a) ≡ true → list_any f (c ++ x ∷ a) ≡ true
any-inside f [] a x r = rw r (or-true (f x))
any-inside f (y ∷ c) a x r = more (f y) (list_any f (c ++ a)) (list_any f (c ++ x ∷ a)) (any-inside f c a x) r
  where
    more : (u v w : Bool) → (v ≡ true → w ≡ true) → (u || v) ≡ true → (u || w) ≡ true
    more true v w k q = refl
    more false v w k q = k q

any-swapped : (f : Held → Bool) (a b : List Held) → list_any f (a ++ b) ≡ true → list_any f (b ++ a) ≡ true
any-swapped f [] b h = any-left f b [] h
any-swapped f (x ∷ a) b h = by (f x) refl (any-swapped f a b)
  where
    by : (t : Bool) → f x ≡ t → (list_any f (a ++ b) ≡ true → list_any f (b ++ a) ≡ true) → list_any f (b ++ x ∷ a) ≡ true
    by true e k = any-right f b (x ∷ a) (ap (λ (z : Bool). z || list_any f a) e)
    by false e k = any-inside f b a x (k (ap (λ (z : Bool). z || list_any f (a ++ b)) (sym e) ∙ h))

any-older : (f : Held → Bool) (hs : List Held) (lp : Lp) → IsOlder hs (locks_at lp) → list_any f hs ≡ true → list_any f (locks_of lp) ≡ true
any-older f hs lp older h =
    any-swapped f (operation_locks lp.guest) lp.call.held (subst (λ (z : List Held). list_any f z ≡ true) (sym older.1) (any-right f older.0 hs h))

-- a grip that is part of another
pub record IsPart (g all : Grip) : Type 0 where
  pub has : (x : Guard) → g.has x ≡ true → all.has x ≡ true
  pub sole : (x : Guard) → g.sole x ≡ true → all.sole x ≡ true
  pub clear : (x : Guard) → g.clear x ≡ true → all.clear x ≡ true

pub same-part : (g : Grip) → IsPart g g
same-part g = record { has = λ x y. y; sole = λ x y. y; clear = λ x y. y }

-- parts of grips that are apart are apart
pub parts-apart : (g h all others : Grip) → Apart all others → IsPart g all → IsPart h others → Apart g h
parts-apart g h all others a u v = record {
  there = record { sole = λ x y z. a.there.sole x (u.sole x y) (v.has x z); both = λ x y z. a.there.both x (u.sole x y) (v.sole x z); clear = λ x y z. a.there.clear x (u.clear x y) (v.has x z) };
  back = record { sole = λ x y z. a.back.sole x (v.sole x y) (u.has x z); both = λ x y z. a.back.both x (v.sole x y) (u.sole x z); clear = λ x y z. a.back.clear x (v.clear x y) (u.has x z) };
}

-- what a processor has by locks that it holds, or held before, is part of all that it has
pub older-part : (s : State) (p : ℕ) (hs : List Held) → IsOlder hs (locks_at (s.lps p)) → IsPart (bare hs) (grip_of s p)
older-part s p hs older = record { has = has; sole = sole; clear = λ x y. cc }
  where
    has : (x : Guard) → lock_has hs x ≡ true → (grip_of s p).has x ≡ true
    has (Locked l) y = any-older (λ h. same_lock h.lock l) hs (s.lps p) older y
    has (Reached r) y = cc
    has (Written r) y = cc

    sole : (x : Guard) → sole_of hs x ≡ true → (grip_of s p).sole x ≡ true
    sole (Locked l) y = any-older (λ h. is_alone h.mode && same_lock h.lock l) hs (s.lps p) older y
    sole (Reached r) y = cc
    sole (Written r) y = cc

pub locks-part : (s : State) (p : ℕ) → IsPart (lock_grip_of s p) (grip_of s p)
locks-part s p = older-part s p (locks_at (s.lps p)) (whole (locks_at (s.lps p)))

-- and so is what it has by them and its cached translations
pub with-part : (s : State) (p : ℕ) (hs : List Held) → IsOlder hs (locks_at (s.lps p)) → IsPart (grip_with s p hs) (grip_of s p)
with-part s p hs older = record { has = has; sole = sole; clear = λ x y. y }
  where
    has : (x : Guard) → (grip_with s p hs).has x ≡ true → (grip_of s p).has x ≡ true
    has (Locked l) y = any-older (λ h. same_lock h.lock l) hs (s.lps p) older y
    has (Reached r) y = y
    has (Written r) y = y

    sole : (x : Guard) → sole_of hs x ≡ true → (grip_of s p).sole x ≡ true
    sole (Locked l) y = any-older (λ h. is_alone h.mode && same_lock h.lock l) hs (s.lps p) older y
    sole (Reached r) y = cc
    sole (Written r) y = cc

-- what a leaf acts under is part of what its processor has
pub grasp-part : (k : Meaning) (c : Instant) (hs : List Held) → IsOlder (hs ++ c.kept) (locks_at (c.state.lps c.me)) → IsPart ((work_of k).grasp c hs) (grip_of c.state c.me)
grasp-part (OfCall row) c hs older = older-part c.state c.me (hs ++ c.kept) older
grasp-part (OfOperation t v row) c hs older = with-part c.state c.me (hs ++ c.kept) older
grasp-part (OfAccess t v line access r gpa page) c hs older = with-part c.state c.me (hs ++ c.kept) older
grasp-part (OfWalk t v access gpa level page) c hs older = older-part c.state c.me (hs ++ c.kept) older
grasp-part (OfExit t v out) c hs older = older-part c.state c.me (hs ++ c.kept) older

-- who has its locks and its cached translations has what the locks give
pub hold-grasp : (c : Instant) (hs : List Held) → IsPart (hold c hs) (grasp_of c hs)
hold-grasp c hs = record { has = has; sole = λ x y. y; clear = λ x y. cc }
  where
    has : (x : Guard) → lock_has (hs ++ c.kept) x ≡ true → (grasp_of c hs).has x ≡ true
    has (Locked l) y = y
    has (Reached q) y = cc
    has (Written q) y = cc

-- and so has who acts
pub hold-part : (k : Meaning) (c : Instant) (hs : List Held) → IsPart (hold c hs) ((work_of k).grasp c hs)
hold-part (OfCall row) c hs = same-part (hold c hs)
hold-part (OfOperation t v row) c hs = hold-grasp c hs
hold-part (OfAccess t v line access r gpa page) c hs = hold-grasp c hs
hold-part (OfWalk t v access gpa level page) c hs = same-part (hold c hs)
hold-part (OfExit t v out) c hs = same-part (hold c hs)

-- more of a grip meets what less does
pub part-meets : (g all : Grip) (at : Role → Guard) (r : Rule) → IsPart g all → Meets g at r → Meets all at r
part-meets g all at [] u m = absurd m
part-meets g all at (ws ∷ r) u (inl m) = inl (each ws m)
  where
    one : (w : Want) → MeetsWant g at w → MeetsWant all at w
    one (Has x) m = u.has (at x) m
    one (Sole x) m = u.sole (at x) m
    one (IsClear x) m = u.clear (at x) m

    each : (ws : List Want) → MeetsAll g at ws → MeetsAll all at ws
    each [] m = tt
    each (w ∷ ws) m = (one w m.0, each ws m.1)
part-meets g all at (ws ∷ r) u (inr m) = inr (part-meets g all at r u m)

pub part-owes : (m : Machine) (g all : Grip) (w : World) (mem : Memory) (cs : List Change) → IsPart g all → MayOweAll m g w mem cs → MayOweAll m all w mem cs
part-owes m g all w mem [] u may = tt
part-owes m g all w mem (Put q x ∷ cs) u may = ((may.0.0, (may.0.1.0, part-meets g all _ _ u may.0.1.1, may.0.1.2)), part-owes m g all w (changed (Put q x) mem) cs u may.1)
part-owes m g all w mem (PutHash q x ∷ cs) u may = ((may.0.0, part-meets g all _ _ u may.0.1), part-owes m g all w (changed (PutHash q x) mem) cs u may.1)
part-owes m g all w mem (Raise q more ∷ cs) u may = absurd may.0
part-owes m g all w mem (Clear p ∷ cs) u may = ((may.0.0, λ i l. part-meets g all _ _ u (may.0.1 i l)), part-owes m g all w (changed (Clear p) mem) cs u may.1)
part-owes m g all w mem (Copy p q ∷ cs) u may = absurd may.0
part-owes m g all w mem (Swap h made ∷ cs) u may = ((may.0.0, part-meets g all _ _ u may.0.1), part-owes m g all w (changed (Swap h made) mem) cs u may.1)

pub turned-round : (g h : Grip) → Apart g h → Apart h g
turned-round g h a = record { there = a.back; back = a.there }

-- the words of a TD's locks are its, in its TDCS page

first-class : (w : World) (t i : ℕ) (cs : List ℕ) → (length cs == 0) ≡ false → in_lines (tdcs_classes (is_current w t) (is_empty w t)) i ≡ Some TdLock
    → control_class w t (slice_index cs 0) cs i ≡ TdLock
first-class w t i [] h e = cc
first-class w t i (c ∷ cs) h e = rw (eq-eqb c c refl, e) refl

lock-at : (w : World) (t c i : ℕ) → w.pages.kinds c ≡ kind.Tdcx → w.pages.owners c ≡ t → control_class w t c (w.tds.controls t) i ≡ TdLock → spot w (Word c i) ≡ lock_spot t c
lock-at w t c i k o e = rw (k, o, e) refl

td-lock : (m : Machine) (w : World) (t i : ℕ) → Lawful m w → TdStands w t → in_lines (tdcs_classes (is_current w t) (is_empty w t)) i ≡ Some TdLock
    → spot w (Word (tdcs_of w t) i) ≡ lock_spot t (tdcs_of w t)
td-lock m w t i lawful st e =
    let p = tdcs-page m w t lawful st in lock-at w t (tdcs_of w t) i p.kind p.owner (first-class w t i (w.tds.controls t) st.has_tdcs e)

-- so a step on one is allowed where P of its TDR page is held

held-tries : (hs : List Held) (t c : ℕ) (s : Spot) → s ≡ lock_spot t c → holds hs (OfPage t) ≡ true → MayAt (bare hs) s tries
held-tries hs t c s e h = subst (λ (z : Spot). MayAt (bare hs) z tries) (sym e) (inl (h, tt))

pub may-try : (m : Machine) (w : World) (hs : List Held) (l : LockId) → Lawful m w → Stands w l → HoldsTdr hs l → Tries (bare hs) w (place_of w l)
may-try m w hs (OfPage p) lawful st h = inl tt
may-try m w hs (OfOp t) lawful st h = held-tries hs t (tdcs_of w t) _ (td-lock m w t TDCS_OP_LOCK lawful st refl) h
may-try m w hs (OfTree t) lawful st h = held-tries hs t (tdcs_of w t) _ (td-lock m w t TDCS_TREE_LOCK lawful st refl) h
may-try m w hs (OfEpoch t) lawful st h = held-tries hs t (tdcs_of w t) _ (td-lock m w t TDCS_EPOCH_LOCK lawful st refl) h
may-try m w hs (OfRtmr t) lawful st h = held-tries hs t (tdcs_of w t) _ (td-lock m w t TDCS_RTMR_LOCK lawful st refl) h
may-try m w hs OfKeys lawful st h = inl tt

not-alone : (hs : List Held) (g : Grip) (t : ℕ) → Apart (bare hs) g → holds hs (OfPage t) ≡ true → g.sole (Locked (OfPage t)) ≡ false
not-alone hs g t apart h = by_test (g.sole (Locked (OfPage t))) (λ y. absurd (apart.back.sole (Locked (OfPage t)) y h)) (λ n. n)

td-stays : TdLocksStay → (m : Machine) (w w' : World) (hs : List Held) (g : Grip) (t : ℕ) (name : LockName) → Lawful m w → Respects g w w' → Apart (bare hs) g → holds hs (OfPage t) ≡ true → TdStands w t
    → (lock_place (tdcs_of w' t) name ≡ lock_place (tdcs_of w t) name) × TdStands w' t
td-stays stay m w w' hs g t name lawful r apart h st =
    let k = stay m g w w' t lawful r (not-alone hs g t apart h) st in (ap (λ (c : ℕ). lock_place c name) k.0, k.1)

-- another's act leaves it where it is
pub lock-stays : TdLocksStay → (m : Machine) (w w' : World) (hs : List Held) (g : Grip) (l : LockId) → Lawful m w → Respects g w w' → Apart (bare hs) g → HoldsTdr hs l → Stands w l
    → (place_of w' l ≡ place_of w l) × Stands w' l
lock-stays stay m w w' hs g (OfPage p) lawful r apart h st = (refl, tt)
lock-stays stay m w w' hs g (OfOp t) lawful r apart h st = td-stays stay m w w' hs g t name.Op lawful r apart h st
lock-stays stay m w w' hs g (OfTree t) lawful r apart h st = td-stays stay m w w' hs g t name.Tree lawful r apart h st
lock-stays stay m w w' hs g (OfEpoch t) lawful r apart h st = td-stays stay m w w' hs g t name.Epoch lawful r apart h st
lock-stays stay m w w' hs g (OfRtmr t) lawful r apart h st = td-stays stay m w w' hs g t name.Rtmr lawful r apart h st
lock-stays stay m w w' hs g OfKeys lawful r apart h st = (refl, tt)

-- what a leaf on its way was told: each load, under the locks that it had then
abbrev pub EachTold : (List Held → View → WordPlace → Type 0) → Tree → List ℕ → List Held → Type 0
EachTold P (Lock l q m t) [] hs = Unit {0}
EachTold P (Lock l q m t) (x ∷ xs) hs = EachTold P t xs (record { lock = l; mode = m } ∷ hs)
EachTold P (Load v q k) [] hs = Unit {0}
EachTold P (Load v q k) (x ∷ xs) hs = P hs v q × EachTold P (k (look v x)) xs hs
EachTold P (Test b r t) xs hs = b ≡ true → EachTold P t xs hs
EachTold P (End r fs cs) xs hs = Unit {0}
EachTold P (Since r cs) xs hs = Unit {0}

-- at that instant a load stays by what its processor has of the guards, or it finds what is shown, and is the act
abbrev pub StaysOrActs : Instant → Work → List Held → View → WordPlace → (ℕ → Tree) → Type 0
StaysOrActs c k hs v q t = Reads (grasp_of c hs) c.state.world q v ⊎ (Sees (k.grasp c hs) c.state.world q v × (has_acted (t (look v (c.memory.words q))) ≡ true))

pub stays-or-acts : (c : Instant) (k : Work) (hs : List Held) (v : View) (q : WordPlace) (t : ℕ → Tree) → Loads c k hs v q t → StaysOrActs c k hs v q t
stays-or-acts c k hs v q t (inl reads) = inl (part-meets (hold c hs) (grasp_of c hs) _ _ (hold-grasp c hs) reads)
stays-or-acts c k hs v q t (inr (inl sees)) = inr sees
stays-or-acts c k hs v q t (inr (inr reads)) = inl reads

stable : (c : Instant) (k : Work) (hs : List Held) (v : View) (q : WordPlace) (t : ℕ → Tree) (x : ℕ) → StaysOrActs c k hs v q t → look v x ≡ look v (c.memory.words q) → has_acted (t (look v x)) ≡ false
    → Reads (grasp_of c hs) c.state.world q v
stable c k hs v q t x (inl r) e n = r
stable c k hs v q t x (inr s) e n = absurd (let bad : true ≡ false = sym s.1 ∙ (ap (λ (z : ℕ). has_acted (t z)) (sym e) ∙ n) in cc)

-- so each is stable at that instant, under the locks held when it was told
pub told-reads : (m : Machine) (c : Instant) (k : Work) (hs : List Held) (t : Tree) (items : List (Item Reply)) (told : List ℕ) → Means m c k hs t items → Current c.memory.words t told → NotActed t told
    → EachTold (λ ks v q. IsIn m q × Reads (grasp_of c ks) c.state.world q v) t told hs
told-reads m c k hs (Lock l q mode t) items [] a cu na = tt
told-reads m c k hs (Lock l q mode t) [] (x ∷ xs) a cu na = absurd a
told-reads m c k hs (Lock l q mode t) (Check b r ∷ is) (x ∷ xs) a cu na = absurd a
told-reads m c k hs (Lock l q mode t) (Try l' mode' ∷ is) (x ∷ xs) a cu na = told-reads m c k (record { lock = l; mode = mode } ∷ hs) t is xs a.3 cu na
told-reads m c k hs (Load v q t) items [] a cu na = tt
told-reads m c k hs (Load v q t) items (x ∷ xs) a cu na = (
  (a.0, stable c k hs v q t x (stays-or-acts c k hs v q t a.1) cu.0 na.0),
  told-reads m c k hs (t (look v x)) items xs (subst (λ (z : ℕ). Means m c k hs (t z) items) (sym cu.0) a.2) cu.1 na.1,
)
told-reads m c k hs (Test b r t) [] xs a cu na = absurd a
told-reads m c k hs (Test b r t) (Try l mode ∷ is) xs a cu na = absurd a
told-reads m c k hs (Test b r t) (Check b' r' ∷ is) xs a cu na = λ e. told-reads m c k hs t is xs (a.2 (sym a.0 ∙ e)) (cu e) (na e)
told-reads m c k hs (End r fs cs) items xs a cu na = tt
told-reads m c k hs (Since r cs) items xs a cu na = tt

-- what it has it had then, or was granted since
granted-older : (t : Tree) (told : List ℕ) (hs ks : List Held) → IsOlder ks hs → IsOlder ks (granted t told hs)
granted-older (Lock l q m t) [] hs ks o = o
granted-older (Lock l q m t) (x ∷ xs) hs ks o = granted-older t xs (record { lock = l; mode = m } ∷ hs) ks (record { lock = l; mode = m } ∷ o.0, ap (λ (z : List Held). record { lock = l; mode = m } ∷ z) o.1)
granted-older (Load v q k) [] hs ks o = o
granted-older (Load v q k) (x ∷ xs) hs ks o = granted-older (k (look v x)) xs hs ks o
granted-older (Test true r t) xs hs ks o = granted-older t xs hs ks o
granted-older (Test false r t) xs hs ks o = o
granted-older (End r fs cs) xs hs ks o = o
granted-older (Since r cs) xs hs ks o = o

-- and the locks that it had then are older than those it has
pub told-older : (t : Tree) (told : List ℕ) (hs : List Held) (P : List Held → View → WordPlace → Type 0) → EachTold P t told hs
    → EachTold (λ ks v q. IsOlder ks (granted t told hs) × P ks v q) t told hs
told-older (Lock l q m t) [] hs P e = tt
told-older (Lock l q m t) (x ∷ xs) hs P e = told-older t xs (record { lock = l; mode = m } ∷ hs) P e
told-older (Load v q k) [] hs P e = tt
told-older (Load v q k) (x ∷ xs) hs P e = ((granted-older (k (look v x)) xs hs hs ([], refl), e.0), told-older (k (look v x)) xs hs P e.1)
told-older (Test true r t) xs hs P e = λ y. told-older t xs hs P (e y)
told-older (Test false r t) xs hs P e = λ y. cc
told-older (End r fs cs) xs hs P e = tt
told-older (Since r cs) xs hs P e = tt

-- words that look the same wherever it looked
pub still-current : (t : Tree) (told : List ℕ) (hs : List Held) (words words' : WordPlace → ℕ) (P : List Held → View → WordPlace → Type 0) → EachTold P t told hs
    → ((ks : List Held) (v : View) (q : WordPlace) → P ks v q → look v (words' q) ≡ look v (words q)) → Current words t told → Current words' t told
still-current (Lock l q m t) [] hs words words' P e keeps cu = tt
still-current (Lock l q m t) (x ∷ xs) hs words words' P e keeps cu = still-current t xs (record { lock = l; mode = m } ∷ hs) words words' P e keeps cu
still-current (Load v q k) [] hs words words' P e keeps cu = tt
still-current (Load v q k) (x ∷ xs) hs words words' P e keeps cu = (cu.0 ∙ sym (keeps hs v q e.0), still-current (k (look v x)) xs hs words words' P e.1 keeps cu.1)
still-current (Test b r t) xs hs words words' P e keeps cu = λ y. still-current t xs hs words words' P (e y) keeps (cu y)
still-current (End r fs cs) xs hs words words' P e keeps cu = tt
still-current (Since r cs) xs hs words words' P e keeps cu = tt
