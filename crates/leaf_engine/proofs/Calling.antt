-- Each turn of a call's run is the next event of its processor.
use Rattle.std.proofs.Common.{◌≡◌, ◌⊎◌, ℕ, ◌+◌, ◌-◌, ◌%◌, ◌^◌, ◌<◌, ◌≤◌, Bool, true, false, ◌==◌, cond, nat_lt, if◌then◌else◌, List, [], ◌∷◌, ◌++◌, Option, Some, None, refl, ap, sym, ◌∙◌, subst, inl, inr, arith}
use Rattle.std.proofs.lemmas.Bool.{eq-eqb, eqb-true}
use Rattle.td_words.specs.declared.names.Mode.{Mode}
use Rattle.td_words.specs.declared.names.Mode.TheVariants.{Shared, Exclusive}
use Rattle.td_words.specs.declared.machines.Machine.{Machine}
use Rattle.td_words.specs.declared.calls.Call.{Call}
use Rattle.td_words.specs.declared.replies.Reply.{Reply}
use Rattle.td_words.specs.Place.{WordPlace, IsIn, address}
use Rattle.td_words.specs.Laws.{PlacesInjective}
use Rattle.mrtd_measure.specs.declared.measures.Measure.{Measure}
use Rattle.flat_core.specs.World.{World, put}
use Rattle.flat_core.specs.Processor.{LockId, OfPage, OfOp, OfTree, OfEpoch, OfRtmr, OfKeys, Held, Phase, Trying, Undoing, Answered, Guest, Translation, Lp}
use Rattle.flat_core.specs.Locks.{same_lock, holders, sharers, refusals, grants as lock_grants}
use Rattle.flat_core.specs.Opening.{Opening}
use Rattle.flat_core.specs.Row.{Row, Move, Attempts, next_in}
use Rattle.flat_core.specs.Event.{State, Event, OfCall, next_event, event_for, line_event, event, after_event, call_world, call_lp, settle, settled, is_granted}
use Rattle.word_rules.specs.Cells.{lock_word}
use Rattle.lock_words.specs.Grips.{IsExclusive}
use Rattle.lock_words.specs.LockWords.{weight_of, IsNext, LockWordsFollow, move_adds}
use Rattle.step_core.specs.declared.steps.WordStep.TheVariants as step
use Rattle.step_core.specs.Words.{with_word}
use Rattle.step_core.specs.Items.{Table, PlaysTo}
use Rattle.step_core.specs.declared.items.Taken.TheVariants.{Stepped}
use Rattle.leaf_engine.specs.declared.events.HeldLock.{HeldLock}
use Rattle.leaf_engine.specs.declared.events.Stage.{Stage}
use Rattle.leaf_engine.specs.declared.events.Stage.TheVariants as stages
use Rattle.leaf_engine.specs.Changes.{Memory}
use Rattle.lock_words.specs.LockWords.{put_word}
use Rattle.leaf_engine.specs.Means.{Task, LocksStay}
use Rattle.leaf_engine.specs.Decides.{IsHand}
use Rattle.leaf_engine.specs.Tables.{IsMemory}
use Rattle.leaf_engine.specs.Turns.{Standing, last_reply, grants}
use Rattle.leaf_engine.specs.Shown.{word_tried}
use Rattle.leaf_engine.specs.Calls.{IsLockAt, AreLocks, IsStage, IsTold, IsLine, GoesOn, IsOver}
use Rattle.leaf_engine.proofs.Changing.{word_put}

-- the flat machine's event

pub next-is : (o : Opening) (s : State) (me : ℕ) (row : Row) (ph : Phase Reply) (hs : List Held) → IsLine o me row (s.lps me) → (s.lps me).guest ≡ None → (s.lps me).call.phase ≡ ph → (s.lps me).call.held ≡ hs
    → next_event o s me ≡ Some (OfCall row (next_in (row.items s.world) ph hs))
next-is o s me row ph hs line g p h =
    let lp = s.lps me in
    ap (λ (cs : List Call). event_for o s.world me lp cs) line.lines
    ∙ (ap (λ (r : Row). Some (line_event o s.world lp r lp.guest)) line.row_is
    ∙ (ap (λ (x : Option Guest). Some (line_event o s.world lp row x)) g
    ∙ (ap (λ (x : Phase Reply). Some (OfCall row (next_in (row.items s.world) x lp.call.held))) p
    ∙ ap (λ (x : List Held). Some (OfCall row (next_in (row.items s.world) ph x))) h)))

-- the state after it
abbrev pub stepped : State → ℕ → Row → Move Reply → State
stepped s me row mv = record s { world = call_world row mv s.world; lps = put s.lps me (settled (call_lp s.world (is_granted s (OfCall row mv)) row mv (s.lps me))) }

pub event-is : (o : Opening) (s : State) (me : ℕ) (row : Row) (mv : Move Reply) → next_event o s me ≡ Some (OfCall row mv) → event o s me ≡ stepped s me row mv
event-is o s me row mv e = ap (λ (x : Option Event). after_event me s x) e

pub lp-now : (s : State) (me : ℕ) (lp : Lp) → put s.lps me lp me ≡ lp
lp-now s me lp = ap (λ (b : Bool). cond b lp (s.lps me)) (eq-eqb me me refl)

pub is-next : (o : Opening) (s : State) (me : ℕ) (row : Row) (mv : Move Reply) → me < s.lp_count → next_event o s me ≡ Some (OfCall row mv) → IsNext o s me (OfCall row mv)
is-next o s me row mv p e = record { processor = p; next = e; lets_go = tt }

-- what is answered at a call's end

pub last-none : (r : Reply) (older : List HeldLock) (x : HeldLock) → last_reply (stages.Answered r) (older ++ x ∷ []) ≡ None
last-none r [] x = refl
last-none r (y ∷ ys) x = refl

-- how it goes on from a phase and locks held
pub settles : (o : Opening) (task : Task) (row : Row) (w : World) (mem : Memory) (lp : Lp) (cached : List Translation) (run : Standing) (reply : Option Reply) (ph : Phase Reply) (hs : List Held) (st : Stage)
    → IsLine o task.place.lp row lp → lp.guest ≡ None → run.stage ≡ st → IsStage task.place.machine w st ph → AreLocks task.place.machine w run.held hs
    → (st ≡ stages.Trying → IsTold task mem.words run hs) → (st ≡ stages.Trying → mem.hand ≡ None) → reply ≡ last_reply run.stage run.held
    → GoesOn o task row lp.replies w mem (settle ph hs (record lp { call = record { phase = ph; held = hs }; cached = cached })) run reply
    ⊎ IsOver lp.replies (settle ph hs (record lp { call = record { phase = ph; held = hs }; cached = cached })) reply
settles o task row w mem lp cached run reply Trying hs stages.Trying line g e st held told hand r =
    inl (record {
      no_reply = r ∙ ap (λ (z : Stage). last_reply z run.held) e;
      replies_are = refl;
      call = record { line = record { call = line.call; further = line.further; lines = line.lines; row_is = line.row_is }; guest = g; stage = subst (λ (z : Stage). IsStage task.place.machine w z Trying) (sym e) tt; held = held; told = λ t. told refl };
      empty_hand = λ t. hand refl;
    })
settles o task row w mem lp cached run reply Trying hs (stages.Undoing name at) line g e st held told hand r = absurd st
settles o task row w mem lp cached run reply Trying hs (stages.Answered a) line g e st held told hand r = absurd st
settles o task row w mem lp cached run reply (Undoing l) hs stages.Trying line g e st held told hand r = absurd st
settles o task row w mem lp cached run reply (Undoing l) hs (stages.Undoing name at) line g e st held told hand r =
    inl (record {
      no_reply = r ∙ ap (λ (z : Stage). last_reply z run.held) e;
      replies_are = refl;
      call = record { line = record { call = line.call; further = line.further; lines = line.lines; row_is = line.row_is }; guest = g; stage = subst (λ (z : Stage). IsStage task.place.machine w z (Undoing l)) (sym e) st; held = held; told = λ t. told (sym e ∙ t) };
      empty_hand = λ t. hand (sym e ∙ t);
    })
settles o task row w mem lp cached run reply (Undoing l) hs (stages.Answered a) line g e st held told hand r = absurd st
settles o task row w mem lp cached run reply (Answered a) hs stages.Trying line g e st held told hand r = absurd st
settles o task row w mem lp cached run reply (Answered a) hs (stages.Undoing name at) line g e st held told hand r = absurd st
settles o task row w mem lp cached run reply (Answered a) [] (stages.Answered b) line g e st held told hand r =
    let last : last_reply run.stage run.held ≡ Some a = ap (λ (z : Stage). last_reply z run.held) e ∙ (ap (λ (z : List HeldLock). last_reply (stages.Answered b) z) held ∙ ap Some st) in
    inr (record { answer = a; reply_is = r ∙ last; replies_are = refl; between = record { call = refl; guest = g } })
settles o task row w mem lp cached run reply (Answered a) (h ∷ hs) (stages.Answered b) line g e st held told hand r =
    let last : last_reply run.stage run.held ≡ None = ap (λ (z : Stage). last_reply z run.held) e ∙ (ap (λ (z : List HeldLock). last_reply (stages.Answered b) z) held.1.1 ∙ last-none b held.0 held.1.0) in
    inl (record {
      no_reply = r ∙ last;
      replies_are = refl;
      call = record { line = record { call = line.call; further = line.further; lines = line.lines; row_is = line.row_is }; guest = g; stage = subst (λ (z : Stage). IsStage task.place.machine w z (Answered a)) (sym e) st; held = held; told = λ t. told (sym e ∙ t) };
      empty_hand = λ t. hand (sym e ∙ t);
    })

-- lock words

pub same-itself : (l : LockId) → same_lock l l ≡ true
same-itself (OfPage p) = eq-eqb p p refl
same-itself (OfOp t) = eq-eqb t t refl
same-itself (OfTree t) = eq-eqb t t refl
same-itself (OfEpoch t) = eq-eqb t t refl
same-itself (OfRtmr t) = eq-eqb t t refl
same-itself OfKeys = refl

pub word-small : (s : State) (l : LockId) → IsExclusive s → sharers s.lps s.lp_count l + refusals s.lps s.lp_count l + 1 < 2 ^ 63 → lock_word s.lps s.lp_count l + 1 < 2 ^ 64
word-small s l ex few = (let one : holders s.lps s.lp_count l ≤ 1 = (ex l).one in omega (arith, one, few))

grants-shared : (word : ℕ) → grants Shared word ≡ nat_lt word (2 ^ 63)
grants-shared word = by (nat_lt word (2 ^ 63)) refl
  where
    by : (b : Bool) → nat_lt word (2 ^ 63) ≡ b → grants Shared word ≡ nat_lt word (2 ^ 63)
    by true e = rw e refl
    by false e = rw e refl

grants-exclusive : (word : ℕ) → grants Exclusive word ≡ (word == 0)
grants-exclusive word = by (word == 0) refl
  where
    by : (b : Bool) → (word == 0) ≡ b → grants Exclusive word ≡ (word == 0)
    by true e = rw e refl
    by false e = rw e refl

few-shared : (s : State) (l : LockId) → sharers s.lps s.lp_count l + refusals s.lps s.lp_count l + 1 < 2 ^ 63 → sharers s.lps s.lp_count l + refusals s.lps s.lp_count l < 2 ^ 63
few-shared s l few = omega (arith, few)

-- the word tells what the state does
pub grants-same : LockWordsFollow → (s : State) (l : LockId) (mode : Mode) → sharers s.lps s.lp_count l + refusals s.lps s.lp_count l + 1 < 2 ^ 63
    → grants mode (lock_word s.lps s.lp_count l) ≡ lock_grants s.lps s.lp_count l mode
grants-same follow s l Shared few = grants-shared (lock_word s.lps s.lp_count l) ∙ sym (follow.shared s l (few-shared s l few))
grants-same follow s l Exclusive few = grants-exclusive (lock_word s.lps s.lp_count l) ∙ sym (follow.exclusive s l)

-- the word of a lock after the step of a try
small-mod : (n : ℕ) → n < 2 ^ 64 → n % 2 ^ 64 ≡ n
small-mod n h = omega arith

not-zero : (n : ℕ) → (n == 0) ≡ false → word_tried Exclusive n ≡ n
not-zero n e = rw e refl

is-zero : (n : ℕ) → (n == 0) ≡ true → (word_tried Exclusive n ≡ 2 ^ 63) × (n ≡ 0)
is-zero n e = (rw e refl, eqb-true n 0 e)

pub tried-value : (l : LockId) (mode : Mode) (b : Bool) (word word' : ℕ) → b ≡ grants mode word → word' + 0 ≡ word + move_adds {R = Reply} (Attempts l mode) b l → word + 1 < 2 ^ 64
    → word' ≡ word_tried mode word
tried-value l Shared true word word' g e h =
    let f : word' + 0 ≡ word + 1 = e ∙ ap (λ (z : Bool). word + (if z then 1 else 0)) (same-itself l) in
    let v : word' ≡ word + 1 = omega arith in v ∙ sym (small-mod (word + 1) h)
tried-value l Shared false word word' g e h =
    let f : word' + 0 ≡ word + 1 = e ∙ ap (λ (z : Bool). word + (if z then 1 else 0)) (same-itself l) in
    let v : word' ≡ word + 1 = omega arith in v ∙ sym (small-mod (word + 1) h)
tried-value l Exclusive true word word' g e h =
    let z = is-zero word (sym (g ∙ grants-exclusive word)) in
    let none : word ≡ 0 = z.1 in
    let f : word' + 0 ≡ word + 2 ^ 63 = e ∙ ap (λ (y : Bool). word + (if y then 2 ^ 63 else 0)) (same-itself l) in
    let v : word' ≡ 2 ^ 63 = omega arith in v ∙ sym z.0
tried-value l Exclusive false word word' g e h =
    let v : word' ≡ word = omega (arith, e) in v ∙ sym (not-zero word (sym (g ∙ grants-exclusive word)))

-- and after the step that takes a holder off
pub freed-value : (word word' weight : ℕ) → word' + weight ≡ word + 0 → weight ≤ 2 ^ 63 → word + 1 < 2 ^ 64 → word' ≡ (word + (2 ^ 64 - weight)) % 2 ^ 64
freed-value word word' weight e w h =
    let sum : word + (2 ^ 64 - weight) ≡ word' + 2 ^ 64 = omega arith in
    let small : word' < 2 ^ 64 = omega arith in
    rw sum (omega arith)

pub weight-small : (mode : Mode) → weight_of mode ≤ 2 ^ 63
weight-small Shared = omega arith
weight-small Exclusive = omega arith

-- a lock's word in memory
pub put-memory : (m : Machine) (u : Table) (h : Option Measure) (mem : Memory) (q : WordPlace) (x y : ℕ) → x ≡ y → IsMemory m u h (record mem { words = put_word mem.words q x }) → IsMemory m u h (record mem { words = put_word mem.words q y })
put-memory m u h mem q x y e mm = subst (λ (z : ℕ). IsMemory m u h (record mem { words = put_word mem.words q z })) e mm

-- the step that takes a holder off, on the table
pub freed-memory : PlacesInjective → (m : Machine) (t u : Table) (h : Option Measure) (mem : Memory) (q : WordPlace) (at answer weight : ℕ) → IsIn m q → at ≡ address m.pages q
    → PlaysTo t (Stepped (step.Sub at weight) answer ∷ []) u → IsMemory m t h mem
    → IsMemory m u h (record mem { words = put_word mem.words q ((mem.words q + (2 ^ 64 - weight)) % 2 ^ 64) })
freed-memory inj m t u h mem q at answer weight in_q e p mm =
    let word : t.words at ≡ mem.words q = ap t.words e ∙ mm.words q in_q in
    let put : u.words ≡ with_word t.words (address m.pages q) ((mem.words q + (2 ^ 64 - weight)) % 2 ^ 64) =
    p.1.0 ∙ (ap (λ (z : ℕ). with_word t.words z ((t.words at + (2 ^ 64 - weight)) % 2 ^ 64)) e ∙ ap (λ (z : ℕ). with_word t.words (address m.pages q) ((z + (2 ^ 64 - weight)) % 2 ^ 64)) word) in
    record {
      words = word_put inj m t.words u.words mem.words q ((mem.words q + (2 ^ 64 - weight)) % 2 ^ 64) in_q put mm.words;
      slots = λ k in_k. subst (λ (f : ℕ → Option Measure). IsHand (f (k - 1)) (mem.slots k)) (sym p.1.1) (mm.slots k in_k);
      hand = mm.hand;
    }

-- locks held, one more and one less

pub snoc : {A : Type 0} → (xs ys : List A) (x y : A) → xs ++ x ∷ [] ≡ ys ++ y ∷ [] → (xs ≡ ys) × (x ≡ y)
snoc [] [] x y e = (refl, cc)
snoc [] (z ∷ []) x y e = cc
snoc [] (z ∷ (w ∷ zs)) x y e = cc
snoc (z ∷ []) [] x y e = cc
snoc (z ∷ (w ∷ zs)) [] x y e = cc
snoc (z ∷ xs) (w ∷ ys) x y e =
    let head : z ≡ w = cc in
    let tail : xs ++ x ∷ [] ≡ ys ++ y ∷ [] = cc in
    let r = snoc xs ys x y tail in
    (rw (head, r.0) refl, r.1)

-- they stay where they are through an act
pub locks-after : (m : Machine) (w w' : World) (hs : List Held) (held : List HeldLock) → LocksStay w w' hs → AreLocks m w held hs → AreLocks m w' held hs
locks-after m w w' [] held st a = a
locks-after m w w' (h ∷ hs) held st a =
    let it : IsLockAt m w a.1.0.name a.1.0.at h.lock = a.1.3 in (
      a.0,
      (
        a.1.0,
        a.1.1,
        a.1.2,
        record {
          name_is = it.name_is;
          at_is = it.at_is ∙ ap (address m.pages) (sym st.0.0);
          in_machine = subst (λ (z : WordPlace). IsIn m z) (sym st.0.0) it.in_machine;
          stands = st.0.1 it.stands;
        },
        locks-after m w w' hs a.0 st.1 a.1.4,
      ),
    )
