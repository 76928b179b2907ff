-- The pieces in which a leaf's turn ends: the refusal or the act, by a load, by its first store, or without a word step.
use Rattle.merge_laws.specs.Merge.{taken_after}
use Rattle.merge_laws.proofs.Pieces.{Answers}
use Rattle.leaf_engine.specs.Decides.{IsHand}
use Rattle.std.proofs.Common.{◌≡◌, ℕ, ◌+◌, ◌%◌, ◌^◌, ◌<◌, Bool, true, false, ◌==◌, List, [], ◌∷◌, ◌++◌, map, length, Option, Some, None, refl, ap, sym, ◌∙◌, subst, inl, inr, ◌-◌}
use Rattle.std.proofs.lemmas.Bool.{eqb-true}
use Rattle.td_words.specs.declared.machines.Machine.{Machine}
use Rattle.td_words.specs.declared.replies.Reply.{Reply}
use Rattle.td_words.specs.Place.{WordPlace, IsIn, address, same_place}
use Rattle.mrtd_measure.specs.declared.measures.Measure.{Measure}
use Rattle.flat_core.specs.World.{World, put}
use Rattle.flat_core.specs.Processor.{Held}
use Rattle.flat_core.specs.Opening.{Opening}
use Rattle.flat_core.specs.Row.{next}
use Rattle.flat_core.specs.Event.{State, event}
use Rattle.word_rules.specs.Guards.{Grip}
use Rattle.word_rules.specs.Rules.{Grade}
use Rattle.word_rules.specs.Permissions.{Writes, SwapsAct}
use Rattle.lock_words.specs.LockWords.{put_word}
use Rattle.step_core.specs.declared.steps.WordStep.{WordStep}
use Rattle.step_core.specs.declared.steps.WordStep.TheVariants as step
use Rattle.step_core.specs.Words.{after_step}
use Rattle.step_core.specs.Items.{Table, with_slot}
use Rattle.step_core.specs.declared.items.Taken.{Taken}
use Rattle.step_core.specs.declared.items.Taken.TheVariants.{Stepped, Swapped, Missed}
use Rattle.leaf_engine.specs.declared.events.Event.{Event as RunEvent}
use Rattle.leaf_engine.specs.declared.events.Stage.TheVariants as stages
use Rattle.leaf_engine.specs.declared.needs.Write.{Write}
use Rattle.leaf_engine.specs.declared.needs.Write.TheVariants as write
use Rattle.leaf_engine.specs.Changes.{Memory, Change, Put, PutHash, Raise, Clear, Copy, Swap, changed, changed_all, Hand}
use Rattle.leaf_engine.specs.Trees.{Tree, Lock, Load, Test, End, Since, feed}
use Rattle.leaf_engine.specs.Means.{Task, Instant, work_of, hold, grasp_of, MayAct, MayFillAll, MayOweAll, IsHkid}
use Rattle.leaf_engine.specs.Items.{IsWritten, IsChanged}
use Rattle.leaf_engine.specs.Turns.{Standing}
use Rattle.leaf_engine.specs.Follows.{granted, Comes}
use Rattle.leaf_engine.specs.OwnLists.{Piece, Unmarked, joined, WordLp}
use Rattle.leaf_engine.proofs.Following.{leaves-follow-rows}
use Rattle.leaf_engine.proofs.Showing.{allowed-fills}
use Rattle.leaf_engine.proofs.Changing.{word_put, slot_put}
use Rattle.merge_laws.proofs.Stores.{Due, last_at, or_else, laid-none, stores_of, all_stores, changed-is, or-test}
use Rattle.merge_laws.proofs.Swaps.{SwapDue, last_put, swaps_of}
use Rattle.merge_laws.proofs.Owing.{Owed, stores_in, swaps_in, AreOwed, all_owed, stores-are, swaps-are}
use Rattle.merge_laws.proofs.SlotSteps.{slot-shown}
use Rattle.merge_laws.proofs.Holding.{lock_grip_of, turned-round}
use Rattle.merge_laws.proofs.Standing.{Trees, Does, task_for, moment, act_grip, Leads, TurnsTo, Laws, on_table, Position, back, Rest}
use Rattle.merge_laws.proofs.Others.{at-moment, hold-is, act-part}
use Rattle.merge_laws.proofs.Own.{none-due}
use Rattle.merge_laws.proofs.LockSteps.{Moved}
use Rattle.merge_laws.proofs.Acts.{act-step}
use Rattle.merge_laws.proofs.Ending.{AtEnd, filled_of, first_of, owes_of, puts_of, swaps_left, HasFilled, one-act}
use Rattle.merge_laws.proofs.Pieces.{AtTurn}

-- what it may change, by what it acts under and by its locks
abbrev pub EndMay : Machine → (act own : Grip) → (before after : World) → Memory → Tree → Type 0
EndMay m act own w w' mem (End r fs []) = MayFillAll m act w fs
EndMay m act own w w' mem (End r fs (c ∷ cs)) = MayFillAll m act w fs × (let mem1 = changed_all fs mem in MayAct m act w mem1 c × MayOweAll m own w' (changed c mem1) cs)
EndMay m act own w w' mem (Since r cs) = MayOweAll m own w' mem cs
EndMay m act own w w' mem _ = Unit {0}

-- what the end of what its processor does may change
abbrev pub ItsEndMay : Opening → State → Memory → ℕ → Does → Tree → Type 0
ItsEndMay o s mem p d tree = EndMay o.machine (act_grip s mem p d) (lock_grip_of s p) s.world ((work_of d.meaning).act s.world) mem tree

pub end-may : (o : Opening) (trees : Trees) (s : State) (mem : Memory) (t : Table) (pos : ℕ → Position) (p : ℕ) (d : Does) (now : List ℕ) (reply : Reply) (run run' : Standing) (e : RunEvent)
    → (a : AtTurn o trees s mem t pos p d run) → (st : run.stage ≡ stages.Trying) → AtEnd o mem d (a.runs.at.told st).told now reply run run' e
    → ItsEndMay o s mem p d (feed d.tree now)
end-may o trees s mem t pos p d now reply run run' e a st en =
    by (feed d.tree now) (leaves-follow-rows task inst now a.here.means (at-moment o trees s mem t pos p d run a.known a.all a.here a.runs st) en.current)
  where
    m : Machine
    m = o.machine

    task : Task
    task = task_for o p d

    inst : Instant
    inst = moment s mem p d

    hs : List Held
    hs = granted d.tree now []

    act : Grip
    act = act_grip s mem p d

    mine : Grip
    mine = lock_grip_of s p

    after : World
    after = (work_of d.meaning).act s.world

    held : hs ≡ d.far.held
    held = en.locks ∙ (a.runs.at.told st).locks

    own-is : hold inst hs ≡ mine
    own-is = ap (hold inst) held ∙ hold-is o s mem p d a.here

    act-is : (work_of d.meaning).grasp inst hs ≡ act
    act-is = ap ((work_of d.meaning).grasp inst) held

    fills-may : (fs : List Change) → MayFillAll m ((work_of d.meaning).grasp inst hs) s.world fs → MayFillAll m act s.world fs
    fills-may fs may = subst (λ (g : Grip). MayFillAll m g s.world fs) act-is may

    by : (x : Tree) → Comes m inst (work_of task.meaning) hs x (next ((work_of task.meaning).items s.world) (length hs)) → EndMay m act mine s.world after mem x
    by (Lock l q mode x) co = tt
    by (Load v q k) co = tt
    by (Test b r x) co = tt
    by (End r fs []) (inl co) = subst (λ (z : List Change). MayFillAll m act s.world z) (sym co.2) tt
    by (End r fs []) (inr co) = fills-may fs (allowed-fills m ((work_of d.meaning).grasp inst hs) (grasp_of inst hs) s.world fs co.1.fills_allowed)
    by (End r fs (c1 ∷ ds)) (inl co) = (let bad = co.3 in cc)
    by (End r fs (c1 ∷ ds)) (inr co) = (
      fills-may fs (allowed-fills m ((work_of d.meaning).grasp inst hs) (grasp_of inst hs) s.world fs co.1.fills_allowed),
      (
        subst (λ (g : Grip). MayAct m g s.world (changed_all fs mem) c1) act-is co.2.0,
        subst (λ (g : Grip). MayOweAll m g after (changed c1 (changed_all fs mem)) ds) own-is co.2.1,
      ),
    )
    by (Since r ds) co = subst (λ (g : Grip). MayOweAll m g after mem ds) own-is co.2

-- the event, and what is owed then
pub end-moved : (ls : Laws) (o : Opening) (trees : Trees) (s : State) (mem : Memory) (t t' : Table) (pos : ℕ → Position) (p : ℕ) (d : Does) (now : List ℕ) (reply : Reply) (run run' : Standing) (e : RunEvent)
    → (a : AtTurn o trees s mem t pos p d run) → (st : run.stage ≡ stages.Trying) → AtEnd o mem d (a.runs.at.told st).told now reply run run' e → HasFilled o t pos p mem (filled_of (feed d.tree now) mem)
    → ((r : WordPlace) → IsIn o.machine r → t'.words (address o.machine.pages r) ≡ or_else (last_at (first_of (feed d.tree now) mem) r) (t.words (address o.machine.pages r)))
    → ((h : ℕ) → IsHkid o.machine h → IsHand (t'.slots (h - 1)) (or_else (last_put (puts_of (feed d.tree now) mem) h) (a.all.slots.now h)))
    → Moved o trees (event o s p) t' (put pos p (record { at = d.after e run'; owes = owes_of (feed d.tree now) mem; swaps = swaps_left (feed d.tree now) mem; fill = None }))
end-moved ls o trees s mem t t' pos p d now reply run run' e a st en has table slots =
    let one = one-act ls o trees s mem t t' pos p d now reply run run' e a.known a.all a.inside a.here a.runs st en has table slots in
    let moved = act-step ls o trees s mem t t' pos p d run run' e a.are a.known a.all a.inside a.no_swaps a.here a.leads a.bundles a.runs st one.0 in
    subst (λ (es : List SwapDue). Moved o trees (event o s p) t' (put pos p (record { at = d.after e run'; owes = owes_of (feed d.tree now) mem; swaps = es; fill = None }))) one.2
    (subst (λ (ds : List Due). Moved o trees (event o s p) t' (put pos p (record { at = d.after e run'; owes = ds; swaps = one.0.swaps; fill = None }))) one.1 moved)

-- with the items that are left of the turn
abbrev pub left_at : Tree → Memory → List Owed
left_at (End r fs []) mem = []
left_at (End r fs (c ∷ cs)) mem = all_owed cs (changed c (changed_all fs mem))
left_at (Since r cs) mem = all_owed cs mem
left_at _ mem = []

ends-left : (tree : Tree) (mem : Memory) → (owes_of tree mem ≡ stores_in (left_at tree mem)) × (swaps_left tree mem ≡ swaps_in (left_at tree mem))
ends-left (Lock l q m t) mem = (refl, refl)
ends-left (Load v q k) mem = (refl, refl)
ends-left (Test b r t) mem = (refl, refl)
ends-left (End r fs []) mem = (refl, refl)
ends-left (End r fs (c ∷ cs)) mem = (sym (stores-are cs (changed c (changed_all fs mem))), sym (swaps-are cs (changed c (changed_all fs mem))))
ends-left (Since r cs) mem = (sym (stores-are cs mem), sym (swaps-are cs mem))

pub rest-owed : (o : Opening) (trees : Trees) (s : State) (p : ℕ) (d : Does) (e : RunEvent) (run' : Standing) (tree ended : Tree) (mem : Memory) (items : List Taken) (hasher last : Option Measure) (hand : Hand) (tps : List (List Piece)) (end_ : WordLp)
    → Leads o trees s p d → tree ≡ ended → IsHand hasher hand → AreOwed o.machine.pages hasher hand items (left_at ended mem) last → run'.hasher ≡ last → TurnsTo o trees p (d.after e run') tps end_
    → Rest o trees p (d.after e run') (owes_of tree mem) (swaps_left tree mem) (map Unmarked items ++ joined tps) end_
rest-owed o trees s p d e run' tree ended mem items hasher last hand tps end_ leads is in_hand are last_is own =
    let left = ends-left ended mem in
    record {
      owed = left_at ended mem;
      owes_are = ap (λ (z : Tree). owes_of z mem) is ∙ left.0;
      swaps_are = ap (λ (z : Tree). swaps_left z mem) is ∙ left.1;
      hasher = hasher;
      hand = hand;
      in_hand = in_hand;
      items = items;
      last = last;
      are = are;
      last_is = leads.after_run e run' last last_is;
      turns = tps;
      pieces = refl;
      own = own;
    }

-- an act's first item

abbrev pub IsActTaken : Machine → Memory → Change → Taken → Option Measure → Type 0
IsActTaken m mem (Put q x) (Stepped s a) h' = (s ≡ step.Store (address m.pages q) x) × IsHand h' mem.hand
IsActTaken m mem (PutHash q x) (Stepped s a) h' = (s ≡ step.Store (address m.pages q) (x mem.hand)) × IsHand h' mem.hand
IsActTaken m mem (Raise q more) (Stepped s a) h' = (s ≡ step.Add (address m.pages q) more) × IsHand h' mem.hand
IsActTaken m mem (Swap k made) (Swapped slot put taken) h' = (slot ≡ k - 1) × IsHand put (made mem.hand) × (taken ≡ h') × IsHkid m k
IsActTaken m mem (Swap k made) (Missed slot) h' = Unit {0}
IsActTaken m mem _ _ h' = ⊥

pub record ActItem (m : Machine) (mem : Memory) (c : Change) (xs : List Taken) (h' : Option Measure) : Type 0 where
  pub taken : Taken
  pub items : xs ≡ taken ∷ []
  pub is : IsActTaken m mem c taken h'

pub act-item : (m : Machine) (g : Grip) (w : World) (mem : Memory) (c : Change) (xs : List Taken) (h h' : Option Measure) → MayAct m g w mem c → IsChanged m c h xs h' → IsHand h mem.hand → ActItem m mem c xs h'
act-item m g w mem (Put q x) xs h h' may ch i =
    let handed = ch.handed mem.hand i in
    let written : IsWritten (write.Word (step.Store (address m.pages q) x)) ch.between xs h' = subst (λ (z : Write). IsWritten z ch.between xs h') handed.0 ch.written in
    record { taken = Stepped (step.Store (address m.pages q) x) written.1.0; items = written.1.1; is = (refl, subst (λ (z : Option Measure). IsHand z mem.hand) (sym written.0) handed.1) }
act-item m g w mem (PutHash q x) xs h h' may ch i =
    let handed = ch.handed mem.hand i in
    let written : IsWritten (write.Word (step.Store (address m.pages q) (x mem.hand))) ch.between xs h' = subst (λ (z : Write). IsWritten z ch.between xs h') handed.0 ch.written in
    record { taken = Stepped (step.Store (address m.pages q) (x mem.hand)) written.1.0; items = written.1.1; is = (refl, subst (λ (z : Option Measure). IsHand z mem.hand) (sym written.0) handed.1) }
act-item m g w mem (Raise q more) xs h h' may ch i =
    let handed = ch.handed mem.hand i in
    let written : IsWritten (write.Word (step.Add (address m.pages q) more)) ch.between xs h' = subst (λ (z : Write). IsWritten z ch.between xs h') handed.0 ch.written in
    record { taken = Stepped (step.Add (address m.pages q) more) written.1.0; items = written.1.1; is = (refl, subst (λ (z : Option Measure). IsHand z mem.hand) (sym written.0) handed.1) }
act-item m g w mem (Clear q) xs h h' may ch i = absurd may
act-item m g w mem (Copy q r) xs h h' may ch i = absurd may
act-item m g w mem (Swap k made) xs h h' may ch i = by (subst (λ (z : Write). IsWritten z ch.between xs h') handed.0 ch.written)
  where
    handed : (ch.write ≡ write.Swap (k - 1)) × IsHand ch.between (made mem.hand)
    handed = ch.handed mem.hand i

    by : IsWritten (write.Swap (k - 1)) ch.between xs h' → ActItem m mem (Swap k made) xs h'
    by (inl e) = record { taken = Swapped (k - 1) ch.between h'; items = e; is = (refl, handed.1, refl, may.0) }
    by (inr e) = record { taken = Missed (k - 1); items = e.1; is = tt }

-- where it may swap by its act, a slot of the table is as it is shown
pub slot-seen : (ls : Laws) (o : Opening) (trees : Trees) (s : State) (mem : Memory) (t : Table) (pos : ℕ → Position) (p : ℕ) (d : Does) (run : Standing) (slots : ℕ → Hand) → AtTurn o trees s mem t pos p d run → slots ≡ mem.slots
    → (k : ℕ) → IsHkid o.machine k → SwapsAct (act_grip s mem p d) s.world k → IsHand (t.slots (k - 1)) (slots k)
slot-seen ls o trees s mem t pos p d run slots a same k in_k may =
    subst (λ (x : Hand). IsHand (t.slots (k - 1)) x)
    (sym (ap (λ (f : ℕ → Hand). f k) same
    ∙ slot-shown ls o trees s mem t pos p k (act_grip s mem p d) (act-part o s mem p d a.here) a.known a.all a.inside a.no_swaps in_k
    (λ j apart owes. (ls.words (act_grip s mem p d) (lock_grip_of s j) s.world (turned-round (lock_grip_of s j) (act_grip s mem p d) apart)).swaps_owed k may owes)))
    (a.all.slots.there k in_k)

-- the hasher in hand after it, and the slots
pub act-rest : (m : Machine) (g : Grip) (w : World) (mem : Memory) (t : Table) (c : Change) (taken : Taken) (h' : Option Measure) (now : ℕ → Hand) → MayAct m g w mem c → IsActTaken m mem c taken h' → Answers t taken
    → ((k : ℕ) → IsHkid m k → SwapsAct g w k → IsHand (t.slots (k - 1)) (mem.slots k)) → ((k : ℕ) → IsHkid m k → IsHand (t.slots (k - 1)) (now k))
    → IsHand h' (changed c mem).hand × ((k : ℕ) → IsHkid m k → IsHand ((taken_after t taken).slots (k - 1)) (or_else (last_put (swaps_of c mem) k) (now k)))
act-rest m g w mem t (Put q x) (Stepped s a) h' now may is an seen there = (is.1, there)
act-rest m g w mem t (PutHash q x) (Stepped s a) h' now may is an seen there = (is.1, there)
act-rest m g w mem t (Raise q more) (Stepped s a) h' now may is an seen there = (is.1, there)
act-rest m g w mem t (Swap j made) (Swapped slot put taken) h' now may is an seen there = (
  subst (λ (z : Option Measure). IsHand z (mem.slots j)) (sym (ap t.slots is.0) ∙ (sym an ∙ is.2)) (seen j is.3 may.1),
  λ k in_k.
      subst (λ (x : Hand). IsHand (with_slot t.slots slot put (k - 1)) x) (or-test (k == j) (made mem.hand) (now k))
      (slot_put m t.slots (with_slot t.slots slot put) now j put (made mem.hand) is.3 (ap (λ (z : ℕ). with_slot t.slots z put) is.0) is.1 there k in_k),
)
act-rest m g w mem t (Swap j made) (Missed slot) h' now may is an seen there = absurd an
act-rest m g w mem t (Swap j made) (Stepped s a) h' now may is an seen there = absurd is
act-rest m g w mem t (Put q x) (Swapped slot put taken) h' now may is an seen there = absurd is
act-rest m g w mem t (Put q x) (Missed slot) h' now may is an seen there = absurd is
act-rest m g w mem t (PutHash q x) (Swapped slot put taken) h' now may is an seen there = absurd is
act-rest m g w mem t (PutHash q x) (Missed slot) h' now may is an seen there = absurd is
act-rest m g w mem t (Raise q more) (Swapped slot put taken) h' now may is an seen there = absurd is
act-rest m g w mem t (Raise q more) (Missed slot) h' now may is an seen there = absurd is
act-rest m g w mem t (Clear q) taken h' now may is an seen there = absurd may
act-rest m g w mem t (Copy q r) taken h' now may is an seen there = absurd may

pub hand-as : (h k : Option Measure) (x y : Hand) → h ≡ k → x ≡ y → IsHand k y → IsHand h x
hand-as h k x y e f i = subst (λ (z : Option Measure). IsHand z x) (sym e) (subst (λ (z : Hand). IsHand k z) (sym f) i)

-- where it may store, memory is as its fills have made it
written-here : (ls : Laws) (o : Opening) (trees : Trees) (s : State) (mem : Memory) (t : Table) (pos : ℕ → Position) (p : ℕ) (d : Does) (run : Standing) (fs : List Change) (q : WordPlace) (k : Grade) → AtTurn o trees s mem t pos p d run
    → HasFilled o t pos p mem (all_stores fs mem) → IsIn o.machine q → Writes (act_grip s mem p d) s.world q k → (changed_all fs mem).words q ≡ on_table o.machine t q
written-here ls o trees s mem t pos p d run fs q k a has in_q writes = changed-is ls.places o.machine fs mem q in_q ∙ by (last_at (all_stores fs mem) q) refl
  where
    by : (x : Option ℕ) → last_at (all_stores fs mem) q ≡ x → or_else (last_at (all_stores fs mem) q) (mem.words q) ≡ on_table o.machine t q
    by (Some x) e = ap (λ (z : Option ℕ). or_else z (mem.words q)) e ∙ sym (has.there q x in_q e)
    by None e =
        ap (λ (z : Option ℕ). or_else z (mem.words q)) e
        ∙ (a.all.laid_is q in_q ∙ laid-none (length o.calls) (λ j. (pos j).owes) (on_table o.machine t) q none-at)
      where
        none-at : (j : ℕ) → j < length o.calls → last_at (pos j).owes q ≡ None
        none-at j l = test (j == p) refl
          where
            test : (b : Bool) → (j == p) ≡ b → last_at (pos j).owes q ≡ None
            test true h = (let j-is : j ≡ p = eqb-true j p h in ap (λ (z : ℕ). last_at (pos z).owes q) j-is ∙ (has.undo q ∙ ap (λ (z : Option ℕ). back z (mem.words q)) e))
            test false h =
                none-due ls o trees s mem t pos p q (act_grip s mem p d) (act-part o s mem p d a.here) a.are a.known a.all a.inside
                (record {
                  owes = λ g x apart owes. (ls.words (act_grip s mem p d) g s.world (turned-round g (act_grip s mem p d) apart)).writes_owes q k x writes owes;
                  fills = λ g apart fills. (ls.words g (act_grip s mem p d) s.world apart).fills_writes q k fills writes;
                }) j l h

pub act-table : (ls : Laws) (o : Opening) (trees : Trees) (s : State) (mem : Memory) (t : Table) (pos : ℕ → Position) (p : ℕ) (d : Does) (run : Standing) (fs : List Change) (ch : Change) (taken : Taken) (h' : Option Measure) → AtTurn o trees s mem t pos p d run
    → HasFilled o t pos p mem (all_stores fs mem) → MayAct o.machine (act_grip s mem p d) s.world (changed_all fs mem) ch → IsActTaken o.machine (changed_all fs mem) ch taken h' → (r : WordPlace) → IsIn o.machine r
    → (taken_after t taken).words (address o.machine.pages r) ≡ or_else (last_at (stores_of ch (changed_all fs mem)) r) (t.words (address o.machine.pages r))
act-table ls o trees s mem t pos p d run fs (Put q x) (Stepped st y) h' a has may is r in_r =
    ap (λ (z : WordStep). after_step t.words z (address o.machine.pages r)) is.0
    ∙ (word_put ls.places o.machine t.words (after_step t.words (step.Store (address o.machine.pages q) x)) (on_table o.machine t) q x may.0 refl (λ y in_y. refl) r in_r
    ∙ or-test (same_place r q) x (on_table o.machine t r))
act-table ls o trees s mem t pos p d run fs (PutHash q x) (Stepped st y) h' a has may is r in_r =
    let v : ℕ = x (changed_all fs mem).hand in
    ap (λ (z : WordStep). after_step t.words z (address o.machine.pages r)) is.0
    ∙ (word_put ls.places o.machine t.words (after_step t.words (step.Store (address o.machine.pages q) v)) (on_table o.machine t) q v may.0 refl (λ y in_y. refl) r in_r
    ∙ or-test (same_place r q) v (on_table o.machine t r))
act-table ls o trees s mem t pos p d run fs (Raise q more) (Stepped st y) h' a has may is r in_r =
    let here : on_table o.machine t q ≡ (changed_all fs mem).words q = sym (written-here ls o trees s mem t pos p d run fs q _ a has may.0 may.1) in
    ap (λ (z : WordStep). after_step t.words z (address o.machine.pages r)) is.0
    ∙ (word_put ls.places o.machine t.words (after_step t.words (step.Add (address o.machine.pages q) more)) (on_table o.machine t) q ((on_table o.machine t q + more) % 2 ^ 64) may.0 refl (λ y in_y. refl) r in_r
    ∙ (ap (λ (z : ℕ). put_word (on_table o.machine t) q ((z + more) % 2 ^ 64) r) here
    ∙ or-test (same_place r q) (((changed_all fs mem).words q + more) % 2 ^ 64) (on_table o.machine t r)))
act-table ls o trees s mem t pos p d run fs (Swap k made) (Swapped slot put x) h' a has may is r in_r = refl
act-table ls o trees s mem t pos p d run fs (Swap k made) (Missed slot) h' a has may is r in_r = refl
act-table ls o trees s mem t pos p d run fs (Swap k made) (Stepped st y) h' a has may is r in_r = absurd is
act-table ls o trees s mem t pos p d run fs (Put q x) (Swapped slot put y) h' a has may is r in_r = absurd is
act-table ls o trees s mem t pos p d run fs (Put q x) (Missed slot) h' a has may is r in_r = absurd is
act-table ls o trees s mem t pos p d run fs (PutHash q x) (Swapped slot put y) h' a has may is r in_r = absurd is
act-table ls o trees s mem t pos p d run fs (PutHash q x) (Missed slot) h' a has may is r in_r = absurd is
act-table ls o trees s mem t pos p d run fs (Raise q more) (Swapped slot put y) h' a has may is r in_r = absurd is
act-table ls o trees s mem t pos p d run fs (Raise q more) (Missed slot) h' a has may is r in_r = absurd is
act-table ls o trees s mem t pos p d run fs (Clear q) taken h' a has may is r in_r = absurd may
act-table ls o trees s mem t pos p d run fs (Copy q q') taken h' a has may is r in_r = absurd may
