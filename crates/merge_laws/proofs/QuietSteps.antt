-- Steps of a merge that are no events: loads of a leaf on its way, and stores that are owed after an act.
use Rattle.std.proofs.Common.{◌≡◌, ◌⊎◌, ℕ, ◌-◌, ◌<◌, Bool, true, false, ◌==◌, if◌then◌else◌, List, [], ◌∷◌, ◌++◌, length, Option, Some, None, refl, ap, sym, ◌∙◌, subst, inl, inr}
use Rattle.std.proofs.lemmas.Bool.{eqb-true}
use Rattle.td_words.specs.declared.machines.Machine.{Machine}
use Rattle.td_words.specs.Place.{WordPlace, IsIn, address, same_place}
use Rattle.mrtd_measure.specs.declared.measures.Measure.{Measure}
use Rattle.flat_core.specs.World.{World, put}
use Rattle.flat_core.specs.Processor.{Held}
use Rattle.flat_core.specs.Opening.{Opening}
use Rattle.flat_core.specs.Row.{next}
use Rattle.flat_core.specs.Event.{State}
use Rattle.flat_core.specs.Run.{bundles_in}
use Rattle.flat_core.proofs.Tests.{put_here}
use Rattle.word_rules.specs.Guards.{Grip}
use Rattle.word_rules.specs.Rules.{View, Grade, spares}
use Rattle.word_rules.specs.Views.{look}
use Rattle.word_rules.specs.Permissions.{Reads, Sees, Owes, Fills}
use Rattle.lock_words.specs.LockWords.{put_word}
use Rattle.step_core.specs.declared.steps.WordStep.TheVariants as step
use Rattle.step_core.specs.Words.{after_step}
use Rattle.step_core.specs.Items.{Table, with_slot}
use Rattle.leaf_engine.specs.declared.events.Stage.TheVariants as stages
use Rattle.leaf_engine.specs.Changes.{Memory}
use Rattle.leaf_engine.specs.Trees.{Tree, Lock, Load, Test, End, Since, feed, settle, fed, has_acted}
use Rattle.leaf_engine.specs.Means.{Task, Instant, work_of, Loads}
use Rattle.leaf_engine.specs.Decides.{IsHand}
use Rattle.leaf_engine.specs.Items.{IsLoadAt}
use Rattle.leaf_engine.specs.Turns.{Standing}
use Rattle.leaf_engine.specs.Follows.{granted, NotActed, Comes}
use Rattle.lock_words.specs.Grips.{grip_of}
use Rattle.leaf_engine.proofs.Decided.{feed-append, settled}
use Rattle.leaf_engine.proofs.Following.{leaves-follow-rows}
use Rattle.leaf_engine.proofs.Loading.{LooksRight, current-load, granted-load}
use Rattle.leaf_engine.proofs.Changing.{word_put}
use Rattle.merge_laws.proofs.Stores.{Due, last_at, or_else, first-at, not-at, laid, laid-one, laid-same, last-each, OwesAt, FillsAt}
use Rattle.merge_laws.proofs.Keeping.{Keeps, keeps-same, laid-looks}
use Rattle.merge_laws.proofs.Holding.{lock_grip_of, IsPart, same-part, locks-part, turned-round}
use Rattle.merge_laws.proofs.Standing.{RunsAt, Trees, Does, task_for, moment, act_grip, DoesHere, Laws, AreTrees, Known, on_table, Fill, Position, back, Pending, Holds, Slots, Stands}
use Rattle.merge_laws.proofs.Lines.{does-here}
use Rattle.merge_laws.proofs.Others.{at-moment, act-part, grips-apart, load-stays, fill-may}
use Rattle.merge_laws.proofs.Swaps.{SwapDue}
use Rattle.merge_laws.proofs.SlotSteps.{slots-stay, slots-swap}
use Rattle.merge_laws.proofs.Own.{at-other, grown, apart-from, FillsThere, due-at}

-- one processor is elsewhere, in the same state
pub rearranged : (ls : Laws) (o : Opening) (trees : Trees) (s : State) (mem : Memory) (t t' : Table) (pos : ℕ → Position) (p : ℕ) (now : Position) → AreTrees o trees → Known o s → Stands o trees s mem t pos → Slots o s mem.slots t'.slots (put pos p now)
    → ((k : ℕ) → k < length o.calls → (k == p) ≡ false → (q : WordPlace) (g : Grade) → IsIn o.machine q → Owes (lock_grip_of s k) s.world q g → on_table o.machine t q ≡ on_table o.machine t' q)
    → ((k : ℕ) → k < length o.calls → (k == p) ≡ false → (g : Grip) → IsPart g (grip_of s k) → (q : WordPlace) → IsIn o.machine q → Fills g s.world q → on_table o.machine t q ≡ on_table o.machine t' q)
    → now.at.beside.bundles ≡ (pos p).at.beside.bundles → Holds o trees p s.world mem.words (on_table o.machine t') (s.lps p) now
    → ((r : WordPlace) → IsIn o.machine r → mem.words r ≡ laid (length o.calls) (λ k. (put pos p now k).owes) (on_table o.machine t') r)
    → Stands o trees s mem t' (put pos p now)
rearranged ls o trees s mem t t' pos p now are known sd slots still unfilled same own laid_is = record {
  shows = sd.shows;
  hand = sd.hand;
  slots = slots;
  bundles = grown (length o.calls) pos p now (bundles_in s) (bundles_in s) (record { more = []; all = refl; own = same }) (inl refl) sd.bundles;
  holds = holds;
  laid_is = laid_is;
}
  where
    pending : (k : ℕ) → k < length o.calls → (k == p) ≡ false → (f : Option Fill) → Pending o trees k s.world mem.words (on_table o.machine t) (s.lps k) (pos k).at (pos k).owes f
        → Pending o trees k s.world mem.words (on_table o.machine t') (s.lps k) (pos k).at (pos k).owes f
    pending k j e None h = keeps-same o.machine (lock_grip_of s k) (lock_grip_of s k) s.world s.world (on_table o.machine t) (on_table o.machine t') (pos k).owes (λ q g owes. owes) (still k j e) h
    pending k j e (Some f) h =
        let here : DoesHere o s k f.does = does-here o trees s k f.does (pos k).at mem.words are known j (sd.holds k j).stands h.is in
        let may = fill-may o trees s mem t pos k f known sd here (on_table o.machine t) (pos k).at (pos k).owes h in
        record {
          is = h.is;
          at_is = h.at_is;
          runs = h.runs;
          trying = h.trying;
          rest = h.rest;
          left = h.left;
          stores = h.stores;
          there = λ r x in_r z.
              sym (unfilled k j e (act_grip s mem k f.does) (act-part o s mem k f.does here) r in_r (last-each ls.places (FillsAt o.machine (act_grip s mem k f.does) s.world) f.made r x may.made z).1) ∙ h.there r x in_r z;
          undo = h.undo;
        }

    holds : (k : ℕ) → k < length o.calls → Holds o trees k s.world mem.words (on_table o.machine t') (s.lps k) (put pos p now k)
    holds k j = by (k == p) refl
      where
        by : (b : Bool) → (k == p) ≡ b → Holds o trees k s.world mem.words (on_table o.machine t') (s.lps k) (put pos p now k)
        by true e =
            let q : p ≡ k = sym (eqb-true k p e) in
            subst (λ (z : ℕ). Holds o trees z s.world mem.words (on_table o.machine t') (s.lps z) (put pos p now z)) q
            (subst (λ (z : Position). Holds o trees p s.world mem.words (on_table o.machine t') (s.lps p) z) (sym (put_here pos p now)) own)
        by false e =
            let h = sd.holds k j in
            subst (λ (z : Position). Holds o trees k s.world mem.words (on_table o.machine t') (s.lps k) z) (sym (at-other pos p k now e))
            (record {
              stands = h.stands;
              due = pending k j e (pos k).fill h.due;
            })

-- a load finds what it looks at as memory shows it
pub loads-right : (ls : Laws) (o : Opening) (trees : Trees) (s : State) (mem : Memory) (t : Table) (pos : ℕ → Position) (p : ℕ) (d : Does) (run : Standing) (at a : ℕ) → AreTrees o trees → Known o s → Stands o trees s mem t pos → p < length o.calls
    → (pos p).owes ≡ [] → DoesHere o s p d → (ra : RunsAt (task_for o p d) d.far s.world mem.words run) → (e : run.stage ≡ stages.Trying)
    → IsLoadAt o.machine.pages (feed d.tree (ra.at.told e).told) at → a ≡ t.words at → LooksRight mem.words (feed d.tree (ra.at.told e).told) a
loads-right ls o trees s mem t pos p d run at a are known sd i none here ra e load is =
    by (feed d.tree told) (leaves-follow-rows task inst told here.means (at-moment o trees s mem t pos p d run known sd here ra e) (ra.at.told e).current) load
  where
    m : Machine
    m = o.machine

    task : Task
    task = task_for o p d

    inst : Instant
    inst = moment s mem p d

    told : List ℕ
    told = (ra.at.told e).told

    hs : List Held
    hs = granted d.tree told []

    act : Grip
    act = act_grip s mem p d

    act-of-it : IsPart act (grip_of s p)
    act-of-it = act-part o s mem p d here

    stay : (v : View) (q : WordPlace) (k : ℕ → Tree) → Loads inst (work_of task.meaning) hs v q k → Reads (grip_of s p) s.world q v ⊎ Sees act s.world q v
    stay v q k lo = load-stays o s mem p d hs v q k here (ra.at.told e).locks lo

    never : (v : View) (q : WordPlace) → Reads (grip_of s p) s.world q v ⊎ Sees act s.world q v → (j : ℕ) → j < length o.calls → (j == p) ≡ false → (g : Grade) → Owes (lock_grip_of s j) s.world q g → spares g v ≡ false → ⊥
    never v q (inl reads) j l n g owes ns =
        (ls.words (grip_of s p) (lock_grip_of s j) s.world (turned-round (lock_grip_of s j) (grip_of s p) (apart-from ls o s p j (grip_of s p) known i l n (same-part (grip_of s p))))).reads_owes q v g ns reads owes
    never v q (inr sees) j l n g owes ns =
        (ls.words act (lock_grip_of s j) s.world (turned-round (lock_grip_of s j) act (apart-from ls o s p j act known i l n act-of-it))).sees_owes q v g ns sees owes

    never-filled : (v : View) (q : WordPlace) → Reads (grip_of s p) s.world q v ⊎ Sees act s.world q v → (j : ℕ) → j < length o.calls → (j == p) ≡ false → (g : Grip) → IsPart g (grip_of s j) → Fills g s.world q → ⊥
    never-filled v q (inl reads) j l n g part fills =
        (ls.words g (grip_of s p) s.world (grips-apart ls o s j p g (grip_of s p) known l i n part (same-part (grip_of s p)))).fills_reads q v fills reads
    never-filled v q (inr sees) j l n g part fills =
        (ls.words g act s.world (grips-apart ls o s j p g act known l i n part act-of-it)).fills_sees q v fills sees

    Either : (v : View) (q : WordPlace) (j : ℕ) → Type 0
    Either v q j = (last_at (pos j).owes q ≡ None) ⊎ ((g : Grip) × (w : World) × Keeps m g w (on_table m t) (pos j).owes × ((x : Grade) → Owes g w q x → spares x v ≡ false → ⊥))

    each : (v : View) (q : WordPlace) (k : ℕ → Tree) → Loads inst (work_of task.meaning) hs v q k → (j : ℕ) → j < length o.calls → Either v q j
    each v q k lo j l = test (j == p) refl
      where
        other : (j == p) ≡ false → (f : Option Fill) → Pending o trees j s.world mem.words (on_table m t) (s.lps j) (pos j).at (pos j).owes f → Either v q j
        other h None pe = inr (lock_grip_of s j, s.world, pe, never v q (stay v q k lo) j l h)
        other h (Some f) pe = inl (pe.undo q ∙ made (last_at f.made q) refl)
          where
            there : DoesHere o s j f.does
            there = does-here o trees s j f.does (pos j).at mem.words are known l (sd.holds j l).stands pe.is

            made : (x : Option ℕ) → last_at f.made q ≡ x → back (last_at f.made q) (mem.words q) ≡ None
            made None e = ap (λ (z : Option ℕ). back z (mem.words q)) e
            made (Some x) e =
                absurd (never-filled v q (stay v q k lo) j l h (act_grip s mem j f.does) (act-part o s mem j f.does there)
                (last-each ls.places (FillsAt m (act_grip s mem j f.does) s.world) f.made q x (fill-may o trees s mem t pos j f known sd there (on_table m t) (pos j).at (pos j).owes pe).made e).1)

        test : (b : Bool) → (j == p) ≡ b → Either v q j
        test true h = (let j-is : j ≡ p = eqb-true j p h in inl (ap (λ (z : ℕ). last_at (pos z).owes q) j-is ∙ ap (λ (ds : List Due). last_at ds q) none))
        test false h = other h (pos j).fill (sd.holds j l).due

    by : (tree : Tree) → Comes m inst (work_of task.meaning) hs tree (next ((work_of task.meaning).items s.world) (length hs)) → IsLoadAt m.pages tree at → LooksRight mem.words tree a
    by (Load v q k) co l =
        let laid-is = ap (look v) (sd.laid_is q co.0) ∙ laid-looks ls.views ls.places m (length o.calls) (λ j. (pos j).owes) (on_table m t) q v (each v q k co.1) in
        ap (look v) (is ∙ ap t.words l) ∙ sym laid-is
    by (Lock l' q mode x) co l = absurd l
    by (Test b r x) co l = absurd l
    by (End r fs cs) co l = absurd l
    by (Since r cs) co l = absurd l

-- it isn't the act
abbrev pub GoesOnBehind : Tree → ℕ → Type 0
GoesOnBehind (Load v q k) a = has_acted (k (look v a)) ≡ false
GoesOnBehind _ a = ⊥

not-acted-load : (t : Tree) (told : List ℕ) (a : ℕ) → NotActed t told → GoesOnBehind (feed t told) a → NotActed t (told ++ a ∷ [])
not-acted-load (Lock l q m t) [] a n h = absurd h
not-acted-load (Lock l q m t) (y ∷ told) a n h = not-acted-load t told a n h
not-acted-load (Load v q k) [] a n h = (h, at-end (k (look v a)))
  where
    at-end : (t : Tree) → NotActed t []
    at-end (Lock l q m t) = tt
    at-end (Load v q k) = tt
    at-end (Test b r t) = λ e. at-end t
    at-end (End r fs cs) = tt
    at-end (Since r cs) = tt
not-acted-load (Load v q k) (y ∷ told) a n h = (n.0, not-acted-load (k (look v y)) told a n.1 h)
not-acted-load (Test true r t) told a n h = λ e. not-acted-load t told a (n e) h
not-acted-load (Test false r t) told a n h = λ e. cc
not-acted-load (End r fs cs) told a n h = absurd h
not-acted-load (Since r cs) told a n h = absurd h

-- the run after a load
abbrev pub loaded : Standing → ℕ → Standing
loaded run a = record run { rest = fed (settle run.rest) a }

pub told-load : (o : Opening) (p : ℕ) (d : Does) (w : World) (words : WordPlace → ℕ) (run : Standing) (a : ℕ) → (ra : RunsAt (task_for o p d) d.far w words run) → (e : run.stage ≡ stages.Trying)
    → LooksRight words (feed d.tree (ra.at.told e).told) a → GoesOnBehind (feed d.tree (ra.at.told e).told) a → RunsAt (task_for o p d) d.far w words (loaded run a)
told-load o p d w words run a ra e right on = record {
  at = record {
    stage = ra.at.stage;
    held = ra.at.held;
    told = λ h.
        let told = (ra.at.told e).told in
        let at : settle run.rest ≡ feed d.tree told = ap settle (ra.at.told e).rest ∙ settled d.tree told in
        record {
          told = told ++ a ∷ [];
          current = current-load words d.tree told a (ra.at.told e).current right;
          waits = not-acted-load d.tree told a (ra.at.told e).waits on;
          rest = ap (λ (z : Tree). feed z (a ∷ [])) at ∙ feed-append d.tree told (a ∷ []);
          locks = granted-load words d.tree told a [] right ∙ (ra.at.told e).locks;
        };
  };
  trying = ra.trying;
}

-- a store at a place where nobody else may owe or fill: others stay where they are
pub record SoleAt (o : Opening) (s : State) (p : ℕ) (at : WordPlace) : Type 0 where
  pub owes : (k : ℕ) → k < length o.calls → (k == p) ≡ false → (g : Grade) → Owes (lock_grip_of s k) s.world at g → ⊥
  pub fills : (k : ℕ) → k < length o.calls → (k == p) ≡ false → (g : Grip) → IsPart g (grip_of s k) → Fills g s.world at → ⊥

pub store-step : (ls : Laws) (o : Opening) (trees : Trees) (s : State) (mem : Memory) (t : Table) (pos : ℕ → Position) (p : ℕ) (d : Due) (now : Position) → AreTrees o trees → Known o s → Stands o trees s mem t pos → p < length o.calls → IsIn o.machine d.at → SoleAt o s p d.at
    → (let t' = record t { words = after_step t.words (step.Store (address o.machine.pages d.at) d.word) } in
    Holds o trees p s.world mem.words (on_table o.machine t') (s.lps p) now
    → ((r : WordPlace) → IsIn o.machine r → same_place r d.at ≡ true → mem.words r ≡ or_else (last_at (pos p).owes r) (on_table o.machine t r) → mem.words r ≡ or_else (last_at now.owes r) d.word)
    → ((r : WordPlace) → same_place r d.at ≡ false → last_at now.owes r ≡ last_at (pos p).owes r) → now.swaps ≡ (pos p).swaps → now.at.beside.bundles ≡ (pos p).at.beside.bundles
    → Stands o trees s mem t' (put pos p now))
store-step ls o trees s mem t pos p d now are known sd i in_d sole own here there swaps bundles = rearranged ls o trees s mem t t' pos p now are known sd (slots-stay o s mem.slots t.slots pos p now sd.slots swaps) still unfilled bundles own laid-after
  where
    m : Machine
    m = o.machine

    t' : Table
    t' = record t { words = after_step t.words (step.Store (address m.pages d.at) d.word) }

    stored-at : (r : WordPlace) → IsIn m r → on_table m t' r ≡ put_word (on_table m t) d.at d.word r
    stored-at r in_r = word_put ls.places m t.words t'.words (on_table m t) d.at d.word in_d refl (λ x in_x. refl) r in_r

    elsewhere : (r : WordPlace) → IsIn m r → (same_place r d.at ≡ true → ⊥) → on_table m t r ≡ on_table m t' r
    elsewhere r in_r not = by (same_place r d.at) refl
      where
        by : (b : Bool) → same_place r d.at ≡ b → on_table m t r ≡ on_table m t' r
        by true f = absurd (not f)
        by false f = sym (stored-at r in_r ∙ ap (λ (b : Bool). if b then d.word else on_table m t r) f)

    still : (k : ℕ) → k < length o.calls → (k == p) ≡ false → (q : WordPlace) (g : Grade) → IsIn m q → Owes (lock_grip_of s k) s.world q g → on_table m t q ≡ on_table m t' q
    still k j e q g in_q owes = elsewhere q in_q (λ f. sole.owes k j e g (subst (λ (z : WordPlace). Owes (lock_grip_of s k) s.world z g) ((ls.places.same q d.at).0 f) owes))

    unfilled : (k : ℕ) → k < length o.calls → (k == p) ≡ false → (g : Grip) → IsPart g (grip_of s k) → (q : WordPlace) → IsIn m q → Fills g s.world q → on_table m t q ≡ on_table m t' q
    unfilled k j e g part q in_q fills = elsewhere q in_q (λ f. sole.fills k j e g part (subst (λ (z : WordPlace). Fills g s.world z) ((ls.places.same q d.at).0 f) fills))

    none-else : (k : ℕ) → k < length o.calls → (k == p) ≡ false → (r : WordPlace) → same_place r d.at ≡ true → last_at (pos k).owes r ≡ None
    none-else k j e r at = by (last_at (pos k).owes r) refl
      where
        r-is : r ≡ d.at
        r-is = (ls.places.same r d.at).0 at

        either : OwesAt m (lock_grip_of s k) s.world r ⊎ FillsThere m s k r → last_at (pos k).owes r ≡ None
        either (inl owed) = absurd (sole.owes k j e owed.1.0 (subst (λ (z : WordPlace). Owes (lock_grip_of s k) s.world z owed.1.0) r-is owed.1.1))
        either (inr filled) = absurd (sole.fills k j e filled.grip filled.part (subst (λ (z : WordPlace). Fills filled.grip s.world z) r-is filled.fills.1))

        by : (x : Option ℕ) → last_at (pos k).owes r ≡ x → last_at (pos k).owes r ≡ None
        by None f = f
        by (Some x) f = either (due-at ls o trees s mem t pos k r x are known sd j f)

    laid-after : (r : WordPlace) → IsIn m r → mem.words r ≡ laid (length o.calls) (λ k. (put pos p now k).owes) (on_table m t') r
    laid-after r in_r = by (same_place r d.at) refl
      where
        other : (k : ℕ) → (k == p) ≡ false → last_at (put pos p now k).owes r ≡ last_at (pos k).owes r
        other k e = ap (λ (z : Position). last_at z.owes r) (at-other pos p k now e)

        mine : last_at (put pos p now p).owes r ≡ last_at now.owes r
        mine = ap (λ (z : Position). last_at z.owes r) (put_here pos p now)

        by : (b : Bool) → same_place r d.at ≡ b → mem.words r ≡ laid (length o.calls) (λ k. (put pos p now k).owes) (on_table m t') r
        by true e =
            here r in_r e (sd.laid_is r in_r ∙ laid-one (length o.calls) p (λ k. (pos k).owes) (on_table m t) r i (λ k j f. none-else k j f r e))
            ∙ (ap (or_else (last_at now.owes r)) (sym (stored-at r in_r ∙ ap (λ (b : Bool). if b then d.word else on_table m t r) e))
            ∙ sym (laid-one (length o.calls) p (λ k. (put pos p now k).owes) (on_table m t') r i (λ k j f. other k f ∙ none-else k j f r e) ∙ ap (λ (z : Option ℕ). or_else z (on_table m t' r)) mine))
        by false e =
            sd.laid_is r in_r
            ∙ laid-same (length o.calls) (λ k. (pos k).owes) (λ k. (put pos p now k).owes) (on_table m t) (on_table m t') r same
            (sym (stored-at r in_r ∙ ap (λ (b : Bool). if b then d.word else on_table m t r) e))
          where
            same : (k : ℕ) → k < length o.calls → last_at (pos k).owes r ≡ last_at (put pos p now k).owes r
            same k j = test (k == p) refl
              where
                test : (b : Bool) → (k == p) ≡ b → last_at (pos k).owes r ≡ last_at (put pos p now k).owes r
                test true f =
                    let k-is : k ≡ p = eqb-true k p f in
                    subst (λ (z : ℕ). last_at (pos z).owes r ≡ last_at (put pos p now z).owes r) (sym k-is) (sym (mine ∙ there r e))
                test false f = sym (other k f)

-- the first store that is owed is made
pub owed-step : (ls : Laws) (o : Opening) (trees : Trees) (s : State) (mem : Memory) (t : Table) (pos : ℕ → Position) (p : ℕ) (d : Due) (ds : List Due) → AreTrees o trees → Known o s → Stands o trees s mem t pos → p < length o.calls
    → (pos p).owes ≡ d ∷ ds → (pos p).fill ≡ None → Stands o trees s mem (record t { words = after_step t.words (step.Store (address o.machine.pages d.at) d.word) }) (put pos p (record { at = (pos p).at; owes = ds; swaps = (pos p).swaps; fill = None }))
owed-step ls o trees s mem t pos p d ds are known sd i is plain =
    store-step ls o trees s mem t pos p d now are known sd i owed.0.0
    (record {
      owes = λ k j e g owes. (ls.words (lock_grip_of s k) mine s.world (apart-from ls o s p k mine known i j e (locks-part s p))).owes_owes d.at g owed.0.1.0 owes owed.0.1.1;
      fills = λ k j e g part fills. (ls.words g mine s.world (grips-apart ls o s k p g mine known j i e part (locks-part s p))).fills_owes d.at owed.0.1.0 fills owed.0.1.1;
    })
    (record { stands = (sd.holds p i).stands; due = kept })
    (λ r in_r e was. was ∙ (ap (λ (z : List Due). or_else (last_at z r) (on_table m t r)) is ∙ first-at (last_at ds r) (same_place r d.at) d.word (on_table m t r) e))
    (λ r e. sym (ap (λ (z : List Due). last_at z r) is ∙ not-at (last_at ds r) (same_place r d.at) d.word e)) refl refl
  where
    m : Machine
    m = o.machine

    t' : Table
    t' = record t { words = after_step t.words (step.Store (address m.pages d.at) d.word) }

    now : Position
    now = record { at = (pos p).at; owes = ds; swaps = (pos p).swaps; fill = None }

    mine : Grip
    mine = lock_grip_of s p

    owed : Keeps m mine s.world (on_table m t) (d ∷ ds)
    owed =
        subst (λ (z : List Due). Keeps m mine s.world (on_table m t) z) is
        (subst (λ (f : Option Fill). Pending o trees p s.world mem.words (on_table m t) (s.lps p) (pos p).at (pos p).owes f) plain (sd.holds p i).due)

    kept : Keeps m mine s.world (on_table m t') ds
    kept = keeps-same m mine mine s.world s.world (put_word (on_table m t) d.at d.word) (on_table m t') ds (λ q g x. x)
        (λ q g in_q x. sym (word_put ls.places m t.words t'.words (on_table m t) d.at d.word owed.0.0 refl (λ y in_y. refl) q in_q)) owed.1

-- the first swap that is owed is made
pub swap-step : (ls : Laws) (o : Opening) (trees : Trees) (s : State) (mem : Memory) (t : Table) (pos : ℕ → Position) (p : ℕ) (d : SwapDue) (ds : List SwapDue) (made : Option Measure) → AreTrees o trees → Known o s → Stands o trees s mem t pos → p < length o.calls
    → (pos p).swaps ≡ d ∷ ds → (pos p).fill ≡ None → IsHand made d.put
    → Stands o trees s mem (record t { slots = with_slot t.slots (d.hkid - 1) made }) (put pos p (record { at = (pos p).at; owes = (pos p).owes; swaps = ds; fill = None }))
swap-step ls o trees s mem t pos p d ds made are known sd i is plain put_is =
    rearranged ls o trees s mem t t' pos p now are known sd (slots-swap ls o trees s mem t pos p d ds made now known sd i is refl put_is) (λ k j e q g in_q owes. refl) (λ k j e g part q in_q fills. refl) refl
    (record {
      stands = (sd.holds p i).stands;
      due = subst (λ (f : Option Fill). Pending o trees p s.world mem.words (on_table m t) (s.lps p) (pos p).at (pos p).owes f) plain (sd.holds p i).due;
    })
    (λ r in_r. sd.laid_is r in_r ∙ laid-same (length o.calls) (λ k. (pos k).owes) (λ k. (put pos p now k).owes) (on_table m t) (on_table m t) r (λ k j. same k r (k == p) refl) refl)
  where
    m : Machine
    m = o.machine

    t' : Table
    t' = record t { slots = with_slot t.slots (d.hkid - 1) made }

    now : Position
    now = record { at = (pos p).at; owes = (pos p).owes; swaps = ds; fill = None }

    same : (k : ℕ) (r : WordPlace) → (b : Bool) → (k == p) ≡ b → last_at (pos k).owes r ≡ last_at (put pos p now k).owes r
    same k r true e =
        let k-is : k ≡ p = eqb-true k p e in
        subst (λ (z : ℕ). last_at (pos z).owes r ≡ last_at (put pos p now z).owes r) (sym k-is) (sym (ap (λ (z : Position). last_at z.owes r) (put_here pos p now)))
    same k r false e = sym (ap (λ (z : Position). last_at z.owes r) (at-other pos p k now e))
