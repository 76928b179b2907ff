-- A leaf that stores before its act: its fills, store by store, and then its act.
use Rattle.mrtd_measure.specs.declared.measures.Measure.{Measure}
use Rattle.std.proofs.Common.{◌≡◌, ℕ, ◌<◌, Bool, true, false, ◌==◌, if◌then◌else◌, List, [], ◌∷◌, ◌++◌, map, length, Option, Some, None, refl, ap, sym, ◌∙◌, subst, append_assoc, ◌-◌, ◌⊎◌, inl, inr}
use Rattle.std.proofs.lemmas.Bool.{eqb-true}
use Rattle.std.proofs.lemmas.List.{append-nil}
use Rattle.td_words.specs.declared.machines.Machine.{Machine}
use Rattle.td_words.specs.Place.{WordPlace, IsIn, address, same_place}
use Rattle.flat_core.specs.World.{put}
use Rattle.flat_core.specs.Opening.{Opening}
use Rattle.flat_core.specs.Event.{State}
use Rattle.flat_core.proofs.Tests.{put_here}
use Rattle.word_rules.specs.Guards.{Grip}
use Rattle.word_rules.specs.Rules.{Grade, KeepsNothing, KeepsPage, KeepsRights, Whole, spares}
use Rattle.word_rules.specs.Permissions.{Reads}
use Rattle.lock_words.specs.LockWords.{put_word}
use Rattle.step_core.specs.declared.steps.WordStep.{WordStep}
use Rattle.step_core.specs.declared.steps.WordStep.TheVariants as step
use Rattle.step_core.specs.Words.{after_step}
use Rattle.step_core.specs.Items.{Table}
use Rattle.step_core.specs.declared.items.Taken.{Taken}
use Rattle.step_core.specs.declared.items.Taken.TheVariants.{Stepped, Swapped, Missed}
use Rattle.leaf_engine.specs.declared.events.Event.TheVariants as events
use Rattle.leaf_engine.specs.declared.events.Stage.TheVariants as stages
use Rattle.leaf_engine.specs.declared.needs.Need.TheVariants as need
use Rattle.leaf_engine.specs.Changes.{Memory, Change, changed, changed_all}
use Rattle.leaf_engine.specs.Trees.{Tree, End, feed, settle}
use Rattle.leaf_engine.specs.Decides.{Wants, IsHand}
use Rattle.leaf_engine.specs.Means.{MayFillAll, IsHkid}
use Rattle.leaf_engine.specs.Items.{IsChanged, AreChanged}
use Rattle.leaf_engine.specs.Turns.{Standing, standing}
use Rattle.leaf_engine.specs.OwnLists.{Piece, Unmarked, Marked, Wordless, joined, marked_behind, WordLp}
use Rattle.leaf_engine.proofs.Changing.{word_put}
use Rattle.merge_laws.specs.Merge.{taken_after}
use Rattle.merge_laws.proofs.Stores.{Due, due, last_at, later, or_else, laid-none, laid-same, last-append, all_stores}
use Rattle.merge_laws.proofs.Swaps.{last_put}
use Rattle.merge_laws.proofs.Owing.{owed-items}
use Rattle.merge_laws.proofs.SlotSteps.{slots-stay}
use Rattle.merge_laws.proofs.Filling.{Todo, Puts, Takes, all_todos, AreTodos, dues_of, EachTodo, EachTaken, dues-alike, fills-due}
use Rattle.lock_words.specs.Grips.{grip_of}
use Rattle.leaf_engine.specs.Means.{work_of}
use Rattle.merge_laws.proofs.Others.{act-part, grips-apart, FillMay, fill-may, FillTakes, fill-takes}
use Rattle.merge_laws.proofs.Holding.{lock_grip_of, IsPart, same-part, turned-round}
use Rattle.merge_laws.proofs.Standing.{AreLeft, AreLeftLoaded, Trees, Does, act_grip, TurnsTo, Laws, Fill, Position, seen_by, back, FillHolds, RestFilling, on_table, Stands}
use Rattle.merge_laws.proofs.Own.{at-other, apart-from, none-due}
use Rattle.merge_laws.proofs.Ending.{AtEnd, filled_of, first_of, owes_of, puts_of, swaps_left, HasFilled, fills-rest}
use Rattle.merge_laws.proofs.QuietSteps.{rearranged, store-step}
use Rattle.merge_laws.proofs.Pieces.{AtTurn, Came, came-as, answers-as, PieceAnswers}
use Rattle.merge_laws.proofs.EndPieces.{ItsEndMay, end-may, end-moved, rest-owed, act-item, act-rest, slot-seen, hand-as, act-table}
use Rattle.merge_laws.proofs.Turns.{told-tree}

-- it stays where it is, but for its fills
abbrev pub filling_at : List Due → Fill → Position
filling_at owes f = record { at = f.does.within f.run; owes = owes; swaps = []; fill = Some f }

-- what holds of it there
abbrev pub FillHere : Opening → Trees → State → Memory → Table → (ℕ → Position) → ℕ → Fill → Type 0
FillHere o trees s mem t pos p f = FillHolds o trees p s.world mem.words (on_table o.machine t) (s.lps p) (f.does.within f.run) (pos p).owes f

-- what is left once a store is made, and once a word is loaded
stored-left : (all left : List Todo) (d : Due) (ts : List Todo) → left ≡ Puts d ∷ ts → AreLeft all left ⊎ AreLeftLoaded all left → AreLeft all ts
stored-left all left d ts e (inl l) = record { done = l.done ++ Puts d ∷ []; is = l.is ∙ (ap (λ (z : List Todo). l.done ++ z) e ∙ sym (append_assoc l.done (Puts d ∷ []) ts)) }
stored-left all left d ts e (inr l) =
    let both : Puts d ∷ ts ≡ Puts (due l.at l.word) ∷ l.further = sym e ∙ l.left_is in
    let same : l.further ≡ ts = cc in
    record { done = l.done ++ Takes l.from l.at ∷ []; is = l.is ∙ (ap (λ (z : List Todo). l.done ++ Takes l.from l.at ∷ z) same ∙ sym (append_assoc l.done (Takes l.from l.at ∷ []) ts)) }

loaded-left : (all left : List Todo) (from at : WordPlace) (x : ℕ) (ts : List Todo) → left ≡ Takes from at ∷ ts → AreLeft all left ⊎ AreLeftLoaded all left → AreLeftLoaded all (Puts (due at x) ∷ ts)
loaded-left all left from at x ts e (inl l) = record { done = l.done; from = from; at = at; word = x; further = ts; is = l.is ∙ ap (λ (z : List Todo). l.done ++ z) e; left_is = refl }
loaded-left all left from at x ts e (inr l) = (let bad : Takes from at ∷ ts ≡ Puts (due l.at l.word) ∷ l.further = sym e ∙ l.left_is in cc)

seen-more : (made : List Due) (d : Due) (words : WordPlace → ℕ) (r : WordPlace) → seen_by (made ++ d ∷ []) words r ≡ put_word (seen_by made words) d.at d.word r
seen-more made d words r = ap (λ (z : Option ℕ). or_else z (words r)) (last-append made (d ∷ []) r) ∙ by (same_place r d.at) (last_at made r)
  where
    by : (b : Bool) (x : Option ℕ) → or_else (later (if b then Some d.word else None) x) (words r) ≡ (if b then d.word else or_else x (words r))
    by true x = refl
    by false x = refl

-- one store of it
fill-store : (ls : Laws) (o : Opening) (trees : Trees) (s : State) (mem : Memory) (t : Table) (pos : ℕ → Position) (p : ℕ) (f : Fill) (d : Due) (ts : List Todo) → (a : AtTurn o trees s mem t pos p f.does f.run)
    → f.left ≡ Puts d ∷ ts → FillHere o trees s mem t pos p f
    → Stands o trees s mem (record t { words = after_step t.words (step.Store (address o.machine.pages d.at) d.word) })
    (put pos p (filling_at ((pos p).owes ++ due d.at (mem.words d.at) ∷ []) (record f { made = f.made ++ d ∷ []; left = ts })))
fill-store ls o trees s mem t pos p f d ts a left h =
    store-step ls o trees s mem t pos p d now a.are a.known a.all a.inside may.0.0
    (record {
      owes = λ k j e g owes. (ls.words act (lock_grip_of s k) s.world (turned-round (lock_grip_of s k) act (apart-from ls o s p k act a.known a.inside j e part))).fills_owes d.at g may.0.1 owes;
      fills = λ k j e g theirs fills. (ls.words g act s.world (grips-apart ls o s k p g act a.known j a.inside e theirs part)).fills_fills d.at fills may.0.1;
    })
    (record {
      stands = a.leads.within_stands mem.words f.run a.runs h.trying;
      due = record {
        is = h.is;
        at_is = refl;
        runs = h.runs;
        trying = h.trying;
        rest = h.rest;
        left = inl (stored-left (all_todos f.fills) f.left d ts left h.left);
        stores =
            append_assoc f.made (d ∷ []) (dues_of ts (seen_by (f.made ++ d ∷ []) mem.words))
            ∙ (ap (λ (z : List Due). f.made ++ d ∷ z) (dues-alike m act s.world ts (seen_by (f.made ++ d ∷ []) mem.words) (put_word (seen_by f.made mem.words) d.at d.word) may.1 (λ q in_q. seen-more f.made d mem.words q))
            ∙ (ap (λ (z : List Todo). f.made ++ dues_of z (seen_by f.made mem.words)) (sym left) ∙ h.stores));
        there = there;
        undo = undo;
      };
    })
    (λ r in_r e was. ap mem.words ((ls.places.same r d.at).0 e) ∙ sym (ap (λ (z : Option ℕ). or_else z d.word) (undone r ∙ ap (λ (b : Bool). later (if b then Some (mem.words d.at) else None) (last_at (pos p).owes r)) e)))
    (λ r e. undone r ∙ ap (λ (b : Bool). later (if b then Some (mem.words d.at) else None) (last_at (pos p).owes r)) e) (sym a.no_swaps) (a.leads.within_bundles f.run ∙ a.bundles)
  where
    m : Machine
    m = o.machine

    act : Grip
    act = act_grip s mem p f.does

    part : IsPart act (grip_of s p)
    part = act-part o s mem p f.does a.here

    t' : Table
    t' = record t { words = after_step t.words (step.Store (address m.pages d.at) d.word) }

    now : Position
    now = filling_at ((pos p).owes ++ due d.at (mem.words d.at) ∷ []) (record f { made = f.made ++ d ∷ []; left = ts })

    may : EachTodo m act s.world (Puts d ∷ ts)
    may = subst (λ (z : List Todo). EachTodo m act s.world z) left (fill-may o trees s mem t pos p f a.known a.all a.here (on_table m t) (f.does.within f.run) (pos p).owes h).left

    undone : (r : WordPlace) → last_at ((pos p).owes ++ due d.at (mem.words d.at) ∷ []) r ≡ later (if same_place r d.at then Some (mem.words d.at) else None) (last_at (pos p).owes r)
    undone r = last-append (pos p).owes (due d.at (mem.words d.at) ∷ []) r

    made-more : (r : WordPlace) → last_at (f.made ++ d ∷ []) r ≡ later (if same_place r d.at then Some d.word else None) (last_at f.made r)
    made-more r = last-append f.made (d ∷ []) r

    stored-at : (r : WordPlace) → IsIn m r → on_table m t' r ≡ put_word (on_table m t) d.at d.word r
    stored-at r in_r = word_put ls.places m t.words t'.words (on_table m t) d.at d.word may.0.0 refl (λ x in_x. refl) r in_r

    there : (r : WordPlace) (x : ℕ) → IsIn m r → last_at (f.made ++ d ∷ []) r ≡ Some x → on_table m t' r ≡ x
    there r x in_r e = by (same_place r d.at) refl
      where
        by : (b : Bool) → same_place r d.at ≡ b → on_table m t' r ≡ x
        by true z =
            let last : Some d.word ≡ Some x = sym (made-more r ∙ ap (λ (b : Bool). later (if b then Some d.word else None) (last_at f.made r)) z) ∙ e in
            let w : d.word ≡ x = cc in
            stored-at r in_r ∙ (ap (λ (b : Bool). if b then d.word else on_table m t r) z ∙ w)
        by false z =
            let last : last_at f.made r ≡ Some x = sym (made-more r ∙ ap (λ (b : Bool). later (if b then Some d.word else None) (last_at f.made r)) z) ∙ e in
            stored-at r in_r ∙ (ap (λ (b : Bool). if b then d.word else on_table m t r) z ∙ h.there r x in_r last)

    undo : (r : WordPlace) → last_at ((pos p).owes ++ due d.at (mem.words d.at) ∷ []) r ≡ back (last_at (f.made ++ d ∷ []) r) (mem.words r)
    undo r = undone r ∙ (by (same_place r d.at) refl ∙ ap (λ (z : Option ℕ). back z (mem.words r)) (sym (made-more r)))
      where
        by : (b : Bool) → same_place r d.at ≡ b
            → later (if same_place r d.at then Some (mem.words d.at) else None) (last_at (pos p).owes r) ≡ back (later (if same_place r d.at then Some d.word else None) (last_at f.made r)) (mem.words r)
        by true e =
            let r-is : d.at ≡ r = sym ((ls.places.same r d.at).0 e) in
            ap (λ (b : Bool). later (if b then Some (mem.words d.at) else None) (last_at (pos p).owes r)) e
            ∙ (ap (λ (z : WordPlace). Some (mem.words z)) r-is ∙ sym (ap (λ (b : Bool). back (later (if b then Some d.word else None) (last_at f.made r)) (mem.words r)) e))
        by false e =
            ap (λ (b : Bool). later (if b then Some (mem.words d.at) else None) (last_at (pos p).owes r)) e
            ∙ (h.undo r ∙ sym (ap (λ (b : Bool). back (later (if b then Some d.word else None) (last_at f.made r)) (mem.words r)) e))

never-spared : (k : Grade) → spares k Whole ≡ false
never-spared KeepsNothing = refl
never-spared KeepsPage = refl
never-spared KeepsRights = refl

-- one word that it copies is loaded, as it sees it
fill-seen : (ls : Laws) (o : Opening) (trees : Trees) (s : State) (mem : Memory) (t : Table) (pos : ℕ → Position) (p : ℕ) (f : Fill) (q : WordPlace) → AtTurn o trees s mem t pos p f.does f.run
    → FillHere o trees s mem t pos p f → IsIn o.machine q → Reads (grip_of s p) s.world q Whole → on_table o.machine t q ≡ seen_by f.made mem.words q
fill-seen ls o trees s mem t pos p f q a h in_q reads = by (last_at f.made q) refl
  where
    all : Grip
    all = grip_of s p

    by : (x : Option ℕ) → last_at f.made q ≡ x → on_table o.machine t q ≡ seen_by f.made mem.words q
    by (Some x) e = h.there q x in_q e ∙ sym (ap (λ (z : Option ℕ). or_else z (mem.words q)) e)
    by None e =
        sym (ap (λ (z : Option ℕ). or_else z (mem.words q)) e
        ∙ (a.all.laid_is q in_q ∙ laid-none (length o.calls) (λ k. (pos k).owes) (on_table o.machine t) q none-at))
      where
        none-at : (k : ℕ) → k < length o.calls → last_at (pos k).owes q ≡ None
        none-at k j = test (k == p) refl
          where
            test : (b : Bool) → (k == p) ≡ b → last_at (pos k).owes q ≡ None
            test true z = (let k-is : k ≡ p = eqb-true k p z in ap (λ (y : ℕ). last_at (pos y).owes q) k-is ∙ (h.undo q ∙ ap (λ (y : Option ℕ). back y (mem.words q)) e))
            test false z =
                none-due ls o trees s mem t pos p q all (same-part all) a.are a.known a.all a.inside
                (record {
                  owes = λ g x apart owes. (ls.words all g s.world (turned-round g all apart)).reads_owes q Whole x (never-spared x) reads owes;
                  fills = λ g apart fills. (ls.words g all s.world apart).fills_reads q Whole fills reads;
                }) k j z

-- the act behind its fills
act-piece : (ls : Laws) (o : Opening) (trees : Trees) (s : State) (mem : Memory) (t : Table) (pos : ℕ → Position) (p : ℕ) (after : Standing) (f : Fill) (act : List Taken) (tps : List (List Piece)) (end_ : WordLp)
    (piece : Piece) (ps : List Piece) → (a : AtTurn o trees s mem t pos p f.does f.run) → f.left ≡ [] → FillHere o trees s mem t pos p f
    → (hasher : Option Measure) → AreChanged o.machine f.changes None act hasher → after ≡ standing (End f.answer f.fills f.changes) (stages.Answered f.answer.reply) f.run.held hasher
    → TurnsTo o trees p (f.does.after events.Act after) tps end_
    → marked_behind 0 act ++ joined tps ≡ piece ∷ ps → PieceAnswers t piece → Came o trees p s t pos piece ps end_
act-piece ls o trees s mem t pos p after f act tps end_ piece ps a left h hasher ch after_is own hd an = by f.changes refl
  where
    m : Machine
    m = o.machine

    d : Does
    d = f.does

    act-of : Grip
    act-of = act_grip s mem p d

    st : f.run.stage ≡ stages.Trying
    st = h.trying

    told : List ℕ
    told = (a.runs.at.told st).told

    tree-is : feed d.tree told ≡ End f.answer f.fills f.changes
    tree-is = sym (told-tree o trees s mem t pos p d f.run a st) ∙ ap settle h.rest

    en : AtEnd o mem d told told f.answer.reply f.run after events.Act
    en = record {
      current = (a.runs.at.told st).current;
      locks = refl;
      gives = subst (λ (z : Tree). Wants m.pages z (need.Verdict f.answer.reply)) (sym tree-is) refl;
      answered = ap (λ (z : Standing). z.stage) after_is;
      held = ap (λ (z : Standing). z.held) after_is;
      act = refl;
      rest_is = ap (λ (z : Standing). z.rest) after_is ∙ sym tree-is;
    }

    hasher-is : after.hasher ≡ hasher
    hasher-is = ap (λ (z : Standing). z.hasher) after_is

    may : ItsEndMay o s mem p d (End f.answer f.fills f.changes)
    may = subst (λ (z : Tree). ItsEndMay o s mem p d z) tree-is (end-may o trees s mem t pos p d told f.answer.reply f.run after events.Act a st en)

    fills-may : (ds : List Change) → ItsEndMay o s mem p d (End f.answer f.fills ds) → MayFillAll m act-of s.world f.fills
    fills-may [] e = e
    fills-may (c1 ∷ ds) e = e.0

    made-is : f.made ≡ all_stores f.fills mem
    made-is =
        sym (append-nil f.made)
        ∙ (ap (λ (z : List Todo). f.made ++ dues_of z (seen_by f.made mem.words)) (sym left) ∙ (h.stores ∙ fills-due ls.places m act-of s.world f.fills mem (fills-may f.changes may)))

    has : HasFilled o t pos p mem (all_stores f.fills mem)
    has = record {
      there = λ r x in_r e. h.there r x in_r (ap (λ (ds : List Due). last_at ds r) made-is ∙ e);
      undo = λ r. h.undo r ∙ ap (λ (ds : List Due). back (last_at ds r) (mem.words r)) made-is;
    }

    has-tree : HasFilled o t pos p mem (filled_of (feed d.tree told) mem)
    has-tree = subst (λ (z : Tree). HasFilled o t pos p mem (filled_of z mem)) (sym tree-is) has

    fills : MayFillAll m act-of s.world f.fills
    fills = fills-may f.changes may

    rest-1 : ((changed_all f.fills mem).slots ≡ mem.slots) × ((changed_all f.fills mem).hand ≡ mem.hand)
    rest-1 = fills-rest m act-of s.world f.fills mem fills

    empty : IsHand None (changed_all f.fills mem).hand
    empty = hand-as None None (changed_all f.fills mem).hand None refl (rest-1.1 ∙ a.all.hand) tt

    by : (ds : List Change) → f.changes ≡ ds → Came o trees p s t pos piece ps end_
    by [] e =
        let two = subst (λ (z : List Change). AreChanged m z None act hasher) e ch in
        let none : act ≡ [] = two.1 in
        let hd' : Wordless ∷ joined tps ≡ piece ∷ ps = ap (λ (z : List Taken). marked_behind 0 z ++ joined tps) (sym none) ∙ hd in
        let ended : feed d.tree told ≡ End f.answer f.fills [] = tree-is ∙ ap (End f.answer f.fills) e in
        let moved = end-moved ls o trees s mem t t pos p d told f.answer.reply f.run after events.Act a st en has-tree
        (λ y in_y. ap (λ (z : Tree). or_else (last_at (first_of z mem) y) (t.words (address m.pages y))) {x = End f.answer f.fills []} {y = feed d.tree told} (sym ended))
        (subst (λ (z : Tree). (k : ℕ) → IsHkid m k → IsHand (t.slots (k - 1)) (or_else (last_put (puts_of z mem) k) (a.all.slots.now k))) (sym ended) a.all.slots.there) in
        came-as o trees p s t pos Wordless piece (joined tps) ps end_ hd'
        (record {
          memory = moved.memory;
          now = record { at = d.after events.Act after; owes = owes_of (feed d.tree told) mem; swaps = swaps_left (feed d.tree told) mem; fill = None };
          stands = moved.stands;
          rest = rest-owed o trees s p d events.Act after (feed d.tree told) (End f.answer f.fills []) mem [] None None (changed_all f.fills mem).hand tps end_ a.leads ended empty (λ i. (refl, i)) (hasher-is ∙ two.0) own;
        })
    by (c1 ∷ ds) e =
        let ended : feed d.tree told ≡ End f.answer f.fills (c1 ∷ ds) = tree-is ∙ ap (End f.answer f.fills) e in
        let all = subst (λ (z : List Change). AreChanged m z None act hasher) e ch in
        let allowed = subst (λ (z : List Change). ItsEndMay o s mem p d (End f.answer f.fills z)) e may in
        let zs : List Taken = all.1.1.0 in
        let mem1 : Memory = changed_all f.fills mem in
        let one : IsChanged m c1 None all.1.0 all.0 = all.1.1.2 in
        let item = act-item m act-of s.world mem1 c1 all.1.0 None all.0 allowed.1.0 one empty in
        let x : Taken = item.taken in
        let acted : act ≡ x ∷ zs = all.1.1.1 ∙ ap (λ (z : List Taken). z ++ zs) item.items in
        let hd' : Marked x ∷ (map Unmarked zs ++ joined tps) ≡ piece ∷ ps = ap (λ (z : List Taken). marked_behind 0 z ++ joined tps) (sym acted) ∙ hd in
        let answers = answers-as t (Marked x) piece (map Unmarked zs ++ joined tps) ps hd' an in
        let slots = act-rest m act-of s.world mem1 t c1 x all.0 a.all.slots.now allowed.1.0 item.is answers (slot-seen ls o trees s mem t pos p d f.run mem1.slots a rest-1.0) a.all.slots.there in
        let moved = end-moved ls o trees s mem t (taken_after t x) pos p d told f.answer.reply f.run after events.Act a st en has-tree
        (λ y in_y. act-table ls o trees s mem t pos p d f.run f.fills c1 x all.0 a has allowed.1.0 item.is y in_y
        ∙ ap (λ (z : Tree). or_else (last_at (first_of z mem) y) (t.words (address m.pages y))) {x = End f.answer f.fills (c1 ∷ ds)} {y = feed d.tree told} (sym ended))
        (subst (λ (z : Tree). (k : ℕ) → IsHkid m k → IsHand ((taken_after t x).slots (k - 1)) (or_else (last_put (puts_of z mem) k) (a.all.slots.now k))) (sym ended) slots.1) in
        came-as o trees p s t pos (Marked x) piece (map Unmarked zs ++ joined tps) ps end_ hd'
        (record {
          memory = moved.memory;
          now = record { at = d.after events.Act after; owes = owes_of (feed d.tree told) mem; swaps = swaps_left (feed d.tree told) mem; fill = None };
          stands = moved.stands;
          rest = rest-owed o trees s p d events.Act after (feed d.tree told) (End f.answer f.fills (c1 ∷ ds)) mem zs all.0 hasher (changed c1 mem1).hand tps end_ a.leads ended slots.0
              (owed-items m (lock_grip_of s p) ((work_of d.meaning).act s.world) (changed c1 mem1) ds all.0 hasher zs allowed.1.1 all.1.1.3) hasher-is own;
        })

-- the next piece of a leaf that fills
pub fill-piece : (ls : Laws) (o : Opening) (trees : Trees) (s : State) (mem : Memory) (t : Table) (pos : ℕ → Position) (p : ℕ) (f : Fill) (end_ : WordLp) (piece : Piece) (ps : List Piece)
    → AtTurn o trees s mem t pos p f.does f.run → FillHere o trees s mem t pos p f → RestFilling o trees p (pos p).swaps f (piece ∷ ps) end_ → PieceAnswers t piece
    → Came o trees p s t pos piece ps end_
fill-piece ls o trees s mem t pos p f end_ piece ps a h rest an = by rest.stores f.left refl rest.are rest.pieces
  where
    m : Machine
    m = o.machine

    act : Grip
    act = act_grip s mem p f.does

    fill-takes-here : FillTakes (grip_of s p) s.world f
    fill-takes-here = fill-takes o trees s mem t pos p f a.known a.all a.here (on_table m t) (f.does.within f.run) (pos p).owes h

    fill-may-here : FillMay m act s.world mem.words f
    fill-may-here = fill-may o trees s mem t pos p f a.known a.all a.here (on_table m t) (f.does.within f.run) (pos p).owes h

    tail : List Piece
    tail = marked_behind 0 rest.act ++ joined rest.turns

    by : (stores : List Taken) (left : List Todo) → f.left ≡ left → AreTodos m.pages stores left → piece ∷ ps ≡ map Unmarked stores ++ tail → Came o trees p s t pos piece ps end_
    by [] [] q are e = act-piece ls o trees s mem t pos p rest.after f rest.act rest.turns end_ piece ps a q h rest.hasher rest.changed rest.after_is rest.own (sym e) an
    by [] (Puts d ∷ ts) q are e = absurd are
    by [] (Takes fr at ∷ ts) q are e = absurd are
    by (Stepped w x ∷ xs) [] q are e = absurd are
    by (Swapped k u v ∷ xs) left q are e = absurd are
    by (Missed k ∷ xs) left q are e = absurd are
    by (Stepped w x ∷ xs) (Puts d ∷ ts) q are e =
        let y : Taken = Stepped (step.Store (address m.pages d.at) d.word) x in
        let h' : Unmarked y ∷ (map Unmarked xs ++ tail) ≡ piece ∷ ps = ap (λ (z : WordStep). Unmarked (Stepped z x) ∷ (map Unmarked xs ++ tail)) (sym are.0) ∙ sym e in
        came-as o trees p s t pos (Unmarked y) piece (map Unmarked xs ++ tail) ps end_ h'
        (record {
          memory = mem;
          now = filling_at ((pos p).owes ++ due d.at (mem.words d.at) ∷ []) (record f { made = f.made ++ d ∷ []; left = ts });
          stands = fill-store ls o trees s mem t pos p f d ts a q h;
          rest = record { no_swaps = refl; stores = xs; act = rest.act; turns = rest.turns; are = are.1; hasher = rest.hasher; changed = rest.changed; pieces = refl; after = rest.after; after_is = rest.after_is; own = rest.own };
        })
    by (Stepped w x ∷ []) (Takes fr at ∷ ts) q are e = absurd are
    by (Stepped w x ∷ (Swapped k u v ∷ xs)) (Takes fr at ∷ ts) q are e = absurd are
    by (Stepped w x ∷ (Missed k ∷ xs)) (Takes fr at ∷ ts) q are e = absurd are
    by (Stepped w x ∷ (Stepped w' b ∷ xs)) (Takes fr at ∷ ts) q are e =
        let y : Taken = Stepped (step.Load (address m.pages fr)) x in
        let xs' : List Taken = Stepped w' b ∷ xs in
        let h' : Unmarked y ∷ (map Unmarked xs' ++ tail) ≡ piece ∷ ps = ap (λ (z : WordStep). Unmarked (Stepped z x) ∷ (map Unmarked xs' ++ tail)) (sym are.0) ∙ sym e in
        let may : EachTodo m act s.world (Takes fr at ∷ ts) = subst (λ (z : List Todo). EachTodo m act s.world z) q fill-may-here.left in
        let taken : EachTaken (λ r. Reads (grip_of s p) s.world r Whole) (Takes fr at ∷ ts) = subst (λ (z : List Todo). EachTaken (λ r. Reads (grip_of s p) s.world r Whole) z) q fill-takes-here.left in
        let seen : x ≡ seen_by f.made mem.words fr = answers-as t (Unmarked y) piece (map Unmarked xs' ++ tail) ps h' an ∙ fill-seen ls o trees s mem t pos p f fr a h may.0.0 taken.0 in
        let f' : Fill = record f { left = Puts (due at x) ∷ ts } in
        let now : Position = filling_at (pos p).owes f' in
        came-as o trees p s t pos (Unmarked y) piece (map Unmarked xs' ++ tail) ps end_ h'
        (record {
          memory = mem;
          now = now;
          stands = rearranged ls o trees s mem t t pos p now a.are a.known a.all (slots-stay o s mem.slots t.slots pos p now a.all.slots (sym a.no_swaps)) (λ k j z r g in_r owes. refl) (λ k j z g part r in_r fills. refl) (a.leads.within_bundles f.run ∙ a.bundles)
              (record {
                stands = a.leads.within_stands mem.words f.run a.runs h.trying;
                due = record {
                  is = h.is;
                  at_is = refl;
                  runs = h.runs;
                  trying = h.trying;
                  rest = h.rest;
                  left = inr (loaded-left (all_todos f.fills) f.left fr at x ts q h.left);
                  stores =
                      ap (λ (v : ℕ). f.made ++ due at v ∷ dues_of ts (put_word (seen_by f.made mem.words) at v)) seen
                      ∙ (ap (λ (z : List Todo). f.made ++ dues_of z (seen_by f.made mem.words)) (sym q) ∙ h.stores);
                  there = h.there;
                  undo = h.undo;
                };
              })
              (λ r in_r. a.all.laid_is r in_r ∙ laid-same (length o.calls) (λ k. (pos k).owes) (λ k. (put pos p now k).owes) (on_table m t) (on_table m t) r (λ k j. same k r) refl);
          rest = record { no_swaps = refl; stores = xs'; act = rest.act; turns = rest.turns; are = (are.1, are.2); hasher = rest.hasher; changed = rest.changed; pieces = refl; after = rest.after; after_is = rest.after_is; own = rest.own };
        })
      where
        same : (k : ℕ) (r : WordPlace) → last_at (pos k).owes r ≡ last_at (put pos p (filling_at (pos p).owes (record f { left = Puts (due at x) ∷ ts })) k).owes r
        same k r = test (k == p) refl
          where
            now : Position
            now = filling_at (pos p).owes (record f { left = Puts (due at x) ∷ ts })

            test : (b : Bool) → (k == p) ≡ b → last_at (pos k).owes r ≡ last_at (put pos p now k).owes r
            test true z =
                let k-is : k ≡ p = eqb-true k p z in
                subst (λ (y : ℕ). last_at (pos y).owes r ≡ last_at (put pos p now y).owes r) (sym k-is) (sym (ap (λ (y : Position). last_at y.owes r) (put_here pos p now)))
            test false z = sym (ap (λ (y : Position). last_at y.owes r) (at-other pos p k now z))
