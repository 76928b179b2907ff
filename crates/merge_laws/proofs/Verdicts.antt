-- The next piece of a turn that comes to its end.
use Rattle.std.proofs.Common.{◌≡◌, ℕ, List, [], ◌∷◌, ◌++◌, map, Option, None, refl, ap, sym, ◌∙◌, subst, append_assoc, ◌-◌, inl}
use Rattle.td_words.specs.declared.machines.Machine.{Machine}
use Rattle.td_words.specs.declared.replies.Reply.{Reply}
use Rattle.td_words.specs.Place.{address}
use Rattle.mrtd_measure.specs.declared.measures.Measure.{Measure}
use Rattle.flat_core.specs.Opening.{Opening}
use Rattle.flat_core.specs.Event.{State}
use Rattle.step_core.specs.declared.steps.WordStep.{WordStep}
use Rattle.step_core.specs.declared.steps.WordStep.TheVariants as step
use Rattle.step_core.specs.Items.{Table}
use Rattle.step_core.specs.declared.items.Taken.{Taken}
use Rattle.step_core.specs.declared.items.Taken.TheVariants.{Stepped, Swapped, Missed}
use Rattle.leaf_engine.specs.declared.events.Event.{Event as RunEvent}
use Rattle.leaf_engine.specs.declared.events.Event.TheVariants as events
use Rattle.leaf_engine.specs.declared.events.Stage.TheVariants as stages
use Rattle.leaf_engine.specs.declared.needs.Need.TheVariants as need
use Rattle.leaf_engine.specs.Changes.{Memory, Change, changed}
use Rattle.leaf_engine.specs.Trees.{Tree, Lock, Load, Test, End, Since, feed, settle, fed, passed, changes_of}
use Rattle.leaf_engine.specs.Decides.{Wants, IsHand}
use Rattle.leaf_engine.specs.Items.{IsLoadAt, IsLoaded, IsChanged, AreChanged}
use Rattle.leaf_engine.specs.Turns.{Standing, standing, Replies}
use Rattle.leaf_engine.specs.OwnLists.{Piece, Unmarked, Marked, Wordless, joined, marked_behind, act_pieces, behind, items_in, GoesIn, WordLp}
use Rattle.leaf_engine.proofs.Decided.{feed-append, settled}
use Rattle.leaf_engine.proofs.Loading.{LooksRight, current-load, granted-load}
use Rattle.merge_laws.specs.Merge.{taken_after}
use Rattle.merge_laws.proofs.Stores.{Due, last_at, or_else}
use Rattle.merge_laws.proofs.Swaps.{last_put}
use Rattle.merge_laws.proofs.Owing.{owed-items}
use Rattle.merge_laws.proofs.Holding.{lock_grip_of}
use Rattle.merge_laws.proofs.Standing.{Trees, Does, act_grip, TurnsTo, Laws, Position}
use Rattle.merge_laws.proofs.Ending.{AtEnd, filled_of, first_of, owes_of, puts_of, swaps_left, HasFilled}
use Rattle.merge_laws.proofs.Filling.{all_todos, two-parts, fills-items, behind-fills}
use Rattle.merge_laws.proofs.FillSteps.{fill-piece}
use Rattle.leaf_engine.specs.Means.{work_of, MayFillAll, IsHkid}
use Rattle.merge_laws.proofs.QuietSteps.{loads-right, loaded}
use Rattle.merge_laws.proofs.Pieces.{AtTurn, Came, came-as, answers-as, PieceAnswers, behind-append}
use Rattle.merge_laws.proofs.EndPieces.{ItsEndMay, end-may, end-moved, rest-owed, act-item, act-rest, slot-seen, hand-as, act-table}
use Rattle.merge_laws.proofs.Turns.{told-tree, load-piece, IsDone, done-settled, done-loads, goes-on, Heads}

-- its reply, whose loads and changes these are
pub record Ended (m : Machine) (run run' : Standing) (e : RunEvent) (end_ : Tree) (changes : List Taken) (reply : Reply) : Type 0 where
  pub hasher : Option Measure
  pub changed : AreChanged m (changes_of end_) run.hasher changes hasher
  pub after : run' ≡ standing end_ (stages.Answered reply) run.held hasher
  pub act : e ≡ events.Act

-- what was told, at the end
pub at-end : (o : Opening) (trees : Trees) (s : State) (mem : Memory) (t : Table) (pos : ℕ → Position) (p : ℕ) (d : Does) (run run' : Standing) (e : RunEvent) (end_ : Tree) (changes : List Taken) (reply : Reply)
    → (a : AtTurn o trees s mem t pos p d run) → (st : run.stage ≡ stages.Trying) → (en : Ended o.machine run run' e end_ changes reply) → feed d.tree (a.runs.at.told st).told ≡ end_ → Wants o.machine.pages end_ (need.Verdict reply)
    → AtEnd o mem d (a.runs.at.told st).told (a.runs.at.told st).told reply run run' e
at-end o trees s mem t pos p d run run' e end_ changes reply a st en is g = record {
  current = (a.runs.at.told st).current;
  locks = refl;
  gives = subst (λ (z : Tree). Wants o.machine.pages z (need.Verdict reply)) (sym is) g;
  answered = ap (λ (z : Standing). z.stage) en.after;
  held = ap (λ (z : Standing). z.held) en.after;
  act = en.act;
  rest_is = ap (λ (z : Standing). z.rest) en.after ∙ sym is;
}

-- what was told, with the load that is its act
at-end-load : (ls : Laws) (o : Opening) (trees : Trees) (s : State) (mem : Memory) (t : Table) (pos : ℕ → Position) (p : ℕ) (d : Does) (run run' : Standing) (e : RunEvent) (end_ : Tree) (changes : List Taken) (reply : Reply) (at x : ℕ)
    → (a : AtTurn o trees s mem t pos p d run) → (pos p).owes ≡ [] → (st : run.stage ≡ stages.Trying) → (en : Ended o.machine run run' e end_ changes reply) → IsLoadAt o.machine.pages (settle run.rest) at → x ≡ t.words at
    → feed d.tree ((a.runs.at.told st).told ++ x ∷ []) ≡ end_ → Wants o.machine.pages end_ (need.Verdict reply)
    → AtEnd o mem d (a.runs.at.told st).told ((a.runs.at.told st).told ++ x ∷ []) reply run run' e
at-end-load ls o trees s mem t pos p d run run' e end_ changes reply at x a owed st en load an is g =
    let told = (a.runs.at.told st).told in
    let right : LooksRight mem.words (feed d.tree told) x =
    loads-right ls o trees s mem t pos p d run at x a.are a.known a.all a.inside owed a.here a.runs st (subst (λ (z : Tree). IsLoadAt o.machine.pages z at) (told-tree o trees s mem t pos p d run a st) load) an in
    record {
      current = current-load mem.words d.tree told x (a.runs.at.told st).current right;
      locks = granted-load mem.words d.tree told x [] right;
      gives = subst (λ (z : Tree). Wants o.machine.pages z (need.Verdict reply)) (sym is) g;
      answered = ap (λ (z : Standing). z.stage) en.after;
      held = ap (λ (z : Standing). z.held) en.after;
      act = en.act;
      rest_is = ap (λ (z : Standing). z.rest) en.after ∙ sym is;
    }

-- items without a change
pub none-changed : {e : RunEvent} (m : Machine) (run run' : Standing) (end_ : Tree) (changes : List Taken) (reply : Reply) → (en : Ended m run run' e end_ changes reply) → changes_of end_ ≡ [] → (en.hasher ≡ run.hasher) × (changes ≡ [])
none-changed m run run' end_ changes reply en e = subst (λ (cs : List Change). AreChanged m cs run.hasher changes en.hasher) e en.changed

-- no hasher is in hand on the way
pub hand-now : (o : Opening) (trees : Trees) (s : State) (mem : Memory) (t : Table) (pos : ℕ → Position) (p : ℕ) (d : Does) (run : Standing) → AtTurn o trees s mem t pos p d run → run.stage ≡ stages.Trying → IsHand run.hasher mem.hand
hand-now o trees s mem t pos p d run a st = hand-as run.hasher None mem.hand None (a.hand.trying st) a.all.hand tt

hasher-of : {e : RunEvent} (m : Machine) (run run' : Standing) (end_ : Tree) (changes : List Taken) (reply : Reply) → (en : Ended m run run' e end_ changes reply) → run'.hasher ≡ en.hasher
hasher-of m run run' end_ changes reply en = ap (λ (z : Standing). z.hasher) en.after

-- nothing was filled
not-filled : (o : Opening) (t : Table) (pos : ℕ → Position) (p : ℕ) (mem : Memory) → (pos p).owes ≡ [] → HasFilled o t pos p mem []
not-filled o t pos p mem owed = record { there = λ r x in_r e. cc; undo = λ r. ap (λ (ds : List Due). last_at ds r) owed }

-- the end without a load before it
end-now : (ls : Laws) (o : Opening) (trees : Trees) (s : State) (mem : Memory) (t : Table) (pos : ℕ → Position) (p : ℕ) (d : Does) (run run' : Standing) (e : RunEvent) (end_ : Tree) (changes : List Taken) (reply : Reply)
    (tps : List (List Piece)) (last : WordLp) (piece : Piece) (ps : List Piece) → (a : AtTurn o trees s mem t pos p d run) → (pos p).owes ≡ [] → (st : run.stage ≡ stages.Trying) → Ended o.machine run run' e end_ changes reply → feed d.tree (a.runs.at.told st).told ≡ end_
    → Wants o.machine.pages end_ (need.Verdict reply) → TurnsTo o trees p (d.after e run') tps last
    → Heads (act_pieces end_ [] changes) tps piece ps → PieceAnswers t piece → Came o trees p s t pos piece ps last
end-now ls o trees s mem t pos p d run run' e (Lock l q m x) changes reply tps last piece ps a owed st en is g own h an = cc
end-now ls o trees s mem t pos p d run run' e (Load v q k) changes reply tps last piece ps a owed st en is g own h an = cc
end-now ls o trees s mem t pos p d run run' e (Test b r x) changes reply tps last piece ps a owed st en is g own h an = absurd g
end-now ls o trees s mem t pos p d run run' e (End r [] []) changes reply tps last piece ps a owed st en is g own h an =
    let none = none-changed o.machine run run' (End r [] []) changes reply en refl in
    let en' = at-end o trees s mem t pos p d run run' e (End r [] []) changes reply a st en is g in
    let moved = end-moved ls o trees s mem t t pos p d (a.runs.at.told st).told reply run run' e a st en' (subst (λ (z : Tree). HasFilled o t pos p mem (filled_of z mem)) (sym is) (not-filled o t pos p mem owed))
    (λ y in_y. ap (λ (z : Tree). or_else (last_at (first_of z mem) y) (t.words (address o.machine.pages y))) {x = End r [] []} {y = feed d.tree (a.runs.at.told st).told} (sym is))
    (subst (λ (z : Tree). (k : ℕ) → IsHkid o.machine k → IsHand (t.slots (k - 1)) (or_else (last_put (puts_of z mem) k) (a.all.slots.now k))) (sym is) a.all.slots.there) in
    came-as o trees p s t pos Wordless piece (joined tps) ps last h
    (record {
      memory = moved.memory;
      now = record { at = d.after e run'; owes = owes_of (feed d.tree (a.runs.at.told st).told) mem; swaps = swaps_left (feed d.tree (a.runs.at.told st).told) mem; fill = None };
      stands = moved.stands;
      rest = rest-owed o trees s p d e run' (feed d.tree (a.runs.at.told st).told) (End r [] []) mem [] run.hasher run.hasher mem.hand tps last a.leads is (hand-now o trees s mem t pos p d run a st) (λ i. (refl, i))
          (hasher-of o.machine run run' (End r [] []) changes reply en ∙ none.0) own;
    })
end-now ls o trees s mem t pos p d run run' e (End r [] (c1 ∷ ds)) changes reply tps last piece ps a owed st en is g own h an =
    let m = o.machine in
    let between : Option Measure = en.changed.0 in
    let ys : List Taken = en.changed.1.0 in
    let zs : List Taken = en.changed.1.1.0 in
    let one : IsChanged m c1 run.hasher ys between = en.changed.1.1.2 in
    let en' = at-end o trees s mem t pos p d run run' e (End r [] (c1 ∷ ds)) changes reply a st en is g in
    let may : MayBoth c1 ds = subst (λ (z : Tree). ItsEndMay o s mem p d z) is
    (end-may o trees s mem t pos p d (a.runs.at.told st).told reply run run' e a st en') in
    let item = act-item m (act_grip s mem p d) s.world mem c1 ys run.hasher between may.1.0 one (hand-now o trees s mem t pos p d run a st) in
    let x : Taken = item.taken in
    let all : changes ≡ x ∷ zs = en.changed.1.1.1 ∙ ap (λ (z : List Taken). z ++ zs) item.items in
    let h' : Marked x ∷ (map Unmarked zs ++ joined tps) ≡ piece ∷ ps = ap (λ (z : List Taken). marked_behind 0 z ++ joined tps) (sym all) ∙ h in
    let answers = answers-as t (Marked x) piece (map Unmarked zs ++ joined tps) ps h' an in
    let slots = act-rest m (act_grip s mem p d) s.world mem t c1 x between a.all.slots.now may.1.0 item.is answers (slot-seen ls o trees s mem t pos p d run mem.slots a refl) a.all.slots.there in
    let moved = end-moved ls o trees s mem t (taken_after t x) pos p d (a.runs.at.told st).told reply run run' e a st en' (subst (λ (z : Tree). HasFilled o t pos p mem (filled_of z mem)) (sym is) (not-filled o t pos p mem owed))
    (λ y in_y. act-table ls o trees s mem t pos p d run [] c1 x between a (not-filled o t pos p mem owed) may.1.0 item.is y in_y
    ∙ ap (λ (z : Tree). or_else (last_at (first_of z mem) y) (t.words (address m.pages y))) {x = End r [] (c1 ∷ ds)} {y = feed d.tree (a.runs.at.told st).told} (sym is))
    (subst (λ (z : Tree). (k : ℕ) → IsHkid m k → IsHand ((taken_after t x).slots (k - 1)) (or_else (last_put (puts_of z mem) k) (a.all.slots.now k))) (sym is) slots.1) in
    came-as o trees p s t pos (Marked x) piece (map Unmarked zs ++ joined tps) ps last h'
    (record {
      memory = moved.memory;
      now = record { at = d.after e run'; owes = owes_of (feed d.tree (a.runs.at.told st).told) mem; swaps = swaps_left (feed d.tree (a.runs.at.told st).told) mem; fill = None };
      stands = moved.stands;
      rest = rest-owed o trees s p d e run' (feed d.tree (a.runs.at.told st).told) (End r [] (c1 ∷ ds)) mem zs between en.hasher (changed c1 mem).hand tps last a.leads is slots.0
          (owed-items m (lock_grip_of s p) ((work_of d.meaning).act s.world) (changed c1 mem) ds between en.hasher zs may.1.1 en.changed.1.1.3) (hasher-of m run run' (End r [] (c1 ∷ ds)) changes reply en) own;
    })
  where
    MayBoth : Change → List Change → Type 0
    MayBoth c1 ds = ItsEndMay o s mem p d (End r [] (c1 ∷ ds))
end-now ls o trees s mem t pos p d run run' e (End r (f ∷ fs) ds) changes reply tps last piece ps a owed st en is g own h an =
    let m = o.machine in
    let en' = at-end o trees s mem t pos p d run run' e (End r (f ∷ fs) ds) changes reply a st en is g in
    let may = fills-of-may ds (subst (λ (z : Tree). ItsEndMay o s mem p d z) is
    (end-may o trees s mem t pos p d (a.runs.at.told st).told reply run run' e a st en')) in
    let two = two-parts m (f ∷ fs) ds run.hasher en.hasher changes en.changed in
    let items = fills-items m (act_grip s mem p d) s.world (f ∷ fs) run.hasher two.between two.first may two.filled (a.hand.trying st) in
    let many = behind-fills m (act_grip s mem p d) s.world (f ∷ fs) run.hasher two.between two.first two.second may two.filled (a.hand.trying st) in
    let reply-is : reply ≡ r.reply = cc g in
    let heads : map Unmarked two.first ++ (marked_behind 0 two.second ++ joined tps) ≡ piece ∷ ps =
    sym (append_assoc (map Unmarked two.first) (marked_behind 0 two.second) (joined tps))
    ∙ (ap (λ (z : List Piece). z ++ joined tps) (sym many) ∙ (ap (λ (z : List Taken). marked_behind (items_in (f ∷ fs)) z ++ joined tps) (sym two.items) ∙ h)) in
    fill-piece ls o trees s mem t pos p (record { does = d; run = run; answer = r; fills = f ∷ fs; changes = ds; made = []; left = all_todos (f ∷ fs) }) last piece ps a
    (record {
      is = a.leads.within_is mem.words run a.runs st;
      at_is = refl;
      runs = a.runs;
      trying = st;
      rest = (a.runs.at.told st).rest ∙ is;
      left = inl (record { done = []; is = refl });
      stores = refl;
      there = λ y x in_y z. cc;
      undo = λ y. ap (λ (z : List Due). last_at z y) owed;
    })
    (record {
      no_swaps = a.no_swaps;
      stores = two.first;
      act = two.second;
      turns = tps;
      are = items.1;
      hasher = en.hasher;
      changed = subst (λ (z : Option Measure). AreChanged m ds z two.second en.hasher) items.0 two.changed;
      pieces = sym heads;
      after = run';
      after_is = en.after ∙ ap (λ (z : Reply). standing (End r (f ∷ fs) ds) (stages.Answered z) run.held en.hasher) reply-is;
      own = subst (λ (z : RunEvent). TurnsTo o trees p (d.after z run') tps last) en.act own;
    }) an
  where
    fills-of-may : (ds : List Change) → ItsEndMay o s mem p d (End r (f ∷ fs) ds) → MayFillAll o.machine (act_grip s mem p d) s.world (f ∷ fs)
    fills-of-may [] z = z
    fills-of-may (c1 ∷ es) z = z.0
end-now ls o trees s mem t pos p d run run' e (Since r ds) changes reply tps last piece ps a owed st en is g own h an =
    let m = o.machine in
    let en' = at-end o trees s mem t pos p d run run' e (Since r ds) changes reply a st en is g in
    let may = subst (λ (z : Tree). ItsEndMay o s mem p d z) is
    (end-may o trees s mem t pos p d (a.runs.at.told st).told reply run run' e a st en') in
    let moved = end-moved ls o trees s mem t t pos p d (a.runs.at.told st).told reply run run' e a st en' (subst (λ (z : Tree). HasFilled o t pos p mem (filled_of z mem)) (sym is) (not-filled o t pos p mem owed))
    (λ y in_y. ap (λ (z : Tree). or_else (last_at (first_of z mem) y) (t.words (address m.pages y))) {x = Since r ds} {y = feed d.tree (a.runs.at.told st).told} (sym is))
    (subst (λ (z : Tree). (k : ℕ) → IsHkid m k → IsHand (t.slots (k - 1)) (or_else (last_put (puts_of z mem) k) (a.all.slots.now k))) (sym is) a.all.slots.there) in
    came-as o trees p s t pos Wordless piece (map Unmarked changes ++ joined tps) ps last h
    (record {
      memory = moved.memory;
      now = record { at = d.after e run'; owes = owes_of (feed d.tree (a.runs.at.told st).told) mem; swaps = swaps_left (feed d.tree (a.runs.at.told st).told) mem; fill = None };
      stands = moved.stands;
      rest = rest-owed o trees s p d e run' (feed d.tree (a.runs.at.told st).told) (Since r ds) mem changes run.hasher en.hasher mem.hand tps last a.leads is (hand-now o trees s mem t pos p d run a st)
          (owed-items m (lock_grip_of s p) ((work_of d.meaning).act s.world) mem ds run.hasher en.hasher changes may en.changed) (hasher-of m run run' (Since r ds) changes reply en) own;
    })

-- the end whose act is the load before it
end-loaded : (ls : Laws) (o : Opening) (trees : Trees) (s : State) (mem : Memory) (t : Table) (pos : ℕ → Position) (p : ℕ) (d : Does) (run run' : Standing) (e : RunEvent) (end_ : Tree) (changes : List Taken) (reply : Reply) (at x : ℕ)
    (tps : List (List Piece)) (last : WordLp) → (a : AtTurn o trees s mem t pos p d run) → (pos p).owes ≡ [] → (st : run.stage ≡ stages.Trying) → Ended o.machine run run' e end_ changes reply → IsLoadAt o.machine.pages (settle run.rest) at → x ≡ t.words at
    → feed d.tree ((a.runs.at.told st).told ++ x ∷ []) ≡ end_ → Wants o.machine.pages end_ (need.Verdict reply) → IsDone end_
    → TurnsTo o trees p (d.after e run') tps last
    → Came o trees p s t pos (Marked (Stepped (step.Load at) x)) (map Unmarked changes ++ joined tps) last
end-loaded ls o trees s mem t pos p d run run' e (Lock l q m z) changes reply at x tps last a owed st en load an is g dn own = absurd dn
end-loaded ls o trees s mem t pos p d run run' e (Load v q k) changes reply at x tps last a owed st en load an is g dn own = absurd dn
end-loaded ls o trees s mem t pos p d run run' e (Test b r z) changes reply at x tps last a owed st en load an is g dn own = absurd dn
end-loaded ls o trees s mem t pos p d run run' e (End r (f ∷ fs) ds) changes reply at x tps last a owed st en load an is g dn own = absurd dn
end-loaded ls o trees s mem t pos p d run run' e (End r [] (c1 ∷ ds)) changes reply at x tps last a owed st en load an is g dn own = absurd dn
end-loaded ls o trees s mem t pos p d run run' e (End r [] []) changes reply at x tps last a owed st en load an is g dn own =
    let now = (a.runs.at.told st).told ++ x ∷ [] in
    let none = none-changed o.machine run run' (End r [] []) changes reply en refl in
    let en' = at-end-load ls o trees s mem t pos p d run run' e (End r [] []) changes reply at x a owed st en load an is g in
    let moved = end-moved ls o trees s mem t t pos p d now reply run run' e a st en' (subst (λ (z : Tree). HasFilled o t pos p mem (filled_of z mem)) (sym is) (not-filled o t pos p mem owed))
    (λ y in_y. ap (λ (z : Tree). or_else (last_at (first_of z mem) y) (t.words (address o.machine.pages y))) {x = End r [] []} {y = feed d.tree now} (sym is))
    (subst (λ (z : Tree). (k : ℕ) → IsHkid o.machine k → IsHand (t.slots (k - 1)) (or_else (last_put (puts_of z mem) k) (a.all.slots.now k))) (sym is) a.all.slots.there) in
    record {
      memory = moved.memory;
      now = record { at = d.after e run'; owes = owes_of (feed d.tree now) mem; swaps = swaps_left (feed d.tree now) mem; fill = None };
      stands = moved.stands;
      rest = rest-owed o trees s p d e run' (feed d.tree now) (End r [] []) mem changes run.hasher run.hasher mem.hand tps last a.leads is (hand-now o trees s mem t pos p d run a st) (λ i. (none.1, i))
          (hasher-of o.machine run run' (End r [] []) changes reply en ∙ none.0) own;
    }
end-loaded ls o trees s mem t pos p d run run' e (Since r ds) changes reply at x tps last a owed st en load an is g dn own =
    let m = o.machine in
    let now = (a.runs.at.told st).told ++ x ∷ [] in
    let en' = at-end-load ls o trees s mem t pos p d run run' e (Since r ds) changes reply at x a owed st en load an is g in
    let may = subst (λ (z : Tree). ItsEndMay o s mem p d z) is
    (end-may o trees s mem t pos p d now reply run run' e a st en') in
    let moved = end-moved ls o trees s mem t t pos p d now reply run run' e a st en' (subst (λ (z : Tree). HasFilled o t pos p mem (filled_of z mem)) (sym is) (not-filled o t pos p mem owed))
    (λ y in_y. ap (λ (z : Tree). or_else (last_at (first_of z mem) y) (t.words (address m.pages y))) {x = Since r ds} {y = feed d.tree now} (sym is))
    (subst (λ (z : Tree). (k : ℕ) → IsHkid m k → IsHand (t.slots (k - 1)) (or_else (last_put (puts_of z mem) k) (a.all.slots.now k))) (sym is) a.all.slots.there) in
    record {
      memory = moved.memory;
      now = record { at = d.after e run'; owes = owes_of (feed d.tree now) mem; swaps = swaps_left (feed d.tree now) mem; fill = None };
      stands = moved.stands;
      rest = rest-owed o trees s p d e run' (feed d.tree now) (Since r ds) mem changes run.hasher en.hasher mem.hand tps last a.leads is (hand-now o trees s mem t pos p d run a st)
          (owed-items m (lock_grip_of s p) ((work_of d.meaning).act s.world) mem ds run.hasher en.hasher changes may en.changed) (hasher-of m run run' (Since r ds) changes reply en) own;
    }

-- the load before the end goes on
quiet-load : (ls : Laws) (o : Opening) (trees : Trees) (s : State) (mem : Memory) (t : Table) (pos : ℕ → Position) (p : ℕ) (d : Does) (run run' : Standing) (e : RunEvent) (from x : ℕ) (loads changes : List Taken) (tree : Tree) (reply : Reply)
    (tps : List (List Piece)) (last : WordLp) → (a : AtTurn o trees s mem t pos p d run) → (pos p).owes ≡ [] → (st : run.stage ≡ stages.Trying) → Ended o.machine run run' e (passed (settle tree)) changes reply → e ≡ events.Act → IsLoadAt o.machine.pages (settle run.rest) from
    → IsLoaded o.machine.pages (fed (settle run.rest) x) loads tree → Wants o.machine.pages (settle tree) (need.Verdict reply) → (IsDone (fed (settle run.rest) x) → ⊥) → x ≡ t.words from
    → TurnsTo o trees p (d.after e run') tps last
    → Came o trees p s t pos (Unmarked (Stepped (step.Load from) x)) (act_pieces (passed (settle tree)) loads changes ++ joined tps) last
quiet-load ls o trees s mem t pos p d run run' e from x loads changes tree reply tps last a owed st en ev load l g never an own =
    let goes : GoesIn o.machine (loaded run x) (act_pieces (passed (settle tree)) loads changes) run' e = record {
      items = loads ++ changes;
      goes = record {
        loads = loads;
        tree = tree;
        need = need.Verdict reply;
        loaded = l;
        gives = g;
        comes = record { hasher = en.hasher; changes = changes; items = refl; changed = en.changed; event = ev; after = en.after };
      };
      pieces = ap (act_pieces (passed (settle tree)) loads) (sym (behind-append loads changes));
    } in
    load-piece ls o trees s mem t pos p d run run' e from x (act_pieces (passed (settle tree)) loads changes) tps last a owed st load (goes-on o.machine.pages (settle run.rest) from x load never) an goes own

abbrev pub IsEnd : Tree → Type 0
IsEnd (End r fs cs) = Unit {0}
IsEnd (Since r cs) = Unit {0}
IsEnd _ = ⊥

pub given-end : (n : ℕ) (t : Tree) (reply : Reply) → Wants n t (need.Verdict reply) → IsEnd t
given-end n (Lock l q m t) reply g = cc
given-end n (Load v q k) reply g = cc
given-end n (Test b r t) reply g = absurd g
given-end n (End r fs cs) reply g = tt
given-end n (Since r cs) reply g = tt

pub end-passed : (t : Tree) → IsEnd t → passed t ≡ t
end-passed (Lock l q m t) h = absurd h
end-passed (Load v q k) h = absurd h
end-passed (Test b r t) h = absurd h
end-passed (End r fs cs) h = refl
end-passed (Since r cs) h = refl

-- the pieces behind the first of several loads
more-loads : (t : Tree) (l y : Taken) (loads changes : List Taken) → IsEnd t → act_pieces t (l ∷ y ∷ loads) changes ≡ Unmarked l ∷ act_pieces t (y ∷ loads) changes
more-loads (Lock l' q m t) l y loads changes h = absurd h
more-loads (Load v q k) l y loads changes h = absurd h
more-loads (Test b r t) l y loads changes h = absurd h
more-loads (End r [] []) l y loads changes h = refl
more-loads (End r [] (c ∷ cs)) l y loads changes h = refl
more-loads (End r (f ∷ fs) cs) l y loads changes h = refl
more-loads (Since r cs) l y loads changes h = refl

-- one load is left: it is the act, or it isn't
pub data OneLoad (t : Tree) (l : Taken) (changes : List Taken) : Type 0 where
  IsAct : IsDone t → act_pieces t (l ∷ []) changes ≡ Marked l ∷ map Unmarked changes → OneLoad t l changes
  IsNone : (IsDone t → ⊥) → act_pieces t (l ∷ []) changes ≡ Unmarked l ∷ act_pieces t [] changes → OneLoad t l changes

one-load : (t : Tree) (l : Taken) (changes : List Taken) → IsEnd t → (changes_of t ≡ [] → changes ≡ []) → OneLoad t l changes
one-load (Lock l' q m t) l changes h nil = absurd h
one-load (Load v q k) l changes h nil = absurd h
one-load (Test b r t) l changes h nil = absurd h
one-load (End r [] []) l changes h nil = IsAct tt (ap (λ (z : List Taken). Marked l ∷ map Unmarked z) (sym (nil refl)))
one-load (End r [] (c ∷ cs)) l changes h nil = IsNone (λ d. d) refl
one-load (End r (f ∷ fs) cs) l changes h nil = IsNone (λ d. d) refl
one-load (Since r cs) l changes h nil = IsAct tt refl

-- a turn that comes to its end
pub verdict-turn : (ls : Laws) (o : Opening) (trees : Trees) (s : State) (mem : Memory) (t : Table) (pos : ℕ → Position) (p : ℕ) (d : Does) (run run' : Standing) (e : RunEvent) (loads items : List Taken) (tree : Tree) (reply : Reply)
    (tps : List (List Piece)) (last : WordLp) (piece : Piece) (ps : List Piece) → AtTurn o trees s mem t pos p d run → (pos p).owes ≡ [] → run.stage ≡ stages.Trying → IsLoaded o.machine.pages run.rest loads tree
    → Wants o.machine.pages (settle tree) (need.Verdict reply) → Replies o.machine run (passed (settle tree)) loads items reply run' e
    → TurnsTo o trees p (d.after e run') tps last
    → Heads (act_pieces (passed (settle tree)) loads (behind loads items)) tps piece ps → PieceAnswers t piece → Came o trees p s t pos piece ps last
verdict-turn ls o trees s mem t pos p d run run' e [] items tree reply tps last piece ps a owed st l g en own h an =
    let is-end = given-end o.machine.pages (settle tree) reply g in
    let at : passed (settle tree) ≡ settle tree = end-passed (settle tree) is-end in
    let told : feed d.tree (a.runs.at.told st).told ≡ settle tree = sym (told-tree o trees s mem t pos p d run a st) ∙ ap settle l in
    let en' : Ended o.machine run run' e (settle tree) en.changes reply = record {
      hasher = en.hasher;
      changed = subst (λ (z : Tree). AreChanged o.machine (changes_of z) run.hasher en.changes en.hasher) at en.changed;
      after = en.after ∙ ap (λ (z : Tree). standing z (stages.Answered reply) run.held en.hasher) at;
      act = en.event;
    } in
    end-now ls o trees s mem t pos p d run run' e (settle tree) en.changes reply tps last piece ps a owed st en' told g own
    (ap (λ (z : Tree). act_pieces z [] en.changes ++ joined tps) (sym at) ∙ (ap (λ (z : List Taken). act_pieces (passed (settle tree)) [] z ++ joined tps) (sym en.items) ∙ h)) an
verdict-turn ls o trees s mem t pos p d run run' e (Swapped k u v ∷ loads) items tree reply tps last piece ps a owed st l g en own h an = absurd l
verdict-turn ls o trees s mem t pos p d run run' e (Missed k ∷ loads) items tree reply tps last piece ps a owed st l g en own h an = absurd l
verdict-turn ls o trees s mem t pos p d run run' e (Stepped w x ∷ loads) items tree reply tps last piece ps a owed st l g en own h an =
    by loads refl
  where
    n : ℕ
    n = o.machine.pages

    from : ℕ
    from = l.0.0

    is-end : IsEnd (settle tree)
    is-end = given-end n (settle tree) reply g

    at : passed (settle tree) ≡ settle tree
    at = end-passed (settle tree) is-end

    end-p : IsEnd (passed (settle tree))
    end-p = subst (λ (z : Tree). IsEnd z) (sym at) is-end

    ended : Ended o.machine run run' e (passed (settle tree)) en.changes reply
    ended = record { hasher = en.hasher; changed = en.changed; after = en.after; act = en.event }

    behind-is : behind (Stepped w x ∷ loads) items ≡ en.changes
    behind-is = ap (behind (Stepped w x ∷ loads)) en.items ∙ behind-append loads en.changes

    heads : act_pieces (passed (settle tree)) (Stepped (step.Load from) x ∷ loads) en.changes ++ joined tps ≡ piece ∷ ps
    heads = ap (λ (z : WordStep). act_pieces (passed (settle tree)) (Stepped z x ∷ loads) en.changes ++ joined tps) (sym l.0.2) ∙ (ap (λ (z : List Taken). act_pieces (passed (settle tree)) (Stepped w x ∷ loads) z ++ joined tps) (sym behind-is) ∙ h)

    quiet : (IsDone (fed (settle run.rest) x) → ⊥) → act_pieces (passed (settle tree)) (Stepped (step.Load from) x ∷ loads) en.changes ≡ Unmarked (Stepped (step.Load from) x) ∷ act_pieces (passed (settle tree)) loads en.changes
        → Came o trees p s t pos piece ps last
    quiet never parts =
        let h' : Unmarked (Stepped (step.Load from) x) ∷ (act_pieces (passed (settle tree)) loads en.changes ++ joined tps) ≡ piece ∷ ps = ap (λ (z : List Piece). z ++ joined tps) (sym parts) ∙ heads in
        came-as o trees p s t pos (Unmarked (Stepped (step.Load from) x)) piece (act_pieces (passed (settle tree)) loads en.changes ++ joined tps) ps last h'
        (quiet-load ls o trees s mem t pos p d run run' e from x loads en.changes tree reply tps last a owed st ended en.event l.0.1 l.1 g never
        (answers-as t (Unmarked (Stepped (step.Load from) x)) piece (act_pieces (passed (settle tree)) loads en.changes ++ joined tps) ps h' an) own)

    by : (ys : List Taken) → loads ≡ ys → Came o trees p s t pos piece ps last
    by (y ∷ ys) f =
        quiet (λ d. (let dl = done-loads n (fed (settle run.rest) x) loads tree d l.1 in let bad : y ∷ ys ≡ [] = sym f ∙ dl.0 in cc))
        (subst (λ (zs : List Taken). act_pieces (passed (settle tree)) (Stepped (step.Load from) x ∷ zs) en.changes ≡ Unmarked (Stepped (step.Load from) x) ∷ act_pieces (passed (settle tree)) zs en.changes) (sym f)
        (more-loads (passed (settle tree)) (Stepped (step.Load from) x) y ys en.changes end-p))
    by [] f =
        one (one-load (passed (settle tree)) (Stepped (step.Load from) x) en.changes end-p (λ z. (none-changed o.machine run run' (passed (settle tree)) en.changes reply ended z).1))
      where
        tree-is : fed (settle run.rest) x ≡ tree
        tree-is = subst (λ (zs : List Taken). IsLoaded n (fed (settle run.rest) x) zs tree) f l.1

        one : OneLoad (passed (settle tree)) (Stepped (step.Load from) x) en.changes → Came o trees p s t pos piece ps last
        one (IsNone never parts) =
            quiet
            (λ d. never (subst (λ (z : Tree). IsDone z) (sym (at ∙ (ap settle (sym tree-is) ∙ done-settled (fed (settle run.rest) x) d))) d))
            (subst (λ (zs : List Taken). act_pieces (passed (settle tree)) (Stepped (step.Load from) x ∷ zs) en.changes ≡ Unmarked (Stepped (step.Load from) x) ∷ act_pieces (passed (settle tree)) zs en.changes) (sym f) parts)
        one (IsAct dn parts) =
            let h' : Marked (Stepped (step.Load from) x) ∷ (map Unmarked en.changes ++ joined tps) ≡ piece ∷ ps =
            ap (λ (z : List Piece). z ++ joined tps) (sym parts) ∙ (ap (λ (zs : List Taken). act_pieces (passed (settle tree)) (Stepped (step.Load from) x ∷ zs) en.changes ++ joined tps) (sym f) ∙ heads) in
            let told = (a.runs.at.told st).told in
            let now-tree : feed d.tree (told ++ x ∷ []) ≡ passed (settle tree) =
            sym (settled d.tree (told ++ x ∷ []))
            ∙ (ap settle (sym (ap (λ (z : Tree). fed z x) (told-tree o trees s mem t pos p d run a st) ∙ feed-append d.tree told (x ∷ [])) ∙ tree-is) ∙ sym at) in
            came-as o trees p s t pos (Marked (Stepped (step.Load from) x)) piece (map Unmarked en.changes ++ joined tps) ps last h'
            (end-loaded ls o trees s mem t pos p d run run' e (passed (settle tree)) en.changes reply from x tps last a owed st ended l.0.1
            (answers-as t (Marked (Stepped (step.Load from) x)) piece (map Unmarked en.changes ++ joined tps) ps h' an) now-tree (subst (λ (z : Tree). Wants n z (need.Verdict reply)) (sym at) g) dn own)
