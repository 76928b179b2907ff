-- How a leaf's tree ends: the refusal, or the act, with what its first item stores and what is owed then.
use Rattle.std.proofs.lemmas.Bool.{eqb-true}
use Rattle.mrtd_measure.specs.declared.measures.Measure.{Measure}
use Rattle.std.proofs.Common.{◌==◌, ◌≡◌, ℕ, ◌+◌, ◌%◌, ◌^◌, ◌<◌, Bool, true, false, List, [], ◌∷◌, length, Option, Some, None, refl, ap, sym, ◌∙◌, subst, inl, inr, ◌-◌}
use Rattle.td_words.specs.declared.machines.Machine.{Machine}
use Rattle.td_words.specs.declared.replies.Reply.{Reply}
use Rattle.td_words.specs.Place.{WordPlace, IsIn, address}
use Rattle.flat_core.specs.World.{World}
use Rattle.flat_core.specs.Processor.{Held}
use Rattle.flat_core.specs.Opening.{Opening}
use Rattle.flat_core.specs.Row.{Move, Refuses, Succeeds, next}
use Rattle.flat_core.specs.Event.{State}
use Rattle.lock_words.specs.LockWords.{IsNext}
use Rattle.leaf_engine.specs.Doing.{event_of}
use Rattle.word_rules.specs.Guards.{Apart, Grip}
use Rattle.word_rules.specs.Rules.{View, Grade, KeepsNothing}
use Rattle.word_rules.specs.Views.{look}
use Rattle.word_rules.specs.Permissions.{Reads, Owes, Fills, SwapsAct, Respects}
use Rattle.word_rules.specs.Cells.{Shows}
use Rattle.step_core.specs.Items.{Table}
use Rattle.leaf_engine.specs.declared.events.Event.TheVariants as events
use Rattle.leaf_engine.specs.declared.events.Event.{Event as RunEvent}
use Rattle.leaf_engine.specs.declared.events.Stage.TheVariants as stages
use Rattle.leaf_engine.specs.declared.needs.Need.TheVariants as need
use Rattle.leaf_engine.specs.Changes.{Hand, Memory, Change, Put, PutHash, Raise, Clear, Copy, Swap, changed, changed_all}
use Rattle.leaf_engine.specs.Trees.{Answer, only, Tree, Lock, Load, Test, End, Since, answer_of, feed}
use Rattle.leaf_engine.specs.Means.{Task, Instant, Work, IsAt, work_of, hold, grasp_of, Acts, MayAct, MayFillAll, MayChangeBy, MayOweAll, acted, LocksStay, AnswersAs, IsHkid}
use Rattle.leaf_engine.specs.Decides.{Wants, IsHand}
use Rattle.leaf_engine.specs.Tables.{IsMemory}
use Rattle.leaf_engine.specs.Turns.{Standing}
use Rattle.leaf_engine.specs.Follows.{granted, Current, Comes}
use Rattle.leaf_engine.specs.Shown.{EndsRow, move_due}
use Rattle.leaf_engine.proofs.Following.{leaves-follow-rows}
use Rattle.leaf_engine.proofs.Showing.{allowed-fills}
use Rattle.merge_laws.proofs.Stores.{Due, last_at, later, or_else, stores_of, all_stores, EachDue, OwesAt, FillsAt, last-each, last-append, or-later, changed-is, one-is, filled-stores, looks-owed, looks-filled}
use Rattle.merge_laws.proofs.Swaps.{SwapDue, last_put, swaps_of, all_swaps, SwapsMay, swaps-same, one-slot, changed-slots, owed-swaps}
use Rattle.merge_laws.proofs.Keeping.{Keeps, keeps-each, keeps-same, owed-keeps}
use Rattle.merge_laws.proofs.Holding.{lock_grip_of, IsPart, part-meets, part-owes, turned-round}
use Rattle.merge_laws.proofs.Standing.{RunsAt, Trees, Does, task_for, moment, act_grip, DoesHere, with_hasher, Laws, Known, on_table, Position, back, Stands}
use Rattle.merge_laws.proofs.Others.{at-moment, hold-is, locks-in-act, due-move}
use Rattle.merge_laws.proofs.Worlds.{moves-refused, world-stays, world-acted}
use Rattle.merge_laws.proofs.Acts.{CanWrite, OneAct}

-- what the first item of an act stores, and what is owed then
abbrev pub act_first : List Change → Memory → List Due
act_first [] mem = []
act_first (c ∷ cs) mem = stores_of c mem

abbrev pub act_owes : List Change → Memory → List Due
act_owes [] mem = []
act_owes (c ∷ cs) mem = all_stores cs (changed c mem)

-- a store that is the act leaves what others have read
act-looks : (ls : Laws) (m : Machine) (g h : Grip) (w : World) (mem : Memory) (c : Change) (r : WordPlace) (v : View) → Apart g h → MayAct m h w mem c → Reads g w r v
    → look v ((changed c mem).words r) ≡ look v (mem.words r)
act-looks ls m g h w mem (Put q x) r v a may rd = (ls.keep g h w mem.words a).act q r x v may.1.0 rd may.1.1 may.1.2
act-looks ls m g h w mem (PutHash q x) r v a may rd = (ls.keep g h w mem.words a).act q r (x mem.hand) v KeepsNothing rd may.1 tt
act-looks ls m g h w mem (Raise q more) r v a may rd = (ls.keep g h w mem.words a).act q r ((mem.words q + more) % 2 ^ 64) v KeepsNothing rd may.1 tt
act-looks ls m g h w mem (Clear p) r v a may rd = absurd may
act-looks ls m g h w mem (Copy p q) r v a may rd = absurd may
act-looks ls m g h w mem (Swap k made) r v a may rd = refl

owed-looks : (ls : Laws) (m : Machine) (g h : Grip) (w w' : World) (mem : Memory) (cs : List Change) (r : WordPlace) (v : View) → Apart g h → Respects h w w' → IsIn m r → MayOweAll m h w' mem cs → Reads g w r v
    → look v ((changed_all cs mem).words r) ≡ look v (mem.words r)
owed-looks ls m g h w w' mem cs r v a rs in_r may rd =
    looks-owed ls.places m h w' mem cs r v in_r may (λ words q x k owes kept. (ls.keep g h w words a).left w' q r x v k rs rd owes kept)

fill-looks : (ls : Laws) (m : Machine) (g h : Grip) (w : World) (mem : Memory) (fs : List Change) (r : WordPlace) (v : View) → Apart g h → IsIn m r → MayFillAll m h w fs → Reads g w r v → look v ((changed_all fs mem).words r) ≡ look v (mem.words r)
fill-looks ls m g h w mem fs r v a in_r may rd = looks-filled ls.places m h w mem fs r v in_r may (λ words q x fills. (ls.keep g h w words a).filled q r x v rd fills)

act-written : (m : Machine) (g : Grip) (w : World) (mem : Memory) (c : Change) → MayAct m g w mem c → EachDue (CanWrite g w) (stores_of c mem)
act-written m g w mem (Put q x) may = ((may.1.0, may.1.1), tt)
act-written m g w mem (PutHash q x) may = ((KeepsNothing, may.1), tt)
act-written m g w mem (Raise q more) may = ((KeepsNothing, may.1), tt)
act-written m g w mem (Clear p) may = absurd may
act-written m g w mem (Copy p q) may = absurd may
act-written m g w mem (Swap k made) may = tt

-- and puts a hasher only where it may
act-put : (m : Machine) (g : Grip) (w : World) (mem : Memory) (c : Change) → MayAct m g w mem c → (h : ℕ) (x : Hand) → last_put (swaps_of c mem) h ≡ Some x → SwapsAct g w h
act-put m g w mem (Put q v) may h x e = cc
act-put m g w mem (PutHash q v) may h x e = cc
act-put m g w mem (Raise q more) may h x e = cc
act-put m g w mem (Clear p) may h x e = cc
act-put m g w mem (Copy p q) may h x e = cc
act-put m g w mem (Swap k made) may h x e = by (h == k) refl
  where
    by : (b : Bool) → (h == k) ≡ b → SwapsAct g w h
    by true f = (let k-is : h ≡ k = eqb-true h k f in subst (λ (z : ℕ). SwapsAct g w z) (sym k-is) may.1)
    by false f = (let none : last_put (swaps_of (Swap k made) mem) h ≡ None = rw f refl in cc)

-- fills leave slots and the hand
pub fills-rest : (m : Machine) (g : Grip) (w : World) (fs : List Change) (mem : Memory) → MayFillAll m g w fs → ((changed_all fs mem).slots ≡ mem.slots) × ((changed_all fs mem).hand ≡ mem.hand)
fills-rest m g w [] mem may = (refl, refl)
fills-rest m g w (Put q x ∷ fs) mem may = fills-rest m g w fs (changed (Put q x) mem) may.1
fills-rest m g w (Clear p ∷ fs) mem may = fills-rest m g w fs (changed (Clear p) mem) may.1
fills-rest m g w (Copy p q ∷ fs) mem may = fills-rest m g w fs (changed (Copy p q) mem) may.1
fills-rest m g w (PutHash q x ∷ fs) mem may = absurd may.0
fills-rest m g w (Raise q more ∷ fs) mem may = absurd may.0
fills-rest m g w (Swap k made ∷ fs) mem may = absurd may.0

-- where a turn stands that comes to its end, having been told these words
pub record AtEnd (o : Opening) (mem : Memory) (d : Does) (told now : List ℕ) (reply : Reply) (run run' : Standing) (e : RunEvent) : Type 0 where
  pub current : Current mem.words d.tree now
  pub locks : granted d.tree now [] ≡ granted d.tree told []
  pub gives : Wants o.machine.pages (feed d.tree now) (need.Verdict reply)
  pub answered : run'.stage ≡ stages.Answered reply
  pub held : run'.held ≡ run.held
  pub act : e ≡ events.Act
  pub rest_is : run'.rest ≡ feed d.tree now

-- what its end has filled, stores first, and owes
abbrev pub filled_of : Tree → Memory → List Due
filled_of (End r fs cs) mem = all_stores fs mem
filled_of _ mem = []

abbrev pub first_of : Tree → Memory → List Due
first_of (End r fs cs) mem = act_first cs (changed_all fs mem)
first_of _ mem = []

abbrev pub owes_of : Tree → Memory → List Due
owes_of (End r fs cs) mem = act_owes cs (changed_all fs mem)
owes_of (Since r cs) mem = all_stores cs mem
owes_of _ mem = []

-- what its first item puts into slots, and the swaps that it owes then
abbrev pub act_puts : List Change → Memory → List SwapDue
act_puts [] mem = []
act_puts (c ∷ cs) mem = swaps_of c mem

abbrev pub act_swaps : List Change → Memory → List SwapDue
act_swaps [] mem = []
act_swaps (c ∷ cs) mem = all_swaps cs (changed c mem)

abbrev pub puts_of : Tree → Memory → List SwapDue
puts_of (End r fs cs) mem = act_puts cs (changed_all fs mem)
puts_of _ mem = []

abbrev pub swaps_left : Tree → Memory → List SwapDue
swaps_left (End r fs cs) mem = act_swaps cs (changed_all fs mem)
swaps_left (Since r cs) mem = all_swaps cs mem
swaps_left _ mem = []

-- memory has what was filled, and what would take it back is due
pub record HasFilled (o : Opening) (t : Table) (pos : ℕ → Position) (p : ℕ) (mem : Memory) (filled : List Due) : Type 0 where
  pub there : (r : WordPlace) (x : ℕ) → IsIn o.machine r → last_at filled r ≡ Some x → t.words (address o.machine.pages r) ≡ x
  pub undo : (r : WordPlace) → last_at (pos p).owes r ≡ back (last_at filled r) (mem.words r)

-- no word that an act stores is one that another owes
never-owed : (ls : Laws) (g h : Grip) (w : World) (x : WordPlace) (k : Grade) → Apart h g → Owes h w x k → (first : List Due) (y : ℕ) → EachDue (CanWrite g w) first → last_at first x ≡ Some y → ⊥
never-owed ls g h w x k apart owes first y written z =
    let may = last-each ls.places (CanWrite g w) first x y written z in
    (ls.words g h w (turned-round h g apart)).writes_owes x may.0 k may.1 owes

-- nor one that another fills
never-filled : (ls : Laws) (g h : Grip) (w : World) (x : WordPlace) → Apart h g → Fills h w x → (first : List Due) (y : ℕ) → EachDue (CanWrite g w) first → last_at first x ≡ Some y → ⊥
never-filled ls g h w x apart fills first y written z =
    let may = last-each ls.places (CanWrite g w) first x y written z in
    (ls.words h g w apart).fills_writes x may.0 fills may.1

-- a word that nothing is stored at is as it was
untouched : (words : WordPlace → ℕ) (owes first filled : List Due) (x : WordPlace) → ((y : ℕ) → last_at owes x ≡ Some y → ⊥) → ((y : ℕ) → last_at first x ≡ Some y → ⊥) → ((y : ℕ) → last_at filled x ≡ Some y → ⊥)
    → or_else (last_at owes x) (or_else (last_at first x) (or_else (last_at filled x) (words x))) ≡ words x
untouched words owes first filled x a b d = go (last_at owes x) (last_at first x) (last_at filled x) refl refl refl
  where
    go : (u v z : Option ℕ) → last_at owes x ≡ u → last_at first x ≡ v → last_at filled x ≡ z → or_else (last_at owes x) (or_else (last_at first x) (or_else (last_at filled x) (words x))) ≡ words x
    go (Some y) v z eu ev ez = absurd (a y eu)
    go None (Some y) z eu ev ez = absurd (b y ev)
    go None None (Some y) eu ev ez = absurd (d y ez)
    go None None None eu ev ez = rw (eu, ev, ez) refl

-- the reply of a tree's end is the one that it gives
end-gives : (n : ℕ) (a : Answer) (r' : Reply) (fs cs : List Change) → Wants n (End a fs cs) (need.Verdict r') → a.reply ≡ r'
end-gives n a r' fs cs g = cc

-- a turn that comes to its end is an act
module _ (ls : Laws) (o : Opening) (trees : Trees) (s : State) (mem : Memory) (t t' : Table) (pos : ℕ → Position) (p : ℕ) (d : Does) (now : List ℕ) (reply : Reply) (run run' : Standing) (e : RunEvent) (known : Known o s)
    (sd : Stands o trees s mem t pos) (i : p < length o.calls) (here : DoesHere o s p d) (ra : RunsAt (task_for o p d) d.far s.world mem.words run) (st : run.stage ≡ stages.Trying)
    (en : AtEnd o mem d (ra.at.told st).told now reply run run' e) where
  -- the turn's parts by name: its machine, what its leaf is to do, its row, the moment and the work
  abbrev machine : Machine
  machine = o.machine

  abbrev task : Task
  task = task_for o p d

  abbrev its_moment : Instant
  its_moment = moment s mem p d

  abbrev work : Work
  work = work_of task.meaning

  -- the locks that its tree was granted, and the move that is due then
  abbrev locks : List Held
  locks = granted d.tree now []

  abbrev due_move : Move Reply
  due_move = move_due task its_moment now

  -- the words that it was told before, what its processor has by its locks, and what it acts under
  abbrev words_told : List ℕ
  words_told = (ra.at.told st).told

  abbrev own_grip : Grip
  own_grip = lock_grip_of s p

  abbrev act : Grip
  act = act_grip s mem p d

  -- the turn stands at this moment
  at-this : IsAt task its_moment
  at-this = at-moment o trees s mem t pos p d run known sd here ra st

  -- the locks of the tree are those that the leaf holds
  locks-held : locks ≡ d.far.held
  locks-held = en.locks ∙ (ra.at.told st).locks

  -- so they give these grips
  own-is : hold its_moment locks ≡ own_grip
  own-is = ap (hold its_moment) locks-held ∙ hold-is o s mem p d here

  act-is : work.grasp its_moment locks ≡ act
  act-is = ap (work.grasp its_moment) locks-held

  locks-of-act : IsPart own_grip act
  locks-of-act = locks-in-act o s mem p d here

  -- the move that is due is the same at the words told before
  move-is : move_due task its_moment words_told ≡ due_move
  move-is = ap (λ (xs : List Held). next (work.items s.world) (length xs)) (sym en.locks)

  -- it is the flat machine's next event
  next-move : (mv' : Move Reply) → due_move ≡ mv' → IsNext o s p (event_of d.meaning mv')
  next-move mv' h = due-move o s mem p d run here ra st mv' (move-is ∙ h)

  -- the run that ends refused ends as its row does
  ends-refused : (r : Reply) → due_move ≡ Refuses r → r ≡ reply → answer_of run'.rest ≡ only reply → (u : Table) (h : Option Measure) → IsMemory machine u h mem → EndsRow task its_moment words_told u run (with_hasher run' h)
  ends-refused r h q an u hasher mm = record {
    reply = reply;
    after = mem;
    answered = en.answered;
    held_is = en.held;
    memory = mm;
    ends = inl (move-is ∙ (h ∙ ap Refuses q), an, refl);
  }

  -- so does the run whose act succeeds
  ends-succeeded : (after : Memory) → due_move ≡ Succeeds → (answer_of run'.rest).reply ≡ reply → AnswersAs work s.world (answer_of run'.rest) → Shows machine after.words after.slots (acted work s) → LocksStay s.world (work.act s.world) locks → (u : Table) (h : Option Measure) → IsMemory machine u h after → EndsRow task its_moment words_told u run (with_hasher run' h)
  ends-succeeded after h q an sh st u hasher mm = record {
    reply = reply;
    after = after;
    answered = en.answered;
    held_is = en.held;
    memory = mm;
    ends = inr (move-is ∙ h, q, an, sh, subst (λ (xs : List Held). LocksStay s.world (work.act s.world) xs) en.locks st);
  }

  -- the run has answered
  has-answered : run'.stage ≡ stages.Trying → ⊥
  has-answered z = (let bad = sym en.answered ∙ z in cc)

  -- the slots have what was put into them
  abbrev HasPut : List SwapDue → Type 0
  HasPut put = (h : ℕ) → IsHkid machine h → IsHand (t'.slots (h - 1)) (or_else (last_put put h) (sd.slots.now h))

  -- the act of this turn
  abbrev ItsAct : Type 0
  ItsAct = OneAct o s mem t t' pos p d words_told run run' e sd.slots.now

  -- a refusal is an act that stores nothing and owes nothing
  refused-act : (r : Reply) → due_move ≡ Refuses r → r ≡ reply → answer_of run'.rest ≡ only reply → HasFilled o t pos p mem [] → ((x : WordPlace) → IsIn machine x → t'.words (address machine.pages x) ≡ t.words (address machine.pages x)) → HasPut [] → (one : ItsAct) × (one.owes ≡ []) × (one.swaps ≡ [])
  refused-act r h q an hf same slots = (
    record {
      move = Refuses r;
      is_act = tt;
      next = next-move (Refuses r) h;
      world = world-stays o s p d.meaning (Refuses r) (moves-refused d.meaning s.world (length locks) r h) (λ y. cc) (next-move (Refuses r) h);
      after = mem;
      hashers = sd.shows.hasher;
      ends = ends-refused r h q an;
      act = en.act;
      answered = has-answered;
      filled = [];
      first = [];
      owes = [];
      put = [];
      swaps = [];
      slots_there = slots;
      slots_makes = λ h in_h. refl;
      slots_written = λ h x e. cc;
      slots_may = tt;
      spares = record {
        respects = ls.compose.same act s.world;
        looks = λ xs v x apart in_x reads. refl;
        still = λ xs x g apart in_x owes. sym (same x in_x);
        filled = λ xs x apart in_x fills. (sym (same x in_x), refl);
      };
      makes = λ x in_x. refl;
      written = tt;
      owed = tt;
      filled_may = tt;
      there = hf.there;
      undo = hf.undo;
      table = same;
    },
    refl,
    refl,
  )

  -- a word that the act stores nothing at is the same on both tables
  not-stored : (first : List Due) (x : WordPlace) → IsIn machine x → (y : Option ℕ) → last_at first x ≡ y → ((y : ℕ) → last_at first x ≡ Some y → ⊥)
      → ((r : WordPlace) → IsIn machine r → t'.words (address machine.pages r) ≡ or_else (last_at first r) (t.words (address machine.pages r))) → on_table machine t x ≡ on_table machine t' x
  not-stored first x in_x None e never same = sym (same x in_x ∙ ap (λ (z : Option ℕ). or_else z (t.words (address machine.pages x))) e)
  not-stored first x in_x (Some y) e never same = absurd (never y e)

  -- the act that succeeds, whose stores are these, and which owes these
  succeeded-act : (fs cs : List Change) (first owes : List Due) (put swaps : List SwapDue) → due_move ≡ Succeeds → (answer_of run'.rest).reply ≡ reply → AnswersAs work s.world (answer_of run'.rest)
      → (let after = changed_all cs (changed_all fs mem) in Shows machine after.words after.slots (acted work s)) → LocksStay s.world (work.act s.world) locks → Respects act s.world (work.act s.world)
      → ((xs : Grip) (v : View) (r : WordPlace) → Apart xs act → IsIn machine r → Reads xs s.world r v → look v ((changed_all cs (changed_all fs mem)).words r) ≡ look v (mem.words r))
      → ((r : WordPlace) → last_at (all_stores cs (changed_all fs mem)) r ≡ later (last_at owes r) (last_at first r))
      → MayFillAll machine act s.world fs → EachDue (CanWrite act s.world) first → Keeps machine own_grip (work.act s.world) (λ x. or_else (last_at first x) ((changed_all fs mem).words x)) owes → HasFilled o t pos p mem (all_stores fs mem)
      → ((r : WordPlace) → IsIn machine r → t'.words (address machine.pages r) ≡ or_else (last_at first r) (t.words (address machine.pages r)))
      → HasPut put → ((h : ℕ) → (changed_all cs (changed_all fs mem)).slots h ≡ or_else (last_put swaps h) (or_else (last_put put h) (mem.slots h)))
      → ((h : ℕ) (x : Hand) → last_put put h ≡ Some x → SwapsAct act s.world h) → SwapsMay machine own_grip (work.act s.world) (λ h. or_else (last_put put h) (mem.slots h)) swaps → (one : ItsAct) × (one.owes ≡ owes) × (one.swaps ≡ swaps)
  succeeded-act fs cs first owes put swaps h q an sh st rs looks parts fills written owed hf same slots makes-slots put-may swaps-may = (
    record {
      move = Succeeds;
      is_act = tt;
      next = next-move Succeeds h;
      world = world-acted o s p d.meaning (next-move Succeeds h);
      after = changed_all cs (changed_all fs mem);
      hashers = sh.hasher;
      ends = ends-succeeded (changed_all cs (changed_all fs mem)) h q an sh st;
      act = en.act;
      answered = has-answered;
      filled = all_stores fs mem;
      first = first;
      owes = owes;
      put = put;
      swaps = swaps;
      slots_there = slots;
      slots_makes = λ h in_h. makes-slots h;
      slots_written = put-may;
      slots_may = swaps-may;
      spares = record {
        respects = rs;
        looks = looks;
        still = λ xs x g apart in_x owes'. not-stored first x in_x (last_at first x) refl (λ y z. never-owed ls act xs s.world x g apart owes' first y written z) same;
        filled = λ xs x apart in_x fill. (
          not-stored first x in_x (last_at first x) refl (λ y z. never-filled ls act xs s.world x apart fill first y written z) same,
          makes x in_x
              ∙ untouched mem.words owes first (all_stores fs mem) x
              (λ y z. (let may = last-each ls.places (OwesAt machine own_grip (work.act s.world)) owes x y (keeps-each machine own_grip (work.act s.world) base owes owed) z in (ls.acts xs act s.world (work.act s.world) apart rs).fills_later x may.1.0 fill (part-meets own_grip act _ _ locks-of-act may.1.1)))
              (λ y z. never-filled ls act xs s.world x apart fill first y written z)
              (λ y z. (let may = last-each ls.places (FillsAt machine act s.world) (all_stores fs mem) x y (filled-stores machine act s.world mem fs fills) z in (ls.words xs act s.world apart).fills_fills x fill may.1)),
        );
      };
      makes = makes;
      written = written;
      owed = keeps-same machine own_grip own_grip (work.act s.world) (work.act s.world) base (λ x. or_else (last_at first x) (or_else (last_at (all_stores fs mem) x) (mem.words x))) owes (λ x g z. z)
          (λ x g in_x z. ap (or_else (last_at first x)) (changed-is ls.places machine fs mem x in_x)) owed;
      filled_may = filled-stores machine act s.world mem fs fills;
      there = hf.there;
      undo = hf.undo;
      table = same;
    },
    refl,
    refl,
  )
    where
      base : WordPlace → ℕ
      base x = or_else (last_at first x) ((changed_all fs mem).words x)

      makes : (r : WordPlace) → IsIn machine r → (changed_all cs (changed_all fs mem)).words r ≡ or_else (last_at owes r) (or_else (last_at first r) (or_else (last_at (all_stores fs mem) r) (mem.words r)))
      makes r in_r =
          changed-is ls.places machine cs (changed_all fs mem) r in_r
          ∙ (ap (λ (z : Option ℕ). or_else z ((changed_all fs mem).words r)) (parts r)
          ∙ (or-later (last_at owes r) (last_at first r) ((changed_all fs mem).words r)
          ∙ ap (λ (y : ℕ). or_else (last_at owes r) (or_else (last_at first r) y)) (changed-is ls.places machine fs mem r in_r)))

  -- a tree's end that succeeds is an act: its first change, and the rest owed
  end-acts : (r : Answer) (fs cs : List Change) → due_move ≡ Succeeds → r.reply ≡ reply → answer_of run'.rest ≡ r → Acts machine its_moment work locks r fs cs → MayChangeBy machine (work.grasp its_moment locks) (hold its_moment locks) s.world (work.act s.world) (changed_all fs mem) cs
      → HasFilled o t pos p mem (all_stores fs mem) → ((x : WordPlace) → IsIn machine x → t'.words (address machine.pages x) ≡ or_else (last_at (act_first cs (changed_all fs mem)) x) (t.words (address machine.pages x)))
      → HasPut (act_puts cs (changed_all fs mem)) → (one : ItsAct) × (one.owes ≡ act_owes cs (changed_all fs mem)) × (one.swaps ≡ act_swaps cs (changed_all fs mem))
  end-acts r fs [] h q an ac may hf same slots =
      let rs : Respects act s.world (work.act s.world) = subst (λ (g : Grip). Respects g s.world (work.act s.world)) act-is ac.respects in
      let fills : MayFillAll machine act s.world fs = subst (λ (g : Grip). MayFillAll machine g s.world fs) act-is (allowed-fills machine (work.grasp its_moment locks) (grasp_of its_moment locks) s.world fs ac.fills_allowed) in
      succeeded-act fs [] [] [] [] [] h (ap (λ (z : Answer). z.reply) an ∙ q) (subst (λ (z : Answer). AnswersAs work s.world z) (sym an) ac.answers) ac.shows ac.locks_stay rs
      (λ xs v x apart in_x reads. fill-looks ls machine xs act s.world mem fs x v apart in_x fills reads) (λ x. refl) fills tt tt hf same slots
      (λ k. ap (λ (f : ℕ → Hand). f k) (fills-rest machine act s.world fs mem fills).0) (λ k x e. cc) tt
  end-acts r fs (c1 ∷ cs) h q an ac may hf same slots =
      let rs : Respects act s.world (work.act s.world) = subst (λ (g : Grip). Respects g s.world (work.act s.world)) act-is ac.respects in
      let fills : MayFillAll machine act s.world fs = subst (λ (g : Grip). MayFillAll machine g s.world fs) act-is (allowed-fills machine (work.grasp its_moment locks) (grasp_of its_moment locks) s.world fs ac.fills_allowed) in
      let mem1 : Memory = changed_all fs mem in
      let first' : MayAct machine act s.world mem1 c1 = subst (λ (g : Grip). MayAct machine g s.world mem1 c1) act-is may.0 in
      let owes' : MayOweAll machine own_grip (work.act s.world) (changed c1 mem1) cs = subst (λ (g : Grip). MayOweAll machine g (work.act s.world) (changed c1 mem1) cs) own-is may.1 in
      succeeded-act fs (c1 ∷ cs) (stores_of c1 mem1) (all_stores cs (changed c1 mem1)) (swaps_of c1 mem1) (all_swaps cs (changed c1 mem1)) h (ap (λ (z : Answer). z.reply) an ∙ q) (subst (λ (z : Answer). AnswersAs work s.world z) (sym an) ac.answers) ac.shows ac.locks_stay rs
      (λ xs v x apart in_x reads.
      owed-looks ls machine xs act s.world (work.act s.world) (changed c1 mem1) cs x v apart rs in_x (part-owes machine own_grip act (work.act s.world) (changed c1 mem1) cs locks-of-act owes') reads
      ∙ (act-looks ls machine xs act s.world mem1 c1 x v apart first' reads ∙ fill-looks ls machine xs act s.world mem fs x v apart in_x fills reads))
      (λ x. last-append (stores_of c1 mem1) (all_stores cs (changed c1 mem1)) x) fills
      (act-written machine act s.world mem1 c1 first')
      (keeps-same machine own_grip own_grip (work.act s.world) (work.act s.world) (changed c1 mem1).words (λ x. or_else (last_at (stores_of c1 mem1) x) (mem1.words x)) (all_stores cs (changed c1 mem1))
      (λ x g owes. owes) (λ x g in_x owes. one-is machine c1 mem1 x in_x) (owed-keeps machine own_grip (work.act s.world) (changed c1 mem1) cs owes')) hf same slots
      (λ k. changed-slots cs (changed c1 mem1) k ∙ ap (or_else (last_put (all_swaps cs (changed c1 mem1)) k)) (one-slot c1 mem1 k ∙ ap (λ (f : ℕ → Hand). or_else (last_put (swaps_of c1 mem1) k) (f k)) (fills-rest machine act s.world fs mem fills).0))
      (act-put machine act s.world mem1 c1 first')
      (swaps-same machine own_grip own_grip (work.act s.world) (work.act s.world) (changed c1 mem1).slots (λ k. or_else (last_put (swaps_of c1 mem1) k) (mem.slots k)) (all_swaps cs (changed c1 mem1)) (λ k x. x)
      (λ k in_k owes. one-slot c1 mem1 k ∙ ap (λ (f : ℕ → Hand). or_else (last_put (swaps_of c1 mem1) k) (f k)) (fills-rest machine act s.world fs mem fills).0)
      (owed-swaps machine own_grip (work.act s.world) (changed c1 mem1) cs owes'))

  -- a tree that had its event before owes all its changes
  since-acts : (r : Answer) (cs : List Change) → due_move ≡ Succeeds → r.reply ≡ reply → answer_of run'.rest ≡ r → Acts machine its_moment work locks r [] cs → MayOweAll machine (hold its_moment locks) (work.act s.world) mem cs
      → HasFilled o t pos p mem [] → ((x : WordPlace) → IsIn machine x → t'.words (address machine.pages x) ≡ t.words (address machine.pages x))
      → HasPut [] → (one : ItsAct) × (one.owes ≡ all_stores cs mem) × (one.swaps ≡ all_swaps cs mem)
  since-acts r cs h q an ac may hf same slots =
      let rs : Respects act s.world (work.act s.world) = subst (λ (g : Grip). Respects g s.world (work.act s.world)) act-is ac.respects in
      let may' : MayOweAll machine own_grip (work.act s.world) mem cs = subst (λ (g : Grip). MayOweAll machine g (work.act s.world) mem cs) own-is may in
      succeeded-act [] cs [] (all_stores cs mem) [] (all_swaps cs mem) h (ap (λ (z : Answer). z.reply) an ∙ q) (subst (λ (z : Answer). AnswersAs work s.world z) (sym an) ac.answers) ac.shows ac.locks_stay rs
      (λ xs v x apart in_x reads. owed-looks ls machine xs act s.world (work.act s.world) mem cs x v apart rs in_x (part-owes machine own_grip act (work.act s.world) mem cs locks-of-act may') reads)
      (λ x. last-append [] (all_stores cs mem) x) tt tt (owed-keeps machine own_grip (work.act s.world) mem cs may') hf same slots
      (changed-slots cs mem) (λ k x e. cc) (owed-swaps machine own_grip (work.act s.world) mem cs may')

  -- whichever way the tree ends, it is an act
  tree-acts : (tree : Tree) → run'.rest ≡ tree → Comes machine its_moment work locks tree due_move → Wants machine.pages tree (need.Verdict reply) → HasFilled o t pos p mem (filled_of tree mem)
      → ((r : WordPlace) → IsIn machine r → t'.words (address machine.pages r) ≡ or_else (last_at (first_of tree mem) r) (t.words (address machine.pages r)))
      → HasPut (puts_of tree mem) → (one : ItsAct) × (one.owes ≡ owes_of tree mem) × (one.swaps ≡ swaps_left tree mem)
  tree-acts (Lock l q mode x) at co g hf same slots = cc
  tree-acts (Load v q x) at co g hf same slots = cc
  tree-acts (Test b r x) at co g hf same slots = absurd g
  tree-acts (End r [] []) at (inl co) g hf same slots = refused-act r.reply co.0 (end-gives machine.pages r reply [] [] g) (ap answer_of at ∙ (co.1 ∙ ap only (end-gives machine.pages r reply [] [] g))) hf same slots
  tree-acts (End r [] (c1 ∷ cs)) at (inl co) g hf same slots = (let bad = co.3 in cc)
  tree-acts (End r (f ∷ fs) cs) at (inl co) g hf same slots = (let bad = co.2 in cc)
  tree-acts (End r fs cs) at (inr co) g hf same slots = end-acts r fs cs co.0 (end-gives machine.pages r reply fs cs g) (ap answer_of at) co.1 co.2 hf same slots
  tree-acts (Since r cs) at co g hf same slots = since-acts r cs co.0 (cc g) (ap answer_of at) co.1 co.2 hf same slots

  -- the turn is an act, which owes what its tree's end does, in words and in swaps
  pub one-act : HasFilled o t pos p mem (filled_of (feed d.tree now) mem)
      → ((r : WordPlace) → IsIn o.machine r → t'.words (address o.machine.pages r) ≡ or_else (last_at (first_of (feed d.tree now) mem) r) (t.words (address o.machine.pages r)))
      → ((h : ℕ) → IsHkid o.machine h → IsHand (t'.slots (h - 1)) (or_else (last_put (puts_of (feed d.tree now) mem) h) (sd.slots.now h)))
      → (one : OneAct o s mem t t' pos p d (ra.at.told st).told run run' e sd.slots.now) × (one.owes ≡ owes_of (feed d.tree now) mem) × (one.swaps ≡ swaps_left (feed d.tree now) mem)
  one-act has table slots = tree-acts (feed d.tree now) en.rest_is (leaves-follow-rows task its_moment now here.means at-this en.current) en.gives has table slots
