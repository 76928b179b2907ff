-- An act in a merge: its event's item, and the stores that are owed after it.
use Rattle.leaf_engine.specs.Means.{IsHkid}
use Rattle.std.proofs.Common.{◌≡◌, ℕ, ◌-◌, ◌<◌, Bool, true, false, ◌==◌, List, [], length, Option, Some, None, refl, ap, sym, ◌∙◌, subst}
use Rattle.std.proofs.lemmas.Bool.{eqb-true}
use Rattle.td_words.specs.declared.machines.Machine.{Machine}
use Rattle.td_words.specs.declared.replies.Reply.{Reply}
use Rattle.td_words.specs.Place.{WordPlace, IsIn, address}
use Rattle.mrtd_measure.specs.declared.measures.Measure.{Measure}
use Rattle.flat_core.specs.World.{World, Made, put}
use Rattle.flat_core.specs.Opening.{Opening}
use Rattle.flat_core.specs.Row.{Move}
use Rattle.flat_core.specs.Event.{State, event}
use Rattle.flat_core.specs.Run.{bundles_in}
use Rattle.flat_core.proofs.Tests.{put_here}
use Rattle.word_rules.specs.Guards.{Grip}
use Rattle.word_rules.specs.Rules.{Grade}
use Rattle.word_rules.specs.Views.{look}
use Rattle.word_rules.specs.Cells.{IsAs, hasher_cell}
use Rattle.word_rules.specs.Permissions.{Owes, Writes, SwapsAct, Respects}
use Rattle.step_core.specs.Items.{Table}
use Rattle.leaf_engine.specs.declared.events.Event.TheVariants as events
use Rattle.leaf_engine.specs.declared.events.Event.{Event as RunEvent}
use Rattle.leaf_engine.specs.declared.events.Stage.TheVariants as stages
use Rattle.leaf_engine.specs.Changes.{Hand, Memory}
use Rattle.leaf_engine.specs.Decides.{IsHand}
use Rattle.leaf_engine.specs.Tables.{IsMemory}
use Rattle.leaf_engine.specs.Turns.{Standing}
use Rattle.leaf_engine.specs.Shown.{EndsRow}
use Rattle.leaf_engine.specs.Doing.{event_of, work_world, LeafAfter}
use Rattle.leaf_engine.specs.Means.{work_of}
use Rattle.leaf_engine.proofs.Doings.{ends}
use Rattle.lock_words.specs.Grips.{grip_of}
use Rattle.lock_words.specs.LockWords.{IsNext}
use Rattle.merge_laws.proofs.Virtual.{hasher_for, is-measured, table_of, holds-memory}
use Rattle.merge_laws.proofs.Stores.{Due, last_at, or_else, laid, laid-one, laid-none, laid-same, last-each, EachDue, OwesAt, FillsAt}
use Rattle.merge_laws.proofs.Swaps.{SwapDue, last_put, SwapsMay}
use Rattle.merge_laws.proofs.Keeping.{Keeps, keeps-each, keeps-same}
use Rattle.merge_laws.proofs.Holding.{bare, lock_grip_of, IsPart, part-meets, turned-round}
use Rattle.merge_laws.proofs.Standing.{Trees, Does, task_for, moment, act_grip, DoesHere, Leads, with_hasher, Laws, Grows, IsAct, AreTrees, Known, RunsAt, on_table, Position, back, Stands}
use Rattle.merge_laws.proofs.Others.{shown-of, act-part, locks-in-act}
use Rattle.merge_laws.proofs.SlotSteps.{slots-event}
use Rattle.merge_laws.proofs.Own.{at-other, Spares, gathered, none-due}
use Rattle.merge_laws.proofs.LockSteps.{engine, Moved}

abbrev pub CanWrite : Grip → World → WordPlace → Type 0
CanWrite g w q = (k : Grade) × Writes g w q k

-- the event of a turn that is its act: what was filled before, what its item stores, and what is owed then
pub record OneAct (o : Opening) (s : State) (mem : Memory) (t t' : Table) (pos : ℕ → Position) (p : ℕ) (d : Does) (told : List ℕ) (run run' : Standing) (e : RunEvent) (slots_now : ℕ → Hand) : Type 0 where
  pub move : Move Reply
  pub is_act : IsAct move
  pub next : IsNext o s p (event_of d.meaning move)
  pub world : (event o s p).world ≡ work_world (work_of d.meaning) move s.world
  pub after : Memory
  pub hashers : (h : ℕ) → IsAs (hasher_cell (work_world (work_of d.meaning) move s.world) h) (after.slots h)
  pub ends : (u : Table) (h : Option Measure) → IsMemory o.machine u h after → EndsRow (task_for o p d) (moment s mem p d) told u run (with_hasher run' h)
  pub act : e ≡ events.Act
  pub answered : run'.stage ≡ stages.Trying → ⊥
  pub filled : List Due
  pub first : List Due
  pub owes : List Due
  pub put : List SwapDue
  pub swaps : List SwapDue
  pub slots_there : (h : ℕ) → IsHkid o.machine h → IsHand (t'.slots (h - 1)) (or_else (last_put put h) (slots_now h))
  pub slots_makes : (h : ℕ) → IsHkid o.machine h → after.slots h ≡ or_else (last_put swaps h) (or_else (last_put put h) (mem.slots h))
  pub slots_written : (h : ℕ) (x : Hand) → last_put put h ≡ Some x → SwapsAct (act_grip s mem p d) s.world h
  pub slots_may : SwapsMay o.machine (lock_grip_of s p) (work_world (work_of d.meaning) move s.world) (λ h. or_else (last_put put h) (mem.slots h)) swaps
  pub spares : Spares o.machine s (act_grip s mem p d) (work_world (work_of d.meaning) move s.world) mem.words after.words (on_table o.machine t) (on_table o.machine t')
  pub makes : (r : WordPlace) → IsIn o.machine r → after.words r ≡ or_else (last_at owes r) (or_else (last_at first r) (or_else (last_at filled r) (mem.words r)))
  pub written : EachDue (CanWrite (act_grip s mem p d) s.world) first
  pub owed : Keeps o.machine (lock_grip_of s p) (work_world (work_of d.meaning) move s.world) (λ q. or_else (last_at first q) (or_else (last_at filled q) (mem.words q))) owes
  pub filled_may : EachDue (FillsAt o.machine (act_grip s mem p d) s.world) filled
  pub there : (r : WordPlace) (x : ℕ) → IsIn o.machine r → last_at filled r ≡ Some x → t.words (address o.machine.pages r) ≡ x
  pub undo : (r : WordPlace) → last_at (pos p).owes r ≡ back (last_at filled r) (mem.words r)
  pub table : (r : WordPlace) → IsIn o.machine r → t'.words (address o.machine.pages r) ≡ or_else (last_at first r) (t.words (address o.machine.pages r))

same-memory : (m : Machine) (u : Table) (h : Option Measure) (a b : Memory) → IsMemory m u h a → IsMemory m u h b → (r : WordPlace) → IsIn m r → a.words r ≡ b.words r
same-memory m u h a b x y r i = sym (x.words r i) ∙ y.words r i

-- the event of an act, and how all stands after it
module _ (ls : Laws) (o : Opening) (trees : Trees) (s : State) (mem : Memory) (t t' : Table) (pos : ℕ → Position) (p : ℕ) (d : Does) (run run' : Standing) (e : RunEvent) (are : AreTrees o trees) (known : Known o s)
    (sd : Stands o trees s mem t pos) (i : p < length o.calls) (no-swaps : (pos p).swaps ≡ []) (here : DoesHere o s p d) (leads : Leads o trees s p d) (same_bundles : d.bundles ≡ (pos p).at.beside.bundles) (ra : RunsAt (task_for o p d) d.far s.world mem.words run)
    (st : run.stage ≡ stages.Trying) (one : OneAct o s mem t t' pos p d (ra.at.told st).told run run' e sd.slots.now) where
  abbrev machine : Machine
  machine = o.machine

  -- what the processor has by its locks, and what it acts under
  abbrev mine : Grip
  mine = lock_grip_of s p

  abbrev act : Grip
  act = act_grip s mem p d

  act-of-it : IsPart act (grip_of s p)
  act-of-it = act-part o s mem p d here

  locks-of-act : IsPart mine act
  locks-of-act = locks-in-act o s mem p d here

  -- where the processor is after the act
  abbrev its_position : Position
  its_position = record { at = d.after e run'; owes = one.owes; swaps = one.swaps; fill = None }

  -- the table that shows memory after the act
  abbrev act_table : Table
  act_table = table_of machine one.after.slots one.after.words

  -- that table does show it
  act-shows : IsMemory machine act_table (hasher_for one.after.hand) one.after
  act-shows = holds-memory machine (hasher_for one.after.hand) one.after (is-measured one.after.hand)

  -- the leaf is after its act as it says
  act-made : LeafAfter o (task_for o p d) s d.far act_table (with_hasher run' (hasher_for one.after.hand)) e
  act-made =
      subst (λ (z : RunEvent). LeafAfter o (task_for o p d) s d.far act_table (with_hasher run' (hasher_for one.after.hand)) z) (sym one.act)
      (ends (engine ls) o (task_for o p d) s mem d.kept d.far (table_of machine mem.slots mem.words) run here.means (shown-of o trees s mem t pos p d run known sd i (ra.trying st)) (here.doing mem) ra.at
      act_table (with_hasher run' (hasher_for one.after.hand)) st (one.ends act_table (hasher_for one.after.hand) act-shows))

  -- memory after the act
  abbrev memory_after : Memory
  memory_after = record { words = act-made.mem.words; slots = one.after.slots; hand = None }

  -- its words are the act's
  made-is : (r : WordPlace) → IsIn machine r → act-made.mem.words r ≡ one.after.words r
  made-is r in_r = same-memory machine act_table (hasher_for one.after.hand) act-made.mem one.after act-made.memory act-shows r in_r

  -- the world after the event is the one that the row makes
  act-world : (event o s p).world ≡ work_world (work_of d.meaning) one.move s.world
  act-world = one.world

  -- what a word is before what is owed
  abbrev word_before : WordPlace → ℕ
  word_before q = or_else (last_at one.first q) (or_else (last_at one.filled q) (mem.words q))

  -- what another owes stays
  owes-other : (k : ℕ) (r : WordPlace) → (k == p) ≡ false → last_at (put pos p its_position k).owes r ≡ last_at (pos k).owes r
  owes-other k r h = ap (λ (z : Position). last_at z.owes r) (at-other pos p k its_position h)

  -- what the processor owes is what the act leaves owed
  owes-own : (r : WordPlace) → last_at (put pos p its_position p).owes r ≡ last_at one.owes r
  owes-own r = ap (λ (z : Position). last_at z.owes r) (put_here pos p its_position)

  -- no other processor owes this word
  abbrev IsOwedByNoOther : WordPlace → Type 0
  IsOwedByNoOther r = (k : ℕ) → k < length o.calls → (k == p) ≡ false → last_at (pos k).owes r ≡ None

  -- nobody else owes a word that the act stores
  first-alone : (r : WordPlace) (x : ℕ) → last_at one.first r ≡ Some x → IsOwedByNoOther r
  first-alone r x h =
      let may = last-each ls.places (CanWrite act s.world) one.first r x one.written h in
      none-due ls o trees s mem t pos p r act act-of-it are known sd i
      (record {
        owes = λ g k apart owes. (ls.words act g s.world (turned-round g act apart)).writes_owes r may.0 k may.1 owes;
        fills = λ g apart fills. (ls.words g act s.world apart).fills_writes r may.0 fills may.1;
      })

  -- nor one that was filled before it
  filled-alone : (r : WordPlace) (x : ℕ) → last_at one.filled r ≡ Some x → IsOwedByNoOther r
  filled-alone r x h =
      let may = last-each ls.places (FillsAt machine act s.world) one.filled r x one.filled_may h in
      none-due ls o trees s mem t pos p r act act-of-it are known sd i
      (record {
        owes = λ g k apart owes. (ls.words act g s.world (turned-round g act apart)).fills_owes r k may.1 owes;
        fills = λ g apart fills. (ls.words g act s.world apart).fills_fills r fills may.1;
      })

  -- the world that the row makes
  abbrev world_after : World
  world_after = work_world (work_of d.meaning) one.move s.world

  -- nor one that is owed after it
  owes-alone : (r : WordPlace) (k : Grade) → Owes mine world_after r k → IsOwedByNoOther r
  owes-alone r k own =
      let later : Owes act world_after r k = part-meets mine act _ _ locks-of-act own in
      none-due ls o trees s mem t pos p r act act-of-it are known sd i
      (record {
        owes = λ g j apart owes. (ls.acts g act s.world world_after apart one.spares.respects).owes_later r j k owes later;
        fills = λ g apart fills. (ls.acts g act s.world world_after apart one.spares.respects).fills_later r k fills later;
      })

  -- where nothing was filled and no other owes, nothing was owed
  none-owed : (r : WordPlace) → last_at one.filled r ≡ None → IsOwedByNoOther r → (k : ℕ) → k < length o.calls → last_at (pos k).owes r ≡ None
  none-owed r e alone k j = test (k == p) refl
    where
      test : (b : Bool) → (k == p) ≡ b → last_at (pos k).owes r ≡ None
      test true h = (let k-is : k ≡ p = eqb-true k p h in ap (λ (z : ℕ). last_at (pos z).owes r) k-is ∙ (one.undo r ∙ ap (λ (z : Option ℕ). back z (mem.words r)) e))
      test false h = alone k j h

  -- a word that is owed is on the table what it was to be before
  kept-there : (r : WordPlace) (k : Grade) → IsIn machine r → Owes mine world_after r k → word_before r ≡ on_table machine t' r
  kept-there r k in_r own = ap (or_else (last_at one.first r)) (by (last_at one.filled r) refl) ∙ sym (one.table r in_r)
    where
      by : (x : Option ℕ) → last_at one.filled r ≡ x → or_else (last_at one.filled r) (mem.words r) ≡ on_table machine t r
      by (Some x) h = ap (λ (z : Option ℕ). or_else z (mem.words r)) h ∙ sym (one.there r x in_r h)
      by None h =
          ap (λ (z : Option ℕ). or_else z (mem.words r)) h
          ∙ (sd.laid_is r in_r ∙ laid-none (length o.calls) (λ j. (pos j).owes) (on_table machine t) r (none-owed r h (owes-alone r k own)))

  -- nobody else owes what this processor owes now
  owed-alone : (r : WordPlace) (x : ℕ) → last_at one.owes r ≡ Some x → IsOwedByNoOther r
  owed-alone r x h =
      let each = keeps-each machine mine world_after word_before one.owes one.owed in
      let may = last-each ls.places (OwesAt machine mine world_after) one.owes r x each h in
      owes-alone r may.1.0 may.1.1

  -- a word of the table with all that is owed laid on it
  abbrev laid_word : WordPlace → ℕ
  laid_word r = laid (length o.calls) (λ k. (put pos p its_position k).owes) (on_table machine t') r

  -- where no other owes, only what the processor owes is laid on it
  laid-own : (r : WordPlace) → IsOwedByNoOther r → laid_word r ≡ or_else (last_at one.owes r) (t'.words (address machine.pages r))
  laid-own r alone =
      laid-one (length o.calls) p (λ k. (put pos p its_position k).owes) (on_table machine t') r i (λ k j h. owes-other k r h ∙ alone k j h)
      ∙ ap (λ (z : Option ℕ). or_else z (t'.words (address machine.pages r))) (owes-own r)

  -- memory after the act is the table with all that is owed laid on it
  laid-after : (r : WordPlace) → IsIn machine r → act-made.mem.words r ≡ laid_word r
  laid-after r in_r = made-is r in_r ∙ (one.makes r in_r ∙ by (last_at one.owes r) (last_at one.first r) (last_at one.filled r) refl refl refl)
    where
      owes-is : (x : Option ℕ) (y : ℕ) → last_at one.owes r ≡ x → or_else (last_at one.owes r) y ≡ or_else x y
      owes-is x y e = ap (λ (z : Option ℕ). or_else z y) e

      by : (x y z : Option ℕ) → last_at one.owes r ≡ x → last_at one.first r ≡ y → last_at one.filled r ≡ z → or_else (last_at one.owes r) (or_else (last_at one.first r) (or_else (last_at one.filled r) (mem.words r))) ≡ laid_word r
      by (Some x) y z ex ey ez = owes-is (Some x) (or_else (last_at one.first r) (or_else (last_at one.filled r) (mem.words r))) ex ∙ sym (laid-own r (owed-alone r x ex) ∙ owes-is (Some x) (t'.words (address machine.pages r)) ex)
      by None (Some y) z ex ey ez =
          owes-is None (or_else (last_at one.first r) (or_else (last_at one.filled r) (mem.words r))) ex
          ∙ (ap (λ (u : Option ℕ). or_else u (or_else (last_at one.filled r) (mem.words r))) ey
          ∙ sym (laid-own r (first-alone r y ey)
          ∙ (owes-is None (t'.words (address machine.pages r)) ex ∙ (one.table r in_r ∙ ap (λ (u : Option ℕ). or_else u (t.words (address machine.pages r))) ey))))
      by None None (Some z) ex ey ez =
          owes-is None (or_else (last_at one.first r) (or_else (last_at one.filled r) (mem.words r))) ex
          ∙ (ap (λ (u : Option ℕ). or_else u (or_else (last_at one.filled r) (mem.words r))) ey
          ∙ (ap (λ (u : Option ℕ). or_else u (mem.words r)) ez
          ∙ sym (laid-own r (filled-alone r z ez)
          ∙ (owes-is None (t'.words (address machine.pages r)) ex ∙ (one.table r in_r ∙ (ap (λ (u : Option ℕ). or_else u (t.words (address machine.pages r))) ey ∙ one.there r z in_r ez))))))
      by None None None ex ey ez =
          owes-is None (or_else (last_at one.first r) (or_else (last_at one.filled r) (mem.words r))) ex
          ∙ (ap (λ (u : Option ℕ). or_else u (or_else (last_at one.filled r) (mem.words r))) ey
          ∙ (ap (λ (u : Option ℕ). or_else u (mem.words r)) ez
          ∙ (sd.laid_is r in_r
          ∙ laid-same (length o.calls) (λ k. (pos k).owes) (λ k. (put pos p its_position k).owes) (on_table machine t) (on_table machine t') r owes-same
          (sym (one.table r in_r ∙ ap (λ (u : Option ℕ). or_else u (t.words (address machine.pages r))) ey)))))
        where
          owes-same : (k : ℕ) → k < length o.calls → last_at (pos k).owes r ≡ last_at (put pos p its_position k).owes r
          owes-same k j = test (k == p) refl
            where
              test : (b : Bool) → (k == p) ≡ b → last_at (pos k).owes r ≡ last_at (put pos p its_position k).owes r
              test true h =
                  let k-is : k ≡ p = eqb-true k p h in
                  subst (λ (u : ℕ). last_at (pos u).owes r ≡ last_at (put pos p its_position u).owes r) (sym k-is)
                  (one.undo r ∙ (ap (λ (u : Option ℕ). back u (mem.words r)) ez ∙ sym (owes-own r ∙ ex)))
              test false h = sym (owes-other k r h)

  -- after the act all stands as it leaves it
  pub act-step : Moved o trees (event o s p) t' (put pos p (record { at = d.after e run'; owes = one.owes; swaps = one.swaps; fill = None }))
  act-step =
      let held : lock_grip_of (event o s p) p ≡ mine = ap bare (leads.locks_stay one.move one.is_act one.next) in
      let respects : Respects act s.world (event o s p).world = subst (λ (w : World). Respects act s.world w) (sym act-world) one.spares.respects in
      record {
        memory = memory_after;
        stands = gathered ls o trees s mem memory_after t t' pos p its_position act act-of-it are known sd i
            (record {
              respects = respects;
              looks = λ g v r apart in_r reads. ap (look v) (made-is r in_r) ∙ one.spares.looks g v r apart in_r reads;
              still = one.spares.still;
              filled = λ g r apart in_r fills. (let sp = one.spares.filled g r apart in_r fills in (sp.0, made-is r in_r ∙ sp.1));
            })
            (record { word = act-made.shown.word; hasher = λ h. subst (λ (w : World). IsAs (hasher_cell w h) (one.after.slots h)) (sym act-world) (one.hashers h) }) refl
            (slots-event ls o trees s mem t t'.slots pos p one.after.slots one.put its_position act act-of-it locks-of-act known sd i no-swaps
            (record {
              respects = respects;
              there = one.slots_there;
              makes = one.slots_makes;
              written = one.slots_written;
              may = subst (λ (w : World). SwapsMay machine mine w (λ h. or_else (last_put one.put h) (mem.slots h)) one.swaps) (sym act-world) one.slots_may;
              held = λ x. subst (λ (g : Grip). SwapsMay machine g (event o s p).world (λ h. or_else (last_put one.put h) (sd.slots.now h)) one.swaps) (sym held) x;
            }))
            (subst (λ (z : List Made). Grows (bundles_in s) (bundles_in (event o s p)) z (d.after e run').beside.bundles) same_bundles (leads.after_grows act_table run' (hasher_for one.after.hand) e act-made))
            (record {
              stands = leads.after_stands act_table run' (hasher_for one.after.hand) e act-made (λ z. absurd (one.answered z));
              due =
                  subst (λ (w : World). Keeps machine (lock_grip_of (event o s p) p) w (on_table machine t') one.owes) (sym act-world)
                  (subst (λ (g : Grip). Keeps machine g world_after (on_table machine t') one.owes) (sym held)
                  (keeps-same machine mine mine world_after world_after word_before (on_table machine t') one.owes (λ q k owes. owes) kept-there one.owed));
            })
            laid-after;
      }
