-- A try, an undo or a release in a merge: one step on the word of a lock, which is the flat machine's next event.
use Rattle.std.proofs.Common.{◌≡◌, ℕ, ◌<◌, Bool, true, false, ◌==◌, List, [], ◌∷◌, length, None, refl, ap, sym, ◌∙◌, subst}
use Rattle.std.proofs.lemmas.Bool.{eqb-true}
use Rattle.td_words.specs.declared.machines.Machine.{Machine}
use Rattle.td_words.specs.declared.replies.Reply.{Reply}
use Rattle.td_words.specs.Place.{WordPlace, IsIn, address, same_place}
use Rattle.flat_core.specs.World.{World, Made, put}
use Rattle.flat_core.specs.Opening.{Opening}
use Rattle.flat_core.specs.Row.{Move}
use Rattle.flat_core.specs.Event.{State, event}
use Rattle.flat_core.specs.Run.{bundles_in}
use Rattle.flat_core.proofs.Tests.{put_here}
use Rattle.word_rules.specs.Guards.{Grip, Apart}
use Rattle.word_rules.specs.Rules.{View, Grade}
use Rattle.word_rules.specs.Views.{look}
use Rattle.word_rules.specs.Cells.{IsAs, hasher_cell}
use Rattle.word_rules.specs.Permissions.{Reads, Owes, Fills, Tries, Respects}
use Rattle.step_core.specs.declared.steps.WordStep.{WordStep}
use Rattle.step_core.specs.declared.steps.WordStep.TheVariants as step
use Rattle.step_core.specs.Words.{Words, after_step, address_of, answer_of}
use Rattle.step_core.specs.Items.{Table}
use Rattle.step_core.specs.declared.items.Taken.TheVariants.{Stepped}
use Rattle.leaf_engine.specs.declared.events.Event.{Event as RunEvent}
use Rattle.leaf_engine.specs.Changes.{Memory}
use Rattle.leaf_engine.specs.Tables.{IsMemory}
use Rattle.leaf_engine.specs.Turns.{Standing, TurnBy, has_ended}
use Rattle.leaf_engine.specs.Doing.{LeafAfter}
use Rattle.leaf_engine.proofs.Doings.{Laws as EngineLaws, follows}
use Rattle.merge_laws.proofs.Virtual.{table_of, holds-memory, step-same, step-elsewhere}
use Rattle.merge_laws.proofs.Stores.{Due, last_at, laid, laid-none, laid-same}
use Rattle.merge_laws.proofs.Holding.{lock_grip_of, locks-part, same-part, turned-round}
use Rattle.merge_laws.proofs.Standing.{Trees, Does, task_for, DoesHere, Leads, Laws, Grows, AreTrees, Known, HandOf, RunsAt, on_table, Position, Stands}
use Rattle.merge_laws.proofs.Others.{shown-hand}
use Rattle.merge_laws.proofs.SlotSteps.{slots-event}
use Rattle.merge_laws.proofs.Own.{at-other, gathered, none-due}

pub engine : Laws → EngineLaws
engine ls = record { follow = ls.follow; steps = ls.steps; places = ls.places; pages = ls.pages }

pub answers-same : (w v : Words) (s : WordStep) (at : ℕ) → address_of s ≡ at → w at ≡ v at → answer_of w s ≡ answer_of v s
answers-same w v (step.Load n) at a e = ap w a ∙ (e ∙ ap v (sym a))
answers-same w v (step.Store n x) at a e = refl
answers-same w v (step.Add n x) at a e = ap w a ∙ (e ∙ ap v (sym a))
answers-same w v (step.Sub n x) at a e = ap w a ∙ (e ∙ ap v (sym a))
answers-same w v (step.Exchange n old new) at a e = ap w a ∙ (e ∙ ap v (sym a))

-- the event of a turn that is one step on a lock's word
pub record OneStep (o : Opening) (s : State) (p : ℕ) (d : Does) (mv : Move Reply) (run run' : Standing) (st : WordStep) (a : ℕ) (q : WordPlace) (e : RunEvent) : Type 0 where
  pub turn : TurnBy run.stage o.machine run (Stepped st a ∷ []) run' e
  pub going : has_ended run.stage run.held ≡ false
  pub hand : HandOf run'
  pub quiet : (event o s p).world ≡ s.world
  pub inside : IsIn o.machine q
  pub at : address_of st ≡ address o.machine.pages q
  pub tries : Tries (lock_grip_of s p) s.world q

-- what came of a piece: memory that shows the state after it
pub record Moved (o : Opening) (trees : Trees) (s : State) (t : Table) (pos : ℕ → Position) : Type 0 where
  pub memory : Memory
  pub stands : Stands o trees s memory t pos

-- the event of one step on a lock's word, and how all stands after it
module _ (ls : Laws) (o : Opening) (trees : Trees) (s : State) (mem : Memory) (t : Table) (pos : ℕ → Position) (p : ℕ) (d : Does) (mv : Move Reply) (run run' : Standing) (st : WordStep) (a : ℕ) (q : WordPlace)
    (e : RunEvent) (are : AreTrees o trees) (known : Known o s) (sd : Stands o trees s mem t pos) (i : p < length o.calls) (here : DoesHere o s p d) (leads : Leads o trees s p d) (same_bundles : d.bundles ≡ (pos p).at.beside.bundles) (none : (pos p).owes ≡ []) (no-swaps : (pos p).swaps ≡ [])
    (ra : RunsAt (task_for o p d) d.far s.world mem.words run) (ho : HandOf run) (one : OneStep o s p d mv run run' st a q e) (an : a ≡ answer_of t.words st) where
  abbrev machine : Machine
  machine = o.machine

  -- what the processor has by its locks
  abbrev mine : Grip
  mine = lock_grip_of s p

  -- where the processor is after the step
  abbrev its_position : Position
  its_position = record { at = d.after e run'; owes = []; swaps = []; fill = None }

  -- the table after the step
  abbrev stepped_table : Table
  stepped_table = record t { words = after_step t.words st }

  -- the table that shows memory
  abbrev shown_table : Table
  shown_table = table_of machine mem.slots mem.words

  -- and that table after the same step
  abbrev shown_after : Table
  shown_after = record shown_table { words = after_step shown_table.words st }

  -- memory, with the hasher in hand
  abbrev memory_in_hand : Memory
  memory_in_hand = record mem { hand = ho.hand }

  -- before the step it does show it
  table-shows : IsMemory machine shown_table run.hasher memory_in_hand
  table-shows = holds-memory machine run.hasher memory_in_hand ho.is

  -- nobody owes the lock's word
  none-owed : (k : ℕ) → k < length o.calls → last_at (pos k).owes q ≡ None
  none-owed k j = by (k == p) refl
    where
      by : (b : Bool) → (k == p) ≡ b → last_at (pos k).owes q ≡ None
      by true e = (let k-is : k ≡ p = eqb-true k p e in ap (λ (z : ℕ). last_at (pos z).owes q) k-is ∙ ap (λ (ds : List Due). last_at ds q) none)
      by false e =
          none-due ls o trees s mem t pos p q mine (locks-part s p) are known sd i
          (record {
            owes = λ h g apart owes. (ls.words mine h s.world (turned-round h mine apart)).tries_owes q g one.tries owes;
            fills = λ h apart fills. (ls.words mine h s.world (turned-round h mine apart)).tries_fills q one.tries fills;
          }) k j e

  -- so it is on the table what it is in memory
  word-here : mem.words q ≡ t.words (address machine.pages q)
  word-here = sd.laid_is q one.inside ∙ laid-none (length o.calls) (λ k. (pos k).owes) (on_table machine t) q none-owed

  -- and what the table that shows memory has there
  word-shown : t.words (address machine.pages q) ≡ shown_table.words (address machine.pages q)
  word-shown = sym word-here ∙ sym (table-shows.words q one.inside)

  -- the leaf is after its step as it says
  step-made : LeafAfter o (task_for o p d) s d.far shown_after run' e
  step-made =
      follows (engine ls) o (task_for o p d) s memory_in_hand d.kept d.far shown_table run here.means (shown-hand o trees s mem t pos p d run known sd i ho) (here.doing memory_in_hand) ra.at shown_after run' (Stepped st a ∷ []) e one.going one.turn
      (an ∙ answers-same t.words shown_table.words st (address machine.pages q) one.at word-shown, (refl, refl))

  -- memory after the step
  abbrev memory_after : Memory
  memory_after = record { words = step-made.mem.words; slots = mem.slots; hand = None }

  -- a word is as it was, but for the lock's
  as-it-was : (r : WordPlace) → IsIn machine r → (same_place r q ≡ true → step-made.mem.words r ≡ mem.words r) → step-made.mem.words r ≡ mem.words r
  as-it-was r in_r at-q = by (same_place r q) refl
    where
      by : (b : Bool) → same_place r q ≡ b → step-made.mem.words r ≡ mem.words r
      by true e = at-q e
      by false e = sym (step-made.memory.words r in_r) ∙ (step-elsewhere ls.places machine shown_table.words st q r one.inside in_r one.at e ∙ table-shows.words r in_r)

  -- nobody else reads the lock's word
  never-read : (h : Grip) (v : View) (r : WordPlace) → Apart h mine → Reads h s.world r v → same_place r q ≡ true → ⊥
  never-read h v r apart reads e =
      let r-is : r ≡ q = (ls.places.same r q).0 e in
      (ls.words mine h s.world (turned-round h mine apart)).tries_reads q v one.tries (subst (λ (z : WordPlace). Reads h s.world z v) r-is reads)

  -- nobody else owes it
  never-owed : (h : Grip) (r : WordPlace) (g : Grade) → Apart h mine → Owes h s.world r g → same_place r q ≡ true → ⊥
  never-owed h r g apart owes e =
      let r-is : r ≡ q = (ls.places.same r q).0 e in
      (ls.words mine h s.world (turned-round h mine apart)).tries_owes q g one.tries (subst (λ (z : WordPlace). Owes h s.world z g) r-is owes)

  -- nobody else fills it
  never-filled : (h : Grip) (r : WordPlace) → Apart h mine → Fills h s.world r → same_place r q ≡ true → ⊥
  never-filled h r apart fills e =
      let r-is : r ≡ q = (ls.places.same r q).0 e in
      (ls.words mine h s.world (turned-round h mine apart)).tries_fills q one.tries (subst (λ (z : WordPlace). Fills h s.world z) r-is fills)

  -- every other word of the table is as it was
  elsewhere : (r : WordPlace) → IsIn machine r → (same_place r q ≡ true → ⊥) → stepped_table.words (address machine.pages r) ≡ t.words (address machine.pages r)
  elsewhere r in_r not-q = by (same_place r q) refl
    where
      by : (b : Bool) → same_place r q ≡ b → stepped_table.words (address machine.pages r) ≡ t.words (address machine.pages r)
      by true e = absurd (not-q e)
      by false e = step-elsewhere ls.places machine t.words st q r one.inside in_r one.at e

  -- what each processor owes stays
  owes-same : (k : ℕ) (r : WordPlace) → last_at (pos k).owes r ≡ last_at (put pos p its_position k).owes r
  owes-same k r = by (k == p) refl
    where
      by : (b : Bool) → (k == p) ≡ b → last_at (pos k).owes r ≡ last_at (put pos p its_position k).owes r
      by true e =
          let k-is : k ≡ p = eqb-true k p e in
          ap (λ (z : ℕ). last_at (pos z).owes r) k-is ∙ (ap (λ (ds : List Due). last_at ds r) none ∙ sym (ap (λ (z : Position). last_at z.owes r) (ap (put pos p its_position) k-is ∙ put_here pos p its_position)))
      by false e = sym (ap (λ (z : Position). last_at z.owes r) (at-other pos p k its_position e))

  -- memory after the step is the table with all that is owed laid on it
  laid-after : (r : WordPlace) → IsIn machine r → step-made.mem.words r ≡ laid (length o.calls) (λ k. (put pos p its_position k).owes) (on_table machine stepped_table) r
  laid-after r in_r = by (same_place r q) refl
    where
      by : (b : Bool) → same_place r q ≡ b → step-made.mem.words r ≡ laid (length o.calls) (λ k. (put pos p its_position k).owes) (on_table machine stepped_table) r
      by true e =
          let r-is : r ≡ q = (ls.places.same r q).0 e in
          let made : step-made.mem.words q ≡ stepped_table.words (address machine.pages q) = sym (step-made.memory.words q one.inside) ∙ sym (step-same t.words shown_table.words st (address machine.pages q) one.at word-shown) in
          let none' = laid-none (length o.calls) (λ k. (put pos p its_position k).owes) (on_table machine stepped_table) q (λ k j. sym (owes-same k q) ∙ none-owed k j) in
          subst (λ (z : WordPlace). step-made.mem.words z ≡ laid (length o.calls) (λ k. (put pos p its_position k).owes) (on_table machine stepped_table) z) (sym r-is) (made ∙ sym none')
      by false e =
          as-it-was r in_r (λ h. cc)
          ∙ (sd.laid_is r in_r
          ∙ laid-same (length o.calls) (λ k. (pos k).owes) (λ k. (put pos p its_position k).owes) (on_table machine t) (on_table machine stepped_table) r (λ k j. owes-same k r)
          (sym (step-elsewhere ls.places machine t.words st q r one.inside in_r one.at e)))

  -- after the step all stands as it leaves it
  pub lock-step : Moved o trees (event o s p) (record t { words = after_step t.words st }) (put pos p (record { at = d.after e run'; owes = []; swaps = []; fill = None }))
  lock-step =
      let respects : Respects mine s.world (event o s p).world = subst (λ (w : World). Respects mine s.world w) (sym one.quiet) (ls.compose.same mine s.world) in
      record {
        memory = memory_after;
        stands = gathered ls o trees s mem memory_after t stepped_table pos p its_position mine (locks-part s p) are known sd i
            (record {
              respects = respects;
              looks = λ h v r apart in_r reads. ap (look v) (as-it-was r in_r (λ e. absurd (never-read h v r apart reads e)));
              still = λ h r g apart in_r owes. sym (elsewhere r in_r (λ e. never-owed h r g apart owes e));
              filled = λ h r apart in_r fills. (sym (elsewhere r in_r (λ e. never-filled h r apart fills e)), as-it-was r in_r (λ e. absurd (never-filled h r apart fills e)));
            })
            (record { word = step-made.shown.word; hasher = λ h. subst (λ (w : World). IsAs (hasher_cell w h) (mem.slots h)) (sym one.quiet) (sd.shows.hasher h) }) refl
            (slots-event ls o trees s mem t t.slots pos p mem.slots [] its_position mine (locks-part s p) (same-part mine) known sd i no-swaps
            (record {
              respects = respects;
              there = sd.slots.there;
              makes = λ h in_h. refl;
              written = λ h x e. cc;
              may = tt;
              held = λ x. tt;
            }))
            (subst (λ (z : List Made). Grows (bundles_in s) (bundles_in (event o s p)) z (d.after e run').beside.bundles) same_bundles (leads.after_grows shown_after run' run'.hasher e step-made))
            (record {
              stands = leads.after_stands shown_after run' run'.hasher e step-made one.hand.trying;
              due = tt;
            })
            laid-after;
      }
