-- The event of a turn of a leaf's run is told as the flat machine's move was.
use Rattle.std.proofs.Common.{◌≡◌, ℕ, zero, suc, Bool, true, false, List, [], ◌∷◌, ◌++◌, length, refl, sym, ◌∙◌, ap, subst}
use Rattle.td_words.specs.declared.names.LockName.{LockName}
use Rattle.td_words.specs.declared.names.Mode.{Mode}
use Rattle.td_words.specs.declared.names.Mode.TheVariants.{Shared, Exclusive}
use Rattle.td_words.specs.declared.machines.Machine.{Machine}
use Rattle.td_words.specs.declared.replies.Reply.{Reply}
use Rattle.flat_core.specs.World.{World}
use Rattle.flat_core.specs.Processor.{LockId, name_of, Held, Phase, Trying, Undoing, Answered, Progress}
use Rattle.flat_core.specs.Row.{Item, Check, Try, Move, Attempts, Undoes, Refuses, Succeeds, Releases, Rests, next, next_in, after_try, after_move}
use Rattle.flat_core.specs.Event.{call_busy}
use Rattle.step_core.specs.declared.items.Taken.{Taken}
use Rattle.leaf_engine.specs.declared.events.Event.{Event as RunEvent}
use Rattle.leaf_engine.specs.declared.events.HeldLock.{HeldLock}
use Rattle.leaf_engine.specs.declared.events.Stage.{Stage}
use Rattle.leaf_engine.specs.declared.events.Stage.TheVariants as stages
use Rattle.leaf_engine.specs.declared.needs.Need.{Need}
use Rattle.leaf_engine.specs.declared.needs.Need.TheVariants as need
use Rattle.leaf_engine.specs.Trees.{Answer, Tree}
use Rattle.leaf_engine.specs.Means.{Work}
use Rattle.leaf_engine.specs.Turns.{Standing, grants, tried, TurnBy, Comes, has_ended}
use Rattle.leaf_engine.specs.Calls.{AreLocks, IsStage}
use Rattle.leaf_engine.specs.Doing.{IsNoAct, ActsBy}
use Rattle.leaf_engine.proofs.Calling.{snoc}
use Rattle.trace_lines.specs.declared.traces.What.TheVariants as what
use Rattle.trace_lines.specs.Traces.{move_is}
use Rattle.trace_laws.specs.Told.{event_told}

-- on its way a call tries, is refused, or succeeds
IsOnTheWay : Move Reply → Type 0
IsOnTheWay (Attempts l m) = Unit {0}
IsOnTheWay (Undoes l) = ⊥
IsOnTheWay (Refuses r) = Unit {0}
IsOnTheWay Succeeds = Unit {0}
IsOnTheWay (Releases h) = ⊥
IsOnTheWay Rests = ⊥

on-the-way : (items : List (Item Reply)) (n : ℕ) → IsOnTheWay (next items n)
unfolding IsOnTheWay
on-the-way [] n = tt
on-the-way (Check true r ∷ items) n = on-the-way items n
on-the-way (Check false r ∷ items) n = tt
on-the-way (Try l m ∷ items) zero = tt
on-the-way (Try l m ∷ items) (suc n) = on-the-way items n

-- the newest lock of those held
newest : (m : Machine) (w : World) (held older : List HeldLock) (x : HeldLock) (h : Held) (hs : List Held) → AreLocks m w held (h ∷ hs) → held ≡ older ++ x ∷ [] → (x.name ≡ name_of h.lock) × (x.mode ≡ h.mode)
newest m w held older x h hs are is =
    let y : HeldLock = are.1.0 in
    let same : y ≡ x = (snoc are.0 older y x (sym are.1.1 ∙ is)).1 in (
      ap (λ (z : HeldLock). z.name) (sym same) ∙ are.1.3.name_is,
      ap (λ (z : HeldLock). z.mode) (sym same) ∙ are.1.2,
    )

told-try : (l : LockId) (m mode : Mode) (name : LockName) (b : Bool) → name ≡ name_of l → mode ≡ m → what.Tries (name_of l) m b ≡ what.Tries name mode b
told-try l m mode name b n e = λ i. what.Tries (sym n i) (sym e i) b

-- a try is granted, or denied, on both sides
module _ (machine : Machine) (w : World) (run : Standing) (t : Tree) (name : LockName) (at : ℕ) (l : LockId) (x : Progress Reply) (trying : run.stage ≡ stages.Trying) where
  tries : (granted b : Bool) (mode m : Mode) → (let s = tried run t name at mode granted in let y = after_try call_busy l m b x in IsStage machine w s.stage y.phase × AreLocks machine w s.held y.held)
      → what.Tries (name_of l) m b ≡ what.Tries name mode granted
  tries true true mode m f = (let n = newest machine w (run.held ++ record { name = name; at = at; mode = mode } ∷ []) run.held (record { name = name; at = at; mode = mode }) (record { lock = l; mode = m }) x.held f.1 refl in told-try l m mode name true n.0 n.1)
  tries true false mode Shared f = absurd (subst (λ (z : Stage). IsStage machine w z (Undoing l)) trying f.0)
  tries true false mode Exclusive f = absurd (subst (λ (z : Stage). IsStage machine w z (Answered (call_busy (name_of l)))) trying f.0)
  tries false true Shared m f = absurd f.0
  tries false true Exclusive m f = absurd f.0
  tries false false Shared Shared f = told-try l Shared Shared name false f.0.name_is refl
  tries false false Shared Exclusive f = absurd f.0
  tries false false Exclusive Shared f = absurd f.0
  tries false false Exclusive Exclusive f = (let same : name ≡ name_of l = (let e = f.0 in cc) in told-try l Exclusive Exclusive name false same refl)

module _ (machine : Machine) (w w' : World) (run stands : Standing) (items : List (Item Reply)) (x : Progress Reply) (xs : List Taken) (e : RunEvent) (k : Work) (answer : Answer) (reply : Reply) (b : Bool) (going : has_ended run.stage run.held ≡ false) where
  abbrev Then : Move Reply → Type 0
  Then mv = let y = after_move call_busy b reply mv x in IsStage machine w' stands.stage y.phase × AreLocks machine w' stands.held y.held

  abbrev Told : Move Reply → Type 0
  Told mv = move_is b mv ≡ event_told what.Acts e

  -- of one on its way
  came : (n : Need) (tree : Tree) (loads : List Taken) → Comes machine run tree loads xs n stands e → run.stage ≡ stages.Trying → (mv : Move Reply) → IsOnTheWay mv → ActsBy mv e k w answer → Then mv → Told mv
  unfolding IsOnTheWay
  came (need.Load at) tree loads co st mv way acts f = absurd co
  came n tree loads co st (Undoes l) way acts f = absurd way
  came n tree loads co st (Releases h) way acts f = absurd way
  came n tree loads co st Rests way acts f = absurd way
  came (need.Lock name at mode) tree loads co st (Refuses r) way acts f = (let a = acts.0 in let t = co.event in cc)
  came (need.Lock name at mode) tree loads co st Succeeds way acts f = (let a = acts.0 in let t = co.event in cc)
  came (need.Lock name at mode) tree loads co st (Attempts l m) way acts f =
      let g : Bool = grants mode co.seen in
      let there = subst (λ (z : Standing). let y = after_try call_busy l m b x in IsStage machine w' z.stage y.phase × AreLocks machine w' z.held y.held) co.after f in
      tries machine w' run tree name at l x st g b mode m there ∙ ap (event_told what.Acts) (sym co.event)
  came (need.Verdict r) tree loads co st (Attempts l m) way acts f = absurd (subst IsNoAct co.event acts)
  came (need.Verdict r) tree loads co st (Refuses r') way acts f = ap (event_told what.Acts) (sym co.event)
  came (need.Verdict r) tree loads co st Succeeds way acts f = ap (event_told what.Acts) (sym co.event)

  -- of any
  module _ (held : AreLocks machine w run.held x.held) where
    staged : (st : Stage) (ph : Phase Reply) → run.stage ≡ st → IsStage machine w st ph → TurnBy st machine run xs stands e → (mv : Move Reply) → next_in items ph x.held ≡ mv → ActsBy mv e k w answer → Then mv → Told mv
    staged stages.Trying Trying st i t mv due acts f = came t.need _ t.loads t.comes st mv (subst IsOnTheWay due (on-the-way items (length x.held))) acts f
    staged stages.Trying (Undoing l) st i t mv due acts f = absurd i
    staged stages.Trying (Answered r) st i t mv due acts f = absurd i
    staged (stages.Undoing name at) Trying st i t mv due acts f = absurd i
    staged (stages.Undoing name at) (Answered r) st i t mv due acts f = absurd i
    staged (stages.Undoing name at) (Undoing l) st i t mv due acts f = subst Told due (ap what.Undoes (sym i.name_is) ∙ ap (event_told what.Acts) (sym t.event))
    staged (stages.Answered r) Trying st i t mv due acts f = absurd i
    staged (stages.Answered r) (Undoing l) st i t mv due acts f = absurd i
    staged (stages.Answered r) (Answered r') st i t mv due acts f = by x.held held due
      where
        by : (hs : List Held) → AreLocks machine w run.held hs → next_in items (Answered r') hs ≡ mv → Told mv
        by [] are d = (let over : has_ended run.stage run.held ≡ true = ap (λ (z : Stage). has_ended z run.held) st ∙ ap (λ (z : List HeldLock). has_ended (stages.Answered r) z) are in let open_ = going in cc)
        by (h ∷ hs) are d = subst Told d (ap what.Releases (sym (newest machine w run.held stands.held t.0.newest h hs are t.0.held_are).0) ∙ ap (event_told what.Acts) (sym t.0.event))

    pub move-told : (mv : Move Reply) → IsStage machine w run.stage x.phase → TurnBy run.stage machine run xs stands e → next_in items x.phase x.held ≡ mv → ActsBy mv e k w answer → Then mv → Told mv
    move-told mv i t due acts f = staged run.stage x.phase refl i t mv due acts f
