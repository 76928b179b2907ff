-- The bundles that a leaf's turn adds are those that its answer makes.
use Rattle.std.proofs.Common.{◌≡◌, ◌⊎◌, inl, inr, [], refl, ap, sym, ◌∙◌, subst}
use Rattle.td_words.specs.declared.replies.Reply.{Reply}
use Rattle.flat_core.specs.World.{World}
use Rattle.flat_core.specs.Processor.{Progress, nothing_yet}
use Rattle.flat_core.specs.Opening.{Opening}
use Rattle.flat_core.specs.Row.{Move, Attempts, Undoes, Refuses, Succeeds, Releases, Rests, next_in}
use Rattle.flat_core.specs.Event.{State, event, world_after}
use Rattle.step_core.specs.Items.{Table}
use Rattle.leaf_engine.specs.declared.events.Event.{Event as RunEvent}
use Rattle.leaf_engine.specs.declared.events.Event.TheVariants as events
use Rattle.leaf_engine.specs.Trees.{Answer, Tree, answer_of, added}
use Rattle.leaf_engine.specs.Besides.{Beside, nothing_beside, beside_after, bundles_made}
use Rattle.leaf_engine.specs.Means as meaning
use Rattle.leaf_engine.specs.Means.{Task, Meaning, Work, work_of}
use Rattle.leaf_engine.specs.Turns.{Standing}
use Rattle.leaf_engine.specs.Doing.{event_of, HasMoves, work_world, ActsBy, LeafAfter}
use Rattle.leaf_engine.proofs.Doings.{act-world, no-act}
use Rattle.leaf_engine.proofs.GuestGoes.{world-same}
use Rattle.leaf_engine.proofs.GuestThen.{after-is}

-- one that is a single event succeeds
succeeds-or-moves : (k : Meaning) (w : World) (x : Progress Reply) (mv : Move Reply) → HasMoves k ⊎ (x ≡ nothing_yet) → next_in ((work_of k).items w) x.phase x.held ≡ mv → HasMoves k ⊎ (mv ≡ Succeeds)
succeeds-or-moves k w x mv (inl h) due = inl h
succeeds-or-moves (meaning.OfCall row) w x mv (inr fresh) due = inl tt
succeeds-or-moves (meaning.OfOperation t v row) w x mv (inr fresh) due = inl tt
succeeds-or-moves (meaning.OfAccess t v line access r gpa page) w x mv (inr fresh) due = inr (sym due ∙ ap (λ (z : Progress Reply). next_in [] z.phase z.held) fresh)
succeeds-or-moves (meaning.OfWalk t v access gpa level page) w x mv (inr fresh) due = inr (sym due ∙ ap (λ (z : Progress Reply). next_in [] z.phase z.held) fresh)
succeeds-or-moves (meaning.OfExit t v out) w x mv (inr fresh) due = inr (sym due ∙ ap (λ (z : Progress Reply). next_in [] z.phase z.held) fresh)

world-is : (k : Meaning) (w : World) (mv : Move Reply) → HasMoves k ⊎ (mv ≡ Succeeds) → world_after (event_of k mv) w ≡ work_world (work_of k) mv w
world-is k w mv (inr e) = subst (λ (z : Move Reply). world_after (event_of k z) w ≡ work_world (work_of k) z w) (sym e) (act-world k w)
world-is (meaning.OfCall row) w (Attempts l m) (inl h) = refl
world-is (meaning.OfCall row) w (Undoes l) (inl h) = refl
world-is (meaning.OfCall row) w (Refuses r) (inl h) = refl
world-is (meaning.OfCall row) w Succeeds (inl h) = refl
world-is (meaning.OfCall row) w (Releases x) (inl h) = refl
world-is (meaning.OfCall row) w Rests (inl h) = refl
world-is (meaning.OfOperation t v row) w mv (inl h) = sym (world-same t v row mv w)
world-is (meaning.OfAccess t v line access r gpa page) w mv (inl h) = absurd h
world-is (meaning.OfWalk t v access gpa level page) w mv (inl h) = absurd h
world-is (meaning.OfExit t v out) w mv (inl h) = absurd h

module _ (e : RunEvent) (t : Tree) (k : Work) (w : World) where
  abbrev Makes : World → Type 0
  Makes w' = w'.outgoing.bundles ≡ added w.outgoing.bundles (bundles_made e t)

  none-made : (bundles_made e t ≡ []) → Makes w
  none-made none = sym (ap (added w.outgoing.bundles) none)

  acted-makes : (mv : Move Reply) → ActsBy mv e k w (answer_of t) → Makes (work_world k mv w)
  acted-makes (Attempts l m) n = none-made (no-act e t nothing_beside n).1
  acted-makes (Undoes l) n = none-made (no-act e t nothing_beside n).1
  acted-makes (Releases h) n = none-made (no-act e t nothing_beside n).1
  acted-makes Rests n = none-made (no-act e t nothing_beside n).1
  acted-makes (Refuses r) a = none-made (ap (λ (z : RunEvent). bundles_made z t) a.0 ∙ ap (λ (z : Answer). z.bundles) a.1)
  acted-makes Succeeds a = a.1.bundles_are ∙ sym (ap (λ (z : RunEvent). added w.outgoing.bundles (bundles_made z t)) a.0)

pub adds-bundles : (o : Opening) (task : Task) (s : State) (x : Progress Reply) (u : Table) (run : Standing) (e : RunEvent) → HasMoves task.meaning ⊎ (x ≡ nothing_yet) → LeafAfter o task s x u run e
    → (event o s task.place.lp).world.outgoing.bundles ≡ added s.world.outgoing.bundles (bundles_made e run.rest)
adds-bundles o task s x u run e single a =
    let k : Work = work_of task.meaning in
    let world : world_after (event_of task.meaning a.move) s.world ≡ work_world k a.move s.world = world-is task.meaning s.world a.move (succeeds-or-moves task.meaning s.world x a.move single a.due) in
    ap (λ (z : State). z.world.outgoing.bundles) (after-is o s task.place.lp (event_of task.meaning a.move) a.next.next)
    ∙ (ap (λ (z : World). z.outgoing.bundles) world ∙ acted-makes e run.rest k s.world a.move a.acts)

-- and so has its processor
pub own-bundles : (e : RunEvent) (t : Tree) (b : Beside) → (beside_after e t b).bundles ≡ added b.bundles (bundles_made e t)
own-bundles events.Act t b = refl
own-bundles (events.Try name mode granted) t b = refl
own-bundles (events.Undo name) t b = refl
own-bundles (events.Free name) t b = refl
own-bundles (events.Walk level) t b = refl
own-bundles (events.Word at) t b = refl
own-bundles (events.Count parity) t b = refl
