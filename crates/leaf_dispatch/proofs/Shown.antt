-- What the turns of a processor tell.
use Rattle.std.proofs.Common.{◌≡◌, ◌∙◌, ℕ, ◌%◌, List, refl, ap, sym, subst}
use Rattle.td_words.specs.declared.names.LockName.{LockName}
use Rattle.td_words.specs.declared.machines.Machine.{Machine}
use Rattle.step_core.specs.declared.items.Taken.{Taken}
use Rattle.leaf_engine.specs.declared.events.Event.{Event}
use Rattle.leaf_engine.specs.declared.events.Event.TheVariants as event
use Rattle.leaf_engine.specs.declared.events.Stage.{Stage}
use Rattle.leaf_engine.specs.declared.events.Stage.TheVariants as stages
use Rattle.leaf_engine.specs.declared.needs.Need.{Need}
use Rattle.leaf_engine.specs.declared.needs.Need.TheVariants as need
use Rattle.leaf_engine.specs.Trees.{Tree}
use Rattle.leaf_engine.specs.Guests.{Step, Operates, Accesses, Loads, Leaves}
use Rattle.leaf_engine.specs.Turns.{Standing, Comes, TurnBy}
use Rattle.trace_lines.specs.declared.traces.What.{What}
use Rattle.trace_lines.specs.declared.traces.What.TheVariants as what
use Rattle.trace_laws.specs.Told.{step_told, event_told}
use Rattle.leaf_dispatch.specs.Exits.{IsCounted}
use Rattle.leaf_dispatch.specs.Running.{IsAnsweredBy}
use Rattle.leaf_dispatch.specs.Shown.{event_as, epoch_loaded}

-- the parity is told of a count step alone

abbrev pub IsNoCount : What → Type 0
IsNoCount what.Counts = ⊥
IsNoCount _ = Unit {0}

pub parity-free : (n k : ℕ) (w : What) → IsNoCount w → event_as n w ≡ event_as k w
parity-free n k (what.Tries name mode granted) none = refl
parity-free n k (what.Undoes name) none = refl
parity-free n k what.Acts none = refl
parity-free n k (what.Walks gpa level) none = refl
parity-free n k (what.Accesses access gpa page) none = refl
parity-free n k (what.Releases name) none = refl
parity-free n k what.Counts none = absurd none

no-count : (act : What) (e : Event) → IsNoCount act → IsNoCount (event_told act e)
no-count act (event.Try name mode granted) none = tt
no-count act (event.Undo name) none = tt
no-count act (event.Free name) none = tt
no-count act event.Act none = none
no-count act (event.Walk level) none = none
no-count act (event.Word at) none = none
no-count act (event.Count n) none = none

pub counted-as : (s : Step) (e : Event) (n : ℕ) (xs : List Taken) → IsCounted s n xs → event_as n (event_told (step_told s) e) ≡ event_as (epoch_loaded xs % 2) (event_told (step_told s) e)
counted-as (Operates o) e n xs counted = parity-free n (epoch_loaded xs % 2) (event_told what.Acts e) (no-count what.Acts e tt)
counted-as (Accesses access r gpa page) e n xs counted = parity-free n (epoch_loaded xs % 2) (event_told (what.Accesses access gpa page) e) (no-count (what.Accesses access gpa page) e tt)
counted-as (Loads access gpa level page) e n xs counted = parity-free n (epoch_loaded xs % 2) (event_told (what.Walks gpa level) e) (no-count (what.Walks gpa level) e tt)
counted-as (Leaves out) e n xs counted = ap (λ (k : ℕ). event_as k (event_told what.Counts e)) counted

-- what is told so is told so again

act-again : (act : What) (n : ℕ) → event_told act (event_as n act) ≡ act
act-again (what.Tries name mode granted) n = refl
act-again (what.Undoes name) n = refl
act-again what.Acts n = refl
act-again (what.Walks gpa level) n = refl
act-again (what.Accesses access gpa page) n = refl
act-again what.Counts n = refl
act-again (what.Releases name) n = refl

pub told-again : (act : What) (n : ℕ) (e : Event) → event_told act (event_as n (event_told act e)) ≡ event_told act e
told-again act n (event.Try name mode granted) = refl
told-again act n (event.Undo name) = refl
told-again act n (event.Free name) = refl
told-again act n event.Act = act-again act n
told-again act n (event.Walk level) = act-again act n
told-again act n (event.Word at) = act-again act n
told-again act n (event.Count k) = act-again act n

-- a run makes tries, undos, acts and releases

abbrev pub IsMade : Event → Type 0
IsMade (event.Walk level) = ⊥
IsMade (event.Word at) = ⊥
IsMade (event.Count n) = ⊥
IsMade _ = Unit {0}

pub run-makes : (st : Stage) (m : Machine) (s : Standing) (xs : List Taken) (s' : Standing) (e : Event) → TurnBy st m s xs s' e → IsMade e
run-makes stages.Trying m s xs s' e t = by _ t.loads t.need t.comes
  where
    by : (tree : Tree) (loads : List Taken) (n : Need) → Comes m s tree loads xs n s' e → IsMade e
    by tree loads (need.Lock name at mode) co = subst IsMade (sym co.event) tt
    by tree loads (need.Load at) co = absurd co
    by tree loads (need.Verdict reply) co = subst IsMade (sym co.event) tt
run-makes (stages.Undoing name at) m s xs s' e t = subst IsMade (sym t.event) tt
run-makes (stages.Answered reply) m s xs s' e t = subst IsMade (sym t.0.event) tt

pub frees : (st : Stage) (m : Machine) (s : Standing) (xs : List Taken) (s' : Standing) (e : Event) → IsAnsweredBy st → TurnBy st m s xs s' e → (name : LockName) × (e ≡ event.Free name)
frees stages.Trying m s xs s' e a t = absurd a
frees (stages.Undoing name at) m s xs s' e a t = absurd a
frees (stages.Answered reply) m s xs s' e a t = (t.0.newest.name, t.0.event)

-- outside guests, and while VP.ENTER gives a lock back, they are told as they are

pub outside-tells : (n : ℕ) (e : Event) → IsMade e → e ≡ event_as n (event_told what.Acts e)
outside-tells n (event.Try name mode granted) made = refl
outside-tells n (event.Undo name) made = refl
outside-tells n event.Act made = refl
outside-tells n (event.Free name) made = refl
outside-tells n (event.Walk level) made = absurd made
outside-tells n (event.Word at) made = absurd made
outside-tells n (event.Count k) made = absurd made

pub free-tells : (n : ℕ) (act : What) (name : LockName) (e : Event) → e ≡ event.Free name → e ≡ event_as n (event_told act e)
free-tells n act name e is = is ∙ sym (ap (λ (z : Event). event_as n (event_told act z)) is)
