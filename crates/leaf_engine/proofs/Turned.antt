-- What a turn makes of a run.
use Rattle.std.proofs.Common.{◌≡◌, ℕ, ◌+◌, ◌<◌, ◌≤◌, Bool, true, false, cond, List, [], ◌∷◌, ◌++◌, length, drop, Option, refl, ap, sym, ◌∙◌, subst, arith, length-append}
use Rattle.td_words.specs.declared.names.LockName.{LockName}
use Rattle.td_words.specs.declared.names.Mode.{Mode}
use Rattle.td_words.specs.declared.names.Mode.TheVariants.{Shared, Exclusive}
use Rattle.td_words.specs.declared.machines.Machine.{Machine}
use Rattle.td_words.specs.declared.replies.Reply.{Reply}
use Rattle.mrtd_measure.specs.declared.measures.Measure.{Measure}
use Rattle.step_core.specs.Words.{word_count}
use Rattle.step_core.specs.declared.items.Taken.{Taken}
use Rattle.step_core.specs.declared.items.Taken.TheVariants.{Stepped}
use Rattle.leaf_engine.specs.declared.needs.Need.TheVariants as need
use Rattle.leaf_engine.specs.declared.events.Event.TheVariants as event
use Rattle.leaf_engine.specs.declared.events.HeldLock.{HeldLock}
use Rattle.leaf_engine.specs.declared.events.Stage.{Stage}
use Rattle.leaf_engine.specs.declared.events.Stage.TheVariants as stage
use Rattle.leaf_engine.specs.Trees.{Tree, settle, passed, changes_of, changes_left}
use Rattle.leaf_engine.specs.Decides.{Wants}
use Rattle.leaf_engine.specs.Items.{IsLoaded, AreChanged}
use Rattle.leaf_engine.specs.Turns.{Standing, standing, tried, denied, try_step, grants, Advances, AreIn, IsStageIn, CanRun}

-- locks in the machine

pub are-in-last : (m : Machine) (hs : List HeldLock) (h : HeldLock) → AreIn m (hs ++ h ∷ []) → h.at < word_count m
are-in-last m [] h i = i.0
are-in-last m (k ∷ hs) h i = are-in-last m hs h i.1

pub are-in-front : (m : Machine) (hs : List HeldLock) (h : HeldLock) → AreIn m (hs ++ h ∷ []) → AreIn m hs
are-in-front m [] h i = tt
are-in-front m (k ∷ hs) h i = (i.0, are-in-front m hs h i.1)

are-in-more : (m : Machine) (hs : List HeldLock) (h : HeldLock) → AreIn m hs → h.at < word_count m → AreIn m (hs ++ h ∷ [])
are-in-more m [] h i b = (b, tt)
are-in-more m (k ∷ hs) h i b = (i.0, are-in-more m hs h i.1 b)

-- after a try
pub record Noted (s : Standing) (h : HeldLock) (granted : Bool) (stage' : Stage) (held' : List HeldLock) : Type 0 where
  pub stage : stage' ≡ cond granted s.stage (denied h.name h.at h.mode)
  pub held : held' ≡ cond granted (s.held ++ h ∷ []) s.held

tried-is : (s : Standing) (t rest : Tree) (h : HeldLock) (b : Bool) (stage' : Stage) (held' : List HeldLock) → rest ≡ t → Noted s h b stage' held'
    → standing rest stage' held' s.hasher ≡ tried s t h.name h.at h.mode b
tried-is s t rest h true stage' held' p n = (let q = n.stage in let w = n.held in rw (p, q, w) refl)
tried-is s t rest h false stage' held' p n = (let q = n.stage in let w = n.held in rw (p, q, w) refl)

pub tries-goes : (m : Machine) (s : Standing) (loads : List Taken) (t rest : Tree) (h : HeldLock) (seen : ℕ) (granted : Bool) (stage' : Stage) (held' : List HeldLock)
    → IsLoaded m.pages s.rest loads t → Wants m.pages (settle t) (need.Lock h.name h.at h.mode) → rest ≡ passed (settle t) → granted ≡ grants h.mode seen → Noted s h granted stage' held'
    → Advances m s (loads ++ Stepped (try_step h.at h.mode) seen ∷ []) (standing rest stage' held' s.hasher) (event.Try h.name h.mode granted)
tries-goes m s loads t rest h seen granted stage' held' l g r b n =
    record {
      loads = loads;
      tree = t;
      need = need.Lock h.name h.at h.mode;
      loaded = l;
      gives = g;
      comes = record {
        seen = seen;
        items = refl;
        event = ap (event.Try h.name h.mode) b;
        after = tried-is s (passed (settle t)) rest h granted stage' held' r n ∙ ap (tried s (passed (settle t)) h.name h.at h.mode) b;
      };
    }

room-more : (hs : List HeldLock) (h : HeldLock) (a b : ℕ) → length hs + a ≤ 32 → b < a → length (hs ++ h ∷ []) + b ≤ 32
room-more hs h a b r l = omega (arith, length-append hs (h ∷ []))

denied-in : (m : Machine) (written : ℕ) (name : LockName) (at : ℕ) (mode : Mode) → at < word_count m → IsStageIn m written (denied name at mode)
denied-in m written name at Shared i = i
denied-in m written name at Exclusive i = tt

can-by : (m : Machine) (s : Standing) (rest : Tree) (h : HeldLock) (tries tries' : ℕ) (b : Bool) → CanRun m s tries 0 false → s.stage ≡ stage.Trying → h.at < word_count m → tries' < tries
    → CanRun m (standing rest (cond b s.stage (denied h.name h.at h.mode)) (cond b (s.held ++ h ∷ []) s.held) s.hasher) tries' 0 false
can-by m s rest h tries tries' true can on i l =
    record { held_in = are-in-more m s.held h can.held_in i; stage_in = rw on refl; room = room-more s.held h tries tries' can.room l; ready = refl }
can-by m s rest h tries tries' false can on i l =
    let fewer : length s.held + tries' ≤ 32 = omega (arith, can.room) in
    record { held_in = can.held_in; stage_in = denied-in m 0 h.name h.at h.mode i; room = fewer; ready = refl }

pub can-after-try : (m : Machine) (s : Standing) (rest : Tree) (h : HeldLock) (tries tries' written written' : ℕ) (waits waits' granted : Bool) (stage' : Stage) (held' : List HeldLock)
    → CanRun m s tries written waits → s.stage ≡ stage.Trying → h.at < word_count m → tries' < tries → written' ≡ written → waits' ≡ false → Noted s h granted stage' held'
    → CanRun m (standing rest stage' held' s.hasher) tries' written' waits'
can-after-try m s rest h tries tries' written written' waits waits' granted stage' held' can on i l w r n =
    let none : written ≡ 0 = subst (λ (z : Stage). IsStageIn m written z) on can.stage_in in
    let at-0 : CanRun m s tries 0 false = record { held_in = can.held_in; stage_in = subst (λ (z : ℕ). IsStageIn m z s.stage) none can.stage_in; room = can.room; ready = refl } in
    let now = can-by m s rest h tries tries' granted at-0 on i l in
    let a : CanRun m (standing rest stage' (cond granted (s.held ++ h ∷ []) s.held) s.hasher) tries' 0 false = subst (λ (z : Stage). CanRun m (standing rest z (cond granted (s.held ++ h ∷ []) s.held) s.hasher) tries' 0 false) (sym n.stage) now in
    let b : CanRun m (standing rest stage' held' s.hasher) tries' 0 false = subst (λ (z : List HeldLock). CanRun m (standing rest stage' z s.hasher) tries' 0 false) (sym n.held) a in
    let c : CanRun m (standing rest stage' held' s.hasher) tries' written' false = subst (λ (z : ℕ). CanRun m (standing rest stage' held' s.hasher) tries' z false) (sym (w ∙ none)) b in
    subst (λ (z : Bool). CanRun m (standing rest stage' held' s.hasher) tries' written' z) (sym r) c

-- after the act
pub ends-goes : (m : Machine) (s : Standing) (loads changes : List Taken) (t rest asked : Tree) (written : ℕ) (reply : Reply) (hasher : Option Measure)
    → IsLoaded m.pages s.rest loads t → Wants m.pages (settle t) (need.Verdict reply) → asked ≡ passed (settle t) → rest ≡ asked → written ≡ 0
    → AreChanged m (changes_left asked written) s.hasher changes hasher
    → Advances m s (loads ++ changes) (standing rest (stage.Answered reply) s.held hasher) event.Act
ends-goes m s loads changes t rest asked written reply hasher l g a r w c =
    let from : AreChanged m (changes_of asked) s.hasher changes hasher = subst (λ (z : ℕ). AreChanged m (drop z (changes_of asked)) s.hasher changes hasher) w c in
    record {
      loads = loads;
      tree = t;
      need = need.Verdict reply;
      loaded = l;
      gives = g;
      comes = record {
        hasher = hasher;
        changes = changes;
        items = refl;
        changed = subst (λ (z : Tree). AreChanged m (changes_of z) s.hasher changes hasher) a from;
        event = refl;
        after = ap (λ (z : Tree). standing z (stage.Answered reply) s.held hasher) (r ∙ a);
      };
    }
