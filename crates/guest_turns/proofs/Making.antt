-- Loads and stores as the turn of a run that comes to its act.
use Rattle.std.proofs.Common.{ℕ, List, [], ◌∷◌, ◌++◌, Option, None, refl}
use Rattle.td_words.specs.declared.machines.Machine.{Machine}
use Rattle.td_words.specs.declared.replies.Reply.{Reply}
use Rattle.td_words.specs.Place.{WordPlace, address}
use Rattle.mrtd_measure.specs.declared.measures.Measure.{Measure}
use Rattle.step_core.specs.declared.steps.WordStep.TheVariants as step
use Rattle.step_core.specs.declared.items.Taken.{Taken}
use Rattle.step_core.specs.declared.items.Taken.TheVariants.{Stepped}
use Rattle.leaf_engine.specs.declared.events.Event.TheVariants as event
use Rattle.leaf_engine.specs.declared.events.HeldLock.{HeldLock}
use Rattle.leaf_engine.specs.declared.events.Stage.TheVariants as stage
use Rattle.leaf_engine.specs.declared.needs.Need.TheVariants as need
use Rattle.leaf_engine.specs.declared.needs.Write.TheVariants as write
use Rattle.leaf_engine.specs.Changes.{Put}
use Rattle.leaf_engine.specs.Decides.{Wants}
use Rattle.leaf_engine.specs.Items.{IsLoaded, IsChanged, AreChanged}
use Rattle.leaf_engine.specs.Trees.{Tree, settle, passed, changes_of}
use Rattle.leaf_engine.specs.Turns.{standing, Turned, last_reply}

abbrev pub load_of : (at word : ℕ) → Taken
load_of at x = Stepped (step.Load at) x

abbrev pub store_of : (at word : ℕ) → Taken
store_of at x = Stepped (step.Store at x) 0

one-put : (m : Machine) (q : WordPlace) (x : ℕ) (h : Option Measure) → IsChanged m (Put q x) h (store_of (address m.pages q) x ∷ []) h
one-put m q x h = record { write = write.Word (step.Store (address m.pages q) x); between = h; handed = λ hand is. (refl, is); written = (refl, (0, refl)) }

pub a-put : (m : Machine) (q : WordPlace) (x : ℕ) → AreChanged m (Put q x ∷ []) None (store_of (address m.pages q) x ∷ []) None
a-put m q x = (None, (store_of (address m.pages q) x ∷ [], ([], refl, one-put m q x None, (refl, refl))))

pub two-puts : (m : Machine) (q : WordPlace) (x : ℕ) (p : WordPlace) (y : ℕ) → AreChanged m (Put q x ∷ Put p y ∷ []) None (store_of (address m.pages q) x ∷ store_of (address m.pages p) y ∷ []) None
two-puts m q x p y = (
  None,
  (
    store_of (address m.pages q) x ∷ [],
    (store_of (address m.pages p) y ∷ [], refl, one-put m q x None, (None, (store_of (address m.pages p) y ∷ [], ([], refl, one-put m p y None, (refl, refl))))),
  ),
)

-- a run that comes to its act
pub comes-to-act : {B : Type 0} (did : List Taken → B → Type 0) (m : Machine) (t : Tree) (held : List HeldLock) (loads : List Taken) (tree : Tree) (stores : List Taken) (reply : Reply) (bench : B) → did (loads ++ stores) bench
    → IsLoaded m.pages t loads tree → Wants m.pages (settle tree) (need.Verdict reply) → AreChanged m (changes_of (passed (settle tree))) None stores None
    → Turned did m (standing t stage.Trying held None) bench (standing (passed (settle tree)) (stage.Answered reply) held None) (record { event = event.Act; reply = last_reply (stage.Answered reply) held })
comes-to-act did m t held loads tree stores reply bench made loaded gives changed = (
  loads ++ stores,
  made,
  record {
    turn = record { loads = loads; tree = tree; need = need.Verdict reply; loaded = loaded; gives = gives; comes = record { hasher = None; changes = stores; items = refl; changed = changed; event = refl; after = refl } };
    reply = refl;
  },
)
