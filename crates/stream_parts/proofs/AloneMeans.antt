-- The beginning of the rows that hold a TD's map alone means what their rows say.
use Rattle.std.proofs.Common.{ℕ, ◌<◌, Bool, List, [], ◌∷◌, ◌++◌, map, refl, inl, arith}
use Rattle.std.proofs.lemmas.Bool.{eq-eqb}
use Rattle.td_words.specs.declared.names.OpState.{OpState}
use Rattle.td_words.specs.declared.names.Mode.TheVariants.{Shared, Exclusive}
use Rattle.td_words.specs.declared.machines.Machine.{Machine}
use Rattle.td_words.specs.declared.refusals.Status.{Status}
use Rattle.td_words.specs.declared.replies.Reply.{Reply}
use Rattle.flat_core.specs.Processor.{Held}
use Rattle.flat_core.specs.Row.{Item, needs}
use Rattle.flat_core.specs.Conditions.{td_exclusive, tree_exclusive}
use Rattle.flat_core.specs.Lawful.{Lawful}
use Rattle.word_rules.specs.Cells.{Shows}
use Rattle.leaf_engine.specs.Trees.{Tree}
use Rattle.leaf_engine.specs.Means.{Instant, Means, Work}
use Rattle.leaf_parts.specs.Arguments.{AllHold, checked}
use Rattle.leaf_parts.proofs.Begun.{IsTd, op_lock, page_lock}
use Rattle.leaf_parts.proofs.Checks.{td-row-means}
use Rattle.leaf_parts.proofs.Told.{tdcs-spot}
use Rattle.sept_parts.specs.SeptTrees.{tree_lock_tree}
use Rattle.sept_parts.proofs.SeptLocks.{tree_held}
use Rattle.stream_parts.proofs.StreamMeans.{HoldsHead, HoldsAlone}
use Rattle.stream_parts.specs.AloneTrees.{td_alone_tree}

-- the locks behind the beginning of a TD's row, where its operation state is held alone, and behind T besides
abbrev pub td_locks : ℕ → List Held
td_locks t = op_lock t Exclusive ∷ page_lock t Shared ∷ []

abbrev pub alone_locks : ℕ → List Held
alone_locks t = tree_held t Exclusive ∷ op_lock t Exclusive ∷ page_lock t Shared ∷ []

pub td-own : (t : ℕ) (hs : List Held) → HoldsAlone (td_locks t ++ hs) t
td-own t hs = record { tdr = rw (eq-eqb t t refl) refl; op = rw (eq-eqb t t refl) refl; alone = rw (eq-eqb t t refl) refl }

pub alone-head : (t : ℕ) (hs : List Held) → HoldsHead (alone_locks t ++ hs) t
alone-head t hs = record { tdr = rw (eq-eqb t t refl) refl; op = rw (eq-eqb t t refl) refl }

pub alone-own : (t : ℕ) (hs : List Held) → HoldsAlone (alone_locks t ++ hs) t
alone-own t hs = record { tdr = rw (eq-eqb t t refl) refl; op = rw (eq-eqb t t refl) refl; alone = rw (eq-eqb t t refl) refl }

module _ (m : Machine) (c : Instant) (k : Work) (t : ℕ) (la : Lawful m c.state.world) (sh : Shows m c.memory.words c.memory.slots c.state) where
  -- the try of T
  tree-means : (allowed : List OpState) (x : IsTd m c.state.world t allowed) (further : Tree) (rest : List (Item Reply)) → Means m c k (alone_locks t) further rest
      → Means m c k (td_locks t) (tree_lock_tree t x.controls.tdcs Exclusive further) (tree_exclusive t ∷ rest)
  tree-means allowed x further rest h = (
    refl,
    refl,
    record {
      in_machine = (x.controls.tdcs_in, omega arith);
      at = rw x.controls.list refl;
      stands = record { alive = x.alive; has_tdcs = rw x.controls.list refl };
      allowed = rw (tdcs-spot c.state.world t 1 x.controls.tdcs (x.controls.root ∷ []) x.controls.list x.controls.tdcs_page) (inl (rw (eq-eqb t t refl) refl, tt));
    },
    h,
  )

  -- and the whole, behind arguments
  pub alone-row-means : (cs : List (Bool × Status)) → (AllHold cs → t < m.pages) → (allowed : List OpState) (further : ℕ → Tree) (rest : List (Item Reply))
      → (AllHold cs → (x : IsTd m c.state.world t allowed) → Means m c k (alone_locks t) (further x.controls.tdcs) rest)
      → Means m c k [] (checked cs (td_alone_tree m.pages t allowed further)) (map (λ d. needs d.0 d.1) cs ++ (td_exclusive c.state.world t allowed ++ tree_exclusive t ∷ rest))
  alone-row-means cs in_page allowed further rest h =
      td-row-means m c k t la sh cs in_page Exclusive allowed (λ td. tree_lock_tree t td.tdcs Exclusive (further td.tdcs)) (tree_exclusive t ∷ rest)
      (λ a x. tree-means allowed x (further x.controls.tdcs) rest (h a x))
