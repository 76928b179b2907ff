-- A turn of loads and stores is the one turn of its tree.
use Rattle.std.proofs.Common.{ℕ, ◌+◌, ◌%◌, ◌^◌, List, [], ◌∷◌, ◌++◌, None, refl}
use Rattle.td_words.specs.declared.machines.Machine.{Machine}
use Rattle.td_words.specs.declared.replies.Reply.{Reply}
use Rattle.td_words.specs.declared.replies.Reply.TheVariants.{Done}
use Rattle.td_words.specs.declared.replies.Value.TheVariants as value
use Rattle.td_words.specs.Address.{word_at}
use Rattle.td_words.specs.Place.{Word}
use Rattle.flat_core.specs.Tree.{word_of_gpa}
use Rattle.step_core.specs.declared.items.Taken.{Taken}
use Rattle.leaf_engine.specs.declared.needs.Need.TheVariants as need
use Rattle.leaf_engine.specs.Decides.{Wants}
use Rattle.leaf_engine.specs.Items.{IsLoaded, AreChanged}
use Rattle.leaf_engine.specs.Trees.{Tree, acts, fed, settle, passed, changes_of}
use Rattle.td_words.specs.declared.names.Access.{Access}
use Rattle.sept_walk.specs.SecureEpt.{index_at}
use Rattle.word_rules.specs.Rules.{TheRights}
use Rattle.word_rules.specs.Views.{look}
use Rattle.access_core.specs.WalkTrees.{walk_tree}
use Rattle.access_core.specs.OperationTrees.{put_register, put_next, set_tree, add_tree, loaded}
use Rattle.access_core.specs.ReachTrees.{private_load_tree, private_stored, private_store_tree}
use Rattle.guest_turns.specs.Turns.{MadeAtOnce}
use Rattle.guest_turns.proofs.Making.{load_of, store_of, two-puts, comes-to-act}

at-once : {B : Type 0} (did : List Taken → B → Type 0) (m : Machine) (t : Tree) (loads : List Taken) (tree : Tree) (stores : List Taken) (reply : Reply) (bench : B) → did (loads ++ stores) bench
    → IsLoaded m.pages (settle t) loads tree → Wants m.pages (settle tree) (need.Verdict reply) → AreChanged m (changes_of (passed (settle tree))) None stores None → MadeAtOnce did m t bench reply
at-once did m t loads tree stores reply bench made loaded gives changed = (passed (settle tree), comes-to-act did m (settle t) [] loads tree stores reply bench made loaded gives changed)

-- the turn of each tree

pub set-made : {B : Type 0} (did : List Taken → B → Type 0) (m : Machine) (v r x p : ℕ) (bench : B)
    → did (load_of (word_at v 4) p ∷ store_of (word_at v (8 + r)) x ∷ store_of (word_at v 4) ((p + 1) % 2 ^ 64) ∷ []) bench → MadeAtOnce did m (set_tree v r x) bench (Done value.Nothing)
set-made did m v r x p bench made =
    at-once did m (set_tree v r x) (load_of (word_at v 4) p ∷ []) (acts (Done value.Nothing) (put_register v r x ∷ put_next v p ∷ []))
    (store_of (word_at v (8 + r)) x ∷ store_of (word_at v 4) ((p + 1) % 2 ^ 64) ∷ []) (Done value.Nothing) bench made
    ((word_at v 4, refl, refl), refl) refl (two-puts m (Word v (8 + r)) x (Word v 4) ((p + 1) % 2 ^ 64))

pub add-made : {B : Type 0} (did : List Taken → B → Type 0) (m : Machine) (v r s p x y : ℕ) (bench : B)
    → did (load_of (word_at v 4) p ∷ load_of (word_at v (8 + r)) x ∷ load_of (word_at v (8 + s)) y ∷ store_of (word_at v (8 + r)) ((x + y) % 2 ^ 64) ∷ store_of (word_at v 4) ((p + 1) % 2 ^ 64) ∷ []) bench
    → MadeAtOnce did m (add_tree v r s) bench (Done value.Nothing)
add-made did m v r s p x y bench made =
    at-once did m (add_tree v r s) (load_of (word_at v 4) p ∷ load_of (word_at v (8 + r)) x ∷ load_of (word_at v (8 + s)) y ∷ []) (acts (Done value.Nothing) (put_register v r ((x + y) % 2 ^ 64) ∷ put_next v p ∷ []))
    (store_of (word_at v (8 + r)) ((x + y) % 2 ^ 64) ∷ store_of (word_at v 4) ((p + 1) % 2 ^ 64) ∷ []) (Done value.Nothing) bench made
    ((word_at v 4, refl, refl), ((word_at v (8 + r), refl, refl), ((word_at v (8 + s), refl, refl), refl))) refl (two-puts m (Word v (8 + r)) ((x + y) % 2 ^ 64) (Word v 4) ((p + 1) % 2 ^ 64))

pub load-made : {B : Type 0} (did : List Taken → B → Type 0) (m : Machine) (v line r gpa page p x : ℕ) (bench : B)
    → did (load_of (word_at v 4) p ∷ load_of (word_at page (word_of_gpa gpa)) x ∷ store_of (word_at v (8 + r)) x ∷ store_of (word_at v 4) ((p + 1) % 2 ^ 64) ∷ []) bench
    → MadeAtOnce did m (private_load_tree v line r gpa page) bench (Done (value.Number x))
load-made did m v line r gpa page p x bench made =
    at-once did m (private_load_tree v line r gpa page) (load_of (word_at v 4) p ∷ load_of (word_at page (word_of_gpa gpa)) x ∷ []) (loaded v line r gpa p x)
    (store_of (word_at v (8 + r)) x ∷ store_of (word_at v 4) ((p + 1) % 2 ^ 64) ∷ []) (Done (value.Number x)) bench made
    ((word_at v 4, refl, refl), ((word_at page (word_of_gpa gpa), refl, refl), refl)) refl (two-puts m (Word v (8 + r)) x (Word v 4) ((p + 1) % 2 ^ 64))

pub store-made : {B : Type 0} (did : List Taken → B → Type 0) (m : Machine) (v r gpa page p x : ℕ) (bench : B)
    → did (load_of (word_at v 4) p ∷ load_of (word_at v (8 + r)) x ∷ store_of (word_at page (word_of_gpa gpa)) x ∷ store_of (word_at v 4) ((p + 1) % 2 ^ 64) ∷ []) bench
    → MadeAtOnce did m (private_store_tree v r gpa page) bench (Done (value.Number x))
store-made did m v r gpa page p x bench made =
    at-once did m (private_store_tree v r gpa page) (load_of (word_at v 4) p ∷ load_of (word_at v (8 + r)) x ∷ []) (private_stored v gpa page p x)
    (store_of (word_at page (word_of_gpa gpa)) x ∷ store_of (word_at v 4) ((p + 1) % 2 ^ 64) ∷ []) (Done (value.Number x)) bench made
    ((word_at v 4, refl, refl), ((word_at v (8 + r), refl, refl), refl)) refl (two-puts m (Word page (word_of_gpa gpa)) x (Word v 4) ((p + 1) % 2 ^ 64))

pub walk-made : {B : Type 0} (did : List Taken → B → Type 0) (m : Machine) (t : ℕ) (access : Access) (gpa level page x : ℕ) (bench : B) → did (load_of (word_at page (index_at level gpa)) x ∷ []) bench
    → MadeAtOnce did m (walk_tree t access gpa level page) bench (Done (value.Number (look TheRights x)))
walk-made did m t access gpa level page x bench made =
    at-once did m (walk_tree t access gpa level page) (load_of (word_at page (index_at level gpa)) x ∷ []) (fed (walk_tree t access gpa level page) x) [] (Done (value.Number (look TheRights x))) bench made
    ((word_at page (index_at level gpa), refl, refl), refl) refl (refl, refl)
