-- A guest's access to a word of a private page, through a cached translation, as a decision over words: as the access to a
-- shared word is, but for the tries and conditions.
use Rattle.std.specs.Prelude.{ℕ, ◌<◌, [], ◌∷◌}
use Rattle.td_words.specs.declared.names.Access.{Access}
use Rattle.td_words.specs.declared.names.Access.TheVariants.{Read, Write}
use Rattle.td_words.specs.declared.replies.Value.TheVariants as value
use Rattle.td_words.specs.declared.replies.Reply.TheVariants.{Done}
use Rattle.td_words.specs.Place as place
use Rattle.flat_core.specs.Tree.{word_of_gpa}
use Rattle.word_rules.specs.Rules.{Whole}
use Rattle.leaf_engine.specs.declared.needs.Place.{Place}
use Rattle.leaf_engine.specs.Changes.{Put}
use Rattle.leaf_engine.specs.Trees.{Tree, Load, acts}
use Rattle.leaf_engine.specs.Means.{Task, OfAccess, MeansRow}
use Rattle.access_core.specs.OperationTrees.{with_position, with_register, put_next, loaded}

-- a load: the load of the word is the act
abbrev pub private_load_tree : (vp line register gpa page : ℕ) → Tree
private_load_tree v line r gpa page = with_position v (λ at. Load Whole (place.Word page (word_of_gpa gpa)) (λ x. loaded v line r gpa at x))

-- a store: the store of the word is the act. No word is told to the host
abbrev pub private_stored : (vp gpa page position word : ℕ) → Tree
private_stored v gpa page at x = acts (Done (value.Number x)) (Put (place.Word page (word_of_gpa gpa)) x ∷ put_next v at ∷ [])

abbrev pub private_store_tree : (vp register gpa page : ℕ) → Tree
private_store_tree v r gpa page = with_position v (λ at. with_register v r (λ x. private_stored v gpa page at x))

abbrev pub access_tree : (vp line : ℕ) → Access → (register gpa page : ℕ) → Tree
access_tree v line Read r gpa page = private_load_tree v line r gpa page
access_tree v line Write r gpa page = private_store_tree v r gpa page

abbrev pub access_task : Place → (tdr vp line : ℕ) → Access → (register gpa page : ℕ) → Task
access_task p t v line access r gpa page = record { place = p; tree = access_tree v line access r gpa page; meaning = OfAccess t v line access r gpa page }

-- it means that event, where the register is one of the eight
abbrev pub AccessesMean : Type 0
AccessesMean = (p : Place) (t v line : ℕ) (access : Access) (r gpa page : ℕ) → r < 8 → MeansRow (access_task p t v line access r gpa page)
