-- Guest operations as decisions over the words that they are told. The words of the virtual processor's own page are loaded
-- and stored under the locks of its VP.ENTER.
use Rattle.std.specs.Prelude.{ℕ, ◌+◌, ◌<◌, ◌%◌, ◌^◌, Bool, not, ◌==◌, ◌&&◌, nat_lt, None, List, [], ◌∷◌}
use Rattle.td_words.specs.declared.names.Mode.TheVariants.{Shared}
use Rattle.td_words.specs.declared.names.Access.{Access}
use Rattle.td_words.specs.declared.names.Access.TheVariants.{Read, Write}
use Rattle.td_words.specs.declared.machines.Machine.{Machine}
use Rattle.td_words.specs.declared.places.TheConstants.{VP_POSITION, VP_REGISTERS}
use Rattle.td_words.specs.declared.replies.Outcome.TheVariants.{EptViolation, Vmcall}
use Rattle.td_words.specs.declared.replies.Value.TheVariants as value
use Rattle.td_words.specs.declared.replies.Reply.{Reply}
use Rattle.td_words.specs.declared.replies.Reply.TheVariants.{Done, Exited}
use Rattle.td_words.specs.Place as place
use Rattle.flat_core.specs.Processor.{OfPage, Note, LoadNote}
use Rattle.flat_core.specs.Tree.{word_of_gpa}
use Rattle.flat_core.specs.Guest.{set_value, add_registers, call_host, shared_page, shared_load, shared_store}
use Rattle.word_rules.specs.Rules.{Whole}
use Rattle.leaf_engine.specs.declared.needs.Place.{Place}
use Rattle.leaf_engine.specs.Changes.{Change, Put}
use Rattle.leaf_engine.specs.Trees.{Answer, Tree, Lock, Load, Test, End, Since, acts}
use Rattle.leaf_engine.specs.Means.{Task, OfOperation, MeansRow}
use Rattle.leaf_parts.specs.Words.{says_host}

-- its position, and a register, are loaded
abbrev pub with_position : (vp : ℕ) → (ℕ → Tree) → Tree
with_position v further = Load Whole (place.Word v VP_POSITION) further

abbrev pub with_register : (vp register : ℕ) → (ℕ → Tree) → Tree
with_register v r further = Load Whole (place.Word v (VP_REGISTERS + r)) further

-- a register is stored; and, as the last store of each operation that is completed, the position behind it
abbrev pub put_register : (vp register word : ℕ) → Change
put_register v r x = Put (place.Word v (VP_REGISTERS + r)) x

abbrev pub put_next : (vp position : ℕ) → Change
put_next v at = Put (place.Word v VP_POSITION) ((at + 1) % 2 ^ 64)

-- an operation that notes and tells these
abbrev pub with_notes : Reply → List Note → (tells : List ℕ) → Answer
with_notes r ns xs = record { reply = r; cached = λ ts. ts; enters = None; notes = ns; tells = xs; bundles = [] }

-- set R V: the store of the register is the act
abbrev pub set_tree : (vp register value : ℕ) → Tree
set_tree v r x = with_position v (λ at. acts (Done value.Nothing) (put_register v r x ∷ put_next v at ∷ []))

-- add R S
abbrev pub add_tree : (vp register other : ℕ) → Tree
add_tree v r s =
    with_position v (λ at. with_register v r (λ x. with_register v s (λ y.
    acts (Done value.Nothing) (put_register v r ((x + y) % 2 ^ 64) ∷ put_next v at ∷ []))))

-- vmcall R: the store of the position is the act
abbrev pub vmcall_tree : (vp register : ℕ) → Tree
vmcall_tree v r = with_position v (λ at. with_register v r (λ x. End (with_notes (Exited (Vmcall x)) [] (x ∷ [])) [] (put_next v at ∷ [])))

-- a shared GPA: the page that it names is judged, tried and found to be the host's, or it is an EPT violation
abbrev pub unless_violation : Access → (gpa : ℕ) → Bool → Tree → Tree
unless_violation access gpa holds further = Test holds (Exited (EptViolation gpa access)) further

abbrev pub shared_tree : Machine → (vp : ℕ) → Access → (gpa : ℕ) → Tree → Tree
shared_tree m v access gpa further =
    unless_violation access gpa (nat_lt (shared_page gpa) m.pages && not (shared_page gpa == v))
    (Lock (OfPage (shared_page gpa)) (place.Lock (shared_page gpa)) Shared
    (Load Whole (place.Pamt (shared_page gpa)) (λ pamt. unless_violation access gpa (says_host pamt) further)))

-- a shared load: the load of the word is the act
abbrev pub loaded : (vp line register gpa position word : ℕ) → Tree
loaded v line r gpa at x = Since (with_notes (Done (value.Number x)) (LoadNote line gpa x ∷ []) []) (put_register v r x ∷ put_next v at ∷ [])

abbrev pub shared_load_tree : Machine → (vp line register gpa : ℕ) → Tree
shared_load_tree m v line r gpa =
    shared_tree m v Read gpa (with_position v (λ at. Load Whole (place.Word (shared_page gpa) (word_of_gpa gpa)) (λ x. loaded v line r gpa at x)))

-- a shared store: the store of the word is the act
abbrev pub stored : (vp gpa position word : ℕ) → Tree
stored v gpa at x = End (with_notes (Done (value.Number x)) [] (x ∷ [])) [] (Put (place.Word (shared_page gpa) (word_of_gpa gpa)) x ∷ put_next v at ∷ [])

abbrev pub shared_store_tree : Machine → (vp register gpa : ℕ) → Tree
shared_store_tree m v r gpa = shared_tree m v Write gpa (with_position v (λ at. with_register v r (λ x. stored v gpa at x)))

-- their leaves, for a virtual processor of a TD, at a call line
abbrev pub set_task : Place → (tdr vp register value : ℕ) → Task
set_task p t v r x = record { place = p; tree = set_tree v r x; meaning = OfOperation t v (set_value v r x) }

abbrev pub add_task : Place → (tdr vp register other : ℕ) → Task
add_task p t v r s = record { place = p; tree = add_tree v r s; meaning = OfOperation t v (add_registers v r s) }

abbrev pub vmcall_task : Place → (tdr vp register : ℕ) → Task
vmcall_task p t v r = record { place = p; tree = vmcall_tree v r; meaning = OfOperation t v (call_host v r) }

abbrev pub shared_load_task : Place → (tdr vp line register gpa : ℕ) → Task
shared_load_task p t v line r gpa = record { place = p; tree = shared_load_tree p.machine v line r gpa; meaning = OfOperation t v (shared_load p.machine v line r gpa) }

abbrev pub shared_store_task : Place → (tdr vp register gpa : ℕ) → Task
shared_store_task p t v r gpa = record { place = p; tree = shared_store_tree p.machine v r gpa; meaning = OfOperation t v (shared_store p.machine v r gpa) }

-- each means its row, where the registers are some of the eight
abbrev pub SetMeans : Type 0
SetMeans = (p : Place) (t v r x : ℕ) → r < 8 → MeansRow (set_task p t v r x)

abbrev pub AddMeans : Type 0
AddMeans = (p : Place) (t v r s : ℕ) → r < 8 → s < 8 → MeansRow (add_task p t v r s)

abbrev pub VmcallMeans : Type 0
VmcallMeans = (p : Place) (t v r : ℕ) → r < 8 → MeansRow (vmcall_task p t v r)

abbrev pub SharedLoadMeans : Type 0
SharedLoadMeans = (p : Place) (t v line r gpa : ℕ) → r < 8 → MeansRow (shared_load_task p t v line r gpa)

abbrev pub SharedStoreMeans : Type 0
SharedStoreMeans = (p : Place) (t v r gpa : ℕ) → r < 8 → MeansRow (shared_store_task p t v r gpa)
