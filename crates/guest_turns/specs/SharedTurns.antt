-- How far a shared access is, as what is left of its leaf's tree, and what an event of it does.
use Rattle.std.specs.Prelude.{ℕ, ◌+◌, ◌<◌, Bool, true, false, Option, Some, None, MatchOption, List, [], ◌∷◌}
use Rattle.td_words.specs.declared.names.LockName.TheVariants as name
use Rattle.td_words.specs.declared.names.Access.{Access}
use Rattle.td_words.specs.declared.names.Access.TheVariants.{Read, Write}
use Rattle.td_words.specs.declared.machines.Machine.{Machine}
use Rattle.td_words.specs.declared.replies.Outcome.TheVariants.{EptViolation}
use Rattle.td_words.specs.declared.replies.Value.TheVariants as value
use Rattle.td_words.specs.declared.replies.Reply.{Reply}
use Rattle.td_words.specs.declared.replies.Reply.TheVariants.{Done, Exited}
use Rattle.td_words.specs.Address.{lock_at, word_at}
use Rattle.td_words.specs.Place as place
use Rattle.flat_core.specs.Tree.{word_of_gpa}
use Rattle.flat_core.specs.Guest.{shared_page}
use Rattle.word_rules.specs.Rules.{Whole}
use Rattle.step_core.specs.declared.items.Taken.{Taken}
use Rattle.leaf_engine.specs.declared.events.HeldLock.{HeldLock}
use Rattle.leaf_engine.specs.declared.events.Stage.TheVariants as stage
use Rattle.leaf_engine.specs.Trees.{Tree, Load, answers}
use Rattle.leaf_engine.specs.Turns.{Standing, standing}
use Rattle.leaf_parts.specs.Words.{says_host}
use Rattle.access_core.specs.OperationTrees.{with_position, with_register, unless_violation, shared_load_tree, shared_store_tree, loaded, stored}
use Rattle.guest_turns.specs.Pages.{page_lock}
use Rattle.guest_turns.specs.Turns.{ShortTurned, ShortGoesOn}
use Rattle.guest_turns.specs.declared.runs.SharedStage.{SharedStage}
use Rattle.guest_turns.specs.declared.runs.SharedStage.TheVariants.{Denied, Locked, Violated, Completed}
use Rattle.guest_turns.specs.declared.runs.SharedRun.{SharedRun}
use Rattle.guest_turns.specs.declared.runs.LeafTurn.{LeafTurn}

-- the tree of a load, and of a store
abbrev pub access_tree : Machine → Access → (vp line register gpa : ℕ) → Tree
access_tree m Read v line r gpa = shared_load_tree m v line r gpa
access_tree m Write v line r gpa = shared_store_tree m v r gpa

-- what is left of it once the page is found to be the host's
abbrev pub host_tree : Access → (vp line register gpa : ℕ) → Tree
host_tree Read v line r gpa = with_position v (λ at. Load Whole (place.Word (shared_page gpa) (word_of_gpa gpa)) (λ x. loaded v line r gpa at x))
host_tree Write v line r gpa = with_position v (λ at. with_register v r (λ x. stored v gpa at x))

-- behind the try of the page's lock
abbrev pub locked_tree : Access → (vp line register gpa : ℕ) → Tree
locked_tree access v line r gpa = Load Whole (place.Pamt (shared_page gpa)) (λ pamt. unless_violation access gpa (says_host pamt) (host_tree access v line r gpa))

-- and once the word was accessed
abbrev pub ended_tree : Access → (vp line register gpa position word : ℕ) → Tree
ended_tree Read v line r gpa at x = loaded v line r gpa at x
ended_tree Write v line r gpa at x = stored v gpa at x

abbrev pub violation : Access → (gpa : ℕ) → Reply
violation access gpa = Exited (EptViolation gpa access)

-- where an access stands at a stage
abbrev pub stands : SharedStage → Access → (vp line register gpa : ℕ) → Standing
stands Denied access v line r gpa = standing (locked_tree access v line r gpa) (stage.Undoing (name.Page (shared_page gpa)) (lock_at (shared_page gpa))) [] None
stands Locked access v line r gpa = standing (locked_tree access v line r gpa) stage.Trying (page_lock gpa ∷ []) None
stands Violated access v line r gpa = standing (answers (violation access gpa)) (stage.Answered (violation access gpa)) (page_lock gpa ∷ []) None
stands (Completed at x) access v line r gpa = standing (ended_tree access v line r gpa at x) (stage.Answered (Done (value.Number x))) (page_lock gpa ∷ []) None

abbrev pub standing_at : SharedRun → SharedStage → Standing
standing_at r s = stands s r.access r.vp r.line r.register r.gpa

abbrev pub standing_of : SharedRun → Standing
standing_of r = standing_at r r.stage

abbrev pub held_by : Option SharedRun → List HeldLock
held_by None = []
held_by (Some r) = (standing_of r).held

-- its pages are the machine's
pub record IsIn (m : Machine) (r : SharedRun) : Type 0 where
  pub vp : r.vp < m.pages
  pub page : r.page < m.pages

-- one that is kept
abbrev pub IsRunIn : Machine → Option SharedRun → Type 0
IsRunIn m kept = MatchOption kept ⊥ (IsIn m)

-- the turn of a run that stood there, and what is kept of it; and the next turn of the one that is kept
abbrev pub SharedTurned : {B : Type 0} → (List Taken → B → Type 0) → Machine → Standing → B → Option SharedRun → LeafTurn → Type 0
SharedTurned did m s bench kept result = ShortTurned standing_of IsIn did m s bench kept result

abbrev pub KeptTurned : {B : Type 0} → (List Taken → B → Type 0) → Machine → Option SharedRun → B → Option SharedRun → LeafTurn → Type 0
KeptTurned did m before bench kept result = ShortGoesOn standing_of IsIn did m before bench kept result

-- how far it is behind the try of its page's lock
abbrev pub stage_behind : Bool → SharedStage
stage_behind true = Locked
stage_behind false = Denied

-- where the word of an access is loaded, and where it is stored
abbrev pub source : Access → (vp register gpa : ℕ) → ℕ
source Read v r gpa = word_at (shared_page gpa) (word_of_gpa gpa)
source Write v r gpa = word_at v (8 + r)

abbrev pub target : Access → (vp register gpa : ℕ) → ℕ
target Read v r gpa = word_at v (8 + r)
target Write v r gpa = word_at (shared_page gpa) (word_of_gpa gpa)
