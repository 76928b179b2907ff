-- Each private access of a guest reaches its own page, and no other.
use Rattle.std.specs.Prelude.{◌≡◌, ℕ, false, ◌==◌, ◌&&◌, List, Option, Some}
use Rattle.td_words.specs.declared.names.Access.{Access}
use Rattle.td_words.specs.declared.names.Access.TheVariants.{Read, Write}
use Rattle.td_words.specs.declared.names.PageKind.TheVariants as kind
use Rattle.flat_core.specs.World.{World}
use Rattle.flat_core.specs.Opening.{Opening}
use Rattle.flat_core.specs.Tree.{word_of_gpa}
use Rattle.flat_core.specs.Lawful.{IsPageOf}
use Rattle.flat_core.specs.Event.{State, Reaches, next_event, event}
use Rattle.flat_core.specs.Laws.{reached}
pub use Rattle.flat_core.specs.AccessLaw.{AccessesAreOwn}

-- a load changes no word of memory, and a store the one at its GPA alone
pub record KeepsOthers (before after : World) (access : Access) (gpa page : ℕ) : Type 0 where
  pub load : access ≡ Read → (q i : ℕ) → after.words q i ≡ before.words q i
  pub store : access ≡ Write → (q i : ℕ) → (q == page && i == word_of_gpa gpa) ≡ false → after.words q i ≡ before.words q i

-- so it is in any state
abbrev pub AccessesKeepOthers : Type 0
AccessesKeepOthers = (o : Opening) (s : State) (p t v : ℕ) (access : Access) (r gpa page : ℕ)
    → next_event o s p ≡ Some (Reaches t v access r gpa page) → KeepsOthers s.world (event o s p).world access gpa page

-- No private access of a guest reaches a page that isn't a private page of its own TD: none of the host's, and none of another
-- TD's, however it was reached before.
abbrev pub OthersAreNotReached : Type 0
OthersAreNotReached = (o : Opening) (words_to_tell : Option (List ℕ)) (schedule : List ℕ) (p t v : ℕ) (access : Access) (r gpa page : ℕ)
    → let s = reached o words_to_tell schedule in
    (IsPageOf s.world.pages t page kind.Reg → ⊥) → next_event o s p ≡ Some (Reaches t v access r gpa page) → ⊥
