-- A private access changes no other word; and none reaches another's page.
use Rattle.std.proofs.Common.{refl, sym, subst, ℕ, Option}
use Rattle.td_words.specs.declared.names.Access.{Access}
use Rattle.td_words.specs.declared.names.Access.TheVariants.{Read, Write}
use Rattle.flat_core.specs.World.{World}
use Rattle.flat_core.specs.Guest.{reach}
use Rattle.flat_core.specs.Event.{Event, after_event}
use Rattle.flat_core.proofs.Memories.{accesses_are_own}
use Rattle.flat_laws.specs.Accesses.{AccessesAreOwn, KeepsOthers, AccessesKeepOthers, OthersAreNotReached}

pub are-own : AccessesAreOwn
are-own = accesses_are_own

reach-keeps : (t v : ℕ) (access : Access) (r gpa page : ℕ) (w : World) → KeepsOthers w (reach t v access r gpa page w) access gpa page
reach-keeps t v Read r gpa page w = record { load = λ e q i. refl; store = λ e q i n. cc }
reach-keeps t v Write r gpa page w = record { load = λ e q i. cc; store = λ e q i n. rw n refl }

pub keep-others : AccessesKeepOthers
keep-others o s p t v access r gpa page is =
    subst (λ (x : Option Event). KeepsOthers s.world (after_event p s x).world access gpa page) (sym is) (reach-keeps t v access r gpa page s.world)

pub others-are-not-reached : OthersAreNotReached
others-are-not-reached o ws schedule p t v access r gpa page other is =
    let private = (accesses_are_own o ws schedule p t v access r gpa page is).page_is.private in other (record { kind = private.kind; owner = private.owner })
