-- What holds of each module of a chain, at every moment of every run, with no premise on keys or forging: a chain gives a module
-- nothing but what its neighbours made (TD Migration Architecture, "Migration Session Control").
use Rattle.std.specs.Prelude.{◌≡◌, ℕ, suc, ◌<◌, List, length, Some}
use Rattle.td_words.specs.declared.names.Access.{Access}
use Rattle.flat_core.specs.World.{Image}
use Rattle.flat_core.specs.Opening.{Opening}
use Rattle.flat_core.specs.Event.{State, Reaches, next_event, calls_of}
use Rattle.flat_core.specs.Laws.{ArePagesKnown}
use Rattle.flat_core.specs.Access.{AccessHolds}
use Rattle.flat_core.specs.AccessLaw.{IsOwnAccess}
use Rattle.mig_laws.specs.Image.{StartsFromPauseOf, IsSource}
use Rattle.chain_laws.specs.Chains.{Chain, state_of, world_of, opening_now, PlanItem, at_moment, chain_run}

abbrev pub HoldsInChains : (Opening → State → Type 0) → Type 0
HoldsInChains holds = (c : Chain) (turns : List ℕ) (i : ℕ) → holds (c.openings i) (state_of (at_moment c turns) i)

-- Each is as a source has to be; no stale translation is used, and what guests know of their pages is what these hold.
abbrev pub EveryModuleIsASource : Type 0
EveryModuleIsASource = HoldsInChains (λ o s. IsSource s.world)

abbrev pub AccessHoldsInChains : Type 0
AccessHoldsInChains = HoldsInChains (λ o s. AccessHolds s × ArePagesKnown s.world)

-- So each access of a guest through a translation is one to the guest's own page.
abbrev pub AccessesAreOwnInChains : Type 0
AccessesAreOwnInChains = (c : Chain) (turns : List ℕ) (i p t v : ℕ) (access : Access) (r gpa page : ℕ)
    → let q = at_moment c turns in let o = opening_now c q.modules i in let s = state_of q i in
    next_event o s p ≡ Some (Reaches t v access r gpa page) → IsOwnAccess o s p t v access r gpa page

-- What IMPORT.COMMIT notes under a session starts from its pause in the module before.
abbrev pub ChainImageLaw : Type 0
ChainImageLaw = (c : Chain) (turns : List ℕ) (i session : ℕ) (start : Image) → let r = at_moment c turns in
    (world_of r (suc i)).hidden.given session ≡ Some start → StartsFromPauseOf (c.openings i) (world_of r i) session start

-- Whatever the plan, each line of each module has a reply at the end.
abbrev pub ChainsEnd : Type 0
ChainsEnd = (c : Chain) (plan : List PlanItem) (i p : ℕ) → i < c.count
    → length ((state_of (chain_run c plan) i).lps p).replies ≡ length (calls_of (c.openings i).calls p)
