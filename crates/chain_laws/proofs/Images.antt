-- Each module can be a source, and of two neighbours the one is a source and the other its destination.
use Rattle.std.proofs.Common.{ℕ, suc, List, None, true, ◌≡◌, Some}
use Rattle.flat_core.specs.World.{Image}
use Rattle.flat_core.specs.Run.{bundles_in}
use Rattle.flat_core.specs.Laws.{ArePagesKnown}
use Rattle.flat_core.specs.AccessLaw.{IsGuarded}
use Rattle.flat_core.proofs.Ends.{timely_rebundled}
use Rattle.flat_core.proofs.Memories.{memories_kept, access_is_own}
use Rattle.mig_laws.specs.Paused.{has_start}
use Rattle.mig_laws.specs.Started.{MayExport}
use Rattle.mig_laws.specs.Hosts.{AreHosts}
use Rattle.mig_laws.proofs.Started.{sources_are_started}
use Rattle.mig_laws.proofs.Hosts.{hosts_are_kept}
use Rattle.runner_laws.proofs.Runner.{commits_have_starts}
use Rattle.chain_laws.specs.Chains.{Chain, Running, state_of, world_of, inputs, opening_now, chain_event, first_modules, at_moment}
use Rattle.chain_laws.specs.Laws.{ChainImageLaw, EveryModuleIsASource, AccessHoldsInChains, AccessesAreOwnInChains}
use Rattle.chain_laws.proofs.Turns.{module_keeps, chain_keeps, modules_keep}
use Rattle.chain_laws.proofs.Grown.{Begins, begins_itself, event_grows, made_by, forward_made}

pub is_source : EveryModuleIsASource
is_source c turns i = sources_are_started.are (c.openings i) (state_of (at_moment c turns) i) (modules_keep MayExport sources_are_started.kept c turns i)

pub access_holds : AccessHoldsInChains
access_holds c turns i = (let all = modules_keep (λ o s. IsGuarded o s × ArePagesKnown s.world) memories_kept c turns i in (all.0.access, all.1))

pub guarded_now : (c : Chain) (r : Running) (i : ℕ) → IsGuarded (c.openings i) (state_of r i) → IsGuarded (opening_now c r.modules i) (state_of r i)
guarded_now c r i h = record { timely = timely_rebundled (c.openings i) (inputs c r.modules i) (state_of r i) h.timely; access = h.access }

pub accesses_own : AccessesAreOwnInChains
accesses_own c turns i p t v access r gpa page is =
    let q = at_moment c turns in
    let k = modules_keep (λ o s. IsGuarded o s × ArePagesKnown s.world) memories_kept c turns i in
    access_is_own (opening_now c q.modules i) (state_of q i) p (guarded_now c q i k.0) k.1 t v access r gpa page is

-- two neighbours, where each bundle that comes into the later one, but for tokens back, is of the earlier one
module _ (c : Chain) (i : ℕ) where
  abbrev Hosts : Running → Type 0
  Hosts r = AreHosts (c.openings i) (c.openings (suc i)) (state_of r i) (state_of r (suc i))

  event_hosts : (r : Running) (x : ℕ) → Hosts r → Hosts (chain_event c r x)
  event_hosts r x h =
      let after : Running = chain_event c r x in
      let grown : Begins (made_by r i) (made_by after i) = module_keeps (λ s. Begins (made_by r i) (bundles_in s)) c r x i (begins_itself (made_by r i))
      (λ p. event_grows (opening_now c r.modules i) (state_of r i) p) in
      let first : AreHosts (c.openings i) (c.openings (suc i)) (state_of after i) (state_of r (suc i)) = module_keeps (λ s. AreHosts (c.openings i) (c.openings (suc i)) s (state_of r (suc i))) c r x i h
      (λ p. hosts_are_kept.source (c.openings i) (c.openings (suc i)) (inputs c r.modules i) (state_of r i) (state_of r (suc i)) p h) in
      module_keeps (λ s. AreHosts (c.openings i) (c.openings (suc i)) (state_of after i) s) c r x (suc i) first
      (λ p. hosts_are_kept.destination (c.openings i) (c.openings (suc i)) (inputs c r.modules (suc i)) (state_of after i) (state_of r (suc i)) p (forward_made c r.modules i (made_by after i) grown) first)

  pub are_hosts : (turns : List ℕ) → Hosts (at_moment c turns)
  are_hosts turns = chain_keeps c Hosts event_hosts turns (first_modules c) (hosts_are_kept.begin (c.openings i) (c.openings (suc i)) None None)

pub chain_images : ChainImageLaw
chain_images c turns i session start e =
    let r : Running = at_moment c turns in
    hosts_are_kept.images (c.openings i) (c.openings (suc i)) (state_of r i) (state_of r (suc i)) (are_hosts c i turns) session start e

-- what a module has committed has its start token in the one before
pub started_of : (c : Chain) (turns : List ℕ) (i session : ℕ) (start : Image) → (world_of (at_moment c turns) (suc i)).hidden.given session ≡ Some start
    → has_start session (made_by (at_moment c turns) i) ≡ true
started_of c turns i session start e = commits_have_starts (world_of (at_moment c turns) i) (world_of (at_moment c turns) (suc i)) (are_hosts c i turns).imports.1 session start e
