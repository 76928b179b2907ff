-- How far a host access is, as what is left of its leaf's tree, and what an event of it does.
use Rattle.std.specs.Prelude.{ℕ, ◌<◌, Bool, true, false, Option, Some, None, MatchOption, List, [], ◌∷◌}
use Rattle.td_words.specs.declared.names.LockName.TheVariants as name
use Rattle.td_words.specs.declared.machines.Machine.{Machine}
use Rattle.td_words.specs.declared.refusals.Status.TheVariants as status
use Rattle.td_words.specs.declared.replies.Value.TheVariants as value
use Rattle.td_words.specs.declared.replies.Reply.{Reply}
use Rattle.td_words.specs.declared.replies.Reply.TheVariants.{Done, Refused}
use Rattle.td_words.specs.Address.{lock_at}
use Rattle.td_words.specs.Place as place
use Rattle.word_rules.specs.Rules.{Whole}
use Rattle.step_core.specs.declared.steps.WordStep.TheVariants as step
use Rattle.step_core.specs.declared.items.Taken.{Taken}
use Rattle.step_core.specs.declared.items.Taken.TheVariants.{Stepped}
use Rattle.leaf_engine.specs.declared.events.HeldLock.{HeldLock}
use Rattle.leaf_engine.specs.declared.events.Stage.TheVariants as stage
use Rattle.leaf_engine.specs.Changes.{Change, Put}
use Rattle.leaf_engine.specs.Trees.{Tree, Load, needs, answers, acts}
use Rattle.leaf_engine.specs.Turns.{Standing, standing}
use Rattle.leaf_parts.specs.Words.{says_host}
use Rattle.access_core.specs.HostTrees.{host_access, read_word}
use Rattle.guest_turns.specs.Pages.{lock_of}
use Rattle.guest_turns.specs.Turns.{ShortTurned, ShortGoesOn}
use Rattle.guest_turns.specs.declared.runs.LeafTurn.{LeafTurn}
use Rattle.host_turns.specs.declared.runs.HostAccess.{HostAccess}
use Rattle.host_turns.specs.declared.runs.HostAccess.TheVariants.{Read, Write}
use Rattle.host_turns.specs.declared.runs.HostEnd.{HostEnd}
use Rattle.host_turns.specs.declared.runs.HostEnd.TheVariants.{Loaded, Stored, NotHost}
use Rattle.host_turns.specs.declared.runs.HostStage.{HostStage}
use Rattle.host_turns.specs.declared.runs.HostStage.TheVariants.{Denied, Locked, Ended}
use Rattle.host_turns.specs.declared.runs.HostRun.{HostRun}

-- what an access changes of a host page
abbrev pub changed : HostAccess → (page i : ℕ) → List Change
changed Read p i = []
changed (Write v) p i = Put (place.Word p i) v ∷ []

-- what is left of its tree, by whether the page is the host's
abbrev pub host_tree : HostAccess → (page i : ℕ) → Bool → Tree
host_tree Read p i is_host = read_word p i is_host
host_tree (Write v) p i is_host = needs is_host status.NotHost (acts (Done value.Nothing) (changed (Write v) p i))

-- behind the try of the page's lock
abbrev pub locked_tree : HostAccess → (page i : ℕ) → Tree
locked_tree a p i = Load Whole (place.Pamt p) (λ pamt. host_tree a p i (says_host pamt))

-- the whole tree: of HOST.READ, and of HOST.WRITE
abbrev pub access_tree : Machine → HostAccess → (page i : ℕ) → Tree
access_tree m a p i = host_access m p i (λ pamt. host_tree a p i (says_host pamt))

-- and once it came to this
abbrev pub ended_tree : HostEnd → HostAccess → (page i : ℕ) → Tree
ended_tree (Loaded x) a p i = answers (Done (value.Number x))
ended_tree Stored a p i = acts (Done value.Nothing) (changed a p i)
ended_tree NotHost a p i = answers (Refused status.NotHost)

abbrev pub reply_of : HostEnd → Reply
reply_of (Loaded x) = Done (value.Number x)
reply_of Stored = Done value.Nothing
reply_of NotHost = Refused status.NotHost

-- of a page that isn't the host's 0 is read, and nothing is stored
abbrev pub refused : HostAccess → HostEnd
refused Read = Loaded 0
refused (Write v) = NotHost

-- the word of a host page was loaded, or stored
abbrev pub HasAccessed : {B : Type 0} → (List Taken → B → Type 0) → HostAccess → (at : ℕ) → B → HostEnd → Type 0
HasAccessed did Read at bench (Loaded x) = did (Stepped (step.Load at) x ∷ []) bench
HasAccessed did (Write v) at bench Stored = did (Stepped (step.Store at v) 0 ∷ []) bench
HasAccessed did a at bench came = ⊥

-- where an access stands at a stage
abbrev pub stands : HostStage → HostAccess → (page i : ℕ) → Standing
stands Denied a p i = standing (locked_tree a p i) (stage.Undoing (name.Page p) (lock_at p)) [] None
stands Locked a p i = standing (locked_tree a p i) stage.Trying (lock_of p ∷ []) None
stands (Ended came) a p i = standing (ended_tree came a p i) (stage.Answered (reply_of came)) (lock_of p ∷ []) None

abbrev pub standing_at : HostRun → HostStage → Standing
standing_at r s = stands s r.access r.page r.word

abbrev pub standing_of : HostRun → Standing
standing_of r = standing_at r r.stage

abbrev pub held_by : Option HostRun → List HeldLock
held_by None = []
held_by (Some r) = (standing_of r).held

-- its page is the machine's
abbrev pub IsIn : Machine → HostRun → Type 0
IsIn m r = r.page < m.pages

-- one that is kept
abbrev pub IsRunIn : Machine → Option HostRun → Type 0
IsRunIn m kept = MatchOption kept ⊥ (IsIn m)

-- the turn of a run that stood there, and what is kept of it; and the next turn of the one that is kept
abbrev pub HostTurned : {B : Type 0} → (List Taken → B → Type 0) → Machine → Standing → B → Option HostRun → LeafTurn → Type 0
HostTurned did m s bench kept result = ShortTurned standing_of IsIn did m s bench kept result

abbrev pub KeptTurned : {B : Type 0} → (List Taken → B → Type 0) → Machine → Option HostRun → B → Option HostRun → LeafTurn → Type 0
KeptTurned did m before bench kept result = ShortGoesOn standing_of IsIn did m before bench kept result

-- how far it is behind the try of its page's lock
abbrev pub stage_behind : Bool → HostStage
stage_behind true = Locked
stage_behind false = Denied
