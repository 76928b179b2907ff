-- The bundles of calls that have ended.
use Rattle.std.proofs.Common.{◌≡◌, ◌∙◌, ℕ, ◌-◌, List, [], length, take, Option, Some, refl, ap, arith, take_all}
use Rattle.td_words.specs.declared.calls.Call.{Call}
use Rattle.leaf_engine.specs.OwnLists.{WordLp}
use Rattle.host_turns.specs.HostTurns.{stands, standing_of}
use Rattle.host_turns.specs.declared.runs.HostAccess.{HostAccess}
use Rattle.host_turns.specs.declared.runs.HostEnd.TheVariants.{Loaded, Stored, NotHost}
use Rattle.host_turns.specs.declared.runs.HostStage.{HostStage}
use Rattle.host_turns.specs.declared.runs.HostStage.TheVariants.{Denied, Locked, Ended}
use Rattle.host_turns.specs.declared.runs.HostRun.{HostRun}
use Rattle.leaf_dispatch.specs.Ended.{made_at, made_by_run, made_under_way, ended_in}
use Rattle.leaf_dispatch.specs.ShortRuns.{seen_by}
use Rattle.leaf_dispatch.specs.declared.running.Running.{Running}

-- where no line is left all have
pub all-ended : (at : WordLp) → at.lines ≡ [] → ended_in at ≡ at.beside.bundles
all-ended at none =
    ap (λ (cs : List Call). take (length at.beside.bundles - made_under_way cs at.run) at.beside.bundles) none
    ∙ take_all (length at.beside.bundles - 0) at.beside.bundles (omega arith)

-- a host access makes none
host-makes-none : (k : HostStage) (access : HostAccess) (page i : ℕ) → made_at (stands k access page i).stage (stands k access page i).rest ≡ 0
host-makes-none Denied access page i = refl
host-makes-none Locked access page i = refl
host-makes-none (Ended (Loaded x)) access page i = refl
host-makes-none (Ended Stored) access page i = refl
host-makes-none (Ended NotHost) access page i = refl

pub host-makes : (host : Option HostRun) (other : Option Running) (r : HostRun) → host ≡ Some r → made_by_run (seen_by standing_of host other) ≡ 0
host-makes host other r is = ap (λ (h : Option HostRun). made_by_run (seen_by standing_of h other)) is ∙ host-makes-none r.stage r.access r.page r.word
