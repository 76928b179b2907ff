-- Every world of every run is lawful, and has what every lawful world has.
use Rattle.td_words.specs.declared.machines.Machine.{Machine}
use Rattle.flat_core.specs.World.{World}
use Rattle.flat_core.specs.Lawful.{Lawful}
use Rattle.flat_core.specs.Laws.{IsKept, IsLawfulWith, EveryWorldIsLawful}
use Rattle.flat_core.proofs.Ends.{timeliness_kept, always_timely}

pub every_lawful : EveryWorldIsLawful
every_lawful o ws schedule = (always_timely o ws schedule).lawful

-- what every lawful world has besides
pub kept_with : (besides : World → Type 0) → ((m : Machine) (w : World) → Lawful m w → besides w) → IsKept (IsLawfulWith besides)
kept_with besides has = record {
  start = λ o ws. let t = timeliness_kept.start o ws in (t, has o.machine _ t.lawful);
  event = λ o bundles s p h. let t = timeliness_kept.event o bundles s p h.0 in (t, has o.machine _ t.lawful);
}
