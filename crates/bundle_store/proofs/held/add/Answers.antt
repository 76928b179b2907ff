use Rattle.std.proofs.Common.{refl}
use Rattle.bundle_store.proofs.InMemory.{gives_added}
use Rattle.bundle_store.proofs.held.add.Goals as goal
use Rattle.bundle_store.proofs.held.add.Goals.{in-Ok-push, in-Err}

pub returns-clause-told : goal.returns-clause-told
returns-clause-told c = elim c.match-push.branch [
  | in-Ok-push w ↦ rw (w.result-is, w.in-Ok-push.ensures.items) (gives_added _ _ _ _ c.requires c.in-Ok.ensures.ok refl)
  | in-Err w ↦ rw w.result-is tt
]
