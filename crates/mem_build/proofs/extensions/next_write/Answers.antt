use Rattle.mem_build.proofs.ExtendSteps.{taken-next, put-next}
use Rattle.mem_build.proofs.extensions.next_write.Goals as goal
use Rattle.mem_build.proofs.extensions.next_write.Goals.{in-0, in-1}

pub returns-clause-next : goal.returns-clause-next
returns-clause-next c =
    elim c.match-written.branch [
      | in-0 w ↦ taken-next c.args.machine c.args.gpa c.args.hkid c.in_ok-slot.slot c.args.words.now c.in_ok-slot.ensures c.args.hasher.now c.match-written.hasher c.args.written.now w.in-0.is w.hasher-is
      | in-1 w ↦ put-next c.args.machine c.args.gpa c.args.hkid c.in_ok-slot.slot c.args.words.now c.in_ok-slot.ensures c.args.hasher.now c.match-written.hasher c.args.written.now w.in-1.is (rw w.hasher-is w.measure.ensures)
    ]
