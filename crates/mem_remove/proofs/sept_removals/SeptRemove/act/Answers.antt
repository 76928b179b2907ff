use Rattle.std.proofs.Common.{sym}
use Rattle.mem_remove.proofs.SeptSteps.{none-acts}
use Rattle.mem_remove.proofs.sept_removals.SeptRemove.act.Goals as goal

pub returns-in-None : goal.returns-in-None
returns-in-None c =
    let l = c.args.self.now in
    none-acts l.place l.tdr l.gpa l.level l.table l.seen l.used l.told.items l.later.items c.to_scan.result c.to_scan.new.told.left.now c.in-None.is l.known (rw (sym c.as_slice.ensures.value) c.to_scan.ensures.comes) (rw (sym c.as_slice.ensures.value) c.to_scan.ensures.uses)
