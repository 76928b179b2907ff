use Rattle.std.proofs.Common.{◌≡◌, sym, Ok, arith}
use Rattle.sept_walk.specs.SecureEpt.{index_at}
use Rattle.leaf_engine.specs.Decides.{Ending, Decides}
use Rattle.mem_remove.specs.RemoveTrees.{remove_changes}
use Rattle.mem_remove.specs.RemoveStages.{table_rest}
use Rattle.mem_remove.proofs.SeptSteps.{table-known, scan-none, all-changes, all-none}
use Rattle.mem_remove.proofs.sept_removals.SeptRemove.removal.Goals as goal

pub returns-in-None : goal.returns-in-None
returns-in-None c = (let l = c.args.self.now in scan-none l.place l.tdr l.gpa l.level l.table l.seen l.used l.told.items l.later.items c.args.table c.requires c.in-None.is l.known c.if-self-lt-ENTRIES.true)

pub returns-in-Ok : goal.returns-in-Ok
returns-in-Ok c =
    let l = c.args.self.now in
    let k = table-known l.place l.tdr l.gpa l.level l.table l.seen l.used l.told.items l.later.items c.args.table c.requires l.known in
    let all : l.seen ≡ 512 = omega (arith, k.5, c.if-self-lt-ENTRIES.false) in
    let a = c.in-Ok.verdict.act in
    let end : Ending = record { reply = c.in-Ok.verdict.reply; changes = remove_changes l.tdr a.page (index_at l.level l.gpa) a.named a.children } in
    let d : Decides l.place.machine.pages (table_rest l.tdr (index_at l.level l.gpa) c.args.table) l.later.items (Ok end) = rw (sym c.as_slice.ensures.value) (c.in-Ok.ensures.decides (index_at l.level l.gpa)) in
    (all-changes l.place l.tdr l.gpa l.level l.table l.seen l.used l.told.items l.later.items c.args.table c.requires c.in-None-2.is end all d, k.0, k.1, c.in-Ok.ensures.inside.0, c.in-Ok.ensures.inside.1)

pub returns-in-Err : goal.returns-in-Err
returns-in-Err c =
    let l = c.args.self.now in
    let k = table-known l.place l.tdr l.gpa l.level l.table l.seen l.used l.told.items l.later.items c.args.table c.requires l.known in
    let all : l.seen ≡ 512 = omega (arith, k.5, c.if-self-lt-ENTRIES.false) in
    all-none l.place l.tdr l.gpa l.level l.table l.seen l.used l.told.items l.later.items c.args.table c.requires c.in-None-2.is c.in-Err.field-0 all (rw (sym c.as_slice.ensures.value) (c.in-Err.ensures.decides (index_at l.level l.gpa)))
