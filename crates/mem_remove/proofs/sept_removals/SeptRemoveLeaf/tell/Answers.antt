use Rattle.std.proofs.Common.{◌≡◌, arith}
use Rattle.mem_remove.proofs.SeptSteps.{table-known, scan-told, later-told, condition-told}
use Rattle.mem_remove.proofs.sept_removals.SeptRemoveLeaf.tell.Goals as goal

pub returns-in-Some-clause-rest : goal.returns-in-Some-clause-rest
returns-in-Some-clause-rest c =
    let l = c.args.self.now in
    scan-told l.place l.tdr l.gpa l.level l.table l.seen l.used l.told.items l.later.items c.in-Some.field-0 c.in-Some.is c.args.word c.used_at-self.result (l.room c.requires) l.known c.if-self-lt-ENTRIES.true c.used_at-self.ensures

pub returns-in-Some-2-clause-rest : goal.returns-in-Some-2-clause-rest
returns-in-Some-2-clause-rest c =
    let l = c.args.self.now in
    let k = table-known l.place l.tdr l.gpa l.level l.table l.seen l.used l.told.items l.later.items c.in-Some-2.field-0 c.in-Some-2.is l.known in
    let all : l.seen ≡ 512 = omega (arith, k.5, c.if-self-lt-ENTRIES.false) in
    later-told l.place l.tdr l.gpa l.level l.table l.seen l.used l.told.items l.later.items c.in-Some-2.field-0 c.in-Some-2.is c.args.word c.push.new.self.items (l.room c.requires) all c.push.ensures.items

pub returns-in-None-clause-rest : goal.returns-in-None-clause-rest
returns-in-None-clause-rest c = (let l = c.args.self.now in condition-told l.place l.tdr l.gpa l.level l.table l.seen l.used l.told.items l.later.items c.args.word c.push-in-None.new.self.items c.in-None.is c.push-in-None.ensures.items)
