use Rattle.std.proofs.Common.{◌≡◌, sym, Ok, Err, arith}
use Rattle.sept_walk.specs.SecureEpt.{index_at}
use Rattle.leaf_engine.specs.Decides.{Ending}
use Rattle.mem_remove.specs.RemoveTrees.{remove_changes}
use Rattle.mem_remove.proofs.SeptSteps.{table-known, scan-gives, scan-kept, all-gives, all-kept, all-then, table-gives, table-kept, condition-gives, condition-then}
use Rattle.mem_remove.proofs.sept_removals.SeptRemoveLeaf.need.Goals as goal

pub returns-in-None-used-clause-gives : goal.returns-in-None-used-clause-gives
returns-in-None-used-clause-gives c = (let l = c.args.self.now in scan-gives l.place l.tdr l.gpa l.level l.table l.seen l.used l.told.items l.later.items c.in-Some.table c.in-Some.is c.in-None-used.is c.word_address.result l.known c.if-self-lt-ENTRIES.true c.word_address.ensures)

pub returns-in-None-used-clause-rest : goal.returns-in-None-used-clause-rest
returns-in-None-used-clause-rest c = (let l = c.args.self.now in scan-kept l.place l.tdr l.gpa l.level l.table l.seen l.used l.told.items l.later.items c.in-Some.table c.in-Some.is c.in-None-used.is l.known c.if-self-lt-ENTRIES.true)

pub returns-in-Ok-clause-gives : goal.returns-in-Ok-clause-gives
returns-in-Ok-clause-gives c =
    let l = c.args.self.now in
    let k = table-known l.place l.tdr l.gpa l.level l.table l.seen l.used l.told.items l.later.items c.in-Some.table c.in-Some.is l.known in
    let all : l.seen ≡ 512 = omega (arith, k.5, c.if-self-lt-ENTRIES.false) in
    let a = c.in-Ok.verdict.act in
    let end : Ending = record { reply = c.in-Ok.verdict.reply; changes = remove_changes l.tdr a.page (index_at l.level l.gpa) a.named a.children } in
    all-gives l.place l.tdr l.gpa l.level l.table l.seen l.used l.told.items l.later.items c.in-Some.table c.in-Some.is c.in-None-2.is (Ok end) all (rw (sym c.as_slice.ensures.value) (c.in-Ok.ensures.decides (index_at l.level l.gpa)))

pub returns-in-Ok-clause-rest : goal.returns-in-Ok-clause-rest
returns-in-Ok-clause-rest c =
    let l = c.args.self.now in
    let k = table-known l.place l.tdr l.gpa l.level l.table l.seen l.used l.told.items l.later.items c.in-Some.table c.in-Some.is l.known in
    let all : l.seen ≡ 512 = omega (arith, k.5, c.if-self-lt-ENTRIES.false) in
    let a = c.in-Ok.verdict.act in
    let end : Ending = record { reply = c.in-Ok.verdict.reply; changes = remove_changes l.tdr a.page (index_at l.level l.gpa) a.named a.children } in
    all-kept l.place l.tdr l.gpa l.level l.table l.seen l.used l.told.items l.later.items c.in-Some.table c.in-Some.is c.in-None-2.is end all (rw (sym c.as_slice.ensures.value) (c.in-Ok.ensures.decides (index_at l.level l.gpa)))

pub returns-in-Err-clause-gives : goal.returns-in-Err-clause-gives
returns-in-Err-clause-gives c =
    let l = c.args.self.now in
    let k = table-known l.place l.tdr l.gpa l.level l.table l.seen l.used l.told.items l.later.items c.in-Some.table c.in-Some.is l.known in
    let all : l.seen ≡ 512 = omega (arith, k.5, c.if-self-lt-ENTRIES.false) in
    rw c.need_at.ensures.need (all-gives l.place l.tdr l.gpa l.level l.table l.seen l.used l.told.items l.later.items c.in-Some.table c.in-Some.is c.in-None-2.is (Err c.in-Err.stop) all (rw (sym c.as_slice.ensures.value) (c.in-Err.ensures.decides (index_at l.level l.gpa))))

pub returns-in-Err-clause-rest : goal.returns-in-Err-clause-rest
returns-in-Err-clause-rest c =
    let l = c.args.self.now in
    let k = table-known l.place l.tdr l.gpa l.level l.table l.seen l.used l.told.items l.later.items c.in-Some.table c.in-Some.is l.known in
    let all : l.seen ≡ 512 = omega (arith, k.5, c.if-self-lt-ENTRIES.false) in
    all-then l.place l.tdr l.gpa l.level l.table l.seen l.used l.told.items l.later.items c.in-Some.table c.in-Some.is c.in-None-2.is c.in-Err.stop c.need_at.new.told.items all (rw (sym c.as_slice.ensures.value) (c.in-Err.ensures.decides (index_at l.level l.gpa))) c.need_at.ensures.told

pub returns-in-Ok-to_scan-clause-gives : goal.returns-in-Ok-to_scan-clause-gives
returns-in-Ok-to_scan-clause-gives c =
    let l = c.args.self.now in
    table-gives l.place l.tdr l.gpa l.level l.table l.seen l.used l.told.items l.later.items c.in-Ok-to_scan.table c.to_scan.new.told.left.now c.in-None.is l.known (rw (sym c.as_slice-in-None.ensures.value) c.in-Ok-to_scan.ensures.comes) (rw (sym c.as_slice-in-None.ensures.value) c.in-Ok-to_scan.ensures.uses) c.word_address-in-Ok-to_scan.result c.word_address-in-Ok-to_scan.ensures

pub returns-in-Ok-to_scan-clause-rest : goal.returns-in-Ok-to_scan-clause-rest
returns-in-Ok-to_scan-clause-rest c =
    let l = c.args.self.now in
    table-kept l.place l.tdr l.gpa l.level l.table l.seen l.used l.told.items l.later.items c.in-Ok-to_scan.table c.to_scan.new.told.left.now c.in-None.is l.known (rw (sym c.as_slice-in-None.ensures.value) c.in-Ok-to_scan.ensures.comes) (rw (sym c.as_slice-in-None.ensures.value) c.in-Ok-to_scan.ensures.uses)

pub returns-in-Err-to_scan-clause-gives : goal.returns-in-Err-to_scan-clause-gives
returns-in-Err-to_scan-clause-gives c =
    let l = c.args.self.now in
    rw c.need_at-in-Err-to_scan.ensures.need (condition-gives l.place l.tdr l.gpa l.level l.table l.seen l.used l.told.items l.later.items c.in-Err-to_scan.stop c.in-None.is (rw (sym c.as_slice-in-None.ensures.value) c.in-Err-to_scan.ensures.comes))

pub returns-in-Err-to_scan-clause-rest : goal.returns-in-Err-to_scan-clause-rest
returns-in-Err-to_scan-clause-rest c =
    let l = c.args.self.now in
    condition-then l.place l.tdr l.gpa l.level l.table l.seen l.used l.told.items l.later.items c.in-Err-to_scan.stop c.need_at-in-Err-to_scan.new.told.items c.in-None.is (rw (sym c.as_slice-in-None.ensures.value) c.in-Err-to_scan.ensures.comes) c.need_at-in-Err-to_scan.ensures.told
