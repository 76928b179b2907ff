use Rattle.std.proofs.Common.{◌<◌, ◌≤◌, length, sym, arith}
use Rattle.export_pages.proofs.PageSteps.{page-ends, end-ends, none-ends}
use Rattle.export_pages.proofs.page_exports.PageExport.ended.Goals as goal

pub returns-then-len-lt-WORDS : goal.returns-then-len-lt-WORDS
returns-then-len-lt-WORDS c =
    let l = c.args.self.now in
    let few : length l.words < 512 = omega (arith, c.len.ensures, c.if-len-lt-WORDS.true) in
    page-ends l.place l.tdr l.gpa l.stream l.slot l.exporting l.told.items l.words c.in-Some.exporting c.in-Some.is few

pub returns-else-len-lt-WORDS : goal.returns-else-len-lt-WORDS
returns-else-len-lt-WORDS c =
    let l = c.args.self.now in
    let enough : 512 ≤ length l.words = omega (arith, c.len.ensures, c.if-len-lt-WORDS.false) in
    end-ends l.place l.tdr l.gpa l.stream l.slot l.exporting l.told.items l.words c.in-Some.exporting c.in-Some.is l.known enough

pub returns-in-None : goal.returns-in-None
returns-in-None c =
    let l = c.args.self.now in
    let left = c.to_export.new.told.left.now in
    none-ends l.place l.tdr l.gpa l.stream l.slot l.exporting l.told.items l.words c.in-None.is left c.to_export.result
    (rw (sym c.as_slice.ensures.value) c.to_export.ensures.goes) (rw (sym c.as_slice.ensures.value) c.to_export.ensures.feeds) l.known (rw (sym c.as_slice.ensures.value) c.to_export.ensures.fewer)
