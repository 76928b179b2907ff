use Rattle.std.proofs.Common.{◌<◌, ◌≤◌, ◌++◌, ℕ, List, length, sym, ap, ◌∙◌, arith}
use Rattle.td_words.specs.Address.{word_at}
use Rattle.export_pages.proofs.PageSteps.{nothing, page-gives, page-kept, end-gives, end-kept, asked-known, shown-gives, shown-kept, stop-gives, stop-then}
use Rattle.export_pages.proofs.page_exports.PageExportLeaf.need.Goals as goal

pub returns-then-told-lt-WORDS-clause-gives : goal.returns-then-told-lt-WORDS-clause-gives
returns-then-told-lt-WORDS-clause-gives c =
    let l = c.args.self.now in
    let few : length l.words < 512 = omega (arith, c.len-told.ensures, c.if-told-lt-WORDS.true) in
    page-gives l.place l.tdr l.gpa l.stream l.slot l.exporting l.told.items l.words c.in-Some.exporting c.in-Some.is few c.word_address.result
    (c.word_address.ensures ∙ ap (word_at c.in-Some.exporting.page) c.len-told.ensures)

pub returns-then-told-lt-WORDS-clause-rest : goal.returns-then-told-lt-WORDS-clause-rest
returns-then-told-lt-WORDS-clause-rest c =
    let l = c.args.self.now in
    let few : length l.words < 512 = omega (arith, c.len-told.ensures, c.if-told-lt-WORDS.true) in
    page-kept l.place l.tdr l.gpa l.stream l.slot l.exporting l.told.items l.words c.in-Some.exporting c.in-Some.is few

pub returns-else-told-lt-WORDS-clause-gives : goal.returns-else-told-lt-WORDS-clause-gives
returns-else-told-lt-WORDS-clause-gives c =
    let l = c.args.self.now in
    let enough : 512 ≤ length l.words = omega (arith, c.len-told.ensures, c.if-told-lt-WORDS.false) in
    end-gives l.place l.tdr l.gpa l.stream l.slot l.exporting l.told.items l.words c.in-Some.exporting c.in-Some.is l.known enough

pub returns-else-told-lt-WORDS-clause-rest : goal.returns-else-told-lt-WORDS-clause-rest
returns-else-told-lt-WORDS-clause-rest c =
    let l = c.args.self.now in
    let enough : 512 ≤ length l.words = omega (arith, c.len-told.ensures, c.if-told-lt-WORDS.false) in
    end-kept l.place l.tdr l.gpa l.stream l.slot l.exporting l.told.items l.words c.in-Some.exporting c.in-Some.is l.known enough

pub returns-in-Ok-clause-gives : goal.returns-in-Ok-clause-gives
returns-in-Ok-clause-gives c =
    let l = c.args.self.now in
    let x = c.in-Ok.exporting in
    let left = c.to_export.new.told.left.now in
    let known = asked-known l.place l.tdr l.gpa l.stream l.slot l.exporting l.told.items l.words c.in-None.is l.known in
    let most : length l.told.items ≤ 26 = known.0 in
    let fewer : length left ≤ length l.told.items = rw (sym c.as_slice.ensures.value) c.in-Ok.ensures.fewer in
    shown-gives l.place l.tdr l.gpa l.stream l.slot l.exporting l.told.items l.words c.in-None.is left x (rw (sym c.as_slice.ensures.value) c.in-Ok.ensures.feeds) (omega (arith, most, fewer)) c.word_address-in-Ok.result
    (c.word_address-in-Ok.ensures ∙ ap (word_at x.page) (c.len-next.ensures ∙ ap length (c.append.ensures ∙ ap (λ (ws : List ℕ). ws ++ left) (nothing l.words known.1))))

pub returns-in-Ok-clause-rest : goal.returns-in-Ok-clause-rest
returns-in-Ok-clause-rest c =
    let l = c.args.self.now in
    let left = c.to_export.new.told.left.now in
    let known = asked-known l.place l.tdr l.gpa l.stream l.slot l.exporting l.told.items l.words c.in-None.is l.known in
    let most : length l.told.items ≤ 26 = known.0 in
    let fewer : length left ≤ length l.told.items = rw (sym c.as_slice.ensures.value) c.in-Ok.ensures.fewer in
    shown-kept l.place l.tdr l.gpa l.stream l.slot l.exporting l.told.items l.words c.in-None.is left c.in-Ok.exporting (rw (sym c.as_slice.ensures.value) c.in-Ok.ensures.feeds) (omega (arith, most, fewer)) c.append.new.self known.1 c.append.ensures

pub returns-in-Err-clause-gives : goal.returns-in-Err-clause-gives
returns-in-Err-clause-gives c =
    let l = c.args.self.now in
    rw c.need_at.ensures.need (stop-gives l.place l.tdr l.gpa l.stream l.slot l.exporting l.told.items l.words c.in-None.is c.to_export.new.told.left.now c.in-Err.stop (rw (sym c.as_slice.ensures.value) c.in-Err.ensures.goes))

pub returns-in-Err-clause-rest : goal.returns-in-Err-clause-rest
returns-in-Err-clause-rest c =
    let l = c.args.self.now in
    stop-then l.place l.tdr l.gpa l.stream l.slot l.exporting l.told.items l.words c.in-None.is c.to_export.new.told.left.now c.in-Err.stop (rw (sym c.as_slice.ensures.value) c.in-Err.ensures.goes) c.need_at.new.told.items c.need_at.ensures.told
