use Rattle.std.proofs.Common.{ℕ, List, None, Some, ap, sym, subst}
use Rattle.flat_core.specs.World.{ClearHeader}
use Rattle.flat_core.specs.Inputs.{input_in}
use Rattle.leaf_engine.specs.Changes.{Change}
use Rattle.leaf_engine.specs.Decides.{HandsAt}
use Rattle.leaf_engine.specs.Trees.{changes_of}
use Rattle.leaf_engine.proofs.Decided.{none-next, some-next}
use Rattle.import_pages.specs.PageImportStages.{one_changes, rest_of}
use Rattle.import_pages.proofs.ImportSteps.{ends-changes}
use Rattle.import_pages.proofs.page_imports.PageImportLeaf.write.Goals as goal

pub returns-in_err-write-clause-next : goal.returns-in_err-write-clause-next
returns-in_err-write-clause-next c =
    let l = c.args.self.now in let m = l.place.machine in let x = input_in l.input in
    let h = c.args._hasher.now in let y = c.in_ok-importing.importing in
    let rest = rest_of m x l.tdr l.slot l.page l.importing l.told.items in
    let same = ap (λ (k : ClearHeader). k.gpa) c.header_of-gpa.ensures in
    let hands = subst (λ (i : ℕ). HandsAt m (one_changes m.pages l.tdr i x.words y) l.written h h None) same (c.in_err-write.ensures.hands h) in
    rw c.from_residual-in_err-write.ensures (none-next m (changes_of rest) l.written h h
    (subst (λ (cs : List Change). HandsAt m cs l.written h h None) (sym (ends-changes m x l.tdr l.page rest y c.in_ok-importing.ensures)) hands))

pub returns-clause-next : goal.returns-clause-next
returns-clause-next c =
    let l = c.args.self.now in let m = l.place.machine in let x = input_in l.input in
    let h = c.args._hasher.now in let y = c.in_ok-importing.importing in let w = c.in_ok-write.write in
    let rest = rest_of m x l.tdr l.slot l.page l.importing l.told.items in
    let same = ap (λ (k : ClearHeader). k.gpa) c.header_of-gpa.ensures in
    let hands = subst (λ (i : ℕ). HandsAt m (one_changes m.pages l.tdr i x.words y) l.written h h (Some w)) same (c.in_ok-write.ensures.hands h) in
    some-next m (changes_of rest) l.written h h w
    (subst (λ (cs : List Change). HandsAt m cs l.written h h (Some w)) (sym (ends-changes m x l.tdr l.page rest y c.in_ok-importing.ensures)) hands)
