use Rattle.std.proofs.Common.{◌≡◌, ℕ, ◌+◌, ◌++◌, Option, sym, subst, arith}
use Rattle.leaf_engine.specs.Decides.{HandsAt}
use Rattle.sept_parts.specs.MapTrees.{private_mapping, map_changes}
use Rattle.sept_parts.proofs.MapWrites.{hands-mapped}
use Rattle.import_pages.specs.PageImportTrees.{counter_changes}
use Rattle.import_pages.specs.PageImportStages.{one_behind}
use Rattle.import_pages.proofs.page_imports.Importing.write_behind.Goals as goal

pub returns-then-number-lt3-clause-hands : goal.returns-then-number-lt3-clause-hands
returns-then-number-lt3-clause-hands c h =
    let a = c.args in let m = a.machine in let y = a.self in
    let none : c.in-Some.children + 0 ≡ c.in-Some.children = omega arith in
    subst (λ (o : Option ℕ). HandsAt m (one_behind m.pages a.tdr a.gpa (record y { filling = record (y.filling) { children = o } })) a.number h h c.map_write.result) (sym c.in-Some.is)
    (subst (λ (k : ℕ). HandsAt m (map_changes m.pages (private_mapping a.tdr a.gpa y.filling.page) y.filling.at k ++ counter_changes y.room) a.number h h c.map_write.result) (sym none)
    (hands-mapped m h h c.map_write.result (private_mapping a.tdr a.gpa y.filling.page) y.filling.at c.in-Some.children (counter_changes y.room) a.number (omega (arith, c.if-number-lt3.true)) (c.map_write.ensures.hands h)))
