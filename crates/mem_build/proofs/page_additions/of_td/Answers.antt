use Rattle.std.proofs.Common.{ℕ, Err, refl}
use Rattle.td_words.specs.declared.machines.Machine.{Machine}
use Rattle.leaf_engine.specs.Trees.{Tree}
use Rattle.leaf_parts.proofs.Parts.{exit}
use Rattle.mem_build.specs.declared.page_additions.Counts.{Counts}
use Rattle.mem_build.specs.PageAddTrees.{pages_tree, addition_end}
use Rattle.mem_build.proofs.page_additions.of_td.Goals as goal

abbrev end : Machine → (tdr gpa page source table : ℕ) → Counts → Tree
end m tdr gpa page source table k = addition_end m (record { tdr = tdr; gpa = gpa; page = page; source = source; table = table; hkid = k.hkid; children = k.children })

abbrev rest : Machine → (tdr gpa page source : ℕ) → ℕ → Tree
rest m tdr gpa page source table = pages_tree tdr page source (λ h n. end m tdr gpa page source table (record { hkid = h; children = n }))

pub returns-in_err-table-clause-decides : goal.returns-in_err-table-clause-decides
returns-in_err-table-clause-decides c =
    rw (exit c.from_residual.result c.in_err-table.field-0.0 _ c.from_residual.ensures.1 (λ y h. h))
    (c.in_err-table.ensures.goes (rest c.args.place.machine c.args.tdr c.args.gpa c.args.page c.args.source))

pub returns-in_err-counts-clause-decides : goal.returns-in_err-counts-clause-decides
returns-in_err-counts-clause-decides c =
    rw (exit c.from_residual-in_err-counts.result c.in_err-counts.field-0.0 _ c.from_residual-in_err-counts.ensures.1 (λ y h. h))
    (c.in_ok-table.ensures.goes (rest c.args.place.machine c.args.tdr c.args.gpa c.args.page c.args.source) (Err c.in_err-counts.field-0.0)
    (c.in_err-counts.ensures.goes (end c.args.place.machine c.args.tdr c.args.gpa c.args.page c.args.source c.in_ok-table.table)))

pub returns-clause-decides : goal.returns-clause-decides
returns-clause-decides c =
    c.in_ok-table.ensures.goes (rest c.args.place.machine c.args.tdr c.args.gpa c.args.page c.args.source) _
    (c.in_ok-counts.ensures.goes (end c.args.place.machine c.args.tdr c.args.gpa c.args.page c.args.source c.in_ok-table.table) _ (rw c.done.ensures (refl, refl)))
