use Rattle.std.proofs.Common.{◌≡◌, ℕ, List, Result, Err, refl, sym, subst}
use Rattle.td_words.specs.declared.machines.Machine.{Machine}
use Rattle.flat_core.specs.MemRows.{removed_states}
use Rattle.sept_walk.specs.SecureEpt.{index_at}
use Rattle.leaf_engine.specs.declared.plans.Stop.{Stop}
use Rattle.leaf_engine.specs.Trees.{Tree}
use Rattle.leaf_engine.specs.Decides.{Ending, Decides}
use Rattle.leaf_parts.proofs.Parts.{exit}
use Rattle.mem_remove.specs.declared.named_entries.Named.{Named}
use Rattle.mem_remove.specs.NamedTrees.{named_tree}
use Rattle.mem_remove.specs.TrackedTrees.{tracked_tree}
use Rattle.relocate_core.specs.RelocateTrees.{relocate_end, relocate_rest}
use Rattle.relocate_core.proofs.relocations.PageRelocatePlan.decide.Goals as goal

-- what comes behind each part
abbrev last : (tdr gpa page : ℕ) → Named → Tree
last tdr gpa page n = tracked_tree n.tdcs n.entry.page (relocate_end tdr (index_at 0 gpa) page n)

abbrev rest : (tdr gpa page : ℕ) → Named → Tree
rest tdr gpa page n = relocate_rest tdr (index_at 0 gpa) page n

abbrev whole : Machine → (tdr gpa page : ℕ) → Tree
whole m tdr gpa page = named_tree m.pages tdr gpa 0 removed_states (rest tdr gpa page)

-- the entry as its fields are told
with-named : (pages tdr gpa page : ℕ) (x y : Named) (xs : List ℕ) (r : Result Ending Stop) → x ≡ y → Decides pages (rest tdr gpa page y) xs r → Decides pages (rest tdr gpa page x) xs r
with-named pages tdr gpa page x y xs r e d = subst (λ (z : Named). Decides pages (rest tdr gpa page z) xs r) (sym e) d

pub returns-in_err-are_in_range-clause-decides : goal.returns-in_err-are_in_range-clause-decides
returns-in_err-are_in_range-clause-decides c =
    let l = c.args.self.now in
    rw (exit c.from_residual.result c.in_err-are_in_range.field-0.0 _ c.from_residual.ensures.1 (λ y h. h))
    (c.in_err-are_in_range.ensures.goes (λ u. whole l.place.machine l.tdr l.gpa l.page))

pub returns-in_err-named-clause-decides : goal.returns-in_err-named-clause-decides
returns-in_err-named-clause-decides c =
    let l = c.args.self.now in
    rw (exit c.from_residual-in_err-named.result c.in_err-named.field-0.0 _ c.from_residual-in_err-named.ensures.1 (λ y h. h))
    (c.in_ok-are_in_range.ensures.goes (λ u. whole l.place.machine l.tdr l.gpa l.page) (Err c.in_err-named.field-0.0)
    (c.in_err-named.ensures.goes (rest l.tdr l.gpa l.page)))

pub returns-in_err-another_page-clause-decides : goal.returns-in_err-another_page-clause-decides
returns-in_err-another_page-clause-decides c =
    let l = c.args.self.now in
    let n : Named = record { tdcs = c.named.inside.0.0; page = c.named.inside.0.1.0; entry = record { state = c.named.inside.0.1.1.0.state; page = c.named.inside.0.1.1.0.page; mark = c.named.inside.0.1.1.0.mark } } in
    let is : c.in_ok-named.named ≡ n = cc in
    rw (exit c.from_residual-in_err-another_page.result c.in_err-another_page.field-0.0 _ c.from_residual-in_err-another_page.ensures.1 (λ y h. h))
    (c.in_ok-are_in_range.ensures.goes (λ u. whole l.place.machine l.tdr l.gpa l.page) (Err c.in_err-another_page.field-0.0)
    (c.in_ok-named.ensures.goes (rest l.tdr l.gpa l.page) (Err c.in_err-another_page.field-0.0)
    (with-named l.place.machine.pages l.tdr l.gpa l.page c.in_ok-named.named n _ _ is
    (c.in_err-another_page.ensures.goes (λ u. last l.tdr l.gpa l.page n)))))

pub returns-in_err-tracked-clause-decides : goal.returns-in_err-tracked-clause-decides
returns-in_err-tracked-clause-decides c =
    let l = c.args.self.now in
    let n : Named = record { tdcs = c.named.inside.0.0; page = c.named.inside.0.1.0; entry = record { state = c.named.inside.0.1.1.0.state; page = c.named.inside.0.1.1.0.page; mark = c.named.inside.0.1.1.0.mark } } in
    let is : c.in_ok-named.named ≡ n = cc in
    rw (exit c.from_residual-in_err-tracked.result c.in_err-tracked.field-0.0 _ c.from_residual-in_err-tracked.ensures.1 (λ y h. h))
    (c.in_ok-are_in_range.ensures.goes (λ u. whole l.place.machine l.tdr l.gpa l.page) (Err c.in_err-tracked.field-0.0)
    (c.in_ok-named.ensures.goes (rest l.tdr l.gpa l.page) (Err c.in_err-tracked.field-0.0)
    (with-named l.place.machine.pages l.tdr l.gpa l.page c.in_ok-named.named n _ _ is
    (c.in_ok-another_page.ensures.goes (λ u. last l.tdr l.gpa l.page n) (Err c.in_err-tracked.field-0.0)
    (c.in_err-tracked.ensures.goes (λ u. relocate_end l.tdr (index_at 0 l.gpa) l.page n))))))

pub returns-clause-decides : goal.returns-clause-decides
returns-clause-decides c =
    let l = c.args.self.now in
    let n : Named = record { tdcs = c.named.inside.0.0; page = c.named.inside.0.1.0; entry = record { state = c.named.inside.0.1.1.0.state; page = c.named.inside.0.1.1.0.page; mark = c.named.inside.0.1.1.0.mark } } in
    let is : c.in_ok-named.named ≡ n = cc in
    c.in_ok-are_in_range.ensures.goes (λ u. whole l.place.machine l.tdr l.gpa l.page) _
    (c.in_ok-named.ensures.goes (rest l.tdr l.gpa l.page) _
    (with-named l.place.machine.pages l.tdr l.gpa l.page c.in_ok-named.named n _ _ is
    (c.in_ok-another_page.ensures.goes (λ u. last l.tdr l.gpa l.page n) _
    (c.in_ok-tracked.ensures.goes (λ u. relocate_end l.tdr (index_at 0 l.gpa) l.page n) _ (rw c.done.ensures (refl, refl))))))
