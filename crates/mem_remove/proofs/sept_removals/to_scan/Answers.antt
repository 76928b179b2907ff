use Rattle.std.proofs.Common.{◌≡◌, ℕ, [], ◌∷◌, Err, ap, sym, ◌∙◌}
use Rattle.td_words.specs.declared.names.EntryState.TheVariants.{NlBlocked}
use Rattle.td_words.specs.Packing.{Entry}
use Rattle.sept_walk.specs.SecureEpt.{index_at}
use Rattle.leaf_engine.specs.Trees.{feed}
use Rattle.leaf_parts.proofs.Parts.{exit}
use Rattle.mem_remove.specs.NamedTrees.{named_tree}
use Rattle.mem_remove.specs.RemoveTrees.{scan_tree, given_tree, sept_remove_rest}
use Rattle.mem_remove.specs.TrackedTrees.{tracked_tree}
use Rattle.mem_remove.proofs.RemoveDecided.{sept-remove-arguments, sept-remove-fed}
use Rattle.mem_remove.proofs.sept_removals.to_scan.Goals as goal

pub returns-in_err-n-clause-comes : goal.returns-in_err-n-clause-comes
returns-in_err-n-clause-comes c =
    let m = c.args.place.machine in
    let rest = sept_remove_rest m.pages c.args.tdr (index_at c.args.level c.args.gpa) in
    let e = c.in_err-n.field-0.0 in
    rw (exit c.from_residual-in_err-n.result e _ c.from_residual-in_err-n.ensures.1 (λ y h. h))
    (sept-remove-arguments m.pages m c.args.tdr c.args.gpa c.args.level (rw c.from.ensures at c.in_ok-check.ensures) c.in_ok-check-2.ensures (rw c.is_upper.ensures at c.in_ok-check-3.ensures) (rw c.is_aligned.ensures at c.in_ok-check-4.ensures)
    (named_tree m.pages c.args.tdr c.args.gpa c.args.level (NlBlocked ∷ []) rest) c.args.told.now.left.now (Err e) (c.in_err-n.ensures.goes rest))

pub returns-clause-comes : goal.returns-clause-comes
returns-clause-comes c =
    let m = c.args.place.machine in
    let rest = sept_remove_rest m.pages c.args.tdr (index_at c.args.level c.args.gpa) in
    let n = c.in_ok-n.n in
    let t = c.args.tdr in
    let i = index_at c.args.level c.args.gpa in
    let same : n.entry.page ≡ c.entry.inside.page = sym (ap (λ (e : Entry). e.page) c.entry.view_is) in
    sept-remove-fed m.pages m c.args.tdr c.args.gpa c.args.level (rw c.from.ensures at c.in_ok-check.ensures) c.in_ok-check-2.ensures (rw c.is_upper.ensures at c.in_ok-check-3.ensures) (rw c.is_aligned.ensures at c.in_ok-check-4.ensures)
    (named_tree m.pages c.args.tdr c.args.gpa c.args.level (NlBlocked ∷ []) rest) c.args.told.now.left.now
    ∙ (c.in_ok-n.ensures.feeds rest ∙ ap (λ (q : ℕ). feed (scan_tree m.pages q 0 512 (tracked_tree n.tdcs q (given_tree t n.page i q))) c.find_named.new.told.left.now) same)
