use Rattle.std.proofs.Common.{ℕ, ◌==◌, List, Ok, Err, subst}
use Rattle.td_words.specs.declared.refusals.Status.TheVariants.{TokenTotal}
use Rattle.flat_core.specs.World.{ClearHeader}
use Rattle.flat_core.specs.Opening.{clear_header}
use Rattle.arrayvec.specs.ArrayVec.{ArrayVec}
use Rattle.leaf_engine.specs.Trees.{Tree, needs}
use Rattle.leaf_parts.specs.Parts.{Goes}
use Rattle.leaf_parts.proofs.Parts.{goes-stop, goes-check, exit}
use Rattle.stream_parts.specs.Streams.{sum_tree}
use Rattle.import_core.specs.TokenTrees.{total_same_tree}
use Rattle.import_core.proofs.tokens.total_same.Goals as goal

abbrev tested : ClearHeader → (Unit {0} → Tree) → (total : ℕ) → Tree
tested h f total = needs (total == h.total) (TokenTotal total h.total) (f tt)

abbrev summed : ClearHeader → (Unit {0} → Tree) → ArrayVec ℕ → Tree
summed h f streams = sum_tree 0 streams.items (tested h f)

pub returns-in_err-pages-clause-goes : goal.returns-in_err-pages-clause-goes
returns-in_err-pages-clause-goes c =
    let a = c.args in
    let h : ClearHeader = clear_header a.header.now in
    let e = c.in_err-pages.field-0.0 in
    goes-stop a.machine.pages (λ (f : Unit {0} → Tree). total_same_tree a.machine.pages a.tdcs h (f tt)) a.told.now.left.now c.stream_pages.new.told.left.now c.from_residual.result e
    (exit c.from_residual.result e _ c.from_residual.ensures.1 (λ y z. z)) (λ f. c.in_err-pages.ensures.goes (summed h f))

pub returns-in_err-total-clause-goes : goal.returns-in_err-total-clause-goes
returns-in_err-total-clause-goes c =
    let a = c.args in
    let h : ClearHeader = clear_header a.header.now in
    let e = c.in_err-total.field-0.0 in
    let sum = subst (λ (ps : List ℕ). Goes {A = ℕ} a.machine.pages (λ f. sum_tree 0 ps f) c.stream_pages.new.told.left.now c.stream_sum.new.told.left.now (Err e)) c.as_slice.ensures.value c.in_err-total.ensures.goes in
    goes-stop a.machine.pages (λ (f : Unit {0} → Tree). total_same_tree a.machine.pages a.tdcs h (f tt)) a.told.now.left.now c.stream_sum.new.told.left.now c.from_residual-in_err-total.result e
    (exit c.from_residual-in_err-total.result e _ c.from_residual-in_err-total.ensures.1 (λ y z. z)) (λ f. c.in_ok-pages.ensures.goes (summed h f) (Err e) (sum (tested h f)))

pub returns-clause-goes : goal.returns-clause-goes
returns-clause-goes c =
    let a = c.args in
    let h : ClearHeader = clear_header a.header.now in
    let sum = subst (λ (ps : List ℕ). Goes {A = ℕ} a.machine.pages (λ f. sum_tree 0 ps f) c.stream_pages.new.told.left.now c.stream_sum.new.told.left.now (Ok c.in_ok-total.total)) c.as_slice.ensures.value c.in_ok-total.ensures.goes in
    goes-check a.machine.pages (λ (f : Unit {0} → Tree). total_same_tree a.machine.pages a.tdcs h (f tt)) a.told.now.left.now c.stream_sum.new.told.left.now (c.in_ok-total.total == h.total) (TokenTotal c.in_ok-total.total h.total) c.check.result tt
    (λ f v d. c.in_ok-pages.ensures.goes (summed h f) v (sum (tested h f) v d)) c.check.ensures
