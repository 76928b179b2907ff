use Rattle.std.proofs.Common.{ℕ}
use Rattle.td_words.specs.Packing.{Entry}
use Rattle.sept_walk.specs.SecureEpt.{is_mapped_on}
use Rattle.leaf_engine.specs.Trees.{Tree}
use Rattle.leaf_parts.proofs.Parts.{goes-off, exit}
use Rattle.sept_parts.specs.SeptTrees.{entry_tree}
use Rattle.access_core.specs.AcceptTrees.{or_violation}
use Rattle.access_core.proofs.accepts.passed.Goals as goal

pub returns-in_err-upper-clause-goes : goal.returns-in_err-upper-clause-goes
returns-in_err-upper-clause-goes c =
    goes-off c.args.place.machine.pages (λ (f : Entry → Tree). entry_tree c.args.place.machine.pages c.args.page c.args.gpa c.args.level f)
    (λ (e : Entry) (f : ℕ → Tree). or_violation c.args.gpa (is_mapped_on e) (f e.page))
    c.args.told.now.left.now c.entry.new.told.left.now c.entry.new.told.left.now c.in_err-upper.field-0.0 c.from_residual.result
    (exit c.from_residual.result c.in_err-upper.field-0.0 _ c.from_residual.ensures.1 (λ y h. h)) c.in_err-upper.ensures.goes
