use Rattle.std.proofs.Common.{ℕ}
use Rattle.leaf_engine.specs.Trees.{Tree}
use Rattle.leaf_parts.proofs.Parts.{goes-on, goes-off, exit}
use Rattle.access_core.specs.AcceptTrees.{passed_tree}
use Rattle.access_core.proofs.accepts.passed_walk.Goals as goal

-- an upper entry, and those of the levels below
abbrev upper : (pages gpa level page : ℕ) → (ℕ → Tree) → Tree
upper n gpa level p f = passed_tree n gpa p level f

abbrev lower : (pages gpa page : ℕ) → (ℕ → Tree) → Tree
lower n gpa p f = passed_tree n gpa p 2 (λ q. passed_tree n gpa q 1 f)

pub returns-in_err-second-clause-goes : goal.returns-in_err-second-clause-goes
returns-in_err-second-clause-goes c =
    goes-off c.args.place.machine.pages (upper c.args.place.machine.pages c.args.gpa 3 c.args.root) (lower c.args.place.machine.pages c.args.gpa)
    c.args.told.now.left.now c.passed.new.told.left.now c.passed.new.told.left.now c.in_err-second.field-0.0 c.from_residual.result
    (exit c.from_residual.result c.in_err-second.field-0.0 _ c.from_residual.ensures.1 (λ y h. h)) c.in_err-second.ensures.goes

pub returns-in_err-first-clause-goes : goal.returns-in_err-first-clause-goes
returns-in_err-first-clause-goes c =
    goes-on c.args.place.machine.pages (upper c.args.place.machine.pages c.args.gpa 3 c.args.root) (lower c.args.place.machine.pages c.args.gpa)
    c.args.told.now.left.now c.passed.new.told.left.now c.passed-2.new.told.left.now c.in_ok-second.second c.from_residual-in_err-first.result
    c.in_ok-second.ensures.goes
    (goes-off c.args.place.machine.pages (upper c.args.place.machine.pages c.args.gpa 2 c.in_ok-second.second) (upper c.args.place.machine.pages c.args.gpa 1)
    c.passed.new.told.left.now c.passed-2.new.told.left.now c.passed-2.new.told.left.now c.in_err-first.field-0.0 c.from_residual-in_err-first.result
    (exit c.from_residual-in_err-first.result c.in_err-first.field-0.0 _ c.from_residual-in_err-first.ensures.1 (λ y h. h)) c.in_err-first.ensures.goes)

pub returns-clause-goes : goal.returns-clause-goes
returns-clause-goes c =
    goes-on c.args.place.machine.pages (upper c.args.place.machine.pages c.args.gpa 3 c.args.root) (lower c.args.place.machine.pages c.args.gpa)
    c.args.told.now.left.now c.passed.new.told.left.now c.passed-3.new.told.left.now c.in_ok-second.second c.passed-3.result
    c.in_ok-second.ensures.goes
    (goes-on c.args.place.machine.pages (upper c.args.place.machine.pages c.args.gpa 2 c.in_ok-second.second) (upper c.args.place.machine.pages c.args.gpa 1)
    c.passed.new.told.left.now c.passed-2.new.told.left.now c.passed-3.new.told.left.now c.in_ok-first.first c.passed-3.result
    c.in_ok-first.ensures.goes c.passed-3.ensures.goes)
