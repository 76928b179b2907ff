use Rattle.std.proofs.Common.{ℕ, ◌<◌, get_or, arith}
use Rattle.line_words.proofs.Runs.{whole_run, part_run, run_most, run_before, run_here}
use Rattle.line_words.proofs.words.printable_run.Goals as goal

pub returns-then-others-eq0-clause-before : goal.returns-then-others-eq0-clause-before
returns-then-others-eq0-clause-before c =
    let xs = c.args.bytes.now in
    let small : (k : ℕ) → get_or xs k 0 < 256 = λ k. (c.type_inv.bytes k).fits in
    run_before xs c.args.from 16 small c.requires (whole_run xs c.args.from c.requires c.if-others-eq0.true)

pub returns-else-others-eq0-clause-most : goal.returns-else-others-eq0-clause-most
returns-else-others-eq0-clause-most c =
    let xs = c.args.bytes.now in
    run_most xs c.args.from _ c.requires (part_run xs c.args.from c.requires (omega (arith, c.if-others-eq0.false)))

pub returns-else-others-eq0-clause-before : goal.returns-else-others-eq0-clause-before
returns-else-others-eq0-clause-before c =
    let xs = c.args.bytes.now in
    let small : (k : ℕ) → get_or xs k 0 < 256 = λ k. (c.type_inv.bytes k).fits in
    run_before xs c.args.from _ small c.requires (part_run xs c.args.from c.requires (omega (arith, c.if-others-eq0.false)))

pub returns-else-others-eq0-clause-here : goal.returns-else-others-eq0-clause-here
returns-else-others-eq0-clause-here c =
    let xs = c.args.bytes.now in
    let small : (k : ℕ) → get_or xs k 0 < 256 = λ k. (c.type_inv.bytes k).fits in
    run_here xs c.args.from _ small c.requires (part_run xs c.args.from c.requires (omega (arith, c.if-others-eq0.false)))
