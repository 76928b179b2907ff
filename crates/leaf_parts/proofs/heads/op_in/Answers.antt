use Rattle.std.proofs.Common.{◌≡◌, ◌∙◌, refl}
use Rattle.td_words.specs.declared.refusals.Status.TheVariants.{OpStateIncorrect}
use Rattle.leaf_engine.specs.Trees.{Tree, needs, feed}
use Rattle.leaf_parts.specs.declared.heads.Td.{Td}
use Rattle.leaf_parts.specs.Heads.{op_tree}
use Rattle.leaf_parts.proofs.Parts.{goes-refused, exit, passes, feed-passes}
use Rattle.leaf_parts.proofs.heads.op_in.Goals as goal

pub returns-in_err-check-clause-goes : goal.returns-in_err-check-clause-goes
returns-in_err-check-clause-goes c = λ t.
    goes-refused c.args.place.machine.pages (λ (f : Td → Tree). op_tree t c.args.tdcs c.args.mode c.args.allowed.now f) c.args.told.now.left.now c.load.new.self.left.now c.load.new.self.left.now
    c.is_among.result (OpStateIncorrect c.op_told-op.result) c.in_err-check.field-0.0 c.from_residual-in_err-check.result (λ f. f (record { tdcs = c.args.tdcs; op = c.op_told-op.result }))
    (exit c.from_residual-in_err-check.result c.in_err-check.field-0.0 _ c.from_residual-in_err-check.ensures.1 (λ y h. h))
    c.in_err-check.ensures
    (λ f v d. rw (c.in_ok-lock.ensures.1, c.in_ok-load.ensures) (rw (c.is_among.ensures, c.op_told-op.ensures) at d))

pub returns-clause-goes : goal.returns-clause-goes
returns-clause-goes c = λ t further r d.
    let e = passes c.args.place.machine.pages c.is_among.result (OpStateIncorrect c.op_told-op.result) (further (record { tdcs = c.args.tdcs; op = c.op_told-op.result })) c.load.new.self.left.now r c.in_ok-check.ensures d in
    rw (c.in_ok-lock.ensures.1, c.in_ok-load.ensures) (rw (c.is_among.ensures, c.op_told-op.ensures) at e)

pub returns-clause-feeds : goal.returns-clause-feeds
returns-clause-feeds c = λ t further.
    let checked : feed (op_tree t c.args.tdcs c.args.mode c.args.allowed.now further) c.args.told.now.left.now ≡ feed (needs c.is_among.result (OpStateIncorrect c.op_told-op.result) (further (record { tdcs = c.args.tdcs; op = c.op_told-op.result }))) c.load.new.self.left.now = rw (c.in_ok-lock.ensures.1, c.in_ok-load.ensures, c.is_among.ensures, c.op_told-op.ensures) refl in
    checked ∙ feed-passes c.is_among.result (OpStateIncorrect c.op_told-op.result) (further (record { tdcs = c.args.tdcs; op = c.op_told-op.result })) c.load.new.self.left.now c.in_ok-check.ensures
