use Rattle.std.proofs.Common.{◌-◌, ◌+◌, refl, arith}
use Rattle.leaf_parts.proofs.Parts.{exit}
use Rattle.leaf_parts.proofs.VpTrees.{goes-failed, goes-next, feeds-next}
use Rattle.leaf_parts.proofs.vp_words.+apart_from.Goals as goal

pub returns-in_err-word-clause-goes : goal.returns-in_err-word-clause-goes
returns-in_err-word-clause-goes t c =
    goes-failed c.args.machine.pages c.args.asked c.args.number c.args.left (c.args.left - 1) c.args.apart c.args.told.now.left.now c.vp_word.new.told.left.now c.vp_word.new.told.left.now c.from_residual.result (omega (arith, c.if-left-eq0.false)) c.in_err-word.field-0.0
    (exit c.from_residual.result c.in_err-word.field-0.0 _ c.from_residual.ensures.1 (λ y h. h)) c.in_err-word.ensures.goes

pub returns-clause-goes : goal.returns-clause-goes
returns-clause-goes t c =
    goes-next c.args.machine.pages c.args.asked c.args.number c.args.left (c.args.left - 1) c.args.apart c.args.told.now.left.now c.vp_word.new.told.left.now c.apart_from.new.told.left.now c.apart_from.result (omega (arith, c.if-left-eq0.false)) c.in_ok-word.word (c.args.apart + c.from-more.result)
    (rw c.from-more.ensures refl) c.in_ok-word.ensures.goes c.apart_from.ensures.goes

pub returns-clause-feeds : goal.returns-clause-feeds
returns-clause-feeds t c =
    feeds-next c.args.machine.pages c.args.asked c.args.number c.args.left (c.args.left - 1) c.args.apart c.args.told.now.left.now c.vp_word.new.told.left.now c.apart_from.new.told.left.now c.apart_from.result (omega (arith, c.if-left-eq0.false)) c.in_ok-word.word (c.args.apart + c.from-more.result)
    (rw c.from-more.ensures refl) c.in_ok-word.ensures.feeds c.apart_from.ensures.feeds
