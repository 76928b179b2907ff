use Rattle.std.proofs.Common.{◌≡◌, suc, ◌-◌, arith}
use Rattle.leaf_parts.proofs.Parts.{exit}
use Rattle.sept_parts.proofs.Walks.{goes-failed, goes-down, feeds-down}
use Rattle.sept_parts.proofs.finds.+walk_on.Goals as goal

pub returns-in_err-next-clause-goes : goal.returns-in_err-next-clause-goes
returns-in_err-next-clause-goes t c =
    let more : c.args.from - c.args.level ≡ suc (c.args.from - 1 - c.args.level) = omega arith in
    goes-failed c.args.place.machine.pages c.args.gpa (c.args.from - c.args.level) (c.args.from - 1 - c.args.level) c.args.from c.args.page
    c.args.told.now.left.now c.below.new.told.left.now c.below.new.told.left.now c.in_err-next.field-0.0 c.from_residual.result more
    (exit c.from_residual.result c.in_err-next.field-0.0 _ c.from_residual.ensures.1 (λ y h. h)) c.in_err-next.ensures.goes

pub returns-clause-goes : goal.returns-clause-goes
returns-clause-goes t c =
    let more : c.args.from - c.args.level ≡ suc (c.args.from - 1 - c.args.level) = omega arith in
    goes-down c.args.place.machine.pages c.args.gpa (c.args.from - c.args.level) (c.args.from - 1 - c.args.level) c.args.from c.args.page c.in_ok-next.next
    c.args.told.now.left.now c.below.new.told.left.now c.walk_on.new.told.left.now c.walk_on.result more c.in_ok-next.ensures.goes c.walk_on.ensures.goes

pub returns-clause-feeds : goal.returns-clause-feeds
returns-clause-feeds t c =
    let more : c.args.from - c.args.level ≡ suc (c.args.from - 1 - c.args.level) = omega arith in
    feeds-down c.args.place.machine.pages c.args.gpa (c.args.from - c.args.level) (c.args.from - 1 - c.args.level) c.args.from c.args.page c.in_ok-next.next
    c.args.told.now.left.now c.below.new.told.left.now c.walk_on.new.told.left.now c.walk_on.result more c.in_ok-next.ensures.feeds c.walk_on.ensures.feeds
