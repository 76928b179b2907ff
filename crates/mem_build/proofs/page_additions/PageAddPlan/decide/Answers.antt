use Rattle.leaf_parts.proofs.Parts.{exit}
use Rattle.mem_build.proofs.PageAdds.{comes-not, comes}
use Rattle.mem_build.proofs.page_additions.PageAddPlan.decide.Goals as goal

pub returns-in_err-are_allowed-clause-decides : goal.returns-in_err-are_allowed-clause-decides
returns-in_err-are_allowed-clause-decides c =
    rw (exit c.from_residual.result c.in_err-are_allowed.field-0.0 _ c.from_residual.ensures.1 (λ y h. h))
    (comes-not c.args.self.now.place.machine c.args.self.now.given c.args.told.left.now c.are_allowed.new.told.left.now c.in_err-are_allowed.field-0.0 c.in_err-are_allowed.ensures.goes)

pub returns-clause-decides : goal.returns-clause-decides
returns-clause-decides c = comes c.args.self.now.place.machine c.args.self.now.given c.args.told.left.now c.are_allowed.new.told.left.now _ c.in_ok-are_allowed.ensures.goes c.of_td.ensures.decides
