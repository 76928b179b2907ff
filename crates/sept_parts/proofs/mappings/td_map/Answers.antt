use Rattle.leaf_parts.proofs.Parts.{exit}
use Rattle.sept_parts.specs.MapTrees.{map_tree}
use Rattle.sept_parts.proofs.mappings.td_map.Goals as goal

pub returns-in_err-found-clause-decides : goal.returns-in_err-found-clause-decides
returns-in_err-found-clause-decides c = λ fills.
    rw (exit c.from_residual.result c.in_err-found.field-0.0 _ c.from_residual.ensures.1 (λ y h. h)) (c.in_err-found.ensures.goes (map_tree c.args.place.machine.pages fills c.args.mapping))

pub returns-clause-decides : goal.returns-clause-decides
returns-clause-decides c = λ fills. c.in_ok-found.ensures.goes (map_tree c.args.place.machine.pages fills c.args.mapping) _ (c.map.ensures.decides fills)
