use Rattle.std.proofs.Common.{◌∙◌, [], None, ap}
use Rattle.leaf_engine.specs.declared.needs.Place.{Place}
use Rattle.leaf_engine.specs.declared.events.Stage.TheVariants.{Trying}
use Rattle.leaf_engine.specs.Trees.{Tree, settle}
use Rattle.leaf_engine.specs.Turns.{standing}
use Rattle.leaf_table.specs.declared.leaves.AnyLeaf.{AnyLeaf}
use Rattle.leaf_table.specs.Ends.{step_ends}
use Rattle.leaf_table.specs.Steps.{step_seen}
use Rattle.leaf_table.specs.Leaves.{leaf_seen}
use Rattle.leaf_table.specs.Given.{given_in}
use Rattle.leaf_table.specs.Table.{step_task}
use Rattle.leaf_dispatch.proofs.Keeping.{begun}
use Rattle.leaf_table.proofs.Tries.{step_ends_as, step_begins_other}
use Rattle.leaf_dispatch.proofs.running.begin_step.Goals as goal

pub returns-clause-stands : goal.returns-clause-stands
returns-clause-stands c = c.new.ensures.at_start ∙ ap (λ (t : Tree). standing (settle t) Trying [] None) c.step_leaf.ensures.tree

pub returns-clause-under_way : goal.returns-clause-under_way
returns-clause-under_way c =
    let s = step_seen c.args.step in
    begun c.args.place.machine (step_ends c.args.tdr c.args.line s) (step_task (given_in c.args.given) c.args.place c.args.tdr c.args.vp c.args.line s).tree (record { run = c.new.result })
    (ap (λ (l : AnyLeaf). (leaf_seen l).task.place.machine) c.new.ensures.leaf ∙ ap (λ (z : Place). z.machine) c.step_leaf.ensures.place)
    (c.new.ensures.can_run c.args.place.machine) (c.new.ensures.at_start ∙ ap (λ (t : Tree). standing (settle t) Trying [] None) c.step_leaf.ensures.tree)
    (step_ends_as (given_in c.args.given) c.args.place c.args.tdr c.args.vp c.args.line s) (step_begins_other (given_in c.args.given) c.args.place c.args.tdr c.args.vp c.args.line s)
