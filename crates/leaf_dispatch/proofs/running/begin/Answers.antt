use Rattle.std.proofs.Common.{◌∙◌, [], None, ap, sym, subst}
use Rattle.leaf_engine.specs.declared.needs.Place.{Place}
use Rattle.leaf_engine.specs.declared.events.Stage.TheVariants.{Trying}
use Rattle.leaf_engine.specs.Means.{Task}
use Rattle.leaf_engine.specs.Trees.{settle}
use Rattle.leaf_engine.specs.Turns.{standing}
use Rattle.leaf_table.specs.declared.leaves.AnyLeaf.{AnyLeaf}
use Rattle.leaf_table.specs.Ends.{call_ends}
use Rattle.leaf_table.specs.Leaves.{leaf_seen}
use Rattle.leaf_table.specs.Origins.{TakesFrom}
use Rattle.leaf_table.specs.Given.{Given, given_in}
use Rattle.leaf_table.specs.Table.{task_of}
use Rattle.leaf_dispatch.proofs.Keeping.{begun}
use Rattle.leaf_table.proofs.Tries.{ends_as, begins_other}
use Rattle.leaf_table.proofs.Calls.{of-place}
use Rattle.leaf_dispatch.proofs.running.begin.Goals as goal

pub returns-clause-under_way : goal.returns-clause-under_way
returns-clause-under_way c =
    let call = c.args.call.now in
    let given : Given = given_in c.args.given in
    begun c.args.place.machine (call_ends c.args.place.machine call) (task_of given c.args.place call).tree (record { run = c.new.result })
    (ap (λ (l : AnyLeaf). (leaf_seen l).task.place.machine) c.new.ensures.leaf ∙ (ap (λ (z : Task). z.place.machine) c.leaf_of.ensures.task ∙ ap (λ (z : Place). z.machine) (of-place given c.args.place call)))
    (c.new.ensures.can_run c.args.place.machine) (c.new.ensures.at_start ∙ ap (λ (z : Task). standing (settle z.tree) Trying [] None) c.leaf_of.ensures.task) (ends_as given c.args.place call) (begins_other given c.args.place call)

pub returns-clause-takes : goal.returns-clause-takes
returns-clause-takes c = subst (λ (l : AnyLeaf). TakesFrom (given_in c.args.given) l) (sym c.new.ensures.leaf) c.leaf_of.ensures.takes

pub returns-clause-first : goal.returns-clause-first
returns-clause-first c = c.new.ensures.at_start ∙ ap (λ (l : AnyLeaf). standing (settle (leaf_seen l).task.tree) Trying [] None) (sym c.new.ensures.leaf)
