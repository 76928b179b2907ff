use Rattle.std.proofs.Common.{◌≡◌, ◌∙◌, true, false, is_none, [], ap, sym}
use Rattle.host_turns.specs.HostTurns.{standing_of, IsIn}
use Rattle.leaf_table.specs.Ends.{call_ends}
use Rattle.leaf_table.specs.Given.{given_in}
use Rattle.leaf_table.specs.Table.{task_of}
use Rattle.leaf_dispatch.proofs.ShortRuns.{is-in, short-on, short-alone}
use Rattle.leaf_dispatch.proofs.CallTurns.{adds-none}
use Rattle.leaf_dispatch.proofs.call_turns.turn_call.Goals as goal

pub turn_host-requires : goal.turn_host-requires
turn_host-requires g c =
    let k = c.args.kept.now in is-in standing_of IsIn c.args.place.machine _ (call_ends c.args.place.machine c.args.call.now) k.host k.other _ c.requires.at c.in-Some.is c.requires.under_way

pub returns-in-Some-clause-turned : goal.returns-in-Some-clause-turned
returns-in-Some-clause-turned g c =
    let k = c.args.kept.now in (
      [],
      adds-none c.args.bundles.now,
      short-on standing_of IsIn (g.B.Bench.did c.args.bench.now) c.args.place.machine _ (call_ends c.args.place.machine c.args.call.now) (task_of (given_in c.args.given) c.args.place c.args.call.now) k.host k.other c.turn_host.new.bench c.turn_host.new.kept c.turn_host.new.turn
          c.requires.at c.requires.under_way c.turn_host.ensures.turned,
    )

pub returns-in-Some-clause-stays : goal.returns-in-Some-clause-stays
returns-in-Some-clause-stays g c = λ some.
    let k = c.args.kept.now in
    let no : false ≡ true = sym (ap is_none c.in-Some.is) ∙ short-alone standing_of IsIn c.args.place.machine (call_ends c.args.place.machine c.args.call.now) k.host k.other c.requires.under_way some in
    cc
