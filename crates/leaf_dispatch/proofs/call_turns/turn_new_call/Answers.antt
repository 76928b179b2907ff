use Rattle.std.proofs.Common.{[], refl}
use Rattle.td_words.specs.declared.calls.Call.TheVariants as call
use Rattle.host_turns.specs.declared.runs.HostAccess.TheVariants.{Read, Write}
use Rattle.leaf_table.specs.Given.{given_in}
use Rattle.leaf_dispatch.proofs.CallTurns.{host-begins, adds-none}
use Rattle.leaf_dispatch.proofs.call_turns.turn_new_call.Goals as goal

pub returns-in-HostRead-clause-turned : goal.returns-in-HostRead-clause-turned
returns-in-HostRead-clause-turned g c = (
  [],
  adds-none c.args.bundles.now,
  host-begins (g.B.Bench.did c.args.bench.now) (given_in c.args.given) c.args.place _ c.args.call.now (call.HostRead c.in-HostRead.page c.in-HostRead.word) Read c.in-HostRead.page c.in-HostRead.word c.begin_host.new.bench c.args.kept.now.host c.begin_host.new.kept c.args.kept.now.other
      c.begin_host.new.turn c.requires.at c.in-HostRead.is refl refl c.requires.none.0 c.requires.none.1 c.begin_host.ensures.turned,
)

pub returns-in-HostWrite-clause-turned : goal.returns-in-HostWrite-clause-turned
returns-in-HostWrite-clause-turned g c = (
  [],
  adds-none c.args.bundles.now,
  host-begins (g.B.Bench.did c.args.bench.now) (given_in c.args.given) c.args.place _ c.args.call.now (call.HostWrite c.in-HostWrite.page c.in-HostWrite.word c.in-HostWrite.value) (Write c.in-HostWrite.value) c.in-HostWrite.page c.in-HostWrite.word c.begin_host-in-HostWrite.new.bench c.args.kept.now.host
      c.begin_host-in-HostWrite.new.kept c.args.kept.now.other c.begin_host-in-HostWrite.new.turn c.requires.at c.in-HostWrite.is refl refl c.requires.none.0 c.requires.none.1 c.begin_host-in-HostWrite.ensures.turned,
)
