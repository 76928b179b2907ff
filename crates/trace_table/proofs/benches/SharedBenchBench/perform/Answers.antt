use Rattle.trace_table.proofs.Steps.{load-allowed, store-allowed, add-allowed, sub-allowed, exchange-allowed}
use Rattle.trace_table.proofs.benches.SharedBenchBench.perform.Goals as goal

pub load-requires : goal.load-requires
load-requires c = load-allowed c.args.self.now c.args.step c.in-Load.at c.args.self.now.table.now.table_id.slots c.in-Load.is c.requires

pub store-requires : goal.store-requires
store-requires c = store-allowed c.args.self.now c.args.step c.in-Store.at c.in-Store.word c.args.self.now.table.now.table_id.slots c.in-Store.is c.requires

pub fetch_add-requires : goal.fetch_add-requires
fetch_add-requires c = add-allowed c.args.self.now c.args.step c.in-Add.at c.in-Add.word c.args.self.now.table.now.table_id.slots c.in-Add.is c.requires

pub fetch_sub-requires : goal.fetch_sub-requires
fetch_sub-requires c = sub-allowed c.args.self.now c.args.step c.in-Sub.at c.in-Sub.word c.args.self.now.table.now.table_id.slots c.in-Sub.is c.requires

pub compare_exchange-requires : goal.compare_exchange-requires
compare_exchange-requires c = exchange-allowed c.args.self.now c.args.step c.in-Exchange.at c.in-Exchange.old c.in-Exchange.new c.args.self.now.table.now.table_id.slots c.in-Exchange.is c.requires
