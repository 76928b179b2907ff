use Rattle.std.proofs.Common.{◌≡◌, ◌≤◌, List, false}
use Rattle.step_core.specs.declared.items.Taken.{Taken}
use Rattle.leaf_engine.specs.Items.{IsLoaded}
use Rattle.leaf_engine.proofs.asking.ask.Given as goal

abbrev pub invariant-loop-name : goal.invariant-loop-name
invariant-loop-name g l = record {
  did : (xs : List Taken) × g.B.Bench.did l.initial.bench xs l.bench × IsLoaded (g.L.Leaf.task l.initial.leaf).place.machine.pages (g.L.Leaf.rest l.initial.leaf) xs (g.L.Leaf.rest l.leaf);
  fits : (g.L.Leaf.task l.leaf).place.machine ≡ g.B.Bench.machine l.bench;
  ready : g.L.Leaf.waits l.leaf ≡ false;
  tries : g.L.Leaf.tries l.leaf ≤ g.L.Leaf.tries l.initial.leaf;
  same : (g.B.Bench.machine l.bench ≡ g.B.Bench.machine l.initial.bench) × (g.L.Leaf.task l.leaf ≡ g.L.Leaf.task l.initial.leaf) × (g.L.Leaf.written l.leaf ≡ g.L.Leaf.written l.initial.leaf);
  origin : g.L.Leaf.origin l.leaf ≡ g.L.Leaf.origin l.initial.leaf;
}

abbrev pub decreases-loop-name : goal.decreases-loop-name
decreases-loop-name g l = g.L.Leaf.bound l.leaf
