use Rattle.std.proofs.Common.{◌≡◌, ◌≤◌, List, ◌++◌, Option}
use Rattle.mrtd_measure.specs.declared.measures.Measure.{Measure}
use Rattle.step_core.specs.declared.items.Taken.{Taken}
use Rattle.leaf_engine.specs.Trees.{changes_left}
use Rattle.leaf_engine.specs.Items.{AreChanged}
use Rattle.leaf_engine.proofs.asking.change.Given as goal

abbrev pub invariant-loop-write : goal.invariant-loop-write
invariant-loop-write g l = record {
  did : (xs : List Taken) × g.B.Bench.did l.initial.bench xs l.bench
      × ((ys : List Taken) (h : Option Measure)
      → AreChanged (g.B.Bench.machine l.initial.bench) (changes_left (g.L.Leaf.rest l.leaf) (g.L.Leaf.written l.leaf)) l.hasher ys h
      → AreChanged (g.B.Bench.machine l.initial.bench) (changes_left (g.L.Leaf.rest l.initial.leaf) (g.L.Leaf.written l.initial.leaf)) l.initial.hasher (xs ++ ys) h);
  fits : (g.L.Leaf.task l.leaf).place.machine ≡ g.B.Bench.machine l.bench;
  tries : g.L.Leaf.tries l.leaf ≤ g.L.Leaf.tries l.initial.leaf;
  same : (g.B.Bench.machine l.bench ≡ g.B.Bench.machine l.initial.bench) × (g.L.Leaf.task l.leaf ≡ g.L.Leaf.task l.initial.leaf) × (g.L.Leaf.rest l.leaf ≡ g.L.Leaf.rest l.initial.leaf) × (g.L.Leaf.waits l.leaf ≡ g.L.Leaf.waits l.initial.leaf);
  origin : g.L.Leaf.origin l.leaf ≡ g.L.Leaf.origin l.initial.leaf;
}

abbrev pub decreases-loop-write : goal.decreases-loop-write
decreases-loop-write g l = g.L.Leaf.bound l.leaf
