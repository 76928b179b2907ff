use Rattle.std.proofs.Common.{◌≡◌, ◌+◌, ◌*◌}
use Rattle.step_core.specs.Pages.{Copies}
use Rattle.step_core.proofs.pages.copy_page.Given as goal

abbrev pub invariant-loop-eight : goal.invariant-loop-eight
invariant-loop-eight g l = record {
  machine : g.B.Bench.machine l.bench ≡ g.B.Bench.machine l.initial.bench;
  did : Copies (g.B.Bench.did l.initial.bench) l.from l.to (8 * l.eight) l.bench;
}

abbrev pub invariant-loop-one : goal.invariant-loop-one
invariant-loop-one g l = record {
  machine : g.B.Bench.machine l.bench ≡ g.B.Bench.machine l.initial.bench;
  did : (b : g.row.B.Denot) → Copies (g.B.Bench.did b) l.from l.to (8 * l.eight) l.initial.bench → Copies (g.B.Bench.did b) l.from l.to (8 * l.eight + l.one) l.bench;
}
