use Rattle.std.proofs.Common.{◌∙◌, ap, refl, arith, replicate, ℕ}
use Rattle.trace_table.proofs.Openings.{opens}
use Rattle.trace_table.proofs.tables.SharedTable.start.Goals as goal

pub vacant-made-requires : goal.vacant-made-requires
vacant-made-requires c = opens c.args.machine c.deref.result.now _ (omega arith) (c.deref.ensures.value ∙ (c.in-Ok.ensures ∙ ap (λ (n : ℕ). replicate n 0) (omega arith))) refl
