use Rattle.std.proofs.Common.{◌∙◌, ap, sym, arith, ◌∷◌, ℕ, List, Option}
use Rattle.mrtd_measure.specs.declared.measures.Measure.{Measure}
use Rattle.atomic_table.specs.Table.{rest}
use Rattle.trace_table.specs.Tells.{Seated}
use Rattle.trace_table.proofs.Swaps.{take-allowed, give-again}
use Rattle.trace_table.proofs.benches.SharedBenchBench.swap.Goals as goal

pub compare_exchange-requires : goal.compare_exchange-requires
compare_exchange-requires c = take-allowed c.args.self.now c.args.slot c.requires

pub exchange-taken-requires : goal.exchange-taken-requires
exchange-taken-requires c =
    let b = c.args.self.now in
    let t = c.compare_exchange.ensures.2.0 c.if-compare_exchange-eq0.true in
    let e = ap (λ (z : Seated). z.1) t.1 in
    (c.compare_exchange.ensures.0 ∙ b.at_table, (t.0, e ∙ ap (λ (ls : List (ℕ × Option Measure)). (c.args.slot, t.0) ∷ rest ls) (sym e)))

pub store-requires : goal.store-requires
store-requires c =
    let b = c.args.self.now in
    let t = c.compare_exchange.ensures.2.0 c.if-compare_exchange-eq0.true in
    let x = c.exchange-taken.ensures in (
      x.0 ∙ (c.compare_exchange.ensures.0 ∙ b.at_table),
      (let a = b.wide in let f = b.few in let r = c.requires in omega (arith, a, f, r)),
      give-again b c.args.slot c.args.put t.0 c.requires c.exchange-taken.new.seat.id c.exchange-taken.new.seat.me (ap (λ (z : Seated). z.0) x.3 ∙ ap (λ (z : Seated). z.0) t.1) (rest c.compare_exchange.new.seat.me.1) (ap (λ (z : Seated). z.1) x.3),
    )
