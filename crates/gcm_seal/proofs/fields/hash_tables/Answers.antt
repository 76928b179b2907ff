use Rattle.std.proofs.Common.{◌≡◌, ℕ, ◌+◌, ◌*◌, ◌≢◌, ◌∙◌, List, [], ap, sym, refl, arith, below_more, get_or-set_same, get_or-set_other}
use Rattle.std.proofs.Math.ListN.{length-set}
use Rattle.gcm_seal.specs.Tables.{raised, table_of}
use Rattle.gcm_seal.proofs.Field.{raised-add}
use Rattle.gcm_seal.proofs.fields.hash_tables.Goals as goal

pub loop-i-init : goal.loop-i-init
unfolding raised
loop-i-init c = (refl, refl, λ j h. absurd (omega arith))

pub loop-i-preserved : goal.loop-i-preserved
loop-i-preserved c =
    let long = c.loop-i.invariant.0 in
    let x : List ℕ = c.table.result in
    let next : 4 * (c.loop-i.i + 1) ≡ 4 * c.loop-i.i + 4 = omega arith in (
      length-set c.loop-i.tables c.loop-i.i x ∙ long,
      c.times_x4-v.ensures ∙ ap (raised 4) c.loop-i.invariant.1 ∙ sym (raised-add (4 * c.loop-i.i) 4 c.args.h) ∙ ap (λ n. raised n c.args.h) (sym next),
      below_more _ c.loop-i.i
          (λ j h. let ne : j ≢ c.loop-i.i = omega arith in get_or-set_other c.loop-i.tables c.loop-i.i j x [] ne ∙ c.loop-i.invariant.2 j h)
          (get_or-set_same c.loop-i.tables c.loop-i.i x [] (omega arith) ∙ c.table.ensures ∙ ap table_of c.loop-i.invariant.1),
    )

pub returns : goal.returns
returns c = λ j h. c.loop-i.invariant.2 j (omega arith)
