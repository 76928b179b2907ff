use Rattle.std.proofs.Common.{rules, ◌≡◌, ◌+◌, ◌*◌, arith, add-zero}
use Rattle.step_core.proofs.Paging.{clearing_none, clearing_more}
use Rattle.step_core.proofs.pages.zero_page.Goals as goal

pub loop-eight-init : goal.loop-eight-init
loop-eight-init g c = record { machine = search rules; did = rw (clearing_none c.args.page) (g.met.B.Bench.did_none _) }

pub loop-one-init : goal.loop-one-init
loop-one-init g c = record { machine = search rules; did = λ b before. rw add-zero before }

pub loop-one-preserved : goal.loop-one-preserved
loop-one-preserved g c =
    let zero_answer : c.perform.result ≡ 0 = c.perform.ensures.store in
    let next : 8 * c.loop-eight.eight + (c.loop-one.one + 1) ≡ 8 * c.loop-eight.eight + c.loop-one.one + 1 = omega arith in
    record {
      machine = search rules;
      did = λ b before. rw (next, clearing_more) (g.met.B.Bench.did_more _ _ _ _ _ (c.loop-one.invariant.did b before) (rw (c.word_address.ensures, zero_answer) at c.perform.ensures.did));
    }

pub loop-eight-preserved : goal.loop-eight-preserved
loop-eight-preserved g c =
    let next : 8 * (c.loop-eight.eight + 1) ≡ 8 * c.loop-eight.eight + c.loop-one.one = omega (arith, c.loop-one-test.false, c.loop-one.auto) in
    record {
      machine = search rules;
      did = rw next (c.loop-one.invariant.did _ c.loop-eight.invariant.did);
    }
