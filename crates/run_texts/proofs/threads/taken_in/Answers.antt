use Rattle.std.proofs.Common.{rules, ◌≡◌, ◌++◌, ◌∷◌, [], List, length, ap, sym, ◌∙◌, append_assoc, arith}
use Rattle.std.specs.Vec.Iter.{into_iter_items}
use Rattle.std.proofs.lemmas.List.{map_push}
use Rattle.trace_table.specs.Benches.{BenchSeen, bench_of, has_taken_in}
use Rattle.leaf_dispatch.specs.declared.states.LpState.{LpState}
use Rattle.lp_threads.specs.declared.lanes.Lane.{Lane}
use Rattle.run_texts.specs.Lanes.{IsOther, benches_of, with_all}
use Rattle.run_texts.proofs.Lanes.{with-all-table, with-all-first, with-all-more, bench-here}
use Rattle.run_texts.proofs.threads.taken_in.Goals as goal

pub loop-lane-preserved : goal.loop-lane-preserved
loop-lane-preserved c =
    let at = c.loop-lane in
    let x = c.in-Some.lane in
    let b = bench_of c.args.first.now in
    let steps : into_iter_items at.lane-iterator ≡ x ∷ into_iter_items c.next.new.self = c.in-Some.ensures.steps.0 in
    record {
      left = append_assoc at.yielded (x ∷ []) _ ∙ rw (← steps) at.invariant.left;
      number = (let was = at.invariant.number in let gone = c.in-Some.ensures.steps.1 in let short = ap length steps in omega arith);
      processors = rw c.in-Ok-push.ensures.items (ap (λ (zs : List LpState). zs ++ x.processor ∷ []) at.invariant.processors ∙ sym (map_push (λ a. a.processor) at.yielded x));
      first =
          c.join.ensures
          ∙ (ap (λ (z : BenchSeen). has_taken_in z (bench_of x.bench)) at.invariant.first
          ∙ (sym (with-all-more b (benches_of at.yielded) (bench_of x.bench)) ∙ ap (with_all b) (sym (map_push (λ a. bench_of a.bench) at.yielded x))));
    }

pub join-requires-clause-table : goal.join-requires-clause-table
join-requires-clause-table c =
    let at = c.loop-lane in
    let x = c.in-Some.lane in
    let b = bench_of c.args.first.now in
    let left = ap (λ (zs : List (Lane LpState)). at.yielded ++ zs) (sym c.in-Some.ensures.steps.0) ∙ (at.invariant.left ∙ c.into_iter-lane-iterator.ensures.into_iter_gives.0) in
    let is = bench-here (IsOther b) at.yielded (into_iter_items c.next.new.self) c.args.lanes.items x left c.requires.others in
    is.0 ∙ sym (ap (λ (z : BenchSeen). z.pass.table) at.invariant.first ∙ with-all-table b (benches_of at.yielded))

pub join-requires-clause-first : goal.join-requires-clause-first
join-requires-clause-first c =
    ap (λ (z : BenchSeen). z.pass.first) c.loop-lane.invariant.first ∙ (with-all-first (bench_of c.args.first.now) (benches_of c.loop-lane.yielded) ∙ c.requires.first)

pub join-requires-clause-other : goal.join-requires-clause-other
join-requires-clause-other c =
    let at = c.loop-lane in
    let x = c.in-Some.lane in
    let left = ap (λ (zs : List (Lane LpState)). at.yielded ++ zs) (sym c.in-Some.ensures.steps.0) ∙ (at.invariant.left ∙ c.into_iter-lane-iterator.ensures.into_iter_gives.0) in
    (bench-here (IsOther (bench_of c.args.first.now)) at.yielded (into_iter_items c.next.new.self) c.args.lanes.items x left c.requires.others).1

-- one field is told apart, so that each of the others is sought by itself
pub invariant_of-t-32-clause-machine : goal.invariant_of-t-32-clause-machine
invariant_of-t-32-clause-machine c = search rules
