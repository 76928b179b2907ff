use Rattle.std.proofs.Common.{rules, ◌≡◌, ◌++◌, ◌∷◌, [], List, length, length-append, ap, sym, ◌∙◌, append_assoc, arith}
use Rattle.std.specs.Vec.Iter.{into_iter_items}
use Rattle.std.proofs.lemmas.List.{map_push, length-map}
use Rattle.std.proofs.lemmas.List.Elements.{All-push}
use Rattle.trace_table.specs.Benches.{bench_of, new_bench}
use Rattle.leaf_dispatch.specs.declared.states.LpState.{LpState}
use Rattle.run_texts.proofs.Lanes.{in-place-more, out-more}
use Rattle.run_texts.proofs.threads.lanes_at.Goals as goal

pub loop-processor-preserved : goal.loop-processor-preserved
loop-processor-preserved c =
    let at = c.loop-processor in
    let x = c.in-Some.processor in
    let steps : into_iter_items at.processor-iterator ≡ x ∷ into_iter_items c.next.new.self = c.in-Some.ensures.steps.0 in
    let whole = ap length (ap (λ (zs : List LpState). at.yielded ++ zs) (sym steps) ∙ (at.invariant.left ∙ c.into_iter-processor-iterator.ensures.into_iter_gives.0)) in
    let count = ap length at.invariant.processors in
    record {
      left = append_assoc at.yielded (x ∷ []) _ ∙ rw (← steps) at.invariant.left;
      number = (let was = at.invariant.number in let gone = c.in-Some.ensures.steps.1 in let short = ap length steps in omega arith);
      processors = rw c.in-Ok-push.ensures.items (map_push (λ a. a.processor) at.lanes.items _ ∙ ap (λ (zs : List LpState). zs ++ x ∷ []) at.invariant.processors);
      numbers = rw c.in-Ok-push.ensures.items (in-place-more 0 at.lanes.items _ at.invariant.numbers (omega (arith, c.len.ensures, count, length-map at.lanes.items (λ a. a.processor), whole, length-append at.yielded (x ∷ into_iter_items c.next.new.self), c.requires.few)));
      benches = rw c.in-Ok-push.ensures.items (All-push (λ a. bench_of a.bench ≡ new_bench (bench_of c.args.first.now)) at.lanes.items _ at.invariant.benches (c.split.ensures.new ∙ ap new_bench at.invariant.first));
      first = out-more _ _ _ at.yielded x at.invariant.first c.split.ensures.out;
    }

-- one field is told apart, so that each of the others is sought by itself
pub invariant_of-t-35-clause-machine : goal.invariant_of-t-35-clause-machine
invariant_of-t-35-clause-machine c = search rules
