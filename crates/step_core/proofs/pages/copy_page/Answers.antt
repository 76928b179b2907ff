use Rattle.std.proofs.Common.{rules, ◌≡◌, ◌+◌, ◌*◌, [], ◌∷◌, ◌++◌, length, arith}
use Rattle.std.proofs.lemmas.List.{length_push}
use Rattle.step_core.proofs.Paging.{copying_word}
use Rattle.step_core.proofs.pages.copy_page.Goals as goal

pub loop-one-preserved : goal.loop-one-preserved
loop-one-preserved g c =
    let index = 8 * c.loop-eight.eight + c.loop-one.one in
    let zero_answer : c.perform.result ≡ 0 = c.perform.ensures.store in
    let load = rw c.word_address.ensures at c.perform-seen.ensures.did in
    let store = rw (c.word_address-in-loop-one.ensures, zero_answer) at c.perform.ensures.did in
    let pair = g.met.B.Bench.did_more _ _ _ _ _ load store in
    record {
      machine = search rules;
      did = λ b before.
          let copied = c.loop-one.invariant.did b before in
          let words = copied.0 in
          let count : length words ≡ index = copied.1 in
          let long = length_push words c.perform-seen.result in
          let next : length (words ++ c.perform-seen.result ∷ []) ≡ 8 * c.loop-eight.eight + (c.loop-one.one + 1) = omega (arith, count, long) in
          (words ++ c.perform-seen.result ∷ [], next, rw (copying_word c.args.from c.args.to index words c.perform-seen.result count) (g.met.B.Bench.did_more _ _ _ _ _ copied.2 pair));
    }

pub loop-eight-preserved : goal.loop-eight-preserved
loop-eight-preserved g c =
    let next : 8 * c.loop-eight.eight + c.loop-one.one ≡ 8 * (c.loop-eight.eight + 1) = omega (arith, c.loop-one-test.false, c.loop-one.auto) in
    record {
      machine = search rules;
      did = rw next at (c.loop-one.invariant.did _ c.loop-eight.invariant.did);
    }
