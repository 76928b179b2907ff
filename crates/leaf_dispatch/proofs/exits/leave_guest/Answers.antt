use Rattle.std.proofs.Common.{◌≡◌, ◌∙◌, ℕ, ◌+◌, ◌%◌, arith}
use Rattle.td_words.specs.Address.{word_at}
use Rattle.td_words.specs.declared.places.TheConstants.{TDCS_ENTERED}
use Rattle.leaf_parts.specs.Words.{page_told}
use Rattle.leaf_dispatch.proofs.exits.leave_guest.Goals as goal

pub returns-clause-left : goal.returns-clause-left
returns-clause-left g c =
    let did = g.met.B.Bench.did_more in
    let last : ℕ = c.load-last.result in
    let half : c.count_at-parity.result ≡ last % 2 = (let is = c.count_at-parity.ensures in omega (arith, is)) in
    let at : c.word_address-count.result ≡ word_at (page_told c.args.place.machine.pages c.load-word.result) (TDCS_ENTERED + last % 2) =
    c.word_address-count.ensures ∙ (λ i. word_at (c.page_told-tdcs.ensures i) (TDCS_ENTERED + (c.from.ensures ∙ half) i)) in
    record {
      word = c.load-word.result;
      last = last;
      answer = c.perform.result;
      did_them = did _ _ _ _ _ (rw c.word_address.ensures at c.load-word.ensures.did) (did _ _ _ _ _ (rw c.word_address-2.ensures at c.load-last.ensures.did) (rw at at c.perform.ensures.did));
      parity_is = half;
    }
