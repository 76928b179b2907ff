use Rattle.std.proofs.Common.{rules, ◌≡◌, ℕ, ◌+◌, ◌*◌, ◌<◌, List, take, drop, slice_index, ap, sym, ◌∙◌, arith}
use Rattle.td_words.specs.Address.{word_at}
use Rattle.flat_core.specs.Digests.{six_words}
use Rattle.access_core.specs.RtmrTrees.{extension}
use Rattle.access_core.proofs.Extensions.{six-stored, later-words}
use Rattle.access_core.proofs.rtmrs.RtmrPlan.write.Goals as goal

pub returns-in-0-to-5-clause-hands : goal.returns-in-0-to-5-clause-hands
returns-in-0-to-5-clause-hands c =
    let l = c.args.self.now in
    let k = c.args.number in
    let small : k < 6 = search rules in
    let in_page : c.args.act.page < l.place.machine.pages = search rules in
    let xs : List ℕ = drop 2 c.args.told.now in
    let words : c.extension-words.result ≡ six_words (extension (take 6 xs) (take 6 (drop 6 xs))) = c.extension-words.ensures ∙ ap (λ (zs : List ℕ). six_words (extension (take 6 xs) (take 6 zs))) (sym (later-words c.args.told.now)) in
    let there : c.word_address.result ≡ word_at c.args.act.page (16 + (6 * l.index + k)) = (let at = c.word_address.ensures in let from = c.from.ensures in omega (arith, at, from, small)) in
    rw c.store.ensures
    (six-stored l.place.machine c.args.act.page l.index l.vp c.args.act.count (extension (take 6 xs) (take 6 (drop 6 xs))) c.args._hand.now in_page l.few k c.word_address.result (slice_index c.extension-words.result k)
    small there (ap (λ (ws : List ℕ). slice_index ws k) words))
