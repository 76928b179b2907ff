use Rattle.std.proofs.Common.{◌≡◌, ◌∙◌, length, ap, sym, arith}
use mathlib.Core.Bool.{false≢true}
use Rattle.std.proofs.lemmas.List.{take_at}
use Rattle.incoming.specs.Opened.{words_in}
use Rattle.incoming.proofs.Opening.{right-tag, wrong-tag, right-words}
use Rattle.incoming.proofs.openings.opened_words.Goals as goal

pub returns-then-open_in_place : goal.returns-then-open_in_place
returns-then-open_in_place c forward backward are =
    let key = c.key_of-key.ensures forward backward are in
    let text = c.deref_mut.ensures.value ∙ c.in_ok-text.ensures in
    let tag = (c.open_in_place.ensures.told _ key).0 c.if-open_in_place.true in
    let right = right-tag forward backward c.args.header.now c.args.sealed.now c.iv_of.result c.head.result c.deref_mut.result.now c.iv_of.ensures c.head.ensures text tag in
    let long : length c.open_in_place.new.text ≡ c.in_ok-text.text.len = omega (arith, c.open_in_place.auto.text, ap length c.deref_mut.ensures.value, c.in_ok-text.text.ok) in
    let back = c.deref.ensures.value ∙ take_at c.open_in_place.new.text _ c.in_ok-text.text.len long ∙ c.open_in_place.ensures.opened _ key c.if-open_in_place.true in (
      right,
      right-words forward backward c.args.header.now c.args.sealed.now c.iv_of.result c.head.result c.deref_mut.result.now c.iv_of.ensures c.head.ensures text
          c.in_ok-words.words.items right (c.in_ok-words.ensures ∙ ap words_in back),
    )

pub returns : goal.returns
returns c forward backward are =
    let key = c.key_of-key.ensures forward backward are in
    let text = c.deref_mut.ensures.value ∙ c.in_ok-text.ensures in
    wrong-tag forward backward c.args.header.now c.args.sealed.now c.iv_of.result c.head.result c.deref_mut.result.now c.iv_of.ensures c.head.ensures text
    (λ tag. false≢true (sym c.if-open_in_place.false ∙ (c.open_in_place.ensures.told _ key).1 tag))
