use Rattle.std.proofs.Common.{rules, ◌≡◌, ◌∙◌, ◌++◌, ℕ, List, length, ap, arith}
use Rattle.std.proofs.lemmas.List.{take_at}
use Rattle.flat_core.specs.World.{Made}
use Rattle.flat_core.specs.Opening.{clear_header}
use Rattle.bundle_texts.specs.Sealed.{sealed_bytes}
use Rattle.bundle_texts.proofs.Sealing.{parts_sealed, parts_long, few_bytes}
use Rattle.bundle_texts.proofs.seals.sealed_bytes.Goals as goal

pub seal_in_place-tag-requires-clause-text : goal.seal_in_place-tag-requires-clause-text
seal_in_place-tag-requires-clause-text c =
    let words = ap (λ (m : Made). m.payload) c.bundle.view_is in
    let few = few_bytes c.deref_mut.result.now c.bundle.inside.payload.now (c.deref_mut.ensures.value ∙ c.in_ok-payload.ensures) (omega (arith, ap length words, c.requires)) in
    omega (arith, few)

-- the sealed text stands in the list that it was lent from
text_back : (c : goal.After-drop-payload-2) → c.deref.result.now ≡ c.seal_in_place-tag.new.text
text_back c =
    let long : length c.seal_in_place-tag.new.text ≡ c.in_ok-payload.payload.len =
    omega (arith, c.seal_in_place-tag.auto.text, ap length c.deref_mut.ensures.value, c.in_ok-payload.payload.ok) in
    c.deref.ensures.value ∙ take_at c.seal_in_place-tag.new.text _ c.in_ok-payload.payload.len long

head_first : (c : goal.After-drop-payload-2) → c.extend_from_slice.new.self.items ≡ c.head-head.result
head_first c = c.in_ok-extend_from_slice.ensures.items ∙ ap (λ (l : List ℕ). l ++ c.head-head.result) c.new-out.ensures.items

text_last : (c : goal.After-drop-payload-2) → c.extend_from_slice-3.new.self.items ≡ c.extend_from_slice-2.new.self.items ++ c.seal_in_place-tag.new.text
text_last c = c.in_ok-extend_from_slice-3.ensures.items ∙ ap (λ (l : List ℕ). c.extend_from_slice-2.new.self.items ++ l) (text_back c)

pub returns-clause-sealed : goal.returns-clause-sealed
returns-clause-sealed c forward backward are =
    let made : Made = record { slot = c.bundle.inside.slot; header = clear_header c.bundle.inside.header; payload = c.bundle.inside.payload.now } in
    let key = c.key_of-key.ensures forward backward are in
    let payload = c.deref_mut.ensures.value ∙ c.in_ok-payload.ensures in
    parts_sealed forward backward made c.iv_of-iv.result c.head-head.result c.deref_mut.result.now c.seal_in_place-tag.new.text c.seal_in_place-tag.result
    c.extend_from_slice.new.self.items c.extend_from_slice-2.new.self.items c.extend_from_slice-3.new.self.items
    c.iv_of-iv.ensures c.head-head.ensures payload (c.seal_in_place-tag.ensures.sealed _ key) (c.seal_in_place-tag.ensures.tag _ key)
    (head_first c) c.in_ok-extend_from_slice-2.ensures.items (text_last c)
    ∙ ap (sealed_bytes forward backward) c.bundle.view_is

pub returns-clause-size : goal.returns-clause-size
returns-clause-size c =
    let tag : length c.seal_in_place-tag.result ≡ 16 = search rules in
    let words = ap (λ (m : Made). m.payload) c.bundle.view_is in
    let few = few_bytes c.deref_mut.result.now c.bundle.inside.payload.now (c.deref_mut.ensures.value ∙ c.in_ok-payload.ensures) (omega (arith, ap length words, c.requires)) in
    parts_long c.head-head.result c.seal_in_place-tag.result c.seal_in_place-tag.new.text
    c.extend_from_slice.new.self.items c.extend_from_slice-2.new.self.items c.extend_from_slice-3.new.self.items
    (ap length c.head-head.ensures) tag (omega (arith, few, c.seal_in_place-tag.auto.text))
    (head_first c) c.in_ok-extend_from_slice-2.ensures.items (text_last c)
