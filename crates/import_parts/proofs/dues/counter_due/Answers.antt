use Rattle.std.proofs.Common.{◌≡◌, ℕ, ◌-◌, ◌^◌, true, ◌==◌, nat_lt, refl, ap, sym, ◌∙◌}
use Rattle.std.proofs.lemmas.Bool.{eqb-true, and_parts}
use Rattle.td_words.specs.declared.refusals.Status.TheVariants.{BundleCounter}
use Rattle.td_words.specs.Place as place
use Rattle.flat_core.specs.World.{ClearHeader}
use Rattle.flat_core.specs.Opening.{clear_header}
use Rattle.word_rules.specs.Rules.{Whole}
use Rattle.leaf_engine.specs.Trees.{Tree, Load, feed}
use Rattle.leaf_parts.proofs.Parts.{goes-off, feed-passes, exit}
use Rattle.stream_parts.specs.declared.rooms.Room.{Room}
use Rattle.stream_parts.specs.Streams.{page_tree}
use Rattle.import_parts.specs.InputTrees.{is_due, due_tree, counter_due_tree}
use Rattle.import_parts.proofs.dues.counter_due.Goals as goal

abbrev counted : ClearHeader → (page : ℕ) → (Room → Tree) → Tree
counted h page f = Load Whole (place.Word page 0) (λ counter. due_tree h counter (f (record { page = page; counter = counter })))

pub returns-in_err-page-clause-goes : goal.returns-in_err-page-clause-goes
returns-in_err-page-clause-goes c =
    let a = c.args in
    goes-off a.machine.pages (λ (f : ℕ → Tree). page_tree a.machine.pages a.tdcs a.stream f) (counted (clear_header a.header.now)) a.told.now.left.now c.stream_page.new.told.left.now c.stream_page.new.told.left.now c.in_err-page.field-0.0 c.from_residual.result
    (exit c.from_residual.result c.in_err-page.field-0.0 _ c.from_residual.ensures.1 (λ y h. h)) c.in_err-page.ensures.goes

pub returns-clause-feeds : goal.returns-clause-feeds
returns-clause-feeds c = λ further.
    let a = c.args in
    let h : ClearHeader = clear_header a.header.now in
    let page : ℕ = c.in_ok-page.page in
    let counter : ℕ = c.in_ok-counter.counter in
    let due : is_due h counter ≡ true = rw c.is_due.ensures at c.in_ok-check.ensures in
    let same : h.counter ≡ counter = eqb-true h.counter counter (and_parts (h.counter == counter) (nat_lt counter (2 ^ 32 - 1)) due).0 in
    let first : feed (counter_due_tree a.machine.pages a.tdcs a.stream h further) a.told.now.left.now ≡ feed (counted h page further) c.stream_page.new.told.left.now = c.in_ok-page.ensures.feeds (λ p. counted h p further) in
    let second : feed (counted h page further) c.stream_page.new.told.left.now ≡ feed (due_tree h counter (further (record { page = page; counter = counter }))) c.load.new.self.left.now = rw c.in_ok-counter.ensures refl in
    first ∙ (second ∙ (feed-passes (is_due h counter) (BundleCounter counter h.counter) (further (record { page = page; counter = counter })) c.load.new.self.left.now due
    ∙ ap (λ (n : ℕ). feed (further (record { page = page; counter = n })) c.load.new.self.left.now) (sym same)))
