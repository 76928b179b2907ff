use Rattle.std.proofs.Common.{◌≡◌, ℕ, true, ap, sym, ◌∙◌}
use Rattle.td_words.specs.Packing.{Entry}
use Rattle.td_words.specs.declared.refusals.Status.TheVariants.{EptWalkFailed}
use Rattle.sept_walk.specs.SecureEpt.{is_mapped_on}
use Rattle.leaf_engine.specs.Trees.{Tree, needs, feed}
use Rattle.leaf_parts.proofs.Parts.{goes-off, feed-passes, exit}
use Rattle.sept_parts.specs.SeptTrees.{entry_tree}
use Rattle.sept_parts.proofs.finds.below.Goals as goal

pub returns-in_err-upper-clause-goes : goal.returns-in_err-upper-clause-goes
returns-in_err-upper-clause-goes c =
    goes-off c.args.place.machine.pages (λ (f : Entry → Tree). entry_tree c.args.place.machine.pages c.args.page c.args.gpa c.args.level f)
    (λ (e : Entry) (f : ℕ → Tree). needs (is_mapped_on e) (EptWalkFailed c.args.level) (f e.page))
    c.args.told.now.left.now c.entry.new.told.left.now c.entry.new.told.left.now c.in_err-upper.field-0.0 c.from_residual.result
    (exit c.from_residual.result c.in_err-upper.field-0.0 _ c.from_residual.ensures.1 (λ y h. h)) c.in_err-upper.ensures.goes

pub returns-clause-feeds : goal.returns-clause-feeds
returns-clause-feeds c = λ further.
    let e : Entry = record { state = c.upper.inside.state; page = c.upper.inside.page; mark = c.upper.inside.mark } in
    let is : c.in_ok-upper.upper ≡ e = cc in
    let on : is_mapped_on c.in_ok-upper.upper ≡ true = sym c.is_mapped_on.ensures ∙ c.in_ok-check.ensures in
    let f : feed (entry_tree c.args.place.machine.pages c.args.page c.args.gpa c.args.level (λ x. needs (is_mapped_on x) (EptWalkFailed c.args.level) (further x.page))) c.args.told.now.left.now
    ≡ feed (needs (is_mapped_on c.in_ok-upper.upper) (EptWalkFailed c.args.level) (further c.in_ok-upper.upper.page)) c.entry.new.told.left.now
    = c.in_ok-upper.ensures.feeds (λ x. needs (is_mapped_on x) (EptWalkFailed c.args.level) (further x.page)) in
    f ∙ (feed-passes (is_mapped_on c.in_ok-upper.upper) (EptWalkFailed c.args.level) (further c.in_ok-upper.upper.page) c.entry.new.told.left.now on
    ∙ ap (λ (x : Entry). feed (further x.page) c.entry.new.told.left.now) is)
