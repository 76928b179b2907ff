use Rattle.std.proofs.Common.{◌≡◌, ◌∙◌, Option, ap, sym}
use Rattle.flat_core.specs.Opening.{Incoming}
use Rattle.leaf_table.specs.Given.{given_in}
use Rattle.leaf_table.specs.Leaves.{seen_with}
use Rattle.leaf_table.specs.Origins.{slot_in, bundle_in, bundle_at, bundle_for}
use Rattle.leaf_table.proofs.Inputs.{own-seen, bundle-is}
use Rattle.leaf_table.proofs.leaves.AnyLeaf.with_input_of.Goals as goal

has-its : (c : goal.After-with_input) → bundle_in c.with_input.result ≡ bundle_for (given_in c.args.given) c.args.self
has-its c =
    bundle-is (given_in c.args.given) (slot_in c.args.self) c.bundle_at-input.result (bundle_in c.with_input.result) c.with_input.ensures.input c.with_input.ensures.none
    (c.bundle_at-input.ensures ∙ ap (bundle_at (given_in c.args.given)) c.slot.ensures)

pub returns-clause-seen : goal.returns-clause-seen
returns-clause-seen c =
    let r = c.with_input.result in
    sym (own-seen r) ∙ c.with_input.ensures.seen (bundle_in r) ∙ ap (λ (b : Option Incoming). seen_with b c.args.self) (has-its c)

pub returns-clause-takes : goal.returns-clause-takes
returns-clause-takes c = has-its c ∙ ap (bundle_at (given_in c.args.given)) (sym c.with_input.ensures.slot)
