use Rattle.std.proofs.Common.{◌∙◌, ap}
use Rattle.td_words.specs.Seen.{BundleSeen}
use Rattle.bundle_format.specs.Headers.{bundle_in}
use Rattle.bundle_lines.specs.BundleLines.{read_text, slot_text}
use Rattle.bundle_lines.proofs.Parts.{two-parts}
use Rattle.bundle_lines.proofs.lines.push_bundle.Goals as goal

pub returns : goal.returns
returns c =
    two-parts c.push_read.result _ _ _ (slot_text c.args.bundle.now) _ _ c.in_ok-push_slot.ensures
    (ap read_text (c.read_bundle.ensures ∙ ap bundle_in (c.deref.ensures.value ∙ ap (λ (b : BundleSeen). b.bytes) c.bundle.view_is))) c.push_read.ensures
