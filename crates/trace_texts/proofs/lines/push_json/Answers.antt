use Rattle.std.proofs.Common.{◌∙◌}
use Rattle.trace_texts.specs.Lines.{first_members, last_members}
use Rattle.trace_texts.proofs.Parts.{three-parts}
use Rattle.trace_texts.proofs.lines.push_json.Goals as goal

pub returns : goal.returns
returns c =
    three-parts c.extend_from_slice-3.result c.args.text.now.items _ _ _ _ (first_members c.args.call.number c.args.traced.now) c.args.call.name.now _ (last_members c.args.traced.now) c.in_ok-extend_from_slice.ensures.items (c.as_bytes.ensures.value ∙ c.in_ok-first.ensures) c.in_ok-extend_from_slice-2.ensures.items
    (c.as_bytes-2.ensures.value ∙ c.in_ok-last.ensures) c.extend_from_slice-3.ensures.items
