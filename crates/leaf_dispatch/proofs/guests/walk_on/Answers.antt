use Rattle.std.proofs.Common.{◌≡◌, ◌∙◌, sym, ap}
use Rattle.td_words.specs.declared.replies.Value.TheVariants as value
use Rattle.td_words.specs.declared.replies.Reply.TheVariants.{Done}
use Rattle.leaf_dispatch.specs.Guests.{guest_seen}
use Rattle.leaf_dispatch.proofs.Stepping.{not-loaded}
use Rattle.leaf_dispatch.proofs.guests.walk_on.Goals as goal

pub returns-else-is_right-clause-seen : goal.returns-else-is_right-clause-seen
returns-else-is_right-clause-seen c =
    let e : c.args.reply ≡ Done (value.Number c.in-Number.rights) = c.in-Done.is ∙ ap Done c.in-Number.is in
    λ run. c.leave_with.ensures.seen run ∙ sym (not-loaded c.args.access c.args.gpa c.args.level c.in-Number.rights c.args.reply (guest_seen c.args.guest run) e (sym c.is_right.ensures ∙ c.if-is_right.false))

pub returns-else-is_right-2-clause-seen : goal.returns-else-is_right-2-clause-seen
returns-else-is_right-2-clause-seen c =
    let e : c.args.reply ≡ Done (value.Number c.in-Number.rights) = c.in-Done.is ∙ ap Done c.in-Number.is in
    λ run. c.leave_with-else-is_right-2.ensures.seen run
    ∙ sym (not-loaded c.args.access c.args.gpa c.args.level c.in-Number.rights c.args.reply (guest_seen c.args.guest run) e (sym c.is_right-in_default-level.ensures ∙ c.if-is_right-2.false))
