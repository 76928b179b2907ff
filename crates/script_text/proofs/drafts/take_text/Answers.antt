use Rattle.std.proofs.Common.{sym, ◌∙◌}
use Rattle.line_words.specs.Words.{words}
use Rattle.script_text.specs.Reading.{draft_seen, with_op}
use Rattle.script_text.proofs.Names.{operation_added, added_answer}
use Rattle.script_text.proofs.drafts.take_text.Goals as goal

pub returns-in-Some : goal.returns-in-Some
returns-in-Some c =
    let d = draft_seen c.args.draft.now in
    rw (operation_added d (words c.args.text.now) c.in-Some.op (sym c.is_in_list.ensures ∙ c.if-is_in_list.true) c.in-Some.ensures)
    (added_answer c.args.number d (with_op d.ops c.in-Some.op) c.add_op.new.ops.items c.add_op.result c.add_op.ensures)
