use Rattle.line_words.specs.Words.{words}
use Rattle.script_text.specs.Reading.{draft_seen}
use Rattle.script_text.proofs.CallLines.{call_taken}
use Rattle.script_text.proofs.drafts.take_other.Goals as goal

pub returns-in-Some-short_access : goal.returns-in-Some-short_access
returns-in-Some-short_access c =
    let opens = c.in-Some.ensures in
    rw (call_taken (draft_seen c.args.draft.now) c.in-Some.lp (words c.args.text.now) c.in-Some-short_access.call opens.0 opens.1 (c.in-Some-short_access.ensures c.in-Some.lp))
    c.take_call.ensures
