use Rattle.flat_core.proofs.Counts.{calls_have_their_events}
use Rattle.flat_core.proofs.Ends.{timely_run_out, runs_out, runs_end, entries_bounded}
use Rattle.flat_core.proofs.Entries.{entries_have_their_events}
use Rattle.flat_core.proofs.Tries.{rows_try_lists, row_tries, rows_try_the_same}
use Rattle.flat_core.proofs.Replies.{replies_one_by_one, replies_kept, replies_to_lines, every_line_answered}
use Rattle.flat_core.proofs.laws.end_laws.Goals as goal

pub returns-clause-lists : goal.returns-clause-lists
returns-clause-lists c = rows_try_lists

pub returns-clause-tries : goal.returns-clause-tries
returns-clause-tries c = row_tries

pub returns-clause-timely : goal.returns-clause-timely
returns-clause-timely c = timely_run_out

pub returns-clause-runs_out : goal.returns-clause-runs_out
returns-clause-runs_out c = runs_out

pub returns-clause-runs_end : goal.returns-clause-runs_end
returns-clause-runs_end c = runs_end

pub returns-clause-bounded : goal.returns-clause-bounded
returns-clause-bounded c = entries_bounded

pub returns-clause-same_tries : goal.returns-clause-same_tries
returns-clause-same_tries c = rows_try_the_same

pub returns-clause-events : goal.returns-clause-events
returns-clause-events c = calls_have_their_events

pub returns-clause-entries : goal.returns-clause-entries
returns-clause-entries c = entries_have_their_events

pub returns-clause-one_reply : goal.returns-clause-one_reply
returns-clause-one_reply c = replies_one_by_one

pub returns-clause-few_kept : goal.returns-clause-few_kept
returns-clause-few_kept c = replies_kept

pub returns-clause-no_more : goal.returns-clause-no_more
returns-clause-no_more c = replies_to_lines

pub returns-clause-every_line : goal.returns-clause-every_line
returns-clause-every_line c = every_line_answered
