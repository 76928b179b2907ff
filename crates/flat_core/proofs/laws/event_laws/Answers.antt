use Rattle.flat_core.proofs.Kept.{others_stay, quiet_stay, no_words_to_tell}
use Rattle.flat_core.proofs.Refused.{refused_stay}
use Rattle.flat_core.proofs.RefusedKeep.{quiet_calls_keep, refusals_leave_their_reply}
use Rattle.flat_core.proofs.laws.event_laws.Goals as goal

pub returns-clause-others : goal.returns-clause-others
returns-clause-others c = others_stay

pub returns-clause-quiet : goal.returns-clause-quiet
returns-clause-quiet c = quiet_stay

pub returns-clause-refused : goal.returns-clause-refused
returns-clause-refused c = refused_stay

pub returns-clause-own_words : goal.returns-clause-own_words
returns-clause-own_words c = no_words_to_tell

pub returns-clause-kept : goal.returns-clause-kept
returns-clause-kept c = quiet_calls_keep

pub returns-clause-left : goal.returns-clause-left
returns-clause-left c = refusals_leave_their_reply
