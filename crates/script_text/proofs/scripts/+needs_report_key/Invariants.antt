use Rattle.std.proofs.Common.{length}
use Rattle.script_text.proofs.scripts.+needs_report_key.Given as goal

abbrev pub decreases-needs_report_key : goal.decreases-needs_report_key
decreases-needs_report_key l = length l.codes.now
