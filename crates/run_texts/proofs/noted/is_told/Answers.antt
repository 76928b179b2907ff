use Rattle.std.proofs.Common.{rules}
use Rattle.run_texts.proofs.Notes.{digest-told, report-told}
use Rattle.run_texts.proofs.noted.is_told.Goals as goal

pub returns-in-Rtmr : goal.returns-in-Rtmr
returns-in-Rtmr c = digest-told c.args.key.now c.args.reports.now c.args.lp c.args.note.now c.in-Rtmr.line c.in-Rtmr.index c.in-Rtmr.digest c.in-Rtmr.is (search rules) c.are_bytes.ensures

pub returns-in-Report : goal.returns-in-Report
returns-in-Report c = report-told c.args.key.now c.args.reports.now c.args.lp c.args.note.now c.in-Report.line c.in-Report.place c.in-Report.is c.requires
