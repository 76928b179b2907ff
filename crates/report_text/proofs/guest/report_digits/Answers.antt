use Rattle.std.proofs.Common.{◌∷◌, [], ◌++◌, ap, ◌∙◌}
use Rattle.report_text.proofs.Digits.{same_digits}
use Rattle.report_text.proofs.guest.report_digits.Goals as goal

pub returns : goal.returns
returns c = ap (λ digits. digits ++ 10 ∷ []) (c.in-Ok.ensures.written ∙ same_digits c.args.report.now c.fits-report)
