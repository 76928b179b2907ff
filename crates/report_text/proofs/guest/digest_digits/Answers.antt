use Rattle.std.proofs.Common.{◌∙◌}
use Rattle.report_text.proofs.Digits.{same_digits}
use Rattle.report_text.proofs.guest.digest_digits.Goals as goal

pub returns : goal.returns
returns c = c.in_ok-text.ensures ∙ same_digits c.args.digest.now c.fits-digest
