use Rattle.std.proofs.Common.{string_bytes}
use Rattle.state_lines.specs.WordText.{page_read}
use Rattle.state_lines.proofs.Texts.{one-more}
use Rattle.state_lines.proofs.pages.push_pages.Goals as goal

pub loop-page-preserved : goal.loop-page-preserved
loop-page-preserved c = one-more (page_read c.args.form c.args.words.now) c.loop-page.page (string_bytes c.args.text.now) _ _ c.loop-page.invariant c.in_ok-push_read.ensures
