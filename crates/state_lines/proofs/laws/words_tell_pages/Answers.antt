use Rattle.state_lines.proofs.Shown.{page-told, owner-told}
use Rattle.state_lines.proofs.Texts.{same-texts}
use Rattle.state_lines.proofs.laws.words_tell_pages.Goals as goal

pub returns : goal.returns
returns c = record {
  pages = λ f m words s limits lawful shown. same-texts _ _ m.pages (λ p less. page-told c.packings_undone.ensures m words s limits lawful shown f p less);
  owner = λ m words s p limits lawful shown less. owner-told c.packings_undone.ensures m words s limits lawful shown p less;
}
