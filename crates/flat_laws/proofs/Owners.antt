-- Who owns which page, in every state of every run.
use Rattle.std.proofs.Common.{◌∙◌, ap, sym, ℕ}
use Rattle.td_words.specs.declared.names.PageKind.{PageKind}
use Rattle.td_words.specs.declared.machines.Machine.{Machine}
use Rattle.flat_core.specs.World.{World}
use Rattle.flat_core.specs.Lawful.{Lawful, is_named_kind}
use Rattle.flat_core.proofs.EveryWorld.{every_lawful}
use Rattle.flat_core.proofs.Maps.{named_kind, node_named}
use Rattle.flat_core.proofs.Owned.{are_owned}
use Rattle.flat_laws.specs.Owners.{HasItsOwner, EveryPageHasItsOwner}

has-its-owner : (m : Machine) (w : World) → Lawful m w → (page : ℕ) → HasItsOwner w page
has-its-owner m w la page = record {
  named = λ t alive of. (let n = (are_owned m w la).named t page alive of.kind of.owner in (n.0, n.1, record { used = n.2; page_is = n.3 }));
  owned = λ t level number alive at. (let node = node_named m w la t level number alive at.used in record {
    kind = ap (λ (p : ℕ). is_named_kind (w.pages.kinds p)) (sym at.page_is) ∙ (ap (λ (k : PageKind). is_named_kind k) node.page.kind ∙ named_kind level);
    owner = ap w.pages.owners (sym at.page_is) ∙ node.page.owner;
  });
  once = λ t level number u other index a b x y. (are_owned m w la).once t level number u other index a b x.used y.used (x.page_is ∙ sym y.page_is);
}

pub every-page-has-its-owner : EveryPageHasItsOwner
every-page-has-its-owner o ws schedule page = has-its-owner o.machine _ (every_lawful o ws schedule) page
