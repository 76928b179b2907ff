-- Who owns what entries name, in a reader's terms.
use Rattle.std.proofs.Common.{◌≡◌, sym, ◌∙◌, ap, subst, ℕ, true, false}
use Rattle.td_words.specs.declared.names.PageKind.{PageKind}
use Rattle.td_words.specs.declared.machines.Machine.{Machine}
use Rattle.flat_core.specs.World.{World}
use Rattle.flat_core.specs.Conditions.{same_kind}
use Rattle.td_words.specs.declared.names.PageKind.TheVariants as kind
use Rattle.flat_core.specs.Lawful.{IsAlive, Lawful, is_free, is_named_kind}
use Rattle.flat_core.specs.Laws.{IsOwned, ArePagesOwned, LawfulPagesAreOwned, OwnersAreKept, EveryPageIsOwned}
use Rattle.flat_core.proofs.EveryWorld.{every_lawful, kept_with}
use Rattle.flat_core.proofs.Maps.{named_owned, node_named}

module _ (m : Machine) (w : World) (lawful : Lawful m w) where
  abbrev NamedBy : (t p : ℕ) → Type 0
  NamedBy t p = (l : ℕ) × (n : ℕ) × (is_free (w.tds.entries t l n).state ≡ false) × ((w.tds.entries t l n).page ≡ p)

  named_by : (p : ℕ) → is_named_kind (w.pages.kinds p) ≡ true → IsAlive w.pages w.tds (w.pages.owners p) → NamedBy (w.pages.owners p) p
  named_by p k a = let e = lawful.tree.named p k a in (w.pages.levels p, w.pages.numbers p, e.0, e.1)

  pub are_owned : IsOwned w.pages w.tds
  are_owned = record {
    own = λ t l n a e. (let o = node_named m w lawful t l n a e in (ap (λ (k : PageKind). same_kind k kind.Nda) o.page.kind ∙ named_owned l, o.page.owner));
    once = λ t l n u k i a b e f same. (let o = node_named m w lawful t l n a e in let p = node_named m w lawful u k i b f in
        (sym o.page.owner ∙ (ap w.pages.owners same ∙ p.page.owner), sym o.level_is ∙ (ap w.pages.levels same ∙ p.level_is), sym o.number_is ∙ (ap w.pages.numbers same ∙ p.number_is)));
    named = λ t p a k e. subst (λ (u : ℕ). IsAlive w.pages w.tds u → NamedBy u p) e (named_by p k) a;
  }

pub lawful_owned : LawfulPagesAreOwned
lawful_owned = are_owned

pub owners_kept : OwnersAreKept
owners_kept = kept_with ArePagesOwned are_owned

pub every_page_owned : EveryPageIsOwned
every_page_owned o ws schedule = are_owned o.machine _ (every_lawful o ws schedule)
