-- What a translation that may be used names, of a state in which no stale one is used.
use Rattle.std.proofs.Common.{◌≡◌, refl, sym, ◌∙◌, ap, subst, ℕ, true, false}
use Rattle.td_words.specs.declared.names.PageKind.{PageKind}
use Rattle.td_words.specs.declared.names.PageKind.TheVariants as kind
use Rattle.td_words.specs.declared.machines.Machine.{Machine}
use Rattle.flat_core.specs.Processor.{Translation}
use Rattle.flat_core.specs.Opening.{Opening}
use Rattle.flat_core.specs.Conditions.{is_host_in, same_kind}
use Rattle.flat_core.specs.Lawful.{Lawful, IsAlive, IsPageOf, IsNodeOf}
use Rattle.flat_core.specs.Event.{State}
use Rattle.flat_core.specs.Laws.{reached}
use Rattle.flat_core.specs.Access.{entry_of, IsCurrent, AccessHolds}
use Rattle.flat_core.specs.AccessLaw.{IsGuarded, IsOwnPage}
use Rattle.flat_core.proofs.Always.{always_guarded}
use Rattle.flat_laws.specs.Usable.{MayUse, NamesItsOwn, UsableNameTheirOwn, IsUnnamed, HostPagesAreUnnamed, OwnersAloneUse}

module _ (m : Machine) (s : State) (la : Lawful m s.world) (access : AccessHolds s) (p : ℕ) (c : Translation) (u : MayUse s p c) where
  pub current : IsCurrent s.world c u.epoch
  current = (access.each p).usable c u.epoch u.cached u.usable

  pub alive : IsAlive s.world.pages s.world.tds c.tdr
  alive = (let h = (access.each p).associated c u.cached in record { kind = h.1.tdr; life = rw (h.1.life) refl })

  -- the entry of its GPA page names a private page of its TD, of which that is the node
  pub node : IsNodeOf s.world.pages c.tdr (entry_of s.world c).page kind.Reg 0 c.gpa_page
  node = (la.tree.lowest c.tdr c.gpa_page alive current.named.used).1

  pub own : IsOwnPage s.world c.tdr c.gpa_page c.page
  own = record {
    private = subst (λ (q : ℕ). IsPageOf s.world.pages c.tdr q kind.Reg) current.named.page_is (record { kind = node.page.kind; owner = node.page.owner });
    named = record { used = current.named.used; page_is = current.named.page_is };
  }

pub names-its-own : (m : Machine) (s : State) → Lawful m s.world → AccessHolds s → NamesItsOwn s
names-its-own m s la access p c u = own m s la access p c u

pub host-unnamed : (s : State) → NamesItsOwn s → (page : ℕ) → is_host_in s.world.pages page ≡ true → IsUnnamed s page
host-unnamed s names page host p c u is =
    let private : s.world.pages.kinds page ≡ kind.Reg = ap s.world.pages.kinds (sym is) ∙ (names p c u).private.kind in
    let no : true ≡ false = sym host ∙ ap (λ (k : PageKind). same_kind k kind.Nda) private in cc

pub guarded-names : (o : Opening) (s : State) → IsGuarded o s → NamesItsOwn s
guarded-names o s all = names-its-own o.machine s all.timely.lawful all.access

pub usable-name-their-own : UsableNameTheirOwn
usable-name-their-own o ws schedule = guarded-names o (reached o ws schedule) (always_guarded o ws schedule)

pub host-pages-are-unnamed : HostPagesAreUnnamed
host-pages-are-unnamed o ws schedule = host-unnamed (reached o ws schedule) (usable-name-their-own o ws schedule)

pub owners-alone-use : OwnersAloneUse
owners-alone-use o ws schedule p c u = sym (usable-name-their-own o ws schedule p c u).private.owner
