-- MEM.PAGE.RELOCATE moves a page, whatever guests and other processors do.
use Rattle.std.proofs.Common.{◌≡◌, refl, sym, ◌∙◌, ap, subst, ℕ, Option, Some, true, false}
use Rattle.td_words.specs.declared.calls.Call.TheVariants as call
use Rattle.td_words.specs.declared.names.PageKind.{PageKind}
use Rattle.td_words.specs.declared.names.PageKind.TheVariants as kind
use Rattle.flat_core.specs.World.{World}
use Rattle.flat_core.specs.Opening.{Opening}
use Rattle.flat_core.specs.Row.{Row, Succeeds, Passes}
use Rattle.flat_core.specs.Conditions.{same_kind, is_host_in}
use Rattle.flat_core.specs.Tree.{number_at, entry_at}
use Rattle.flat_core.specs.Table.{row_of}
use Rattle.flat_core.specs.MemRows.{move_page}
use Rattle.flat_core.specs.Event.{State, Event, OfCall, next_event, after_event, event}
use Rattle.flat_core.specs.Laws.{reached, ArePagesKnown}
use Rattle.flat_core.specs.Access.{Names}
use Rattle.flat_core.specs.AccessLaw.{IsGuarded}
use Rattle.flat_core.proofs.Tests.{same_self}
use Rattle.flat_core.proofs.Ranges.{unblock_restates, removed_blocked}
use Rattle.flat_core.proofs.Passed.{relocate_passed}
use Rattle.flat_core.proofs.ShapeOf.{shape_of}
use Rattle.flat_core.proofs.Known.{act_known}
use Rattle.flat_core.proofs.Owned.{are_owned}
use Rattle.flat_core.proofs.Always.{always_guarded, access_kept}
use Rattle.flat_core.proofs.Memories.{guests_know}
use Rattle.flat_laws.specs.Usable.{IsEmptied}
use Rattle.flat_laws.specs.Relocated.{HasMoved, RelocationsMovePages}
use Rattle.flat_laws.proofs.Usable.{guarded-names, host-unnamed}
use Rattle.flat_laws.proofs.GivenBack.{act-of, emptied}

module _ (o : Opening) (s : State) (p t gpa page : ℕ) (all : IsGuarded o s) (known : ArePagesKnown s.world) (is : next_event o s p ≡ Some (OfCall (row_of o p (call.MemPageRelocate t gpa page)) Succeeds)) where
  abbrev w : World
  w = s.world

  abbrev left : ℕ
  left = (entry_at s.world t 0 gpa).page

  passes : Passes ((row_of o p (call.MemPageRelocate t gpa page)).items w)
  passes =
      let act = act-of o s p _ is refl in
      let same : row_of o p act.0 ≡ row_of o p (call.MemPageRelocate t gpa page) = (let both = sym act.1.is ∙ is in cc) in
      subst (λ (x : Row). Passes (x.items w)) same act.1.passes

  becomes : (event o s p).world ≡ move_page t (number_at 0 gpa) page w
  becomes = ap (λ (x : Option Event). (after_event p s x).world) is

  then-guarded : IsGuarded o (event o s p)
  then-guarded = access_kept.event o o.bundles s p all

  is-emptied : IsEmptied (event o s p).world left
  is-emptied = subst (λ (z : World). IsEmptied z left) (sym becomes) (emptied o p left w (call.MemPageRelocate t gpa page) passes (same_self left))

  host : is_host_in (event o s p).world.pages left ≡ true
  host = ap (λ (k : PageKind). same_kind k kind.Nda) is-emptied.kind

  is-named : Names ((move_page t (number_at 0 gpa) page w).tds.entries t 0 (number_at 0 gpa)) page
  is-named =
      let a = same_self t in let b = same_self (number_at 0 gpa) in
      let state = (relocate_passed o.machine w t gpa page passes).named.state in
      let used = (unblock_restates (entry_at w t 0 gpa).state (removed_blocked (entry_at w t 0 gpa).state state).0).still_used in
      record { used = rw (a, b) used; page_is = rw (a, b) refl }

  pub has-moved : HasMoved s (event o s p) t gpa page
  has-moved = record {
    memory = λ u n. ap (λ (z : World). z.hidden.memories u n) becomes;
    known = subst ArePagesKnown (sym becomes) (act_known p (call.MemPageRelocate t gpa page) o.machine w (move_page t (number_at 0 gpa) page w) all.timely.lawful known (shape_of o p (call.MemPageRelocate t gpa page) w passes));
    named = subst (λ (z : World). Names (z.tds.entries t 0 (number_at 0 gpa)) page) (sym becomes) is-named;
    words = λ i. ap (λ (z : World). z.words page i) becomes ∙ (let a = same_self page in rw a refl);
    emptied = is-emptied;
    unmapped = λ u l n alive used e. (let own = ((are_owned o.machine (event o s p).world then-guarded.timely.lawful).own u l n alive used).0 in
        let no : true ≡ false = sym host ∙ (ap (is_host_in (event o s p).world.pages) (sym e) ∙ own) in cc);
    unnamed = host-unnamed (event o s p) (guarded-names o (event o s p) then-guarded) left host;
  }

pub relocations-move-pages : RelocationsMovePages
relocations-move-pages o ws schedule p t gpa page is =
    has-moved o (reached o ws schedule) p t gpa page (always_guarded o ws schedule) (guests_know o ws schedule) is
