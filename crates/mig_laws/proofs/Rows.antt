-- Each act that makes no bundle leaves the TDs that are exported as this crate asks.
use Rattle.std.proofs.Common.{◌≡◌, refl, sym, ◌∙◌, ap, subst, ℕ, List, [], ◌∷◌, None, true, false, ◌==◌}
use Rattle.std.specs.List.{list_any}
use Rattle.std.proofs.lemmas.Bool.{eqb-true, eq-eqb}
use Rattle.td_words.specs.declared.names.PageKind.{PageKind}
use Rattle.td_words.specs.declared.names.PageKind.TheVariants as kind
use Rattle.td_words.specs.declared.names.LifeState.{LifeState}
use Rattle.td_words.specs.declared.names.OpState.{OpState}
use Rattle.td_words.specs.declared.calls.Call.{Call}
use Rattle.td_words.specs.Slots.{output_slot}
use Rattle.flat_core.specs.World.{World, Tds}
use Rattle.flat_core.specs.Opening.{Opening}
use Rattle.flat_core.specs.Row.{Passes}
use Rattle.flat_core.specs.Effects.{take_node, set_op}
use Rattle.flat_core.specs.Table.{row_of}
use Rattle.flat_core.specs.Lawful.{IsAlive, Lawful, ArePagesOf, is_exporting}
use Rattle.flat_core.proofs.Tests.{by_test}
use Rattle.flat_core.proofs.Parts.{IsLive}
use Rattle.mig_laws.proofs.Stays.{IsBeside}
use Rattle.mig_laws.proofs.Changes.{stays, each_goes}
use Rattle.mig_laws.proofs.CallChanges.{over_goes, call-changes, call-keeps}

-- who is alive was so before, where a page was taken
pub taken_back : (w : World) (q : ℕ) (k : PageKind) (t level number : ℕ) → (k ≡ kind.Tdr → ⊥) → (tds : Tds) → tds.lives ≡ w.tds.lives → (x : ℕ) → IsAlive (take_node q k t level number w).pages tds x → IsAlive w.pages w.tds x
taken_back w q k t level number other tds same x a = record {
  kind = by_test (x == q) (λ y. absurd (other (rw y at a.kind))) (λ y. rw y at a.kind);
  life = subst (λ (f : ℕ → LifeState). IsLive (f x)) same a.life;
}

-- pages of one TD aren't another's
pub not_among : (w : World) (x t p : ℕ) (k : PageKind) (ps : List ℕ) → ArePagesOf w.pages x k ps → w.pages.owners p ≡ t → (x == t) ≡ false → list_any (λ q. q == p) ps ≡ false
not_among w x t p k [] h own off = refl
not_among w x t p k (q ∷ qs) h own off = by_test (q == p)
    (λ y. absurd (let same : x ≡ t = sym h.0.owner ∙ (ap w.pages.owners (eqb-true q p y) ∙ own) in let no : true ≡ false = sym (eq-eqb x t same) ∙ off in cc))
    (λ y. rw y (not_among w x t p k qs h.1 own off))

module _ (o : Opening) (me : ℕ) (w : World) (l : Lawful o.machine w) where
  -- an op state comes that is none of an export
  pub over_beside : (t : ℕ) (s : OpState) → is_exporting s ≡ false → IsBeside w (set_op t s w)
  over_beside t s off = record { bundles = refl; last = refl; each = λ x a. stays (over_goes w t s off x a) a }

  pub row-beside : (c : Call) → Passes ((row_of o me c).items w) → output_slot c ≡ None → IsBeside w ((row_of o me c).act w)
  row-beside c ps none =
      let kept = (call-keeps o me w l c).made none in
      record { bundles = kept.0; last = kept.1; each = λ x a. stays (each_goes (call-changes o me w l c ps) none x a) a }
