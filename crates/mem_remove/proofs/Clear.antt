-- Where no guest may write to a private page by what stands in the world, the page is clear of writes by others; and its words
-- may be read then.
use Rattle.std.proofs.Common.{◌≡◌, ℕ, ◌<◌, true, false, Some, refl, ap, sym, ◌∙◌, subst}
use Rattle.td_words.specs.declared.names.PageKind.TheVariants as kind
use Rattle.td_words.specs.declared.names.OpState.{OpState}
use Rattle.td_words.specs.declared.machines.Machine.{Machine}
use Rattle.td_words.specs.Place as place
use Rattle.flat_core.specs.World.{World}
use Rattle.flat_core.specs.Processor.{Guest}
use Rattle.flat_core.specs.Lawful.{Lawful, IsAlive, IsPageOf, is_free}
use Rattle.flat_laws.specs.Unreached.{is_unchanged, IsCounted, IsSound}
use Rattle.flat_laws.proofs.Unreached.{closed-is-unreached, closed-is-unchanged}
use Rattle.word_rules.specs.Guards.{Grip, Written}
use Rattle.word_rules.specs.Rules.{GuestWord, Whole, reads}
use Rattle.word_rules.specs.Views.{no_page}
use Rattle.word_rules.specs.Spots.{Spot, spot, runs_in}
use Rattle.word_rules.specs.Permissions.{MayAt, Reads}
use Rattle.lock_words.specs.Grips.{clear_of}
use Rattle.closed_pages.proofs.Clear.{sound-is-clear}
use Rattle.leaf_engine.specs.Facts.{GuestFits, GuestIsIn, Facts}
use Rattle.leaf_engine.specs.Means.{Instant}

module _ (m : Machine) (c : Instant) (la : Lawful m c.state.world) (facts : Facts c.state) where
  abbrev w : World
  w = c.state.world

  counted : (p : ℕ) → p < c.state.lp_count → (g : Guest) → (c.state.lps p).guest ≡ Some g → IsCounted w g.tdr g.vp
  counted p below g is =
      let fits : GuestFits w p (c.state.lps p).call.held g.tdr g.vp = subst (GuestIsIn w p (c.state.lps p).call.held) is (facts.guests p below) in
      record { page = fits.vp_page; epoch = w.vps.lasts g.vp; entered = fits.counted }

  sound : (p : ℕ) → p < c.state.lp_count → IsSound m c.state p
  sound p below = record { lawful = la; access = facts.access; guest = counted p below }

  pub unchanged-is-clear : (t n : ℕ) → IsAlive c.state.world.pages c.state.world.tds t → is_free (c.state.world.tds.entries t 0 n).state ≡ false → is_unchanged c.state.world t n ≡ true
      → clear_of c.state c.me (Written (c.state.world.tds.entries t 0 n).page) ≡ true
  unchanged-is-clear t n alive used unchanged = (sound-is-clear closed-is-unreached closed-is-unchanged m c.state t n sound alive used).writes unchanged c.me

-- the words of a private page while its TD is in an op state
abbrev pub private_spot : (t p : ℕ) → OpState → Spot
private_spot t p o = record { class = GuestWord (runs_in o); td = t; page = p; named = no_page }

pub private-reads : (g : Grip) (w : World) (t p : ℕ) (o : OpState) → IsPageOf w.pages t p kind.Reg → w.tds.ops t ≡ o → MayAt g (private_spot t p o) (λ z. reads z Whole) → (i : ℕ) → Reads g w (place.Word p i) Whole
private-reads g w t p o its is may i = subst (λ (s : Spot). MayAt g s (λ z. reads z Whole)) (sym (here ∙ ap (private_spot t p) is)) may
  where
    here : spot w (place.Word p i) ≡ private_spot t p (w.tds.ops t)
    here = rw (its.kind, its.owner) refl
