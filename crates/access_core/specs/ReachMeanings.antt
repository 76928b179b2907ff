-- The leaf of a guest's access to a private word means that event.
use Rattle.std.proofs.Common.{◌≡◌, ℕ, ◌+◌, ◌<◌, true, false, [], Some, refl, sym, subst, inl, inr, arith}
use Rattle.td_words.specs.declared.names.Access.TheVariants.{Read, Write}
use Rattle.td_words.specs.declared.names.PageKind.TheVariants as kind
use Rattle.td_words.specs.declared.machines.Machine.{Machine}
use Rattle.td_words.specs.Place as place
use Rattle.flat_core.specs.World.{World}
use Rattle.flat_core.specs.Processor.{Guest}
use Rattle.flat_core.specs.Effects.{set_word, set_register, store_memory}
use Rattle.flat_core.specs.Translations.{look_up}
use Rattle.flat_core.specs.Tree.{page_of_gpa, word_of_gpa}
use Rattle.flat_core.specs.Guest.{reach}
use Rattle.flat_core.specs.Lawful.{Lawful, IsPageOf}
use Rattle.word_rules.specs.Rules.{Whole, KeepsNothing}
use Rattle.word_rules.specs.Permissions.{Sees, Writes}
use Rattle.word_rules.specs.Cells.{Shows}
use Rattle.leaf_engine.specs.Facts.{GuestFits}
use Rattle.leaf_engine.specs.Trees.{Load}
use Rattle.leaf_engine.specs.Means.{Instant, Means, Work, work_of, OfAccess, IsInGuest, IsAtOperation, grasp_of}
use Rattle.leaf_parts.proofs.Begun.{page-in}
use Rattle.access_core.specs.OperationTrees.{with_register, loaded}
use Rattle.access_core.specs.VpShows.{register-class, passed-shown, registered-shown}
use Rattle.access_core.specs.GuestWords.{kept-respects, vp-in, vp-owes, position-load, register-load}
use Rattle.access_core.specs.ReachTrees.{private_load_tree, private_stored, private_store_tree, AccessesMean}
use Rattle.access_core.specs.ReachShows.{guest-reaches, private-shown}

module _ (m : Machine) (c : Instant) (t v : ℕ) (g : Guest) (la : Lawful m c.state.world) (sh : Shows m c.memory.words c.memory.slots c.state) (is_in : IsInGuest c t v g) (starts : IsAtOperation c.state.world v) (line r gpa page : ℕ) (few : r < 8)
    (its : IsPageOf c.state.world.pages t page kind.Reg) where
  abbrev w : World
  w = c.state.world

  abbrev i : ℕ
  i = word_of_gpa gpa

  abbrev fits : GuestFits w c.me c.kept t v
  fits = is_in.fits

  inside : v < m.pages
  inside = vp-in m c t v la sh is_in.fits

  in_page : page < m.pages
  in_page = page-in m w t page kind.Reg la its refl

  in_word : i < 512
  in_word = omega arith

  -- a load: the word is what the page holds
  module _ (found : look_up (c.state.lps c.me).cached t (page_of_gpa gpa) Read ≡ Some page) where
    abbrev load_work : Work
    load_work = work_of (OfAccess t v line Read r gpa page)

    word-seen : Sees (grasp_of c []) w (place.Word page i) Whole
    word-seen =
        let reached = guest-reaches t (page_of_gpa gpa) page Read false (λ x e. refl) c v g is_in found in
        rw (its.kind, its.owner, is_in.fits.running) (inl (is_in.fits.tdr_held, (is_in.fits.op_held, (reached, tt))))

    word-told : c.memory.words (place.Word page i) ≡ w.words page i
    word-told = rw its.kind at (sh.word (place.Word page i) (in_page, in_word))

    loaded-end : Means m c load_work [] (loaded v line r gpa (w.vps.positions v) (w.words page i)) []
    loaded-end =
        let x : ℕ = w.words page i in
        let w' : World = reach t v Read r gpa page w in
        let one = registered-shown m c.memory.words c.memory.slots c.state sh t v fits.alive.life fits.vp_page inside r x few in
        let two = passed-shown m _ c.memory.slots (record c.state { world = set_register v r x w }) one t v fits.alive.life (record { kind = fits.vp_page.kind; owner = fits.vp_page.owner }) inside starts in (
          record {
            answers = record { reply_is = refl; cached_is = refl; enters_is = refl; notes_are = refl; tells_are = refl; bundles_are = refl };
            fills_allowed = tt;
            respects = kept-respects (grasp_of c []) w w' refl refl refl refl;
            locks_stay = tt;
            shows = record { word = two.word; hasher = two.hasher };
          },
          (
            ((inside, omega (arith, few)), (KeepsNothing, vp-owes m c t v la sh fits [] w' (8 + r) (record { kind = fits.vp_page.kind; owner = fits.vp_page.owner }) (register-class r few), tt)),
            (((inside, omega arith), (KeepsNothing, vp-owes m c t v la sh fits [] w' 4 (record { kind = fits.vp_page.kind; owner = fits.vp_page.owner }) refl, tt)), tt),
          ),
        )

    pub load-at : Means m c load_work [] (private_load_tree v line r gpa page) []
    load-at = position-load m c t v la sh fits [] load_work (λ at. Load Whole (place.Word page i) (λ x. loaded v line r gpa at x)) [] (
      (in_page, in_word),
      inr (inl (word-seen, refl)),
      subst (λ (x : ℕ). Means m c load_work [] (loaded v line r gpa (w.vps.positions v) x) []) (sym word-told) loaded-end,
    )

  -- a store: the register is stored in the page
  module _ (found : look_up (c.state.lps c.me).cached t (page_of_gpa gpa) Write ≡ Some page) where
    abbrev store_work : Work
    store_work = work_of (OfAccess t v line Write r gpa page)

    word-written : Writes (grasp_of c []) w (place.Word page i) KeepsNothing
    word-written =
        let reached = guest-reaches t (page_of_gpa gpa) page Write false (λ x e. refl) c v g is_in found in
        let writable = guest-reaches t (page_of_gpa gpa) page Write true (λ x e. e) c v g is_in found in
        rw (its.kind, its.owner, is_in.fits.running) (inl (is_in.fits.tdr_held, (is_in.fits.op_held, (reached, (writable, tt)))))

    stored-end : Means m c store_work [] (private_stored v gpa page (w.vps.positions v) (w.hidden.registers v r)) []
    stored-end =
        let x : ℕ = w.hidden.registers v r in
        let w' : World = reach t v Write r gpa page w in
        let one = private-shown m c.memory.words c.memory.slots c.state t (page_of_gpa gpa) page i x in_page sh its.kind in
        let two = passed-shown m _ c.memory.slots (record c.state { world = store_memory t (page_of_gpa gpa) i x (set_word page i x w) }) one t v fits.alive.life (record { kind = fits.vp_page.kind; owner = fits.vp_page.owner }) inside starts in (
          record {
            answers = record { reply_is = refl; cached_is = refl; enters_is = refl; notes_are = refl; tells_are = refl; bundles_are = refl };
            fills_allowed = tt;
            respects = kept-respects (grasp_of c []) w w' refl refl refl refl;
            locks_stay = tt;
            shows = record { word = two.word; hasher = two.hasher };
          },
          (
            ((in_page, in_word), (KeepsNothing, word-written, tt)),
            (((inside, omega arith), (KeepsNothing, vp-owes m c t v la sh fits [] w' 4 (record { kind = fits.vp_page.kind; owner = fits.vp_page.owner }) refl, tt)), tt),
          ),
        )

    pub store-at : Means m c store_work [] (private_store_tree v r gpa page) []
    store-at =
        position-load m c t v la sh fits [] store_work (λ at. with_register v r (λ x. private_stored v gpa page at x)) []
        (register-load m c t v la sh fits [] r few store_work (λ x. private_stored v gpa page (w.vps.positions v) x) [] stored-end)

pub accesses-mean : AccessesMean
accesses-mean p t v line Read r gpa page few = record {
  means = λ c at. load-at p.machine c t v at.maker.0 at.lawful at.shown at.maker.1 at.maker.2 line r gpa page few at.maker.5 at.maker.4;
}
accesses-mean p t v line Write r gpa page few = record {
  means = λ c at. store-at p.machine c t v at.maker.0 at.lawful at.shown at.maker.1 at.maker.2 line r gpa page few at.maker.5 at.maker.4;
}
