-- Over words that show a lawful state, memory holds the map of a TD.
use Rattle.std.proofs.Common.{◌≡◌, ℕ, suc, ◌+◌, ◌*◌, ◌<◌, true, List, [], ◌∷◌, slice_index, refl, ap, ◌∙◌, subst, arith}
use Rattle.td_words.specs.declared.names.PageKind.TheVariants as kind
use Rattle.td_words.specs.declared.machines.Machine.{Machine}
use Rattle.td_words.specs.declared.places.TheConstants.{TDR_ROOT}
use Rattle.td_words.specs.Place as place
use Rattle.flat_core.specs.World.{World}
use Rattle.flat_core.specs.Event.{State}
use Rattle.flat_core.specs.Lawful.{Lawful, IsAlive, AreControls, IsNodeOf}
use Rattle.flat_core.proofs.Maps.{not_free}
use Rattle.sept_walk.specs.SecureEpt.{is_mapped_on}
use Rattle.sept_walk.specs.Maps.{HoldsMap}
use Rattle.leaf_engine.specs.Changes.{Memory}
use Rattle.leaf_parts.proofs.Begun.{TwoControls, page-in}
use Rattle.leaf_parts.proofs.Told.{tdr-shown}
use Rattle.sept_parts.specs.SeptWords.{entry_told}
use Rattle.sept_parts.proofs.SeptTold.{root-shown, node-shown, told-back}
use Rattle.map_laws.specs.SeptMaps.{ShowsTd, entries_of}
use Rattle.map_laws.specs.Laws.{RootsAreNamed, MapsAreHeld}

-- its two TDCX pages are two pages of the machine
pub two-pages : (m : Machine) (w : World) (t c r : ℕ) → Lawful m w → IsAlive w.pages w.tds t → w.tds.controls t ≡ c ∷ r ∷ [] → TwoControls m w t
two-pages m w t c r la alive is =
    let are : AreControls w.pages t (c ∷ r ∷ []) = subst (λ (cs : List ℕ). AreControls w.pages t cs) is (la.tds.controls t alive) in
    record {
      tdcs = c;
      root = r;
      list = is;
      tdcs_page = are.0;
      root_page = are.1;
      differ = are.2;
      tdcs_in = page-in m w t c kind.Tdcx la are.0 refl;
      root_in = page-in m w t r kind.Tdcx la are.1 refl;
    }

module _ (m : Machine) (mem : Memory) (s : State) (t root : ℕ) (x : ShowsTd m mem s t root) where
  abbrev w : World
  w = s.world

  pub two : TwoControls m w t
  two = two-pages m w t x.tdcs root x.lawful x.alive x.controls

  pub in-page : t < m.pages
  in-page = x.lawful.pages.in_machine t (rw x.alive.kind refl)

  named : mem.words (place.Word t TDR_ROOT) ≡ root
  named =
      let word : mem.words (place.Word t TDR_ROOT) ≡ slice_index (w.tds.controls t) 1 = tdr-shown m mem.words mem.slots s x.shown t 5 x.alive.kind (x.lawful.pages.tdr t x.alive.kind) in-page (omega arith) in
      word ∙ ap (λ (cs : List ℕ). slice_index cs 1) x.controls

  -- the page that an NL_MAPPED entry names is a secure EPT page of the TD, at that entry's node
  pub node-below : (l n : ℕ) → is_mapped_on (w.tds.entries t (suc l) n) ≡ true → IsNodeOf w.pages t (w.tds.entries t (suc l) n).page kind.Ept (suc l) n
  node-below l n on = (x.lawful.tree.upper t l n x.alive (not_free (w.tds.entries t (suc l) n).state on)).1

  pub below-in : (l n : ℕ) → is_mapped_on (w.tds.entries t (suc l) n) ≡ true → (w.tds.entries t (suc l) n).page < m.pages
  below-in l n on = page-in m w t (w.tds.entries t (suc l) n).page kind.Ept x.lawful (node-below l n on).page refl

  pub root-in : root < m.pages
  unfolding two two-pages
  root-in = two.root_in

  pub held : HoldsMap (entries_of m.pages mem.words) root w t
  unfolding two two-pages
  held = record { at_root = top; below = down }
    where
      top : (i : ℕ) → i < 512 → entries_of m.pages mem.words root i ≡ w.tds.entries t 3 i
      top i small =
          let here : 512 * 0 + i ≡ i = omega arith in
          ap (entry_told m.pages) (root-shown m mem s t x.shown x.alive two i small)
          ∙ told-back m w t in-page x.limit x.lawful x.alive 3 (512 * 0 + i)
          ∙ ap (λ (n : ℕ). w.tds.entries t 3 n) here

      down : (l n i : ℕ) → l < 3 → is_mapped_on (w.tds.entries t (suc l) n) ≡ true → i < 512 → entries_of m.pages mem.words (w.tds.entries t (suc l) n).page i ≡ w.tds.entries t l (512 * n + i)
      down l n i few on small =
          ap (entry_told m.pages) (node-shown m mem s t x.shown x.alive two (w.tds.entries t (suc l) n).page l n i (node-below l n on) (below-in l n on) small)
          ∙ told-back m w t in-page x.limit x.lawful x.alive l (512 * n + i)

pub roots-are-named : RootsAreNamed
roots-are-named m mem s t root x = named m mem s t root x

pub maps-are-held : MapsAreHeld
maps-are-held m mem s t root x = held m mem s t root x
