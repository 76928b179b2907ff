-- A host page that is taken, and a page of a TD that is given back: what every world keeps.
use Rattle.std.proofs.Common.{lit<, ◌≡◌, ◌≢◌, refl, sym, ◌∙◌, subst, ap, ℕ, ◌<◌, List, [], ◌∷◌, true, false, ◌==◌}
use Rattle.std.proofs.lemmas.Bool.{eqb-true}
use Rattle.td_words.specs.declared.names.PageKind.{PageKind}
use Rattle.td_words.specs.declared.names.PageKind.TheVariants as kind
use Rattle.flat_core.specs.World.{Pages, put}
use Rattle.flat_core.specs.Conditions.{is_host_in}
use Rattle.flat_core.specs.Lawful.{IsPageOf, IsNodeOf, AreControls, ArePagesOf, LawfulPages}
use Rattle.flat_core.proofs.Tests.{by_test, kind_owned}

-- lists of pages of a TD that are pages of it still
pub controls_as : (old new : Pages) (t : ℕ) → ((q : ℕ) → IsPageOf old t q kind.Tdcx → IsPageOf new t q kind.Tdcx) → (cs : List ℕ) → AreControls old t cs → AreControls new t cs
controls_as old new t f [] h = tt
controls_as old new t f (c ∷ []) h = f c h
controls_as old new t f (c ∷ r ∷ []) h = (f c h.0, f r h.1, h.2)
controls_as old new t f (c ∷ r ∷ y ∷ cs) h = absurd h

pub pages_as : (old new : Pages) (t : ℕ) (j : PageKind) → ((q : ℕ) → IsPageOf old t q j → IsPageOf new t q j) → (ps : List ℕ) → ArePagesOf old t j ps → ArePagesOf new t j ps
pages_as old new t j f [] h = tt
pages_as old new t j f (q ∷ qs) h = (f q h.0, pages_as old new t j f qs h.1)

-- where a page isn't one that has changed, all that is said of it stays
module _ (old new : Pages) (p : ℕ) (kinds : (q : ℕ) → (q == p) ≡ false → new.kinds q ≡ old.kinds q) (owners : (q : ℕ) → (q == p) ≡ false → new.owners q ≡ old.owners q)
    (levels : (q : ℕ) → (q == p) ≡ false → new.levels q ≡ old.levels q) (numbers : (q : ℕ) → (q == p) ≡ false → new.numbers q ≡ old.numbers q)
    (t : ℕ) (other : (q : ℕ) (j : PageKind) → IsPageOf old t q j → j ≢ kind.Nda → (q == p) ≡ false) where
  pub page_kept : (q : ℕ) (j : PageKind) → j ≢ kind.Nda → IsPageOf old t q j → IsPageOf new t q j
  page_kept q j n h = let e = other q j h n in record { kind = kinds q e ∙ h.kind; owner = owners q e ∙ h.owner }

  pub node_kept : (q : ℕ) (j : PageKind) (l n : ℕ) → j ≢ kind.Nda → IsNodeOf old t q j l n → IsNodeOf new t q j l n
  node_kept q j l n ne h = let e = other q j h.page ne in record { page = page_kept q j ne h.page; level_is = levels q e ∙ h.level_is; number_is = numbers q e ∙ h.number_is }

  pub controls_kept : (cs : List ℕ) → AreControls old t cs → AreControls new t cs
  controls_kept cs h = controls_as old new t (λ q. page_kept q kind.Tdcx (λ e. cc)) cs h

  pub pages_kept : (j : PageKind) (ps : List ℕ) → j ≢ kind.Nda → ArePagesOf old t j ps → ArePagesOf new t j ps
  pages_kept j ps n h = pages_as old new t j (λ q. page_kept q j n) ps h

-- a page that was the host's is taken
module _ (count : ℕ) (old : Pages) (p : ℕ) (k : PageKind) (t level number : ℕ) (host : old.kinds p ≡ kind.Nda) (lawful : LawfulPages count old) where
  abbrev pub taken : Pages
  taken = record { kinds = put old.kinds p k; owners = put old.owners p t; blocked = put old.blocked p 0; levels = put old.levels p level; numbers = put old.numbers p number }

  pub other : (q : ℕ) (j : PageKind) → old.kinds q ≡ j → j ≢ kind.Nda → (q == p) ≡ false
  other q j e n = by_test (q == p) (λ y. absurd (n (sym e ∙ ap old.kinds (eqb-true q p y) ∙ host))) (λ y. y)

  other_of : (x q : ℕ) (j : PageKind) → IsPageOf old x q j → j ≢ kind.Nda → (q == p) ≡ false
  other_of x q j h n = other q j h.kind n

  abbrev kinds_stay : (q : ℕ) → (q == p) ≡ false → taken.kinds q ≡ old.kinds q
  kinds_stay q n = rw n refl

  abbrev owners_stay : (q : ℕ) → (q == p) ≡ false → taken.owners q ≡ old.owners q
  owners_stay q n = rw n refl

  abbrev levels_stay : (q : ℕ) → (q == p) ≡ false → taken.levels q ≡ old.levels q
  levels_stay q n = rw n refl

  abbrev numbers_stay : (q : ℕ) → (q == p) ≡ false → taken.numbers q ≡ old.numbers q
  numbers_stay q n = rw n refl

  pub taken_node : (x q : ℕ) (j : PageKind) (l n : ℕ) → j ≢ kind.Nda → IsNodeOf old x q j l n → IsNodeOf taken x q j l n
  taken_node x q j l n = node_kept old taken p kinds_stay owners_stay levels_stay numbers_stay x (other_of x) q j l n

  pub taken_controls : (x : ℕ) (cs : List ℕ) → AreControls old x cs → AreControls taken x cs
  taken_controls x cs = controls_kept old taken p kinds_stay owners_stay levels_stay numbers_stay x (other_of x) cs

  pub taken_list : (x : ℕ) (j : PageKind) (ps : List ℕ) → j ≢ kind.Nda → ArePagesOf old x j ps → ArePagesOf taken x j ps
  taken_list x j ps = pages_kept old taken p kinds_stay owners_stay levels_stay numbers_stay x (other_of x) j ps

  -- no page was owned by it
  pub unowned : (q : ℕ) (j : PageKind) → old.kinds q ≡ j → j ≢ kind.Nda → (old.owners q == p) ≡ false
  unowned q j e n =
      let owned : old.kinds (old.owners q) ≡ kind.Tdr = lawful.owner q (rw e (kind_owned j n)) in
      other (old.owners q) kind.Tdr owned (λ e. cc)

  -- it is a TDR page of its own, or a page of a TD
  pub taken_pages : (p < count) → k ≢ kind.Nda → (k ≡ kind.Tdr → t ≡ p) → taken.kinds t ≡ kind.Tdr → LawfulPages count taken
  taken_pages small not_host self root = record {
    tdr = λ x. by_test (x == p) (λ y h. rw y (self (rw y at h) ∙ sym (eqb-true x p y))) (λ y h. rw y (lawful.tdr x (rw y at h)));
    owner = λ q h. by_test (q == p) (λ y. subst (λ (x : ℕ). taken.kinds x ≡ kind.Tdr) (sym (owner_here q y)) root) (λ y. owner_there q y (rw y at h));
    in_machine = λ q. by_test (q == p) (λ y h. subst (λ (x : ℕ). x < count) (sym (eqb-true q p y)) small) (λ y h. lawful.in_machine q (rw y at h));
    host = λ q. by_test (q == p) (λ y h. absurd (let no : false ≡ true = sym (kind_owned k not_host) ∙ (rw y at h) in cc)) (λ y h. rw y (lawful.host q (rw y at h)));
    blocked = λ q. by_test (q == p) (λ y. rw y (lit< tt)) (λ y. rw y (lawful.blocked q));
  }
    where
      owner_here : (q : ℕ) → (q == p) ≡ true → taken.owners q ≡ t
      owner_here q y = rw y refl

      owner_there : (q : ℕ) → (q == p) ≡ false → is_host_in old q ≡ false → taken.kinds (taken.owners q) ≡ kind.Tdr
      owner_there q y h =
          let owned : old.kinds (old.owners q) ≡ kind.Tdr = lawful.owner q h in
          rw (y, other (old.owners q) kind.Tdr owned (λ e. cc)) owned
