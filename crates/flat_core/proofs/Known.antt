-- What leaves guests knowing their pages.
use Rattle.std.proofs.Common.{◌≡◌, ◌≢◌, inl, inr, refl, sym, ◌∙◌, ap, subst, ℕ, suc, ◌/◌, ◌≤◌, Some, None, Bool, true, false, ◌==◌, if◌then◌else◌, arith}
use Rattle.std.proofs.lemmas.Bool.{eq-eqb, eqb-true, eqb-false, ne_eqb}
use Rattle.td_words.specs.declared.names.PageKind.{PageKind}
use Rattle.td_words.specs.declared.names.PageKind.TheVariants as kind
use Rattle.td_words.specs.declared.names.LifeState.{LifeState}
use Rattle.td_words.specs.declared.names.LifeState.TheVariants as life
use Rattle.td_words.specs.declared.names.EntryState.{EntryState}
use Rattle.td_words.specs.declared.names.EntryState.TheVariants as entry
use Rattle.td_words.specs.declared.machines.Machine.{Machine}
use Rattle.td_words.specs.declared.calls.Call.{Call}
use Rattle.td_words.specs.NameNumber.{life_number}
use Rattle.td_words.specs.Packing.{Entry, AssignedTo, is_exported}
use Rattle.flat_core.specs.World.{World, Tds, put, free_entry}
use Rattle.flat_core.specs.Conditions.{same_kind}
use Rattle.flat_core.specs.Effects.{put_in, set_page, clear_page, take_node, take_page, give_back, new_td, set_key, set_life, set_entry, unmap_page, begin_memory, end_memory_in}
use Rattle.flat_core.specs.Lawful.{IsAlive, Lawful, is_free}
use Rattle.flat_core.specs.Laws.{holds_memory, memory_of, ArePagesKnown}
use Rattle.flat_core.proofs.Tests.{by_test, host_kind, same_self}
use Rattle.flat_core.proofs.EntryStates.{entry_set}
use Rattle.flat_core.proofs.Removals.{other_entry}
use Rattle.flat_core.proofs.Parts.{IsLive}
use Rattle.flat_core.proofs.Shapes.{Aspect, aspect_of, IsHeld, Notes, Takes, Shape, notes, fills, takes, reclaims, unmaps, begins, changes_life, changes_op, changes_vp, enters, flushes, changes_entry, advances, ActShape, one, moves, page_by_page, by_shapes, unmaps_kept, owner_reclaimed}

-- an entry whose page holds memory isn't FREE
taken : (s : EntryState) → holds_memory s ≡ true → is_free s ≡ false
taken entry.Free e = cc
taken entry.Mapped e = refl
taken entry.Blocked e = refl
taken entry.Pending e = refl
taken entry.PendingBlocked e = refl
taken entry.NlMapped e = refl
taken entry.NlBlocked e = refl
taken entry.BlockedW e = refl
taken entry.ExportedBlockedW e = refl
taken entry.ExportedDirty e = refl
taken entry.ExportedDirtyBlockedW e = refl

-- and a FREE entry holds none
none_held : (s : EntryState) → is_free s ≡ true → holds_memory s ≡ false
none_held entry.Free e = refl
none_held _ e = cc

no_memory : (e : Entry) (words : ℕ → ℕ → ℕ) → is_free e.state ≡ true → memory_of e words ≡ None
no_memory e words free = rw (none_held e.state free) refl

pub same_memory : (e : Entry) (old new : ℕ → ℕ → ℕ) → (is_free e.state ≡ false → new e.page ≡ old e.page) → memory_of e new ≡ memory_of e old
same_memory e old new h = by_test (holds_memory e.state) (λ y. rw y (ap (λ (x : ℕ → ℕ). Some x) (h (taken e.state y)))) (λ y. rw y refl)

-- a word of another page changes none of a page
pub words_stay : (words : ℕ → ℕ → ℕ) (q i v p : ℕ) → (p == q) ≡ false → put_in words q i v p ≡ words p
words_stay words q i v p e = λ j b. at b j
  where
    at : (b : ℕ) → put_in words q i v p b ≡ words p b
    at b = rw e refl

-- an entry of a level above 0 changes none of level 0
pub entry_stays : (f : ℕ → ℕ → ℕ → Entry) (t level i x n : ℕ) (e : Entry) → 1 ≤ level → put f t (put_in (f t) level i e) x 0 n ≡ f x 0 n
entry_stays f t level i x n e upper =
    let apart : (0 == level) ≡ false = ne_eqb 0 level (omega arith) in
    by_test (x == t) (λ y. rw (y, apart) (ap (λ (z : ℕ). f z 0 n) (sym (eqb-true x t y)))) (λ y. rw y refl)

module _ (m : Machine) (w : World) (l : Lawful m w) (h : ArePagesKnown w) where
  -- where the memory, the entry and the words of the page that it names are as before
  pub still_known : (v : World) (t n : ℕ) → IsAlive w.pages w.tds t → v.hidden.memories t n ≡ w.hidden.memories t n → v.tds.entries t 0 n ≡ w.tds.entries t 0 n
      → (is_free (w.tds.entries t 0 n).state ≡ false → v.words (w.tds.entries t 0 n).page ≡ w.words (w.tds.entries t 0 n).page) → v.hidden.memories t n ≡ memory_of (v.tds.entries t 0 n) v.words
  still_known v t n a memory same words =
      memory ∙ (h t n a ∙ (sym (same_memory (w.tds.entries t 0 n) w.words v.words words) ∙ ap (λ (e : Entry). memory_of e v.words) (sym same)))

  -- a page that an entry names was no host page
  apart : (q t n : ℕ) → w.pages.kinds q ≡ kind.Nda → IsAlive w.pages w.tds t → is_free (w.tds.entries t 0 n).state ≡ false → ((w.tds.entries t 0 n).page == q) ≡ false
  apart q t n host a e = by_test ((w.tds.entries t 0 n).page == q)
      (λ y. absurd (let no : kind.Nda ≡ kind.Reg = sym host ∙ (ap w.pages.kinds (sym (eqb-true _ q y)) ∙ (l.tree.lowest t n a e).1.page.kind) in cc))
      (λ y. y)

  -- where no words but those of a page that was the host's have changed
  pub known_beside : (v : World) (q t n : ℕ) → w.pages.kinds q ≡ kind.Nda → IsAlive w.pages w.tds t → ((p : ℕ) → (p == q) ≡ false → v.words p ≡ w.words p)
      → v.hidden.memories t n ≡ w.hidden.memories t n → v.tds.entries t 0 n ≡ w.tds.entries t 0 n → v.hidden.memories t n ≡ memory_of (v.tds.entries t 0 n) v.words
  known_beside v q t n host a words memory same = still_known v t n a memory same (λ e. words _ (apart q t n host a e))

  -- a TD that is alive after a page changed its kind was so before
  alive_before : (q : ℕ) (k : PageKind) (t level number : ℕ) → k ≢ kind.Tdr → (tds : Tds) → tds.lives ≡ w.tds.lives → (x : ℕ) → IsAlive (take_node q k t level number w).pages tds x → IsAlive w.pages w.tds x
  alive_before q k t level number not_tdr tds same x a = record {
    kind = by_test (x == q) (λ y. absurd (not_tdr (rw y at a.kind))) (λ y. rw y at a.kind);
    life = subst (λ (f : ℕ → LifeState). IsLive (f x)) same a.life;
  }

  -- or after a life changed that wasn't at its end
  lived_before : (t : ℕ) (s : LifeState) → IsLive (w.tds.lives t) → (x : ℕ) → IsAlive w.pages (set_life t s w).tds x → IsAlive w.pages w.tds x
  lived_before t s live x a = record {
    kind = a.kind;
    life = by_test (x == t) (λ y. subst (λ (z : ℕ). IsLive (w.tds.lives z)) (sym (eqb-true x t y)) live) (λ y. rw y at a.life);
  }

  -- PHYMEM.PAGE.RECLAIM
  reclaim_known : (t q : ℕ) → (life_number (w.tds.lives t) == life_number life.Teardown) ≡ true → w.pages.owners q ≡ t → ArePagesKnown (give_back q (end_memory_in t q w))
  reclaim_known t q dead mine x n a =
      let before : IsAlive w.pages w.tds x = alive_before q kind.Nda 0 0 0 (λ e. cc) w.tds refl x a in
      let another : (x == t) ≡ false = by_test (x == t)
      (λ y. absurd (let no : true ≡ false = sym dead ∙ subst (λ (z : ℕ). IsLive (w.tds.lives z)) (eqb-true x t y) before.life in cc))
      (λ y. y) in
      let elsewhere : is_free (w.tds.entries x 0 n).state ≡ false → ((w.tds.entries x 0 n).page == q) ≡ false = λ e. by_test ((w.tds.entries x 0 n).page == q)
      (λ y. absurd (let same : x ≡ t = sym (l.tree.lowest x n before e).1.page.owner ∙ (ap w.pages.owners (eqb-true _ q y) ∙ mine) in
      let no : true ≡ false = sym (eq-eqb x t same) ∙ another in cc))
      (λ y. y) in
      still_known (give_back q (end_memory_in t q w)) x n before (rw another refl) refl (λ e. rw (elsewhere e) refl)

  -- MNG.CREATE
  create_known : (t k : ℕ) → w.pages.kinds t ≡ kind.Nda → ArePagesKnown (set_key k (AssignedTo t) (new_td t k (clear_page t (take_page t kind.Tdr t w))))
  create_known t k host x n a = by_test (x == t)
      (λ y. rw y refl)
      (λ y. known_beside (set_key k (AssignedTo t) (new_td t k (clear_page t (take_page t kind.Tdr t w)))) t x n host (record { kind = rw y at a.kind; life = rw y at a.life }) (λ p e. rw e refl) (rw y refl) (rw y refl))

  pub same_entry : (x t n g : ℕ) → (x == t) ≡ true → (n == g) ≡ true → w.tds.entries x 0 n ≡ w.tds.entries t 0 g
  same_entry x t n g y z = ap (λ (u : ℕ). w.tds.entries u 0 n) (eqb-true x t y) ∙ ap (λ (i : ℕ). w.tds.entries t 0 i) (eqb-true n g z)

  -- an entry's state changes, and its page holds the guest's memory as before
  restated_known : (t level number : ℕ) (s : EntryState) (mark : ℕ) → holds_memory s ≡ holds_memory (w.tds.entries t level number).state → (x n : ℕ) → IsAlive w.pages w.tds x
      → w.hidden.memories x n ≡ memory_of ((set_entry t level number (record { state = s; page = (w.tds.entries t level number).page; mark = mark }) w).tds.entries x 0 n) w.words
  restated_known t level number s mark same x n a =
      let was : Entry = w.tds.entries t level number in
      entry_set w t level number (record { state = s; page = was.page; mark = mark }) (λ e. w.hidden.memories x n ≡ memory_of e w.words) x 0 n
      (λ i j k. let at : w.tds.entries x 0 n ≡ was = ap (λ (z : ℕ). w.tds.entries z 0 n) i ∙ (ap (λ (z : ℕ). w.tds.entries t z n) j ∙ ap (λ (z : ℕ). w.tds.entries t level z) k) in
      h x n a ∙ (ap (λ (e : Entry). memory_of e w.words) at ∙ ap (λ (b : Bool). if b then Some (w.words was.page) else None) (sym same)))
      (λ apart. h x n a)

  -- MEM.PAGE.REMOVE and MEM.SEPT.REMOVE: where the page was a private one, its memory ends
  unmapped_known : (t level number : ℕ) (v : World) → IsAlive w.pages w.tds t → is_free (w.tds.entries t level number).state ≡ false → is_exported (w.tds.entries t level number).state ≡ false
      → ((j n : ℕ) → suc j ≡ level → n / 512 ≡ number → is_free (w.tds.entries t j n).state ≡ true) → v.tds ≡ (set_entry t level number free_entry w).tds
      → v.words ≡ put w.words (w.tds.entries t level number).page (λ i. 0) → (0 ≡ level → v.hidden.memories t number ≡ None)
      → ((x n : ℕ) → (x ≡ t → 0 ≡ level → n ≡ number → ⊥) → v.hidden.memories x n ≡ w.hidden.memories x n) → (x n : ℕ) → IsAlive w.pages w.tds x → v.hidden.memories x n ≡ memory_of (v.tds.entries x 0 n) v.words
  unmapped_known t level number v alive used unmarked empty td words here there x n a =
      let says : v.hidden.memories x n ≡ memory_of ((set_entry t level number free_entry w).tds.entries x 0 n) v.words =
      entry_set w t level number free_entry (λ e. v.hidden.memories x n ≡ memory_of e v.words) x 0 n
      (λ i j k. subst (λ (z : ℕ). v.hidden.memories z n ≡ None) (sym i) (subst (λ (z : ℕ). v.hidden.memories t z ≡ None) (sym k) (here j)))
      (λ off. there x n off ∙ (h x n a ∙ sym (same_memory (w.tds.entries x 0 n) w.words v.words (λ e. let other = other_entry m w t level number l alive used unmarked empty x 0 n a e off in
      ap (λ (z : ℕ → ℕ → ℕ). z (w.tds.entries x 0 n).page) words ∙ rw other refl)))) in
      subst (λ (z : Tds). v.hidden.memories x n ≡ memory_of (z.entries x 0 n) v.words) (sym td) says

-- IMPORT.MEM, where the page is there already
module _ (m : Machine) (w : World) (l : Lawful m w) (h : ArePagesKnown w) (t g : ℕ) (ws : ℕ → ℕ) (alive : IsAlive w.pages w.tds t) (is : (w.tds.entries t 0 g).state ≡ entry.Mapped) where
  abbrev q : ℕ
  q = (w.tds.entries t 0 g).page

  abbrev refilled : World
  refilled = begin_memory t g ws (set_page q ws w)

  -- no other entry names the page
  other_stays : (x n : ℕ) → IsAlive w.pages w.tds x → is_free (w.tds.entries x 0 n).state ≡ false → (x ≡ t → n ≡ g → ⊥) → put w.words q ws (w.tds.entries x 0 n).page ≡ w.words (w.tds.entries x 0 n).page
  other_stays x n a used apart = by_test ((w.tds.entries x 0 n).page == q)
      (λ y. absurd (let its = (l.tree.lowest x n a used).1 in
      let here = (l.tree.lowest t g alive (ap is_free is)).1 in
      let same : (w.tds.entries x 0 n).page ≡ q = eqb-true _ q y in
      apart (sym its.page.owner ∙ (ap w.pages.owners same ∙ here.page.owner)) (sym its.number_is ∙ (ap w.pages.numbers same ∙ here.number_is))))
      (λ y. rw y refl)

  holds_words : memory_of (w.tds.entries t 0 g) (put w.words q ws) ≡ Some ws
  holds_words = let here = same_self q in rw (is, here) refl

  refilled_known : ArePagesKnown refilled
  refilled_known x n a =
      let before : IsAlive w.pages w.tds x = record { kind = a.kind; life = a.life } in
      by_test (x == t)
      (λ y. by_test (n == g)
      (λ z. let at : w.tds.entries x 0 n ≡ w.tds.entries t 0 g = ap (λ (u : ℕ). w.tds.entries u 0 n) (eqb-true x t y) ∙ ap (λ (i : ℕ). w.tds.entries t 0 i) (eqb-true n g z) in
      rw (y, z) (sym (ap (λ (e : Entry). memory_of e (put w.words q ws)) at ∙ holds_words)))
      (λ z. still_known m w l h refilled x n before (rw (y, z) refl) refl (λ used. other_stays x n before used (λ i j. eqb-false n g z j))))
      (λ y. still_known m w l h refilled x n before (rw y refl) refl (λ used. other_stays x n before used (λ i j. eqb-false x t y i)))

-- the act of any shape
module _ (me : ℕ) (c : Call) (m : Machine) (w w' : World) (l : Lawful m w) (h : ArePagesKnown w) where
  by_aspect : (a : Aspect) → aspect_of w' ≡ a → ((t n : ℕ) → a.pages.kinds t ≡ kind.Tdr → IsLive (a.lives t) → a.memories t n ≡ memory_of (a.entries t 0 n) a.words) → ArePagesKnown w'
  by_aspect a e known t n alive =
      subst (λ (z : Aspect). z.memories t n ≡ memory_of (z.entries t 0 n) z.words) (sym e)
      (known t n (ap (λ (z : Aspect). z.pages.kinds t) (sym e) ∙ alive.kind) (subst (λ (z : Aspect). IsLive (z.lives t)) e alive.life))

  by_world : (v : World) → w' ≡ v → ArePagesKnown v → ArePagesKnown w'
  by_world v e known = subst (λ (z : World). ArePagesKnown z) (sym e) known

  -- words of the host's pages change
  notes_known : Notes w w' → ArePagesKnown w'
  notes_known x = by_aspect _ x.rest (λ t n k a.
      let alive : IsAlive w.pages w.tds t = record { kind = k; life = a } in
      h t n (record { kind = k; life = a }) ∙ sym (same_memory (w.tds.entries t 0 n) w.words w'.words (λ used. x.words _ (ap (λ (j : PageKind). same_kind j kind.Nda) (l.tree.lowest t n alive used).1.page.kind))))

  held_known : (x : Takes w w') (t n : ℕ) → IsAlive w.pages w.tds t → IsHeld w w' t n → w'.hidden.memories t n ≡ memory_of (w'.tds.entries t 0 n) w'.words
  held_known x t n alive (inl holds) = holds
  held_known x t n alive (inr (same, inl stays)) = known_beside m w l h w' x.page t n (host_kind _ x.host) alive x.words same stays
  held_known x t n alive (inr (same, inr waits)) =
      same ∙ (h t n (record { kind = alive.kind; life = alive.life }) ∙ (no_memory (w.tds.entries t 0 n) w.words waits.0 ∙ (let none = waits.1 in rw none refl)))

  takes_known : (x : Takes w w') → ((t n : ℕ) → IsHeld w w' t n) → ArePagesKnown w'
  takes_known x held =
      by_aspect _ x.rest (λ t n k a. held_known x t n (alive_before m w l h x.page x.becomes x.tdr x.level x.number x.no_tdr w.tds refl t (record { kind = k; life = a })) (held t n))

  shape_known : Shape me c w w' → ArePagesKnown w'
  shape_known (notes x) = notes_known x
  shape_known (fills x) = by_aspect _ x.rest (λ t n k a. refilled_known m w l h x.tdr x.number x.words x.alive x.mapped t n (record { kind = k; life = a }))
  shape_known (takes x held) = takes_known x held
  shape_known (reclaims x) = by_world _ x.is (reclaim_known m w l h x.tdr x.page x.dead (owner_reclaimed m c w w' l x))
  shape_known (unmaps x) = by_world _ x.is (λ t n a.
      unmapped_known m w l h x.tdr x.level x.number (unmap_page x.tdr x.level x.number (record w { hidden = record (w.hidden) { memories = x.memories } })) x.alive x.removed.used x.removed.unmarked x.empty refl refl x.ended x.others t n
      (alive_before m w l h (w.tds.entries x.tdr x.level x.number).page kind.Nda 0 0 0 (λ e. cc) w.tds refl t (record { kind = a.kind; life = a.life })))
  shape_known (begins x) = by_world _ x.is (create_known m w l h x.tdr x.hkid (host_kind _ x.host))
  shape_known (changes_life x) = by_aspect _ x.rest (λ t n k a. h t n (lived_before m w l h x.tdr x.then_in x.live t (record { kind = k; life = a })))
  shape_known (changes_op x) = by_aspect _ x.rest (λ t n k a. h t n (record { kind = k; life = a }))
  shape_known (changes_vp x) = by_aspect _ x.rest (λ t n k a. h t n (record { kind = k; life = a }))
  shape_known (enters x) = by_world _ x.is (λ t n a. h t n (record { kind = a.kind; life = a.life }))
  shape_known (flushes x) = by_world _ x.is (λ t n a. h t n (record { kind = a.kind; life = a.life }))
  shape_known (changes_entry x) = by_aspect _ x.rest (λ t n k a. restated_known m w l h x.tdr x.level x.number x.then_in x.mark x.same_memory t n (record { kind = k; life = a }))
  shape_known (advances x) = by_world _ x.is (λ t n a. h t n (record { kind = a.kind; life = a.life }))

pub act_known : (me : ℕ) (c : Call) (m : Machine) (w w' : World) → Lawful m w → ArePagesKnown w → ActShape m me c w w' → ArePagesKnown w'
act_known me c m w w' l h (one x) = shape_known me c m w w' l h x
act_known me c m w w' l h (moves v x y held) = takes_known me c m v w' (unmaps_kept m c w v l x) (shape_known me c m w v l h (unmaps x)) y (held h)
act_known me c m w w' l h (page_by_page none x) = by_shapes w w' w ArePagesKnown (λ v u k y of h. shape_known me c m v u (k l) h y) (λ l. l) x h
