-- What the words of a TD's secure EPT say over a lawful state, and what these words are.
use Rattle.std.proofs.Common.{◌≡◌, ◌⊎◌, ℕ, zero, suc, ◌+◌, ◌*◌, ◌^◌, ◌<◌, ◌≤◌, true, false, ◌==◌, nat_lt, if◌then◌else◌, Option, None, refl, ap, sym, ◌∙◌, subst, inl, inr, arith}
use Rattle.std.proofs.lemmas.Bool.{eq-eqb, eqb-true, lt-ltb, and_parts}
use Rattle.td_words.specs.declared.names.EntryState.{EntryState}
use Rattle.td_words.specs.declared.names.EntryState.TheVariants as entry
use Rattle.td_words.specs.declared.names.PageKind.TheVariants as kind
use Rattle.td_words.specs.declared.machines.Machine.{Machine}
use Rattle.td_words.specs.Packing.{Entry, entry_word, entry_in, is_lawful_entry}
use Rattle.td_words.specs.Place as place
use Rattle.td_words.proofs.Unpacked.{packings}
use Rattle.flat_core.specs.World.{World}
use Rattle.flat_core.specs.Lawful.{Lawful, IsAlive, IsNodeOf, is_free}
use Rattle.flat_core.specs.Tree.{number_at, entry_at}
use Rattle.flat_core.specs.Event.{State}
use Rattle.flat_core.proofs.Tests.{by_test}
use Rattle.sept_walk.specs.SecureEpt.{index_at}
use Rattle.sept_walk.proofs.Meets.{split}
use Rattle.word_rules.specs.Cells.{Shows}
use Rattle.word_rules.specs.Views.{no_page, named_by}
use Rattle.word_rules.specs.Spots.{spot, entry_class, entry_named}
use Rattle.leaf_engine.specs.Changes.{Memory}
use Rattle.leaf_parts.proofs.Begun.{TwoControls, page-in}
use Rattle.sept_parts.specs.SeptWords.{entry_or_free, entry_told}
use Rattle.sept_parts.specs.SeptPages.{HasEntry}

-- an entry that names a page of the machine is read back
pub entry-back : (n : ℕ) (e : Entry) → is_lawful_entry e ≡ true → e.page < n → entry_told n (entry_word e) ≡ e
unfolding entry_told
entry-back n e lawful small =
    let read : entry_or_free n (entry_in (entry_word e)) ≡ (if nat_lt e.page n then e else entry_or_free n None) = ap (λ (x : Option Entry). entry_or_free n x) (packings.entry e lawful) in
    read ∙ rw (lt-ltb e.page n small) refl

-- a FREE entry names page 0
pub free-page : (s : EntryState) (p mark : ℕ) → is_lawful_entry (record { state = s; page = p; mark = mark }) ≡ true → is_free s ≡ true → p ≡ 0
free-page entry.Free p mark h f = eqb-true p 0 (and_parts (p == 0) _ (and_parts (nat_lt mark (2 ^ 32)) _ (and_parts (nat_lt p 1024) _ h).1).1).0
free-page _ p mark h f = cc

-- the page that an entry of level 0 names; a word of an upper entry is known by none
abbrev pub named_at : World → (t gpa level : ℕ) → ℕ
named_at w t gpa zero = named_by (entry_at w t 0 gpa)
named_at w t gpa (suc level) = no_page

module _ (m : Machine) (w : World) (t : ℕ) (in_page : t < m.pages) (limit : m.pages ≤ 1024) (la : Lawful m w) (alive : IsAlive w.pages w.tds t) where
  -- an entry that isn't FREE names a page of its TD, at its own node
  pub named-in : (l n : ℕ) → is_free (w.tds.entries t l n).state ≡ false → (w.tds.entries t l n).page < m.pages
  named-in zero n f = page-in m w t (w.tds.entries t 0 n).page kind.Reg la (la.tree.lowest t n alive f).1.page refl
  named-in (suc l) n f = page-in m w t (w.tds.entries t (suc l) n).page kind.Ept la (la.tree.upper t l n alive f).1.page refl

  pub entry-small : (l n : ℕ) → (w.tds.entries t l n).page < m.pages
  entry-small l n = by_test (is_free (w.tds.entries t l n).state)
      (λ y. (let none : (w.tds.entries t l n).page ≡ 0 = free-page (w.tds.entries t l n).state (w.tds.entries t l n).page (w.tds.entries t l n).mark (la.tree.entry limit t l n) y in omega (arith, none, in_page)))
      (λ f. named-in l n f)

  pub told-back : (l n : ℕ) → entry_told m.pages (entry_word (w.tds.entries t l n)) ≡ w.tds.entries t l n
  told-back l n = entry-back m.pages (w.tds.entries t l n) (la.tree.entry limit t l n) (entry-small l n)

module _ (m : Machine) (mem : Memory) (s : State) (t : ℕ) (sh : Shows m mem.words mem.slots s) (alive : IsAlive s.world.pages s.world.tds t) (x : TwoControls m s.world t) where
  abbrev w : World
  w = s.world

  -- the words of the root, and of another secure EPT page
  pub root-shown : (i : ℕ) → i < 512 → mem.words (place.Word x.root i) ≡ entry_word (w.tds.entries t 3 (512 * 0 + i))
  root-shown i small = rw (x.root_page.kind, x.root_page.owner, alive.life, x.list, x.differ, eq-eqb x.root x.root refl) at (sh.word (place.Word x.root i) (x.root_in, small))

  pub node-shown : (p level n i : ℕ) → IsNodeOf w.pages t p kind.Ept (suc level) n → p < m.pages → i < 512 → mem.words (place.Word p i) ≡ entry_word (w.tds.entries t level (512 * n + i))
  node-shown p level n i node in_machine small = rw (node.page.kind, node.page.owner, alive.life, node.level_is, node.number_is) at (sh.word (place.Word p i) (in_machine, small))

  pub root-spot : (i : ℕ) → spot w (place.Word x.root i) ≡ record { class = entry_class w t 4; td = t; page = x.root; named = no_page }
  root-spot i = rw (x.root_page.kind, x.root_page.owner, x.list, x.differ, eq-eqb x.root x.root refl) refl

  pub node-spot : (p level n i : ℕ) → IsNodeOf w.pages t p kind.Ept (suc level) n → spot w (place.Word p i) ≡ record { class = entry_class w t (suc level); td = t; page = p; named = entry_named w t (suc level) n i }
  node-spot p level n i node = rw (node.page.kind, node.page.owner, node.level_is, node.number_is) refl

  -- the entry of a level that maps a GPA
  module _ (gpa : ℕ) (small : gpa < 2 ^ 47) where
    pub said : (page level : ℕ) → HasEntry m w t x.root page gpa level → mem.words (place.Word page (index_at level gpa)) ≡ entry_word (entry_at w t level gpa)
    said page level has = by-node has.node
      where
        by-node : ((level ≡ 3) × (page ≡ x.root)) ⊎ ((level < 3) × IsNodeOf w.pages t page kind.Ept (suc level) (number_at (suc level) gpa)) → mem.words (place.Word page (index_at level gpa)) ≡ entry_word (entry_at w t level gpa)
        by-node (inl e) =
            let top : 512 * 0 + index_at 3 gpa ≡ number_at 3 gpa = omega (arith, small) in
            let word : mem.words (place.Word x.root (index_at 3 gpa)) ≡ entry_word (entry_at w t 3 gpa) = root-shown (index_at 3 gpa) (split.index 3 gpa) ∙ ap (λ (n : ℕ). entry_word (w.tds.entries t 3 n)) top in
            subst (λ (l : ℕ). mem.words (place.Word page (index_at l gpa)) ≡ entry_word (entry_at w t l gpa)) (sym e.0)
            (subst (λ (p : ℕ). mem.words (place.Word p (index_at 3 gpa)) ≡ entry_word (entry_at w t 3 gpa)) (sym e.1) word)
        by-node (inr e) =
            node-shown page level (number_at (suc level) gpa) (index_at level gpa) e.1 has.in_machine (split.index level gpa)
            ∙ ap (λ (n : ℕ). entry_word (w.tds.entries t level n)) (sym (split.below level gpa e.0))

    named-is : (level : ℕ) → level < 3 → entry_named w t (suc level) (number_at (suc level) gpa) (index_at level gpa) ≡ named_at w t gpa level
    named-is zero h = ap (λ (n : ℕ). named_by (w.tds.entries t 0 n)) (sym (split.below 0 gpa h))
    named-is (suc l) h = refl

    pub entry-spot : (page level : ℕ) → HasEntry m w t x.root page gpa level → spot w (place.Word page (index_at level gpa)) ≡ record { class = entry_class w t (suc level); td = t; page = page; named = named_at w t gpa level }
    entry-spot page level has = by-node has.node
      where
        by-node : ((level ≡ 3) × (page ≡ x.root)) ⊎ ((level < 3) × IsNodeOf w.pages t page kind.Ept (suc level) (number_at (suc level) gpa))
            → spot w (place.Word page (index_at level gpa)) ≡ record { class = entry_class w t (suc level); td = t; page = page; named = named_at w t gpa level }
        by-node (inl e) =
            subst (λ (l : ℕ). spot w (place.Word page (index_at l gpa)) ≡ record { class = entry_class w t (suc l); td = t; page = page; named = named_at w t gpa l }) (sym e.0)
            (subst (λ (p : ℕ). spot w (place.Word p (index_at 3 gpa)) ≡ record { class = entry_class w t 4; td = t; page = p; named = no_page }) (sym e.1) (root-spot (index_at 3 gpa)))
        by-node (inr e) =
            let name : entry_named w t (suc level) (number_at (suc level) gpa) (index_at level gpa) ≡ named_at w t gpa level = named-is level e.0 in
            subst (λ (n : ℕ). spot w (place.Word page (index_at level gpa)) ≡ record { class = entry_class w t (suc level); td = t; page = page; named = n }) name
            (node-spot page level (number_at (suc level) gpa) (index_at level gpa) e.1)
