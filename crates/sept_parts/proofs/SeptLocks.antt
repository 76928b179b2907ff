-- What may be done at an entry's word under the locks of a walk.
use Rattle.std.proofs.Common.{◌≡◌, ◌⊎◌, ℕ, zero, suc, ◌<◌, ◌^◌, true, List, ◌∷◌, ◌++◌, refl, sym, subst, inl, inr}
use Rattle.std.proofs.lemmas.Bool.{eq-eqb}
use Rattle.td_words.specs.declared.names.Mode.{Mode}
use Rattle.td_words.specs.declared.names.Mode.TheVariants.{Exclusive}
use Rattle.td_words.specs.declared.machines.Machine.{Machine}
use Rattle.td_words.specs.declared.places.TheConstants.{TDR_CHILDREN}
use Rattle.td_words.specs.Place as place
use Rattle.flat_core.specs.World.{World}
use Rattle.flat_core.specs.Processor.{OfPage, OfOp, OfTree, Held}
use Rattle.flat_core.specs.Lawful.{IsAlive, Lawful}
use Rattle.sept_walk.specs.SecureEpt.{index_at}
use Rattle.word_rules.specs.Guards.{Grip, Locked}
use Rattle.word_rules.specs.Rules.{Whole, ThePage, Grade, KeepsNothing, KeepsPage, KeepsRights, reads, writes}
use Rattle.word_rules.specs.Spots.{Spot, spot, entry_class}
use Rattle.word_rules.specs.Permissions.{MayAt, Reads, Writes, Owes}
use Rattle.word_rules.specs.Cells.{Shows}
use Rattle.lock_words.specs.Grips.{holds, holds_alone}
use Rattle.leaf_engine.specs.Means.{Instant, hold}
use Rattle.leaf_parts.proofs.Begun.{TwoControls, page_lock, op_lock}
use Rattle.leaf_parts.proofs.Told.{tdr-spot}
use Rattle.sept_parts.specs.SeptPages.{HasEntry, HoldsTree, HoldsEntries}
use Rattle.sept_parts.proofs.SeptTold.{named_at, entry-spot}

abbrev pub tree_held : ℕ → Mode → Held
tree_held t mode = record { lock = OfTree t; mode = mode }

-- behind the beginning of a TD's row and the try of T the locks of a walk are held
module _ (t : ℕ) (tree op page : Mode) (hs : List Held) where
  pub holds-tree : HoldsTree (tree_held t tree ∷ op_lock t op ∷ page_lock t page ∷ hs) t
  holds-tree = record { tdr = rw (eq-eqb t t refl) refl; op = rw (eq-eqb t t refl) refl; tree = rw (eq-eqb t t refl) refl }

pub tree-alone : (t : ℕ) (hs : List Held) → holds_alone (tree_held t Exclusive ∷ hs) (OfTree t) ≡ true
tree-alone t hs = rw (eq-eqb t t refl) refl

pub op-alone : (t : ℕ) (tree : Mode) (hs : List Held) → holds_alone (tree_held t tree ∷ op_lock t Exclusive ∷ hs) (OfOp t) ≡ true
op-alone t Exclusive hs = rw (eq-eqb t t refl) refl
op-alone t _ hs = rw (eq-eqb t t refl) refl

-- the word of an entry of a level, by its spot
module _ (g : Grip) (w : World) (t page named : ℕ) (tdr : g.has (Locked (OfPage t)) ≡ true) (op : g.has (Locked (OfOp t)) ≡ true) (tree : g.has (Locked (OfTree t)) ≡ true) where
  abbrev at : ℕ → Spot
  at level = record { class = entry_class w t (suc level); td = t; page = page; named = named }

  pub loads : (level : ℕ) → (g.sole (Locked (OfTree t)) ≡ true) ⊎ (g.sole (Locked (OfOp t)) ≡ true) → MayAt g (at level) (λ c. reads c Whole)
  loads zero (inl a) = inr (inr (inl (tdr, (op, (a, tt)))))
  loads zero (inr a) = inr (inl (tdr, (a, tt)))
  loads (suc l) h = inr (inr (inl (tdr, (op, (tree, tt)))))

  loads-upper : (l : ℕ) → MayAt g (at (suc l)) (λ c. reads c Whole)
  loads-upper l = inr (inr (inl (tdr, (op, (tree, tt)))))

  loads-page : (level : ℕ) → MayAt g (at level) (λ c. reads c ThePage)
  loads-page zero = inr (inr (inl (tdr, (op, (tree, tt)))))
  loads-page (suc l) = inr (inr (inl (tdr, (op, (tree, tt)))))

  loads-named : (level : ℕ) → g.has (Locked (OfPage named)) ≡ true → MayAt g (at level) (λ c. reads c Whole)
  loads-named zero n = inr (inr (inr (inl (tdr, (op, (tree, (n, tt)))))))
  loads-named (suc l) n = inr (inr (inl (tdr, (op, (tree, tt)))))

  stores : (level : ℕ) (k : Grade) → g.sole (Locked (OfTree t)) ≡ true → MayAt g (at level) (λ c. writes c k)
  stores zero KeepsNothing a = inr (inl (tdr, (op, (a, tt))))
  stores zero KeepsPage a = inr (inl (tdr, (op, (a, tt))))
  stores zero KeepsRights a = inr (inl (tdr, (op, (a, tt))))
  stores (suc l) k a = inr (inl (tdr, (op, (a, tt))))

  stores-named : g.sole (Locked (OfPage named)) ≡ true → MayAt g (at 0) (λ c. writes c KeepsPage)
  stores-named n = inr (inr (inl (tdr, (op, (tree, (n, tt))))))

-- the word of the entry that maps a GPA, and the child count, at an instant
module _ (m : Machine) (c : Instant) (t : ℕ) (sh : Shows m c.memory.words c.memory.slots c.state) (alive : IsAlive c.state.world.pages c.state.world.tds t) (x : TwoControls m c.state.world t) (hs : List Held) (h : HoldsTree (hs ++ c.kept) t) where
  abbrev w : World
  w = c.state.world

  module _ (gpa page level : ℕ) (small : gpa < 2 ^ 47) (has : HasEntry m w t x.root page gpa level) where
    there : spot w (place.Word page (index_at level gpa)) ≡ record { class = entry_class w t (suc level); td = t; page = page; named = named_at w t gpa level }
    there = entry-spot m c.memory c.state t sh alive x gpa small page level has

    -- a load of the whole word, under T or O alone
    pub entry-reads : HoldsEntries (hs ++ c.kept) t → Reads (hold c hs) w (place.Word page (index_at level gpa)) Whole
    entry-reads a = subst (λ (s : Spot). MayAt (hold c hs) s (λ z. reads z Whole)) (sym there) (loads (hold c hs) w t page (named_at w t gpa level) h.tdr h.op h.tree level a)

    -- of the page that it names
    pub page-reads : Reads (hold c hs) w (place.Word page (index_at level gpa)) ThePage
    page-reads = subst (λ (s : Spot). MayAt (hold c hs) s (λ z. reads z ThePage)) (sym there) (loads-page (hold c hs) w t page (named_at w t gpa level) h.tdr h.op h.tree level)

    -- of the whole word where P of that page is held
    pub named-reads : holds (hs ++ c.kept) (OfPage (named_at w t gpa level)) ≡ true → Reads (hold c hs) w (place.Word page (index_at level gpa)) Whole
    named-reads n = subst (λ (s : Spot). MayAt (hold c hs) s (λ z. reads z Whole)) (sym there) (loads-named (hold c hs) w t page (named_at w t gpa level) h.tdr h.op h.tree level n)

    -- a store, under T alone
    pub entry-writes : (k : Grade) → holds_alone (hs ++ c.kept) (OfTree t) ≡ true → Writes (hold c hs) w (place.Word page (index_at level gpa)) k
    entry-writes k a = subst (λ (s : Spot). MayAt (hold c hs) s (λ z. writes z k)) (sym there) (stores (hold c hs) w t page (named_at w t gpa level) h.tdr h.op h.tree level k a)

  -- an upper entry's word is loaded under T held in any mode
  pub upper-reads : (gpa page l : ℕ) → gpa < 2 ^ 47 → HasEntry m w t x.root page gpa (suc l) → Reads (hold c hs) w (place.Word page (index_at (suc l) gpa)) Whole
  upper-reads gpa page l small has =
      subst (λ (s : Spot). MayAt (hold c hs) s (λ z. reads z Whole)) (sym (entry-spot m c.memory c.state t sh alive x gpa small page (suc l) has)) (loads-upper (hold c hs) w t page (named_at w t gpa (suc l)) h.tdr h.op h.tree l)

  -- a store that keeps the page which an entry of level 0 names, under P of that page alone
  pub named-writes : (gpa page : ℕ) → gpa < 2 ^ 47 → HasEntry m w t x.root page gpa 0 → holds_alone (hs ++ c.kept) (OfPage (named_at w t gpa 0)) ≡ true → Writes (hold c hs) w (place.Word page (index_at 0 gpa)) KeepsPage
  named-writes gpa page small has n =
      subst (λ (s : Spot). MayAt (hold c hs) s (λ z. writes z KeepsPage)) (sym (entry-spot m c.memory c.state t sh alive x gpa small page 0 has)) (stores-named (hold c hs) w t page (named_at w t gpa 0) h.tdr h.op h.tree n)

  -- the child count, under T alone
  module _ (la : Lawful m w) (a : holds_alone (hs ++ c.kept) (OfTree t) ≡ true) where
    pub count-reads : Reads (hold c hs) w (place.Word t TDR_CHILDREN) Whole
    count-reads = rw (tdr-spot w t 2 alive.kind (la.pages.tdr t alive.kind)) (inr (inr (inl (h.tdr, (h.op, (a, tt))))))

    pub count-owes : (w' : World) → IsAlive w'.pages w'.tds t → w'.pages.owners t ≡ t → Owes (hold c hs) w' (place.Word t TDR_CHILDREN) KeepsNothing
    count-owes w' is own = rw (tdr-spot w' t 2 is.kind own) (inr (inr (inl (h.tdr, (h.op, (a, tt))))))
