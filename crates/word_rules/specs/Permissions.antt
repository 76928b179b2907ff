-- What a processor may do at a word, by what it has of the guards.
use Rattle.std.specs.Prelude.{◌≡◌, ◌⊎◌, ℕ, true, false}
use Rattle.td_words.specs.Place.{WordPlace}
use Rattle.flat_core.specs.World.{World}
use Rattle.flat_core.specs.Processor.{OfPage}
use Rattle.word_rules.specs.Guards.{Grip, Locked, Apart, Meets, Rule}
use Rattle.word_rules.specs.Rules.{Class, View, Grade, KeepsNothing, reads, sees, writes, owes, fills, moves, tries, spares}
use Rattle.word_rules.specs.Spots.{Spot, spot, slot_spot, guard_at}

-- it meets a column's rule at a spot
abbrev pub MayAt : Grip → Spot → (Class → Rule) → Type 0
MayAt g at rule = Meets g (guard_at at) (rule at.class)

-- a load that stays until the act; one that finds what is shown; a store that is the act; one that is still to come; one
-- before the act; an act that makes the word another; and a step on a lock word
abbrev pub Reads : Grip → World → WordPlace → View → Type 0
Reads g w q v = MayAt g (spot w q) (λ c. reads c v)

abbrev pub Sees : Grip → World → WordPlace → View → Type 0
Sees g w q v = MayAt g (spot w q) (λ c. sees c v)

abbrev pub Writes : Grip → World → WordPlace → Grade → Type 0
Writes g w q k = MayAt g (spot w q) (λ c. writes c k)

abbrev pub Owes : Grip → World → WordPlace → Grade → Type 0
Owes g w q k = MayAt g (spot w q) (λ c. owes c k)

abbrev pub Fills : Grip → World → WordPlace → Type 0
Fills g w q = MayAt g (spot w q) fills

abbrev pub Moves : Grip → World → WordPlace → Type 0
Moves g w q = MayAt g (spot w q) moves

abbrev pub Tries : Grip → World → WordPlace → Type 0
Tries g w q = MayAt g (spot w q) tries

-- the same of the hasher in a slot, whose beginning and end are two acts
abbrev pub SwapsAct : Grip → World → ℕ → Type 0
SwapsAct g w h = MayAt g (slot_spot w h) (λ c. writes c KeepsNothing)

abbrev pub SwapsOwed : Grip → World → ℕ → Type 0
SwapsOwed g w h = MayAt g (slot_spot w h) (λ c. owes c KeepsNothing)

abbrev pub SlotMoves : Grip → World → ℕ → Type 0
SlotMoves g w h = MayAt g (slot_spot w h) moves

-- an act leaves what a word is, whose slot a hasher is in, and a TD's life, or may change it
pub record Respects (g : Grip) (before after : World) : Type 0 where
  pub word : (q : WordPlace) → (spot after q ≡ spot before q) ⊎ Moves g before q
  pub slot : (h : ℕ) → (slot_spot after h ≡ slot_spot before h) ⊎ SlotMoves g before h
  pub life : (t : ℕ) → (after.tds.lives t ≡ before.tds.lives t) ⊎ (g.sole (Locked (OfPage t)) ≡ true)

-- What one processor may store, or has still to store, is never what another reads as stable: at every word of every
-- world, for two processors whose grips are apart.
pub record NoConflict (g h : Grip) (w : World) : Type 0 where
  pub reads_writes : (q : WordPlace) (v : View) (k : Grade) → spares k v ≡ false → Reads g w q v → Writes h w q k → ⊥
  pub reads_owes : (q : WordPlace) (v : View) (k : Grade) → spares k v ≡ false → Reads g w q v → Owes h w q k → ⊥
  pub reads_moves : (q : WordPlace) (v : View) → Reads g w q v → Moves h w q → ⊥
  pub sees_owes : (q : WordPlace) (v : View) (k : Grade) → spares k v ≡ false → Sees g w q v → Owes h w q k → ⊥
  pub writes_owes : (q : WordPlace) (j k : Grade) → Writes g w q j → Owes h w q k → ⊥
  pub owes_owes : (q : WordPlace) (j k : Grade) → Owes g w q j → Owes h w q k → ⊥
  pub owes_moves : (q : WordPlace) (k : Grade) → Owes g w q k → Moves h w q → ⊥
  pub tries_owes : (q : WordPlace) (k : Grade) → Tries g w q → Owes h w q k → ⊥
  pub tries_reads : (q : WordPlace) (v : View) → Tries g w q → Reads h w q v → ⊥
  pub tries_writes : (q : WordPlace) (k : Grade) → Tries g w q → Writes h w q k → ⊥
  pub tries_fills : (q : WordPlace) → Tries g w q → Fills h w q → ⊥
  pub tries_moves : (q : WordPlace) → Tries g w q → Moves h w q → ⊥
  pub fills_reads : (q : WordPlace) (v : View) → Fills g w q → Reads h w q v → ⊥
  pub fills_sees : (q : WordPlace) (v : View) → Fills g w q → Sees h w q v → ⊥
  pub fills_writes : (q : WordPlace) (k : Grade) → Fills g w q → Writes h w q k → ⊥
  pub fills_owes : (q : WordPlace) (k : Grade) → Fills g w q → Owes h w q k → ⊥
  pub fills_fills : (q : WordPlace) → Fills g w q → Fills h w q → ⊥
  pub fills_moves : (q : WordPlace) → Fills g w q → Moves h w q → ⊥
  pub swaps : (slot : ℕ) → SwapsAct g w slot → SwapsAct h w slot → ⊥
  pub swaps_owed : (slot : ℕ) → SwapsAct g w slot → SwapsOwed h w slot → ⊥
  pub owed_swaps : (slot : ℕ) → SwapsOwed g w slot → SwapsOwed h w slot → ⊥
  pub swaps_moves : (slot : ℕ) → SwapsAct g w slot → SlotMoves h w slot → ⊥
  pub owed_swaps_moves : (slot : ℕ) → SwapsOwed g w slot → SlotMoves h w slot → ⊥

-- The same through an act of the other: what is read as stable, tried or filled and stores and swaps to come stay allowed,
-- and the stores and swaps that its act leaves to be made never meet them.
pub record NoLaterConflict (g h : Grip) (before after : World) : Type 0 where
  pub owes_kept : (q : WordPlace) (k : Grade) → Owes g before q k → Owes g after q k
  pub reads_kept : (q : WordPlace) (v : View) → Reads g before q v → Reads g after q v
  pub tries_kept : (q : WordPlace) → Tries g before q → Tries g after q
  pub fills_kept : (q : WordPlace) → Fills g before q → Fills g after q
  pub swaps_kept : (slot : ℕ) → SwapsAct g before slot → SwapsAct g after slot
  pub owed_swaps_kept : (slot : ℕ) → SwapsOwed g before slot → SwapsOwed g after slot
  pub reads_later : (q : WordPlace) (v : View) (k : Grade) → spares k v ≡ false → Reads g before q v → Owes h after q k → ⊥
  pub owes_later : (q : WordPlace) (j k : Grade) → Owes g before q j → Owes h after q k → ⊥
  pub tries_later : (q : WordPlace) (k : Grade) → Tries g before q → Owes h after q k → ⊥
  pub fills_later : (q : WordPlace) (k : Grade) → Fills g before q → Owes h after q k → ⊥
  pub swaps_later : (slot : ℕ) → SwapsAct g before slot → SwapsOwed h after slot → ⊥
  pub owed_swaps_later : (slot : ℕ) → SwapsOwed g before slot → SwapsOwed h after slot → ⊥

abbrev pub WordsNeverConflict : Type 0
WordsNeverConflict = (g h : Grip) (w : World) → Apart g h → NoConflict g h w

abbrev pub ActsNeverConflict : Type 0
ActsNeverConflict = (g h : Grip) (before after : World) → Apart g h → Respects h before after → NoLaterConflict g h before after

-- An act that leaves the world respects it, and so do two acts of one processor together.
pub record RespectsCompose : Type 0 where
  pub same : (g : Grip) (w : World) → Respects g w w
  pub both : (g : Grip) (before between after : World) → Respects g before between → Respects g between after → Respects g before after
