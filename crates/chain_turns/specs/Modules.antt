-- The processors of a chain's modules over words.
use Rattle.std.specs.Prelude.{◌≡◌, ◌≢◌, ℕ, ◌<◌, ◌≤◌, List, [], ◌∷◌, ◌++◌, length, All}
use Rattle.td_words.specs.Limits.{IsMachine}
use Rattle.flat_core.specs.World.{put}
use Rattle.flat_core.specs.Event.{calls_of}
use Rattle.step_core.specs.Items.{Table, PlaysTo}
use Rattle.leaf_engine.specs.declared.events.Event.{Event}
use Rattle.leaf_engine.specs.OwnLists.{Piece, taken_in, LeafTable, WordLp, first_lp, LpTurns}
use Rattle.leaf_engine.specs.Merges.{no_table, AreCodes}
use Rattle.leaf_table.specs.Given.{given_of}
use Rattle.leaf_table.specs.Table.{leaf_table}
use Rattle.chain_laws.specs.Chains.{Chain, Running, state_of, opening_now, items_due, at_moment}
use Rattle.chain_laws.specs.Inputs.{AreSlotsApart}
use Rattle.turn_laws.specs.Turns.{HasBegun, AllStand}

-- what is asked of a chain's scripts
pub record AreScripts (c : Chain) : Type 0 where
  pub machine : (i : ℕ) → IsMachine (c.openings i).machine
  pub few : (i : ℕ) → length (c.openings i).calls ≤ 8
  pub codes : (i : ℕ) → AreCodes (c.openings i)
  pub apart : AreSlotsApart c

-- the leaves by which the processors of module i make their events at a moment
abbrev pub leaves_now : Chain → Running → ℕ → ℕ → LeafTable
leaves_now c r i = let o = opening_now c r.modules i in leaf_table o.machine (given_of o) o.codes

-- Its processors stand where that moment has them, on a table whose words show its state; and calls whose runs are kept have begun.
pub record StandsAtMoment (c : Chain) (r : Running) (i : ℕ) (now : ℕ → WordLp) (u : Table) : Type 0 where
  pub all : AllStand (opening_now c r.modules i) (leaves_now c r i) now (state_of r i) u
  pub begun : (p : ℕ) → p < length (c.openings i).calls → HasBegun (now p).run (now p).guest

-- So it is at the start; after a turn of the module, made by the processor of the item that is due, or by none where no item is; and
-- after turns of other modules.
pub record ModulesStand : Type 0 where
  pub first : (c : Chain) (i : ℕ) → StandsAtMoment c (at_moment c []) i (λ p. first_lp (calls_of (c.openings i).calls p)) no_table
  pub turn : (c : Chain) (turns : List ℕ) (i : ℕ) (now : ℕ → WordLp) (t u : Table) (p : ℕ) (items : List ℕ) (e : Event) (ps : List Piece) (after : WordLp) → AreScripts c
      → let r = at_moment c turns in let o = opening_now c r.modules i in
      items_due o (state_of r i) (r.modules i).items ≡ p ∷ items → p < length o.calls → StandsAtMoment c r i now t → LpTurns (leaves_now c r i p) o.machine (now p) e ps after → PlaysTo t (taken_in ps) u
      → StandsAtMoment c (at_moment c (turns ++ i ∷ [])) i (put now p after) u
  pub none : (c : Chain) (turns : List ℕ) (i : ℕ) (now : ℕ → WordLp) (t : Table) → let r = at_moment c turns in
      items_due (opening_now c r.modules i) (state_of r i) (r.modules i).items ≡ [] → StandsAtMoment c r i now t → StandsAtMoment c (at_moment c (turns ++ i ∷ [])) i now t
  pub others : (c : Chain) (turns after : List ℕ) (i : ℕ) (now : ℕ → WordLp) (t : Table) → AreScripts c → All (λ j. j ≢ i) after
      → StandsAtMoment c (at_moment c turns) i now t → StandsAtMoment c (at_moment c (turns ++ after)) i now t
