-- Which acts change what words are, and under which locks: for each word that acts are written in, that it changes that
-- only as the rules say.
use Rattle.std.specs.Prelude.{◌≡◌, ◌⊎◌, ℕ, true, false}
use Rattle.td_words.specs.declared.names.PageKind.{PageKind}
use Rattle.td_words.specs.declared.names.LifeState.{LifeState}
use Rattle.td_words.specs.declared.names.OpState.{OpState}
use Rattle.td_words.specs.declared.calls.Call.{Call}
use Rattle.td_words.specs.declared.machines.Machine.{Machine}
use Rattle.td_words.specs.Packing.{Entry, Key}
use Rattle.td_words.specs.Place.{Word}
use Rattle.flat_core.specs.World.{World}
use Rattle.flat_core.specs.Processor.{OfPage, OfOp, OfTree, OfEpoch}
use Rattle.flat_core.specs.Lawful.{key_owner, Lawful}
use Rattle.flat_core.specs.Conditions.{is_host}
use Rattle.flat_core.specs.Opening.{Opening}
use Rattle.flat_core.specs.Row.{Passes}
use Rattle.flat_core.specs.Table.{row_of}
use Rattle.flat_core.specs.Effects.{take_node, set_entry, set_op, set_epoch, set_life, set_key, enter_guest, leave_guest}
use Rattle.word_rules.specs.Guards.{Grip, Locked}
use Rattle.word_rules.specs.Permissions.{MayAt, Moves, Respects}
use Rattle.word_rules.specs.Rules.{moves}
use Rattle.word_rules.specs.Views.{named_by}
use Rattle.word_rules.specs.Spots.{slot_spot, is_empty}
use Rattle.word_rules.specs.CallUses.{HoldsTries}

-- all that tells of a TD what its words are
pub record SameTd (before after : World) (t : ℕ) : Type 0 where
  pub op : after.tds.ops t ≡ before.tds.ops t
  pub controls : after.tds.controls t ≡ before.tds.controls t
  pub epoch : after.tds.epochs t ≡ before.tds.epochs t
  pub empty : (b : ℕ) → is_empty after t b ≡ is_empty before t b
  pub named : (n : ℕ) → named_by (after.tds.entries t 0 n) ≡ named_by (before.tds.entries t 0 n)

-- of every TD and page
pub record SameWords (before after : World) : Type 0 where
  pub kinds : after.pages.kinds ≡ before.pages.kinds
  pub owners : after.pages.owners ≡ before.pages.owners
  pub levels : after.pages.levels ≡ before.pages.levels
  pub numbers : after.pages.numbers ≡ before.pages.numbers
  pub tds : (t : ℕ) → SameTd before after t

-- an act that leaves all of that, lives, and whose HKIDs are: it stores words, marks, states of entries, counts, sessions,
-- registers or memories alone
pub record SameSpots (before after : World) : Type 0 where
  pub words : SameWords before after
  pub lives : after.tds.lives ≡ before.tds.lives
  pub keys : (h : ℕ) → key_owner (after.key_table.keys h) ≡ key_owner (before.key_table.keys h)

-- P of the TDR page and O are held
pub record HoldsTd (g : Grip) (t : ℕ) : Type 0 where
  pub tdr : g.has (Locked (OfPage t)) ≡ true
  pub op : g.has (Locked (OfOp t)) ≡ true

-- Each of these acts, under the locks named.
pub record ActsRespect (g : Grip) (w : World) : Type 0 where
  pub leaves : (after : World) → SameSpots w after → Respects g w after
  pub entry : (t level number : ℕ) (e : Entry) → HoldsTd g t → g.sole (Locked (OfTree t)) ≡ true → Respects g w (set_entry t level number e w)
  pub entry_state : (t level number : ℕ) (e : Entry) → named_by e ≡ named_by (w.tds.entries t level number) → Respects g w (set_entry t level number e w)
  pub page : (p : ℕ) (k : PageKind) (t level number : ℕ) → ((i : ℕ) → Moves g w (Word p i)) → Respects g w (take_node p k t level number w)
  pub taken : (p : ℕ) (k : PageKind) (t level number : ℕ) → is_host w p ≡ true → g.sole (Locked (OfPage p)) ≡ true → Respects g w (take_node p k t level number w)
  pub reclaimed : (p : ℕ) (k : PageKind) (t level number : ℕ) → is_host w p ≡ false → g.has (Locked (OfPage (w.pages.owners p))) ≡ true → g.sole (Locked (OfPage (w.pages.owners p))) ≡ true → g.sole (Locked (OfPage p)) ≡ true → Respects g w (take_node p k t level number w)
  pub op : (t : ℕ) (s : OpState) → g.has (Locked (OfPage t)) ≡ true → g.sole (Locked (OfOp t)) ≡ true → Respects g w (set_op t s w)
  pub epoch : (t e : ℕ) → HoldsTd g t → g.sole (Locked (OfEpoch t)) ≡ true → Respects g w (set_epoch t e w)
  pub epoch_op : (t e : ℕ) → g.has (Locked (OfPage t)) ≡ true → g.sole (Locked (OfOp t)) ≡ true → Respects g w (set_epoch t e w)
  pub life : (t : ℕ) (s : LifeState) → g.has (Locked (OfPage t)) ≡ true → g.sole (Locked (OfPage t)) ≡ true → Respects g w (set_life t s w)
  pub enter : (m : Machine) (me t v : ℕ) → Lawful m w → w.pages.owners v ≡ t → g.has (Locked (OfPage t)) ≡ true → Respects g w (enter_guest me v (w.tds.epochs t) w)
  pub exit : (m : Machine) (t v : ℕ) → Lawful m w → w.pages.owners v ≡ t → g.has (Locked (OfPage t)) ≡ true → Respects g w (leave_guest v w)
  pub key : (h : ℕ) (k : Key) → (key_owner k ≡ key_owner (w.key_table.keys h)) ⊎ MayAt g (slot_spot w h) moves → Respects g w (set_key h k w)

abbrev pub EffectsRespect : Type 0
EffectsRespect = (g : Grip) (w : World) → ActsRespect g w

-- beside each row: its act changes what words are only as the rules say, under the locks of its tries
abbrev pub RowsRespect : Type 0
RowsRespect = (o : Opening) (me : ℕ) (c : Call) (g : Grip) (w : World) → let row = row_of o me c in
    Lawful o.machine w → Passes (row.items w) → HoldsTries g (row.items w) → Respects g w (row.act w)
