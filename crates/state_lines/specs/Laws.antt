-- What words tell of a state.
use Rattle.std.specs.Prelude.{◌≡◌, ℕ, suc, ◌<◌, List, [], ◌∷◌, length, Some, None, slice_index}
use Rattle.td_words.specs.Limits.{IsMachine}
use Rattle.td_words.specs.declared.machines.Machine.{Machine}
use Rattle.td_words.specs.Place.{WordPlace, IsIn, address}
use Rattle.flat_core.specs.Lawful.{Lawful}
use Rattle.field_lines.specs.declared.lines.Form.{Form}
use Rattle.flat_core.specs.Opening.{Opening}
use Rattle.flat_core.specs.Event.{State, Event, start, next_event, event, lines_left}
use Rattle.flat_core.specs.Run.{play, to_the_end}
use Rattle.word_rules.specs.Cells.{cell, IsAs}
use Rattle.state_lines.specs.After.{after_events}
use Rattle.state_lines.specs.Lines.{texts_below}
use Rattle.leaf_engine.specs.OwnLists.{LeafTable, WordLp}
use Rattle.leaf_engine.specs.Standing.{LpStands}
use Rattle.state_lines.specs.LpRead.{lp_read}
use Rattle.state_lines.specs.StateText.{page_seen, lp_text}
use Rattle.state_lines.specs.WordText.{page_read, owner_read}

-- a machine's words, in the order of their addresses, show a state
abbrev pub AreShown : Machine → List ℕ → State → Type 0
AreShown m words s = (q : WordPlace) → IsIn m q → IsAs (cell s q) (slice_index words (address m.pages q))

-- Words that show a lawful state tell what is told of its pages, and whose each page is.
pub record WordsTellPages : Type 0 where
  pub pages : (f : Form) (m : Machine) (words : List ℕ) (s : State) → IsMachine m → Lawful m s.world → AreShown m words s
      → texts_below (page_read f words) m.pages ≡ texts_below (page_seen f s.world) m.pages
  pub owner : (m : Machine) (words : List ℕ) (s : State) (p : ℕ) → IsMachine m → Lawful m s.world → AreShown m words s → p < m.pages
      → owner_read words p ≡ s.world.pages.owners p

-- And a logical processor that stands where such a state has it knows of itself what is told of it.
abbrev pub LpsTell : Type 0
LpsTell = (f : Form) (o : Opening) (t : LeafTable) (p calls : ℕ) (words : List ℕ) (s : State) (at_words : WordPlace → ℕ) (at : WordLp) → IsMachine o.machine → Lawful o.machine s.world → AreShown o.machine words s
    → LpStands o t p s.world at_words (s.lps p) at → lp_read f words p calls at ≡ lp_text f p calls (s.lps p)

-- How events lead on. An item of a processor that has ended changes nothing, and neither does one more of a processor before which
-- all have ended, where the run goes on to its end; and where all have ended nothing is left.
pub record StatesGoOn : Type 0 where
  pub moved : (o : Opening) (s : State) (n p : ℕ) (e : Event) (ps : List ℕ) → next_event o s p ≡ Some e → after_events o (suc n) (p ∷ ps) s ≡ after_events o n ps (event o s p)
  pub idle : (o : Opening) (s : State) (n p : ℕ) (ps : List ℕ) → lines_left o p (s.lps p) ≡ [] → after_events o n (p ∷ ps) s ≡ after_events o n ps s
  pub one_more : (o : Opening) (schedule : List ℕ) (n p : ℕ) → p < length o.calls
      → let s = play o schedule (start o None) in ((q : ℕ) → q < p → lines_left o q (s.lps q) ≡ []) → after_events o n (p ∷ to_the_end 0 o.calls) s ≡ after_events o n (to_the_end 0 o.calls) s
  pub ended : (o : Opening) (s : State) (n : ℕ) → ((q : ℕ) → q < length o.calls → lines_left o q (s.lps q) ≡ []) → after_events o n (to_the_end 0 o.calls) s ≡ s
