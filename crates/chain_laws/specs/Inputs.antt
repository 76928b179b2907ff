-- An input that has come stays as it came, so a call has one and the same bundle from its first event to its last (TD Migration
-- Architecture, "Migration Bundles").
use Rattle.std.specs.Prelude.{◌≡◌, ◌≢◌, ℕ, suc, List, ◌∷◌, ◌++◌, Some, AllPairs}
use Rattle.std.specs.List.{Contains}
use Rattle.td_words.specs.Slots.{output_slots}
use Rattle.td_words.specs.declared.calls.Call.{Call}
use Rattle.flat_core.specs.Processor.{nothing_yet}
use Rattle.flat_core.specs.Opening.{Incoming}
use Rattle.flat_core.specs.Table.{row_of}
use Rattle.flat_core.specs.Event.{lines_left}
use Rattle.chain_laws.specs.Chains.{Chain, state_of, inputs, opening_now, at_moment}

-- No two lines of a script name one output slot, and none of a script names one of the script two places before it.
pub record AreSlotsApart (c : Chain) : Type 0 where
  pub own : (i : ℕ) → AllPairs (λ a b. a ≢ b) (output_slots (c.openings i).calls)
  pub two : (i slot : ℕ) → Contains (output_slots (c.openings i).calls) slot → Contains (output_slots (c.openings (suc (suc i))).calls) slot → ⊥

abbrev pub InputsStay : Type 0
InputsStay = (c : Chain) (before after : List ℕ) (i slot : ℕ) (b : Incoming) → AreSlotsApart c
    → inputs c (at_moment c before).modules i slot ≡ Some b → inputs c (at_moment c (before ++ after)).modules i slot ≡ Some b

-- So the row of a call that has begun stays, whatever comes in besides.
abbrev pub RowsStay : Type 0
RowsStay = (c : Chain) (before after : List ℕ) (i p : ℕ) (x : Call) (xs : List Call) → AreSlotsApart c
    → let r = at_moment c before in let q = at_moment c (before ++ after) in let lp = (state_of r i).lps p in
    lines_left (c.openings i) p lp ≡ x ∷ xs → lp.call ≢ nothing_yet → row_of (opening_now c q.modules i) p x ≡ row_of (opening_now c r.modules i) p x
