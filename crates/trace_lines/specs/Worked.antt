-- Worked traces, which compute.
use Rattle.std.specs.Prelude.{◌≡◌, ℕ, true, false, List, [], ◌∷◌, ◌++◌, map, drop, replicate, Some, None}
use Rattle.td_words.specs.declared.names.Access.TheVariants.{Read}
use Rattle.td_words.specs.declared.names.LockName.TheVariants.{Page, Op, Epoch, Keys}
use Rattle.td_words.specs.declared.names.Mode.TheVariants.{Shared, Exclusive}
use Rattle.td_words.specs.declared.calls.Call.TheVariants.{HostRead, MngCreate, VpEnter}
use Rattle.td_words.specs.declared.calls.GuestOp.{GuestOp}
use Rattle.td_words.specs.declared.calls.GuestOp.TheVariants.{Load}
use Rattle.td_words.specs.declared.refusals.Status.TheVariants.{OperandBusy}
use Rattle.td_words.specs.declared.replies.Reply.{Reply}
use Rattle.td_words.specs.declared.replies.Reply.TheVariants.{Refused}
use Rattle.flat_core.specs.Opening.{Opening}
use Rattle.flat_core.specs.Worked.{usual_opening, success}
use Rattle.flat_core.specs.GuestWorked.{opening_with, ready}
use Rattle.trace_lines.specs.declared.traces.What.{What}
use Rattle.trace_lines.specs.declared.traces.What.TheVariants.{Tries, Undoes, Acts, Walks, Accesses, Counts, Releases}
use Rattle.trace_lines.specs.declared.traces.Traced.{Traced}
use Rattle.trace_lines.specs.Traces.{traces}

-- Three processors meet at a page's lock: the first has it, the second's shared try is denied, and isn't undone yet when the
-- third's exclusive one comes.
abbrev pub three_meet : Opening
three_meet = usual_opening ((MngCreate 1 1 ∷ []) ∷ (HostRead 1 0 ∷ []) ∷ (MngCreate 1 1 ∷ []) ∷ [])

-- an event of a processor's first call, that goes on or ends with it
abbrev pub on_the_way : (number lp : ℕ) → What → Traced
on_the_way n p e = record { number = n; lp = p; line = 1; what = e; reply = None }

abbrev pub at_its_end : (number lp : ℕ) → What → Reply → Traced
at_its_end n p e r = record { number = n; lp = p; line = 1; what = e; reply = Some r }

-- what the events of an entry were with these operations, behind the 83 that bring its TD up to RUNNABLE
abbrev pub entry_traced : List GuestOp → List What
entry_traced ops = map (λ (t : Traced). t.what) (drop 83 (traces (opening_with ops ((ready ++ VpEnter 1 4 9 ∷ []) ∷ [])) []))

pub record Examples : Type 0 where
  pub meeting : traces three_meet (0 ∷ 1 ∷ replicate 4 0 ++ 2 ∷ 1 ∷ [])
      ≡ on_the_way 1 0 (Tries (Page 1) Exclusive true)
      ∷ on_the_way 2 1 (Tries (Page 1) Shared false)
      ∷ on_the_way 3 0 (Tries Keys Exclusive true)
      ∷ on_the_way 4 0 Acts
      ∷ on_the_way 5 0 (Releases Keys)
      ∷ at_its_end 6 0 (Releases (Page 1)) success
      ∷ at_its_end 7 2 (Tries (Page 1) Exclusive false) (Refused (OperandBusy (Page 1)))
      ∷ at_its_end 8 1 (Undoes (Page 1)) (Refused (OperandBusy (Page 1)))
      ∷ []
  pub entry : entry_traced (Load 1 0 ∷ [])
      ≡ Tries (Page 1) Shared true ∷ Tries Op Shared true ∷ Tries (Page 4) Exclusive true ∷ Tries Epoch Shared true ∷ Acts ∷ Releases Epoch
      ∷ Walks 0 3 ∷ Walks 0 2 ∷ Walks 0 1 ∷ Walks 0 0 ∷ Accesses Read 0 8
      ∷ Counts ∷ Releases (Page 4) ∷ Releases Op ∷ Releases (Page 1) ∷ []
