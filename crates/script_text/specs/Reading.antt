-- A script, line by line.
use Rattle.std.specs.Prelude.{◌≡◌, ℕ, ◌+◌, ◌^◌, Bool, List, [], ◌∷◌, ◌++◌, length, map, replicate, Option, Some, None, Result, Ok, Err, true, false, not, ◌==◌, nat_lt, nat_le, slice_index_or, slice_set, if◌then◌else◌}
use Rattle.td_words.specs.declared.calls.Call.{Call}
use Rattle.td_words.specs.declared.calls.Call.TheVariants as call
use Rattle.td_words.specs.declared.calls.GuestOp.{GuestOp}
use Rattle.td_words.specs.declared.machines.Machine.{Machine}
use Rattle.td_words.specs.Seen.{CodeSeen}
use Rattle.td_words.specs.Slots.{output_slot}
use Rattle.line_words.specs.Number.{number}
use Rattle.line_words.specs.Words.{pieces, words, is_printable, is_comment}
use Rattle.script_text.specs.declared.faults.Reason.{Reason}
use Rattle.script_text.specs.declared.faults.Reason.TheVariants as reason
use Rattle.script_text.specs.declared.faults.ScriptFault.{ScriptFault}
use Rattle.script_text.specs.declared.faults.ScriptFault.TheVariants.{Bad, OutOfMemory}
use Rattle.script_text.specs.declared.lines.Block.{Block}
use Rattle.script_text.specs.declared.lines.Block.TheVariants as block
use Rattle.script_text.specs.declared.lines.Entry.{Entry}
use Rattle.script_text.specs.declared.lines.Entry.TheVariants as entry
use Rattle.script_text.specs.declared.lines.Stage.{Stage}
use Rattle.script_text.specs.declared.drafts.Draft.{Draft}
use Rattle.script_text.specs.Blocks.{field_of, with_slot, none_named, list_place, none_listed, is_full}
use Rattle.script_text.specs.Counted.{◌>>=◌}
use Rattle.script_text.specs.Line.{entry_of}
use Rattle.script_text.specs.Schedule.{schedule_of}
use Rattle.script_text.specs.Seen.{ScriptSeen}

-- what the lines so far said
pub record SoFar : Type 0 where
  pub stage : Stage
  pub listed : List Bool  -- which lists of operations there were
  pub named : List Bool  -- which output slots were named
  pub schedule : List ℕ  -- its items so far, written out
  pub codes : List CodeSeen  -- the lists that have ended
  pub ops : List GuestOp  -- the operations so far of the list that is open
  pub calls : List (List Call)

abbrev pub draft_seen : Draft → SoFar
draft_seen d = record { stage = d.stage; listed = d.listed; named = d.named; schedule = d.schedule.items; codes = d.codes.items; ops = d.ops.items; calls = map (λ list. list.items) d.calls.items }

abbrev pub nothing_yet : SoFar
nothing_yet = record { stage = record { machine = None; block = None; had = replicate 8 false }; listed = none_listed; named = none_named; schedule = []; codes = []; ops = []; calls = [] }

-- at most 4,096 calls a processor
abbrev pub with_call : List (List Call) → ℕ → Call → Result (List (List Call)) Reason
with_call calls lp c =
    if nat_le 4096 (length (slice_index_or calls lp [])) then Err reason.Full
    else Ok (slice_set calls lp (slice_index_or calls lp [] ++ c ∷ []))

-- a call's line: FULL counts before SLOT
abbrev pub called_of : SoFar → ℕ → Call → Result SoFar Reason
called_of d lp c = do
  calls ← with_call d.calls lp c
  named ← with_slot d.named (output_slot c)
  Ok (record d { calls = calls; named = named })

-- a list with one more operation
abbrev pub with_op : List GuestOp → GuestOp → Result (List GuestOp) Reason
with_op ops g = if is_full ops g then Err reason.Full else Ok (ops ++ g ∷ [])

-- `end`: the operations of a list are its VCPU's
abbrev pub closed_of : SoFar → Option Block → SoFar
closed_of d (Some (block.Code p)) = record d { stage = record d.stage { block = None }; codes = d.codes ++ (record { tdr = p.tdr; index = p.index; ops = d.ops }) ∷ []; ops = [] }
closed_of d _ = record d { stage = record d.stage { block = None } }

-- a machine's processors have no calls yet; a block is open from its line to its `end`; words behind the first are looked
-- at as the items of a schedule line, and as the field of MNG.RD, which is the second of them
unfoldable pub entered_of : SoFar → Entry → List (List ℕ) → Result SoFar Reason
entered_of d (entry.Machine m) words = Ok (record d { stage = record d.stage { machine = Some m }; calls = replicate m.lps [] })
entered_of d (entry.Schedule lps) words = do
  schedule ← schedule_of lps d.schedule words
  Ok (record d { schedule = schedule })
entered_of d (entry.Open lp) words = Ok (record d { stage = record d.stage { block = Some (block.Lp lp); had = slice_set d.stage.had lp true } })
entered_of d (entry.List p) words = Ok (record d { stage = record d.stage { block = Some (block.Code p) }; listed = slice_set d.listed (list_place p) true })
entered_of d entry.End words = Ok (closed_of d d.stage.block)
entered_of d (entry.Call lp c) words = called_of d lp c
entered_of d (entry.Read lp tdr) words = do
  field ← field_of (slice_index_or words 1 [])
  calls ← with_call d.calls lp (call.MngRd tdr field)
  Ok (record d { calls = calls })
entered_of d (entry.Operation g) words = do
  ops ← with_op d.ops g
  Ok (record d { ops = ops })

-- a line without words and a comment are skipped
unfoldable pub worded_of : SoFar → List (List ℕ) → Result SoFar Reason
worded_of d [] = Ok d
worded_of d (w ∷ ws) =
    if is_comment w then Ok d else do
      e ← entry_of d.stage d.listed w (map number ws)
      entered_of d e ws

unfoldable pub line_of : SoFar → List ℕ → Result SoFar Reason
line_of d line = if not (is_printable line) then Err reason.Byte else worded_of d (words line)

-- a script ends outside blocks, and has a machine
abbrev pub script_of : Option Machine → Option Block → List ℕ → List CodeSeen → List (List Call) → ℕ → Result ScriptSeen ScriptFault
script_of None b schedule codes calls n = Err (Bad n reason.Machine)
script_of (Some m) (Some b) schedule codes calls n = Err (Bad n reason.Endless)
script_of (Some m) None schedule codes calls n = Ok (record { machine = m; schedule = schedule; codes = codes; calls = calls })

-- where the lines end; behind the last newline nothing may stand
abbrev pub ended_of : SoFar → ℕ → List ℕ → Result ScriptSeen ScriptFault
ended_of d n rest =
    if not (length rest == 0) then Err (Bad n reason.Unterminated)
    else script_of d.stage.machine d.stage.block d.schedule d.codes d.calls n

-- a line's fault, at its number
abbrev pub then_on : Result SoFar Reason → ℕ → (SoFar → Result ScriptSeen ScriptFault) → Result ScriptSeen ScriptFault
then_on (Ok d) n f = f d
then_on (Err r) n f = Err (Bad n r)

-- the pieces round the newlines, from line n on
abbrev pub read_from : SoFar → ℕ → List (List ℕ) → Result ScriptSeen ScriptFault
read_from d n [] = ended_of d n []
read_from d n (piece ∷ more) =
    if length more == 0 then ended_of d n piece else then_on (line_of d piece) n (λ e. read_from e (n + 1) more)

-- the script that bytes say, or the first bad line with the first reason that holds
unfoldable pub read_of : List ℕ → Result ScriptSeen ScriptFault
read_of bytes = if nat_lt (2 ^ 24) (length bytes) then Err (Bad 0 reason.Length) else read_from nothing_yet 1 (pieces bytes)

-- what reading gives, unless memory ran out
abbrev pub IsAnswered : Result ScriptSeen ScriptFault → Result ScriptSeen ScriptFault → Type 0
IsAnswered read (Ok s) = read ≡ Ok s
IsAnswered read (Err (Bad n r)) = read ≡ Err (Bad n r)
IsAnswered read (Err OutOfMemory) = Unit {0}
