-- A script that is written out is read again.
use Rattle.std.proofs.Common.{◌≡◌, ℕ, zero, suc, ◌+◌, ◌*◌, ◌^◌, ◌<◌, ◌≤◌, ◌≢◌, ◌%◌, ◌==◌, List, [], ◌∷◌, ◌++◌, length, map, get_or, set, replicate, Bool, true, false, leb, ltb, Option, Some, None, Result, Ok, refl, ap, sym, ◌∙◌, subst, arith}
use Rattle.std.specs.Prelude.{codes}
use Rattle.std.specs.List.{All, list_all, filter_map}
use Rattle.std.specs.Fmt.{decimal}
use Rattle.std.proofs.lemmas.Bool.{and_parts, and_from}
use Rattle.std.proofs.lemmas.Fmt.{length-decimal-le, decimal_digit}
use Rattle.std.proofs.lemmas.List.{append_assoc, append-nil, length-append, get_or-set_other}
use Rattle.std.proofs.lemmas.List.Elements.{All-nil, All-cons, All-head, All-tail, All-append}
use Rattle.std.proofs.Math.Seq.{get_or-append_seam, set-append_seam}
use Rattle.td_words.specs.declared.calls.Call.{Call}
use Rattle.td_words.specs.declared.calls.Call.TheVariants as calls
use Rattle.td_words.specs.declared.calls.GuestOp.{GuestOp}
use Rattle.td_words.specs.declared.calls.GuestOp.TheVariants as guest
use Rattle.td_words.specs.declared.machines.Machine.{Machine}
use Rattle.td_words.specs.declared.names.ReadField.{ReadField}
use Rattle.td_words.specs.declared.names.ReadField.TheVariants as field
use Rattle.td_words.specs.NameText.{read_text}
use Rattle.td_words.specs.Limits.{IsMachine, in_limits}
use Rattle.td_words.specs.Seen.{CodeSeen}
use Rattle.td_words.specs.Slots.{output_slot, all_calls, output_slots}
use Rattle.line_words.specs.Lines.{words_text, line_text}
use Rattle.line_words.specs.Number.{number}
use Rattle.line_words.specs.Words.{pieces, is_comment}
use Rattle.line_words.proofs.Texts.{IsWord, fits, fits_below, decimals_are_words, printable_text, words_again, numbers_read, names_read, pieces_text}
use Rattle.script_text.specs.declared.code_blocks.CodePlace.{CodePlace}
use Rattle.script_text.specs.declared.faults.Reason.{Reason}
use Rattle.script_text.specs.declared.faults.ScriptFault.{ScriptFault}
use Rattle.script_text.specs.declared.lines.Block.{Block}
use Rattle.script_text.specs.declared.lines.Block.TheVariants as block
use Rattle.script_text.specs.declared.lines.Entry.{Entry}
use Rattle.script_text.specs.declared.lines.Entry.TheVariants as entry
use Rattle.script_text.specs.declared.lines.Stage.{Stage}
use Rattle.script_text.specs.Counted.{◌>>=◌}
use Rattle.script_text.specs.Line.{entry_of, machine_of, block_of, end_of, call_of, operation_line_of}
use Rattle.script_text.specs.Blocks.{field_of, with_slot, none_named, code_of, none_listed, is_report, reports_in, is_full}
use Rattle.script_text.specs.Reading.{SoFar, nothing_yet, called_of, entered_of, worded_of, line_of, read_from}
use Rattle.script_text.specs.Seen.{ScriptSeen}
use Rattle.script_text.specs.Spelling.{call_word, call_numbers, call_names, FitsCall, FitsOp, op_word, op_numbers, ops_text, codes_text, calls_text, schedule_text, blocks_text, script_text}
use Rattle.script_text.specs.Laws.{IsCode, AreOfOthers, IsInForm, ScriptsReadAgain}
use Rattle.script_text.proofs.Reports.{reports_more, has_room}
use Rattle.script_text.proofs.FirstBads.{within}
use Rattle.script_text.proofs.Slots.{FitsSlot, IsUnnamed, slot_is, names_after, Left, LeftFirst, left_first}
use Rattle.script_text.proofs.Steps.{good_line}
use Rattle.script_text.proofs.Items.{items_read}

-- what a written line says, whose words behind the first are those numbers
abbrev said_by : SoFar → List ℕ → List (Option ℕ) → List (List ℕ) → Result SoFar Reason
said_by d w seen ws = entry_of d.stage d.listed w seen >>= (λ e. entered_of d e ws)

worded_text : (d : SoFar) (w : List ℕ) (seen : List (Option ℕ)) (ws : List (List ℕ)) → is_comment w ≡ false → map number ws ≡ seen → worded_of d (w ∷ ws) ≡ said_by d w seen ws
unfolding worded_of
worded_text d w seen ws h k = rw (h, k) refl

line_said : (d : SoFar) (w : List ℕ) (seen : List (Option ℕ)) (ws : List (List ℕ)) → IsWord w → is_comment w ≡ false → All IsWord ws → map number ws ≡ seen → line_of d (w ++ words_text ws) ≡ said_by d w seen ws
unfolding line_of
line_said d w seen ws h c k r = rw (printable_text w ws h k, words_again w ws h k) (worded_text d w seen ws c r)

-- a written line is passed, and the rest goes on
words_passed : (d e : SoFar) (n : ℕ) (w : List ℕ) (seen : List (Option ℕ)) (ws : List (List ℕ)) (rest : List ℕ) → IsWord w → is_comment w ≡ false → All IsWord ws → map number ws ≡ seen → said_by d w seen ws ≡ Ok e
    → read_from d n (pieces (line_text w ws ++ rest)) ≡ read_from e (n + 1) (pieces rest)
words_passed d e n w seen ws rest h c k r s =
    good_line d e n (line_text w ws ++ rest) (w ++ words_text ws) rest (pieces_text w ws rest h k) (line_said d w seen ws h c k r ∙ s)

-- a line of numbers
abbrev said : SoFar → List ℕ → List ℕ → Result SoFar Reason
said d w ns = said_by d w (map Some ns) (map decimal ns)

line_passed : (d e : SoFar) (n : ℕ) (w ns rest : List ℕ) → IsWord w → is_comment w ≡ false → list_all fits ns ≡ true → said d w ns ≡ Ok e → read_from d n (pieces (line_text w (map decimal ns) ++ rest)) ≡ read_from e (n + 1) (pieces rest)
line_passed d e n w ns rest h c k s = words_passed d e n w (map Some ns) (map decimal ns) rest h c (decimals_are_words ns k) (numbers_read ns k) s

-- numbers of 64 bits
one_fits : (n : ℕ) (ns : List ℕ) → n < 2 ^ 64 → list_all fits ns ≡ true → list_all fits (n ∷ ns) ≡ true
one_fits n ns h k = and_from (fits n) (list_all fits ns) (grind arith) k

all_fit : (ns : List ℕ) → All (λ n. n < 2 ^ 64) ns → list_all fits ns ≡ true
all_fit [] h = refl
all_fit (n ∷ ns) h = one_fits n ns (All-head (λ n. n < 2 ^ 64) n ns h) (all_fit ns (All-tail (λ n. n < 2 ^ 64) n ns h))

below_fit : (lps : ℕ) (ns : List ℕ) → lps ≤ 8 → All (λ lp. lp < lps) ns → list_all fits ns ≡ true
below_fit lps [] few h = refl
below_fit lps (n ∷ ns) few h =
    let small : n < lps = All-head (λ lp. lp < lps) n ns h in
    one_fits n ns (omega arith) (below_fit lps ns few (All-tail (λ lp. lp < lps) n ns h))

-- what the lines so far said of a machine
abbrev so_far : Machine → Option Block → List Bool → List Bool → List Bool → List ℕ → List CodeSeen → List GuestOp → List (List Call) → SoFar
so_far m b had listed named schedule lists ops calls = record { stage = record { machine = Some m; block = b; had = had }; listed = listed; named = named; schedule = schedule; codes = lists; ops = ops; calls = calls }

-- outside blocks, and so with no list that is open
abbrev outside : Machine → List Bool → List Bool → List Bool → List ℕ → List CodeSeen → List (List Call) → SoFar
outside m had listed named schedule lists calls = so_far m None had listed named schedule lists [] calls

machine_said : (m : Machine) → in_limits m.lps m.pages m.hkids ≡ true → said nothing_yet (codes "machine") (m.lps ∷ m.pages ∷ m.hkids ∷ []) ≡ Ok (outside m (replicate 8 false) none_listed none_named [] [] (replicate m.lps []))
unfolding entry_of machine_of entered_of
machine_said m h = rw h refl

schedule_said : (m : Machine) (had listed named : List Bool) (lists : List CodeSeen) (calls : List (List Call)) (n : ℕ) (ns : List ℕ) → m.lps ≤ 8 → All (λ lp. lp < m.lps) (n ∷ ns) → length (n ∷ ns) ≤ 2 ^ 20
    → said (outside m had listed named [] lists calls) (codes "schedule") (n ∷ ns) ≡ Ok (outside m had listed named (n ∷ ns) lists calls)
unfolding entry_of entered_of
schedule_said m had listed named lists calls n ns few h room = rw (items_read m.lps n ns few h room) refl

block_said : (m : Machine) (had listed named : List Bool) (schedule : List ℕ) (lists : List CodeSeen) (calls : List (List Call)) (lp : ℕ) → lp < m.lps → get_or had lp false ≡ false
    → said (outside m had listed named schedule lists calls) (codes "lp") (lp ∷ []) ≡ Ok (so_far m (Some (block.Lp lp)) (set had lp true) listed named schedule lists [] calls)
unfolding entry_of block_of entered_of
block_said m had listed named schedule lists calls lp h free =
    let e : ltb lp m.lps ≡ true = grind arith in
    rw (e, free) refl

end_said : (m : Machine) (lp : ℕ) (had listed named : List Bool) (schedule : List ℕ) (lists : List CodeSeen) (calls : List (List Call)) → said (so_far m (Some (block.Lp lp)) had listed named schedule lists [] calls) (codes "end") [] ≡ Ok (outside m had listed named schedule lists calls)
unfolding entry_of end_of entered_of
end_said m lp had listed named schedule lists calls = refl

-- the words of a call's line, and what they are as numbers
abbrev call_words : Call → List (List ℕ)
call_words c = map decimal (call_numbers c) ++ call_names c

abbrev call_seen : Call → List (Option ℕ)
call_seen c = map Some (call_numbers c) ++ map number (call_names c)

abbrev entry_in : ℕ → Call → Entry
entry_in lp (calls.MngRd tdr field) = entry.Read lp tdr
entry_in lp c = entry.Call lp c

call_entry : (s : Stage) (listed : List Bool) (m : Machine) (lp : ℕ) (c : Call) → FitsSlot (output_slot c) → s.machine ≡ Some m → s.block ≡ Some (block.Lp lp) → entry_of s listed (call_word c) (call_seen c) ≡ Ok (entry_in lp c)
unfolding entry_of call_of
call_entry s listed m lp (calls.HostRead a b) fit h k = rw (h, k) refl
call_entry s listed m lp (calls.HostWrite a b c) fit h k = rw (h, k) refl
call_entry s listed m lp (calls.PhymemPageRdmd a) fit h k = rw (h, k) refl
call_entry s listed m lp calls.PhymemCacheWb fit h k = rw (h, k) refl
call_entry s listed m lp (calls.PhymemPageReclaim a b) fit h k = rw (h, k) refl
call_entry s listed m lp (calls.MngCreate a b) fit h k = rw (h, k) refl
call_entry s listed m lp (calls.MngKeyConfig a) fit h k = rw (h, k) refl
call_entry s listed m lp (calls.MngAddcx a b) fit h k = rw (h, k) refl
call_entry s listed m lp (calls.MngInit a) fit h k = rw (h, k) refl
call_entry s listed m lp (calls.MngRd a f) fit h k = rw (h, k) refl
call_entry s listed m lp (calls.MngVpflushdone a) fit h k = rw (h, k) refl
call_entry s listed m lp (calls.MngKeyFreeid a) fit h k = rw (h, k) refl
call_entry s listed m lp (calls.MrExtend a b) fit h k = rw (h, k) refl
call_entry s listed m lp (calls.MrFinalize a) fit h k = rw (h, k) refl
call_entry s listed m lp (calls.VpCreate a b) fit h k = rw (h, k) refl
call_entry s listed m lp (calls.VpInit a b c) fit h k = rw (h, k) refl
call_entry s listed m lp (calls.VpEnter a b c) fit h k = rw (h, k) refl
call_entry s listed m lp (calls.VpFlush a b) fit h k = rw (h, k) refl
call_entry s listed m lp (calls.MemSeptAdd a b c d) fit h k = rw (h, k) refl
call_entry s listed m lp (calls.MemSeptRd a b c) fit h k = rw (h, k) refl
call_entry s listed m lp (calls.MemSeptRemove a b c) fit h k = rw (h, k) refl
call_entry s listed m lp (calls.MemPageAdd a b c d) fit h k = rw (h, k) refl
call_entry s listed m lp (calls.MemPageAug a b c) fit h k = rw (h, k) refl
call_entry s listed m lp (calls.MemPageRemove a b) fit h k = rw (h, k) refl
call_entry s listed m lp (calls.MemPageRelocate a b c) fit h k = rw (h, k) refl
call_entry s listed m lp (calls.MemRangeBlock a b c) fit h k = rw (h, k) refl
call_entry s listed m lp (calls.MemRangeUnblock a b c) fit h k = rw (h, k) refl
call_entry s listed m lp (calls.MemTrack a) fit h k = rw (h, k) refl
call_entry s listed m lp (calls.MigStreamCreate a b) fit h k = rw (h, k) refl
call_entry s listed m lp (calls.ExportBlockw a b) fit h k = rw (h, k) refl
call_entry s listed m lp (calls.ExportUnblockw a b) fit h k = rw (h, k) refl
call_entry s listed m lp (calls.ExportPause a) fit h k = rw (h, k) refl
call_entry s listed m lp (calls.ExportAbort a) fit h k = rw (h, k) refl
call_entry s listed m lp (calls.ExportRestore a b) fit h k = rw (h, k) refl
call_entry s listed m lp (calls.ExportStateImmutable a slot) fit h k = rw (h, k, slot_is slot fit) refl
call_entry s listed m lp (calls.ExportMem a b c slot) fit h k = rw (h, k, slot_is slot fit) refl
call_entry s listed m lp (calls.ExportTrack a slot b) fit h k = rw (h, k, slot_is slot fit) refl
call_entry s listed m lp (calls.ExportStateTd a slot) fit h k = rw (h, k, slot_is slot fit) refl
call_entry s listed m lp (calls.ExportStateVp a b slot) fit h k = rw (h, k, slot_is slot fit) refl
call_entry s listed m lp (calls.ExportAbortByToken a b) fit h k = rw (h, k) refl
call_entry s listed m lp (calls.ImportStateImmutable a b) fit h k = rw (h, k) refl
call_entry s listed m lp (calls.ImportMem a b c) fit h k = rw (h, k) refl
call_entry s listed m lp (calls.ImportTrack a b) fit h k = rw (h, k) refl
call_entry s listed m lp (calls.ImportStateTd a b) fit h k = rw (h, k) refl
call_entry s listed m lp (calls.ImportStateVp a b c) fit h k = rw (h, k) refl
call_entry s listed m lp (calls.ImportCommit a) fit h k = rw (h, k) refl
call_entry s listed m lp (calls.ImportEnd a) fit h k = rw (h, k) refl
call_entry s listed m lp (calls.ImportAbort a slot) fit h k = rw (h, k, slot_is slot fit) refl

field_again : (f : ReadField) → field_of (read_text f) ≡ Ok f
field_again field.Life = refl
field_again field.Op = refl
field_again field.Epoch = refl
field_again field.Mrtd = refl

call_entered : (d : SoFar) (lp : ℕ) (c : Call) → entered_of d (entry_in lp c) (call_words c) ≡ called_of d lp c
unfolding entered_of
call_entered d lp (calls.MngRd a f) = rw (field_again f) refl
call_entered d lp _ = refl

-- in the block of the processor behind those that are done
abbrev in_block : Machine → List Bool → List Bool → List Bool → List ℕ → List CodeSeen → List (List Call) → List Call → List (List Call) → SoFar
in_block m had listed named schedule lists done calls later = so_far m (Some (block.Lp (length done))) had listed named schedule lists [] (done ++ calls ∷ later)

call_added : (m : Machine) (had listed named : List Bool) (schedule : List ℕ) (lists : List CodeSeen) (done : List (List Call)) (cs : List Call) (later : List (List Call)) (c : Call) → length cs < 4096
    → with_slot named (output_slot c) ≡ Ok (names_after named (output_slot c))
    → called_of (in_block m had listed named schedule lists done cs later) (length done) c ≡ Ok (in_block m had listed (names_after named (output_slot c)) schedule lists done (cs ++ c ∷ []) later)
call_added m had listed named schedule lists done cs later c room goes =
    let r : leb 4096 (length cs) ≡ false = grind arith in
    rw (get_or-append_seam done cs later [], r, set-append_seam done cs later (cs ++ c ∷ []), goes) refl

call_said : (m : Machine) (had listed named : List Bool) (schedule : List ℕ) (lists : List CodeSeen) (done : List (List Call)) (cs : List Call) (later : List (List Call)) (c : Call) → length cs < 4096
    → FitsSlot (output_slot c) → with_slot named (output_slot c) ≡ Ok (names_after named (output_slot c))
    → said_by (in_block m had listed named schedule lists done cs later) (call_word c) (call_seen c) (call_words c) ≡ Ok (in_block m had listed (names_after named (output_slot c)) schedule lists done (cs ++ c ∷ []) later)
call_said m had listed named schedule lists done cs later c room fit goes =
    rw (call_entry (in_block m had listed named schedule lists done cs later).stage listed m (length done) c fit refl refl)
    (call_entered (in_block m had listed named schedule lists done cs later) (length done) c ∙ call_added m had listed named schedule lists done cs later c room goes)

call_is_word : (c : Call) → IsWord (call_word c)
call_is_word (calls.HostRead a b) = record { bytes = refl; some = refl }
call_is_word _ = record { bytes = refl; some = refl }

call_no_comment : (c : Call) → is_comment (call_word c) ≡ false
call_no_comment (calls.HostRead a b) = refl
call_no_comment _ = refl

field_is_word : (f : ReadField) → IsWord (read_text f)
field_is_word field.Life = record { bytes = refl; some = refl }
field_is_word _ = record { bytes = refl; some = refl }

names_are_words : (c : Call) → All IsWord (call_names c)
names_are_words (calls.MngRd a f) = All-cons IsWord (read_text f) [] (field_is_word f) (All-nil IsWord)
names_are_words _ = All-nil IsWord

call_words_are_words : (c : Call) → FitsCall c → All IsWord (call_words c)
call_words_are_words c h = All-append IsWord (map decimal (call_numbers c)) (call_names c) (decimals_are_words (call_numbers c) (all_fit (call_numbers c) h)) (names_are_words c)

-- the slots of the calls to come
abbrev LeftIn : List Bool → List Call → Type 0
LeftIn named next = Left named (filter_map output_slot next)

-- the calls of a block, whatever stands behind them; `next` are the calls of later blocks
calls_passed : (m : Machine) (had listed named : List Bool) (schedule : List ℕ) (lists : List CodeSeen) (done later : List (List Call)) (next cs old : List Call) (n : ℕ) (rest : List ℕ) (read : Result ScriptSeen ScriptFault) → length old + length cs ≤ 4096 → All FitsCall cs
    → LeftIn named (cs ++ next) → ((k : ℕ) (names : List Bool) → LeftIn names next → read_from (in_block m had listed names schedule lists done (old ++ cs) later) k (pieces rest) ≡ read)
    → read_from (in_block m had listed named schedule lists done old later) n (pieces (calls_text cs ++ rest)) ≡ read
calls_passed m had listed named schedule lists done later next [] old n rest read few h left go =
    let P : List Call → Type 0 = λ cs. read_from (in_block m had listed named schedule lists done cs later) n (pieces rest) ≡ read in
    subst P (append-nil old) (go n named left)
calls_passed m had listed named schedule lists done later next (c ∷ cs) old n rest read few h left go =
    let P : ℕ → List Bool → List Call → Type 0 = λ k names all. read_from (in_block m had listed names schedule lists done all later) k (pieces rest) ≡ read in
    let first : LeftFirst named (output_slot c) (filter_map output_slot (cs ++ next)) = left_first named (output_slot c) (filter_map output_slot (cs ++ next)) left in
    let names : List Bool = names_after named (output_slot c) in
    rw append_assoc
    (words_passed (in_block m had listed named schedule lists done old later) (in_block m had listed names schedule lists done (old ++ c ∷ []) later) n (call_word c) (call_seen c) (call_words c) (calls_text cs ++ rest) (call_is_word c) (call_no_comment c)
    (call_words_are_words c (All-head FitsCall c cs h)) (names_read (call_numbers c) (call_names c) (all_fit (call_numbers c) (All-head FitsCall c cs h))) (call_said m had listed named schedule lists done old later c (omega arith) first.fits first.goes)
    ∙ calls_passed m had listed names schedule lists done later next cs (old ++ c ∷ []) (n + 1) rest read (simp length-append (omega arith)) (All-tail FitsCall c cs h) first.rest
    (λ k more left. subst (P k more) (sym (append_assoc old (c ∷ []) cs)) (go k more left)))

-- no processor from one on had a block
record Free (lp : ℕ) (had : List Bool) : Type 0 where
  pub from : (k : ℕ) → lp ≤ k → get_or had k false ≡ false

all_free : (n k : ℕ) → get_or (replicate n false) k false ≡ false
all_free zero k = refl
all_free (suc n) zero = refl
all_free (suc n) (suc k) = all_free n k

free_more : (lp : ℕ) (had : List Bool) → Free lp had → Free (lp + 1) (set had lp true)
free_more lp had h = record { from = λ k le. let ne : k ≢ lp = omega arith in rw (get_or-set_other had lp k true false ne) (h.from k (omega arith)) }

abbrev no_calls : List (List Call) → List (List Call)
no_calls lists = map (λ list. []) lists

end_is_word : IsWord (codes "end")
end_is_word = record { bytes = refl; some = refl }

-- one block, whatever stands behind it
block_passed : (m : Machine) (had listed named : List Bool) (schedule : List ℕ) (lists : List CodeSeen) (done later : List (List Call)) (next cs : List Call) (n : ℕ) (rest : List ℕ) (read : Result ScriptSeen ScriptFault)
    → length done < m.lps → m.lps ≤ 8 → Free (length done) had → length cs ≤ 4096 → All FitsCall cs → LeftIn named (cs ++ next)
    → ((k : ℕ) (names : List Bool) → LeftIn names next → read_from (outside m (set had (length done) true) listed names schedule lists (done ++ cs ∷ later)) k (pieces rest) ≡ read)
    → read_from (outside m had listed named schedule lists (done ++ [] ∷ later)) n (pieces (line_text (codes "lp") (decimal (length done) ∷ []) ++ (calls_text cs ++ (line_text (codes "end") [] ++ rest)))) ≡ read
block_passed m had listed named schedule lists done later next cs n rest read below few free room h left go =
    let had' = set had (length done) true in
    line_passed (outside m had listed named schedule lists (done ++ [] ∷ later)) (in_block m had' listed named schedule lists done [] later) n (codes "lp") (length done ∷ []) (calls_text cs ++ (line_text (codes "end") [] ++ rest)) (record { bytes = refl; some = refl }) refl
    (one_fits (length done) [] (omega arith) refl) (block_said m had listed named schedule lists (done ++ [] ∷ later) (length done) below (free.from (length done) (omega arith)))
    ∙ calls_passed m had' listed named schedule lists done later next cs [] (n + 1) (line_text (codes "end") [] ++ rest) read (omega arith) h left
    (λ k names left. line_passed (in_block m had' listed names schedule lists done cs later) (outside m had' listed names schedule lists (done ++ cs ∷ later)) k (codes "end") [] rest end_is_word refl refl (end_said m (length done) had' listed names schedule lists (done ++ cs ∷ later))
    ∙ go (k + 1) names left)

abbrev whole : Machine → List ℕ → List CodeSeen → List (List Call) → Result ScriptSeen ScriptFault
whole m schedule lists calls = Ok (record { machine = m; schedule = schedule; codes = lists; calls = calls })

abbrev AreFew : List Call → Type 0
AreFew cs = length cs ≤ 4096

blocks_passed : (m : Machine) (listed named : List Bool) (schedule : List ℕ) (lists : List CodeSeen) (more done : List (List Call)) (lp : ℕ) (had : List Bool) (n : ℕ) → lp ≡ length done → lp + length more ≤ m.lps → m.lps ≤ 8 → Free lp had → All AreFew more → All (λ cs. All FitsCall cs) more
    → LeftIn named (all_calls more) → read_from (outside m had listed named schedule lists (done ++ no_calls more)) n (pieces (blocks_text lp more)) ≡ whole m schedule lists (done ++ more)
blocks_passed m listed named schedule lists [] done lp had n is below few free room h left = refl
blocks_passed m listed named schedule lists (cs ∷ more) done lp had n is below few free room h left =
    let P : ℕ → Type 0 = λ k. read_from (outside m had listed named schedule lists (done ++ [] ∷ no_calls more)) n (pieces (line_text (codes "lp") (decimal k ∷ []) ++ (calls_text cs ++ (line_text (codes "end") [] ++ blocks_text (k + 1) more)))) ≡ whole m schedule lists (done ++ cs ∷ more) in
    let Q : List Bool → List (List Call) → ℕ → Type 0 = λ names calls k. read_from (outside m (set had (length done) true) listed names schedule lists calls) k (pieces (blocks_text (length done + 1) more)) ≡ whole m schedule lists (done ++ cs ∷ more) in
    let free' : Free (length done) had = subst (λ k. Free k had) is free in
    subst P (sym is)
    (block_passed m had listed named schedule lists done (no_calls more) (all_calls more) cs n (blocks_text (length done + 1) more) (whole m schedule lists (done ++ cs ∷ more)) (omega arith) few free' (All-head AreFew cs more room) (All-head (λ cs. All FitsCall cs) cs more h) left
    (λ k names left. subst (λ calls. Q names calls k) (append_assoc done (cs ∷ []) (no_calls more))
    (blocks_passed m listed names schedule lists more (done ++ cs ∷ []) (length done + 1) (set had (length done) true) k (sym (length-append done (cs ∷ []))) (omega arith) few (free_more (length done) had free') (All-tail AreFew cs more room) (All-tail (λ cs. All FitsCall cs) cs more h) left
    ∙ ap (whole m schedule lists) (append_assoc done (cs ∷ []) more))))

-- lists of operations

abbrev in_list : Machine → List Bool → List Bool → List Bool → List ℕ → List CodeSeen → CodePlace → List GuestOp → List (List Call) → SoFar
in_list m had listed named schedule lists p ops calls = so_far m (Some (block.Code p)) had listed named schedule lists ops calls

abbrev op_seen : GuestOp → List (Option ℕ)
op_seen g = map Some (op_numbers g)

below_is : (n k : ℕ) → n < k → ltb n k ≡ true
below_is n k h = grind arith

multiple_is : (n k : ℕ) → n % k ≡ 0 → (n % k == 0) ≡ true
multiple_is n k h = rw h refl

op_entry : (s : Stage) (listed : List Bool) (m : Machine) (p : CodePlace) (g : GuestOp) → FitsOp g → s.machine ≡ Some m → s.block ≡ Some (block.Code p) → entry_of s listed (op_word g) (op_seen g) ≡ Ok (entry.Operation g)
unfolding entry_of operation_line_of
op_entry s listed m p (guest.Set r v) f h k = rw (h, k, below_is r 8 f.0) refl
op_entry s listed m p (guest.Secret r k) f h j = rw (h, j, below_is r 8 f.0, below_is k 512 f.1) refl
op_entry s listed m p (guest.Add r o) f h k = rw (h, k, below_is r 8 f.0, below_is o 8 f.1) refl
op_entry s listed m p (guest.Load r gpa) f h k = rw (h, k, below_is r 8 f.0, below_is gpa (2 ^ 48) f.1, multiple_is gpa 8 f.2) refl
op_entry s listed m p (guest.Store r gpa) f h k = rw (h, k, below_is r 8 f.0, below_is gpa (2 ^ 48) f.1, multiple_is gpa 8 f.2) refl
op_entry s listed m p (guest.Accept gpa) f h k = rw (h, k, below_is gpa (2 ^ 47) f.0, multiple_is gpa 4096 f.1) refl
op_entry s listed m p (guest.Rtmr i) f h k = rw (h, k, below_is i 4 f) refl
op_entry s listed m p guest.Report f h k = rw (h, k) refl
op_entry s listed m p (guest.Vmcall r) f h k = rw (h, k, below_is r 8 f) refl

op_entered : (d : SoFar) (g : GuestOp) (ws : List (List ℕ)) → is_full d.ops g ≡ false → entered_of d (entry.Operation g) ws ≡ Ok (record d { ops = d.ops ++ g ∷ [] })
unfolding entered_of
op_entered d g ws room = rw room refl

op_said : (m : Machine) (had listed named : List Bool) (schedule : List ℕ) (lists : List CodeSeen) (p : CodePlace) (ops : List GuestOp) (calls : List (List Call)) (g : GuestOp) → FitsOp g → is_full ops g ≡ false
    → said (in_list m had listed named schedule lists p ops calls) (op_word g) (op_numbers g) ≡ Ok (in_list m had listed named schedule lists p (ops ++ g ∷ []) calls)
op_said m had listed named schedule lists p ops calls g f room =
    rw (op_entry (in_list m had listed named schedule lists p ops calls).stage listed m p g f refl refl)
    (op_entered (in_list m had listed named schedule lists p ops calls) g (map decimal (op_numbers g)) room)

op_is_word : (g : GuestOp) → IsWord (op_word g)
op_is_word (guest.Set r v) = record { bytes = refl; some = refl }
op_is_word _ = record { bytes = refl; some = refl }

op_no_comment : (g : GuestOp) → is_comment (op_word g) ≡ false
op_no_comment (guest.Set r v) = refl
op_no_comment _ = refl

two_fit : (a b : ℕ) → a < 8 → b < 2 ^ 64 → list_all fits (a ∷ b ∷ []) ≡ true
two_fit a b h k = one_fits a (b ∷ []) (omega arith) (one_fits b [] k refl)

op_numbers_fit : (g : GuestOp) → FitsOp g → list_all fits (op_numbers g) ≡ true
op_numbers_fit (guest.Set r v) f = two_fit r v f.0 f.1
op_numbers_fit (guest.Secret r k) f = two_fit r k f.0 (omega (arith, f.1))
op_numbers_fit (guest.Add r o) f = two_fit r o f.0 (omega (arith, f.1))
op_numbers_fit (guest.Load r gpa) f = two_fit r gpa f.0 (omega (arith, f.1))
op_numbers_fit (guest.Store r gpa) f = two_fit r gpa f.0 (omega (arith, f.1))
op_numbers_fit (guest.Accept gpa) f = one_fits gpa [] (omega (arith, f.0)) refl
op_numbers_fit (guest.Rtmr i) f = one_fits i [] (omega (arith, f)) refl
op_numbers_fit guest.Report f = refl
op_numbers_fit (guest.Vmcall r) f = one_fits r [] (omega (arith, f)) refl

-- the operations of a list, whatever stands behind them
ops_passed : (m : Machine) (had listed named : List Bool) (schedule : List ℕ) (lists : List CodeSeen) (p : CodePlace) (calls : List (List Call)) (gs old : List GuestOp) (n : ℕ) (rest : List ℕ) (read : Result ScriptSeen ScriptFault) → length old + length gs ≤ 256 → reports_in old + reports_in gs ≤ 4 → All FitsOp gs
    → ((k : ℕ) → read_from (in_list m had listed named schedule lists p (old ++ gs) calls) k (pieces rest) ≡ read) → read_from (in_list m had listed named schedule lists p old calls) n (pieces (ops_text gs ++ rest)) ≡ read
ops_passed m had listed named schedule lists p calls [] old n rest read few few_reports h go =
    let P : List GuestOp → Type 0 = λ gs. read_from (in_list m had listed named schedule lists p gs calls) n (pieces rest) ≡ read in
    subst P (append-nil old) (go n)
ops_passed m had listed named schedule lists p calls (g ∷ gs) old n rest read few few_reports h go =
    let more = reports_more old g in
    let P : ℕ → List GuestOp → Type 0 = λ k all. read_from (in_list m had listed named schedule lists p all calls) k (pieces rest) ≡ read in
    rw append_assoc
    (line_passed (in_list m had listed named schedule lists p old calls) (in_list m had listed named schedule lists p (old ++ g ∷ []) calls) n (op_word g) (op_numbers g) (ops_text gs ++ rest) (op_is_word g) (op_no_comment g)
    (op_numbers_fit g (All-head FitsOp g gs h)) (op_said m had listed named schedule lists p old calls g (All-head FitsOp g gs h) (has_room (length old) (reports_in old) (is_report g) (omega arith) (omega (arith, few_reports))))
    ∙ ops_passed m had listed named schedule lists p calls gs (old ++ g ∷ []) (n + 1) rest read (simp length-append (omega arith)) (omega (arith, more, few_reports)) (All-tail FitsOp g gs h) (λ k. subst (P k) (sym (append_assoc old (g ∷ []) gs)) (go k)))

abbrev place_of : CodeSeen → CodePlace
place_of c = record { tdr = c.tdr; index = c.index }

list_said : (m : Machine) (had listed named : List Bool) (schedule : List ℕ) (lists : List CodeSeen) (calls : List (List Call)) (tdr index : ℕ) → tdr < m.pages → index < 8 → get_or listed (8 * tdr + index) false ≡ false
    → said (outside m had listed named schedule lists calls) (codes "code") (tdr ∷ index ∷ []) ≡ Ok (in_list m had (set listed (8 * tdr + index) true) named schedule lists (record { tdr = tdr; index = index }) [] calls)
unfolding entry_of code_of entered_of
list_said m had listed named schedule lists calls tdr index h k free = rw (below_is tdr m.pages h, below_is index 8 k, free) refl

list_ended : (m : Machine) (had listed named : List Bool) (schedule : List ℕ) (lists : List CodeSeen) (p : CodePlace) (ops : List GuestOp) (calls : List (List Call))
    → said (in_list m had listed named schedule lists p ops calls) (codes "end") [] ≡ Ok (outside m had listed named schedule (lists ++ (record { tdr = p.tdr; index = p.index; ops = ops }) ∷ []) calls)
unfolding entry_of end_of entered_of
list_ended m had listed named schedule lists p ops calls = refl

-- no mark of these lists is set
abbrev IsUnmarked : List Bool → CodeSeen → Type 0
IsUnmarked listed c = get_or listed (8 * c.tdr + c.index) false ≡ false

places_apart : (a b c d : ℕ) → b < 8 → d < 8 → (a ≡ c → b ≢ d) → 8 * a + b ≢ 8 * c + d
places_apart a b c d h k apart = λ e. let same : a ≡ c = omega (arith, e, h, k) in apart same (omega (arith, e, same))

still_unmarked : (m : Machine) (listed : List Bool) (c : CodeSeen) (cs : List CodeSeen) → c.index < 8 → All (IsCode m) cs → All (λ d. d.tdr ≡ c.tdr → d.index ≢ c.index) cs → All (IsUnmarked listed) cs
    → All (IsUnmarked (set listed (8 * c.tdr + c.index) true)) cs
still_unmarked m listed c [] small h apart free = All-nil (IsUnmarked (set listed (8 * c.tdr + c.index) true))
still_unmarked m listed c (d ∷ ds) small h apart free =
    let is : IsCode m d = All-head (IsCode m) d ds h in
    let other : 8 * d.tdr + d.index ≢ 8 * c.tdr + c.index = places_apart d.tdr d.index c.tdr c.index is.index small (All-head (λ d. d.tdr ≡ c.tdr → d.index ≢ c.index) d ds apart) in
    All-cons (IsUnmarked (set listed (8 * c.tdr + c.index) true)) d ds
    (rw (get_or-set_other listed (8 * c.tdr + c.index) (8 * d.tdr + d.index) true false other) (All-head (IsUnmarked listed) d ds free))
    (still_unmarked m listed c ds small (All-tail (IsCode m) d ds h) (All-tail (λ d. d.tdr ≡ c.tdr → d.index ≢ c.index) d ds apart) (All-tail (IsUnmarked listed) d ds free))

four_apart : (a b c d e : List ℕ) → (a ++ (b ++ (c ++ d))) ++ e ≡ a ++ (b ++ (c ++ (d ++ e)))
four_apart a b c d e = append_assoc a (b ++ (c ++ d)) e ∙ ap (λ t. a ++ t) (append_assoc b (c ++ d) e ∙ ap (λ t. b ++ t) (append_assoc c d e))

-- the blocks of lists, whatever stands behind them
codes_passed : (m : Machine) (had named : List Bool) (schedule : List ℕ) (calls : List (List Call)) (more old : List CodeSeen) (listed : List Bool) (n : ℕ) (rest : List ℕ) (read : Result ScriptSeen ScriptFault)
    → m.pages ≤ 1024 → All (IsCode m) more → AreOfOthers more → All (IsUnmarked listed) more
    → ((marks : List Bool) (k : ℕ) → read_from (outside m had marks named schedule (old ++ more) calls) k (pieces rest) ≡ read) → read_from (outside m had listed named schedule old calls) n (pieces (codes_text more ++ rest)) ≡ read
codes_passed m had named schedule calls [] old listed n rest read few h apart free go =
    let P : List CodeSeen → Type 0 = λ lists. read_from (outside m had listed named schedule lists calls) n (pieces rest) ≡ read in
    subst P (append-nil old) (go listed n)
codes_passed m had named schedule calls (c ∷ cs) old listed n rest read few h apart free go =
    let is : IsCode m c = All-head (IsCode m) c cs h in
    let marks : List Bool = set listed (8 * c.tdr + c.index) true in
    let P : List Bool → ℕ → List CodeSeen → Type 0 = λ marks k lists. read_from (outside m had marks named schedule lists calls) k (pieces rest) ≡ read in
    let small : c.tdr < 1024 = omega (arith, is.tdr, few) in
    subst (λ t. read_from (outside m had listed named schedule old calls) n (pieces t) ≡ read) (sym (code_text_apart c cs rest))
    (line_passed (outside m had listed named schedule old calls) (in_list m had marks named schedule old (place_of c) [] calls) n (codes "code") (c.tdr ∷ c.index ∷ []) (ops_text c.ops ++ (line_text (codes "end") [] ++ (codes_text cs ++ rest))) (record { bytes = refl; some = refl }) refl
    (one_fits c.tdr (c.index ∷ []) (omega (arith, small)) (one_fits c.index [] (omega (arith, is.index)) refl)) (list_said m had listed named schedule old calls c.tdr c.index is.tdr is.index (All-head (IsUnmarked listed) c cs free))
    ∙ ops_passed m had marks named schedule old (place_of c) calls c.ops [] (n + 1) (line_text (codes "end") [] ++ (codes_text cs ++ rest)) read (omega (arith, is.few)) (omega (arith, is.few_reports)) is.operands
    (λ k. line_passed (in_list m had marks named schedule old (place_of c) c.ops calls) (outside m had marks named schedule (old ++ c ∷ []) calls) k (codes "end") [] (codes_text cs ++ rest) end_is_word refl refl (list_ended m had marks named schedule old (place_of c) c.ops calls)
    ∙ codes_passed m had named schedule calls cs (old ++ c ∷ []) marks (k + 1) rest read few (All-tail (IsCode m) c cs h) apart.1 (still_unmarked m listed c cs is.index (All-tail (IsCode m) c cs h) apart.0 (All-tail (IsUnmarked listed) c cs free))
    (λ marks j. subst (P marks j) (sym (append_assoc old (c ∷ []) cs)) (go marks j))))
  where
    code_text_apart : (c : CodeSeen) (cs : List CodeSeen) (rest : List ℕ) → codes_text (c ∷ cs) ++ rest ≡ line_text (codes "code") (map decimal (c.tdr ∷ c.index ∷ [])) ++ (ops_text c.ops ++ (line_text (codes "end") [] ++ (codes_text cs ++ rest)))
    code_text_apart c cs rest = four_apart (line_text (codes "code") (map decimal (c.tdr ∷ c.index ∷ []))) (ops_text c.ops) (line_text (codes "end") []) (codes_text cs) rest

-- the schedule's line, where there is one
schedule_passed : (m : Machine) (had listed named : List Bool) (lists : List CodeSeen) (calls : List (List Call)) (schedule : List ℕ) (n : ℕ) (rest : List ℕ) (read : Result ScriptSeen ScriptFault) → m.lps ≤ 8 → All (λ lp. lp < m.lps) schedule → length schedule ≤ 2 ^ 20
    → ((k : ℕ) → read_from (outside m had listed named schedule lists calls) k (pieces rest) ≡ read) → read_from (outside m had listed named [] lists calls) n (pieces (schedule_text schedule ++ rest)) ≡ read
schedule_passed m had listed named lists calls [] n rest read few h room go = go n
schedule_passed m had listed named lists calls (lp ∷ lps) n rest read few h room go =
    line_passed (outside m had listed named [] lists calls) (outside m had listed named (lp ∷ lps) lists calls) n (codes "schedule") (lp ∷ lps) rest (record { bytes = refl; some = refl }) refl (below_fit m.lps (lp ∷ lps) few h) (schedule_said m had listed named lists calls lp lps few h room)
    ∙ go (n + 1)

within_limits : (m : Machine) → IsMachine m → in_limits m.lps m.pages m.hkids ≡ true
within_limits m h =
    let a0 : leb 1 m.lps ≡ true = grind (arith, h.lps.0) in
    let a1 : leb m.lps 8 ≡ true = grind (arith, h.lps.1) in
    let b0 : leb 8 m.pages ≡ true = grind (arith, h.pages.0) in
    let b1 : leb m.pages 1024 ≡ true = grind (arith, h.pages.1) in
    let c0 : leb 1 m.hkids ≡ true = grind (arith, h.hkids.0) in
    let c1 : leb m.hkids 15 ≡ true = grind (arith, h.hkids.1) in
    rw (a0, a1, b0, b1, c0, c1) refl

machine_fits : (s : ScriptSeen) → IsInForm s → list_all fits (s.machine.lps ∷ s.machine.pages ∷ s.machine.hkids ∷ []) ≡ true
machine_fits s h =
    one_fits s.machine.lps (s.machine.pages ∷ s.machine.hkids ∷ []) (omega arith) (one_fits s.machine.pages (s.machine.hkids ∷ []) (omega arith) (one_fits s.machine.hkids [] (omega arith) refl))

none_called : (lists : List (List Call)) → replicate (length lists) [] ≡ no_calls lists
none_called [] = refl
none_called (cs ∷ lists) = ap (λ (all : List (List Call)). [] ∷ all) (none_called lists)

none_marked : (c : CodeSeen) → IsUnmarked none_listed c
unfolding none_listed
none_marked c = all_free 8192 (8 * c.tdr + c.index)

all_unmarked : (cs : List CodeSeen) → All (IsUnmarked none_listed) cs
all_unmarked [] = All-nil (IsUnmarked none_listed)
all_unmarked (c ∷ cs) = All-cons (IsUnmarked none_listed) c cs (none_marked c) (all_unmarked cs)

none_is_named : (slot : ℕ) → IsUnnamed none_named slot
unfolding none_named
none_is_named slot = all_free 4096 slot

all_left : (s : ScriptSeen) → IsInForm s → Left none_named (output_slots s.calls)
all_left s h = record { few = h.slots; free = λ k d lt. none_is_named (get_or (output_slots s.calls) k d); apart = h.apart }

script_read : (s : ScriptSeen) → IsInForm s → read_from nothing_yet 1 (pieces (script_text s)) ≡ Ok s
script_read s h =
    let had = replicate 8 false in
    let calls_are : replicate s.machine.lps [] ≡ no_calls s.calls = ap (λ n. replicate n []) (sym h.lists) ∙ none_called s.calls in
    let P : List (List Call) → Type 0 = λ calls. (marks : List Bool) (k : ℕ) → read_from (outside s.machine had marks none_named s.schedule s.codes calls) k (pieces (blocks_text 0 s.calls)) ≡ whole s.machine s.schedule s.codes s.calls in
    line_passed nothing_yet (outside s.machine had none_listed none_named [] [] (replicate s.machine.lps [])) 1 (codes "machine") (s.machine.lps ∷ s.machine.pages ∷ s.machine.hkids ∷ []) (schedule_text s.schedule ++ (codes_text s.codes ++ blocks_text 0 s.calls)) (record { bytes = refl; some = refl }) refl (machine_fits s h)
    (machine_said s.machine (within_limits s.machine h.machine))
    ∙ schedule_passed s.machine had none_listed none_named [] (replicate s.machine.lps []) s.schedule 2 (codes_text s.codes ++ blocks_text 0 s.calls) (whole s.machine s.schedule s.codes s.calls) h.machine.lps.1 h.items h.few_items
    (λ n. codes_passed s.machine had none_named s.schedule (replicate s.machine.lps []) s.codes [] none_listed n (blocks_text 0 s.calls) (whole s.machine s.schedule s.codes s.calls) h.machine.pages.1 h.codes h.others (all_unmarked s.codes)
    (subst P (sym calls_are) (λ marks k. blocks_passed s.machine marks none_named s.schedule s.codes s.calls [] 0 had k refl (omega (arith, h.lists)) h.machine.lps.1 (record { from = λ j le. all_free 8 j }) h.few_calls h.arguments (all_left s h))))

numbers_length : (ns : List ℕ) → list_all fits ns ≡ true → length (words_text (map decimal ns)) ≤ 21 * length ns
numbers_length [] h = omega arith
numbers_length (n ∷ ns) h =
    let f = and_parts (fits n) (list_all fits ns) h in
    let small : n < 2 ^ 64 = fits_below n f.0 in
    let one : length (decimal n) ≤ 20 = length-decimal-le 20 n (omega arith) (omega arith) small in
    let more : length (words_text (map decimal ns)) ≤ 21 * length ns = numbers_length ns f.1 in
    simp length-append (omega arith)

line_at_most : (w : List ℕ) (ws : List (List ℕ)) (n : ℕ) → length (words_text ws) ≤ n → length (line_text w ws) ≤ length w + n + 1
line_at_most w ws n h = simp length-append (omega arith)

line_length : (w ns : List ℕ) → list_all fits ns ≡ true → length (line_text w (map decimal ns)) ≤ length w + 21 * length ns + 1
line_length w ns h = line_at_most w (map decimal ns) (21 * length ns) (numbers_length ns h)

words_length : (vs ws : List (List ℕ)) → length (words_text (vs ++ ws)) ≡ length (words_text vs) + length (words_text ws)
words_length [] ws = omega arith
words_length (v ∷ vs) ws = let more : length (words_text (vs ++ ws)) ≡ length (words_text vs) + length (words_text ws) = words_length vs ws in simp length-append (omega arith)

-- an item is a space and a digit
items_length : (lps : ℕ) (ns : List ℕ) → lps ≤ 8 → All (λ lp. lp < lps) ns → length (words_text (map decimal ns)) ≤ 2 * length ns
items_length lps [] few h = omega arith
items_length lps (n ∷ ns) few h =
    let small : n < lps = All-head (λ lp. lp < lps) n ns h in
    let more : length (words_text (map decimal ns)) ≤ 2 * length ns = items_length lps ns few (All-tail (λ lp. lp < lps) n ns h) in
    rw (decimal_digit n (omega arith)) (omega arith)

schedule_length : (lps : ℕ) (ns : List ℕ) → lps ≤ 8 → All (λ lp. lp < lps) ns → length (schedule_text ns) ≤ 9 + 2 * length ns
schedule_length lps [] few h = omega arith
schedule_length lps (n ∷ ns) few h =
    let line : length (line_text (codes "schedule") (map decimal (n ∷ ns))) ≤ 8 + 2 * length (n ∷ ns) + 1 = line_at_most (codes "schedule") (map decimal (n ∷ ns)) (2 * length (n ∷ ns)) (items_length lps (n ∷ ns) few h) in
    omega arith

field_short : (f : ReadField) → length (read_text f) ≤ 5
field_short field.Life = omega arith
field_short _ = omega arith

names_short : (c : Call) → length (words_text (call_names c)) ≤ 6
names_short (calls.MngRd a f) = let short : length (read_text f) ≤ 5 = field_short f in simp length-append (omega arith)
names_short _ = omega arith

call_short : (c : Call) → (length (call_word c) ≤ 22) × (length (call_numbers c) ≤ 4)
call_short (calls.HostRead a b) = (omega arith, omega arith)
call_short _ = (omega arith, omega arith)

call_length : (c : Call) → FitsCall c → length (line_text (call_word c) (call_words c)) ≤ 113
call_length c h =
    let numbers : length (words_text (map decimal (call_numbers c))) ≤ 21 * length (call_numbers c) = numbers_length (call_numbers c) (all_fit (call_numbers c) h) in
    let names : length (words_text (call_names c)) ≤ 6 = names_short c in
    let short : (length (call_word c) ≤ 22) × (length (call_numbers c) ≤ 4) = call_short c in
    let all : length (words_text (call_words c)) ≤ 90 = rw (words_length (map decimal (call_numbers c)) (call_names c)) (omega arith) in
    let line : length (line_text (call_word c) (call_words c)) ≤ length (call_word c) + 90 + 1 = line_at_most (call_word c) (call_words c) 90 all in
    omega arith

calls_length : (cs : List Call) → All FitsCall cs → length (calls_text cs) ≤ 113 * length cs
calls_length [] h = omega arith
calls_length (c ∷ cs) h =
    let one : length (line_text (call_word c) (call_words c)) ≤ 113 = call_length c (All-head FitsCall c cs h) in
    let more : length (calls_text cs) ≤ 113 * length cs = calls_length cs (All-tail FitsCall c cs h) in
    rw length-append (omega arith)

joined : (a b c d : List ℕ) (n : ℕ) → length a ≤ 24 → length b ≤ 462848 → length c ≤ 4 → length d ≤ n → length (a ++ (b ++ (c ++ d))) ≤ 462876 + n
joined a b c d n p q r s = simp length-append (omega arith)

blocks_length : (more : List (List Call)) (lp : ℕ) → lp + length more ≤ 8 → All AreFew more → All (λ cs. All FitsCall cs) more → length (blocks_text lp more) ≤ 462876 * length more
blocks_length [] lp below room h = omega arith
blocks_length (cs ∷ more) lp below room h =
    let few : length cs ≤ 4096 = All-head AreFew cs more room in
    let l : length (line_text (codes "lp") (decimal lp ∷ [])) ≤ 2 + 21 * 1 + 1 = line_length (codes "lp") (lp ∷ []) (one_fits lp [] (omega arith) refl) in
    let c : length (calls_text cs) ≤ 113 * length cs = calls_length cs (All-head (λ cs. All FitsCall cs) cs more h) in
    let e : length (line_text (codes "end") []) ≤ 3 + 21 * 0 + 1 = line_length (codes "end") [] refl in
    let b : length (blocks_text (lp + 1) more) ≤ 462876 * length more = blocks_length more (lp + 1) (omega arith) (All-tail AreFew cs more room) (All-tail (λ cs. All FitsCall cs) cs more h) in
    let all : length (blocks_text lp (cs ∷ more)) ≤ 462876 + 462876 * length more = joined (line_text (codes "lp") (decimal lp ∷ [])) (calls_text cs) (line_text (codes "end") []) (blocks_text (lp + 1) more) (462876 * length more) l (omega arith) e b in
    omega arith

four_length : (a b c d : List ℕ) (items lists : ℕ) → length a ≤ 71 → length b ≤ 9 + 2 * items → length c ≤ 2 ^ 23 → length d ≤ 462876 * lists → items ≤ 2 ^ 20 → lists ≤ 8 → length (a ++ (b ++ (c ++ d))) ≤ 2 ^ 24
four_length a b c d items lists p q o r few short = simp length-append (omega arith)

text_length : (s : ScriptSeen) → IsInForm s → length (codes_text s.codes) ≤ 2 ^ 23 → length (script_text s) ≤ 2 ^ 24
text_length s h room =
    let head = s.machine.lps ∷ s.machine.pages ∷ s.machine.hkids ∷ [] in
    let m : length (line_text (codes "machine") (map decimal head)) ≤ 7 + 21 * 3 + 1 = line_length (codes "machine") head (machine_fits s h) in
    let i : length (schedule_text s.schedule) ≤ 9 + 2 * length s.schedule = schedule_length s.machine.lps s.schedule h.machine.lps.1 h.items in
    let b : length (blocks_text 0 s.calls) ≤ 462876 * length s.calls = blocks_length s.calls 0 (omega (arith, h.lists)) h.few_calls h.arguments in
    four_length (line_text (codes "machine") (map decimal head)) (schedule_text s.schedule) (codes_text s.codes) (blocks_text 0 s.calls) (length s.schedule) (length s.calls) m i room b h.few_items (omega (arith, h.lists, h.machine.lps.1))

pub spelled : ScriptsReadAgain
spelled = record { read_again = λ s h short. within (script_text s) short ∙ script_read s h; short = text_length }
