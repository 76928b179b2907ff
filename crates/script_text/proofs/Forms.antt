-- What each script that is read has.
use Rattle.std.proofs.Common.{◌≡◌, ℕ, ◌+◌, ◌*◌, ◌^◌, ◌<◌, ◌≤◌, ◌≢◌, ◌%◌, List, [], ◌∷◌, ◌++◌, length, map, drop, get_or, set, replicate, Bool, true, false, not, cond, leb, ltb, ◌==◌, ◌&&◌, Option, Some, None, Result, Ok, Err, ◌⊎◌, inl, inr, refl, sym, subst, arith}
use Rattle.std.specs.Prelude.{is_some, unwrap_or}
use Rattle.std.specs.List.{All, list_all}
use Rattle.std.proofs.lemmas.Bool.{cases_lt, cases_eq, and_parts}
use Rattle.std.proofs.lemmas.List.{length-append, length-replicate, length-set, get_or_past, get_or-set_same}
use Rattle.std.proofs.lemmas.List.Elements.{All-nil, All-cons, All-head, All-tail, All-replicate, All-append, All-push, All-set}
use Rattle.td_words.specs.declared.calls.Call.{Call}
use Rattle.td_words.specs.declared.calls.Call.TheVariants as call
use Rattle.td_words.specs.declared.calls.GuestOp.{GuestOp}
use Rattle.td_words.specs.declared.names.ReadField.{ReadField}
use Rattle.td_words.specs.declared.machines.Machine.{Machine}
use Rattle.td_words.specs.Limits.{IsMachine, in_limits}
use Rattle.td_words.specs.Seen.{CodeSeen}
use Rattle.td_words.specs.Slots.{output_slot, output_slots}
use Rattle.line_words.specs.declared.mnemonics.CallName.{CallName}
use Rattle.line_words.specs.declared.mnemonics.CallName.TheVariants as name
use Rattle.line_words.specs.declared.mnemonics.Mnemonic.{Mnemonic}
use Rattle.line_words.specs.Mnemonics.{mnemonics, mnemonic_in}
use Rattle.line_words.specs.Number.{digit, number_on, digits_in, is_prefixed, number}
use Rattle.line_words.specs.Words.{pieces, words, is_printable, is_comment}
use Rattle.script_text.specs.declared.faults.Reason.{Reason}
use Rattle.script_text.specs.declared.faults.Reason.TheVariants as reason
use Rattle.script_text.specs.declared.faults.ScriptFault.{ScriptFault}
use Rattle.script_text.specs.declared.faults.ScriptFault.TheVariants.{Bad}
use Rattle.script_text.specs.declared.lines.Keyword.{Keyword}
use Rattle.script_text.specs.declared.lines.Keyword.TheVariants as keyword
use Rattle.script_text.specs.declared.lines.Block.{Block}
use Rattle.script_text.specs.declared.lines.Block.TheVariants as block
use Rattle.script_text.specs.declared.lines.Entry.{Entry}
use Rattle.script_text.specs.declared.lines.Entry.TheVariants as entry
use Rattle.script_text.specs.declared.code_blocks.CodePlace.{CodePlace}
use Rattle.script_text.specs.declared.operations.OpName.{OpName}
use Rattle.script_text.specs.declared.operations.OpName.TheVariants as op
use Rattle.script_text.specs.declared.schedules.Item.{Item}
use Rattle.script_text.specs.declared.schedules.Turns.{Turns}
use Rattle.script_text.specs.Counted.{◌>>=◌, counted_of, number_at, argument}
use Rattle.script_text.specs.Line.{machine_of, block_of, end_of, abort_of, named_entry, are_given, ranged_of, judged_of, call_of, first_of, list_of, operation_line_of, outside_of, named_of, inside_of, placed_of, entry_of, keyword_of}
use Rattle.script_text.specs.Blocks.{field_of, slot_place_of, slot_at, fits_slot, with_slot, none_named, code_of, list_place, none_listed, operation_of, operand_count, fit_operands, operands_of, guest_op_of, is_report, reports_in, is_full}
use Rattle.script_text.specs.Schedule.{item_of, in_range_of, turns_in, with_turns, written_of, schedule_of}
use Rattle.script_text.specs.Reading.{SoFar, nothing_yet, with_call, with_op, closed_of, entered_of, worded_of, line_of, script_of, ended_of, then_on, read_from, read_of}
use Rattle.script_text.specs.Spelling.{FitsCall, FitsOp}
use Rattle.script_text.specs.Seen.{ScriptSeen}
use Rattle.script_text.specs.Laws.{IsCode, AreOfOthers, IsInForm, ScriptsAreInForm}
use Rattle.script_text.proofs.Reports.{reports_more, few_more}
use Rattle.script_text.proofs.Slots.{FitsSlot, Added, added, FitsSlots, still_marked, slot_named, slots_more, none_fit}

-- a value that is given has it
abbrev IfGiven : {A : Type 0} → (A → Type 0) → Result A Reason → Type 0
IfGiven P (Ok x) = P x
IfGiven P (Err r) = Unit {0}

given_if : {A : Type 0} (P : A → Type 0) (b c : Bool) (r : Reason) (x : Result A Reason) → c ≡ b → (c ≡ false → IfGiven P x) → IfGiven P (cond b (Err r) x)
given_if P true c r x e h = tt
given_if P false c r x e h = h e

given_then : {A B : Type 0} (P : A → Type 0) (Q : B → Type 0) (r : Result A Reason) (f : A → Result B Reason) → IfGiven P r → ((x : A) → P x → IfGiven Q (f x)) → IfGiven Q (r >>= f)
given_then P Q (Ok x) f h k = k x h
given_then P Q (Err r) f h k = tt

-- numbers of 64 bits
abbrev FitsNumber : Option ℕ → Type 0
FitsNumber (Some n) = n < 2 ^ 64
FitsNumber None = Unit {0}

number_step : (b : Bool) (n : ℕ) (x : Option ℕ) → (b ≡ true → FitsNumber x) → FitsNumber (cond b x None)
number_step true n x h = h refl
number_step false n x h = tt

number_on_fits : (base n : ℕ) (cs : List ℕ) → n < 2 ^ 64 → FitsNumber (number_on base n cs)
number_on_fits base n [] h = h
number_on_fits base n (c ∷ cs) h =
    number_step (ltb (digit c) base && ltb (n * base + digit c) (2 ^ 64)) n (number_on base (n * base + digit c) cs)
    (λ e. let s : ltb (n * base + digit c) (2 ^ 64) ≡ true = (and_parts (ltb (digit c) base) (ltb (n * base + digit c) (2 ^ 64)) e).1 in
    number_on_fits base (n * base + digit c) cs (grind (arith, s)))

digits_fit : (base : ℕ) (w : List ℕ) → FitsNumber (digits_in base w)
digits_fit base [] = tt
digits_fit base (c ∷ cs) = number_on_fits base 0 (c ∷ cs) (omega arith)

number_cases : (b : Bool) (x y : Option ℕ) → FitsNumber x → FitsNumber y → FitsNumber (cond b x y)
number_cases true x y h k = h
number_cases false x y h k = k

number_fits : (w : List ℕ) → FitsNumber (number w)
number_fits w = number_cases (is_prefixed w) (digits_in 16 (drop 2 w)) (digits_in 10 w) (digits_fit 16 (drop 2 w)) (digits_fit 10 w)

numbers_fit : (ws : List (List ℕ)) → All FitsNumber (map number ws)
numbers_fit [] = All-nil FitsNumber
numbers_fit (w ∷ ws) = All-cons FitsNumber (number w) (map number ws) (number_fits w) (numbers_fit ws)

unwrapped : (n : Option ℕ) → FitsNumber n → unwrap_or n 0 < 2 ^ 64
unwrapped (Some n) h = h
unwrapped None h = omega arith

argument_in : (ns : List (Option ℕ)) (i : ℕ) → All FitsNumber ns → (i < length ns) ⊎ (length ns ≤ i) → FitsNumber (get_or ns i None)
argument_in ns i h (inl lt) = h i None lt
argument_in ns i h (inr past) = rw (get_or_past ns i None past) tt

argument_fits : (ns : List (Option ℕ)) (i : ℕ) → All FitsNumber ns → argument ns i < 2 ^ 64
argument_fits ns i h = unwrapped (get_or ns i None) (argument_in ns i h (cases_lt i (length ns)))

-- a list begins that didn't before
record FitsPlace (m : Machine) (listed : List Bool) (p : CodePlace) : Type 0 where
  pub tdr : p.tdr < m.pages
  pub index : p.index < 8
  pub free : get_or listed (list_place p) false ≡ false

-- what a line says fits the machine so far, and the lists
abbrev FitsEntry : Option Machine → List Bool → Entry → Type 0
FitsEntry None listed (entry.Machine m) = in_limits m.lps m.pages m.hkids ≡ true
FitsEntry None listed _ = ⊥
FitsEntry (Some m) listed (entry.Machine _) = ⊥
FitsEntry (Some m) listed (entry.Schedule lps) = lps ≡ m.lps
FitsEntry (Some m) listed (entry.Call lp c) = FitsCall c × FitsSlot (output_slot c)
FitsEntry (Some m) listed (entry.Read lp tdr) = tdr < 2 ^ 64
FitsEntry (Some m) listed (entry.List p) = FitsPlace m listed p
FitsEntry (Some m) listed (entry.Operation g) = FitsOp g
FitsEntry (Some m) listed _ = Unit {0}

not_false : (b : Bool) → not b ≡ false → b ≡ true
not_false true h = refl
not_false false h = cc

-- whatever a number is, it may be used
given_number : {B : Type 0} (Q : B → Type 0) (r : Result ℕ Reason) (f : ℕ → Result B Reason) → ((n : ℕ) → IfGiven Q (f n)) → IfGiven Q (r >>= f)
given_number Q (Ok n) f h = h n
given_number Q (Err r) f h = tt

given_field : {B : Type 0} (Q : B → Type 0) (r : Result ReadField Reason) (f : ReadField → Result B Reason) → ((x : ReadField) → IfGiven Q (f x)) → IfGiven Q (r >>= f)
given_field Q (Ok x) f h = h x
given_field Q (Err r) f h = tt

given_count : {B : Type 0} (Q : B → Type 0) (r : Result (Unit {0}) Reason) (x : Result B Reason) → IfGiven Q x → IfGiven Q (r >>= (λ t. x))
given_count Q (Ok t) x h = h
given_count Q (Err r) x h = tt

machine_fits : (listed : List Bool) (ns : List (Option ℕ)) → IfGiven (FitsEntry None listed) (machine_of ns)
unfolding machine_of
machine_fits listed ns =
    given_count (FitsEntry None listed) (counted_of 3 ns) _
    (given_number (FitsEntry None listed) (number_at ns 0) _
    (λ lps. given_number (FitsEntry None listed) (number_at ns 1) _
    (λ pages. given_number (FitsEntry None listed) (number_at ns 2) _
    (λ hkids. given_if (FitsEntry None listed) (not (in_limits lps pages hkids)) _ reason.Range _ refl (λ e. not_false (in_limits lps pages hkids) e)))))

first_fits : (listed : List Bool) (k : Option Keyword) (ns : List (Option ℕ)) → IfGiven (FitsEntry None listed) (first_of k ns)
first_fits listed (Some keyword.Machine) ns = machine_fits listed ns
first_fits listed _ ns = tt

block_fits : (m : Machine) (had listed : List Bool) (ns : List (Option ℕ)) → IfGiven (FitsEntry (Some m) listed) (block_of m had ns)
unfolding block_of
block_fits m had listed ns =
    given_count (FitsEntry (Some m) listed) (counted_of 1 ns) _
    (given_number (FitsEntry (Some m) listed) (number_at ns 0) _
    (λ lp. given_if (FitsEntry (Some m) listed) (not (ltb lp m.lps)) _ reason.Range _ refl (λ e. given_if (FitsEntry (Some m) listed) (get_or had lp false) _ reason.Repeated (Ok (entry.Open lp)) refl (λ e. tt))))

end_fits : (m : Machine) (listed : List Bool) (ns : List (Option ℕ)) → IfGiven (FitsEntry (Some m) listed) (end_of ns)
unfolding end_of
end_fits m listed ns = given_count (FitsEntry (Some m) listed) (counted_of 0 ns) (Ok entry.End) tt

place_fits : (m : Machine) (listed : List Bool) (tdr index : ℕ) → not (ltb tdr m.pages && ltb index 8) ≡ false → get_or listed (8 * tdr + index) false ≡ false → FitsPlace m listed (record { tdr = tdr; index = index })
place_fits m listed tdr index h k =
    let p = and_parts (ltb tdr m.pages) (ltb index 8) (not_false (ltb tdr m.pages && ltb index 8) h) in
    record { tdr = grind (arith, p.0); index = grind (arith, p.1); free = k }

code_fits : (m : Machine) (listed : List Bool) (ns : List (Option ℕ)) → IfGiven (FitsPlace m listed) (code_of m listed ns)
unfolding code_of
code_fits m listed ns =
    given_count (FitsPlace m listed) (counted_of 2 ns) _
    (given_number (FitsPlace m listed) (number_at ns 0) _
    (λ tdr. given_number (FitsPlace m listed) (number_at ns 1) _
    (λ index. given_if (FitsPlace m listed) (not (ltb tdr m.pages && ltb index 8)) _ reason.Range _ refl
    (λ e. given_if (FitsPlace m listed) (get_or listed (8 * tdr + index) false) _ reason.Repeated (Ok (record { tdr = tdr; index = index })) refl (λ f. place_fits m listed tdr index e f)))))

list_fits_entry : (m : Machine) (listed : List Bool) (ns : List (Option ℕ)) → IfGiven (FitsEntry (Some m) listed) (list_of m listed ns)
list_fits_entry m listed ns = given_then (FitsPlace m listed) (FitsEntry (Some m) listed) (code_of m listed ns) (λ p. Ok (entry.List p)) (code_fits m listed ns) (λ p f. f)

-- operations of such operands

word_gpa_fits : (r gpa : ℕ) → (ltb r 8 && (ltb gpa (2 ^ 48) && (gpa % 8 == 0))) ≡ true → (r < 8) × (gpa < 2 ^ 48) × (gpa % 8 ≡ 0)
word_gpa_fits r gpa h =
    let p = and_parts (ltb r 8) (ltb gpa (2 ^ 48) && (gpa % 8 == 0)) h in
    let q = and_parts (ltb gpa (2 ^ 48)) (gpa % 8 == 0) p.1 in
    (grind (arith, p.0), grind (arith, q.0), grind (arith, q.1))

page_gpa_fits : (gpa : ℕ) → ((ltb gpa (2 ^ 47) && (gpa % 4096 == 0)) && true) ≡ true → (gpa < 2 ^ 47) × (gpa % 4096 ≡ 0)
page_gpa_fits gpa h =
    let q = and_parts (ltb gpa (2 ^ 47)) (gpa % 4096 == 0) (and_parts (ltb gpa (2 ^ 47) && (gpa % 4096 == 0)) true h).0 in
    (grind (arith, q.0), grind (arith, q.1))

below_and : (n k : ℕ) (b : Bool) → (ltb n k && b) ≡ true → n < k
below_and n k b h = grind arith

two_below : (n k most : ℕ) → (ltb n 8 && ltb k most) ≡ true → (n < 8) × (k < most)
two_below n k most h = let p = and_parts (ltb n 8) (ltb k most) h in (grind (arith, p.0), grind (arith, p.1))

guest_fits : (o : OpName) (a b : ℕ) → b < 2 ^ 64 → fit_operands o a b ≡ true → FitsOp (guest_op_of o a b)
guest_fits op.Set a b small h = (below_and a 8 true h, small)
guest_fits op.Secret a b small h = two_below a b 512 h
guest_fits op.Add a b small h = two_below a b 8 h
guest_fits op.Load a b small h = word_gpa_fits a b h
guest_fits op.Store a b small h = word_gpa_fits a b h
guest_fits op.Accept a b small h = page_gpa_fits a h
guest_fits op.Rtmr a b small h = below_and a 4 true h
guest_fits op.Report a b small h = tt
guest_fits op.Vmcall a b small h = below_and a 8 true h

-- operands in range are used
abbrev tested : Bool → Bool → Bool → Result (Unit {0}) Reason
tested a b c = cond (not a) (Err reason.Count) (cond (not b) (Err reason.Number) (cond (not c) (Err reason.Range) (Ok tt)))

operands_cases : {B : Type 0} (Q : B → Type 0) (a b c : Bool) (x : Result B Reason) → (c ≡ true → IfGiven Q x) → IfGiven Q (tested a b c >>= (λ t. x))
operands_cases Q false b c x h = tt
operands_cases Q true false c x h = tt
operands_cases Q true true false x h = tt
operands_cases Q true true true x h = h refl

given_operands : {B : Type 0} (Q : B → Type 0) (o : OpName) (ns : List (Option ℕ)) (x : Result B Reason) → (fit_operands o (argument ns 0) (argument ns 1) ≡ true → IfGiven Q x) → IfGiven Q (operands_of o ns >>= (λ t. x))
given_operands Q o ns x h = operands_cases Q (length ns == operand_count o) (list_all is_some ns) (fit_operands o (argument ns 0) (argument ns 1)) x h

operation_fits : (m : Machine) (listed : List Bool) (o : Option OpName) (ns : List (Option ℕ)) → All FitsNumber ns → IfGiven (FitsEntry (Some m) listed) (operation_line_of o ns)
unfolding operation_line_of
operation_fits m listed None ns h = tt
operation_fits m listed (Some o) ns h =
    given_operands (FitsEntry (Some m) listed) o ns (Ok (entry.Operation (guest_op_of o (argument ns 0) (argument ns 1))))
    (λ e. guest_fits o (argument ns 0) (argument ns 1) (argument_fits ns 1 h) e)

-- calls of such arguments
abbrev fits : ℕ → Type 0
fits n = n < 2 ^ 64

one_fits : (ns : List (Option ℕ)) → All FitsNumber ns → All fits (argument ns 0 ∷ [])
one_fits ns h = All-cons fits (argument ns 0) [] (argument_fits ns 0 h) (All-nil fits)

two_fit : (ns : List (Option ℕ)) → All FitsNumber ns → All fits (argument ns 0 ∷ argument ns 1 ∷ [])
two_fit ns h = All-push fits (argument ns 0 ∷ []) (argument ns 1) (one_fits ns h) (argument_fits ns 1 h)

three_fit : (ns : List (Option ℕ)) → All FitsNumber ns → All fits (argument ns 0 ∷ argument ns 1 ∷ argument ns 2 ∷ [])
three_fit ns h = All-push fits (argument ns 0 ∷ argument ns 1 ∷ []) (argument ns 2) (two_fit ns h) (argument_fits ns 2 h)

four_fit : (ns : List (Option ℕ)) → All FitsNumber ns → All fits (argument ns 0 ∷ argument ns 1 ∷ argument ns 2 ∷ argument ns 3 ∷ [])
four_fit ns h = All-push fits (argument ns 0 ∷ argument ns 1 ∷ argument ns 2 ∷ []) (argument ns 3) (three_fit ns h) (argument_fits ns 3 h)

-- an output slot is within its range
slot_if : (b : Bool) (n : ℕ) → leb n 4095 ≡ b → cond b n 0 ≤ 4095
slot_if true n e = grind (arith, e)
slot_if false n e = omega arith

slot_within : (ns : List (Option ℕ)) (i : ℕ) → slot_at ns i ≤ 4095
slot_within ns i = slot_if (leb (argument ns i) 4095) (argument ns i) refl

within_fits : (n : ℕ) → n ≤ 4095 → n < 2 ^ 64
within_fits n h = omega (arith, h)

slot_fits : (ns : List (Option ℕ)) → All FitsNumber ns → All fits (argument ns 0 ∷ slot_at ns 1 ∷ [])
slot_fits ns h = All-push fits (argument ns 0 ∷ []) (slot_at ns 1) (one_fits ns h) (within_fits (slot_at ns 1) (slot_within ns 1))

abort_fits : (m : Machine) (listed : List Bool) (lp : ℕ) (with_slot : Bool) (ns : List (Option ℕ)) → All FitsNumber ns → FitsEntry (Some m) listed (abort_of lp with_slot (argument ns 0) (argument ns 1))
abort_fits m listed lp true ns h = (two_fit ns h, tt)
abort_fits m listed lp false ns h = (one_fits ns h, tt)

named_entry_fits : (m : Machine) (listed : List Bool) (lp : ℕ) (n : CallName) (ns : List (Option ℕ)) → All FitsNumber ns → FitsEntry (Some m) listed (named_entry lp n ns)
named_entry_fits m listed lp name.HostRead ns h = (two_fit ns h, tt)
named_entry_fits m listed lp name.HostWrite ns h = (three_fit ns h, tt)
named_entry_fits m listed lp name.PhymemPageRdmd ns h = (one_fits ns h, tt)
named_entry_fits m listed lp name.PhymemCacheWb ns h = (All-nil fits, tt)
named_entry_fits m listed lp name.PhymemPageReclaim ns h = (two_fit ns h, tt)
named_entry_fits m listed lp name.MngCreate ns h = (two_fit ns h, tt)
named_entry_fits m listed lp name.MngKeyConfig ns h = (one_fits ns h, tt)
named_entry_fits m listed lp name.MngAddcx ns h = (two_fit ns h, tt)
named_entry_fits m listed lp name.MngInit ns h = (one_fits ns h, tt)
named_entry_fits m listed lp name.MngRd ns h = argument_fits ns 0 h
named_entry_fits m listed lp name.MngVpflushdone ns h = (one_fits ns h, tt)
named_entry_fits m listed lp name.MngKeyFreeid ns h = (one_fits ns h, tt)
named_entry_fits m listed lp name.MrExtend ns h = (two_fit ns h, tt)
named_entry_fits m listed lp name.MrFinalize ns h = (one_fits ns h, tt)
named_entry_fits m listed lp name.VpCreate ns h = (two_fit ns h, tt)
named_entry_fits m listed lp name.VpInit ns h = (three_fit ns h, tt)
named_entry_fits m listed lp name.VpEnter ns h = (three_fit ns h, tt)
named_entry_fits m listed lp name.VpFlush ns h = (two_fit ns h, tt)
named_entry_fits m listed lp name.MemSeptAdd ns h = (four_fit ns h, tt)
named_entry_fits m listed lp name.MemSeptRd ns h = (three_fit ns h, tt)
named_entry_fits m listed lp name.MemSeptRemove ns h = (three_fit ns h, tt)
named_entry_fits m listed lp name.MemPageAdd ns h = (four_fit ns h, tt)
named_entry_fits m listed lp name.MemPageAug ns h = (three_fit ns h, tt)
named_entry_fits m listed lp name.MemPageRemove ns h = (two_fit ns h, tt)
named_entry_fits m listed lp name.MemPageRelocate ns h = (three_fit ns h, tt)
named_entry_fits m listed lp name.MemRangeBlock ns h = (three_fit ns h, tt)
named_entry_fits m listed lp name.MemRangeUnblock ns h = (three_fit ns h, tt)
named_entry_fits m listed lp name.MemTrack ns h = (one_fits ns h, tt)
named_entry_fits m listed lp name.MigStreamCreate ns h = (two_fit ns h, tt)
named_entry_fits m listed lp name.ExportBlockw ns h = (two_fit ns h, tt)
named_entry_fits m listed lp name.ExportUnblockw ns h = (two_fit ns h, tt)
named_entry_fits m listed lp name.ExportPause ns h = (one_fits ns h, tt)
named_entry_fits m listed lp name.ExportAbort ns h = abort_fits m listed lp (length ns == 2) ns h
named_entry_fits m listed lp name.ExportRestore ns h = (two_fit ns h, tt)
named_entry_fits m listed lp name.ExportStateImmutable ns h = (slot_fits ns h, slot_within ns 1)
named_entry_fits m listed lp name.ExportMem ns h = (All-push fits (argument ns 0 ∷ argument ns 1 ∷ argument ns 2 ∷ []) (slot_at ns 3) (three_fit ns h) (within_fits (slot_at ns 3) (slot_within ns 3)), slot_within ns 3)
named_entry_fits m listed lp name.ExportTrack ns h = (All-push fits (argument ns 0 ∷ slot_at ns 1 ∷ []) (argument ns 2) (slot_fits ns h) (argument_fits ns 2 h), slot_within ns 1)
named_entry_fits m listed lp name.ExportStateTd ns h = (slot_fits ns h, slot_within ns 1)
named_entry_fits m listed lp name.ExportStateVp ns h = (All-push fits (argument ns 0 ∷ argument ns 1 ∷ []) (slot_at ns 2) (two_fit ns h) (within_fits (slot_at ns 2) (slot_within ns 2)), slot_within ns 2)
named_entry_fits m listed lp name.ImportStateImmutable ns h = (two_fit ns h, tt)
named_entry_fits m listed lp name.ImportMem ns h = (three_fit ns h, tt)
named_entry_fits m listed lp name.ImportTrack ns h = (two_fit ns h, tt)
named_entry_fits m listed lp name.ImportStateTd ns h = (two_fit ns h, tt)
named_entry_fits m listed lp name.ImportStateVp ns h = (three_fit ns h, tt)
named_entry_fits m listed lp name.ImportCommit ns h = (one_fits ns h, tt)
named_entry_fits m listed lp name.ImportEnd ns h = (one_fits ns h, tt)
named_entry_fits m listed lp name.ImportAbort ns h = (slot_fits ns h, slot_within ns 1)

judged_fits : (m : Machine) (listed : List Bool) (e : Entry) (row : Mnemonic) (ns : List (Option ℕ)) → FitsEntry (Some m) listed e → IfGiven (FitsEntry (Some m) listed) (judged_of e row ns)
judged_fits m listed e row ns h =
    given_if (FitsEntry (Some m) listed) (not (leb row.least (length ns) && leb (length ns) row.most)) _ reason.Count _ refl
    (λ c. given_if (FitsEntry (Some m) listed) (not (are_given row.call ns)) _ reason.Number (ranged_of e row.call ns) refl
    (λ g. given_if (FitsEntry (Some m) listed) (not (fits_slot (slot_place_of row.call) ns)) _ reason.Range (Ok e) refl (λ r. h)))

call_fits : (m : Machine) (listed : List Bool) (lp : ℕ) (row : Option Mnemonic) (ns : List (Option ℕ)) → All FitsNumber ns → IfGiven (FitsEntry (Some m) listed) (call_of lp row ns)
unfolding call_of
call_fits m listed lp None ns h = tt
call_fits m listed lp (Some row) ns h = judged_fits m listed (named_entry lp row.call ns) row ns (named_entry_fits m listed lp row.call ns h)

outside_fits : (m : Machine) (had listed : List Bool) (k : Option Keyword) (ns : List (Option ℕ)) → IfGiven (FitsEntry (Some m) listed) (outside_of m had listed k ns)
outside_fits m had listed (Some keyword.Machine) ns = tt
outside_fits m had listed (Some keyword.End) ns = tt
outside_fits m had listed (Some keyword.Schedule) ns = refl
outside_fits m had listed (Some keyword.Code) ns = list_fits_entry m listed ns
outside_fits m had listed (Some keyword.Lp) ns = block_fits m had listed ns
outside_fits m had listed None ns = tt

named_fits : (m : Machine) (listed : List Bool) (b : Block) (w : List ℕ) (ns : List (Option ℕ)) → All FitsNumber ns → IfGiven (FitsEntry (Some m) listed) (named_of b w ns)
named_fits m listed (block.Lp lp) w ns h = call_fits m listed lp (mnemonic_in mnemonics w) ns h
named_fits m listed (block.Code p) w ns h = operation_fits m listed (operation_of w) ns h

inside_fits : (m : Machine) (listed : List Bool) (b : Block) (k : Option Keyword) (w : List ℕ) (ns : List (Option ℕ)) → All FitsNumber ns → IfGiven (FitsEntry (Some m) listed) (inside_of b k w ns)
inside_fits m listed b (Some keyword.Machine) w ns h = tt
inside_fits m listed b (Some keyword.Schedule) w ns h = tt
inside_fits m listed b (Some keyword.Code) w ns h = tt
inside_fits m listed b (Some keyword.Lp) w ns h = tt
inside_fits m listed b (Some keyword.End) w ns h = end_fits m listed ns
inside_fits m listed b None w ns h = named_fits m listed b w ns h

placed_fits : (m : Option Machine) (b : Option Block) (had listed : List Bool) (w : List ℕ) (ns : List (Option ℕ)) → All FitsNumber ns → IfGiven (FitsEntry m listed) (placed_of m b had listed w ns)
placed_fits None b had listed w ns h = first_fits listed (keyword_of w) ns
placed_fits (Some m) None had listed w ns h = outside_fits m had listed (keyword_of w) ns
placed_fits (Some m) (Some b) had listed w ns h = inside_fits m listed b (keyword_of w) w ns h

-- the schedule so far
record FitsItems (lps : ℕ) (schedule : List ℕ) : Type 0 where
  pub below : All (λ lp. lp < lps) schedule
  pub few : length schedule ≤ 2 ^ 20

abbrev FitsTurns : ℕ → Option Turns → Type 0
FitsTurns lps (Some t) = t.lp < lps
FitsTurns lps None = Unit {0}

turns_cases : (lps lp times : ℕ) (b : Bool) → (ltb lp lps && b) ≡ true → lp < lps
turns_cases lps lp times b h = grind arith

turns_if : (lps : ℕ) (i : Item) (b : Bool) → (b ≡ true → i.lp < lps) → FitsTurns lps (cond b (Some (record { lp = i.lp; times = i.times })) None)
turns_if lps i true h = h refl
turns_if lps i false h = tt

turns_fit : (lps : ℕ) (i : Option Item) → FitsTurns lps (in_range_of lps i)
turns_fit lps None = tt
turns_fit lps (Some i) = turns_if lps i (ltb i.lp lps && (leb 1 i.times && leb i.times (2 ^ 20))) (λ e. turns_cases lps i.lp i.times (leb 1 i.times && leb i.times (2 ^ 20)) e)

with_turns_fits : (lps : ℕ) (schedule : List ℕ) (t : Turns) → FitsItems lps schedule → t.lp < lps → IfGiven (FitsItems lps) (with_turns schedule t)
with_turns_fits lps schedule t h below =
    given_if (FitsItems lps) (ltb (2 ^ 20) (length schedule + t.times)) _ reason.Full (Ok (schedule ++ replicate t.times t.lp)) refl
    (λ e. record {
      below = All-append (λ lp. lp < lps) schedule (replicate t.times t.lp) h.below (All-replicate (λ lp. lp < lps) t.times t.lp below);
      few = rw (length-append, length-replicate) (grind (arith, e));
    })

all_turns_fit : (lps : ℕ) (ws : List (List ℕ)) → All (FitsTurns lps) (map (turns_in lps) ws)
all_turns_fit lps [] = All-nil (FitsTurns lps)
all_turns_fit lps (w ∷ ws) = All-cons (FitsTurns lps) (turns_in lps w) (map (turns_in lps) ws) (turns_fit lps (item_of w)) (all_turns_fit lps ws)

written_fits : (lps : ℕ) (ts : List (Option Turns)) (schedule : List ℕ) → All (FitsTurns lps) ts → FitsItems lps schedule → IfGiven (FitsItems lps) (written_of schedule ts)
written_fits lps [] schedule h k = k
written_fits lps (None ∷ ts) schedule h k = tt
written_fits lps (Some t ∷ ts) schedule h k =
    given_then (FitsItems lps) (FitsItems lps) (with_turns schedule t) (λ s. written_of s ts) (with_turns_fits lps schedule t k (All-head (FitsTurns lps) (Some t) ts h))
    (λ s f. written_fits lps ts s (All-tail (FitsTurns lps) (Some t) ts h) f)

schedule_fits : (lps : ℕ) (schedule : List ℕ) (ws : List (List ℕ)) → FitsItems lps schedule → IfGiven (FitsItems lps) (schedule_of lps schedule ws)
unfolding schedule_of
schedule_fits lps schedule ws h =
    given_if (FitsItems lps) (length ws == 0) _ reason.Count _ refl
    (λ a. given_if (FitsItems lps) (not (list_all (λ w. is_some (item_of w)) ws)) _ reason.Number _ refl
    (λ b. given_if (FitsItems lps) (not (list_all (λ w. is_some (turns_in lps w)) ws)) _ reason.Range _ refl
    (λ c. written_fits lps (map (turns_in lps) ws) schedule (all_turns_fit lps ws) h)))

-- the calls so far
record FitsCalls (lps : ℕ) (calls : List (List Call)) : Type 0 where
  pub lists : length calls ≡ lps
  pub few : All (λ list. length list ≤ 4096) calls
  pub arguments : All (λ list. All FitsCall list) calls

list_fits : (P : List Call → Type 0) (calls : List (List Call)) (lp : ℕ) → P [] → All P calls → (lp < length calls) ⊎ (length calls ≤ lp) → P (get_or calls lp [])
list_fits P calls lp none all (inl lt) = all lp [] lt
list_fits P calls lp none all (inr past) = rw (get_or_past calls lp [] past) none

-- with one more, and its slot among theirs
abbrev FitsMore : ℕ → Option ℕ → List (List Call) → List (List Call) → Type 0
FitsMore lps o calls more = FitsCalls lps more × Added o calls more

call_added : (lps lp : ℕ) (calls : List (List Call)) (c : Call) → FitsCalls lps calls → FitsCall c → IfGiven (FitsMore lps (output_slot c) calls) (with_call calls lp c)
call_added lps lp calls c h fit =
    let list = get_or calls lp [] in
    given_if (FitsMore lps (output_slot c) calls) (leb 4096 (length list)) _ reason.Full (Ok (set calls lp (list ++ c ∷ []))) refl
    (λ e. (
      record {
        lists = rw length-set h.lists;
        few = All-set (λ list. length list ≤ 4096) calls lp (list ++ c ∷ []) (rw length-append (grind (arith, e))) h.few;
        arguments =
            All-set (λ list. All FitsCall list) calls lp (list ++ c ∷ [])
            (All-push FitsCall list c (list_fits (λ list. All FitsCall list) calls lp (All-nil FitsCall) h.arguments (cases_lt lp (length calls))) fit) h.arguments;
      },
      added calls lp c,
    ))

-- the slot of one more is named
slot_given : (o : Option ℕ) (named : List Bool) (old new : List (List Call)) → FitsSlots named (output_slots old) → FitsSlot o → Added o old new → IfGiven (λ names. FitsSlots names (output_slots new)) (with_slot named o)
slot_given None named old new h fit (inl p) = slots_more named None (output_slots old) (output_slots new) h tt tt p
slot_given None named old new h fit (inr e) = subst (λ slots. FitsSlots named slots) (sym e) h
slot_given (Some s) named old new h fit (inl p) =
    given_if (λ names. FitsSlots names (output_slots new)) (get_or named s false) _ reason.Slot (Ok (set named s true)) refl (λ free. slots_more named (Some s) (output_slots old) (output_slots new) h fit free p)
slot_given (Some s) named old new h fit (inr e) =
    given_if (λ names. FitsSlots names (output_slots new)) (get_or named s false) _ reason.Slot (Ok (set named s true)) refl
    (λ free. subst (λ slots. FitsSlots (set named s true) slots) (sym e) (slot_named named s (output_slots old) h fit))

none_called : (lps : ℕ) → FitsCalls lps (replicate lps [])
none_called lps = record {
  lists = length-replicate lps [];
  few = All-replicate (λ list. length list ≤ 4096) lps [] (omega arith);
  arguments = All-replicate (λ list. All FitsCall list) lps [] (All-nil FitsCall);
}

-- the lists that have ended are marked, and the one that is open is none of them
abbrev IsMarked : List Bool → CodeSeen → Type 0
IsMarked listed c = get_or listed (8 * c.tdr + c.index) false ≡ true

abbrev IsOfAnother : CodePlace → CodeSeen → Type 0
IsOfAnother p c = p.tdr ≡ c.tdr → p.index ≢ c.index

record FitsOpen (m : Machine) (listed : List Bool) (codes : List CodeSeen) (p : CodePlace) : Type 0 where
  pub tdr : p.tdr < m.pages
  pub index : p.index < 8
  pub marked : get_or listed (list_place p) false ≡ true
  pub other : All (IsOfAnother p) codes

abbrev FitsBlock : Machine → List Bool → List CodeSeen → Option Block → Type 0
FitsBlock m listed codes (Some (block.Code p)) = FitsOpen m listed codes p
FitsBlock m listed codes _ = Unit {0}

record FitsOps (ops : List GuestOp) : Type 0 where
  pub few : length ops ≤ 256
  pub few_reports : reports_in ops ≤ 4
  pub operands : All FitsOp ops

record FitsCodes (m : Machine) (listed : List Bool) (codes : List CodeSeen) : Type 0 where
  pub room : 8 * m.pages ≤ length listed
  pub fit : All (IsCode m) codes
  pub marked : All (IsMarked listed) codes
  pub others : AreOfOthers codes

no_ops : FitsOps []
no_ops = record { few = omega arith; few_reports = omega arith; operands = All-nil FitsOp }

op_added : (ops : List GuestOp) (g : GuestOp) → FitsOps ops → FitsOp g → IfGiven FitsOps (with_op ops g)
op_added ops g h fit =
    given_if FitsOps (is_full ops g) _ reason.Full (Ok (ops ++ g ∷ [])) refl
    (λ e. let room = few_more (length ops) (reports_in ops) (is_report g) h.few_reports e in
    let more = reports_more ops g in
    record { few = rw length-append (omega (arith, room.0)); few_reports = omega (arith, more, room.1); operands = All-push FitsOp ops g h.operands fit })

-- a list that begins: its mark is set, and all marks before stay
all_still_marked : (listed : List Bool) (i : ℕ) (codes : List CodeSeen) → i < length listed → All (IsMarked listed) codes → All (IsMarked (set listed i true)) codes
all_still_marked listed i [] room h = All-nil (IsMarked (set listed i true))
all_still_marked listed i (c ∷ cs) room h =
    All-cons (IsMarked (set listed i true)) c cs
    (still_marked listed i (8 * c.tdr + c.index) (All-head (IsMarked listed) c cs h) (cases_eq i (8 * c.tdr + c.index)) room)
    (all_still_marked listed i cs room (All-tail (IsMarked listed) c cs h))

of_another : (listed : List Bool) (p : CodePlace) (c : CodeSeen) → get_or listed (list_place p) false ≡ false → IsMarked listed c → IsOfAnother p c
of_another listed p c free marked = λ t i. let P : ℕ → ℕ → Type 0 = λ a b. get_or listed (8 * a + b) false ≡ false in cc_of (subst (λ b. P c.tdr b) i (subst (λ a. P a p.index) t free)) marked
  where
    cc_of : {x : Bool} → x ≡ false → x ≡ true → ⊥
    cc_of h k = cc

all_of_another : (listed : List Bool) (p : CodePlace) (codes : List CodeSeen) → get_or listed (list_place p) false ≡ false → All (IsMarked listed) codes → All (IsOfAnother p) codes
all_of_another listed p [] free h = All-nil (IsOfAnother p)
all_of_another listed p (c ∷ cs) free h =
    All-cons (IsOfAnother p) c cs (of_another listed p c free (All-head (IsMarked listed) c cs h)) (all_of_another listed p cs free (All-tail (IsMarked listed) c cs h))

in_room : (pages tdr index size : ℕ) → tdr < pages → index < 8 → 8 * pages ≤ size → 8 * tdr + index < size
in_room pages tdr index size h k room = omega (arith, h, k, room)

opened_codes : (m : Machine) (listed : List Bool) (codes : List CodeSeen) (p : CodePlace) → FitsCodes m listed codes → FitsPlace m listed p → FitsCodes m (set listed (list_place p) true) codes
opened_codes m listed codes p h k = record {
  room = rw length-set h.room;
  fit = h.fit;
  marked = all_still_marked listed (list_place p) codes (in_room m.pages p.tdr p.index (length listed) k.tdr k.index h.room) h.marked;
  others = h.others;
}

opened : (m : Machine) (listed : List Bool) (codes : List CodeSeen) (p : CodePlace) → FitsCodes m listed codes → FitsPlace m listed p → FitsOpen m (set listed (list_place p) true) codes p
opened m listed codes p h k = record {
  tdr = k.tdr;
  index = k.index;
  marked = get_or-set_same listed (list_place p) true false (in_room m.pages p.tdr p.index (length listed) k.tdr k.index h.room);
  other = all_of_another listed p codes k.free h.marked;
}

-- a list that ends stands behind the others
others_more : (codes : List CodeSeen) (p : CodePlace) (ops : List GuestOp) → AreOfOthers codes → All (IsOfAnother p) codes → AreOfOthers (codes ++ (record { tdr = p.tdr; index = p.index; ops = ops }) ∷ [])
others_more [] p ops h k = (All-nil _, tt)
others_more (c ∷ cs) p ops h k = (
  All-push (λ d. d.tdr ≡ c.tdr → d.index ≢ c.index) cs (record { tdr = p.tdr; index = p.index; ops = ops }) h.0 (All-head (IsOfAnother p) c cs k),
  others_more cs p ops h.1 (All-tail (IsOfAnother p) c cs k),
)

closed_codes : (m : Machine) (listed : List Bool) (codes : List CodeSeen) (ops : List GuestOp) (p : CodePlace) → FitsCodes m listed codes → FitsOps ops → FitsOpen m listed codes p
    → FitsCodes m listed (codes ++ (record { tdr = p.tdr; index = p.index; ops = ops }) ∷ [])
closed_codes m listed codes ops p h o k = record {
  room = h.room;
  fit = All-push (IsCode m) codes (record { tdr = p.tdr; index = p.index; ops = ops }) h.fit (record { tdr = k.tdr; index = k.index; few = o.few; few_reports = o.few_reports; operands = o.operands });
  marked = All-push (IsMarked listed) codes (record { tdr = p.tdr; index = p.index; ops = ops }) h.marked k.marked;
  others = others_more codes p ops h.others k.other;
}

-- what the lines so far said
record FitsMachine (m : Machine) (b : Option Block) (listed named : List Bool) (schedule : List ℕ) (codes : List CodeSeen) (ops : List GuestOp) (calls : List (List Call)) : Type 0 where
  pub limits : in_limits m.lps m.pages m.hkids ≡ true
  pub items : FitsItems m.lps schedule
  pub codes_fit : FitsCodes m listed codes
  pub ops_fit : FitsOps ops
  pub block_fits : FitsBlock m listed codes b
  pub calls_fit : FitsCalls m.lps calls
  pub slots_fit : FitsSlots named (output_slots calls)

-- before the machine's line
record FitsNothing (b : Option Block) (listed named : List Bool) (schedule : List ℕ) (codes : List CodeSeen) (ops : List GuestOp) : Type 0 where
  pub outside : b ≡ None
  pub marks : length listed ≡ 8192
  pub names : length named ≡ 4096
  pub items : schedule ≡ []
  pub lists : codes ≡ []
  pub operations : ops ≡ []

abbrev FitsParts : Option Machine → Option Block → List Bool → List Bool → List ℕ → List CodeSeen → List GuestOp → List (List Call) → Type 0
FitsParts None b listed named schedule codes ops calls = FitsNothing b listed named schedule codes ops
FitsParts (Some m) b listed named schedule codes ops calls = FitsMachine m b listed named schedule codes ops calls

abbrev FitsSoFar : SoFar → Type 0
FitsSoFar d = FitsParts d.stage.machine d.stage.block d.listed d.named d.schedule d.codes d.ops d.calls

abbrev state : Option Machine → Option Block → List Bool → List Bool → List Bool → List ℕ → List CodeSeen → List GuestOp → List (List Call) → SoFar
state machine b had listed named schedule codes ops calls = record { stage = record { machine = machine; block = b; had = had }; listed = listed; named = named; schedule = schedule; codes = codes; ops = ops; calls = calls }

no_items : (lps : ℕ) (schedule : List ℕ) → schedule ≡ [] → FitsItems lps schedule
no_items lps schedule e = record { below = rw e (All-nil (λ lp. lp < lps)); few = rw e (omega arith) }

few_pages : (m : Machine) → in_limits m.lps m.pages m.hkids ≡ true → m.pages ≤ 1024
few_pages m h = grind arith

no_codes : (m : Machine) (listed : List Bool) (codes : List CodeSeen) → m.pages ≤ 1024 → length listed ≡ 8192 → codes ≡ [] → FitsCodes m listed codes
no_codes m listed codes few marks e = record { room = omega (arith, few, marks); fit = rw e (All-nil (IsCode m)); marked = rw e (All-nil (IsMarked listed)); others = rw e tt }

machine_entered : (m : Machine) (b : Option Block) (listed named : List Bool) (schedule : List ℕ) (codes : List CodeSeen) (ops : List GuestOp) → FitsNothing b listed named schedule codes ops → in_limits m.lps m.pages m.hkids ≡ true → FitsMachine m b listed named schedule codes ops (replicate m.lps [])
machine_entered m b listed named schedule codes ops h k = record {
  limits = k;
  items = no_items m.lps schedule h.items;
  codes_fit = no_codes m listed codes (few_pages m k) h.marks h.lists;
  ops_fit = rw h.operations no_ops;
  block_fits = rw h.outside tt;
  calls_fit = none_called m.lps;
  slots_fit = none_fit named m.lps h.names;
}

closed_fits : (m : Machine) (b : Option Block) (had listed named : List Bool) (schedule : List ℕ) (codes : List CodeSeen) (ops : List GuestOp) (calls : List (List Call)) → FitsMachine m b listed named schedule codes ops calls
    → FitsSoFar (closed_of (state (Some m) b had listed named schedule codes ops calls) b)
closed_fits m None had listed named schedule codes ops calls h = record { limits = h.limits; items = h.items; codes_fit = h.codes_fit; ops_fit = h.ops_fit; block_fits = tt; calls_fit = h.calls_fit; slots_fit = h.slots_fit }
closed_fits m (Some (block.Lp lp)) had listed named schedule codes ops calls h = record { limits = h.limits; items = h.items; codes_fit = h.codes_fit; ops_fit = h.ops_fit; block_fits = tt; calls_fit = h.calls_fit; slots_fit = h.slots_fit }
closed_fits m (Some (block.Code p)) had listed named schedule codes ops calls h = record { limits = h.limits; items = h.items; codes_fit = closed_codes m listed codes ops p h.codes_fit h.ops_fit h.block_fits; ops_fit = no_ops; block_fits = tt; calls_fit = h.calls_fit; slots_fit = h.slots_fit }

entered_fits : (machine : Option Machine) (b : Option Block) (had listed named : List Bool) (schedule : List ℕ) (codes : List CodeSeen) (ops : List GuestOp) (calls : List (List Call)) (e : Entry) (ws : List (List ℕ))
    → FitsParts machine b listed named schedule codes ops calls → FitsEntry machine listed e → IfGiven FitsSoFar (entered_of (state machine b had listed named schedule codes ops calls) e ws)
unfolding entered_of
entered_fits None b had listed named schedule codes ops calls (entry.Machine m) ws h k = machine_entered m b listed named schedule codes ops h k
entered_fits None b had listed named schedule codes ops calls (entry.Schedule lps) ws h k = absurd k
entered_fits None b had listed named schedule codes ops calls (entry.Open lp) ws h k = absurd k
entered_fits None b had listed named schedule codes ops calls (entry.List p) ws h k = absurd k
entered_fits None b had listed named schedule codes ops calls entry.End ws h k = absurd k
entered_fits None b had listed named schedule codes ops calls (entry.Call lp c) ws h k = absurd k
entered_fits None b had listed named schedule codes ops calls (entry.Read lp tdr) ws h k = absurd k
entered_fits None b had listed named schedule codes ops calls (entry.Operation g) ws h k = absurd k
entered_fits (Some m) b had listed named schedule codes ops calls (entry.Machine n) ws h k = absurd k
entered_fits (Some m) b had listed named schedule codes ops calls (entry.Schedule lps) ws h k =
    rw k
    (given_then (FitsItems m.lps) FitsSoFar (schedule_of m.lps schedule ws) _ (schedule_fits m.lps schedule ws h.items)
    (λ s f. record { limits = h.limits; items = f; codes_fit = h.codes_fit; ops_fit = h.ops_fit; block_fits = h.block_fits; calls_fit = h.calls_fit; slots_fit = h.slots_fit }))
entered_fits (Some m) b had listed named schedule codes ops calls (entry.Open lp) ws h k = record { limits = h.limits; items = h.items; codes_fit = h.codes_fit; ops_fit = h.ops_fit; block_fits = tt; calls_fit = h.calls_fit; slots_fit = h.slots_fit }
entered_fits (Some m) b had listed named schedule codes ops calls (entry.List p) ws h k =
    record { limits = h.limits; items = h.items; codes_fit = opened_codes m listed codes p h.codes_fit k; ops_fit = h.ops_fit; block_fits = opened m listed codes p h.codes_fit k; calls_fit = h.calls_fit; slots_fit = h.slots_fit }
entered_fits (Some m) b had listed named schedule codes ops calls entry.End ws h k = closed_fits m b had listed named schedule codes ops calls h
entered_fits (Some m) b had listed named schedule codes ops calls (entry.Call lp c) ws h k =
    given_then (FitsMore m.lps (output_slot c) calls) FitsSoFar (with_call calls lp c) _ (call_added m.lps lp calls c h.calls_fit k.0)
    (λ x f. given_then (λ names. FitsSlots names (output_slots x)) FitsSoFar (with_slot named (output_slot c)) _ (slot_given (output_slot c) named calls x h.slots_fit k.1 f.1)
    (λ names g. record { limits = h.limits; items = h.items; codes_fit = h.codes_fit; ops_fit = h.ops_fit; block_fits = h.block_fits; calls_fit = f.0; slots_fit = g }))
entered_fits (Some m) b had listed named schedule codes ops calls (entry.Read lp tdr) ws h k =
    given_field FitsSoFar (field_of (get_or ws 1 [])) _
    (λ field. given_then (FitsMore m.lps None calls) FitsSoFar (with_call calls lp (call.MngRd tdr field)) _ (call_added m.lps lp calls (call.MngRd tdr field) h.calls_fit (All-cons fits tdr [] k (All-nil fits)))
    (λ x f. record { limits = h.limits; items = h.items; codes_fit = h.codes_fit; ops_fit = h.ops_fit; block_fits = h.block_fits; calls_fit = f.0; slots_fit = slot_given None named calls x h.slots_fit tt f.1 }))
entered_fits (Some m) b had listed named schedule codes ops calls (entry.Operation g) ws h k =
    given_then FitsOps FitsSoFar (with_op ops g) _ (op_added ops g h.ops_fit k)
    (λ x f. record { limits = h.limits; items = h.items; codes_fit = h.codes_fit; ops_fit = f; block_fits = h.block_fits; calls_fit = h.calls_fit; slots_fit = h.slots_fit })

entry_fits : (d : SoFar) (w : List ℕ) (ws : List (List ℕ)) → IfGiven (FitsEntry d.stage.machine d.listed) (entry_of d.stage d.listed w (map number ws))
unfolding entry_of
entry_fits d w ws = placed_fits d.stage.machine d.stage.block d.stage.had d.listed w (map number ws) (numbers_fit ws)

comment_fits : (b : Bool) (d : SoFar) (x : Result SoFar Reason) → FitsSoFar d → IfGiven FitsSoFar x → IfGiven FitsSoFar (cond b (Ok d) x)
comment_fits true d x h k = h
comment_fits false d x h k = k

words_fit : (d : SoFar) (ws : List (List ℕ)) → FitsSoFar d → IfGiven FitsSoFar (worded_of d ws)
unfolding worded_of
words_fit d [] h = h
words_fit d (w ∷ ws) h =
    comment_fits (is_comment w) d _ h
    (given_then (FitsEntry d.stage.machine d.listed) FitsSoFar (entry_of d.stage d.listed w (map number ws)) (λ e. entered_of d e ws) (entry_fits d w ws)
    (λ e f. entered_fits d.stage.machine d.stage.block d.stage.had d.listed d.named d.schedule d.codes d.ops d.calls e ws h f))

line_fits : (d : SoFar) (line : List ℕ) → FitsSoFar d → IfGiven FitsSoFar (line_of d line)
unfolding line_of
line_fits d line h = given_if FitsSoFar (not (is_printable line)) _ reason.Byte _ refl (λ e. words_fit d (words line) h)

-- whole scripts
abbrev IfRead : Result ScriptSeen ScriptFault → Type 0
IfRead (Ok s) = IsInForm s
IfRead (Err e) = Unit {0}

all_in_limits : (m : Machine) → in_limits m.lps m.pages m.hkids ≡ true → IsMachine m
all_in_limits m h = record { lps = (grind arith, grind arith); pages = (grind arith, grind arith); hkids = (grind arith, grind arith) }

script_fits : (m : Option Machine) (b : Option Block) (listed named : List Bool) (schedule : List ℕ) (codes : List CodeSeen) (ops : List GuestOp) (calls : List (List Call)) (n : ℕ) → FitsParts m b listed named schedule codes ops calls → IfRead (script_of m b schedule codes calls n)
script_fits None b listed named schedule codes ops calls n h = tt
script_fits (Some m) (Some b) listed named schedule codes ops calls n h = tt
script_fits (Some m) None listed named schedule codes ops calls n h =
    record {
      machine = all_in_limits m h.limits;
      items = h.items.below;
      few_items = h.items.few;
      codes = h.codes_fit.fit;
      others = h.codes_fit.others;
      lists = h.calls_fit.lists;
      few_calls = h.calls_fit.few;
      arguments = h.calls_fit.arguments;
      slots = h.slots_fit.few;
      apart = h.slots_fit.apart;
    }

read_if : (b : Bool) (x y : Result ScriptSeen ScriptFault) → IfRead x → IfRead y → IfRead (cond b x y)
read_if true x y h k = h
read_if false x y h k = k

ended_fits : (d : SoFar) (n : ℕ) (rest : List ℕ) → FitsSoFar d → IfRead (ended_of d n rest)
ended_fits d n rest h = read_if (not (length rest == 0)) (Err (Bad n reason.Unterminated)) _ tt (script_fits d.stage.machine d.stage.block d.listed d.named d.schedule d.codes d.ops d.calls n h)

then_fits : (r : Result SoFar Reason) (n : ℕ) (f : SoFar → Result ScriptSeen ScriptFault) → IfGiven FitsSoFar r → ((e : SoFar) → FitsSoFar e → IfRead (f e)) → IfRead (then_on r n f)
then_fits (Ok e) n f h k = k e h
then_fits (Err r) n f h k = tt

rest_fits : (parts : List (List ℕ)) (d : SoFar) (n : ℕ) → FitsSoFar d → IfRead (read_from d n parts)
rest_fits [] d n h = ended_fits d n [] h
rest_fits (piece ∷ parts) d n h =
    read_if (length parts == 0) (ended_of d n piece) _ (ended_fits d n piece h)
    (then_fits (line_of d piece) n (λ e. read_from e (n + 1) parts) (line_fits d piece h) (λ e f. rest_fits parts e (n + 1) f))

marks_are : length none_listed ≡ 8192
unfolding none_listed
marks_are = length-replicate 8192 false

names_are : length none_named ≡ 4096
unfolding none_named
names_are = length-replicate 4096 false

nothing_fits : FitsSoFar nothing_yet
nothing_fits = record { outside = refl; marks = marks_are; names = names_are; items = refl; lists = refl; operations = refl }

read_fits : (bytes : List ℕ) → IfRead (read_of bytes)
unfolding read_of
read_fits bytes = read_if (ltb (2 ^ 24) (length bytes)) (Err (Bad 0 reason.Length)) _ tt (rest_fits (pieces bytes) nothing_yet 1 nothing_fits)

pub in_forms : ScriptsAreInForm
in_forms = record { in_form = λ bytes s is. let h : IfRead (read_of bytes) = read_fits bytes in subst IfRead is h }
