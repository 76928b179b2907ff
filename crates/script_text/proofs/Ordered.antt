-- A line's fault is the first reason that holds.
use Rattle.std.proofs.Common.{◌≡◌, ℕ, ◌+◌, ◌*◌, ◌^◌, ◌≤◌, List, [], ◌∷◌, ◌++◌, length, map, find, option_map, get_or, set, replicate, Bool, true, false, not, cond, leb, ltb, ◌==◌, ◌&&◌, Option, Some, None, Result, Ok, Err, refl, ap, sym, ◌∙◌, arith}
use Rattle.std.specs.Prelude.{is_some, unwrap_or, codes}
use Rattle.std.specs.List.{list_all}
use Rattle.std.specs.Str.{bytes_eq}
use Rattle.std.proofs.lemmas.Bool.{and_parts}
use Rattle.std.proofs.lemmas.List.{length-append, length-replicate, length-map}
use Rattle.td_words.specs.declared.calls.Call.{Call}
use Rattle.td_words.specs.declared.calls.Call.TheVariants as calls
use Rattle.td_words.specs.declared.calls.GuestOp.{GuestOp}
use Rattle.td_words.specs.declared.machines.Machine.{Machine}
use Rattle.td_words.specs.declared.names.ReadField.{ReadField}
use Rattle.td_words.specs.declared.names.ReadField.TheVariants as field
use Rattle.td_words.specs.Limits.{in_limits}
use Rattle.td_words.specs.Seen.{CodeSeen}
use Rattle.td_words.specs.Slots.{output_slot}
use Rattle.line_words.specs.declared.mnemonics.CallName.{CallName}
use Rattle.line_words.specs.declared.mnemonics.CallName.TheVariants as name
use Rattle.line_words.specs.declared.mnemonics.Mnemonic.{Mnemonic}
use Rattle.line_words.specs.Mnemonics.{mnemonics, mnemonic_in}
use Rattle.line_words.specs.Number.{number}
use Rattle.line_words.specs.Words.{words, is_printable, is_comment}
use Rattle.script_text.specs.declared.faults.Reason.{Reason}
use Rattle.script_text.specs.declared.faults.Reason.TheVariants as reason
use Rattle.script_text.specs.declared.faults.ScriptFault.TheVariants.{Bad}
use Rattle.script_text.specs.declared.lines.Block.{Block}
use Rattle.script_text.specs.declared.lines.Block.TheVariants as block
use Rattle.script_text.specs.declared.lines.Entry.{Entry}
use Rattle.script_text.specs.declared.lines.Entry.TheVariants as entry
use Rattle.script_text.specs.declared.lines.Keyword.{Keyword}
use Rattle.script_text.specs.declared.lines.Keyword.TheVariants as keyword
use Rattle.script_text.specs.declared.code_blocks.CodePlace.{CodePlace}
use Rattle.script_text.specs.declared.operations.OpName.{OpName}
use Rattle.script_text.specs.declared.schedules.Turns.{Turns}
use Rattle.script_text.specs.Blocks.{field_of, slot_place_of, slot_at, fits_slot, with_slot, code_of, operation_of, operand_count, fit_operands, operands_of, guest_op_of, is_full}
use Rattle.script_text.specs.Counted.{◌>>=◌, argument}
use Rattle.script_text.specs.Line.{keyword_of, machine_of, block_of, end_of, abort_of, named_entry, are_given, ranged_of, judged_of, call_of, first_of, list_of, operation_line_of, outside_of, named_of, inside_of, placed_of, entry_of}
use Rattle.script_text.specs.Reading.{SoFar, entered_of, worded_of, line_of, script_of, ended_of}
use Rattle.script_text.specs.Reasons.{fault_in, line_reasons, end_reasons, times_of, turns_count, names_no_field, number_of, is_named, FirstWord, call_word, operation_word, word_in, machine_holds, holds_of, holds_in, holds_at, holds_at_end}
use Rattle.script_text.specs.Reasons.FirstWord.{Key}
use Rattle.script_text.specs.Schedule.{item_of, turns_in, written_of, schedule_of}
use Rattle.script_text.specs.Laws.{ReasonsInOrder}

-- all reasons but BYTE
abbrev behind_byte : List Reason
behind_byte = reason.Machine ∷ reason.Place ∷ reason.Word ∷ reason.Count ∷ reason.Number ∷ reason.Name ∷ reason.Range ∷ reason.Repeated ∷ reason.Full ∷ reason.Slot ∷ []

-- one test after the other
fault_if : {A : Type 0} (b : Bool) (r : Reason) (x : Result A Reason) (y : Option Reason) → fault_in x ≡ y → fault_in (cond b (Err r) x) ≡ cond b (Some r) y
fault_if true r x y h = refl
fault_if false r x y h = h

fault_then : {A B : Type 0} (b : Bool) (r : Reason) (x : Result A Reason) (f : A → Result B Reason) (y : Option Reason) → (b ≡ false → fault_in (x >>= f) ≡ y) → fault_in (cond b (Err r) x >>= f) ≡ cond b (Some r) y
fault_then true r x f y h = refl
fault_then false r x f y h = h refl

-- a wrong count
wrong_count : (x : Result Entry Reason) (f : Entry → Result SoFar Reason) (c : Bool) (y : Option Reason) → x ≡ Err reason.Count → c ≡ false → fault_in (x >>= f) ≡ cond (not c) (Some reason.Count) y
wrong_count x f c y e h = rw (e, h) refl

-- the reasons behind COUNT
abbrev behind_count : List Reason
behind_count = reason.Number ∷ reason.Name ∷ reason.Range ∷ reason.Repeated ∷ reason.Full ∷ reason.Slot ∷ []

abbrev state : Option Machine → Option Block → SoFar → SoFar
state machine b d = record d { stage = record d.stage { machine = machine; block = b } }

-- `machine`

machine_three : (x y z : Option ℕ) (f : Entry → Result SoFar Reason) → ((m : Machine) → fault_in (f (entry.Machine m)) ≡ None)
    → fault_in (machine_of (x ∷ y ∷ z ∷ []) >>= f) ≡ cond (not (is_some x && (is_some y && (is_some z && true)))) (Some reason.Number) (cond (not (in_limits (unwrap_or x 0) (unwrap_or y 0) (unwrap_or z 0))) (Some reason.Range) None)
unfolding machine_of
machine_three (Some a) (Some b) (Some c) f h =
    fault_then (not (in_limits a b c)) reason.Range (Ok (entry.Machine (record { lps = a; pages = b; hkids = c }))) f None (λ e. h (record { lps = a; pages = b; hkids = c }))
machine_three None y z f h = refl
machine_three (Some a) None z f h = refl
machine_three (Some a) (Some b) None f h = refl

machine_count : (ns : List (Option ℕ)) → (length ns == 3) ≡ false → machine_of ns ≡ Err reason.Count
unfolding machine_of
machine_count ns h = rw h refl

machine_order : (b : Option Block) (d : SoFar) (ws : List (List ℕ))
    → fault_in (machine_of (map number ws) >>= (λ e. entered_of (state None b d) e ws)) ≡ find (holds_of (state None b d) (Key keyword.Machine) ws) behind_byte
unfolding machine_of entered_of
machine_order b d [] = refl
machine_order b d (w ∷ []) = refl
machine_order b d (w ∷ x ∷ []) = refl
machine_order b d (w ∷ x ∷ y ∷ []) = machine_three (number w) (number x) (number y) (λ e. entered_of (state None b d) e (w ∷ x ∷ y ∷ [])) (λ m. refl)
machine_order b d (w ∷ x ∷ y ∷ z ∷ ws) =
    let all : List (List ℕ) = w ∷ x ∷ y ∷ z ∷ ws in
    let so_far : SoFar = state None b d in
    wrong_count (machine_of (map number all)) (λ e. entered_of so_far e all) (length all == 3) (find (holds_of so_far (Key keyword.Machine) all) behind_count)
    (machine_count (map number all) (grind arith)) (grind arith)

-- `lp`

block_one : (m : Machine) (had : List Bool) (x : Option ℕ) (f : Entry → Result SoFar Reason) → ((lp : ℕ) → fault_in (f (entry.Open lp)) ≡ None)
    → fault_in (block_of m had (x ∷ []) >>= f) ≡ cond (not (is_some x && true)) (Some reason.Number) (cond (not (ltb (unwrap_or x 0) m.lps)) (Some reason.Range) (cond (get_or had (unwrap_or x 0) false) (Some reason.Repeated) None))
unfolding block_of
block_one m had (Some lp) f h =
    fault_then (not (ltb lp m.lps)) reason.Range (cond (get_or had lp false) (Err reason.Repeated) (Ok (entry.Open lp))) f _
    (λ e. fault_then (get_or had lp false) reason.Repeated (Ok (entry.Open lp)) f None (λ k. h lp))
block_one m had None f h = refl

block_count : (m : Machine) (had : List Bool) (ns : List (Option ℕ)) → (length ns == 1) ≡ false → block_of m had ns ≡ Err reason.Count
unfolding block_of
block_count m had ns h = rw h refl

block_order : (m : Machine) (d : SoFar) (ws : List (List ℕ))
    → fault_in (block_of m d.stage.had (map number ws) >>= (λ e. entered_of (state (Some m) None d) e ws)) ≡ find (holds_of (state (Some m) None d) (Key keyword.Lp) ws) behind_byte
unfolding block_of entered_of
block_order m d [] = refl
block_order m d (a ∷ []) = block_one m d.stage.had (number a) (λ e. entered_of (state (Some m) None d) e (a ∷ [])) (λ lp. refl)
block_order m d (a ∷ b ∷ ws) =
    let all : List (List ℕ) = a ∷ b ∷ ws in
    let so_far : SoFar = state (Some m) None d in
    wrong_count (block_of m d.stage.had (map number all)) (λ e. entered_of so_far e all) (length all == 1) (find (holds_of so_far (Key keyword.Lp) all) behind_count)
    (block_count m d.stage.had (map number all) (grind arith)) (grind arith)

-- `end`

end_count : (ns : List (Option ℕ)) → (length ns == 0) ≡ false → end_of ns ≡ Err reason.Count
unfolding end_of
end_count ns h = rw h refl

end_order : (m : Machine) (b : Block) (d : SoFar) (ws : List (List ℕ))
    → fault_in (end_of (map number ws) >>= (λ e. entered_of (state (Some m) (Some b) d) e ws)) ≡ find (holds_of (state (Some m) (Some b) d) (Key keyword.End) ws) behind_byte
unfolding end_of entered_of
end_order m (block.Lp lp) d [] = refl
end_order m (block.Code p) d [] = refl
end_order m b d (a ∷ ws) =
    let all : List (List ℕ) = a ∷ ws in
    let so_far : SoFar = state (Some m) (Some b) d in
    wrong_count (end_of (map number all)) (λ e. entered_of so_far e all) (length all == 0) (find (holds_of so_far (Key keyword.End) all) behind_count)
    (end_count (map number all) (grind arith)) (grind arith)

-- `schedule`

abbrev full_if : ℕ → Option Reason
full_if n = cond (ltb (2 ^ 20) n) (Some reason.Full) None

-- the next item, where c says that it is too much by itself, and q that all of them are
next_item : {B : Type 0} (c q : Bool) (s : List ℕ) (g : List ℕ → Result (List ℕ) Reason) (f : List ℕ → Result B Reason) → (c ≡ true → q ≡ true) → (c ≡ false → fault_in (g s >>= f) ≡ cond q (Some reason.Full) None)
    → fault_in ((cond c (Err reason.Full) (Ok s) >>= g) >>= f) ≡ cond q (Some reason.Full) None
next_item true q s g f h k = ap (λ b. cond b (Some reason.Full) None) (sym (h refl))
next_item false q s g f h k = k refl

written_item : {B : Type 0} (t : Option Turns) (schedule : List ℕ) (rest : List (Option Turns)) (n : ℕ) (f : List ℕ → Result B Reason) → is_some t ≡ true
    → ((u : Turns) → length schedule + u.times ≤ 2 ^ 20 → fault_in (written_of (schedule ++ replicate u.times u.lp) rest >>= f) ≡ full_if (length schedule + u.times + n))
    → fault_in (written_of schedule (t ∷ rest) >>= f) ≡ full_if (length schedule + (times_of t + n))
written_item None schedule rest n f is h = cc
written_item (Some t) schedule rest n f is h =
    let same : length schedule + t.times + n ≡ length schedule + (t.times + n) = omega arith in
    next_item (ltb (2 ^ 20) (length schedule + t.times)) (ltb (2 ^ 20) (length schedule + (t.times + n))) (schedule ++ replicate t.times t.lp) (λ s. written_of s rest) f
    (λ e. grind (arith, e)) (λ e. h t (grind (arith, e)) ∙ ap (λ k. cond (ltb (2 ^ 20) k) (Some reason.Full) None) same)

-- what is written behind a schedule that isn't too long
abbrev Written : {B : Type 0} → ℕ → List (List ℕ) → (List ℕ → Result B Reason) → Type 0
Written lps ws f = (s : List ℕ) → length s ≤ 2 ^ 20 → fault_in (written_of s (map (turns_in lps) ws) >>= f) ≡ full_if (length s + turns_count lps ws)

written_next : {B : Type 0} (lps : ℕ) (w : List ℕ) (ws : List (List ℕ)) (schedule : List ℕ) (f : List ℕ → Result B Reason) → is_some (turns_in lps w) ≡ true → Written lps ws f
    → fault_in (written_of schedule (map (turns_in lps) (w ∷ ws)) >>= f) ≡ full_if (length schedule + turns_count lps (w ∷ ws))
written_next lps w ws schedule f is later =
    written_item (turns_in lps w) schedule (map (turns_in lps) ws) (turns_count lps ws) f is
    (λ u few. let long : length (schedule ++ replicate u.times u.lp) ≡ length schedule + u.times = rw (length-append, length-replicate) refl in
    later (schedule ++ replicate u.times u.lp) (omega (arith, long, few)) ∙ ap (λ k. cond (ltb (2 ^ 20) (k + turns_count lps ws)) (Some reason.Full) None) long)

none_if : (b : Bool) → b ≡ false → None ≡ cond b (Some reason.Full) None
none_if true h = cc
none_if false h = refl

written_order : {B : Type 0} (lps : ℕ) (ws : List (List ℕ)) (f : List ℕ → Result B Reason) → ((s : List ℕ) → fault_in (f s) ≡ None) → list_all (λ w. is_some (turns_in lps w)) ws ≡ true → Written lps ws f
written_order lps [] f fine all = λ s room. fine s ∙ none_if (ltb (2 ^ 20) (length s + turns_count lps [])) (grind (arith, room))
written_order lps (w ∷ ws) f fine all =
    let p = and_parts (is_some (turns_in lps w)) (list_all (λ x. is_some (turns_in lps x)) ws) all in
    λ s room. written_next lps w ws s f p.0 (written_order lps ws f fine p.1)

schedule_order : (m : Machine) (d : SoFar) (ws : List (List ℕ))
    → fault_in (entered_of (state (Some m) None d) (entry.Schedule m.lps) ws) ≡ find (holds_of (state (Some m) None d) (Key keyword.Schedule) ws) behind_byte
unfolding entered_of schedule_of
schedule_order m d [] = refl
schedule_order m d (w ∷ ws) =
    let f : List ℕ → Result SoFar Reason = λ s. Ok (record (state (Some m) None d) { schedule = s }) in
    fault_then (length (w ∷ ws) == 0) reason.Count _ f _
    (λ a. fault_then (not (list_all (λ w. is_some (item_of w)) (w ∷ ws))) reason.Number _ f _
    (λ b. fault_then (not (list_all (λ w. is_some (turns_in m.lps w)) (w ∷ ws))) reason.Range (written_of d.schedule (map (turns_in m.lps) (w ∷ ws))) f (full_if (length d.schedule + turns_count m.lps (w ∷ ws)))
    (λ c. let p = and_parts (is_some (turns_in m.lps w)) (list_all (λ x. is_some (turns_in m.lps x)) ws) (not_false _ c) in
    written_next m.lps w ws d.schedule f p.0 (written_order m.lps ws f (λ s. refl) p.1))))
  where
    not_false : (b : Bool) → not b ≡ false → b ≡ true
    not_false true h = refl
    not_false false h = cc

-- calls

counted_call : (e : Entry) (m : Mnemonic) (ns : List (Option ℕ)) (f : Entry → Result SoFar Reason) (y : Option Reason) → fault_in (ranged_of e m.call ns >>= f) ≡ y
    → fault_in (judged_of e m ns >>= f) ≡ cond (not (leb m.least (length ns) && leb (length ns) m.most)) (Some reason.Count) (cond (not (are_given m.call ns)) (Some reason.Number) y)
counted_call e m ns f y h =
    fault_then (not (leb m.least (length ns) && leb (length ns) m.most)) reason.Count (cond (not (are_given m.call ns)) (Err reason.Number) (ranged_of e m.call ns)) f _
    (λ a. fault_then (not (are_given m.call ns)) reason.Number (ranged_of e m.call ns) f y (λ b. h))

-- a field is bad by its name alone
abbrev ByName : Result ReadField Reason → Type 0
ByName (Ok x) = Unit {0}
ByName (Err r) = r ≡ reason.Name

by_name_if : (b : Bool) (x : ReadField) (r : Result ReadField Reason) → ByName r → ByName (cond b (Ok x) r)
by_name_if true x r h = tt
by_name_if false x r h = h

by_name : (w : List ℕ) → ByName (field_of w)
by_name w =
    let mrtd : Result ReadField Reason = cond (bytes_eq w (codes "MRTD")) (Ok field.Mrtd) (Err reason.Name) in
    let epoch : Result ReadField Reason = cond (bytes_eq w (codes "EPOCH")) (Ok field.Epoch) mrtd in
    let op : Result ReadField Reason = cond (bytes_eq w (codes "OP")) (Ok field.Op) epoch in
    by_name_if (bytes_eq w (codes "LIFE")) field.Life op
    (by_name_if (bytes_eq w (codes "OP")) field.Op epoch
    (by_name_if (bytes_eq w (codes "EPOCH")) field.Epoch mrtd
    (by_name_if (bytes_eq w (codes "MRTD")) field.Mrtd (Err reason.Name) refl)))

field_order : {B : Type 0} (r : Result ReadField Reason) (g : ReadField → Result B Reason) (y : Option Reason) → ByName r → ((x : ReadField) → fault_in (g x) ≡ y) → fault_in (r >>= g) ≡ cond (is_some (fault_in r)) (Some reason.Name) y
field_order (Ok x) g y h k = k x
field_order (Err r) g y h k = ap Some h

-- at most 4,096 of them
abbrev crowded : List (List Call) → ℕ → Bool
crowded calls lp = leb 4096 (length (get_or calls lp []))

-- an output slot that isn't named yet
abbrev slot_ends : List Bool → Option ℕ → Option Reason
slot_ends named None = None
slot_ends named (Some s) = cond (get_or named s false) (Some reason.Slot) None

slot_order : (named : List Bool) (o : Option ℕ) (f : List Bool → Result SoFar Reason) → ((names : List Bool) → fault_in (f names) ≡ None) → fault_in (with_slot named o >>= f) ≡ slot_ends named o
slot_order named None f h = h named
slot_order named (Some s) f h = fault_then (get_or named s false) reason.Slot (Ok (set named s true)) f None (λ e. h (set named s true))

call_full : (m : Machine) (lp : ℕ) (d : SoFar) (c : Call) (ws : List (List ℕ))
    → fault_in (entered_of (state (Some m) (Some (block.Lp lp)) d) (entry.Call lp c) ws) ≡ cond (crowded d.calls lp) (Some reason.Full) (slot_ends d.named (output_slot c))
unfolding entered_of
call_full m lp d c ws =
    fault_then (crowded d.calls lp) reason.Full (Ok (set d.calls lp (get_or d.calls lp [] ++ c ∷ []))) (λ calls. with_slot d.named (output_slot c) >>= (λ named. Ok (record (state (Some m) (Some (block.Lp lp)) d) { calls = calls; named = named })))
    (slot_ends d.named (output_slot c))
    (λ e. slot_order d.named (output_slot c) (λ named. Ok (record (state (Some m) (Some (block.Lp lp)) d) { calls = set d.calls lp (get_or d.calls lp [] ++ c ∷ []); named = named })) (λ named. refl))

-- a call whose slot is in range, or RANGE
slot_full_if : (m : Machine) (lp : ℕ) (d : SoFar) (make : ℕ → Call) (b : Bool) (n : ℕ) (ws : List (List ℕ)) → ((s : ℕ) → output_slot (make s) ≡ Some s)
    → fault_in (cond (not b) (Err reason.Range) (Ok (entry.Call lp (make (cond b n 0)))) >>= (λ x. entered_of (state (Some m) (Some (block.Lp lp)) d) x ws))
    ≡ cond (not b) (Some reason.Range) (cond (crowded d.calls lp) (Some reason.Full) (cond (get_or d.named n false) (Some reason.Slot) None))
slot_full_if m lp d make true n ws is = call_full m lp d (make n) ws ∙ ap (λ o. cond (crowded d.calls lp) (Some reason.Full) (slot_ends d.named o)) (is n)
slot_full_if m lp d make false n ws is = refl

slot_full : (m : Machine) (lp : ℕ) (d : SoFar) (make : ℕ → Call) (i : ℕ) (ws : List (List ℕ)) → ((s : ℕ) → output_slot (make s) ≡ Some s)
    → fault_in (cond (not (fits_slot (Some i) (map number ws))) (Err reason.Range) (Ok (entry.Call lp (make (slot_at (map number ws) i)))) >>= (λ x. entered_of (state (Some m) (Some (block.Lp lp)) d) x ws))
    ≡ cond (not (fits_slot (Some i) (map number ws))) (Some reason.Range) (cond (crowded d.calls lp) (Some reason.Full) (cond (is_named d.named (Some i) ws) (Some reason.Slot) None))
slot_full m lp d make i ws is = slot_full_if m lp d make (leb (argument (map number ws) i) 4095) (argument (map number ws) i) ws is

read_full : (m : Machine) (lp tdr : ℕ) (d : SoFar) (ws : List (List ℕ))
    → fault_in (entered_of (state (Some m) (Some (block.Lp lp)) d) (entry.Read lp tdr) ws) ≡ cond (names_no_field name.MngRd ws) (Some reason.Name) (cond (crowded d.calls lp) (Some reason.Full) None)
unfolding entered_of
read_full m lp tdr d ws =
    field_order (field_of (get_or ws 1 [])) _ (cond (crowded d.calls lp) (Some reason.Full) None) (by_name (get_or ws 1 [])) (λ x. fault_then (crowded d.calls lp) reason.Full _ _ None (λ e. refl))

-- what a call's line comes to, once its words are counted and numbers
abbrev call_ends : CallName → SoFar → ℕ → List (List ℕ) → Option Reason
call_ends call d lp ws =
    cond (names_no_field call ws) (Some reason.Name)
    (cond (not (fits_slot (slot_place_of call) (map number ws))) (Some reason.Range)
    (cond (crowded d.calls lp) (Some reason.Full) (cond (is_named d.named (slot_place_of call) ws) (Some reason.Slot) None)))

abbrev EntryEnds : Machine → ℕ → SoFar → List (List ℕ) → CallName → Entry → Type 0
EntryEnds m lp d ws call e = fault_in (ranged_of e call (map number ws) >>= (λ x. entered_of (state (Some m) (Some (block.Lp lp)) d) x ws)) ≡ call_ends call d lp ws

abort_ends : (m : Machine) (lp : ℕ) (d : SoFar) (ws : List (List ℕ)) (with_slot : Bool) (tdr slot : ℕ) → EntryEnds m lp d ws name.ExportAbort (abort_of lp with_slot tdr slot)
abort_ends m lp d ws true tdr slot = call_full m lp d _ ws
abort_ends m lp d ws false tdr slot = call_full m lp d _ ws

entry_ends : (m : Machine) (lp : ℕ) (d : SoFar) (ws : List (List ℕ)) (call : CallName) → EntryEnds m lp d ws call (named_entry lp call (map number ws))
entry_ends m lp d ws name.HostRead = call_full m lp d _ ws
entry_ends m lp d ws name.HostWrite = call_full m lp d _ ws
entry_ends m lp d ws name.PhymemPageRdmd = call_full m lp d _ ws
entry_ends m lp d ws name.PhymemCacheWb = call_full m lp d _ ws
entry_ends m lp d ws name.PhymemPageReclaim = call_full m lp d _ ws
entry_ends m lp d ws name.MngCreate = call_full m lp d _ ws
entry_ends m lp d ws name.MngKeyConfig = call_full m lp d _ ws
entry_ends m lp d ws name.MngAddcx = call_full m lp d _ ws
entry_ends m lp d ws name.MngInit = call_full m lp d _ ws
entry_ends m lp d ws name.MngRd = read_full m lp _ d ws
entry_ends m lp d ws name.MngVpflushdone = call_full m lp d _ ws
entry_ends m lp d ws name.MngKeyFreeid = call_full m lp d _ ws
entry_ends m lp d ws name.MrExtend = call_full m lp d _ ws
entry_ends m lp d ws name.MrFinalize = call_full m lp d _ ws
entry_ends m lp d ws name.VpCreate = call_full m lp d _ ws
entry_ends m lp d ws name.VpInit = call_full m lp d _ ws
entry_ends m lp d ws name.VpEnter = call_full m lp d _ ws
entry_ends m lp d ws name.VpFlush = call_full m lp d _ ws
entry_ends m lp d ws name.MemSeptAdd = call_full m lp d _ ws
entry_ends m lp d ws name.MemSeptRd = call_full m lp d _ ws
entry_ends m lp d ws name.MemSeptRemove = call_full m lp d _ ws
entry_ends m lp d ws name.MemPageAdd = call_full m lp d _ ws
entry_ends m lp d ws name.MemPageAug = call_full m lp d _ ws
entry_ends m lp d ws name.MemPageRemove = call_full m lp d _ ws
entry_ends m lp d ws name.MemPageRelocate = call_full m lp d _ ws
entry_ends m lp d ws name.MemRangeBlock = call_full m lp d _ ws
entry_ends m lp d ws name.MemRangeUnblock = call_full m lp d _ ws
entry_ends m lp d ws name.MemTrack = call_full m lp d _ ws
entry_ends m lp d ws name.MigStreamCreate = call_full m lp d _ ws
entry_ends m lp d ws name.ExportBlockw = call_full m lp d _ ws
entry_ends m lp d ws name.ExportUnblockw = call_full m lp d _ ws
entry_ends m lp d ws name.ExportPause = call_full m lp d _ ws
entry_ends m lp d ws name.ExportAbort = abort_ends m lp d ws (length (map number ws) == 2) _ _
entry_ends m lp d ws name.ExportRestore = call_full m lp d _ ws
entry_ends m lp d ws name.ExportStateImmutable = slot_full m lp d (λ slot. calls.ExportStateImmutable (number_of ws 0) slot) 1 ws (λ slot. refl)
entry_ends m lp d ws name.ExportMem = slot_full m lp d (λ slot. calls.ExportMem (number_of ws 0) (number_of ws 1) (number_of ws 2) slot) 3 ws (λ slot. refl)
entry_ends m lp d ws name.ExportTrack = slot_full m lp d (λ slot. calls.ExportTrack (number_of ws 0) slot (number_of ws 2)) 1 ws (λ slot. refl)
entry_ends m lp d ws name.ExportStateTd = slot_full m lp d (λ slot. calls.ExportStateTd (number_of ws 0) slot) 1 ws (λ slot. refl)
entry_ends m lp d ws name.ExportStateVp = slot_full m lp d (λ slot. calls.ExportStateVp (number_of ws 0) (number_of ws 1) slot) 2 ws (λ slot. refl)
entry_ends m lp d ws name.ImportStateImmutable = call_full m lp d _ ws
entry_ends m lp d ws name.ImportMem = call_full m lp d _ ws
entry_ends m lp d ws name.ImportTrack = call_full m lp d _ ws
entry_ends m lp d ws name.ImportStateTd = call_full m lp d _ ws
entry_ends m lp d ws name.ImportStateVp = call_full m lp d _ ws
entry_ends m lp d ws name.ImportCommit = call_full m lp d _ ws
entry_ends m lp d ws name.ImportEnd = call_full m lp d _ ws
entry_ends m lp d ws name.ImportAbort = slot_full m lp d (λ slot. calls.ImportAbort (number_of ws 0) slot) 1 ws (λ slot. refl)

call_order : (m : Machine) (lp : ℕ) (d : SoFar) (row : Option Mnemonic) (ws : List (List ℕ))
    → fault_in (call_of lp row (map number ws) >>= (λ e. entered_of (state (Some m) (Some (block.Lp lp)) d) e ws)) ≡ find (holds_of (state (Some m) (Some (block.Lp lp)) d) (call_word row) ws) behind_byte
unfolding call_of
call_order m lp d None ws = refl
call_order m lp d (Some row) ws =
    counted_call (named_entry lp row.call (map number ws)) row (map number ws) (λ e. entered_of (state (Some m) (Some (block.Lp lp)) d) e ws) (call_ends row.call d lp ws) (entry_ends m lp d ws row.call)
    ∙ rw length-map refl

-- `code`

code_two : (m : Machine) (listed : List Bool) (x y : Option ℕ) (f : Entry → Result SoFar Reason) → ((p : CodePlace) → fault_in (f (entry.List p)) ≡ None)
    → fault_in (list_of m listed (x ∷ y ∷ []) >>= f)
    ≡ cond (not (is_some x && (is_some y && true))) (Some reason.Number) (cond (not (ltb (unwrap_or x 0) m.pages && ltb (unwrap_or y 0) 8)) (Some reason.Range) (cond (get_or listed (8 * unwrap_or x 0 + unwrap_or y 0) false) (Some reason.Repeated) None))
unfolding code_of
code_two m listed (Some tdr) (Some index) f h = two_tests (not (ltb tdr m.pages && ltb index 8)) (get_or listed (8 * tdr + index) false) (record { tdr = tdr; index = index }) f (h (record { tdr = tdr; index = index }))
  where
    two_tests : (a b : Bool) (p : CodePlace) (f : Entry → Result SoFar Reason) → fault_in (f (entry.List p)) ≡ None
        → fault_in ((cond a (Err reason.Range) (cond b (Err reason.Repeated) (Ok p)) >>= (λ place. Ok (entry.List place))) >>= f) ≡ cond a (Some reason.Range) (cond b (Some reason.Repeated) None)
    two_tests true b p f h = refl
    two_tests false true p f h = refl
    two_tests false false p f h = h
code_two m listed None y f h = refl
code_two m listed (Some tdr) None f h = refl

code_count : (m : Machine) (listed : List Bool) (ns : List (Option ℕ)) → (length ns == 2) ≡ false → list_of m listed ns ≡ Err reason.Count
unfolding code_of
code_count m listed ns h = rw h refl

code_order : (m : Machine) (d : SoFar) (ws : List (List ℕ))
    → fault_in (list_of m d.listed (map number ws) >>= (λ e. entered_of (state (Some m) None d) e ws)) ≡ find (holds_of (state (Some m) None d) (Key keyword.Code) ws) behind_byte
unfolding code_of entered_of
code_order m d [] = refl
code_order m d (w ∷ []) = refl
code_order m d (w ∷ x ∷ []) = code_two m d.listed (number w) (number x) (λ e. entered_of (state (Some m) None d) e (w ∷ x ∷ [])) (λ p. refl)
code_order m d (w ∷ x ∷ y ∷ ws) =
    let all : List (List ℕ) = w ∷ x ∷ y ∷ ws in
    let so_far : SoFar = state (Some m) None d in
    wrong_count (list_of m d.listed (map number all)) (λ e. entered_of so_far e all) (length all == 2) (find (holds_of so_far (Key keyword.Code) all) behind_count)
    (code_count m d.listed (map number all) (grind arith)) (grind arith)

-- operations

operation_full : (m : Machine) (p : CodePlace) (d : SoFar) (g : GuestOp) (ws : List (List ℕ))
    → fault_in (entered_of (state (Some m) (Some (block.Code p)) d) (entry.Operation g) ws) ≡ cond (is_full d.ops g) (Some reason.Full) None
unfolding entered_of
operation_full m p d g ws = fault_then (is_full d.ops g) reason.Full _ _ None (λ e. refl)

-- what an operation's line comes to
abbrev tested : Bool → Bool → Bool → Result (Unit {0}) Reason
tested a b c = cond a (Err reason.Count) (cond b (Err reason.Number) (cond c (Err reason.Range) (Ok tt)))

operands_order : (a b c : Bool) (g : GuestOp) (f : Entry → Result SoFar Reason) (y : Option Reason) → fault_in (f (entry.Operation g)) ≡ y
    → fault_in ((tested a b c >>= (λ t. Ok (entry.Operation g))) >>= f) ≡ cond a (Some reason.Count) (cond b (Some reason.Number) (cond c (Some reason.Range) y))
operands_order true b c g f y h = refl
operands_order false true c g f y h = refl
operands_order false false true g f y h = refl
operands_order false false false g f y h = h

named_order_of : (m : Machine) (p : CodePlace) (d : SoFar) (g : GuestOp) (o : OpName) (ns : List (Option ℕ)) (ws : List (List ℕ))
    → fault_in ((operands_of o ns >>= (λ t. Ok (entry.Operation g))) >>= (λ e. entered_of (state (Some m) (Some (block.Code p)) d) e ws))
    ≡ cond (not (length ns == operand_count o)) (Some reason.Count) (cond (not (list_all is_some ns)) (Some reason.Number) (cond (not (fit_operands o (argument ns 0) (argument ns 1))) (Some reason.Range) (cond (is_full d.ops g) (Some reason.Full) None)))
named_order_of m p d g o ns ws =
    operands_order (not (length ns == operand_count o)) (not (list_all is_some ns)) (not (fit_operands o (argument ns 0) (argument ns 1))) g (λ e. entered_of (state (Some m) (Some (block.Code p)) d) e ws) (cond (is_full d.ops g) (Some reason.Full) None)
    (operation_full m p d g ws)

operation_order : (m : Machine) (p : CodePlace) (d : SoFar) (o : Option OpName) (ws : List (List ℕ))
    → fault_in (operation_line_of o (map number ws) >>= (λ e. entered_of (state (Some m) (Some (block.Code p)) d) e ws)) ≡ find (holds_of (state (Some m) (Some (block.Code p)) d) (operation_word o) ws) behind_byte
unfolding operation_line_of
operation_order m p d None ws = refl
operation_order m p d (Some o) ws =
    named_order_of m p d (guest_op_of o (argument (map number ws) 0) (argument (map number ws) 1)) o (map number ws) ws ∙ rw length-map refl

-- by the place of the line

first_order : (b : Option Block) (d : SoFar) (k : Option Keyword) (w : List ℕ) (ws : List (List ℕ))
    → fault_in (first_of k (map number ws) >>= (λ e. entered_of (state None b d) e ws)) ≡ find (holds_of (state None b d) (word_in k b w) ws) behind_byte
first_order b d (Some keyword.Machine) w ws = machine_order b d ws
first_order b d (Some keyword.Schedule) w ws = refl
first_order b d (Some keyword.Code) w ws = refl
first_order b d (Some keyword.Lp) w ws = refl
first_order b d (Some keyword.End) w ws = refl
first_order b d None w ws = not_first (state None b d) (word_in None b w) ws (not_machine b w)
  where
    IsNoMachine : FirstWord → Type 0
    IsNoMachine w = machine_holds false w ≡ true

    not_first : (d : SoFar) (w : FirstWord) (ws : List (List ℕ)) → machine_holds (is_some d.stage.machine) w ≡ true → Some reason.Machine ≡ find (holds_of d w ws) behind_byte
    not_first d w ws h = rw h refl

    named_no_call : (m : Option Mnemonic) → machine_holds false (call_word m) ≡ true
    named_no_call None = refl
    named_no_call (Some m) = refl

    named_no_operation : (o : Option OpName) → machine_holds false (operation_word o) ≡ true
    named_no_operation None = refl
    named_no_operation (Some o) = refl

    not_machine : (b : Option Block) (w : List ℕ) → machine_holds false (word_in None b w) ≡ true
    not_machine None w = refl
    not_machine (Some (block.Lp lp)) w = named_no_call (mnemonic_in mnemonics w)
    not_machine (Some (block.Code p)) w = named_no_operation (operation_of w)

outside_order : (m : Machine) (d : SoFar) (k : Option Keyword) (w : List ℕ) (ws : List (List ℕ))
    → fault_in (outside_of m d.stage.had d.listed k (map number ws) >>= (λ e. entered_of (state (Some m) None d) e ws)) ≡ find (holds_of (state (Some m) None d) (word_in k None w) ws) behind_byte
outside_order m d (Some keyword.Machine) w ws = refl
outside_order m d (Some keyword.End) w ws = refl
outside_order m d (Some keyword.Schedule) w ws = schedule_order m d ws
outside_order m d (Some keyword.Code) w ws = code_order m d ws
outside_order m d (Some keyword.Lp) w ws = block_order m d ws
outside_order m d None w ws = refl

named_order : (m : Machine) (b : Block) (d : SoFar) (w : List ℕ) (ws : List (List ℕ))
    → fault_in (named_of b w (map number ws) >>= (λ e. entered_of (state (Some m) (Some b) d) e ws)) ≡ find (holds_of (state (Some m) (Some b) d) (word_in None (Some b) w) ws) behind_byte
named_order m (block.Lp lp) d w ws = call_order m lp d (mnemonic_in mnemonics w) ws
named_order m (block.Code p) d w ws = operation_order m p d (operation_of w) ws

inside_order : (m : Machine) (b : Block) (d : SoFar) (k : Option Keyword) (w : List ℕ) (ws : List (List ℕ))
    → fault_in (inside_of b k w (map number ws) >>= (λ e. entered_of (state (Some m) (Some b) d) e ws)) ≡ find (holds_of (state (Some m) (Some b) d) (word_in k (Some b) w) ws) behind_byte
inside_order m b d (Some keyword.Machine) w ws = refl
inside_order m b d (Some keyword.Schedule) w ws = refl
inside_order m b d (Some keyword.Code) w ws = refl
inside_order m b d (Some keyword.Lp) w ws = refl
inside_order m b d (Some keyword.End) w ws = end_order m b d ws
inside_order m b d None w ws = named_order m b d w ws

placed_order : (machine : Option Machine) (b : Option Block) (d : SoFar) (w : List ℕ) (ws : List (List ℕ))
    → fault_in (placed_of machine b d.stage.had d.listed w (map number ws) >>= (λ e. entered_of (state machine b d) e ws)) ≡ find (holds_of (state machine b d) (word_in (keyword_of w) b w) ws) behind_byte
placed_order None b d w ws = first_order b d (keyword_of w) w ws
placed_order (Some m) None d w ws = outside_order m d (keyword_of w) w ws
placed_order (Some m) (Some b) d w ws = inside_order m b d (keyword_of w) w ws

comment_order : (c : Bool) (d : SoFar) (x : Result SoFar Reason) (holds : Reason → Bool) → fault_in x ≡ find holds behind_byte → fault_in (cond c (Ok d) x) ≡ find (λ r. not c && holds r) behind_byte
comment_order true d x holds h = refl
comment_order false d x holds h = h

words_order : (d : SoFar) (ws : List (List ℕ)) → fault_in (worded_of d ws) ≡ find (holds_in d ws) behind_byte
unfolding worded_of entry_of
words_order d [] = refl
words_order d (w ∷ ws) =
    comment_order (is_comment w) d _ (holds_of d (word_in (keyword_of w) d.stage.block w) ws) (placed_order d.stage.machine d.stage.block d w ws)

line_order : (d : SoFar) (line : List ℕ) → fault_in (line_of d line) ≡ find (holds_at d line) line_reasons
unfolding line_of
line_order d line = fault_if (not (is_printable line)) reason.Byte (worded_of d (words line)) _ (words_order d (words line))

-- the end of a script
end_cases : (empty : Bool) (m : Option Machine) (b : Option Block) (schedule : List ℕ) (lists : List CodeSeen) (calls : List (List Call)) (n : ℕ)
    → fault_in (cond (not empty) (Err (Bad n reason.Unterminated)) (script_of m b schedule lists calls n))
    ≡ option_map (Bad n) (cond (not empty) (Some reason.Unterminated) (cond (not (is_some m)) (Some reason.Machine) (cond (is_some b) (Some reason.Endless) None)))
end_cases false m b schedule lists calls n = refl
end_cases true None b schedule lists calls n = refl
end_cases true (Some m) (Some b) schedule lists calls n = refl
end_cases true (Some m) None schedule lists calls n = refl

script_end_order : (d : SoFar) (n : ℕ) (rest : List ℕ) → fault_in (ended_of d n rest) ≡ option_map (Bad n) (find (holds_at_end d rest) end_reasons)
script_end_order d n rest = end_cases (length rest == 0) d.stage.machine d.stage.block d.schedule d.codes d.calls n

pub ordered : ReasonsInOrder
ordered = record { in_line = line_order; at_end = script_end_order }
