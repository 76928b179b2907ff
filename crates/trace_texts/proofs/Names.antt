-- A script that is read has the calls that its call lines name.
use Rattle.std.proofs.Common.{◌≡◌, ◌≢◌, ℕ, zero, suc, ◌+◌, ◌-◌, ◌^◌, ◌<◌, ◌≤◌, List, [], ◌∷◌, ◌++◌, length, map, get_or, set, replicate, Bool, true, false, not, cond, leb, ltb, ◌==◌, ◌&&◌, ◌||◌, Option, Some, None, Result, Ok, Err, ◌⊎◌, inl, inr, IfOk, ok_or, refl, sym, ap, ◌∙◌, subst, arith, codes}
use Rattle.std.specs.Str.{bytes_eq}
use Rattle.std.proofs.lemmas.Bool.{cases_lt, or_from, or_left, or_right, true≢false}
use Rattle.std.proofs.lemmas.Bool.Decides.{eqb_tells}
use Rattle.std.proofs.lemmas.List.{append-nil, append_assoc, map-append, length-replicate, length-set, get_or_past, get_or-set_same, get_or-set_other}
use Rattle.std.proofs.lemmas.Result.{IfOk-weaker}
use Rattle.std.proofs.lemmas.Slice.Eq.{bytes_eq-Decides}
use Rattle.td_words.specs.declared.calls.Call.{Call}
use Rattle.td_words.specs.declared.calls.Call.TheVariants as call
use Rattle.td_words.specs.declared.machines.Machine.{Machine}
use Rattle.td_words.specs.Limits.{in_limits}
use Rattle.td_words.specs.Seen.{CodeSeen}
use Rattle.td_words.specs.Slots.{output_slot}
use Rattle.line_words.specs.declared.mnemonics.CallName.{CallName}
use Rattle.line_words.specs.declared.mnemonics.Mnemonic.{Mnemonic}
use Rattle.line_words.specs.Mnemonics.{mnemonics, mnemonic_in}
use Rattle.line_words.specs.Number.{number}
use Rattle.line_words.specs.Words.{pieces, words, is_printable, is_comment}
use Rattle.script_text.specs.declared.faults.Reason.{Reason}
use Rattle.script_text.specs.declared.faults.Reason.TheVariants as reason
use Rattle.script_text.specs.declared.faults.ScriptFault.{ScriptFault}
use Rattle.script_text.specs.declared.faults.ScriptFault.TheVariants.{Bad}
use Rattle.script_text.specs.declared.lines.Keyword.{Keyword}
use Rattle.script_text.specs.declared.lines.Keyword.TheVariants as keyword
use Rattle.script_text.specs.declared.lines.Block.{Block}
use Rattle.script_text.specs.declared.lines.Block.TheVariants as block
use Rattle.script_text.specs.declared.lines.Entry.{Entry}
use Rattle.script_text.specs.declared.lines.Entry.TheVariants as entry
use Rattle.script_text.specs.declared.operations.OpName.{OpName}
use Rattle.script_text.specs.Counted.{◌>>=◌, counted_of, number_at, argument}
use Rattle.script_text.specs.Line.{keyword_of, machine_of, block_of, end_of, abort_of, named_entry, are_given, call_of, first_of, operation_line_of, outside_of, inside_of, placed_of, entry_of}
use Rattle.script_text.specs.Blocks.{field_of, slot_place_of, fits_slot, with_slot, code_of, operation_of, operands_of}
use Rattle.script_text.specs.Schedule.{schedule_of}
use Rattle.script_text.specs.Reading.{SoFar, nothing_yet, with_call, with_op, closed_of, entered_of, worded_of, line_of, script_of, ended_of, then_on, read_from, read_of}
use Rattle.script_text.specs.Seen.{ScriptSeen}
use Rattle.script_text.specs.Laws.{ScriptsAreInForm}
use Rattle.script_text.specs.Spelling.{call_word}
use Rattle.trace_texts.specs.CallLines.{CallLineSeen, begin_with, is_number, opens, is_open_behind, call_on, call_lines, call_list, call_lists, no_line}
use Rattle.trace_texts.specs.CallLines as call_lines_of
use Rattle.trace_texts.specs.Names.{word_of}

-- ---- what is given, if anything is

ok_if : {A : Type 0} (P : A → Type 0) (b : Bool) (r : Reason) (x : Result A Reason) → (b ≡ false → IfOk x P) → IfOk (cond b (Err r) x) P
ok_if P true r x h = tt
ok_if P false r x h = h refl

ok_of : {A B : Type 0} (P : B → Type 0) (r : Result A Reason) (f : A → Result B Reason) → ((x : A) → IfOk (f x) P) → IfOk (r >>= f) P
ok_of P (Ok x) f h = h x
ok_of P (Err e) f h = tt

ok_at : {A B : Type 0} (P : B → Type 0) (r : Result A Reason) (f : A → Result B Reason) → ((x : A) → r ≡ Ok x → IfOk (f x) P) → IfOk (r >>= f) P
ok_at P (Ok x) f h = h x refl
ok_at P (Err e) f h = tt

ok_then : {A B : Type 0} (Q : A → Type 0) (P : B → Type 0) (r : Result A Reason) (f : A → Result B Reason) → IfOk r Q → ((x : A) → Q x → IfOk (f x) P) → IfOk (r >>= f) P
ok_then Q P (Ok x) f h k = k x h
ok_then Q P (Err e) f h k = tt

not_false : (b : Bool) → not b ≡ false → b ≡ true
not_false true h = refl
not_false false h = cc

-- ---- words

-- a word is neither `lp` nor `end`
record IsOther (w : List ℕ) : Type 0 where
  pub no_lp : bytes_eq w (codes "lp") ≡ false
  pub no_end : bytes_eq w (codes "end") ≡ false

never : (b : Bool) → (b ≡ true → ⊥) → b ≡ false
never true h = absurd (h refl)
never false h = refl

-- a word that is one name isn't another
apart : (w a b : List ℕ) → bytes_eq a b ≡ false → bytes_eq w a ≡ true → bytes_eq w b ≡ false
apart w a b h is = subst (λ (x : List ℕ). bytes_eq x b ≡ false) (sym ((bytes_eq-Decides w a).0 is)) h

-- what the tests of keywords choose
abbrev chosen : (a b c d e : Bool) → Option Keyword
chosen a b c d e = cond a (Some keyword.Machine) (cond b (Some keyword.Schedule) (cond c (Some keyword.Code) (cond d (Some keyword.Lp) (cond e (Some keyword.End) None))))

abbrev is_lp : Option Keyword → Bool
is_lp None = false
is_lp (Some keyword.Machine) = false
is_lp (Some keyword.Schedule) = false
is_lp (Some keyword.Code) = false
is_lp (Some keyword.Lp) = true
is_lp (Some keyword.End) = false

abbrev is_end : Option Keyword → Bool
is_end None = false
is_end (Some keyword.Machine) = false
is_end (Some keyword.Schedule) = false
is_end (Some keyword.Code) = false
is_end (Some keyword.Lp) = false
is_end (Some keyword.End) = true

lp_chosen : (a b c d e : Bool) → (a ≡ true → d ≡ false) → (b ≡ true → d ≡ false) → (c ≡ true → d ≡ false) → d ≡ is_lp (chosen a b c d e)
lp_chosen true b c d e f g h = f refl
lp_chosen false true c d e f g h = g refl
lp_chosen false false true d e f g h = h refl
lp_chosen false false false true e f g h = refl
lp_chosen false false false false true f g h = refl
lp_chosen false false false false false f g h = refl

end_chosen : (a b c d e : Bool) → (a ≡ true → e ≡ false) → (b ≡ true → e ≡ false) → (c ≡ true → e ≡ false) → (d ≡ true → e ≡ false) → e ≡ is_end (chosen a b c d e)
end_chosen true b c d e f g h k = f refl
end_chosen false true c d e f g h k = g refl
end_chosen false false true d e f g h k = h refl
end_chosen false false false true e f g h k = k refl
end_chosen false false false false true f g h k = refl
end_chosen false false false false false f g h k = refl

lp_word : (w : List ℕ) → bytes_eq w (codes "lp") ≡ is_lp (keyword_of w)
lp_word w =
    lp_chosen (bytes_eq w (codes "machine")) (bytes_eq w (codes "schedule")) (bytes_eq w (codes "code")) (bytes_eq w (codes "lp")) (bytes_eq w (codes "end"))
    (apart w (codes "machine") (codes "lp") refl) (apart w (codes "schedule") (codes "lp") refl) (apart w (codes "code") (codes "lp") refl)

end_word : (w : List ℕ) → bytes_eq w (codes "end") ≡ is_end (keyword_of w)
end_word w =
    end_chosen (bytes_eq w (codes "machine")) (bytes_eq w (codes "schedule")) (bytes_eq w (codes "code")) (bytes_eq w (codes "lp")) (bytes_eq w (codes "end"))
    (apart w (codes "machine") (codes "end") refl) (apart w (codes "schedule") (codes "end") refl) (apart w (codes "code") (codes "end") refl) (apart w (codes "lp") (codes "end") refl)

other : (w : List ℕ) (k : Option Keyword) → keyword_of w ≡ k → is_lp k ≡ false → is_end k ≡ false → IsOther w
other w k is l e = record { no_lp = lp_word w ∙ ap is_lp is ∙ l; no_end = end_word w ∙ ap is_end is ∙ e }

no_comment : (w name : List ℕ) → is_comment w ≡ true → is_comment name ≡ false → bytes_eq w name ≡ false
no_comment w name c n = never (bytes_eq w name) (λ is. true≢false (sym c ∙ ap is_comment ((bytes_eq-Decides w name).0 is) ∙ n))

other_comment : (w : List ℕ) → is_comment w ≡ true → IsOther w
other_comment w c = record { no_lp = no_comment w (codes "lp") c refl; no_end = no_comment w (codes "end") c refl }

-- ---- calls by their names

-- what a line says is a call of processor q, by that word
abbrev IsCallOf : ℕ → List ℕ → Entry → Type 0
IsCallOf q w (entry.Call lp c) = (lp ≡ q) × (call_word c ≡ w)
IsCallOf q w (entry.Read lp tdr) = (lp ≡ q) × (codes "MNG.RD" ≡ w)
IsCallOf q w _ = ⊥

abbrev AreNamed : ℕ → List (Option ℕ) → List (List ℕ × CallName × ℕ × ℕ) → Type 0
AreNamed q ns [] = Unit {0}
AreNamed q ns (row ∷ rows) = IsCallOf q row.0 (named_entry q row.1 ns) × AreNamed q ns rows

abort_named : (q : ℕ) (with_slot : Bool) (tdr slot : ℕ) → IsCallOf q (codes "EXPORT.ABORT") (abort_of q with_slot tdr slot)
abort_named q true tdr slot = (refl, refl)
abort_named q false tdr slot = (refl, refl)

are_named : (q : ℕ) (ns : List (Option ℕ)) → AreNamed q ns mnemonics
are_named q ns =
    let a = abort_named q (length ns == 2) (argument ns 0) (argument ns 1) in
    ((refl, refl), ((refl, refl), ((refl, refl), ((refl, refl), ((refl, refl), ((refl, refl), ((refl, refl), ((refl, refl), ((refl, refl), ((refl, refl), ((refl, refl), ((refl, refl), ((refl, refl), ((refl, refl), ((refl, refl), ((refl, refl), ((refl, refl), ((refl, refl), ((refl, refl), ((refl, refl), ((refl, refl), ((refl, refl), ((refl, refl), ((refl, refl), ((refl, refl), ((refl, refl), ((refl, refl), ((refl, refl), ((refl, refl), ((refl, refl), ((refl, refl), ((refl, refl), ((refl, refl), ((refl, refl), ((refl, refl), ((refl, refl), ((refl, refl), (a, ((refl, refl), ((refl, refl), ((refl, refl), ((refl, refl), ((refl, refl), ((refl, refl), ((refl, refl), ((refl, refl), ((refl, refl), tt)))))))))))))))))))))))))))))))))))))))))))))))

found_if : (b : Bool) (q : ℕ) (w name : List ℕ) (ns : List (Option ℕ)) (c : CallName) (k m : Mnemonic) (more : Option Mnemonic) → bytes_eq w name ≡ b → k.call ≡ c → IsCallOf q name (named_entry q c ns)
    → (more ≡ Some m → IsCallOf q w (named_entry q m.call ns)) → cond b (Some k) more ≡ Some m → IsCallOf q w (named_entry q m.call ns)
found_if true q w name ns c k m more is at named rest h =
    let e : w ≡ name = (bytes_eq-Decides w name).0 is in
    let same : k ≡ m = cc in
    subst (λ (x : Mnemonic). IsCallOf q w (named_entry q x.call ns)) same (subst (λ (x : CallName). IsCallOf q w (named_entry q x ns)) (sym at) (subst (λ (x : List ℕ). IsCallOf q x (named_entry q c ns)) (sym e) named))
found_if false q w name ns c k m more is at named rest h = rest h

found : (rows : List (List ℕ × CallName × ℕ × ℕ)) (q : ℕ) (w : List ℕ) (ns : List (Option ℕ)) (m : Mnemonic) → AreNamed q ns rows → mnemonic_in rows w ≡ Some m → IsCallOf q w (named_entry q m.call ns)
found [] q w ns m named h = cc
found (row ∷ rows) q w ns m named h =
    found_if (bytes_eq w row.0) q w row.0 ns row.1 (record { call = row.1; least = row.2; most = row.3 }) m (mnemonic_in rows w) refl refl named.0 (found rows q w ns m named.1) h

-- ---- what a line says

-- outside blocks, behind the machine's line
record Outside (d : SoFar) : Type 0 where
  pub m : Machine
  pub is : d.stage.machine ≡ Some m
  pub no_block : d.stage.block ≡ None

-- `lp L`
record Opens (d : SoFar) (w : List ℕ) (ws : List (List ℕ)) (lp : ℕ) : Type 0 where
  pub outside : Outside d
  pub below : lp < outside.m.lps
  pub here : (p : ℕ) → opens p (w ∷ ws) ≡ (lp == p)

abbrev Says : SoFar → List ℕ → List (List ℕ) → Entry → Type 0
Says d w ws (entry.Machine m) = (d.stage.machine ≡ None) × IsOther w
Says d w ws (entry.Schedule lps) = Outside d × IsOther w
Says d w ws (entry.Open lp) = Opens d w ws lp
Says d w ws (entry.List place) = Outside d × IsOther w
Says d w ws entry.End = (bytes_eq w (codes "lp") ≡ false) × (bytes_eq w (codes "end") ≡ true)
Says d w ws (entry.Call lp c) = (d.stage.block ≡ Some (block.Lp lp)) × (call_word c ≡ w) × IsOther w
Says d w ws (entry.Read lp tdr) = (d.stage.block ≡ Some (block.Lp lp)) × (codes "MNG.RD" ≡ w) × IsOther w
Says d w ws (entry.Operation g) = ((p : ℕ) → d.stage.block ≢ Some (block.Lp p)) × IsOther w

machine_says : (d : SoFar) (w : List ℕ) (ws : List (List ℕ)) (ns : List (Option ℕ)) → d.stage.machine ≡ None → IsOther w → IfOk (machine_of ns) (Says d w ws)
unfolding machine_of
machine_says d w ws ns none o =
    ok_of (Says d w ws) (counted_of 3 ns) _
    (λ t. ok_of (Says d w ws) (number_at ns 0) _
    (λ lps. ok_of (Says d w ws) (number_at ns 1) _
    (λ pages. ok_of (Says d w ws) (number_at ns 2) _ (λ hkids. ok_if (Says d w ws) (not (in_limits lps pages hkids)) reason.Range _ (λ e. (none, o))))))

first_says : (d : SoFar) (w : List ℕ) (ws : List (List ℕ)) (k : Option Keyword) → d.stage.machine ≡ None → keyword_of w ≡ k → IfOk (first_of k (map number ws)) (Says d w ws)
first_says d w ws None none is = tt
first_says d w ws (Some keyword.Machine) none is = machine_says d w ws (map number ws) none (other w (Some keyword.Machine) is refl refl)
first_says d w ws (Some keyword.Schedule) none is = tt
first_says d w ws (Some keyword.Code) none is = tt
first_says d w ws (Some keyword.Lp) none is = tt
first_says d w ws (Some keyword.End) none is = tt

-- the number that an `lp` line has
first_number : (n : Option ℕ) (lp p : ℕ) → ok_or n reason.Number ≡ Ok lp → is_number p n ≡ (lp == p)
first_number None lp p h = cc
first_number (Some n) lp p h = let e : n ≡ lp = cc in ap (λ (k : ℕ). k == p) e

begins : (ws : List (List ℕ)) (lp p : ℕ) → number_at (map number ws) 0 ≡ Ok lp → begin_with p ws ≡ (lp == p)
begins [] lp p h = cc
begins (x ∷ xs) lp p h = first_number (number x) lp p h

both_true : (a b y : Bool) → a ≡ true → b ≡ y → (a && b) ≡ y
both_true true b y e h = h
both_true false b y e h = cc

opens_here : (w : List ℕ) (ws : List (List ℕ)) (lp p : ℕ) → bytes_eq w (codes "lp") ≡ true → number_at (map number ws) 0 ≡ Ok lp → opens p (w ∷ ws) ≡ (lp == p)
opens_here w ws lp p is h = both_true (bytes_eq w (codes "lp")) (begin_with p ws) (lp == p) is (begins ws lp p h)

below : (a b : ℕ) → not (ltb a b) ≡ false → a < b
below a b h = let e : ltb a b ≡ true = not_false (ltb a b) h in grind (arith, e)

block_says : (d : SoFar) (w : List ℕ) (ws : List (List ℕ)) (o : Outside d) → bytes_eq w (codes "lp") ≡ true → IfOk (block_of o.m d.stage.had (map number ws)) (Says d w ws)
unfolding block_of
block_says d w ws o is =
    ok_of (Says d w ws) (counted_of 1 (map number ws)) _
    (λ t. ok_at (Says d w ws) (number_at (map number ws) 0) _
    (λ lp at. ok_if (Says d w ws) (not (ltb lp o.m.lps)) reason.Range _
    (λ e. ok_if (Says d w ws) (get_or d.stage.had lp false) reason.Repeated (Ok (entry.Open lp))
    (λ f. record { outside = o; below = below lp o.m.lps e; here = λ p. opens_here w ws lp p is at }))))

outside_says : (d : SoFar) (w : List ℕ) (ws : List (List ℕ)) (k : Option Keyword) (o : Outside d) → keyword_of w ≡ k → IfOk (outside_of o.m d.stage.had d.listed k (map number ws)) (Says d w ws)
outside_says d w ws None o is = tt
outside_says d w ws (Some keyword.Machine) o is = tt
outside_says d w ws (Some keyword.Schedule) o is = (o, other w (Some keyword.Schedule) is refl refl)
outside_says d w ws (Some keyword.Code) o is = ok_of (Says d w ws) (code_of o.m d.listed (map number ws)) _ (λ place. (o, other w (Some keyword.Code) is refl refl))
outside_says d w ws (Some keyword.Lp) o is = block_says d w ws o (lp_word w ∙ ap is_lp is)
outside_says d w ws (Some keyword.End) o is = tt

end_says : (d : SoFar) (w : List ℕ) (ws : List (List ℕ)) (ns : List (Option ℕ)) → bytes_eq w (codes "lp") ≡ false → bytes_eq w (codes "end") ≡ true → IfOk (end_of ns) (Says d w ws)
unfolding end_of
end_says d w ws ns l e = ok_of (Says d w ws) (counted_of 0 ns) _ (λ t. (l, e))

call_says_so : (d : SoFar) (q : ℕ) (w : List ℕ) (ws : List (List ℕ)) (e : Entry) → d.stage.block ≡ Some (block.Lp q) → IsOther w → IsCallOf q w e → Says d w ws e
call_says_so d q w ws (entry.Machine m) is o h = absurd h
call_says_so d q w ws (entry.Schedule lps) is o h = absurd h
call_says_so d q w ws (entry.Open lp) is o h = absurd h
call_says_so d q w ws (entry.List place) is o h = absurd h
call_says_so d q w ws entry.End is o h = absurd h
call_says_so d q w ws (entry.Call lp c) is o h = (is ∙ ap (λ (x : ℕ). Some (block.Lp x)) (sym h.0), h.1, o)
call_says_so d q w ws (entry.Read lp tdr) is o h = (is ∙ ap (λ (x : ℕ). Some (block.Lp x)) (sym h.0), h.1, o)
call_says_so d q w ws (entry.Operation g) is o h = absurd h

call_says : (d : SoFar) (q : ℕ) (w : List ℕ) (ws : List (List ℕ)) (ns : List (Option ℕ)) (m : Option Mnemonic) → d.stage.block ≡ Some (block.Lp q) → IsOther w → mnemonic_in mnemonics w ≡ m → IfOk (call_of q m ns) (Says d w ws)
unfolding call_of
call_says d q w ws ns None is o named = tt
call_says d q w ws ns (Some m) is o named =
    ok_if (Says d w ws) (not (leb m.least (length ns) && leb (length ns) m.most)) reason.Count _
    (λ a. ok_if (Says d w ws) (not (are_given m.call ns)) reason.Number _
    (λ b. ok_if (Says d w ws) (not (fits_slot (slot_place_of m.call) ns)) reason.Range (Ok (named_entry q m.call ns))
    (λ c. call_says_so d q w ws (named_entry q m.call ns) is o (found mnemonics q w ns m (are_named q ns) named))))

operation_says : (d : SoFar) (w : List ℕ) (ws : List (List ℕ)) (ns : List (Option ℕ)) (op : Option OpName) → ((p : ℕ) → d.stage.block ≢ Some (block.Lp p)) → IsOther w → IfOk (operation_line_of op ns) (Says d w ws)
unfolding operation_line_of
operation_says d w ws ns None is o = tt
operation_says d w ws ns (Some op) is o = ok_of (Says d w ws) (operands_of op ns) _ (λ t. (is, o))

named_says : (d : SoFar) (w : List ℕ) (ws : List (List ℕ)) (b : Block) → d.stage.block ≡ Some b → keyword_of w ≡ None → IfOk (inside_of b None w (map number ws)) (Says d w ws)
named_says d w ws (block.Lp q) at is = call_says d q w ws (map number ws) (mnemonic_in mnemonics w) at (other w None is refl refl) refl
named_says d w ws (block.Code place) at is = operation_says d w ws (map number ws) (operation_of w) (λ p e. let both : Some (block.Code place) ≡ Some (block.Lp p) = sym at ∙ e in cc) (other w None is refl refl)

inside_says : (d : SoFar) (w : List ℕ) (ws : List (List ℕ)) (k : Option Keyword) (b : Block) → d.stage.block ≡ Some b → keyword_of w ≡ k → IfOk (inside_of b k w (map number ws)) (Says d w ws)
inside_says d w ws None b at is = named_says d w ws b at is
inside_says d w ws (Some keyword.Machine) b at is = tt
inside_says d w ws (Some keyword.Schedule) b at is = tt
inside_says d w ws (Some keyword.Code) b at is = tt
inside_says d w ws (Some keyword.Lp) b at is = tt
inside_says d w ws (Some keyword.End) b at is = end_says d w ws (map number ws) (lp_word w ∙ ap is_lp is) (end_word w ∙ ap is_end is)

placed_says : (d : SoFar) (w : List ℕ) (ws : List (List ℕ)) (m : Option Machine) (b : Option Block) → d.stage.machine ≡ m → d.stage.block ≡ b → IfOk (placed_of m b d.stage.had d.listed w (map number ws)) (Says d w ws)
placed_says d w ws None b is at = first_says d w ws (keyword_of w) is refl
placed_says d w ws (Some m) None is at = outside_says d w ws (keyword_of w) (record { m = m; is = is; no_block = at }) refl
placed_says d w ws (Some m) (Some b) is at = inside_says d w ws (keyword_of w) b at refl

entry_says : (d : SoFar) (w : List ℕ) (ws : List (List ℕ)) → IfOk (entry_of d.stage d.listed w (map number ws)) (Says d w ws)
unfolding entry_of
entry_says d w ws = placed_says d w ws d.stage.machine d.stage.block refl refl

-- ---- what is open

-- the block of processor p is open
abbrev is_open : ℕ → Option Block → Bool
is_open p None = false
is_open p (Some (block.Lp lp)) = lp == p
is_open p (Some (block.Code place)) = false

none_open : (p : ℕ) (b : Option Block) → b ≡ None → is_open p b ≡ false
none_open p b e = ap (is_open p) e

list_open : (p : ℕ) (b : Option Block) → ((q : ℕ) → b ≢ Some (block.Lp q)) → is_open p b ≡ false
list_open p None other = refl
list_open p (Some (block.Lp lp)) other = absurd (other lp refl)
list_open p (Some (block.Code place)) other = refl

-- another word leaves it
other_stands : (stands : Bool) (p : ℕ) (w : List ℕ) (ws : List (List ℕ)) → IsOther w → is_open_behind p stands (w ∷ ws) ≡ stands
other_stands true p w ws o = ap not o.no_end
other_stands false p w ws o = ap (λ (b : Bool). b && begin_with p ws) o.no_lp

-- `end` closes it
end_stands : (stands : Bool) (p : ℕ) (w : List ℕ) (ws : List (List ℕ)) → bytes_eq w (codes "lp") ≡ false → bytes_eq w (codes "end") ≡ true → is_open_behind p stands (w ∷ ws) ≡ false
end_stands true p w ws l e = ap not e
end_stands false p w ws l e = ap (λ (b : Bool). b && begin_with p ws) l

lp_stands : (stands : Bool) (p : ℕ) (ws : List (List ℕ)) (y : Bool) → stands ≡ false → opens p ws ≡ y → is_open_behind p stands ws ≡ y
lp_stands true p ws y e h = cc
lp_stands false p ws y e h = h

blank_stands : (stands : Bool) (p : ℕ) → is_open_behind p stands [] ≡ stands
blank_stands true p = refl
blank_stands false p = refl

-- ---- the words of calls

abbrev names_so_far : ℕ → List (List Call) → List (List ℕ)
names_so_far p calls = map call_word (get_or calls p [])

abbrev names_in : List CallLineSeen → List (List ℕ)
names_in = map (λ (c : CallLineSeen). c.name)

abbrev names_on : ℕ → Bool → List (List ℕ) → List (List ℕ)
names_on n stands ws = names_in (call_on n stands ws)

-- no name comes where the block isn't open, with `end`, with a comment and without words
outside_names : (stands : Bool) (n : ℕ) (ws : List (List ℕ)) (xs : List (List ℕ)) → stands ≡ false → xs ≡ xs ++ names_on n stands ws
outside_names true n ws xs e = cc
outside_names false n ws xs e = sym (append-nil xs)

blank_names : (stands : Bool) (n : ℕ) (xs : List (List ℕ)) → xs ≡ xs ++ names_on n stands []
blank_names true n xs = sym (append-nil xs)
blank_names false n xs = sym (append-nil xs)

no_name : (skipped : Bool) (c : CallLineSeen) (xs : List (List ℕ)) → skipped ≡ true → xs ≡ xs ++ names_in (cond skipped [] (c ∷ []))
no_name true c xs e = sym (append-nil xs)
no_name false c xs e = cc

skipped_names : (stands : Bool) (n : ℕ) (w : List ℕ) (ws : List (List ℕ)) (xs : List (List ℕ)) → (is_comment w || bytes_eq w (codes "end")) ≡ true → xs ≡ xs ++ names_on n stands (w ∷ ws)
skipped_names true n w ws xs e = no_name (is_comment w || bytes_eq w (codes "end")) (record { number = n; name = w }) xs e
skipped_names false n w ws xs e = sym (append-nil xs)

-- its own name comes with a call of the block that is open
one_name : (skipped : Bool) (c : CallLineSeen) → skipped ≡ false → names_in (cond skipped [] (c ∷ [])) ≡ c.name ∷ []
one_name true c e = cc
one_name false c e = refl

own_name : (stands : Bool) (n : ℕ) (w : List ℕ) (ws : List (List ℕ)) → stands ≡ true → is_comment w ≡ false → bytes_eq w (codes "end") ≡ false → names_on n stands (w ∷ ws) ≡ w ∷ []
own_name true n w ws s c e = one_name (is_comment w || bytes_eq w (codes "end")) (record { number = n; name = w }) (or_from (is_comment w) (bytes_eq w (codes "end")) c e)
own_name false n w ws s c e = cc

call_names : (calls : List (List Call)) (lp p n : ℕ) (c : Call) (w : List ℕ) (ws : List (List ℕ)) → lp < length calls → call_word c ≡ w → is_comment w ≡ false → IsOther w
    → names_so_far p (set calls lp (get_or calls lp [] ++ c ∷ [])) ≡ names_so_far p calls ++ names_on n (lp == p) (w ∷ ws)
call_names calls lp p n c w ws lt is comment o = by (eqb_tells lp p)
  where
    here : names_so_far lp (set calls lp (get_or calls lp [] ++ c ∷ [])) ≡ names_so_far lp calls ++ w ∷ []
    here =
        ap (map call_word) (get_or-set_same calls lp (get_or calls lp [] ++ c ∷ []) [] lt)
        ∙ map-append call_word (get_or calls lp []) (c ∷ [])
        ∙ ap (λ (x : List ℕ). names_so_far lp calls ++ x ∷ []) is

    by : (((lp == p) ≡ true) × (lp ≡ p)) ⊎ (((lp == p) ≡ false) × (lp ≢ p)) → names_so_far p (set calls lp (get_or calls lp [] ++ c ∷ [])) ≡ names_so_far p calls ++ names_on n (lp == p) (w ∷ ws)
    by (inl t) =
        let at : names_so_far p (set calls lp (get_or calls lp [] ++ c ∷ [])) ≡ names_so_far p calls ++ w ∷ [] =
        subst (λ (q : ℕ). names_so_far q (set calls lp (get_or calls lp [] ++ c ∷ [])) ≡ names_so_far q calls ++ w ∷ []) t.1 here in
        at ∙ ap (λ (xs : List (List ℕ)). names_so_far p calls ++ xs) (sym (own_name (lp == p) n w ws t.0 comment o.no_end))
    by (inr f) =
        ap (map call_word) (get_or-set_other calls lp p (get_or calls lp [] ++ c ∷ []) [] (λ e. f.1 (sym e)))
        ∙ outside_names (lp == p) n (w ∷ ws) (names_so_far p calls) f.0

-- ---- lists of calls

abbrev OpensOne : ℕ → Option Block → Type 0
OpensOne n None = Unit {0}
OpensOne n (Some (block.Lp lp)) = lp < n
OpensOne n (Some (block.Code place)) = Unit {0}

-- each processor of the machine has a list, and an open block is one of theirs; before the machine's line there is nothing
abbrev HasLists : Option Machine → Option Block → List (List Call) → Type 0
HasLists None b calls = (b ≡ None) × (calls ≡ [])
HasLists (Some m) b calls = (length calls ≡ m.lps) × OpensOne m.lps b

no_lists : (m : Option Machine) (b : Option Block) (calls : List (List Call)) → m ≡ None → HasLists m b calls → (b ≡ None) × (calls ≡ [])
no_lists None b calls e h = h
no_lists (Some m) b calls e h = cc

-- another block, or none
lists_at : (x : Option Machine) (b c : Option Block) (calls : List (List Call)) (m : Machine) → x ≡ Some m → OpensOne m.lps c → HasLists x b calls → HasLists x c calls
lists_at None b c calls m e one h = cc
lists_at (Some k) b c calls m e one h = let same : m ≡ k = cc in (h.0, subst (λ (y : Machine). OpensOne y.lps c) same one)

closed_lists : (x : Option Machine) (b : Option Block) (calls : List (List Call)) → HasLists x b calls → HasLists x None calls
closed_lists None b calls h = (refl, h.1)
closed_lists (Some m) b calls h = (h.0, tt)

-- the list of the block that is open is there, and may be another
record Lists (x : Option Machine) (b : Option Block) (calls : List (List Call)) (lp : ℕ) (list : List Call) : Type 0 where
  pub there : lp < length calls
  pub after : HasLists x b (set calls lp list)

open_lists : (x : Option Machine) (b : Option Block) (calls : List (List Call)) (lp : ℕ) (list : List Call) → b ≡ Some (block.Lp lp) → HasLists x b calls → Lists x b calls lp list
open_lists None b calls lp list is h = let both : None ≡ Some (block.Lp lp) = sym h.0 ∙ is in cc
open_lists (Some m) b calls lp list is h =
    let inside : lp < m.lps = subst (λ (y : Option Block). OpensOne m.lps y) is h.1 in
    record { there = subst (λ (n : ℕ). lp < n) (sym h.0) inside; after = (length-set calls lp list ∙ h.0, h.1) }

no_calls : (k p : ℕ) → names_so_far p (replicate k []) ≡ []
no_calls zero p = refl
no_calls (suc k) zero = refl
no_calls (suc k) (suc p) = no_calls k p

-- ---- one line

-- Behind a line of these words each processor has its list, its block is open as the text says, and the words of its calls have
-- become more by the name on that line, if one is there.
record Goes (p n : ℕ) (d : SoFar) (ws : List (List ℕ)) (e : SoFar) : Type 0 where
  pub lists : HasLists e.stage.machine e.stage.block e.calls
  pub stands : is_open_behind p (is_open p d.stage.block) ws ≡ is_open p e.stage.block
  pub names : names_so_far p e.calls ≡ names_so_far p d.calls ++ names_on n (is_open p d.stage.block) ws

abbrev HasItsLists : SoFar → Type 0
HasItsLists d = HasLists d.stage.machine d.stage.block d.calls

-- a line of another word, where the block isn't open
idle : (p n : ℕ) (d e : SoFar) (w : List ℕ) (ws : List (List ℕ)) → HasItsLists e → is_open p d.stage.block ≡ false → is_open p e.stage.block ≡ false → names_so_far p e.calls ≡ names_so_far p d.calls → IsOther w → Goes p n d (w ∷ ws) e
idle p n d e w ws lists before after same o = record {
  lists = lists;
  stands = other_stands (is_open p d.stage.block) p w ws o ∙ before ∙ sym after;
  names = same ∙ outside_names (is_open p d.stage.block) n (w ∷ ws) (names_so_far p d.calls) before;
}

closed_goes : (p n : ℕ) (d : SoFar) (ws : List (List ℕ)) (b : Option Block) → HasLists d.stage.machine None d.calls → is_open_behind p (is_open p d.stage.block) ws ≡ false
    → names_so_far p d.calls ≡ names_so_far p d.calls ++ names_on n (is_open p d.stage.block) ws → Goes p n d ws (closed_of d b)
closed_goes p n d ws None l s x = record { lists = l; stands = s; names = x }
closed_goes p n d ws (Some (block.Lp lp)) l s x = record { lists = l; stands = s; names = x }
closed_goes p n d ws (Some (block.Code place)) l s x = record { lists = l; stands = s; names = x }

-- a call is added to the list of the block that is open
called_goes : (p n : ℕ) (d : SoFar) (marks : List Bool) (lp : ℕ) (c : Call) (w : List ℕ) (ws : List (List ℕ)) (calls : List (List Call)) → HasItsLists d → is_comment w ≡ false
    → d.stage.block ≡ Some (block.Lp lp) → call_word c ≡ w → IsOther w → calls ≡ set d.calls lp (get_or d.calls lp [] ++ c ∷ [])
    → Goes p n d (w ∷ ws) (record d { calls = calls; named = marks })
called_goes p n d marks lp c w ws calls h comment at is o more =
    let its = open_lists d.stage.machine d.stage.block d.calls lp (get_or d.calls lp [] ++ c ∷ []) at h in
    let stands : is_open p d.stage.block ≡ (lp == p) = ap (is_open p) at in
    record {
      lists = subst (λ (x : List (List Call)). HasLists d.stage.machine d.stage.block x) (sym more) its.after;
      stands = other_stands (is_open p d.stage.block) p w ws o;
      names =
          ap (names_so_far p) more ∙ call_names d.calls lp p n c w ws its.there is comment o
          ∙ ap (λ (b : Bool). names_so_far p d.calls ++ names_on n b (w ∷ ws)) (sym stands);
    }

with_one : (calls : List (List Call)) (lp : ℕ) (c : Call) → IfOk (with_call calls lp c) (λ x. x ≡ set calls lp (get_or calls lp [] ++ c ∷ []))
with_one calls lp c = ok_if (λ x. x ≡ set calls lp (get_or calls lp [] ++ c ∷ [])) (leb 4096 (length (get_or calls lp []))) reason.Full (Ok (set calls lp (get_or calls lp [] ++ c ∷ []))) (λ e. refl)

entered_goes : (p n : ℕ) (d : SoFar) (w : List ℕ) (ws : List (List ℕ)) (e : Entry) → HasItsLists d → is_comment w ≡ false → Says d w ws e → IfOk (entered_of d e ws) (Goes p n d (w ∷ ws))
unfolding entered_of
entered_goes p n d w ws (entry.Machine m) h comment s =
    let none = no_lists d.stage.machine d.stage.block d.calls s.0 h in
    idle p n d (record d { stage = record d.stage { machine = Some m }; calls = replicate m.lps [] }) w ws
    (length-replicate m.lps [], subst (λ (b : Option Block). OpensOne m.lps b) (sym none.0) tt)
    (none_open p d.stage.block none.0) (none_open p d.stage.block none.0)
    (no_calls m.lps p ∙ sym (ap (names_so_far p) none.1)) s.1
entered_goes p n d w ws (entry.Schedule lps) h comment s =
    ok_of (Goes p n d (w ∷ ws)) (schedule_of lps d.schedule ws) _
    (λ x. idle p n d (record d { schedule = x }) w ws h (none_open p d.stage.block s.0.no_block) (none_open p d.stage.block s.0.no_block) refl s.1)
entered_goes p n d w ws (entry.Open lp) h comment s = record {
  lists = lists_at d.stage.machine d.stage.block (Some (block.Lp lp)) d.calls s.outside.m s.outside.is s.below h;
  stands = lp_stands (is_open p d.stage.block) p (w ∷ ws) (lp == p) (none_open p d.stage.block s.outside.no_block) (s.here p);
  names = outside_names (is_open p d.stage.block) n (w ∷ ws) (names_so_far p d.calls) (none_open p d.stage.block s.outside.no_block);
}
entered_goes p n d w ws (entry.List place) h comment s = record {
  lists = lists_at d.stage.machine d.stage.block (Some (block.Code place)) d.calls s.0.m s.0.is tt h;
  stands = other_stands (is_open p d.stage.block) p w ws s.1 ∙ none_open p d.stage.block s.0.no_block;
  names = outside_names (is_open p d.stage.block) n (w ∷ ws) (names_so_far p d.calls) (none_open p d.stage.block s.0.no_block);
}
entered_goes p n d w ws entry.End h comment s =
    closed_goes p n d (w ∷ ws) d.stage.block (closed_lists d.stage.machine d.stage.block d.calls h) (end_stands (is_open p d.stage.block) p w ws s.0 s.1) (skipped_names (is_open p d.stage.block) n w ws (names_so_far p d.calls) (or_right (is_comment w) (bytes_eq w (codes "end")) s.1))
entered_goes p n d w ws (entry.Call lp c) h comment s =
    ok_then (λ x. x ≡ set d.calls lp (get_or d.calls lp [] ++ c ∷ [])) (Goes p n d (w ∷ ws)) (with_call d.calls lp c) _ (with_one d.calls lp c)
    (λ x more. ok_of (Goes p n d (w ∷ ws)) (with_slot d.named (output_slot c)) _ (λ marks. called_goes p n d marks lp c w ws x h comment s.0 s.1 s.2 more))
entered_goes p n d w ws (entry.Read lp tdr) h comment s =
    ok_of (Goes p n d (w ∷ ws)) (field_of (get_or ws 1 [])) _
    (λ field. ok_then (λ x. x ≡ set d.calls lp (get_or d.calls lp [] ++ call.MngRd tdr field ∷ [])) (Goes p n d (w ∷ ws)) (with_call d.calls lp (call.MngRd tdr field)) _ (with_one d.calls lp (call.MngRd tdr field))
    (λ x more. called_goes p n d d.named lp (call.MngRd tdr field) w ws x h comment s.0 s.1 s.2 more))
entered_goes p n d w ws (entry.Operation g) h comment s =
    ok_of (Goes p n d (w ∷ ws)) (with_op d.ops g) _
    (λ x. idle p n d (record d { ops = x }) w ws h (list_open p d.stage.block s.0) (list_open p d.stage.block s.0) refl s.1)

skipped_goes : (p n : ℕ) (d : SoFar) (w : List ℕ) (ws : List (List ℕ)) → HasItsLists d → is_comment w ≡ true → Goes p n d (w ∷ ws) d
skipped_goes p n d w ws h comment = record {
  lists = h;
  stands = other_stands (is_open p d.stage.block) p w ws (other_comment w comment);
  names = skipped_names (is_open p d.stage.block) n w ws (names_so_far p d.calls) (or_left (is_comment w) (bytes_eq w (codes "end")) comment);
}

comment_goes : (b : Bool) (p n : ℕ) (d : SoFar) (w : List ℕ) (ws : List (List ℕ)) (x : Result SoFar Reason) → is_comment w ≡ b → HasItsLists d → (is_comment w ≡ false → IfOk x (Goes p n d (w ∷ ws))) → IfOk (cond b (Ok d) x) (Goes p n d (w ∷ ws))
comment_goes true p n d w ws x is h f = skipped_goes p n d w ws h is
comment_goes false p n d w ws x is h f = f is

words_go : (p n : ℕ) (d : SoFar) (ws : List (List ℕ)) → HasItsLists d → IfOk (worded_of d ws) (Goes p n d ws)
unfolding worded_of
words_go p n d [] h = record { lists = h; stands = blank_stands (is_open p d.stage.block) p; names = blank_names (is_open p d.stage.block) n (names_so_far p d.calls) }
words_go p n d (w ∷ ws) h =
    comment_goes (is_comment w) p n d w ws _ refl h
    (λ c. ok_then (Says d w ws) (Goes p n d (w ∷ ws)) (entry_of d.stage d.listed w (map number ws)) (λ e. entered_of d e ws) (entry_says d w ws) (λ e s. entered_goes p n d w ws e h c s))

line_goes : (p n : ℕ) (d : SoFar) (line : List ℕ) → HasItsLists d → IfOk (line_of d line) (Goes p n d (words line))
unfolding line_of
line_goes p n d line h = ok_if (Goes p n d (words line)) (not (is_printable line)) reason.Byte _ (λ e. words_go p n d (words line) h)

-- ---- whole scripts

-- behind those so far the names on the lines to come are the words of the script's calls
abbrev Names : ℕ → List (List ℕ) → List CallLineSeen → ScriptSeen → Type 0
Names p before later s = names_so_far p s.calls ≡ before ++ names_in later

script_if : (b : Bool) (P : ScriptSeen → Type 0) (f : ScriptFault) (x : Result ScriptSeen ScriptFault) → IfOk x P → IfOk (cond b (Err f) x) P
script_if true P f x h = tt
script_if false P f x h = h

-- where the lines end no block is open
script_names : (m : Option Machine) (b : Option Block) (p n k : ℕ) (schedule : List ℕ) (lists : List CodeSeen) (calls : List (List Call)) (ws : List (List ℕ))
    → IfOk (script_of m b schedule lists calls k) (Names p (names_so_far p calls) (call_on n (is_open p b) ws ++ []))
script_names None b p n k schedule lists calls ws = tt
script_names (Some m) (Some b) p n k schedule lists calls ws = tt
script_names (Some m) None p n k schedule lists calls ws = sym (append-nil (names_so_far p calls))

end_of_names : (p n : ℕ) (d : SoFar) (piece : List ℕ) → IfOk (ended_of d n piece) (Names p (names_so_far p d.calls) (call_lines p (is_open p d.stage.block) n (piece ∷ [])))
end_of_names p n d piece =
    script_if (not (length piece == 0)) (Names p (names_so_far p d.calls) (call_on n (is_open p d.stage.block) (words piece) ++ [])) (Bad n reason.Unterminated) _
    (script_names d.stage.machine d.stage.block p n n d.schedule d.codes d.calls (words piece))

no_names : (m : Option Machine) (b : Option Block) (p k : ℕ) (schedule : List ℕ) (lists : List CodeSeen) (calls : List (List Call)) → IfOk (script_of m b schedule lists calls k) (Names p (names_so_far p calls) [])
no_names None b p k schedule lists calls = tt
no_names (Some m) (Some b) p k schedule lists calls = tt
no_names (Some m) None p k schedule lists calls = sym (append-nil (names_so_far p calls))

then_names : (r : Result SoFar Reason) (n : ℕ) (f : SoFar → Result ScriptSeen ScriptFault) (Q : SoFar → Type 0) (P : ScriptSeen → Type 0) → IfOk r Q → ((e : SoFar) → Q e → IfOk (f e) P) → IfOk (then_on r n f) P
then_names (Ok e) n f Q P h k = k e h
then_names (Err r) n f Q P h k = tt

-- the names on a line, and those on the lines behind it
joined : (p n : ℕ) (stands after : Bool) (ws rest : List (List ℕ)) (before between all : List (List ℕ)) → is_open_behind p stands ws ≡ after → between ≡ before ++ names_on n stands ws
    → all ≡ between ++ names_in (call_lines p after (n + 1) rest) → all ≡ before ++ names_in (call_on n stands ws ++ call_lines p (is_open_behind p stands ws) (n + 1) rest)
joined p n stands after ws rest before between all is one more =
    more
    ∙ ap (λ (xs : List (List ℕ)). xs ++ names_in (call_lines p after (n + 1) rest)) one
    ∙ append_assoc before (names_on n stands ws) (names_in (call_lines p after (n + 1) rest))
    ∙ ap (λ (b : Bool). before ++ (names_on n stands ws ++ names_in (call_lines p b (n + 1) rest))) (sym is)
    ∙ ap (λ (xs : List (List ℕ)). before ++ xs) (sym (map-append (λ (c : CallLineSeen). c.name) (call_on n stands ws) (call_lines p (is_open_behind p stands ws) (n + 1) rest)))

some_left : (x : List ℕ) (xs : List (List ℕ)) → (length (x ∷ xs) == 0) ≡ false
some_left x xs = grind arith

go_on : (d : SoFar) (n : ℕ) (piece next : List ℕ) (later : List (List ℕ)) → read_from d n (piece ∷ next ∷ later) ≡ then_on (line_of d piece) n (λ e. read_from e (n + 1) (next ∷ later))
go_on d n piece next later = rw (some_left next later) refl

-- the lines that are left
abbrev Rest : List (List ℕ) → Type 0
Rest parts = (p n : ℕ) (d : SoFar) → HasItsLists d → IfOk (read_from d n parts) (Names p (names_so_far p d.calls) (call_lines p (is_open p d.stage.block) n parts))

in_rest : (piece : List ℕ) (parts : List (List ℕ)) → Rest parts → Rest (piece ∷ parts)
in_rest piece [] rest = λ p n d h. end_of_names p n d piece
in_rest piece (next ∷ later) rest = λ p n d h.
    subst (λ (r : Result ScriptSeen ScriptFault). IfOk r (Names p (names_so_far p d.calls) (call_lines p (is_open p d.stage.block) n (piece ∷ next ∷ later)))) (sym (go_on d n piece next later))
    (then_names (line_of d piece) n (λ e. read_from e (n + 1) (next ∷ later)) (Goes p n d (words piece)) (Names p (names_so_far p d.calls) (call_lines p (is_open p d.stage.block) n (piece ∷ next ∷ later))) (line_goes p n d piece h)
    (λ e g. IfOk-weaker (read_from e (n + 1) (next ∷ later)) _ _
    (λ s all. joined p n (is_open p d.stage.block) (is_open p e.stage.block) (words piece) (next ∷ later) (names_so_far p d.calls) (names_so_far p e.calls) (names_so_far p s.calls) g.stands g.names all) (rest p (n + 1) e g.lists)))

all_rest : (parts : List (List ℕ)) → Rest parts
all_rest [] = λ p n d h. no_names d.stage.machine d.stage.block p n d.schedule d.codes d.calls
all_rest (piece ∷ parts) = in_rest piece parts (all_rest parts)

text_names : (text : List ℕ) (p : ℕ) → IfOk (read_of text) (Names p [] (call_list text p))
unfolding read_of
text_names text p = script_if (ltb (2 ^ 24) (length text)) (Names p [] (call_list text p)) (Bad 0 reason.Length) _ (all_rest (pieces text) p 1 nothing_yet (refl, refl))

names_are : (text : List ℕ) (s : ScriptSeen) (p : ℕ) → read_of text ≡ Ok s → names_so_far p s.calls ≡ names_in (call_list text p)
names_are text s p is = subst (λ (r : Result ScriptSeen ScriptFault). IfOk r (Names p [] (call_list text p))) is (text_names text p)

-- the line of a call, among those of its processor

length-lists : (text : List ℕ) (q count : ℕ) → length (call_lists text q count) ≡ count
length-lists text q zero = refl
length-lists text q (suc count) = ap suc (length-lists text (q + 1) count)

list_of : (text : List ℕ) (q count p : ℕ) → p < count → get_or (call_lists text q count) p [] ≡ call_list text (q + p)
list_of text q zero p lt = absurd (omega arith)
list_of text q (suc count) zero lt = let e : q ≡ q + 0 = omega arith in ap (call_list text) e
list_of text q (suc count) (suc p) lt = let e : q + 1 + p ≡ q + suc p = omega arith in list_of text (q + 1) count p (omega arith) ∙ ap (call_list text) e

name_at : (list : List CallLineSeen) (i : ℕ) → (get_or list i no_line).name ≡ get_or (names_in list) i []
name_at [] i = refl
name_at (c ∷ list) zero = refl
name_at (c ∷ list) (suc i) = name_at list i

named_at : (text : List ℕ) (s : ScriptSeen) → read_of text ≡ Ok s → length s.calls ≡ s.machine.lps → (p : ℕ) → (p < s.machine.lps) ⊎ (s.machine.lps ≤ p) → names_in (get_or (call_lists text 0 s.machine.lps) p []) ≡ names_so_far p s.calls
named_at text s is lists p (inl lt) = let e : 0 + p ≡ p = omega arith in ap names_in (list_of text 0 s.machine.lps p lt ∙ ap (call_list text) e) ∙ sym (names_are text s p is)
named_at text s is lists p (inr past) =
    ap names_in (get_or_past (call_lists text 0 s.machine.lps) p [] (omega (arith, past, length-lists text 0 s.machine.lps)))
    ∙ sym (ap (map call_word) (get_or_past s.calls p [] (omega (arith, past, lists))))

pub lines_named : ScriptsAreInForm → (text : List ℕ) (s : ScriptSeen) → read_of text ≡ Ok s → (p n : ℕ) → (call_lines_of.line_of (call_lists text 0 s.machine.lps) p n).name ≡ word_of s.calls p n
lines_named forms text s is p n =
    name_at (get_or (call_lists text 0 s.machine.lps) p []) (n - 1)
    ∙ ap (λ (xs : List (List ℕ)). get_or xs (n - 1) []) (named_at text s is (forms.in_form text s is).lists p (cases_lt p s.machine.lps))
