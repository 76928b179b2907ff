-- What is read at the end is the state's text.
use Rattle.std.proofs.Common.{◌≡◌, Bool, true, false, refl, sym, ◌∙◌, ap, subst, ℕ, ◌<◌, List, [], ◌∷◌, ◌++◌, length, Option, Some, None, option_map, Result, Ok, Err, OnOk, map, zero, suc, get_or, append_assoc, arith}
use Rattle.std.specs.Global.{Vec}
use Rattle.td_words.specs.declared.machines.Machine.{Machine}
use Rattle.td_words.specs.Place.{WordPlace, Lock, Pamt, Word, Key, IsIn, address}
use Rattle.td_words.specs.declared.calls.Call.{Call}
use Rattle.field_lines.specs.declared.lines.Form.{Form}
use Rattle.flat_core.specs.Lawful.{Lawful}
use Rattle.flat_core.specs.Opening.{Opening}
use Rattle.flat_core.specs.Event.{State, start, calls_of}
use Rattle.flat_core.specs.Run.{play, to_the_end}
use Rattle.flat_core.specs.Laws.{EveryWorldIsLawful}
use Rattle.word_rules.specs.Cells.{cell, IsAs}
use Rattle.step_core.specs.Words.{word_count}
use Rattle.step_core.specs.Items.{Table}
use Rattle.leaf_engine.specs.declared.events.HeldLock.{HeldLock}
use Rattle.leaf_engine.specs.Following.{StandsOn}
use Rattle.leaf_engine.specs.Guests.{WordGuest}
use Rattle.leaf_engine.specs.Turns.{Standing}
use Rattle.leaf_engine.specs.Merges.{order}
use Rattle.merge_laws.specs.Laws.{IsShownBy}
use Rattle.leaf_table.specs.Given.{given_of}
use Rattle.leaf_table.specs.Table.{leaf_table}
use Rattle.leaf_dispatch.specs.declared.guests.InGuest.{InGuest}
use Rattle.leaf_dispatch.specs.declared.states.LpState.{LpState}
use Rattle.leaf_dispatch.specs.Due.{in_guest, step_held}
use Rattle.leaf_dispatch.specs.Held.{held_by}
use Rattle.leaf_dispatch.specs.States.{seen_of}
use Rattle.run_texts.proofs.Places.{seen-at}
use Rattle.run_texts.specs.Replaying.{IsMidway, StandsAt, TurnsAreEvents, seen_at}
use Rattle.run_texts.specs.Looking.{Goes, HasRun}
use Rattle.run_texts.specs.declared.turns.Ran.{Ran}
use Rattle.run_texts.proofs.Replayed.{IsOpen, are-leaves, ended-flat, either}
use Rattle.state_lines.specs.After.{after_events, state_after}
use Rattle.state_lines.specs.Laws.{AreShown, WordsTellPages, LpsTell, StatesGoOn}
use Rattle.state_lines.specs.declared.seen.Holder.TheVariants as holder
use Rattle.state_lines.specs.Lines.{texts_below, guest_line}
use Rattle.state_lines.specs.LpRead.{locks_read, run_locks, guest_read, lp_read}
use Rattle.state_lines.specs.StateText.{page_seen, state_text}
use Rattle.state_lines.proofs.Texts.{same-texts}
use Rattle.state_runs.specs.Counting.{IsCounting}
use Rattle.state_runs.specs.Reading.{lps_read, state_read}

-- a place of a machine has an address among its words
inside-words : (m : Machine) (q : WordPlace) → IsIn m q → address m.pages q < word_count m
inside-words m (Lock p) h = omega (arith, h)
inside-words m (Pamt p) h = omega (arith, h)
inside-words m (Word p i) h = omega (arith, h)
inside-words m (Key k) h = omega (arith, h)

module _ (ls : TurnsAreEvents) (pages : WordsTellPages) (tell : LpsTell) (lawful : EveryWorldIsLawful) (f : Form) (o : Opening) (sought : State → List ℕ → Type 0) (left : List ℕ) (lps : List LpState) (words : List ℕ) (op : IsOpen o) (l : StandsAt o left sought lps words) where
  abbrev t : Table
  t = l.table

  abbrev now : IsMidway o left sought lps t
  now = l.midway

  abbrev s : State
  s = play o (order now.made) (start o None)

  shown-by : IsShownBy o.machine t s
  shown-by = (ls.merges.turns o (leaf_table o.machine (given_of o) o.codes) now.made (seen_at lps) t op.few (are-leaves ls o op) op.codes now.merge).0

  shown : AreShown o.machine words s
  shown q inside =
      subst (λ (v : ℕ). IsAs (cell s q) v) (sym (l.words_are (address o.machine.pages q) (inside-words o.machine q inside) ∙ shown-by.is.words q inside)) (shown-by.shows.word q inside)

  lawful-now : Lawful o.machine s.world
  lawful-now = lawful o None (order now.made)

  stands : (p : ℕ) → p < length o.calls → StandsOn o (leaf_table o.machine (given_of o) o.codes p) p s t (seen_at lps p)
  stands p inside = ls.merges.stand o (leaf_table o.machine (given_of o) o.codes) now.made (seen_at lps) t op.few (are-leaves ls o op) op.codes now.merge p inside

  reads-now : state_read f o.machine.pages words o.calls lps ≡ state_text f o s
  unfolding state_text
  reads-now =
      ap (λ z. z ++ lps_read f words o.calls lps (length lps)) (pages.pages f o.machine words s op.machine lawful-now shown)
      ∙ ap (λ z. texts_below (page_seen f s.world) o.machine.pages ++ z)
      (ap (lps_read f words o.calls lps) l.count
      ∙ same-texts _ _ (length o.calls) (λ p less. tell f o (leaf_table o.machine (given_of o) o.codes p) p (length (calls_of o.calls p)) words s (stands p less).memory.words (seen_at lps p) op.machine lawful-now shown (stands p less).stands))

-- and that is the state that was asked for
pub reads : TurnsAreEvents → StatesGoOn → WordsTellPages → LpsTell → EveryWorldIsLawful → (f : Form) (o : Opening) (n : ℕ) (schedule : List ℕ) (due : ℕ) (lps : List LpState) (words : List ℕ) → IsOpen o → (ended : Bool)
    → Goes (due ≡ 0) (length lps) lps (λ left. StandsAt o left (IsCounting n due o schedule) lps words) ended → state_read f o.machine.pages words o.calls lps ≡ state_text f o (state_after o n schedule)
reads ls go pages tell lawful f o n schedule due lps words op true h =
    let sought : State → List ℕ → Type 0 = IsCounting n due o schedule in
    let now = h.1.midway in
    let s = play o (order now.made) (start o None) in
    let none = λ (q : ℕ) (less : q < length o.calls). ended-flat ls o [] sought lps h.1.table q op now less (h.0 q (omega (arith, h.1.count, less))) in
    reads-now ls pages tell lawful f o sought [] lps words op h.1 ∙ ap (state_text f o) (sym (go.ended o s due none) ∙ now.holds)
reads ls go pages tell lawful f o n schedule due lps words op false h =
    let left = h.1.0 in
    let now = h.1.1.midway in
    let s = play o (order now.made) (start o None) in
    reads-now ls pages tell lawful f o (IsCounting n due o schedule) left lps words op h.1.1
    ∙ ap (state_text f o) (sym (ap (λ (k : ℕ). after_events o k (left ++ to_the_end 0 o.calls) s) h.0) ∙ now.holds)

pub count-of : (o : Opening) (n : ℕ) (schedule : List ℕ) (due : ℕ) (r : Ran) → HasRun (IsCounting n) (λ k. k ≡ 0) o schedule due r → length r.lps.items ≡ length o.calls
count-of o n schedule due r = either (due ≡ 0) (length r.lps.items) r.lps.items (λ left. StandsAt o left (IsCounting n due o schedule) r.lps.items r.words.words) r.ended (λ left l. l.count)

-- a guest is told with its locks

same-held : (run : Option Standing) → held_by run ≡ run_locks run
same-held None = refl
same-held (Some s) = refl

abbrev the-guest : InGuest → Option InGuest → InGuest
the-guest x None = x
the-guest x (Some y) = y

pub guest-said : {E : Type 0} (r : Result (Unit {0}) E) (f : Form) (words old mid new : List ℕ) (p : ℕ) (g : Option WordGuest) (x : InGuest) (locks : List HeldLock) → Some x ≡ option_map in_guest g → locks ≡ step_held g
    → mid ≡ old ++ guest_line f p x.tdr x.vp x.completed x.most → OnOk r (new ≡ mid ++ locks_read f words p holder.Guest locks) → OnOk r (new ≡ old ++ guest_read f words p g)
guest-said (Ok u) f words old mid new p None x locks e same line h = absurd (let n : Some x ≡ None = e in cc)
guest-said (Ok u) f words old mid new p (Some y) x locks e same line h =
    let own : x ≡ in_guest y = ap (the-guest x) e in
    let lines : guest_line f p x.tdr x.vp x.completed x.most ≡ guest_line f p y.tdr y.vp y.completed y.most = ap (λ (z : InGuest). guest_line f p z.tdr z.vp z.completed z.most) own in
    h
    ∙ (ap (λ z. mid ++ locks_read f words p holder.Guest z) (same ∙ same-held y.run)
    ∙ (ap (λ z. z ++ locks_read f words p holder.Guest (run_locks y.run)) (line ∙ ap (λ z. old ++ z) lines)
    ∙ append_assoc old (guest_line f p y.tdr y.vp y.completed y.most) (locks_read f words p holder.Guest (run_locks y.run))))
guest-said (Err x) f words old mid new p g y locks e same line h = tt

-- one processor more

calls-at : (lists : List (Vec Call)) (p : ℕ) (d : Vec Call) → p < length lists → (get_or lists p d).items ≡ calls_of (map (λ list. list.items) lists) p
calls-at [] p d h = absurd (omega arith)
calls-at (x ∷ xs) zero d h = refl
calls-at (x ∷ xs) (suc p) d h = calls-at xs p d (omega arith)

pub lp-said : (f : Form) (words : List ℕ) (lists : List (Vec Call)) (lps : List LpState) (p count : ℕ) (calls : Vec Call) (s : LpState) → p < length lps → p < length lists → count ≡ length calls.items → calls ≡ get_or lists p calls → s ≡ get_or lps p s
    → lp_read f words p count (seen_of s) ≡ lp_read f words p (length (calls_of (map (λ list. list.items) lists) p)) (seen_at lps p)
lp-said f words lists lps p count calls s inside listed e is-calls is =
    let number : count ≡ length (calls_of (map (λ list. list.items) lists) p) = e ∙ (ap (λ (v : Vec Call). length v.items) is-calls ∙ ap length (calls-at lists p calls listed)) in
    ap (λ (n : ℕ). lp_read f words p n (seen_of s)) number ∙ ap (lp_read f words p (length (calls_of (map (λ list. list.items) lists) p))) (ap seen_of is ∙ sym (seen-at lps p s inside))
