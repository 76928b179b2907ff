-- What is left of a run, turn by turn, and what is printed at its end.
use Rattle.std.proofs.Common.{◌≡◌, ◌≢◌, ◌⊎◌, inl, inr, refl, sym, ◌∙◌, ap, subst, ℕ, zero, suc, ◌+◌, ◌<◌, ◌≤◌, List, [], ◌∷◌, ◌++◌, length, get_or, set, take, drop, map, Option, None, Some, Bool, Result, Ok, Err, IfOk, All, AllPairs, true, false, not, ◌==◌, arith, append-nil, append_assoc, add-one}
use Rattle.std.proofs.Math.Seq.{drop-cons}
use Rattle.std.proofs.lemmas.Bool.Decides.{eqb_tells}
use Rattle.std.proofs.lemmas.List.{set-get_or, get_or-drop, length-map, length-drop, length-take-le, take_more, map_push}
use Rattle.std.proofs.lemmas.List.Folds.{concat-append}
use Rattle.std.specs.Global.{Vec}
use Rattle.std.proofs.Math.ListN.{length-set}
use Rattle.std.specs.List.{concat}
use Rattle.std.specs.List.Sorted.{IsPermutation}
use Rattle.td_words.specs.Seen.{CodeSeen}
use Rattle.td_words.specs.declared.machines.Machine.{Machine}
use Rattle.td_words.specs.declared.calls.Call.{Call}
use Rattle.td_words.specs.declared.calls.GuestOp.{GuestOp}
use Rattle.td_words.specs.declared.replies.Reply.{Reply}
use Rattle.flat_core.specs.Processor.{Lp, Note}
use Rattle.td_words.specs.Limits.{IsMachine}
use Rattle.td_words.specs.Slots.{output_slots}
use Rattle.flat_core.specs.Opening.{Opening}
use Rattle.flat_core.specs.Event.{State, start, event, event_for, line_event, lines_left}
use Rattle.flat_core.specs.Event as flat
use Rattle.flat_core.specs.Table.{row_of}
use Rattle.flat_core.specs.Run.{play, run, bundles_in, to_the_end}
use Rattle.bundle_texts.specs.Ordered.{FitContainer}
use Rattle.report_text.specs.Lines.{reply_lines}
use Rattle.flat_core.specs.GuestText.{note_text, notes_from, notes_of, guest_text}
use Rattle.flat_core.specs.HostText.{lines_from, text_of, host_text}
use Rattle.flat_core.proofs.Induction.{counts_stay, play_append}
use Rattle.step_core.specs.Words.{after_step}
use Rattle.step_core.specs.Items.{Table, PlaysTo, with_slot}
use Rattle.step_core.specs.declared.items.Taken.{Taken}
use Rattle.step_core.specs.declared.items.Taken.TheVariants.{Stepped, Swapped, Missed}
use Rattle.atomic_table.specs.Seated.{TableId}
use Rattle.trace_table.specs.Merges.{MergesTo}
use Rattle.trace_table.specs.Benches.{BenchSeen, bench_of, first_pass, with_items}
use Rattle.trace_table.specs.declared.benches.SharedBench.{SharedBench}
use Rattle.trace_table.proofs.Alone.{alone-at}
use Rattle.leaf_engine.specs.declared.needs.Place.{Place}
use Rattle.leaf_engine.specs.declared.events.Event.{Event}
use Rattle.leaf_engine.specs.Besides.{Beside}
use Rattle.leaf_engine.specs.OwnLists.{Piece, taken_in, events_among, WordLp, first_lp, LpTurns}
use Rattle.leaf_engine.specs.Merges.{Item, order, no_table, AreLeaves, AreCodes}
use Rattle.merge_laws.specs.Merge.{Merge}
use Rattle.merge_laws.specs.Laws.{AreBundlesOf, IsWhere}
use Rattle.leaf_table.specs.Given.{Given, given_in, given_of}
use Rattle.leaf_table.specs.Table.{code_in, place_table, leaf_table}
use Rattle.leaf_dispatch.specs.Shown.{TurnsAs}
use Rattle.leaf_dispatch.proofs.EndedCalls.{all-ended}
use Rattle.leaf_dispatch.specs.States.{seen_of, Moves}
use Rattle.leaf_dispatch.specs.Bounds.{events_left}
use Rattle.leaf_dispatch.specs.declared.states.LpState.{LpState}
use Rattle.script_text.specs.Seen.{ScriptSeen}
use Rattle.script_text.specs.Laws.{IsInForm}
use Rattle.run_texts.specs.Openings.{opening_of}
use Rattle.run_texts.specs.Sealing.{bundles_seen}
use Rattle.run_texts.specs.Replaying.{AreNumbered, AreFirst, IsMidway, LeadsToEnd, only_bench, IsAtBench, StandsAt, HaveEnded, TurnsAreEvents, seen_at, lines_seen, notes_seen, where_named, TellAll}
use Rattle.run_texts.specs.Looking.{IsNext, Looked, GoesOn, Goes, ended_behind}
use Rattle.run_texts.specs.declared.replay.Texts.{Texts}
use Rattle.run_texts.proofs.Codes.{codes-of}
use Rattle.run_texts.proofs.Making.{fit-run, moved-there}
use Rattle.explore_turns.proofs.Turning.{made_by, one-event, merge-more, order-more}
use Rattle.run_texts.proofs.EndedRuns.{shown-first, shown-next}
use Rattle.run_texts.proofs.Places.{seen-at, seen-own, seen-other, place-at, given-at, codes-at, numbered-set, first-count, first-numbered, first-seen, first-more}

-- of a machine that a script may have, with lists of operations within the limits, and with lines of different output slots
pub record IsOpen (o : Opening) : Type 0 where
  pub machine : IsMachine o.machine
  pub few : length o.calls ≤ 8
  pub codes : AreCodes o
  pub slots : All (λ slot. slot ≤ 4095) (output_slots o.calls)
  pub apart : AllPairs (λ a b. a ≢ b) (output_slots o.calls)

-- at the start the whole schedule is left
at-start : (o : Opening) (sought : State → List ℕ → Type 0) (given : Given) (codes : List CodeSeen) (left : List ℕ) (lps : List LpState) (t : Table) → AreFirst o.machine given codes 0 lps o.calls → sought (start o None) (left ++ to_the_end 0 o.calls) → PlaysTo no_table [] t
    → IsMidway o left sought lps t
at-start o sought given codes left lps t h first play = record {
  made = [];
  ended = shown-first o lps (first-count o.machine given codes 0 lps o.calls h) (λ q. first-seen o.machine given codes 0 lps o.calls q h);
  merge = record {
    own = λ p. [];
    turns = λ p inside. first-seen o.machine given codes 0 lps o.calls p h;
    merge = record { each = λ p inside. refl; nothing_else = λ p out. refl };
    plays = play;
  };
  holds = first;
}

-- items that play one after another have a table between them
between : (t v : Table) (xs ys : List Taken) → PlaysTo t (xs ++ ys) v → (u : Table) × PlaysTo t xs u × PlaysTo u ys v
between t v [] ys h = (t, (refl, refl), h)
between t v (Stepped s a ∷ xs) ys h = let r = between (record t { words = after_step t.words s }) v xs ys h.1 in (r.0, (h.0, r.1), r.2)
between t v (Swapped k put taken ∷ xs) ys h = let r = between (record t { slots = with_slot t.slots k put }) v xs ys h.1 in (r.0, (h.0, r.1), r.2)
between t v (Missed k ∷ xs) ys h = absurd h

-- each call and each step of a guest has its leaf
pub are-leaves : TurnsAreEvents → (o : Opening) → IsOpen o → AreLeaves o (leaf_table o.machine (given_of o) o.codes)
are-leaves ls o op = ls.leaves o (given_of o) o.codes op.machine (record { secrets = λ k. refl; bundles = λ slot. refl }) (λ t i. refl)

-- where the flat machine is after the events of a merge
where-now : TurnsAreEvents → (o : Opening) (made : List Item) (now : ℕ → WordLp) (u : Table) → IsOpen o → Merge o (leaf_table o.machine (given_of o) o.codes) made now u → IsWhere o now (play o (order made) (start o None))
where-now ls o made now u op m = (ls.merges.turns o (leaf_table o.machine (given_of o) o.codes) made now u op.few (are-leaves ls o op) op.codes m).1

-- a processor without lines has none in the flat machine
pub ended-flat : TurnsAreEvents → (o : Opening) (left : List ℕ) (sought : State → List ℕ → Type 0) (lps : List LpState) (t : Table) (p : ℕ) → IsOpen o → (l : IsMidway o left sought lps t) → p < length o.calls → (seen_at lps p).lines ≡ []
    → lines_left o p ((play o (order l.made) (start o None)).lps p) ≡ []
ended-flat ls o left sought lps t p op l inside e = (where-now ls o l.made (seen_at lps) t op l.merge).lines p inside ∙ e

-- the events stay, where what is sought is found with other items left
with-left : (o : Opening) (sought : State → List ℕ → Type 0) (lps : List LpState) (id : TableId) (b : BenchSeen) (left others : List ℕ)
    → ((t : Table) (now : IsMidway o left sought lps t) → sought (play o (order now.made) (start o None)) (others ++ to_the_end 0 o.calls)) → IsAtBench o left sought lps id b
    → IsAtBench o others sought lps id b
with-left o sought lps id b left others holds l = record {
  own = l.own;
  is = l.is;
  count = l.count;
  numbered = l.numbered;
  midway = λ t play.
      let now = l.midway t play in
      record { made = now.made; merge = now.merge; ended = now.ended; holds = holds t now };
}

-- an item of a processor more, where all before it have ended
pub one-more-left : TurnsAreEvents → (o : Opening) (sought : State → List ℕ → Type 0) (lps : List LpState) (id : TableId) (b : BenchSeen) (p : ℕ) → IsOpen o → GoesOn o sought → p < length lps → HaveEnded p lps → IsAtBench o [] sought lps id b
    → IsAtBench o (p ∷ []) sought lps id b
one-more-left ls o sought lps id b p op on inside ended l =
    with-left o sought lps id b [] (p ∷ [])
    (λ t now. on.one_more (order now.made) p (omega (arith, inside, l.count)) (λ q h. ended-flat ls o [] sought lps t q op now (omega (arith, l.count, h, inside)) (ended q h)) now.holds)
    l

no-lines : (cs : List Call) → false ≡ not (length cs == 0) → cs ≡ []
no-lines cs e = by (eqb_tells (length cs) 0)
  where
    empty : (cs : List Call) → length cs ≡ 0 → cs ≡ []
    empty [] z = refl
    empty (c ∷ cs) z = absurd (omega (arith, z))

    by : (((length cs == 0) ≡ true) × (length cs ≡ 0)) ⊎ (((length cs == 0) ≡ false) × (length cs ≢ 0)) → cs ≡ []
    by (inl t) = empty cs t.1
    by (inr f) = (let apart : false ≡ true = e ∙ ap not f.0 in cc)

has-line : (cs : List Call) → cs ≡ [] → true ≡ not (length cs == 0) → ⊥
has-line [] e h = cc
has-line (c ∷ cs) e h = cc

-- a processor with a line makes an event
some-event : (o : Opening) (s : State) (p : ℕ) (cs : List Call) → lines_left o p (s.lps p) ≡ cs → true ≡ not (length cs == 0) → (e : flat.Event) × (flat.next_event o s p ≡ Some e)
some-event o s p [] is h = absurd (by h)
  where
    by : true ≡ not (length {A = Call} [] == 0) → ⊥
    by e = cc
some-event o s p (c ∷ cs) is h = (line_event o s.world (s.lps p) (row_of o p c) (s.lps p).guest, ap (event_for o s.world p (s.lps p)) is)

module _ (ls : TurnsAreEvents) (o : Opening) (rest : List ℕ) (lps : List LpState) (p : ℕ) (d s' : LpState) (op : IsOpen o) (inside : p < length lps) (count : length lps ≡ length o.calls) (numbered : AreNumbered o 0 lps) where
  abbrev s : LpState
  s = get_or lps p d

  abbrev behind : List Item → State
  behind made = play o (order made) (start o None)

  place : s.place ≡ record { machine = o.machine; lp = p }
  place = place-at o 0 lps p d numbered inside ∙ ap (λ (k : ℕ). record { machine = o.machine; lp = k }) (omega arith)

  -- its turn, in these pieces
  turns : (e : Event) (ps : List Piece) → Moves s e ps s' → TurnsAs (leaf_table o.machine (given_of o) o.codes p) o.machine (seen_at lps p) e ps (seen_of s')
  turns e ps moves =
      subst (λ (x : WordLp). TurnsAs (leaf_table o.machine (given_of o) o.codes p) o.machine x e ps (seen_of s')) (sym (seen-at lps p d inside))
      (subst (λ (w : Given). TurnsAs (leaf_table o.machine w o.codes p) o.machine (seen_of s) e ps (seen_of s')) (given-at o 0 lps p d numbered inside)
      (subst (λ (x : ℕ → ℕ → List GuestOp). TurnsAs (leaf_table o.machine (given_in s.given) x p) o.machine (seen_of s) e ps (seen_of s')) (codes-at o 0 lps p d numbered inside)
      (subst (λ (z : Place). TurnsAs (place_table z (given_in s.given) (code_in s.codes.now)) z.machine (seen_of s) e ps (seen_of s')) place moves.3)))

  one-turn : (e : Event) (ps : List Piece) → Moves s e ps s' → events_among ps ≡ 1
  one-turn e ps moves = one-event ls.pieces (place_table s.place (given_in s.given) (code_in s.codes.now)) s.place.machine (seen_of s) (seen_of s') moves.3.event_is ps moves.3.turns

  -- the state behind it
  next : (made : List Item) (e : Event) (ps : List Piece) → Moves s e ps s' → event o (behind made) p ≡ behind (made ++ made_by p ps)
  next made e ps moves =
      let is : order (made ++ made_by p ps) ≡ order made ++ p ∷ [] = sym (append-nil (order (made ++ made_by p ps))) ∙ order-more made p ps [] (one-turn e ps moves) in
      sym (ap (λ (xs : List ℕ). play o xs (start o None)) is ∙ play_append o (order made) (p ∷ []) (start o None))

  -- the lines that the flat machine has left
  lines-are : (t : Table) (made : List Item) → Merge o (leaf_table o.machine (given_of o) o.codes) made (seen_at lps) t → lines_left o p ((behind made).lps p) ≡ s.lines.now
  lines-are t made merge = (where-now ls o made (seen_at lps) t op merge).lines p (omega (arith, inside, count)) ∙ ap (λ (z : WordLp). z.lines) (seen-at lps p d inside)

  -- its event
  moved : (sought sought' : State → List ℕ → Type 0) (t t' : Table) → IsMidway o (p ∷ rest) sought lps t → (e : Event) (ps : List Piece) → PlaysTo t (taken_in ps) t' → Moves s e ps s' → true ≡ not (length s.lines.now == 0)
      → ((z : State) (items : List ℕ) → IsNext o z p s e s' → sought z (p ∷ items) → sought' (event o z p) items)
      → IsMidway o rest sought' (set lps p s') t'
  moved sought sought' t t' l e ps did moves has sees =
      let items = rest ++ to_the_end 0 o.calls in
      let turned : TurnsAs (leaf_table o.machine (given_of o) o.codes p) o.machine (seen_at lps p) e ps (seen_of s') = turns e ps moves in
      let next-is : IsNext o (behind l.made) p s e s' =
      record {
        made = l.made;
        is = refl;
        now = seen_at lps;
        before = t;
        merge = l.merge;
        few = op.few;
        leaves = are-leaves ls o op;
        limits = op.codes;
        inside = omega (arith, inside, count);
        here = seen-at lps p d inside;
        codes = codes-at o 0 lps p d numbered inside;
        pieces = ps;
        turned = turned;
        after = t';
        did = did;
        some = some-event o (behind l.made) p s.lines.now (lines-are t l.made l.merge) has;
      } in
      let merged : Merge o (leaf_table o.machine (given_of o) o.codes) (l.made ++ made_by p ps) (seen_at (set lps p s')) t' =
      merge-more o (leaf_table o.machine (given_of o) o.codes) l.made (seen_at lps) (seen_at (set lps p s')) t t' p turned.event_is ps l.merge (omega (arith, inside, count))
      (subst (λ (x : WordLp). LpTurns (leaf_table o.machine (given_of o) o.codes p) o.machine (seen_at lps p) turned.event_is ps x) (sym (seen-own lps p s' inside)) turned.turns) (λ q ne. seen-other lps p s' q ne) did in
      record {
        made = l.made ++ made_by p ps;
        merge = merged;
        ended =
            shown-next ls.merges ls.follow o (leaf_table o.machine (given_of o) o.codes) op.few (are-leaves ls o op) op.codes op.apart l.made lps t t' l.merge p inside count turned.event_is ps s' turned.turns did (order (l.made ++ made_by p ps)) (next l.made e ps moves)
            (where-now ls o l.made (seen_at lps) t op l.merge) (where-now ls o (l.made ++ made_by p ps) (seen_at (set lps p s')) t' op merged) l.ended;
        holds = subst (λ (z : State). sought' z items) (next l.made e ps moves) (sees (behind l.made) items next-is l.holds);
      }

  -- or nothing, where it has ended
  ended : (sought sought' : State → List ℕ → Type 0) (t : Table) → GoesOn o sought → IsMidway o (p ∷ rest) sought lps t → s' ≡ s → s.lines.now ≡ [] → ((z : State) (items : List ℕ) → sought z items → sought' z items) → IsMidway o rest sought' (set lps p s') t
  ended sought sought' t on l same none sees =
      let stay : set lps p s' ≡ lps = ap (set lps p) same ∙ set-get_or lps p d in
      let items = rest ++ to_the_end 0 o.calls in
      subst (λ (z : List LpState). IsMidway o rest sought' z t) (sym stay)
      (record { made = l.made; merge = l.merge; ended = l.ended; holds = sees (behind l.made) items (on.idle (behind l.made) p items (lines-are t l.made l.merge ∙ none) l.holds) })

  numbered-now : s'.place ≡ s.place → given_in s'.given ≡ given_in s.given → s'.codes.now ≡ s.codes.now → AreNumbered o 0 (set lps p s')
  numbered-now same given has =
      numbered-set o 0 lps p s' numbered (same ∙ place-at o 0 lps p d numbered inside) (given ∙ given-at o 0 lps p d numbered inside) (ap code_in has ∙ codes-at o 0 lps p d numbered inside)

-- What is left once an onlooker has let a processor make its turn. After it the turn's items are the bench's.
module _ {W : Type 0} (seeks : W → Opening → List ℕ → State → List ℕ → Type 0) (stops : W → Type 0) (ls : TurnsAreEvents) (o : Opening) (schedule rest : List ℕ) (lps : List LpState) (p : ℕ) (d s' : LpState) (id : TableId) (b b' : SharedBench) (w w' : W) where
  pub after-turn : IsOpen o → ((x : W) → GoesOn o (seeks x o schedule)) → p < length lps → IsAtBench o (p ∷ rest) (seeks w o schedule) lps id (bench_of b) → (moved : Bool) → Looked seeks stops p w (get_or lps p d) b w' s' b' (Some moved)
      → IsAtBench o rest (seeks w' o schedule) (set lps p s') id (bench_of b')
  after-turn op on inside l true h =
      let t = h.1.0 in
      record {
        own = l.own ++ taken_in t.0.0;
        is = t.0.1 ∙ ap (λ (z : BenchSeen). with_items z (taken_in t.0.0)) l.is;
        count = length-set lps p s' ∙ l.count;
        numbered = numbered-now ls o rest lps p d s' op inside l.count l.numbered t.0.2.0 t.0.2.1 t.0.2.2;
        midway = λ u play.
            let m = between no_table u l.own (taken_in t.0.0) play in
            moved ls o rest lps p d s' op inside l.count l.numbered (seeks w o schedule) (seeks w' o schedule) m.0 u (l.midway m.0 m.1) h.0 t.0.0 m.2 t.0.2 h.1.1 (λ z items. h.2 o schedule z items);
      }
  after-turn op on inside l false h =
      let t = h.0.0 in
      record {
        own = l.own;
        is = t.0 ∙ (ap (λ (z : BenchSeen). with_items z []) l.is ∙ ap (only_bench o.machine id) (append-nil l.own));
        count = length-set lps p s' ∙ l.count;
        numbered = numbered-now ls o rest lps p d s' op inside l.count l.numbered (ap (λ (z : LpState). z.place) t.1) (ap (λ (z : LpState). given_in z.given) t.1) (ap (λ (z : LpState). z.codes.now) t.1);
        midway = λ u play.
            ended ls o rest lps p d s' op inside l.count l.numbered (seeks w o schedule) (seeks w' o schedule) u (on w) (l.midway u play) t.1 (no-lines (get_or lps p d).lines.now h.0.1) (λ z items. h.1 o schedule z items);
      }

  -- and where it has stopped all is as it was
  pub as-before : IsAtBench o rest (seeks w o schedule) lps id (bench_of b) → Looked seeks stops p w (get_or lps p d) b w' s' b' None → IsAtBench o rest (seeks w' o schedule) (set lps p s') id (bench_of b')
  as-before l h =
      let stay : set lps p s' ≡ lps = ap (set lps p) h.1 ∙ set-get_or lps p d in
      subst (λ (z : List LpState). IsAtBench o rest (seeks w' o schedule) z id (bench_of b')) (sym stay)
      (record {
        own = l.own;
        is = ap bench_of h.2 ∙ l.is;
        count = l.count;
        numbered = l.numbered;
        midway = λ u plays.
            let now = l.midway u plays in
            record { made = now.made; merge = now.merge; ended = now.ended; holds = h.3 o schedule (play o (order now.made) (start o None)) (rest ++ to_the_end 0 o.calls) now.holds };
      })

pub machine-at : (o : Opening) (left : List ℕ) (sought : State → List ℕ → Type 0) (lps : List LpState) (id : TableId) (b : BenchSeen) (p : ℕ) (d : LpState) → IsAtBench o left sought lps id b → p < length lps → (get_or lps p d).place.machine ≡ b.machine
machine-at o left sought lps id b p d l inside = ap (λ (z : Place). z.machine) (place-at o 0 lps p d l.numbered inside) ∙ sym (ap (λ (z : BenchSeen). z.machine) l.is)

-- the item of the schedule whose turn it is
pub item-inside : (given : Given) (script : ScriptSeen) (left : List ℕ) (sought : State → List ℕ → Type 0) (lps : List LpState) (id : TableId) (b : BenchSeen) (i d p : ℕ) → IsInForm script → IsAtBench (opening_of given script) left sought lps id b → i < length script.schedule
    → p ≡ get_or script.schedule i d → p < length lps
item-inside given script left sought lps id b i d p form l inside is =
    let below : get_or script.schedule i d < script.machine.lps = form.items i d inside in
    omega (arith, is, l.count, form.lists)

pub item-next : (o : Opening) (sought : State → List ℕ → Type 0) (schedule : List ℕ) (lps : List LpState) (id : TableId) (b : BenchSeen) (i d p : ℕ) → IsAtBench o (drop i schedule) sought lps id b → i < length schedule → p ≡ get_or schedule i d
    → IsAtBench o (p ∷ drop (i + 1) schedule) sought lps id b
item-next o sought schedule lps id b i d p l inside is =
    let next : drop i schedule ≡ p ∷ drop (i + 1) schedule = rw add-one (drop-cons schedule i d inside ∙ ap (λ (x : ℕ). x ∷ drop (suc i) schedule) (sym is)) in
    subst (λ (z : List ℕ). IsAtBench o z sought lps id b) next l

pub open-of : (given : Given) (script : ScriptSeen) → IsInForm script → IsOpen (opening_of given script)
open-of given script form = record { machine = form.machine; few = omega (arith, form.machine.lps.1, form.lists); codes = codes-of given script form; slots = form.slots; apart = form.apart }

-- those before a processor stay at their ends
pub still-ended : (lps : List LpState) (p : ℕ) (s' : LpState) → HaveEnded p lps → HaveEnded p (set lps p s')
still-ended lps p s' h q less = ap (λ (z : WordLp). z.lines) (seen-other lps p s' q (λ e. absurd (omega (arith, e)))) ∙ h q less

-- and one that had no event has ended too
ended-more : (lps : List LpState) (p : ℕ) (d s' : LpState) → p < length lps → HaveEnded p lps → s' ≡ get_or lps p d → false ≡ not (length (get_or lps p d).lines.now == 0) → HaveEnded (p + 1) (set lps p s')
ended-more lps p d s' inside h same none q less = by (eqb_tells q p)
  where
    by : (((q == p) ≡ true) × (q ≡ p)) ⊎ (((q == p) ≡ false) × (q ≢ p)) → (seen_at (set lps p s') q).lines ≡ []
    by (inl t) =
        subst (λ (z : ℕ). (seen_at (set lps p s') z).lines ≡ []) (sym t.1)
        (ap (λ (x : WordLp). x.lines) (seen-own lps p s' inside) ∙ (ap (λ (z : LpState). z.lines.now) same ∙ no-lines (get_or lps p d).lines.now none))
    by (inr f) = ap (λ (x : WordLp). x.lines) (seen-other lps p s' q f.1) ∙ h q (omega (arith, f.1))

fewer-left : (o : Opening) (left : List ℕ) (sought : State → List ℕ → Type 0) (lps : List LpState) (id : TableId) (b : BenchSeen) (p : ℕ) (d s' : LpState) → p < length lps → IsAtBench o left sought lps id b
    → s'.codes.now ≡ (get_or lps p d).codes.now → events_left (code_in s'.codes.now) (seen_of s') < events_left (code_in (get_or lps p d).codes.now) (seen_of (get_or lps p d))
    → events_left o.codes (seen_at (set lps p s') p) < events_left o.codes (seen_at lps p)
fewer-left o left sought lps id b p d s' inside l has h =
    let old : code_in (get_or lps p d).codes.now ≡ o.codes = codes-at o 0 lps p d l.numbered inside in
    let less : events_left o.codes (seen_of s') < events_left o.codes (seen_of (get_or lps p d)) =
    subst (λ (x : ℕ → ℕ → List GuestOp). events_left x (seen_of s') < events_left o.codes (seen_of (get_or lps p d))) (ap code_in has ∙ old)
    (subst (λ (x : ℕ → ℕ → List GuestOp). events_left (code_in s'.codes.now) (seen_of s') < events_left x (seen_of (get_or lps p d))) old h) in
    subst (λ (x : WordLp). events_left o.codes x < events_left o.codes (seen_at lps p)) (sym (seen-own lps p s' inside))
    (subst (λ (x : WordLp). events_left o.codes (seen_of s') < events_left o.codes x) (sym (seen-at lps p d inside)) less)

-- whether it made an event

apart : false ≡ true → ⊥
apart e = cc

module _ {W : Type 0} (seeks : W → Opening → List ℕ → State → List ℕ → Type 0) (stops : W → Type 0) (lps : List LpState) (p : ℕ) (d s' : LpState) (b b' : SharedBench) (w w' : W) where
  pub fewer-by : (o : Opening) (left : List ℕ) (sought : State → List ℕ → Type 0) (id : TableId) → p < length lps → IsAtBench o left sought lps id (bench_of b) → (moved : Bool) → moved ≡ true → Looked seeks stops p w (get_or lps p d) b w' s' b' (Some moved)
      → events_left o.codes (seen_at (set lps p s') p) < events_left o.codes (seen_at lps p)
  fewer-by o left sought id inside l true e h = let t = h.1.0 in fewer-left o left sought lps id (bench_of b) p d s' inside l t.0.2.2 t.1
  fewer-by o left sought id inside l false e h = absurd (apart e)

  pub ended-by : p < length lps → HaveEnded p lps → (moved : Bool) → moved ≡ false → Looked seeks stops p w (get_or lps p d) b w' s' b' (Some moved) → HaveEnded (p + 1) (set lps p s')
  ended-by inside before true e h = absurd (apart (sym e))
  ended-by inside before false e h = ended-more lps p d s' inside before h.0.0.1 h.0.1

  -- how many have ended behind it
  pub ended-now : (n : ℕ) → p < length lps → HaveEnded n lps → (moved : Bool) → Looked seeks stops p w (get_or lps p d) b w' s' b' (Some moved) → HaveEnded (ended_behind n p moved) (set lps p s')
  ended-now n inside before true h = λ q less.
      let none : (seen_at lps p).lines ≡ [] → (get_or lps p d).lines.now ≡ [] = λ e. ap (λ (x : WordLp). x.lines) (sym (seen-at lps p d inside)) ∙ e in
      let other : q ≢ p = λ e. has-line (get_or lps p d).lines.now (none (before p (omega (arith, e, less)))) h.1.1 in
      ap (λ (x : WordLp). x.lines) (seen-other lps p s' q other) ∙ before q less
  ended-now n inside before false h = by (eqb_tells p n)
    where
      stay : set lps p s' ≡ lps
      stay = ap (set lps p) h.0.0.1 ∙ set-get_or lps p d

      by : (((p == n) ≡ true) × (p ≡ n)) ⊎ (((p == n) ≡ false) × (p ≢ n)) → HaveEnded (ended_behind n p false) (set lps p s')
      by (inl t) =
          rw t.0
          (subst (λ (z : ℕ). HaveEnded (z + 1) (set lps p s')) t.1 (ended-more lps p d s' inside (subst (λ (z : ℕ). HaveEnded z lps) (sym t.1) before) h.0.0.1 h.0.1))
      by (inr f) = rw f.0 (subst (λ (z : List LpState). HaveEnded n z) (sym stay) before)

-- where all have ended no item that is left makes an event
pub none-left : TurnsAreEvents → (o : Opening) (sought : State → List ℕ → Type 0) (lps : List LpState) (id : TableId) (b : BenchSeen) (left : List ℕ) → IsOpen o → GoesOn o sought → HaveEnded (length lps) lps
    → ((i d : ℕ) → i < length left → get_or left i d < length lps) → IsAtBench o left sought lps id b → IsAtBench o [] sought lps id b
none-left ls o sought lps id b left op on ended inside l = with-left o sought lps id b left [] (λ t now. passed t now left inside now.holds) l
  where
    passed : (t : Table) (now : IsMidway o left sought lps t) (xs : List ℕ) → ((i d : ℕ) → i < length xs → get_or xs i d < length lps)
        → sought (play o (order now.made) (start o None)) (xs ++ to_the_end 0 o.calls) → sought (play o (order now.made) (start o None)) (to_the_end 0 o.calls)
    passed t now [] within h = h
    passed t now (p ∷ xs) within h =
        let here : p < length lps = within 0 0 (omega arith) in
        passed t now xs (λ i d less. within (suc i) d (omega (arith, less)))
        (on.idle (play o (order now.made) (start o None)) p (xs ++ to_the_end 0 o.calls) (ended-flat ls o left sought lps t p op now (omega (arith, here, l.count)) (ended p here)) h)

-- the items behind one of the schedule are of the script's processors
pub items-inside : (given : Given) (script : ScriptSeen) (left : List ℕ) (sought : State → List ℕ → Type 0) (lps : List LpState) (id : TableId) (b : BenchSeen) (k : ℕ) → IsInForm script → IsAtBench (opening_of given script) left sought lps id b
    → (i d : ℕ) → i < length (drop k script.schedule) → get_or (drop k script.schedule) i d < length lps
items-inside given script left sought lps id b k form l i d less =
    item-inside given script left sought lps id b (k + i) d (get_or (drop k script.schedule) i d) form l (omega (arith, less, length-drop k script.schedule)) (get_or-drop k script.schedule i d)

-- at the end

pub same-lines : (n p : ℕ) (f : ℕ → Lp) (lps : List LpState) → length lps ≡ n → ((q : ℕ) → q < n → (f (p + q)).replies ≡ (seen_at lps q).replies) → lines_from n p f ≡ lines_seen p lps
same-lines zero p f [] e h = refl
same-lines zero p f (s ∷ ss) e h = absurd (omega (arith, e))
same-lines (suc n) p f [] e h = absurd (omega (arith, e))
same-lines (suc n) p f (s ∷ ss) e h =
    let here : (f p).replies ≡ (seen_of s).replies = ap (λ (k : ℕ). (f k).replies) (omega arith) ∙ h 0 (omega arith) in
    ap (λ (rs : List Reply). reply_lines p 1 rs ++ lines_from n (p + 1) f) here
    ∙ ap (λ zs. reply_lines p 1 (seen_of s).replies ++ zs) (same-lines n (p + 1) f ss (omega (arith, e)) (λ q i. ap (λ (k : ℕ). (f k).replies) (omega arith) ∙ h (suc q) (omega arith)))

pub same-notes : (key : List ℕ) (n p : ℕ) (f : ℕ → Lp) (lps : List LpState) → length lps ≡ n → ((q : ℕ) → q < n → (f (p + q)).notes ≡ (seen_at lps q).beside.notes) → notes_from key n p f ≡ notes_seen key p lps
same-notes key zero p f [] e h = refl
same-notes key zero p f (s ∷ ss) e h = absurd (omega (arith, e))
same-notes key (suc n) p f [] e h = absurd (omega (arith, e))
same-notes key (suc n) p f (s ∷ ss) e h =
    let here : (f p).notes ≡ (seen_of s).beside.notes = ap (λ (k : ℕ). (f k).notes) (omega arith) ∙ h 0 (omega arith) in
    ap (λ (ns : List Note). map (note_text key p) ns ++ notes_from key n (p + 1) f) here
    ∙ ap (λ zs. map (note_text key p) (seen_of s).beside.notes ++ zs) (same-notes key n (p + 1) f ss (omega (arith, e)) (λ q i. ap (λ (k : ℕ). (f k).notes) (omega arith) ∙ h (suc q) (omega arith)))

-- one processor more
pub first-next : (m : Machine) (given : Given) (codes : List CodeSeen) (lps : List LpState) (lists : List (Vec Call)) (i : ℕ) (v : Vec Call) (s : LpState) (cs : List Call) → i < length lists → v ≡ get_or lists i v → cs ≡ v.items
    → AreFirst m given codes 0 lps (map (λ list. list.items) (take i lists)) → s.place ≡ record { machine = m; lp = i } → given_in s.given ≡ given → s.codes.now ≡ codes → seen_of s ≡ first_lp cs
    → AreFirst m given codes 0 (lps ++ s ∷ []) (map (λ list. list.items) (take (i + 1) lists))
first-next m given codes lps lists i v s cs inside is calls h place same has seen =
    let items : Vec Call → List Call = λ list. list.items in
    let count : length lps ≡ i = first-count m given codes 0 lps (map items (take i lists)) h ∙ (length-map (take i lists) items ∙ length-take-le i lists (omega arith)) in
    let all : map items (take (i + 1) lists) ≡ map items (take i lists) ++ cs ∷ [] =
    ap (map items) (take_more lists i v inside) ∙ (map_push items (take i lists) (get_or lists i v) ∙ ap (λ (x : List Call). map items (take i lists) ++ x ∷ []) (ap items (sym is) ∙ sym calls)) in
    subst (AreFirst m given codes 0 (lps ++ s ∷ [])) (sym all)
    (first-more m given codes 0 lps (map items (take i lists)) s cs h (place ∙ ap (λ (k : ℕ). record { machine = m; lp = k }) (omega (arith, count))) same has seen)

-- the lines of one processor more
pub lines-next : (lps : List LpState) (i : ℕ) (d : LpState) (text lines all : List ℕ) (rs : List Reply) → i < length lps → rs ≡ (seen_of (get_or lps i d)).replies → lines ≡ concat (reply_lines i 1 rs)
    → text ++ concat (lines_seen i (drop i lps)) ≡ all → (text ++ lines) ++ concat (lines_seen (i + 1) (drop (i + 1) lps)) ≡ all
lines-next lps i d text lines all rs inside replied printed so_far =
    let here : drop i lps ≡ get_or lps i d ∷ drop (i + 1) lps = rw add-one (drop-cons lps i d inside) in
    let rest : List (List ℕ) = lines_seen (i + 1) (drop (i + 1) lps) in
    append_assoc text lines (concat rest)
    ∙ (ap (λ x. text ++ (x ++ concat rest)) (printed ∙ ap (λ x. concat (reply_lines i 1 x)) replied)
    ∙ (ap (λ x. text ++ x) (sym (concat-append (reply_lines i 1 (seen_of (get_or lps i d)).replies) rest)) ∙ (ap (λ (x : List LpState). text ++ concat (lines_seen i x)) (sym here) ∙ so_far)))

-- the notes of one processor more
pub notes-next : (key : List ℕ) (lps : List LpState) (i : ℕ) (d : LpState) (text lines all : List ℕ) (ns : List Note) → i < length lps → ns ≡ (seen_of (get_or lps i d)).beside.notes → lines ≡ concat (map (note_text key i) ns)
    → text ++ concat (notes_seen key i (drop i lps)) ≡ all → (text ++ lines) ++ concat (notes_seen key (i + 1) (drop (i + 1) lps)) ≡ all
notes-next key lps i d text lines all ns inside noted printed so_far =
    let here : drop i lps ≡ get_or lps i d ∷ drop (i + 1) lps = rw add-one (drop-cons lps i d inside) in
    let rest : List (List ℕ) = notes_seen key (i + 1) (drop (i + 1) lps) in
    append_assoc text lines (concat rest)
    ∙ (ap (λ x. text ++ (x ++ concat rest)) (printed ∙ ap (λ (x : List Note). concat (map (note_text key i) x)) noted)
    ∙ (ap (λ x. text ++ x) (sym (concat-append (map (note_text key i) (seen_of (get_or lps i d)).beside.notes) rest)) ∙ (ap (λ (x : List LpState). text ++ concat (notes_seen key i x)) (sym here) ∙ so_far)))

-- the bench of a table that was started
pub first-bench : (b : BenchSeen) (m : Machine) (id : TableId) → b.machine ≡ m → b.pass ≡ first_pass id → b ≡ only_bench m id []
first-bench b m id machine pass = λ i. record { machine = machine i; pass = pass i }

-- of a script that was read
pub starts : (given : Given) (script : ScriptSeen) (sought : State → List ℕ → Type 0) (m : Machine) (codes : List CodeSeen) (lists : List (List Call)) (lps now : List LpState) (id : TableId) (b : BenchSeen) → m ≡ script.machine → codes ≡ script.codes → lists ≡ script.calls → now ≡ lps → b ≡ only_bench m id []
    → sought (start (opening_of given script) None) (script.schedule ++ to_the_end 0 script.calls)
    → AreFirst m given codes 0 lps lists
    → IsAtBench (opening_of given script) script.schedule sought now b.pass.table b
starts given script sought m codes lists lps now id b machine has calls same new all h =
    let o : Opening = opening_of given script in
    let first : AreFirst script.machine given script.codes 0 now script.calls =
    subst (λ (x : List LpState). AreFirst script.machine given script.codes 0 x script.calls) (sym same)
    (subst (AreFirst script.machine given script.codes 0 lps) calls (subst (λ (x : List CodeSeen). AreFirst script.machine given x 0 lps lists) has (subst (λ (x : Machine). AreFirst x given codes 0 lps lists) machine h))) in
    let named : b ≡ only_bench m b.pass.table [] = new ∙ ap (λ (z : TableId). only_bench m z []) (sym (ap (λ (z : BenchSeen). z.pass.table) new)) in
    record {
      own = [];
      is = named ∙ ap (λ (x : Machine). only_bench x b.pass.table []) machine;
      count = first-count o.machine given script.codes 0 now o.calls first;
      numbered = first-numbered o given script.codes 0 now o.calls refl refl first;
      midway = λ t play. at-start o sought given script.codes script.schedule now t first all play;
    }

-- what all went on to, or where they stopped
pub brought : (stopped : Type 0) (n : ℕ) (lps : List LpState) (at at' : List ℕ → Type 0) (went : Bool) → ((left : List ℕ) → at left → at' left) → Goes stopped n lps at went → Goes stopped n lps at' went
brought stopped n lps at at' true f h = (h.0, f [] h.1)
brought stopped n lps at at' false f h = (h.0, (h.1.0, f h.1.0 h.1.1))

pub went-on : (stopped : Type 0) (n : ℕ) (lps : List LpState) (at : List ℕ → Type 0) (went : Bool) → went ≡ true → Goes stopped n lps at went → HaveEnded n lps × at []
went-on stopped n lps at true e h = h
went-on stopped n lps at false e h = absurd (apart e)

-- what is so wherever the run has come
pub either : {P : Type 0} (stopped : Type 0) (n : ℕ) (lps : List LpState) (at : List ℕ → Type 0) (went : Bool) → ((left : List ℕ) → at left → P) → Goes stopped n lps at went → P
either stopped n lps at true f h = f [] h.1
either stopped n lps at false f h = f h.1.0 h.1.1

-- the close tells that the bench's list plays
pub closed-at : (o : Opening) (left : List ℕ) (sought : State → List ℕ → Type 0) (lps : List LpState) (id : TableId) (b : BenchSeen) (words : List ℕ) → IsAtBench o left sought lps id b → MergesTo o.machine b.pass.lists words → StandsAt o left sought lps words
closed-at o left sought lps id b words l closed =
    let one : MergesTo o.machine (l.own ∷ []) words = subst (λ (z : List (List Taken)). MergesTo o.machine z words) (ap (λ (z : BenchSeen). z.pass.lists) l.is) closed in
    record { count = l.count; table = one.table; midway = l.midway one.table (alone-at o.machine l.own words one); words_are = one.words_are }

pub tells : {E : Type 0} (r : Result Texts E) (out_bundles guest_out : Option (List ℕ)) (lines all container made notes told : List ℕ) → IfOk r (λ t. TellAll out_bundles guest_out lines container notes t) → lines ≡ all → container ≡ made → notes ≡ told
    → IfOk r (λ t. TellAll out_bundles guest_out all made told t)
tells (Ok t) out_bundles guest_out lines all container made notes told h e c f = (
  h.0 ∙ e,
  h.1 ∙ ap (where_named out_bundles) c,
  h.2 ∙ ap (where_named guest_out) f,
)
tells (Err x) out_bundles guest_out lines all container made notes told h e c f = tt

module _ (ls : TurnsAreEvents) (o : Opening) (schedule : List ℕ) (lps : List LpState) (words : List ℕ) (op : IsOpen o) (l : StandsAt o [] (LeadsToEnd o schedule) lps words) (ended : HaveEnded (length lps) lps) where
  abbrev pub end : State
  end = run o (order l.midway.made)

  pub there : IsWhere o (seen_at lps) end
  there = (ls.merges.ended o (leaf_table o.machine (given_of o) o.codes) l.midway.made (seen_at lps) l.table op.few (are-leaves ls o op) op.codes l.midway.merge (λ p i. ended p (omega (arith, l.count)))).1

  count : end.lp_count ≡ length o.calls
  count = counts_stay o (order l.midway.made ++ to_the_end 0 o.calls) (start o None)

  pub same : end ≡ run o schedule
  same = play_append o (order l.midway.made) (to_the_end 0 o.calls) (start o None) ∙ l.midway.holds

  pub prints-all : concat (lines_seen 0 lps) ≡ host_text o schedule
  unfolding host_text text_of
  prints-all =
      let lines : lines_from end.lp_count 0 end.lps ≡ lines_seen 0 lps =
      same-lines end.lp_count 0 end.lps lps (l.count ∙ sym count) (λ q i. ap (λ (k : ℕ). (end.lps k).replies) (omega arith) ∙ there.replies q (omega (arith, count, i))) in
      ap concat (sym lines) ∙ ap text_of same

  -- what the guests noted stands beside the processors' lines
  pub notes-all : (key : List ℕ) → concat (notes_seen key 0 lps) ≡ guest_text key o schedule
  unfolding guest_text notes_of
  notes-all key =
      let lines : notes_from key end.lp_count 0 end.lps ≡ notes_seen key 0 lps =
      same-notes key end.lp_count 0 end.lps lps (l.count ∙ sym count) (λ q i. ap (λ (k : ℕ). (end.lps k).notes) (omega arith) ∙ ap (λ (x : Beside). x.notes) (there.beside q (omega (arith, count, i)))) in
      ap concat (sym lines) ∙ ap (notes_of key) same

  pub fit : FitContainer (bundles_in (run o schedule))
  fit = fit-run ls.bundles o schedule op.slots op.apart

  -- the processors' bundles are the run's
  pub made : IsPermutation (bundles_in (run o schedule)) (bundles_seen lps)
  made = moved-there o schedule (seen_at lps) lps l.count (λ q i. sym (all-ended (seen_at lps q) (ended q (omega (arith, l.count, i))))) (subst (λ (s : State). AreBundlesOf (length o.calls) (seen_at lps) (bundles_in s)) same there.bundles) fit
