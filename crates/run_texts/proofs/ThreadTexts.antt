-- What processors did in threads, as texts.
use Rattle.std.proofs.Common.{◌≡◌, ◌≢◌, ◌⊎◌, inl, inr, refl, sym, ◌∙◌, ap, subst, ℕ, zero, suc, ◌+◌, ◌<◌, ◌≤◌, ◌==◌, true, false, List, [], ◌∷◌, ◌++◌, length, get_or, take, drop, slice_index_or, Option, None, Result, Ok, Err, IfOk, arith}
use Rattle.std.specs.List.{All, concat}
use Rattle.std.proofs.lemmas.Bool.{cases_lt, ne_eqb, eq-eqb}
use Rattle.std.proofs.lemmas.Bool.Decides.{eqb_tells}
use Rattle.std.proofs.lemmas.List.{get_or-map, length-map}
use Rattle.std.proofs.lemmas.List.Elements.{All-nil, All-cons, All-head, All-tail, All-map, All-from_get_or}
use Rattle.td_words.specs.Seen.{CodeSeen}
use Rattle.td_words.specs.declared.calls.Call.{Call}
use Rattle.td_words.specs.declared.machines.Machine.{Machine}
use Rattle.flat_core.specs.Opening.{Opening}
use Rattle.flat_core.specs.Event.{State, start}
use Rattle.flat_core.specs.Run.{run, bundles_in, to_the_end}
use Rattle.bundle_texts.specs.Ordered.{FitContainer, container_text}
use Rattle.flat_core.specs.GuestText.{notes_of, guest_text}
use Rattle.flat_core.specs.HostText.{text_of, host_text}
use Rattle.flat_core.proofs.Induction.{counts_stay}
use Rattle.step_core.specs.Items.{Table, PlaysTo}
use Rattle.step_core.specs.declared.items.Taken.{Taken}
use Rattle.step_core.specs.declared.items.Taken.TheVariants.{Stepped, Swapped, Missed}
use Rattle.trace_table.specs.Merges.{MergesTo}
use Rattle.trace_table.specs.Views.{grown_in}
use Rattle.atomic_table.specs.Seated.{TableId}
use Rattle.trace_table.specs.Benches.{PassSeen, BenchSeen, bench_of, first_pass, new_bench}
use Rattle.leaf_engine.specs.declared.needs.Place.{Place}
use Rattle.leaf_engine.specs.Besides.{Beside}
use Rattle.leaf_engine.specs.OwnLists.{Piece, Unmarked, Marked, Wordless, taken_in, joined, WordLp}
use Rattle.leaf_engine.specs.Merges.{Item, part, event_before, step_before, steps_taken, order, no_table}
use Rattle.merge_laws.specs.Merge.{table_after, MergePlays, Merge}
use Rattle.merge_laws.specs.Laws.{IsWhere}
use Rattle.leaf_table.specs.Given.{Given, given_in, given_of}
use Rattle.leaf_table.specs.Table.{code_in, leaf_table}
use Rattle.leaf_dispatch.specs.Ended.{ended_in}
use Rattle.leaf_dispatch.specs.States.{seen_of, Moves}
use Rattle.leaf_dispatch.proofs.EndedCalls.{all-ended}
use Rattle.leaf_dispatch.specs.declared.states.LpState.{LpState}
use Rattle.script_text.specs.Seen.{ScriptSeen}
use Rattle.script_text.specs.Laws.{IsInForm}
use Rattle.lp_threads.specs.declared.lanes.Lane.{Lane}
use Rattle.lp_threads.specs.Running.{FitsBench, HasRun, HaveRun}
use Rattle.thread_runs.specs.Threads.{RanInThread, RanInThreads, IsOneRun, ThreadsAreRuns}
use Rattle.run_texts.specs.Openings.{opening_of}
use Rattle.run_texts.specs.Sealing.{bundles_seen, bundles_text}
use Rattle.run_texts.specs.declared.replay.Texts.{Texts}
use Rattle.run_texts.specs.Replaying.{AreFirst, TurnsAreEvents, seen_at, lines_seen, notes_seen, where_named, TellAll}
use Rattle.run_texts.specs.Lanes.{processors_of, benches_of, has_out, IsOther, with_all}
use Rattle.run_texts.specs.Threaded.{AreOfThreads}
use Rattle.run_texts.proofs.Making.{fit-run, fits-there, seals-there}
use Rattle.run_texts.proofs.Places.{seen-at, place-at, given-at, codes-at, first-count, first-numbered, first-seen}
use Rattle.run_texts.proofs.Replayed.{IsOpen, are-leaves, same-lines, same-notes}
use Rattle.run_texts.proofs.Lanes.{lists_in, with-all-lists, with-all-out, with-all-table, with-all-first, HasOne, one-at, none-beyond}

-- what is printed where each processor is where a run ends
module _ (o : Opening) (schedule : List ℕ) (lps : List LpState) (count : length lps ≡ length o.calls) where
  abbrev end : State
  end = run o schedule

  counted : end.lp_count ≡ length o.calls
  counted = counts_stay o (schedule ++ to_the_end 0 o.calls) (start o None)

  pub prints : ((q : ℕ) → q < length o.calls → (end.lps q).replies ≡ (seen_at lps q).replies) → concat (lines_seen 0 lps) ≡ host_text o schedule
  unfolding host_text text_of
  prints there = ap concat (sym (same-lines end.lp_count 0 end.lps lps (count ∙ sym counted) (λ q i. ap (λ (k : ℕ). (end.lps k).replies) (omega arith) ∙ there q (omega (arith, counted, i)))))

  pub notes : (key : List ℕ) → ((q : ℕ) → q < length o.calls → (end.lps q).notes ≡ (seen_at lps q).beside.notes) → concat (notes_seen key 0 lps) ≡ guest_text key o schedule
  unfolding guest_text notes_of
  notes key there = ap concat (sym (same-notes key end.lp_count 0 end.lps lps (count ∙ sym counted) (λ q i. ap (λ (k : ℕ). (end.lps k).notes) (omega arith) ∙ there q (omega (arith, counted, i)))))

-- the items of a merge are the processors'

no-first : {A : Type 0} (x : A) (xs : List A) → x ∷ xs ≡ [] → ⊥
no-first x xs e = (let n : suc (length xs) ≡ 0 = ap length e in absurd (omega (arith, n)))

order-inside : (n : ℕ) (is : List Item) → ((p : ℕ) → n ≤ p → part p is ≡ []) → All (λ p. p < n) (order is)
order-inside n [] none = All-nil (λ p. p < n)
order-inside n (i ∷ is) none = by (cases_lt i.lp n) (λ further. order-inside n is further)
  where
    own : part i.lp (i ∷ is) ≡ i.piece ∷ part i.lp is
    own = rw (eq-eqb i.lp i.lp refl) refl

    placed : (x : Piece) → i.lp < n → All (λ p. p < n) (order is) → All (λ p. p < n) (event_before x i.lp (order is))
    placed (Unmarked x) lt h = h
    placed (Marked x) lt h = All-cons (λ p. p < n) i.lp (order is) lt h
    placed Wordless lt h = All-cons (λ p. p < n) i.lp (order is) lt h

    by : (i.lp < n) ⊎ (n ≤ i.lp) → (((p : ℕ) → n ≤ p → part p is ≡ []) → All (λ p. p < n) (order is)) → All (λ p. p < n) (order (i ∷ is))
    by (inr ge) further = absurd (no-first i.piece (part i.lp is) (sym own ∙ none i.lp ge))
    by (inl lt) further = placed i.piece lt (further behind)
      where
        behind : (p : ℕ) → n ≤ p → part p is ≡ []
        behind p ge =
            let apart : i.lp ≢ p = λ e. absurd (omega (arith, e, lt, ge)) in
            let skipped : part p (i ∷ is) ≡ part p is = rw (ne_eqb i.lp p apart) refl in
            sym skipped ∙ none p ge

-- where no swap misses, a merge plays
plays-alone : (is : List Item) (t u : Table) → PlaysTo t (steps_taken is) u → MergePlays t is u
plays-alone [] t u h = h
plays-alone (i ∷ is) t u h = by i.piece h (λ v g. plays-alone is v u g)
  where
    by : (x : Piece) → PlaysTo t (step_before x (steps_taken is)) u → ((v : Table) → PlaysTo v (steps_taken is) u → MergePlays v is u) → MergePlays t (record { lp = i.lp; piece = x } ∷ is) u
    by (Unmarked (Stepped s a)) h further = (h.0, further (table_after t (Unmarked (Stepped s a))) h.1)
    by (Unmarked (Swapped k put taken)) h further = (h.0, further (table_after t (Unmarked (Swapped k put taken))) h.1)
    by (Unmarked (Missed k)) h further = absurd h
    by (Marked (Stepped s a)) h further = (h.0, further (table_after t (Marked (Stepped s a))) h.1)
    by (Marked (Swapped k put taken)) h further = (h.0, further (table_after t (Marked (Swapped k put taken))) h.1)
    by (Marked (Missed k)) h further = absurd h
    by Wordless h further = (tt, further t h)

empty-list : {A : Type 0} (xs : List A) → (length xs == 0) ≡ true → xs ≡ []
empty-list xs e = by (eqb_tells (length xs) 0)
  where
    empty : {B : Type 0} (ys : List B) → length ys ≡ 0 → ys ≡ []
    empty [] z = refl
    empty (y ∷ ys) z = absurd (omega (arith, z))

    by : (((length xs == 0) ≡ true) × (length xs ≡ 0)) ⊎ (((length xs == 0) ≡ false) × (length xs ≢ 0)) → xs ≡ []
    by (inl t) = empty xs t.1
    by (inr f) = (let no = f.0 in cc)

-- Lanes of a script's processors, at benches that the first one made, ran to their ends, and the lists that the first bench then
-- keeps merge to these words.
pub record HaveAllRun (o : Opening) (given : Given) (codes : List CodeSeen) (first : BenchSeen) (before after : List (Lane LpState)) (words : List ℕ) : Type 0 where
  pub is_given : given ≡ given_of o
  pub coded : code_in codes ≡ o.codes
  pub begin : AreFirst o.machine given codes 0 (processors_of before) o.calls
  pub new : All (λ a. bench_of a.bench ≡ new_bench first) before
  pub run : HaveRun (λ s. length s.lines.now == 0) Moves before after
  pub count : length after ≡ length before
  pub closed : MergesTo o.machine ([] ∷ lists_in (benches_of after)) words

-- each lane is at a bench of its processor's machine
pub fits : (m : Machine) (given : Given) (codes : List CodeSeen) (n : ℕ) (first : BenchSeen) (lanes : List (Lane LpState)) (css : List (List Call)) → first.machine ≡ m → AreFirst m given codes n (processors_of lanes) css
    → All (λ a. bench_of a.bench ≡ new_bench first) lanes → All (FitsBench (λ s. s.place.machine)) lanes
fits m given codes n first [] css e h new = All-nil (FitsBench (λ s. s.place.machine))
fits m given codes n first (a ∷ more) [] e h new = absurd h
fits m given codes n first (a ∷ more) (cs ∷ css) e h new =
    let here : bench_of a.bench ≡ new_bench first = All-head (λ a. bench_of a.bench ≡ new_bench first) a more new in
    All-cons (FitsBench (λ s. s.place.machine)) a more (ap (λ (z : Place). z.machine) h.0 ∙ (sym e ∙ sym (ap (λ (z : BenchSeen). z.machine) here)))
    (fits m given codes (suc n) first more css e h.4 (All-tail (λ a. bench_of a.bench ≡ new_bench first) a more new))

-- there is a lane, where there are processors
pub one-lane : (o : Opening) (given : Given) (codes : List CodeSeen) (first : BenchSeen) (before after : List (Lane LpState)) (words : List ℕ) → HaveAllRun o given codes first before after words → 0 < length o.calls → Lane LpState
one-lane o given codes first [] after words h some = absurd (let none = first-count o.machine given codes 0 [] o.calls h.begin in omega (arith, none, some))
one-lane o given codes first (a ∷ more) after words h some = a

module _ (ls : TurnsAreEvents) (threads : ThreadsAreRuns) (o : Opening) (op : IsOpen o) (given : Given) (codes : List CodeSeen) (first : BenchSeen) (before after : List (Lane LpState)) (words : List ℕ) (h : HaveAllRun o given codes first before after words) (some : 0 < length o.calls) where
  abbrev d : Lane LpState
  d = one-lane o given codes first before after words h some

  abbrev was : ℕ → Lane LpState
  was p = slice_index_or before p d

  abbrev is_now : ℕ → Lane LpState
  is_now p = slice_index_or after p d

  abbrev lists : List (List Taken)
  lists = [] ∷ lists_in (benches_of after)

  counted-before : length before ≡ length o.calls
  counted-before = sym (length-map before (λ a. a.processor)) ∙ first-count o.machine given codes 0 (processors_of before) o.calls h.begin

  counted-after : length after ≡ length o.calls
  counted-after = h.count ∙ counted-before

  ran : (p : ℕ) → p < length o.calls → HasRun (λ s. length s.lines.now == 0) Moves (was p) (is_now p)
  ran p lt = h.run p d (omega (arith, counted-before, lt))

  -- the bench of a lane that has run keeps its own list alone
  one : (p : ℕ) → p < length o.calls → HasOne (bench_of (is_now p).bench)
  one p lt =
      let r = (ran p lt).turned in
      (_, ap (λ (b : BenchSeen). b.pass.lists) r.list ∙ ap (λ (b : BenchSeen). grown_in b.pass.lists (taken_in (joined r.turns))) (h.new p d (omega (arith, counted-before, lt))))

  ones : All HasOne (benches_of after)
  ones = All-map HasOne (λ a. bench_of a.bench) after (All-from_get_or (λ a. HasOne (bench_of a.bench)) after d (λ p lt. one p (omega (arith, counted-after, lt))))

  many : length (benches_of after) ≡ length o.calls
  many = length-map after (λ a. bench_of a.bench) ∙ counted-after

  kept : (p : ℕ) → p < length o.calls → (bench_of (is_now p).bench).pass.lists ≡ slice_index_or lists (suc p) [] ∷ []
  kept p lt =
      ap (λ (b : BenchSeen). b.pass.lists) (sym (get_or-map (λ a. bench_of a.bench) after p d (bench_of d.bench) (omega (arith, counted-after, lt))))
      ∙ one-at (benches_of after) p (bench_of d.bench) (omega (arith, many, lt)) ones

  processor-was : (p : ℕ) → p < length o.calls → get_or (processors_of before) p d.processor ≡ (was p).processor
  processor-was p lt = get_or-map (λ a. a.processor) before p d d.processor (omega (arith, counted-before, lt))

  processor-is : (p : ℕ) → p < length o.calls → seen_at (processors_of after) p ≡ seen_of (is_now p).processor
  processor-is p lt =
      seen-at (processors_of after) p d.processor (omega (arith, length-map after (λ a. a.processor), counted-after, lt))
      ∙ ap seen_of (get_or-map (λ a. a.processor) after p d d.processor (omega (arith, counted-after, lt)))

  each-ran : (p : ℕ) → p < length o.calls → RanInThread o p (slice_index_or lists (suc p) []) (was p) (is_now p)
  each-ran p lt =
      let inside : p < length (processors_of before) = omega (arith, length-map before (λ a. a.processor), counted-before, lt) in
      let numbered = first-numbered o given codes 0 (processors_of before) o.calls h.is_given h.coded h.begin in
      record {
        place = ap (λ (s : LpState). s.place) (sym (processor-was p lt)) ∙ place-at o 0 (processors_of before) p d.processor numbered inside ∙ ap (λ (k : ℕ). record { machine = o.machine; lp = k }) (omega arith);
        given = ap (λ (s : LpState). given_in s.given) (sym (processor-was p lt)) ∙ given-at o 0 (processors_of before) p d.processor numbered inside;
        codes = ap (λ (s : LpState). code_in s.codes.now) (sym (processor-was p lt)) ∙ codes-at o 0 (processors_of before) p d.processor numbered inside;
        first = ap seen_of (sym (processor-was p lt)) ∙ (sym (seen-at (processors_of before) p d.processor inside) ∙ sym (first-seen o.machine given codes 0 (processors_of before) o.calls p h.begin));
        no_item = ap (λ (b : BenchSeen). b.pass.lists) (h.new p d (omega (arith, counted-before, lt)));
        run = ran p lt;
        list = kept p lt;
      }

  all-ran : RanInThreads o lists suc was is_now
  all-ran = record {
    each = each-ran;
    apart = λ p q i j e. omega (arith, e);
    nothing_else = nothing-else;
  }
    where
      nothing-else : (k : ℕ) → ((p : ℕ) → p < length o.calls → suc p ≢ k) → slice_index_or lists k [] ≡ []
      nothing-else zero out = refl
      nothing-else (suc k) out = by (cases_lt k (length o.calls))
        where
          by : (k < length o.calls) ⊎ (length o.calls ≤ k) → slice_index_or lists (suc k) [] ≡ []
          by (inl lt) = absurd (out k lt refl)
          by (inr ge) = none-beyond (benches_of after) k (omega (arith, many, ge)) ones

  abbrev now : ℕ → WordLp
  now p = seen_of (is_now p).processor

  pub one-run : IsOneRun o lists suc now words
  one-run =
      threads o lists words suc was is_now op.machine op.few op.codes all-ran h.closed

  over : (p : ℕ) → p < length o.calls → (now p).lines ≡ []
  over p lt = empty-list (is_now p).processor.lines.now (ran p lt).ended

  -- where a run ends where the processors are, it prints their lines
  printed : (key schedule : List ℕ) → IsWhere o now (run o schedule) → (concat (lines_seen 0 (processors_of after)) ≡ host_text o schedule) × (concat (notes_seen key 0 (processors_of after)) ≡ guest_text key o schedule)
  printed key schedule there =
      let count : length (processors_of after) ≡ length o.calls = length-map after (λ a. a.processor) ∙ counted-after in (
        prints o schedule (processors_of after) count (λ q lt. there.replies q lt ∙ ap (λ (x : WordLp). x.replies) (sym (processor-is q lt))),
        notes o schedule (processors_of after) count key (λ q lt. ap (λ (x : Beside). x.notes) (there.beside q lt) ∙ ap (λ (x : WordLp). x.beside.notes) (sym (processor-is q lt))),
      )

  same-made : (q : ℕ) → q < length o.calls → (now q).beside.bundles ≡ ended_in (seen_at (processors_of after) q)
  same-made q lt = sym (all-ended (now q) (over q lt)) ∙ ap ended_in (sym (processor-is q lt))

  fit : (schedule : List ℕ) → FitContainer (bundles_in (run o schedule))
  fit schedule = fit-run ls.bundles o schedule op.slots op.apart

  sealed : (schedule : List ℕ) → IsWhere o now (run o schedule) → (forward backward : List ℕ) → container_text forward backward (bundles_seen (processors_of after)) ≡ bundles_text forward backward o schedule
  sealed schedule there = seals-there o schedule now (processors_of after) (length-map after (λ a. a.processor) ∙ counted-after) same-made there.bundles (fit schedule)

  -- their bundles fit a container
  pub fits-lanes : FitContainer (bundles_seen (processors_of after))
  fits-lanes = fits-there o (order one-run.made) now (processors_of after) (length-map after (λ a. a.processor) ∙ counted-after) same-made one-run.lps.bundles (fit (order one-run.made))

  module _ (forward backward report_key : List ℕ) (out_bundles guest_out : Option (List ℕ)) (t : Texts)
      (told : TellAll out_bundles guest_out (concat (lines_seen 0 (processors_of after))) (container_text forward backward (bundles_seen (processors_of after))) (concat (notes_seen report_key 0 (processors_of after))) t) where
    tells-run : (schedule : List ℕ) → IsWhere o now (run o schedule) → TellAll out_bundles guest_out (host_text o schedule) (bundles_text forward backward o schedule) (guest_text report_key o schedule) t
    tells-run schedule there =
        let p = printed report_key schedule there in (
          told.0 ∙ p.0,
          told.1 ∙ ap (where_named out_bundles) (sealed schedule there forward backward),
          told.2 ∙ ap (where_named guest_out) p.1,
        )

    pub of-threads : AreOfThreads o forward backward report_key out_bundles guest_out t
    of-threads = record {
      own = λ p. joined (one-run.merge.own p);
      lists = λ p lt. record { turns = one-run.merge.own p; last = now p; lead = one-run.merge.turns p lt; over = over p lt; is = refl };
      made = one-run.made;
      table = one-run.table;
      ordered = record { merge = one-run.merge.merge; plays = ls.merges.none_misses o (leaf_table o.machine (given_of o) o.codes) one-run.made now one-run.table op.few (are-leaves ls o op) op.codes one-run.merge };
      processors = order-inside (length o.calls) one-run.made one-run.merge.merge.nothing_else;
      each = λ made u ordered.
          let merge : Merge o (leaf_table o.machine (given_of o) o.codes) made now u =
          record { own = one-run.merge.own; turns = one-run.merge.turns; merge = ordered.merge; plays = plays-alone made no_table u ordered.plays } in
          tells-run (order made) (ls.merges.ended o (leaf_table o.machine (given_of o) o.codes) made now u op.few (are-leaves ls o op) op.codes merge over).1;
    }

-- of a script that was read
pub begins : (script : ScriptSeen) (m : Machine) (given : Given) (codes : List CodeSeen) (lists : List (List Call)) (lps now : List LpState) → m ≡ script.machine → codes ≡ script.codes → lists ≡ script.calls → now ≡ lps → AreFirst m given codes 0 lps lists
    → AreFirst script.machine given script.codes 0 now script.calls
begins script m given codes lists lps now machine has calls same h =
    subst (λ (x : List LpState). AreFirst script.machine given script.codes 0 x script.calls) (sym same)
    (subst (AreFirst script.machine given script.codes 0 lps) calls (subst (λ (x : List CodeSeen). AreFirst script.machine given x 0 lps lists) has (subst (λ (x : Machine). AreFirst x given codes 0 lps lists) machine h)))

pub told-of : {E : Type 0} (P Q : Texts → Type 0) (r : Result Texts E) → ((t : Texts) → P t → Q t) → IfOk r P → IfOk r Q
told-of P Q (Ok t) f h = f t h
told-of P Q (Err e) f h = tt

-- how many processors there are
pub few-first : (script : ScriptSeen) (m : Machine) (given : Given) (codes : List CodeSeen) (lists : List (List Call)) (lps : List LpState) → IsInForm script → lists ≡ script.calls → AreFirst m given codes 0 lps lists → length lps ≤ 8
few-first script m given codes lists lps form calls h =
    let count = first-count m given codes 0 lps lists h in
    let all : length lists ≡ length script.calls = ap length calls in
    omega (arith, count, all, form.lists, form.machine.lps.1)

pub some-calls : (script : ScriptSeen) → IsInForm script → 0 < length script.calls
some-calls script form = omega (arith, form.lists, form.machine.lps.0)

-- what was written over all of a list is there
pub written : {A : Type 0} (xs old : List A) (n : ℕ) → n ≡ length xs → take n (xs ++ drop (length xs) old) ≡ xs
written xs old n e = ap (λ (k : ℕ). take k (xs ++ drop (length xs) old)) e ∙ front xs (drop (length xs) old)
  where
    front : {B : Type 0} (ys zs : List B) → take (length ys) (ys ++ zs) ≡ ys
    front [] zs = refl
    front (y ∷ ys) zs = ap (λ ws. y ∷ ws) (front ys zs)

-- the benches of lanes that have run can be taken in
pub others : (first now : BenchSeen) (n : ℕ) (before after : List (Lane LpState)) → now ≡ has_out first n → All (λ a. bench_of a.bench ≡ new_bench first) before → HaveRun (λ s. length s.lines.now == 0) Moves before after
    → length after ≡ length before → All (IsOther now) (benches_of after)
others first now n before after is new run count = All-map (IsOther now) (λ a. bench_of a.bench) after other
  where
    other : (k : ℕ) (d : Lane LpState) → k < length after → IsOther now (bench_of (slice_index_or after k d).bench)
    other k d lt =
        let inside : k < length before = omega (arith, count, lt) in
        let did = (run k d inside).turned.list in
        let was = new k d inside in (
          ap (λ (b : BenchSeen). b.pass.table) did ∙ (ap (λ (b : BenchSeen). b.pass.table) was ∙ sym (ap (λ (b : BenchSeen). b.pass.table) is)),
          ap (λ (b : BenchSeen). b.pass.first) did ∙ ap (λ (b : BenchSeen). b.pass.first) was,
        )

-- the pass with which the table is closed
pub closes : (pass : PassSeen) (first out all : BenchSeen) (id : TableId) (bs : List BenchSeen) (n : ℕ) → first.pass ≡ first_pass id → out ≡ has_out first n → all ≡ with_all out bs → length bs ≡ n → pass ≡ all.pass
    → pass ≡ record { table = id; first = true; lists = [] ∷ lists_in bs; out = 0 }
closes pass first out all id bs n begin made took count is =
    let whole : pass ≡ (with_all out bs).pass = is ∙ ap (λ (b : BenchSeen). b.pass) took in
    let had : out.pass ≡ record { table = id; first = true; lists = [] ∷ []; out = n } =
    ap (λ (b : BenchSeen). b.pass) made ∙ (ap (λ (q : PassSeen). record q { out = q.out + n }) begin ∙ ap (λ (k : ℕ). record { table = id; first = true; lists = [] ∷ []; out = k }) (omega arith)) in
    let table : pass.table ≡ id = ap (λ (q : PassSeen). q.table) whole ∙ (with-all-table out bs ∙ ap (λ (q : PassSeen). q.table) had) in
    let is_first : pass.first ≡ true = ap (λ (q : PassSeen). q.first) whole ∙ (with-all-first out bs ∙ ap (λ (q : PassSeen). q.first) had) in
    let lists : pass.lists ≡ [] ∷ lists_in bs = ap (λ (q : PassSeen). q.lists) whole ∙ (with-all-lists out bs ∙ ap (λ (q : PassSeen). q.lists ++ lists_in bs) had) in
    let none : pass.out ≡ 0 = ap (λ (q : PassSeen). q.out) whole ∙ with-all-out out bs (count ∙ sym (ap (λ (q : PassSeen). q.out) had)) in
    λ i. record { table = table i; first = is_first i; lists = lists i; out = none i }

pub all-have-run : (script : ScriptSeen) (m m' : Machine) (given : Given) (codes : List CodeSeen) (lists : List (List Call)) (states : List LpState) (first : BenchSeen) (lanes before after now : List (Lane LpState)) (kept : List (List Taken)) (words : List ℕ)
    → m ≡ script.machine → codes ≡ script.codes → lists ≡ script.calls → AreFirst m given codes 0 states lists → processors_of lanes ≡ states → All (λ a. bench_of a.bench ≡ new_bench first) lanes
    → before ≡ lanes → HaveRun (λ s. length s.lines.now == 0) Moves before after → length after ≡ length before → now ≡ after → m' ≡ m → kept ≡ [] ∷ lists_in (benches_of now) → MergesTo m' kept words
    → HaveAllRun (opening_of given script) given script.codes first lanes now words
all-have-run script m m' given codes lists states first lanes before after now kept words machine has calls begin same new were run count is machine' lists' closed = record {
  is_given = refl;
  coded = refl;
  begin = begins script m given codes lists states (processors_of lanes) machine has calls same begin;
  new = new;
  run = subst (λ (zs : List (Lane LpState)). HaveRun (λ s. length s.lines.now == 0) Moves lanes zs) (sym is) (subst (λ (zs : List (Lane LpState)). HaveRun (λ s. length s.lines.now == 0) Moves zs after) were run);
  count = ap length is ∙ (count ∙ ap length were);
  closed = subst (λ (x : List (List Taken)). MergesTo script.machine x words) lists' (subst (λ (x : Machine). MergesTo x kept words) (machine' ∙ machine) closed);
}
