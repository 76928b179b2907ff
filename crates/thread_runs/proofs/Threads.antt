-- What processors did in threads is a merge of their own lists.
use Rattle.std.proofs.Common.{◌≡◌, ◌≢◌, ◌⊎◌, inl, inr, refl, sym, ◌∙◌, ap, subst, ℕ, ◌<◌, ◌≤◌, ◌==◌, true, false, List, [], ◌∷◌, length, slice_index_or, arith}
use Rattle.std.proofs.lemmas.Bool.Decides.{eqb_tells}
use Rattle.std.proofs.lemmas.Bool.{cases_lt}
use Rattle.td_words.specs.Seen.{CodeSeen}
use Rattle.td_words.specs.declared.calls.GuestOp.{GuestOp}
use Rattle.flat_core.specs.Opening.{Opening}
use Rattle.flat_core.specs.Event.{calls_of}
use Rattle.flat_core.specs.Run.{run}
use Rattle.step_core.specs.declared.items.Taken.{Taken}
use Rattle.trace_table.specs.Benches.{BenchSeen}
use Rattle.trace_table.specs.Merges.{no_table}
use Rattle.trace_table.specs.Views.{grown_in}
use Rattle.leaf_engine.specs.declared.events.Event.{Event}
use Rattle.leaf_engine.specs.declared.needs.Place.{Place}
use Rattle.leaf_engine.specs.OwnLists.{Piece, WordLp, OwnTurns, LpTurns, taken_in, joined, first_lp}
use Rattle.leaf_engine.specs.Merges.{order}
use Rattle.merge_laws.specs.Merge.{Merge}
use Rattle.merge_laws.specs.Laws.{MergesAreRuns, IsShownBy, IsWhere}
use Rattle.leaf_table.specs.Given.{Given, given_in, given_of}
use Rattle.leaf_table.specs.Table.{code_in, place_table, leaf_table}
use Rattle.leaf_dispatch.specs.States.{seen_of, Moves}
use Rattle.leaf_table.specs.Laws.{CallsHaveLeaves}
use Rattle.leaf_dispatch.specs.declared.states.LpState.{LpState}
use Rattle.lp_threads.specs.declared.lanes.Lane.{Lane}
use Rattle.lp_threads.specs.Running.{TurnsLead}
use Rattle.thread_runs.specs.Threads.{RanInThread, ThreadsAreRuns}
use Rattle.thread_runs.proofs.Lifting.{Lifted, lift}

-- a turn of the leaves of a place, with what is given and these lists of operations
abbrev TurnsAt : Place → Given → List CodeSeen → LpState → Event → List Piece → LpState → Type 0
TurnsAt place given codes s e ps t = LpTurns (place_table place given (code_in codes)) place.machine (seen_of s) e ps (seen_of t)

-- the turns of a processor's state are turns over words
own-turns : (place : Place) (given : Given) (codes : List CodeSeen) (s t : LpState) (pss : List (List Piece)) → s.place ≡ place → given_in s.given ≡ given → s.codes.now ≡ codes → TurnsLead Moves s pss t
    → OwnTurns (place_table place given (code_in codes)) place.machine (seen_of s) pss (seen_of t)
own-turns place given codes s t [] at same has h = ap seen_of h
own-turns place given codes s t (ps ∷ pss) at same has h =
    let r = h.1.0 in
    let m = h.1.1 in
    let e : Event = m.3.event_is in (
      e,
      (
        seen_of r,
        subst (λ (z : Place). TurnsAt z given codes s e ps r) at
            (subst (λ (z : Given). TurnsAt s.place z codes s e ps r) same (subst (λ (cs : List CodeSeen). TurnsAt s.place (given_in s.given) cs s e ps r) has m.3.turns)),
        own-turns place given codes r t pss (m.0 ∙ at) (m.1 ∙ same) (m.2 ∙ has) h.1.2,
      ),
    )

no-lines : {A : Type 0} (xs : List A) → (length xs == 0) ≡ true → xs ≡ []
no-lines xs e = by (eqb_tells (length xs) 0)
  where
    empty : {B : Type 0} (ys : List B) → length ys ≡ 0 → ys ≡ []
    empty [] z = refl
    empty (y ∷ ys) z = absurd (omega (arith, z))

    by : (((length xs == 0) ≡ true) × (length xs ≡ 0)) ⊎ (((length xs == 0) ≡ false) × (length xs ≢ 0)) → xs ≡ []
    by (inl t) = empty xs t.1
    by (inr f) = (let no = f.0 in cc)

module _ (o : Opening) (p : ℕ) (xs : List Taken) (before after : Lane LpState) (ran : RanInThread o p xs before after) where
  abbrev turns : List (List Piece)
  turns = ran.run.turned.turns

  -- its list is of the items of its turns
  list-is : xs ≡ taken_in (joined turns)
  list-is =
      let both : xs ∷ [] ≡ taken_in (joined turns) ∷ [] =
      sym ran.list ∙ (ap (λ (z : BenchSeen). z.pass.lists) ran.run.turned.list ∙ ap (λ (z : List (List Taken)). grown_in z (taken_in (joined turns))) ran.no_item) in
      cc

  turns-are : OwnTurns (leaf_table o.machine (given_of o) o.codes p) o.machine (first_lp (calls_of o.calls p)) turns (seen_of after.processor)
  turns-are =
      subst (λ (z : WordLp). OwnTurns (leaf_table o.machine (given_of o) o.codes p) o.machine z turns (seen_of after.processor)) ran.first
      (subst (λ (z : Given). OwnTurns (leaf_table o.machine z o.codes p) o.machine (seen_of before.processor) turns (seen_of after.processor)) ran.given
      (subst (λ (z : ℕ → ℕ → List GuestOp). OwnTurns (leaf_table o.machine (given_in before.processor.given) z p) o.machine (seen_of before.processor) turns (seen_of after.processor)) ran.codes
      (own-turns (record { machine = o.machine; lp = p }) (given_in before.processor.given) before.processor.codes.now before.processor after.processor turns ran.place refl refl ran.run.turned.lead)))

  over : (seen_of after.processor).lines ≡ []
  over = no-lines after.processor.lines.now ran.run.ended

pub threads-run : CallsHaveLeaves → MergesAreRuns → ThreadsAreRuns
threads-run leaves merges o xss words number before after machine few codes ran closed = record {
  made = l.is;
  table = closed.table;
  theirs = λ p lt. ap taken_in (l.merge.each p lt) ∙ sym ((each-has p).1 lt).1;
  merge = merge;
  words_are = closed.words_are;
  shown = end.0;
  lps = end.1;
}
  where
    HasTurns : ℕ → List (List Piece) → Type 0
    HasTurns p pss =
        OwnTurns (leaf_table o.machine (given_of o) o.codes p) o.machine (first_lp (calls_of o.calls p)) pss (seen_of (after p).processor) × (slice_index_or xss (number p) [] ≡ taken_in (joined pss))

    turns-by : (p : ℕ) → (p < length o.calls) ⊎ (length o.calls ≤ p) → (pss : List (List Piece)) × (p < length o.calls → HasTurns p pss)
    turns-by p (inl lt) =
        let list : List Taken = slice_index_or xss (number p) [] in
        (turns o p list (before p) (after p) (ran.each p lt), λ lt'. (turns-are o p list (before p) (after p) (ran.each p lt), list-is o p list (before p) (after p) (ran.each p lt)))
    turns-by p (inr ge) = ([], λ lt. absurd (omega (arith, lt, ge)))

    each-has : (p : ℕ) → (pss : List (List Piece)) × (p < length o.calls → HasTurns p pss)
    each-has p = turns-by p (cases_lt p (length o.calls))

    l : Lifted (length o.calls) (λ p. joined (each-has p).0) no_table closed.table
    l =
        lift (length o.calls) number closed.made (λ p. joined (each-has p).0) no_table closed.table ran.apart (λ p lt. closed.merge (number p) ∙ ((each-has p).1 lt).1)
        (λ k out. closed.merge k ∙ ran.nothing_else k out) closed.plays

    merge : Merge o (leaf_table o.machine (given_of o) o.codes) l.is (λ p. seen_of (after p).processor) closed.table
    merge = record { own = λ p. (each-has p).0; turns = λ p lt. ((each-has p).1 lt).0; merge = l.merge; plays = l.plays }

    end : let s = run o (order l.is) in IsShownBy o.machine closed.table s × IsWhere o (λ p. seen_of (after p).processor) s
    end =
        merges.ended o (leaf_table o.machine (given_of o) o.codes) l.is (λ p. seen_of (after p).processor) closed.table few (leaves o (given_of o) o.codes machine (record { secrets = λ k. refl; bundles = λ slot. refl }) (λ t i. refl)) codes merge
        (λ p lt. over o p (slice_index_or xss (number p) []) (before p) (after p) (ran.each p lt))
