-- What a turn makes of bundles, and the room that it leaves.
use Rattle.std.proofs.Common.{◌≡◌, ◌∙◌, ℕ, suc, ◌+◌, ◌<◌, ◌≤◌, true, is_none, List, [], ◌∷◌, ◌++◌, length, take, get_or, Option, Some, None, refl, ap, sym, subst, arith}
use Rattle.std.specs.Global.{Vec}
use Rattle.std.proofs.lemmas.List.{append-nil}
use Rattle.std.proofs.Math.Seq.{take-suc}
use Rattle.report_core.specs.declared.facts.Facts.{Facts}
use Rattle.td_words.specs.declared.machines.Machine.{Machine}
use Rattle.td_words.specs.declared.calls.Call.{Call}
use Rattle.td_words.specs.declared.replies.Reply.{Reply}
use Rattle.flat_core.specs.World.{Made}
use Rattle.step_core.specs.declared.items.Taken.{Taken}
use Rattle.leaf_engine.specs.declared.needs.Place.{Place}
use Rattle.leaf_engine.specs.declared.events.Event.{Event}
use Rattle.leaf_engine.specs.declared.events.RunTurn.{RunTurn}
use Rattle.leaf_engine.specs.declared.events.Stage.{Stage}
use Rattle.leaf_engine.specs.declared.events.Stage.TheVariants as stages
use Rattle.leaf_engine.specs.Besides.{bundles_made, reported, facts_made}
use Rattle.leaf_engine.specs.Guests.{Step}
use Rattle.leaf_engine.specs.Means.{Task}
use Rattle.leaf_engine.specs.Turns.{Standing}
use Rattle.leaf_engine.specs.OwnLists.{running}
use Rattle.leaf_table.specs.Ends.{Ends, AreMade, call_makes, call_ends}
use Rattle.guest_turns.specs.Turns.{act_of, kept_after}
use Rattle.leaf_dispatch.specs.Guests.{facts_in, HasReported}
use Rattle.leaf_dispatch.specs.Inside.{line_then}
use Rattle.leaf_dispatch.specs.NoteRooms.{stage_room, run_room}
use Rattle.leaf_dispatch.specs.BundleRooms.{count_of, words_of, lines_make, still_make, payload_words}
use Rattle.leaf_dispatch.specs.Running.{standing_of, run_seen, made_in_run, facts_in_run, IsKept, HasTurned, IsAnsweredBy, IsAnswered}
use Rattle.leaf_dispatch.specs.ShortRuns.{seen_by}
use Rattle.leaf_dispatch.specs.CallRuns.{call_run_seen, CallTurned}
use Rattle.leaf_dispatch.specs.declared.call_runs.CallRun.{CallRun}
use Rattle.host_turns.specs.HostTurns.{standing_of as host_standing}
use Rattle.host_turns.specs.declared.runs.HostRun.{HostRun}
use Rattle.leaf_table.specs.Given.{Given}
use Rattle.leaf_table.specs.Table.{task_of}
use Rattle.leaf_dispatch.specs.declared.running.Running.{Running}
use Rattle.guest_turns.specs.declared.runs.LeafTurn.{LeafTurn}
use Rattle.leaf_table.proofs.NoBundles.{calls-quiet}
use Rattle.leaf_dispatch.proofs.Lowering.{Gives, turn-gives}
use Rattle.leaf_dispatch.proofs.Turning.{line-gives}

-- a way to count bundles: none are none, and those that a leaf makes are as few as it says
pub record Counts (size : Option ℕ → ℕ) (of : List Made → ℕ) : Type 0 where
  pub none : of [] ≡ 0
  pub few : (o : Option ℕ) (ms : List Made) → AreMade o ms → of ms ≤ size o

pub counts_bundles : Counts count_of length
counts_bundles = record { none = refl; few = by }
  where
    by : (o : Option ℕ) (ms : List Made) → AreMade o ms → length ms ≤ count_of o
    by None ms is = (let n = ap length is in omega (arith, n))
    by (Some n) [] is = omega arith
    by (Some n) (m ∷ []) is = omega arith
    by (Some n) (m ∷ k ∷ ms) is = absurd is

pub counts_words : Counts words_of payload_words
counts_words = record { none = refl; few = by }
  where
    by : (o : Option ℕ) (ms : List Made) → AreMade o ms → payload_words ms ≤ words_of o
    by None ms is = (let n = ap payload_words is in omega (arith, n))
    by (Some n) [] is = omega arith
    by (Some n) (m ∷ []) is = (let few : length m.payload ≤ n = is in omega (arith, few))
    by (Some n) (m ∷ k ∷ ms) is = absurd is

-- a leaf that makes none
pub makes-none : (o : Option ℕ) (ms : List Made) → o ≡ None → AreMade o ms → ms ≡ []
makes-none None ms none is = is
makes-none (Some n) ms none is = cc

-- a stage that is answered stays so, and has room for none
pub less-stage : (n : ℕ) (x y : Stage) → ((r : Reply) → x ≡ stages.Answered r → (z : Reply) × (y ≡ stages.Answered z)) → stage_room n y ≤ stage_room n x
less-stage n (stages.Answered r) y h = (let e = h r refl in subst (λ (z : Stage). stage_room n z ≤ 0) (sym e.1) (omega arith))
less-stage n stages.Trying y h = at-most y
  where
    at-most : (y : Stage) → stage_room n y ≤ n
    at-most (stages.Answered r) = omega arith
    at-most stages.Trying = omega arith
    at-most (stages.Undoing name at) = omega arith
less-stage n (stages.Undoing name at) y h = at-most y
  where
    at-most : (y : Stage) → stage_room n y ≤ n
    at-most (stages.Answered r) = omega arith
    at-most stages.Trying = omega arith
    at-most (stages.Undoing name at) = omega arith

-- the room of a run that may not have begun
pub room-before : (n : ℕ) (task : Task) (run : Option Standing) → stage_room n (running task run).stage ≡ run_room n run
room-before n task None = refl
room-before n task (Some s) = refl

-- and of calls before the first of them begins
pub makes-begun : (size : Option ℕ → ℕ) (cs : List Call) → still_make size cs None ≡ lines_make size cs
makes-begun size [] = refl
makes-begun size (c ∷ cs) = refl

-- what a turn makes leaves so much less room
module _ (size : Option ℕ → ℕ) (of : List Made → ℕ) (counts : Counts size of) where
  pub made-room : (e : Ends) (s s' : Standing) (ev : Event) → Gives e s s' ev → of (bundles_made ev s'.rest) + stage_room (size e.makes) s'.stage ≤ stage_room (size e.makes) s.stage
  made-room e s s' ev gives = by (act_of ev s'.stage) refl
    where
      by : (act : Option Reply) → act_of ev s'.stage ≡ act → of (bundles_made ev s'.rest) + stage_room (size e.makes) s'.stage ≤ stage_room (size e.makes) s.stage
      by None is =
          let zero : of (bundles_made ev s'.rest) ≡ 0 = ap of (gives.unmade is) ∙ counts.none in
          let less = less-stage (size e.makes) s.stage s'.stage gives.stays_answered in
          omega (arith, zero, less)
      by (Some r) is =
          let a = gives.act r is in
          let before : stage_room (size e.makes) s.stage ≡ size e.makes = ap (stage_room (size e.makes)) a.on in
          let after : stage_room (size e.makes) s'.stage ≡ 0 = ap (stage_room (size e.makes)) a.stage in
          let few = counts.few e.makes (bundles_made ev s'.rest) gives.made in
          omega (arith, before, after, few)

  -- of a run that is kept
  pub kept-room : {B : Type 0} (did : List Taken → B → Type 0) (bench : B) (m : Machine) (e : Ends) (s : Standing) (kept kept' : Option Running) (turn : RunTurn) → IsKept m e s kept → HasTurned did m kept bench kept' turn
      → of (made_in_run kept' turn.event) ≤ stage_room (size e.makes) s.stage
  kept-room did bench m e s None kept' turn k t = absurd k
  kept-room did bench m e s (Some r) None turn k t = absurd t
  kept-room did bench m e s (Some r) (Some r') turn k t =
      let gives = turn-gives m e (standing_of r) (standing_of r') t.0.0 turn.event k.1.few_tries k.1.fits k.1.oldest t.0.2.turn in
      let room = made-room e (standing_of r) (standing_of r') turn.event gives in
      subst (λ (z : Standing). of (made_in_run (Some r') turn.event) ≤ stage_room (size e.makes) z.stage) k.0 (omega (arith, room))

  -- of the present line's run
  module _ {B : Type 0} (did : List Taken → B → Type 0) (bench : B) (given : Given) (p : Place) (c : Call) (cs lines : List Call) (run : Option Standing) (kept : CallRun) (result : LeafTurn) (made : List Made) (is : lines ≡ c ∷ cs)
      (t : CallTurned did p.machine (call_ends p.machine c) (running (task_of given p c) run) bench kept result made) where
    room-used : of made + stage_room (size (call_makes c)) t.stands.stage ≤ run_room (size (call_makes c)) run
    room-used =
        let room = made-room (call_ends p.machine c) (running (task_of given p c) run) t.stands result.event (line-gives did bench p.machine (call_ends p.machine c) (running (task_of given p c) run) result made t) in
        let same : of made ≡ of (bundles_made result.event t.stands.rest) = ap of t.made_is in
        let before = room-before (size (call_makes c)) (task_of given p c) run in
        omega (arith, room, same, before)

    pub line-room : result.reply ≡ None → of made + still_make size lines (call_run_seen kept) ≤ still_make size lines run
    line-room none =
        let seen : call_run_seen kept ≡ Some t.stands = t.seen ∙ ap (λ (z : Option Reply). kept_after z t.stands) none in
        let used = room-used in
        subst (λ (ls : List Call). of made + still_make size ls (call_run_seen kept) ≤ still_make size ls run) (sym is)
        (subst (λ (z : Option Standing). of made + still_make size (c ∷ cs) z ≤ still_make size (c ∷ cs) run) (sym seen) (omega (arith, used)))

    pub ended-room : (z : Reply) → result.reply ≡ Some z → of made + still_make size cs (call_run_seen kept) ≤ still_make size lines run
    ended-room z some =
        let seen : call_run_seen kept ≡ None = t.seen ∙ ap (λ (x : Option Reply). kept_after x t.stands) some in
        let used = room-used in
        let begun = makes-begun size cs in
        subst (λ (ls : List Call). of made + still_make size cs (call_run_seen kept) ≤ still_make size ls run) (sym is)
        (subst (λ (x : Option Standing). of made + still_make size cs x ≤ still_make size (c ∷ cs) run) (sym seen) (omega (arith, used, begun)))

  -- of a call's run that is kept, which may have begun with this turn
  pub call-room : {B : Type 0} (did : List Taken → B → Type 0) (bench : B) (m : Machine) (given : Given) (p : Place) (c : Call) (run : Option Standing) (kept kept' : Option Running) (turn : RunTurn) → p.machine ≡ m
      → IsKept p.machine (call_ends p.machine c) (running (task_of given p c) run) kept → HasTurned did m kept bench kept' turn → of (made_in_run kept' turn.event) ≤ run_room (size (call_makes c)) run
  call-room did bench m given p c run kept kept' turn at k t =
      let room = kept-room did bench m (call_ends p.machine c) (running (task_of given p c) run) kept kept' turn (subst (λ (z : Machine). IsKept z (call_ends p.machine c) (running (task_of given p c) run) kept) at k) t in
      let before = room-before (size (call_makes c)) (task_of given p c) run in
      omega (arith, room, before)

-- nothing is reported
pub none-reported : (v : Vec Facts) → HasReported v None v
none-reported v = record { kept = sym (append-nil v.items); room = omega arith }

-- the facts of a turn leave so much less room
pub facts-room : (e : Ends) (s s' : Standing) (ev : Event) → ((r : Reply) → reported (e.answer r).notes ≡ None) → Gives e s s' ev
    → length (facts_in (facts_made ev s'.rest)) + stage_room (count_of e.reports) s'.stage ≤ stage_room (count_of e.reports) s.stage
facts-room e s s' ev plain gives = by (act_of ev s'.stage) refl
  where
    at-most : (f : Option Facts) → length (facts_in f) ≤ 1
    at-most None = omega arith
    at-most (Some f) = omega arith

    few : (line : Option ℕ) → e.reports ≡ line → length (facts_in (facts_made ev s'.rest)) ≤ count_of line
    few None is = (let none = ap (λ (f : Option Facts). length (facts_in f)) (gives.quiet (is, plain)) in omega (arith, none))
    few (Some line) is = at-most (facts_made ev s'.rest)

    by : (act : Option Reply) → act_of ev s'.stage ≡ act → length (facts_in (facts_made ev s'.rest)) + stage_room (count_of e.reports) s'.stage ≤ stage_room (count_of e.reports) s.stage
    by None is =
        let zero = ap (λ (f : Option Facts). length (facts_in f)) (gives.unreported is) in
        let less = less-stage (count_of e.reports) s.stage s'.stage gives.stays_answered in
        omega (arith, zero, less)
    by (Some r) is =
        let a = gives.act r is in
        let before : stage_room (count_of e.reports) s.stage ≡ count_of e.reports = ap (stage_room (count_of e.reports)) a.on in
        let after : stage_room (count_of e.reports) s'.stage ≡ 0 = ap (stage_room (count_of e.reports)) a.stage in
        let most = few e.reports refl in
        omega (arith, before, after, most)

-- of a step's run that is kept, which may have begun with this turn
pub step-facts : {B : Type 0} (did : List Taken → B → Type 0) (bench : B) (m : Machine) (e : Ends) (task : Task) (run : Option Standing) (kept kept' : Option Running) (turn : RunTurn) → ((r : Reply) → reported (e.answer r).notes ≡ None)
    → IsKept m e (running task run) kept → HasTurned did m kept bench kept' turn → length (facts_in (facts_in_run kept' turn.event)) ≤ run_room (count_of e.reports) run
step-facts did bench m e task run None kept' turn plain k t = absurd k
step-facts did bench m e task run (Some r) None turn plain k t = absurd t
step-facts did bench m e task run (Some r) (Some r') turn plain k t =
    let gives = turn-gives m e (standing_of r) (standing_of r') t.0.0 turn.event k.1.few_tries k.1.fits k.1.oldest t.0.2.turn in
    let room = facts-room e (standing_of r) (standing_of r') turn.event plain gives in
    let at : stage_room (count_of e.reports) (standing_of r).stage ≡ run_room (count_of e.reports) run = ap (λ (z : Standing). stage_room (count_of e.reports) z.stage) k.0 ∙ room-before (count_of e.reports) task run in
    omega (arith, room, at)

-- and of a call's, which reports nothing
pub call-facts : {B : Type 0} (did : List Taken → B → Type 0) (bench : B) (m : Machine) (given : Given) (p : Place) (c : Call) (s : Standing) (kept kept' : Option Running) (turn : RunTurn)
    → IsKept m (call_ends p.machine c) s kept → HasTurned did m kept bench kept' turn → None ≡ facts_in_run kept' turn.event
call-facts did bench m given p c s None kept' turn k t = absurd k
call-facts did bench m given p c s (Some r) None turn k t = absurd t
call-facts did bench m given p c s (Some r) (Some r') turn k t =
    sym ((turn-gives m (call_ends p.machine c) (standing_of r) (standing_of r') t.0.0 turn.event k.1.few_tries k.1.fits k.1.oldest t.0.2.turn).quiet (calls-quiet p c))

-- the first line's own room
pub first-room : (size : Option ℕ → ℕ) (c : Call) (cs lines : List Call) (run : Option Standing) (n : ℕ) → lines ≡ c ∷ cs → still_make size lines run ≤ n → run_room (size (call_makes c)) run ≤ n
first-room size c cs lines run n is room =
    let first : still_make size (c ∷ cs) run ≤ n = subst (λ (ls : List Call). still_make size ls run ≤ n) is room in
    omega (arith, first)

-- an exit leaves the room
answered-room : (n : ℕ) (x : Stage) → IsAnsweredBy x → stage_room n x ≡ 0
answered-room n (stages.Answered r) is = refl
answered-room n stages.Trying is = absurd is
answered-room n (stages.Undoing name at) is = absurd is

exit-none : (size : Option ℕ → ℕ) (lines : List Call) (run run' : Option Running) (s : Step) (reply : Option Reply) → run_seen run' ≡ line_then s reply (run_seen run) → IsAnswered run' → still_make size lines (run_seen run') ≤ still_make size lines (run_seen run)
exit-none size [] run run' s reply seen answered = omega arith
exit-none size (c ∷ cs) run None s None seen answered = rw (sym seen) (omega arith)
exit-none size (c ∷ cs) None None s (Some x) seen answered = omega arith
exit-none size (c ∷ cs) (Some r) None s (Some x) seen answered = cc
exit-none size (c ∷ cs) run (Some r') s reply seen answered = (let none = answered-room (size (call_makes c)) r'.run.stage answered in omega (arith, none))

pub exit-room : (size : Option ℕ → ℕ) (lines : List Call) (host : Option HostRun) (run run' : Option Running) (s : Step) (reply : Option Reply) → is_none host ≡ true → run_seen run' ≡ line_then s reply (run_seen run) → IsAnswered run'
    → still_make size lines (seen_by host_standing host run') ≤ still_make size lines (seen_by host_standing host run)
exit-room size lines None run run' s reply alone seen answered = exit-none size lines run run' s reply seen answered
exit-room size lines (Some h) run run' s reply alone seen answered = cc

-- a leaf that makes none has made none with a turn
pub step-made : {B : Type 0} (did : List Taken → B → Type 0) (bench : B) (m : Machine) (e : Ends) (s : Standing) (kept kept' : Option Running) (turn : RunTurn) → e.makes ≡ None → IsKept m e s kept → HasTurned did m kept bench kept' turn → [] ≡ made_in_run kept' turn.event
step-made did bench m e s None kept' turn none k t = absurd k
step-made did bench m e s (Some r) None turn none k t = absurd t
step-made did bench m e s (Some r) (Some r') turn none k t =
    let gives = turn-gives m e (standing_of r) (standing_of r') t.0.0 turn.event k.1.few_tries k.1.fits k.1.oldest t.0.2.turn in
    sym (makes-none e.makes (bundles_made turn.event (standing_of r').rest) none gives.made)

-- calls one after another
make-behind : (size : Option ℕ → ℕ) (cs : List Call) (c : Call) → lines_make size (cs ++ c ∷ []) ≡ lines_make size cs + size (call_makes c)
make-behind size [] c = omega arith
make-behind size (x ∷ cs) c = (let rest = make-behind size cs c in omega (arith, rest))

pub make-more : (size : Option ℕ → ℕ) (i room more : ℕ) (cs : List Call) (d : Call) → i < length cs → room ≡ lines_make size (take i cs) → more ≡ room + size (call_makes (get_or cs i d)) → more ≡ lines_make size (take (i + 1) cs)
make-more size i room more cs d inside before is =
    let next : i + 1 ≡ suc i = omega arith in
    let same : lines_make size (take (i + 1) cs) ≡ lines_make size (take i cs) + size (call_makes (get_or cs i d)) =
    ap (λ (k : ℕ). lines_make size (take k cs)) next ∙ (ap (lines_make size) (take-suc cs i d inside) ∙ make-behind size (take i cs) (get_or cs i d)) in
    omega (arith, before, is, same)
