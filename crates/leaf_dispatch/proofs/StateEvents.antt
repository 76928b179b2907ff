-- An event of a logical processor with its calls and its guest, as it keeps them.
use Rattle.std.proofs.Common.{◌≡◌, ◌∙◌, ℕ, ◌+◌, ◌<◌, ◌≤◌, true, false, List, [], ◌∷◌, ◌++◌, length, Option, Some, None, option_map, is_none, is_some, IfSome, refl, ap, sym, subst, arith}
use Rattle.report_core.specs.declared.facts.Facts.{Facts}
use Rattle.td_words.specs.Seen.{CodeSeen}
use Rattle.td_words.specs.declared.machines.Machine.{Machine}
use Rattle.td_words.specs.declared.calls.Call.{Call}
use Rattle.td_words.specs.declared.replies.Reply.{Reply}
use Rattle.flat_core.specs.World.{Made}
use Rattle.flat_core.specs.Processor.{Translation, Note}
use Rattle.step_core.specs.declared.items.Taken.{Taken}
use Rattle.leaf_engine.specs.declared.needs.Place.{Place}
use Rattle.leaf_engine.specs.Trees.{added}
use Rattle.leaf_engine.specs.Guests.{WordGuest, Step, gives_epoch_back}
use Rattle.leaf_engine.specs.Merges.{IsStepOf}
use Rattle.leaf_engine.specs.Turns.{Standing}
use Rattle.leaf_engine.specs.OwnLists.{TurnsInPieces, WordLp, running, after_turn}
use Rattle.leaf_table.specs.Ends.{call_answer, call_ends, step_answer, step_reports, step_ends}
use Rattle.guest_turns.specs.Turns.{kept_after}
use Rattle.leaf_dispatch.specs.Answers.{answer_with, guest_by, cached_by, notes_by, tells_by}
use Rattle.leaf_dispatch.specs.Guests.{guest_seen, facts_in, next_in, IsLow, CanCount, IsNextGuest}
use Rattle.leaf_dispatch.specs.Inside.{guest_in, acting, entered_or, line_then, KeepsGuest}
use Rattle.leaf_dispatch.specs.BundleRooms.{count_of}
use Rattle.leaf_dispatch.specs.NoteRooms.{longest_in, run_room, room_of, most_reports, reports_of}
use Rattle.leaf_dispatch.specs.Running.{standing_of, run_seen, IsAnswered}
use Rattle.leaf_dispatch.specs.CallRuns.{call_run_seen, CallTurned}
use Rattle.leaf_dispatch.specs.ShortRuns.{seen_by}
use Rattle.leaf_table.specs.Given.{Given}
use Rattle.leaf_table.specs.Table.{code_in, task_of, step_task}
use Rattle.leaf_dispatch.specs.StepRuns.{step_run_seen, StepTurned}
use Rattle.leaf_dispatch.specs.declared.step_runs.StepRun.{StepRun}
use Rattle.leaf_dispatch.specs.declared.call_runs.CallRun.{CallRun}
use Rattle.host_turns.specs.HostTurns.{standing_of as host_standing}
use Rattle.host_turns.specs.declared.runs.HostRun.{HostRun}
use Rattle.leaf_dispatch.specs.declared.guests.GuestAt.{GuestAt}
use Rattle.leaf_dispatch.specs.declared.running.Running.{Running}
use Rattle.guest_turns.specs.declared.runs.LeafTurn.{LeafTurn}
use Rattle.leaf_dispatch.specs.Exits.{IsCounted}
use Rattle.leaf_dispatch.specs.Shown.{event_as}
use Rattle.trace_laws.specs.Told.{step_told, event_told}
use Rattle.leaf_dispatch.proofs.Turning.{Moved}
use Rattle.leaf_dispatch.proofs.ShortRuns.{none-is}
use Rattle.leaf_dispatch.proofs.LineEvents.{gives-back, outside-moves, outside-room, outside-reports, outside-keeps, acts-once, inside-moves, inside-room, inside-reports, inside-keeps}
use Rattle.leaf_dispatch.proofs.GuestEvents.{guest-alone, MakesNone, Acts, acts-in, guest-moved, guest-fits, guest-reports, guest-keeps, kept-of}
use Rattle.leaf_dispatch.proofs.FactRooms.{step-among}

module _ (p : Place) (given : Given) (codes : List CodeSeen) (c : Call) (cs : List Call) (ts us : List Translation) (rs : List Reply) (notes : List Note) (told : List ℕ) (ms ns : List Made) where
  -- where it is, by the parts that an event changes
  abbrev pub at : List Call → Option Standing → Option WordGuest → List Reply → List Translation → List Made → WordLp
  at lines run g replies xs bundles = record { lines = lines; run = run; guest = g; replies = replies; beside = record { cached = xs; notes = notes; told = told; bundles = bundles } }

  module _ {B : Type 0} (did : List Taken → B → Type 0) (bench : B) (kept : CallRun) (result : LeafTurn) (made : List Made) where
    -- of a line that goes on, and of one that has its reply: the event, what is kept of the guest, and the room
    pub record GoesOn (then-guest : Option GuestAt) (lines : List Call) (guest : Option GuestAt) (host : Option HostRun) (run : Option Running) (step : StepRun) : Type 0 where
      pub moved : Moved given (code_in codes) did bench p (at lines (seen_by host_standing host run) (guest_in guest step) rs ts ms) (at lines (call_run_seen kept) (guest_in then-guest step) rs us ns) result.event result.event
      pub keeps : KeepsGuest p.machine codes us (length rs + 1) then-guest kept.other step
      pub room : (longest : ℕ) → room_of longest lines (call_run_seen kept) (guest_in then-guest step) ≤ room_of longest lines (seen_by host_standing host run) (guest_in guest step)
      pub reports : reports_of (most_reports codes) (code_in codes) lines (call_run_seen kept) (guest_in then-guest step) ≤ reports_of (most_reports codes) (code_in codes) lines (seen_by host_standing host run) (guest_in guest step)

    pub record HasEnded (replies : List Reply) (lines : List Call) (guest : Option GuestAt) (host : Option HostRun) (run : Option Running) (step : StepRun) : Type 0 where
      pub moved : Moved given (code_in codes) did bench p (at lines (seen_by host_standing host run) (guest_in guest step) rs ts ms) (at cs (call_run_seen kept) None replies us ns) result.event result.event
      pub room : (longest : ℕ) → room_of longest cs (call_run_seen kept) None ≤ room_of longest lines (seen_by host_standing host run) (guest_in guest step)
      pub reports : reports_of (most_reports codes) (code_in codes) cs (call_run_seen kept) None ≤ reports_of (most_reports codes) (code_in codes) lines (seen_by host_standing host run) (guest_in guest step)

    module _ (law : TurnsInPieces) (ent : Option GuestAt) (lines : List Call) (guest : Option GuestAt) (host : Option HostRun) (run : Option Running) (step : StepRun) (is : lines ≡ c ∷ cs)
        (own : acting guest run ≡ None) (keeps : KeepsGuest p.machine codes ts (length rs + 1) guest run step) (alone : is_some run ≡ true → is_none host ≡ true) (stays : is_some run ≡ true → is_none kept.host ≡ true)
        (t : CallTurned did p.machine (call_ends p.machine c) (running (task_of given p c) (seen_by host_standing host run)) bench kept result made) (cached : us ≡ cached_by (call_answer c) result.act ts) (adds : ns ≡ added ms made)
        (entered : option_map (λ (g : GuestAt). guest_seen g None) ent ≡ guest_by (call_answer c) result.act None)
        (inside : IfSome ent (λ g. (g.tdr < p.machine.pages) × (g.vp < p.machine.pages) × (code_in codes g.tdr g.index ≡ g.list.now) × IsLow g.walk)) where
      -- a line that goes on

      goes-on : result.reply ≡ None → GoesOn (entered_or ent guest) lines guest host run step
      goes-on none = subst (λ (ls : List Call). GoesOn (entered_or ent guest) ls guest host run step) (sym is) (by guest host run step own keeps alone stays t)
        where
          then-is : (t : Standing) → call_run_seen kept ≡ kept_after result.reply t → (g : Option WordGuest) → after_turn c cs g rs (record { cached = us; notes = notes; told = told; bundles = ns }) t result.reply ≡ at (c ∷ cs) (call_run_seen kept) g rs us ns
          then-is t seen g =
              ap (after_turn c cs g rs (record { cached = us; notes = notes; told = told; bundles = ns }) t) none
              ∙ ap (λ (run : Option Standing). at (c ∷ cs) run g rs us ns) (sym (seen ∙ ap (λ (z : Option Reply). kept_after z t) none))

          outside : (host : Option HostRun) (run : Option Running) (step : StepRun) → is_none (step_run_seen step) ≡ true → (t : CallTurned did p.machine (call_ends p.machine c) (running (task_of given p c) (seen_by host_standing host run)) bench kept result made) → GoesOn (entered_or ent None) (c ∷ cs) None host run step
          outside host run step nothing t =
              let seen : guest_in (entered_or ent None) step ≡ option_map (λ (g : GuestAt). guest_seen g None) ent = guest-alone (entered_or ent None) step (none-is (step_run_seen step) nothing) ∙ nobody-else ent in
              let same = then-is t.stands t.seen (guest_in (entered_or ent None) step) in
              record {
                moved = subst (λ (q : WordLp). Moved given (code_in codes) did bench p (at (c ∷ cs) (seen_by host_standing host run) None rs ts ms) q result.event result.event) same
                    (outside-moves p given codes c cs ts us rs notes told ms ns did bench kept result made cached adds (seen_by host_standing host run) t law (guest_in (entered_or ent None) step) (seen ∙ entered));
                keeps = outside-keeps p given codes c cs ts us rs notes told ms ns did bench kept result made cached adds (seen_by host_standing host run) t ent entered inside none step nothing;
                room = λ longest. subst (λ (q : WordLp). room_of longest q.lines q.run q.guest ≤ room_of longest (c ∷ cs) (seen_by host_standing host run) None) same
                    (outside-room p given codes c cs ts us rs notes told ms ns did bench kept result made cached adds (seen_by host_standing host run) t longest (guest_in (entered_or ent None) step) (seen ∙ entered) result.reply);
                reports = subst (λ (q : WordLp). reports_of (most_reports codes) (code_in codes) q.lines q.run q.guest ≤ reports_of (most_reports codes) (code_in codes) (c ∷ cs) (seen_by host_standing host run) None) same
                    (outside-reports p given codes c cs ts us rs notes told ms ns did bench kept result made cached adds (seen_by host_standing host run) t (guest_in (entered_or ent None) step) (seen ∙ entered) result.reply);
              }
            where
              nobody-else : (ent : Option GuestAt) → option_map (λ (g : GuestAt). guest_seen g None) (entered_or ent None) ≡ option_map (λ (g : GuestAt). guest_seen g None) ent
              nobody-else None = refl
              nobody-else (Some g) = refl

          nobody : (ent : Option GuestAt) → option_map (λ (g : GuestAt). guest_seen g None) ent ≡ None → ent ≡ None
          nobody None e = refl
          nobody (Some g) e = cc

          by : (guest : Option GuestAt) (host : Option HostRun) (run : Option Running) (step : StepRun) → acting guest run ≡ None → KeepsGuest p.machine codes ts (length rs + 1) guest run step → (is_some run ≡ true → is_none host ≡ true) → (is_some run ≡ true → is_none kept.host ≡ true)
              → CallTurned did p.machine (call_ends p.machine c) (running (task_of given p c) (seen_by host_standing host run)) bench kept result made → GoesOn (entered_or ent guest) (c ∷ cs) guest host run step
          by None host run step own keeps alone stays t = outside host run step keeps t
          by (Some g) host None step own keeps alone stays t = absurd keeps
          by (Some g) (Some k) (Some r) step own keeps alone stays t = (let no : false ≡ true = alone refl in cc)
          by (Some g) None (Some r) step own keeps alone stays t =
              let x : WordGuest = guest_seen g (step_run_seen step) in
              let acts = acts-once p given codes c cs ts us rs notes told ms ns did bench kept result made cached adds r x keeps.0 t in
              let no : ent ≡ None = nobody ent (entered ∙ ap (λ (a : Option Reply). guest_by (call_answer c) a None) acts) in
              let same = then-is t.stands t.seen (Some x) in
              let goes : GoesOn (Some g) (c ∷ cs) (Some g) None (Some r) step =
              record {
                moved = subst (λ (q : WordLp). Moved given (code_in codes) did bench p (at (c ∷ cs) (Some (standing_of r)) (Some x) rs ts ms) q result.event result.event) same
                    (inside-moves p given codes c cs ts us rs notes told ms ns did bench kept result made cached adds r x keeps.0 t law (gives-back (gives_epoch_back r.run.held.items) g own));
                keeps = inside-keeps p given codes c cs ts us rs notes told ms ns did bench kept result made cached adds r x keeps.0 t g step (stays refl) keeps.1 none;
                room = λ longest. subst (λ (q : WordLp). room_of longest q.lines q.run q.guest ≤ room_of longest (c ∷ cs) (Some (standing_of r)) (Some x)) same
                    (inside-room p given codes c cs ts us rs notes told ms ns did bench kept result made cached adds r x keeps.0 t longest result.reply);
                reports = subst (λ (q : WordLp). reports_of (most_reports codes) (code_in codes) q.lines q.run q.guest ≤ reports_of (most_reports codes) (code_in codes) (c ∷ cs) (Some (standing_of r)) (Some x)) same
                    (inside-reports p given codes c cs ts us rs notes told ms ns did bench kept result made cached adds r x keeps.0 t (most_reports codes) result.reply);
              } in
              subst (λ (e : Option GuestAt). GoesOn (entered_or e (Some g)) (c ∷ cs) (Some g) None (Some r) step) (sym no) goes

      pub line-goes-on : (then-guest : Option GuestAt) → then-guest ≡ entered_or ent guest → result.reply ≡ None → GoesOn then-guest lines guest host run step
      line-goes-on then-guest same none = subst (λ (g : Option GuestAt). GoesOn g lines guest host run step) (sym same) (goes-on none)

      -- and one that has its reply

      has-ended : (z : Reply) → result.reply ≡ Some z → HasEnded (rs ++ z ∷ []) lines guest host run step
      has-ended z some = subst (λ (ls : List Call). HasEnded (rs ++ z ∷ []) ls guest host run step) (sym is) (by guest host run step own keeps alone stays t)
        where
          then-is : (t : Standing) → call_run_seen kept ≡ kept_after result.reply t → (g : Option WordGuest) → after_turn c cs g rs (record { cached = us; notes = notes; told = told; bundles = ns }) t result.reply ≡ at cs (call_run_seen kept) None (rs ++ z ∷ []) us ns
          then-is t seen g =
              ap (after_turn c cs g rs (record { cached = us; notes = notes; told = told; bundles = ns }) t) some
              ∙ ap (λ (run : Option Standing). at cs run None (rs ++ z ∷ []) us ns) (sym (seen ∙ ap (λ (z : Option Reply). kept_after z t) some))

          outside : (host : Option HostRun) (run : Option Running) (step : StepRun) → is_none (step_run_seen step) ≡ true → (t : CallTurned did p.machine (call_ends p.machine c) (running (task_of given p c) (seen_by host_standing host run)) bench kept result made) → HasEnded (rs ++ z ∷ []) (c ∷ cs) None host run step
          outside host run step nothing t =
              let G = guest_by (call_answer c) result.act None in
              let same = then-is t.stands t.seen G in
              record {
                moved = subst (λ (q : WordLp). Moved given (code_in codes) did bench p (at (c ∷ cs) (seen_by host_standing host run) None rs ts ms) q result.event result.event) same
                    (outside-moves p given codes c cs ts us rs notes told ms ns did bench kept result made cached adds (seen_by host_standing host run) t law G refl);
                room = λ longest. subst (λ (q : WordLp). room_of longest q.lines q.run q.guest ≤ room_of longest (c ∷ cs) (seen_by host_standing host run) None) same
                    (outside-room p given codes c cs ts us rs notes told ms ns did bench kept result made cached adds (seen_by host_standing host run) t longest G refl result.reply);
                reports = subst (λ (q : WordLp). reports_of (most_reports codes) (code_in codes) q.lines q.run q.guest ≤ reports_of (most_reports codes) (code_in codes) (c ∷ cs) (seen_by host_standing host run) None) same
                    (outside-reports p given codes c cs ts us rs notes told ms ns did bench kept result made cached adds (seen_by host_standing host run) t G refl result.reply);
              }

          by : (guest : Option GuestAt) (host : Option HostRun) (run : Option Running) (step : StepRun) → acting guest run ≡ None → KeepsGuest p.machine codes ts (length rs + 1) guest run step → (is_some run ≡ true → is_none host ≡ true) → (is_some run ≡ true → is_none kept.host ≡ true)
              → CallTurned did p.machine (call_ends p.machine c) (running (task_of given p c) (seen_by host_standing host run)) bench kept result made → HasEnded (rs ++ z ∷ []) (c ∷ cs) guest host run step
          by None host run step own keeps alone stays t = outside host run step keeps t
          by (Some g) host None step own keeps alone stays t = absurd keeps
          by (Some g) (Some k) (Some r) step own keeps alone stays t = (let no : false ≡ true = alone refl in cc)
          by (Some g) None (Some r) step own keeps alone stays t =
              let x : WordGuest = guest_seen g (step_run_seen step) in
              let same = then-is t.stands t.seen (Some x) in
              record {
                moved = subst (λ (q : WordLp). Moved given (code_in codes) did bench p (at (c ∷ cs) (Some (standing_of r)) (Some x) rs ts ms) q result.event result.event) same
                    (inside-moves p given codes c cs ts us rs notes told ms ns did bench kept result made cached adds r x keeps.0 t law (gives-back (gives_epoch_back r.run.held.items) g own));
                room = λ longest. subst (λ (q : WordLp). room_of longest q.lines q.run q.guest ≤ room_of longest (c ∷ cs) (Some (standing_of r)) (Some x)) same
                    (inside-room p given codes c cs ts us rs notes told ms ns did bench kept result made cached adds r x keeps.0 t longest result.reply);
                reports = subst (λ (q : WordLp). reports_of (most_reports codes) (code_in codes) q.lines q.run q.guest ≤ reports_of (most_reports codes) (code_in codes) (c ∷ cs) (Some (standing_of r)) (Some x)) same
                    (inside-reports p given codes c cs ts us rs notes told ms ns did bench kept result made cached adds r x keeps.0 t (most_reports codes) result.reply);
              }

      pub line-has-ended : (z : Reply) (replies : List Reply) → result.reply ≡ Some z → replies ≡ rs ++ z ∷ [] → HasEnded replies lines guest host run step
      line-has-ended z replies some more = subst (λ (zs : List Reply). HasEnded zs lines guest host run step) (sym more) (has-ended z some)

-- before an event of the guest: what its next step can report is among what its guests can
pub guest-asks : (m : Machine) (codes : List CodeSeen) (ts : List Translation) (n : ℕ) (g : GuestAt) (step : StepRun) (lines : List Call) (guest : Option GuestAt) (host : Option HostRun) (run : Option Running) → is_none host ≡ true → 0 < length lines → acting guest run ≡ Some g → KeepsGuest m codes ts n guest run step
    → (line : ℕ) → run_room (count_of (step_reports line (next_in ts g None))) (step_run_seen step) ≤ reports_of (most_reports codes) (code_in codes) lines (seen_by host_standing host run) (guest_in guest step)
guest-asks m codes ts n g step [] guest host run alone some acts keeps line = absurd (omega (arith, some))
guest-asks m codes ts n g step (c ∷ cs) guest (Some k) run alone some acts keeps line = cc
guest-asks m codes ts n g step (c ∷ cs) guest None run alone some acts keeps line =
    let a : Acts g guest run = acts-in guest run g acts in
    let inside = kept-of m codes ts n guest run g step acts keeps in
    let among = step-among (code_in codes) line ts g (step_run_seen step) inside.list in
    subst (λ (y : Option GuestAt). run_room (count_of (step_reports line (next_in ts g None))) (step_run_seen step) ≤ reports_of (most_reports codes) (code_in codes) (c ∷ cs) (run_seen run) (guest_in y step)) (sym a.guest_is) (omega (arith, among))

-- an event of the guest

module _ (p : Place) (given : Given) (codes : List CodeSeen) (rs : List Reply) (told : List ℕ) (notes : List Note) (ts : List Translation) (ms : List Made) where
  abbrev pub inside : List Call → Option Standing → Option WordGuest → List Translation → List Note → List ℕ → WordLp
  inside lines run g xs ns words = record { lines = lines; run = run; guest = g; replies = rs; beside = record { cached = xs; notes = ns; told = words; bundles = ms } }

  module _ {B : Type 0} (did : List Taken → B → Type 0) (bench : B) (kept : StepRun) (result : LeafTurn) (us : List Translation) (s : Step) (g : GuestAt) (h : Option GuestAt) (step : StepRun) (parity : ℕ) (facts : Option Facts) where
    -- the turn of its step at a line
    pub record StepsAt (line : ℕ) : Type 0 where
      pub counts : CanCount g s
      pub low : IsStepOf s
      pub is : next_in ts g None ≡ s
      pub turned : StepTurned did p.machine (step_ends g.tdr line s) (running (step_task given p g.tdr g.vp line s) (step_run_seen step)) bench kept result facts
      pub counted : IsCounted s parity turned.turned.0
      pub cached : us ≡ cached_by (step_answer g.tdr line s) result.act ts
      pub next : IsNextGuest g s result.reply h

    abbrev at_line : ℕ
    at_line = length rs + 1

    -- there is room for what it notes, and for what it tells
    pub guest-room : (lines : List Call) (guest : Option GuestAt) (host : Option HostRun) (run : Option Running) → is_none host ≡ true → (n : ℕ) → n ≡ length rs + 1 → StepsAt n → 0 < length lines → acting guest run ≡ Some g → KeepsGuest p.machine codes ts (length rs + 1) guest run step
        → (made : ℕ) → made ≤ 1 → (result.act ≡ None → made ≡ 0) → MakesNone s made → made ≤ room_of (longest_in codes) lines (seen_by host_standing host run) (guest_in guest step)
    guest-room [] guest host run alone n same at some acts keeps made few none makes = absurd (omega (arith, some))
    guest-room (c ∷ cs) guest (Some k) run alone n same at some acts keeps made few none makes = cc
    guest-room (c ∷ cs) guest None run alone n same at some acts keeps made few none makes =
        let t = subst StepsAt same at in
        let a : Acts g guest run = acts-in guest run g acts in
        let inside = kept-of p.machine codes ts at_line guest run g step acts keeps in
        let fits = guest-fits p given codes c cs a.line g step ts us rs notes told ms did bench kept result s h facts t.is inside t.counts t.low t.turned t.cached t.next (longest_in codes) made refl few none makes in
        let less : made ≤ room_of (longest_in codes) (c ∷ cs) (Some (standing_of a.line)) (guest_in (Some g) step) = omega (arith, fits) in
        subst (λ (y : Option GuestAt). made ≤ room_of (longest_in codes) (c ∷ cs) (run_seen run) (guest_in y step)) (sym a.guest_is)
        (subst (λ (k : Option Running). made ≤ room_of (longest_in codes) (c ∷ cs) (run_seen k) (guest_in (Some g) step)) (sym a.run_is) less)

    -- and for the facts that it reports
    pub guest-facts : (lines : List Call) (guest : Option GuestAt) (host : Option HostRun) (run : Option Running) → is_none host ≡ true → (n : ℕ) → n ≡ length rs + 1 → StepsAt n → 0 < length lines → acting guest run ≡ Some g → KeepsGuest p.machine codes ts (length rs + 1) guest run step
        → length (facts_in facts) ≤ reports_of (most_reports codes) (code_in codes) lines (seen_by host_standing host run) (guest_in guest step)
    guest-facts [] guest host run alone n same at some acts keeps = absurd (omega (arith, some))
    guest-facts (c ∷ cs) guest (Some k) run alone n same at some acts keeps = cc
    guest-facts (c ∷ cs) guest None run alone n same at some acts keeps =
        let t = subst StepsAt same at in
        let a : Acts g guest run = acts-in guest run g acts in
        let inside = kept-of p.machine codes ts at_line guest run g step acts keeps in
        let fits = guest-reports p given codes c cs a.line g step ts us rs notes told ms did bench kept result s h facts t.is inside t.counts t.low t.turned t.cached t.next (most_reports codes) in
        let less : length (facts_in facts) ≤ reports_of (most_reports codes) (code_in codes) (c ∷ cs) (Some (standing_of a.line)) (guest_in (Some g) step) = omega (arith, fits) in
        subst (λ (y : Option GuestAt). length (facts_in facts) ≤ reports_of (most_reports codes) (code_in codes) (c ∷ cs) (run_seen run) (guest_in y step)) (sym a.guest_is)
        (subst (λ (k : Option Running). length (facts_in facts) ≤ reports_of (most_reports codes) (code_in codes) (c ∷ cs) (run_seen k) (guest_in (Some g) step)) (sym a.run_is) less)

    module _ (run' : Option Running) (notes' : List Note) (told' : List ℕ) where
      -- the event, what is kept of the guest, and the room
      pub record HasStepped (lines : List Call) (guest : Option GuestAt) (host : Option HostRun) (run : Option Running) : Type 0 where
        pub moved : Moved given (code_in codes) did bench p (inside lines (seen_by host_standing host run) (guest_in guest step) ts notes told) (inside lines (seen_by host_standing host run') (guest_in h kept) us notes' told') result.event (event_as parity (event_told (step_told s) result.event))
        pub keeps : KeepsGuest p.machine codes us (length rs + 1) h run' kept
        pub room : (made : ℕ) → made ≤ 1 → (result.act ≡ None → made ≡ 0) → MakesNone s made
            → room_of (longest_in codes) lines (seen_by host_standing host run') (guest_in h kept) + made ≤ room_of (longest_in codes) lines (seen_by host_standing host run) (guest_in guest step)
        pub reports : length (facts_in facts) + reports_of (most_reports codes) (code_in codes) lines (seen_by host_standing host run') (guest_in h kept) ≤ reports_of (most_reports codes) (code_in codes) lines (seen_by host_standing host run) (guest_in guest step)

      module _ (n : ℕ) (same : n ≡ length rs + 1) (at : StepsAt n) (noted : notes' ≡ added notes (notes_by (answer_with (step_ends g.tdr n s) facts) result.act)) (telling : told' ≡ added told (tells_by (step_answer g.tdr n s) result.act)) (answered : IsAnswered run')
          (list : IfSome h (λ y. IsLow y.walk × (y.list.now ≡ g.list.now))) where
        abbrev t : StepsAt at_line
        t = subst StepsAt same at

        then-are : inside [] None None us notes' told' ≡ inside [] None None us (added notes (notes_by (answer_with (step_ends g.tdr at_line s) facts) result.act)) (added told (tells_by (step_answer g.tdr at_line s) result.act))
        then-are =
            ap (λ (ns : List Note). inside [] None None us ns told') (noted ∙ ap (λ (k : ℕ). added notes (notes_by (answer_with (step_ends g.tdr k s) facts) result.act)) same)
            ∙ ap (inside [] None None us (added notes (notes_by (answer_with (step_ends g.tdr at_line s) facts) result.act))) (telling ∙ ap (λ (k : ℕ). added told (tells_by (step_answer g.tdr k s) result.act)) same)

        pub guest-steps : (law : TurnsInPieces) (lines : List Call) (guest : Option GuestAt) (host : Option HostRun) (run : Option Running) → is_none host ≡ true → 0 < length lines → acting guest run ≡ Some g → KeepsGuest p.machine codes ts (length rs + 1) guest run step
            → run_seen run' ≡ line_then s result.reply (run_seen run) → HasStepped lines guest host run
        guest-steps law [] guest host run alone some acts keeps seen = absurd (omega (arith, some))
        guest-steps law (c ∷ cs) guest (Some k) run alone some acts keeps seen = cc
        guest-steps law (c ∷ cs) guest None run alone some acts keeps seen =
            let a : Acts g guest run = acts-in guest run g acts in
            by guest run a.line a.guest_is a.run_is a.back keeps seen
          where
            by : (guest : Option GuestAt) (run : Option Running) (r : Running) → guest ≡ Some g → run ≡ Some r → gives_epoch_back r.run.held.items ≡ false → KeepsGuest p.machine codes ts (length rs + 1) guest run step → run_seen run' ≡ line_then s result.reply (run_seen run)
                → HasStepped (c ∷ cs) guest None run
            by guest run r guest-is run-is back keeps seen =
                subst (λ (y : Option GuestAt). HasStepped (c ∷ cs) y None run) (sym guest-is)
                (subst (λ (k : Option Running). HasStepped (c ∷ cs) (Some g) None k) (sym run-is)
                (on r back (subst (λ (k : Option Running). KeepsGuest p.machine codes ts (length rs + 1) (Some g) k step) run-is (subst (λ (y : Option GuestAt). KeepsGuest p.machine codes ts (length rs + 1) y run step) guest-is keeps))
                (seen ∙ ap (λ (k : Option Running). line_then s result.reply (run_seen k)) run-is)))
              where
                on : (r : Running) → gives_epoch_back r.run.held.items ≡ false → KeepsGuest p.machine codes ts (length rs + 1) (Some g) (Some r) step → run_seen run' ≡ line_then s result.reply (Some (standing_of r)) → HasStepped (c ∷ cs) (Some g) None (Some r)
                on r back keeps seen = record {
                  moved = subst (λ (z : Option Standing). Moved given (code_in codes) did bench p (inside (c ∷ cs) (Some (standing_of r)) (guest_in (Some g) step) ts notes told) (inside (c ∷ cs) z (guest_in h kept) us notes' told') result.event (event_as parity (event_told (step_told s) result.event))) (sym seen)
                      (subst (λ (q : WordLp). Moved given (code_in codes) did bench p (inside (c ∷ cs) (Some (standing_of r)) (guest_in (Some g) step) ts notes told) (record { lines = c ∷ cs; run = line_then s result.reply (Some (standing_of r)); guest = guest_in h kept; replies = rs; beside = q.beside }) result.event (event_as parity (event_told (step_told s) result.event))) (sym then-are)
                      (guest-moved p given codes c cs r g step ts us rs notes told ms did bench kept result s h facts t.is keeps.1 t.counts t.low t.turned t.cached t.next law back parity t.counted));
                  keeps = guest-keeps p given codes c cs r g step ts us rs notes told ms did bench kept result s h facts t.is keeps.1 t.counts t.low t.turned t.cached t.next run' seen answered list;
                  room = λ made few none makes. subst (λ (z : Option Standing). room_of (longest_in codes) (c ∷ cs) z (guest_in h kept) + made ≤ room_of (longest_in codes) (c ∷ cs) (Some (standing_of r)) (guest_in (Some g) step)) (sym seen)
                      (guest-fits p given codes c cs r g step ts us rs notes told ms did bench kept result s h facts t.is keeps.1 t.counts t.low t.turned t.cached t.next (longest_in codes) made refl few none makes);
                  reports = subst (λ (z : Option Standing). length (facts_in facts) + reports_of (most_reports codes) (code_in codes) (c ∷ cs) z (guest_in h kept) ≤ reports_of (most_reports codes) (code_in codes) (c ∷ cs) (Some (standing_of r)) (guest_in (Some g) step)) (sym seen)
                      (guest-reports p given codes c cs r g step ts us rs notes told ms did bench kept result s h facts t.is keeps.1 t.counts t.low t.turned t.cached t.next (most_reports codes));
                }
