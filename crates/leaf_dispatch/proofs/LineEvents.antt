-- An event of the present line's own leaf is an event of its processor.
use Rattle.std.proofs.Common.{◌≡◌, ◌∙◌, ℕ, ◌+◌, ◌*◌, ◌%◌, ◌<◌, ◌≤◌, Bool, true, false, List, [], ◌∷◌, ◌++◌, length, Option, Some, None, option_map, is_none, IfSome, refl, ap, sym, subst, arith, length-append}
use Rattle.td_words.specs.Seen.{CodeSeen}
use Rattle.td_words.specs.declared.machines.Machine.{Machine}
use Rattle.td_words.specs.declared.calls.Call.{Call}
use Rattle.td_words.specs.declared.calls.Call.TheVariants as call
use Rattle.td_words.specs.declared.replies.Reply.{Reply}
use Rattle.td_words.specs.declared.replies.Reply.TheVariants.{Done, Refused, Exited}
use Rattle.td_words.specs.declared.replies.Value.TheVariants as value
use Rattle.flat_core.specs.World.{Made}
use Rattle.flat_core.specs.Processor.{Translation, Note}
use Rattle.flat_core.specs.Table.{most_tries, operation_events, guest_events}
use Rattle.flat_core.specs.Run.{events_in}
use Rattle.step_core.specs.declared.items.Taken.{Taken}
use Rattle.leaf_engine.specs.declared.needs.Place.{Place}
use Rattle.leaf_engine.specs.declared.events.HeldLock.{HeldLock}
use Rattle.leaf_engine.specs.declared.events.Stage.{Stage}
use Rattle.leaf_engine.specs.declared.events.Stage.TheVariants as stages
use Rattle.leaf_engine.specs.Trees.{added}
use Rattle.leaf_engine.specs.Besides.{Beside}
use Rattle.leaf_engine.specs.Guests.{WordGuest, gives_epoch_back, guest_entered, or_else, step_of}
use Rattle.leaf_engine.specs.Turns.{Standing, TurnBy}
use Rattle.leaf_engine.specs.OwnLists.{taken_in, TurnsInPieces, WordLp, running, after_turn, EnteredTurn}
use Rattle.trace_laws.specs.Told.{step_told}
use Rattle.leaf_table.specs.Ends.{Ends, call_answer, call_ends, step_ends}
use Rattle.guest_turns.specs.Turns.{act_of, kept_after}
use Rattle.leaf_dispatch.specs.Answers.{beside_by, guest_by, cached_by}
use Rattle.leaf_dispatch.specs.Bounds.{stage_left, events_left}
use Rattle.leaf_dispatch.specs.Guests.{guest_seen, IsLow, next_in}
use Rattle.leaf_dispatch.specs.Inside.{unless_gives, entered_or, IsGuestKept, KeepsGuest}
use Rattle.leaf_dispatch.specs.NoteRooms.{least, call_room, lines_room, stage_room, run_room, room_of, room_left, most_reports, call_reports, reports_left}
use Rattle.leaf_dispatch.specs.Running.{IsAnsweredBy, standing_of}
use Rattle.leaf_dispatch.specs.CallRuns.{CallTurned}
use Rattle.leaf_dispatch.specs.Shown.{epoch_loaded}
use Rattle.leaf_dispatch.specs.ShortRuns.{seen_by}
use Rattle.leaf_table.specs.Given.{Given}
use Rattle.leaf_table.specs.Table.{code_in, task_of, place_table}
use Rattle.leaf_dispatch.specs.StepRuns.{step_run_seen, IsStepRunOf}
use Rattle.leaf_dispatch.specs.declared.step_runs.StepRun.{StepRun}
use Rattle.leaf_dispatch.specs.declared.call_runs.CallRun.{CallRun}
use Rattle.guest_turns.specs.SharedTurns.{standing_of as shared_standing, IsIn as IsSharedIn}
use Rattle.host_turns.specs.HostTurns.{stands, standing_of as host_standing}
use Rattle.host_turns.specs.declared.runs.HostAccess.{HostAccess}
use Rattle.host_turns.specs.declared.runs.HostEnd.TheVariants.{Loaded, Stored, NotHost}
use Rattle.host_turns.specs.declared.runs.HostStage.{HostStage}
use Rattle.host_turns.specs.declared.runs.HostStage.TheVariants.{Denied, Locked, Ended}
use Rattle.host_turns.specs.declared.runs.HostRun.{HostRun}
use Rattle.td_words.specs.declared.refusals.Status.TheVariants as status
use Rattle.leaf_dispatch.specs.declared.guests.GuestAt.{GuestAt}
use Rattle.leaf_dispatch.specs.declared.running.Running.{Running}
use Rattle.guest_turns.specs.declared.runs.LeafTurn.{LeafTurn}
use Rattle.leaf_dispatch.proofs.Lowering.{Gives}
use Rattle.leaf_dispatch.proofs.Turning.{line-gives, line-moves, LineMoved, Moved, bound-before, none-begun, bound-after}
use Rattle.leaf_dispatch.proofs.Fewer.{enters-fewer, releases-fewer}
use Rattle.leaf_dispatch.proofs.Making.{room-before, less-stage}
use Rattle.leaf_dispatch.proofs.FactRooms.{guest-among, reports-begun}
use Rattle.leaf_dispatch.proofs.ShortRuns.{none-is, no-run-of}
use Rattle.leaf_dispatch.proofs.Shown.{run-makes, frees, outside-tells, free-tells}

-- a call answers its reply, what it makes of the cached translations, and the bundles that it makes
abbrev told_quietly : List Translation → List Made → Beside → Beside
told_quietly cached bundles b = record { cached = cached; notes = b.notes; told = b.told; bundles = bundles }

call-quiet : (c : Call) (r : Reply) (made : List Made) (b : Beside) → beside_by (call_answer c) made (Some r) b ≡ told_quietly ((call_answer c r).cached b.cached) (added b.bundles made) b
call-quiet (call.VpEnter tdr vp most) (Done (value.Entered stale index position root)) made b = refl
call-quiet (call.VpEnter tdr vp most) (Done _) made b = refl
call-quiet (call.VpEnter tdr vp most) (Refused s) made b = refl
call-quiet (call.VpEnter tdr vp most) (Exited out) made b = refl
call-quiet (call.VpFlush tdr vp) (Done value.Nothing) made b = refl
call-quiet (call.VpFlush tdr vp) (Done _) made b = refl
call-quiet (call.VpFlush tdr vp) (Refused s) made b = refl
call-quiet (call.VpFlush tdr vp) (Exited out) made b = refl
call-quiet (call.HostRead page word) r made b = refl
call-quiet _ r made b = refl

quiet : (c : Call) (act : Option Reply) (made : List Made) (b : Beside) → beside_by (call_answer c) made act b ≡ told_quietly (cached_by (call_answer c) act b.cached) (added b.bundles made) b
quiet c None made b = refl
quiet c (Some r) made b = call-quiet c r made b

-- the reply that tells of an entry
abbrev tells_entry : Reply → Bool
tells_entry (Done (value.Entered stale index position root)) = true
tells_entry _ = false

-- the guest that an act enters is at its start
pub record Begins (c : Call) (r : Reply) (x : WordGuest) : Type 0 where
  pub told : tells_entry r ≡ true
  pub events : guest_events c ≡ operation_events * x.most + 1
  pub completed : x.completed ≡ 0
  pub stays : x.leaving ≡ None
  pub none : x.run ≡ None
  pub room : (longest : ℕ) → call_room longest c ≡ least x.most longest
  pub reports : (most : ℕ) → call_reports most c ≡ most

begins : (c : Call) (r : Reply) (x : WordGuest) → or_else (guest_entered (call_answer c r)) None ≡ Some x → Begins c r x
begins (call.VpEnter tdr vp most) (Done (value.Entered stale index position root)) x e =
    let entered : WordGuest = record { tdr = tdr; vp = vp; root = root; most = most; completed = 0; index = index; position = position; walk = None; leaving = None; run = None } in
    let same : entered ≡ x = cc in
    subst (λ (z : WordGuest). Begins (call.VpEnter tdr vp most) (Done (value.Entered stale index position root)) z) same (record { told = refl; events = refl; completed = refl; stays = refl; none = refl; room = λ n. refl; reports = λ n. refl })
begins (call.VpEnter tdr vp most) (Done _) x e = cc
begins (call.VpEnter tdr vp most) (Refused s) x e = cc
begins (call.VpEnter tdr vp most) (Exited out) x e = cc
begins (call.VpFlush tdr vp) (Done value.Nothing) x e = cc
begins (call.VpFlush tdr vp) (Done _) x e = cc
begins (call.VpFlush tdr vp) (Refused s) x e = cc
begins (call.VpFlush tdr vp) (Exited out) x e = cc
begins (call.HostRead page word) r x e = cc
begins _ r x e = cc

-- which a host access never has
no-entry : (k : HostStage) (access : HostAccess) (page i : ℕ) (r : Reply) → (stands k access page i).stage ≡ stages.Answered r → tells_entry r ≡ false
no-entry Denied access page i r e = cc
no-entry Locked access page i r e = cc
no-entry (Ended (Loaded x)) access page i r e = (let same : r ≡ Done (value.Number x) = cc in ap tells_entry same)
no-entry (Ended Stored) access page i r e = (let same : r ≡ Done value.Nothing = cc in ap tells_entry same)
no-entry (Ended NotHost) access page i r e = (let same : r ≡ Refused status.NotHost = cc in ap tells_entry same)

pub gives-back : (b : Bool) (g : GuestAt) → unless_gives b g ≡ None → b ≡ true
gives-back true g e = refl
gives-back false g e = cc

pub no-run : (m : Machine) (e : Ends) (k : StepRun) → step_run_seen k ≡ None → IsStepRunOf m e k
no-run m e k none = no-run-of shared_standing IsSharedIn m e k.shared k.other none

pub room-begun : (longest : ℕ) (cs : List Call) → room_of longest cs None None ≡ lines_room longest cs
room-begun longest [] = refl
room-begun longest (c ∷ cs) = refl

shorter : (older : List HeldLock) (x : HeldLock) (held : List HeldLock) → held ≡ older ++ x ∷ [] → length older < length held
shorter older x held e = (let n = ap length e in let m = length-append older (x ∷ []) in omega (arith, n, m))

module _ (p : Place) (given : Given) (codes : List CodeSeen) (c : Call) (cs : List Call) (ts us : List Translation) (rs : List Reply) (notes : List Note) (told : List ℕ) (ms ns : List Made) where
  abbrev besides : List Translation → List Made → Beside
  besides xs bundles = record { cached = xs; notes = notes; told = told; bundles = bundles }

  abbrev ends : Ends
  ends = call_ends p.machine c

  abbrev was : Option Standing → Standing
  was run = running (task_of given p c) run

  abbrev pub before : Option Standing → Option WordGuest → WordLp
  before run g = record { lines = c ∷ cs; run = run; guest = g; replies = rs; beside = besides ts ms }

  abbrev pub turned : Option WordGuest → Standing → Option Reply → WordLp
  turned g s reply = after_turn c cs g rs (besides us ns) s reply

  module _ {B : Type 0} (did : List Taken → B → Type 0) (bench : B) (kept : CallRun) (result : LeafTurn) (made : List Made) (cached : us ≡ cached_by (call_answer c) result.act ts) (adds : ns ≡ added ms made) where
    besides-are : besides us ns ≡ beside_by (call_answer c) made result.act (besides ts ms)
    besides-are = (λ i. besides (cached i) (adds i)) ∙ sym (quiet c result.act made (besides ts ms))

    module _ (run : Option Standing) (t : CallTurned did p.machine ends (was run) bench kept result made) where
      gives : Gives ends (was run) t.stands result.event
      gives = line-gives did bench p.machine ends (was run) result made t

      lower : stage_left (most_tries c) (guest_events c) t.stands.stage (length t.stands.held) < stage_left (most_tries c) (guest_events c) (was run).stage (length (was run).held)
      lower = gives.lower (guest_events c)

      line-moved : TurnsInPieces → (g G : Option WordGuest) → G ≡ guest_by (call_answer c) result.act g → LineMoved did bench given p c cs run g rs (besides ts ms) (turned G t.stands result.reply) result
      line-moved law g G is =
          line-moves law did bench given p c cs run g rs (besides ts ms) (turned G t.stands result.reply) result made t
          (ap (λ (z : Option WordGuest). after_turn c cs z rs (besides us ns) t.stands result.reply) is
          ∙ ap (λ (z : Beside). after_turn c cs (guest_by (call_answer c) result.act g) rs z t.stands result.reply) besides-are)

      -- outside guests

      enters : (act : Option Reply) (x : WordGuest) → result.act ≡ act → Some x ≡ guest_by (call_answer c) act None → (r : Reply) × (act_of result.event t.stands.stage ≡ Some r) × Begins c r x
      enters None x e is = cc
      enters (Some r) x e is = (r, sym t.act_is ∙ e, begins c r x (sym is))

      outside-fewer : (G : Option WordGuest) → G ≡ guest_by (call_answer c) result.act None → (reply : Option Reply) → events_left (code_in codes) (turned G t.stands reply) < events_left (code_in codes) (before run None)
      outside-fewer G is reply = subst (λ (n : ℕ). events_left (code_in codes) (turned G t.stands reply) < n + events_in cs) (sym (bound-before given p c run)) (by G is reply)
        where
          by : (G : Option WordGuest) → G ≡ guest_by (call_answer c) result.act None → (reply : Option Reply) → events_left (code_in codes) (turned G t.stands reply) < stage_left (most_tries c) (guest_events c) (was run).stage (length (was run).held) + events_in cs
          by G is (Some r) = bound-after (code_in codes) c cs rs (besides us ns) t.stands (Some r) (stage_left (most_tries c) (guest_events c) (was run).stage (length (was run).held)) lower
          by None is None = bound-after (code_in codes) c cs rs (besides us ns) t.stands None (stage_left (most_tries c) (guest_events c) (was run).stage (length (was run).held)) lower
          by (Some x) is None =
              let e = enters result.act x refl is in
              enters-fewer (code_in codes) ts c cs ends (was run) t.stands result.event x rs (besides us ns) e.0 refl e.2.events e.2.completed gives e.1

      pub outside-moves : TurnsInPieces → (G : Option WordGuest) → G ≡ guest_by (call_answer c) result.act None → Moved given (code_in codes) did bench p (before run None) (turned G t.stands result.reply) result.event result.event
      outside-moves law G is =
          let moved = line-moved law None G is in
          record {
            pieces = moved.pieces;
            did_them = moved.did_them;
            turn = moved.turn;
            tells = outside-tells (epoch_loaded (taken_in moved.pieces) % 2) result.event (run-makes (was run).stage p.machine (was run) t.turned.0 t.stands result.event t.turned.2.turn);
            fewer = outside-fewer G is result.reply;
          }

      run-before : (n : ℕ) → run_room n run ≡ stage_room n (was run).stage
      run-before n = sym (room-before n (task_of given p c) run)

      pub outside-room : (longest : ℕ) (G : Option WordGuest) → G ≡ guest_by (call_answer c) result.act None → (reply : Option Reply) → room_left longest (turned G t.stands reply) ≤ room_left longest (before run None)
      outside-room longest G is (Some r) = rw (room-begun longest cs) (omega arith)
      outside-room longest None is None =
          let less = less-stage (call_room longest c) (was run).stage t.stands.stage gives.stays_answered in
          rw (run-before (call_room longest c)) (omega (arith, less))
      outside-room longest (Some x) is None =
          let e = enters result.act x refl is in
          let on : (was run).stage ≡ stages.Trying = (gives.act e.0 e.1).on in
          rw (run-before (call_room longest c), on, e.2.room longest, e.2.stays, e.2.completed) (omega arith)

      pub outside-reports : (G : Option WordGuest) → G ≡ guest_by (call_answer c) result.act None → (reply : Option Reply) → reports_left (most_reports codes) (code_in codes) (turned G t.stands reply) ≤ reports_left (most_reports codes) (code_in codes) (before run None)
      outside-reports G is (Some r) = (let begun = reports-begun (most_reports codes) (code_in codes) cs in omega (arith, begun))
      outside-reports None is None =
          let less = less-stage (call_reports (most_reports codes) c) (was run).stage t.stands.stage gives.stays_answered in
          rw (run-before (call_reports (most_reports codes) c)) (omega (arith, less))
      outside-reports (Some x) is None =
          let e = enters result.act x refl is in
          let on : (was run).stage ≡ stages.Trying = (gives.act e.0 e.1).on in
          let few = guest-among codes x in
          rw (run-before (call_reports (most_reports codes) c), on, e.2.reports (most_reports codes)) (omega (arith, few))

      -- and what is kept then
      pub outside-keeps : (ent : Option GuestAt) → option_map (λ (g : GuestAt). guest_seen g None) ent ≡ guest_by (call_answer c) result.act None
          → IfSome ent (λ g. (g.tdr < p.machine.pages) × (g.vp < p.machine.pages) × (code_in codes g.tdr g.index ≡ g.list.now) × IsLow g.walk) → result.reply ≡ None
          → (step : StepRun) → is_none (step_run_seen step) ≡ true → KeepsGuest p.machine codes us (length rs + 1) (entered_or ent None) kept.other step
      outside-keeps None is inside none step nothing = nothing
      outside-keeps (Some g) is inside none step nothing =
          let e = enters result.act (guest_seen g None) refl is in
          let a = gives.act e.0 e.1 in
          keeps kept.host kept.other (t.seen ∙ ap (λ (z : Option Reply). kept_after z t.stands) none) e.0 a.stage e.2.told (record {
            tdr = inside.0;
            vp = inside.1;
            list = inside.2;
            low = inside.3;
            ahead = subst (λ (n : ℕ). n ≤ g.position) (sym e.2.completed) (omega arith);
            under_way = no-run p.machine (step_ends g.tdr (length rs + 1) (next_in us g None)) step (none-is (step_run_seen step) nothing);
            alone = λ z. nothing;
          })
        where
          keeps : (host : Option HostRun) (other : Option Running) → seen_by host_standing host other ≡ Some t.stands → (reply : Reply) → t.stands.stage ≡ stages.Answered reply → tells_entry reply ≡ true → IsGuestKept p.machine codes us (length rs + 1) g step
              → KeepsGuest p.machine codes us (length rs + 1) (Some g) other step
          keeps None None seen reply on told is = cc
          keeps None (Some r) seen reply on told is = (let same : t.stands ≡ standing_of r = cc in (subst (λ (s : Standing). IsAnsweredBy s.stage) same (subst IsAnsweredBy (sym on) tt), is))
          keeps (Some h) other seen reply on told is =
              let same : host_standing h ≡ t.stands = cc in
              let no : true ≡ false = sym told ∙ no-entry h.stage h.access h.page h.word reply (ap (λ (s : Standing). s.stage) same ∙ on) in
              cc

    -- in a guest, while its VP.ENTER gives E back
    module _ (r : Running) (x : WordGuest) (answered : IsAnsweredBy r.run.stage) (t : CallTurned did p.machine ends (standing_of r) bench kept result made) where
      pub acts-once : result.act ≡ None
      acts-once = by result.act refl
        where
          by : (act : Option Reply) → result.act ≡ act → act ≡ None
          by None e = refl
          by (Some z) e = (let a = (gives (Some (standing_of r)) t).act z (sym t.act_is ∙ e) in absurd (subst IsAnsweredBy a.on answered))

      stays : Some x ≡ guest_by (call_answer c) result.act (Some x)
      stays = ap (λ (a : Option Reply). guest_by (call_answer c) a (Some x)) (sym acts-once)

      pub inside-cached : us ≡ ts
      inside-cached = cached ∙ ap (λ (a : Option Reply). cached_by (call_answer c) a ts) acts-once

      held-less : (s : Stage) → r.run.stage ≡ s → IsAnsweredBy s → TurnBy s p.machine (standing_of r) t.turned.0 t.stands result.event → length t.stands.held < length r.run.held.items
      held-less (stages.Answered z) e a turn = shorter t.stands.held turn.0.newest r.run.held.items turn.0.held_are
      held-less stages.Trying e a turn = absurd a
      held-less (stages.Undoing name at) e a turn = absurd a

      inside-fewer : (reply : Option Reply) → events_left (code_in codes) (turned (Some x) t.stands reply) < events_left (code_in codes) (before (Some (standing_of r)) (Some x))
      inside-fewer (Some z) = (let few = none-begun (code_in codes) cs (rs ++ z ∷ []) (besides us ns) in omega (arith, few))
      inside-fewer None =
          subst (λ (ys : List Translation). events_left (code_in codes) (record { lines = c ∷ cs; run = Some t.stands; guest = Some x; replies = rs; beside = besides ys ns }) < events_left (code_in codes) (before (Some (standing_of r)) (Some x))) (sym inside-cached)
          (releases-fewer (code_in codes) c cs (standing_of r) t.stands x rs (besides ts ms) (held-less r.run.stage refl answered t.turned.2.turn))

      pub inside-moves : TurnsInPieces → gives_epoch_back r.run.held.items ≡ true → Moved given (code_in codes) did bench p (before (Some (standing_of r)) (Some x)) (turned (Some x) t.stands result.reply) result.event result.event
      inside-moves law back =
          let free = frees r.run.stage p.machine (standing_of r) t.turned.0 t.stands result.event answered t.turned.2.turn in
          let moved = line-moved (Some (standing_of r)) t law (Some x) (Some x) stays in
          record {
            pieces = moved.pieces;
            did_them = moved.did_them;
            turn = subst (λ (b : Bool). EnteredTurn (place_table p given (code_in codes)) p.machine c cs (standing_of r) x rs (besides ts ms) result.event moved.pieces (turned (Some x) t.stands result.reply) b) (sym back) moved.turn;
            tells = free-tells (epoch_loaded (taken_in moved.pieces) % 2) (step_told (step_of (code_in codes) ts x)) free.0 result.event free.1;
            fewer = inside-fewer result.reply;
          }

      pub inside-room : (longest : ℕ) (reply : Option Reply) → room_left longest (turned (Some x) t.stands reply) ≤ room_left longest (before (Some (standing_of r)) (Some x))
      inside-room longest (Some z) = rw (room-begun longest cs) (omega arith)
      inside-room longest None = omega arith

      pub inside-reports : (most : ℕ) (reply : Option Reply) → reports_left most (code_in codes) (turned (Some x) t.stands reply) ≤ reports_left most (code_in codes) (before (Some (standing_of r)) (Some x))
      inside-reports most (Some z) = (let begun = reports-begun most (code_in codes) cs in omega (arith, begun))
      inside-reports most None = omega arith

      pub inside-keeps : (g : GuestAt) (step : StepRun) → is_none kept.host ≡ true → IsGuestKept p.machine codes ts (length rs + 1) g step → result.reply ≡ None → KeepsGuest p.machine codes us (length rs + 1) (Some g) kept.other step
      inside-keeps g step alone is none =
          keeps kept.host kept.other alone (t.seen ∙ ap (λ (z : Option Reply). kept_after z t.stands) none) still (subst (λ (ys : List Translation). IsGuestKept p.machine codes ys (length rs + 1) g step) (sym inside-cached) is)
        where
          on : (s : Stage) → r.run.stage ≡ s → IsAnsweredBy s → (z : Reply) × (r.run.stage ≡ stages.Answered z)
          on (stages.Answered z) e a = (z, e)
          on stages.Trying e a = absurd a
          on (stages.Undoing name at) e a = absurd a

          still : IsAnsweredBy t.stands.stage
          still =
              let was-on = on r.run.stage refl answered in
              let now = (gives (Some (standing_of r)) t).stays_answered was-on.0 was-on.1 in
              subst IsAnsweredBy (sym now.1) tt

          keeps : (host : Option HostRun) (other : Option Running) → is_none host ≡ true → seen_by host_standing host other ≡ Some t.stands → IsAnsweredBy t.stands.stage → IsGuestKept p.machine codes us (length rs + 1) g step
              → KeepsGuest p.machine codes us (length rs + 1) (Some g) other step
          keeps None None alone seen answered is = cc
          keeps None (Some k) alone seen answered is = (let same : t.stands ≡ standing_of k = cc in (subst (λ (s : Standing). IsAnsweredBy s.stage) same answered, is))
          keeps (Some h) other alone seen answered is = cc
