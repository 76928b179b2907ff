-- The law of the one host that runs a TD: one event, and runs.
use Rattle.std.proofs.Common.{◌≡◌, refl, sym, ◌∙◌, ap, subst, ℕ, ◌+◌, List, [], ◌∷◌, ◌++◌, length, Option, Some, None, Bool, true, false, not, ◌==◌}
use Rattle.std.specs.List.{All, list_any}
use Rattle.std.proofs.lemmas.Bool.{eq-eqb}
use Rattle.td_words.specs.declared.names.PageKind.TheVariants as kind
use Rattle.td_words.specs.declared.names.LifeState.TheVariants as life
use Rattle.td_words.specs.declared.names.OpState.{OpState}
use Rattle.td_words.specs.declared.names.OpState.TheVariants as op
use Rattle.td_words.specs.declared.calls.Call.{Call}
use Rattle.td_words.specs.NameNumber.{op_number, life_number}
use Rattle.flat_core.specs.World.{World, Image, ClearHeader, Made}
use Rattle.flat_core.specs.Opening.{Opening, Incoming}
use Rattle.flat_core.specs.Row.{Passes}
use Rattle.flat_core.specs.Conditions.{same_kind, running_ops}
use Rattle.flat_core.specs.Effects.{set_op, tell_words, leave_guest}
use Rattle.flat_core.specs.Guest.{reach}
use Rattle.flat_core.specs.ExportRows.{image_of}
use Rattle.flat_core.specs.Table.{row_of}
use Rattle.flat_core.specs.Lawful.{IsAlive, Lawful, is_exporting}
use Rattle.flat_core.specs.Event.{State, lines_left, start, event}
use Rattle.flat_core.specs.Run.{play, bundles_in}
use Rattle.flat_core.specs.Inside.{AreTimely}
use Rattle.flat_core.specs.Laws.{reached, with_bundles, HoldsInRuns, ArePagesKnown}
use Rattle.flat_core.specs.AccessLaw.{IsGuarded}
use Rattle.flat_core.proofs.Tests.{by_test, tdr_kind}
use Rattle.flat_core.proofs.Parts.{IsLive}
use Rattle.flat_core.proofs.Acts.{event_world}
use Rattle.flat_core.proofs.Always.{occ-of, always_guarded}
use Rattle.flat_core.proofs.Induction.{in_runs, play_append}
use Rattle.mig_laws.specs.Ivs.{is_forward, is_filling}
use Rattle.mig_laws.specs.Source.{SourceHolds}
use Rattle.mig_laws.specs.Paused.{has_start, is_start, is_paused}
use Rattle.mig_laws.specs.Image.{Unforged, IsSource}
use Rattle.mig_laws.specs.Imports.{TakesIn}
use Rattle.mig_laws.proofs.Places.{at_place}
use Rattle.mig_laws.proofs.OneMore.{any_at}
use Rattle.mig_laws.proofs.Source.{source_kept}
use Rattle.mig_laws.proofs.Paused.{pauses_kept}
use Rattle.mig_laws.proofs.Started.{every_run_is_a_source}
use Rattle.mig_laws.proofs.Destination.{destination_kept, in_runs_where}
use Rattle.runner_laws.specs.Runner.{Runs, LivesThrough, IsExportedAs, IsPausedAs, RestsAs, is_waiting, WaitsAs, IsCalledBack, IsAfterRest, rests, torn_down, called_back, SentTdsRest, CommitsHold, CommitsAreKept, NoneGivenBack, AreUnforged, CommitsAreStarted, SourcesRest, PausedSourcesStay, DestinationsWait, AtMostOneRuns, IsImportedAs}
use Rattle.runner_laws.specs.Kept.{PausesIn, IsUnstarted, IsSent, exported, aborted, SentIsKept, SentRests, IsDue, waiting, noted, DueIsKept, DueWaits, CommitsHaveStarts}
use Rattle.runner_laws.proofs.Moves.{is_new, Moves, stays, builds, begins, exports, aborts, returns, waits, commits, ends, row-moves, noted_stays, Asked, asked, operation_same, reach_same, left_same}
use Rattle.runner_laws.proofs.Commits.{OtherBack, row-commits, same_commits}
use Rattle.runner_laws.proofs.Unstarted.{aborted_unstarted, row-unstarted, same_unstarted}

-- whose guest is on a processor, runs
pub runs_in : (o : Opening) (s : State) → AreTimely o s → (t : ℕ) → Runs s t → list_any (λ a. op_number a == op_number (s.world.tds.ops t)) running_ops ≡ true
runs_in o s timely t r = subst (λ (z : ℕ). list_any (λ a. op_number a == op_number (s.world.tds.ops z)) running_ops ≡ true) r.own (occ-of o s timely r.lp r.guest r.there).running

pub waiting_stops : (s : OpState) → is_waiting s ≡ true → list_any (λ a. op_number a == op_number s) running_ops ≡ true → ⊥
waiting_stops op.MemoryImport e f = cc
waiting_stops op.StateImport e f = cc
waiting_stops op.PostImport e f = cc
waiting_stops op.FailedImport e f = cc
waiting_stops _ e f = cc

pub paused_stops : (s : OpState) → is_paused s ≡ true → list_any (λ a. op_number a == op_number s) running_ops ≡ true → ⊥
paused_stops op.PausedExport e f = cc
paused_stops op.PostExport e f = cc
paused_stops _ e f = cc

pub paused_exports : (s : OpState) → is_paused s ≡ true → is_exporting s ≡ true
paused_exports op.PausedExport e = refl
paused_exports op.PostExport e = refl
paused_exports _ e = cc

pub new_apart : {A : Type 0} (s : OpState) → is_new s ≡ true → (is_exporting s ≡ true → A) × (is_waiting s ≡ true → A)
new_apart op.Uninitialized e = (λ f. cc, λ f. cc)
new_apart op.Initialized e = (λ f. cc, λ f. cc)
new_apart _ e = cc

pub waiting_apart : {A : Type 0} (s : OpState) → is_waiting s ≡ true → is_exporting s ≡ true → A
waiting_apart op.MemoryImport e f = cc
waiting_apart op.StateImport e f = cc
waiting_apart op.PostImport e f = cc
waiting_apart op.FailedImport e f = cc
waiting_apart _ e f = cc

pub not_exporting : {A : Type 0} (s x : OpState) → s ≡ x → is_exporting x ≡ false → is_exporting s ≡ true → A
not_exporting s x e off f = absurd (let no : true ≡ false = sym f ∙ (ap is_exporting e ∙ off) in cc)

pub not_waiting : {A : Type 0} (s x : OpState) → s ≡ x → is_waiting x ≡ false → is_waiting s ≡ true → A
not_waiting s x e off f = absurd (let no : true ≡ false = sym f ∙ (ap is_waiting e ∙ off) in cc)

rest_stops : (o : Opening) (s : State) (t session : ℕ) → AreTimely o s → RestsAs s.world t session → Runs s t → ⊥
rest_stops o s t session timely r runs = let no : false ≡ true = ap (λ (x : OpState). list_any (λ a. op_number a == op_number x) running_ops) (sym r.started) ∙ runs_in o s timely t runs in cc

-- whether a TD is alive, is told by a test
alive_or : {A : Type 0} (w : World) (t : ℕ) → (IsAlive w.pages w.tds t → A) → ((IsAlive w.pages w.tds t → ⊥) → A) → A
alive_or w t alive dead = by_test (same_kind (w.pages.kinds t) kind.Tdr)
    (λ k. by_test (life_number (w.tds.lives t) == life_number life.Teardown)
    (λ y. dead (λ a. let off : true ≡ false = sym y ∙ a.life in cc))
    (λ y. alive (record { kind = tdr_kind _ k; life = y })))
    (λ k. dead (λ a. let off : true ≡ false = ap (λ x. same_kind x kind.Tdr) (sym a.kind) ∙ k in cc))

-- One event

pub exported_still : (w v : World) (t session : ℕ) → IsExportedAs w t session → IsAlive v.pages v.tds t → is_exporting (v.tds.ops t) ≡ true → v.tds.sessions t ≡ w.tds.sessions t → IsExportedAs v t session
exported_still w v t session r alive standing same = record { exporting = record { alive = alive; standing = standing }; own = same ∙ r.own }

pub same_alive : (w v : World) (t : ℕ) → asked v ≡ asked w → IsAlive w.pages w.tds t → IsAlive v.pages v.tds t
same_alive w v t same a = record { kind = ap (λ (z : Asked). z.kinds t) same ∙ a.kind; life = subst (λ (z : Asked). IsLive (z.lives t)) (sym same) a.life }

pub same_exported : (w v : World) (t session : ℕ) → asked v ≡ asked w → IsExportedAs w t session → IsExportedAs v t session
same_exported w v t session same r =
    exported_still w v t session r (same_alive w v t same r.exporting.alive) (ap (λ (z : Asked). is_exporting (z.ops t)) same ∙ r.exporting.standing) (ap (λ (z : Asked). z.sessions t) same)

module _ (o : Opening) (s : State) (p t session : ℕ) (r : RestsAs s.world t session) where
  abbrev w : World
  w = s.world

  abbrev standing : is_exporting (w.tds.ops t) ≡ true
  standing = r.exported.exporting.standing

  call_rests : (c : Call) (cs : List Call) → lines_left o p (s.lps p) ≡ c ∷ cs → (v : World) → Moves o c w v t → IsAfterRest o s p t session v
  call_rests c cs line v (stays ops same) = alive_or v t
      (λ alive. rests (record { exported = exported_still w v t session r.exported alive (ap is_exporting ops ∙ standing) same; started = ops ∙ r.started }))
      (λ dead. torn_down dead)
  call_rests c cs line v (builds new) = (new_apart (w.tds.ops t) new).0 standing
  call_rests c cs line v (begins was now) = not_exporting (w.tds.ops t) op.Runnable was refl standing
  call_rests c cs line v (exports on never still same) = absurd (never r.started)
  call_rests c cs line v (aborts on never is) = absurd (never r.started)
  call_rests c cs line v (returns was token runnable) = called_back c cs line (subst (λ (n : ℕ). IsCalledBack o t n c) r.exported.own token) runnable
  call_rests c cs line v (waits on still same) = waiting_apart (w.tds.ops t) on standing
  call_rests c cs line v (commits on live given) = waiting_apart (w.tds.ops t) on standing
  call_rests c cs line v (ends was now) = not_exporting (w.tds.ops t) op.LiveImport was refl standing

  same_rests : (v : World) → asked v ≡ asked w → IsAfterRest o s p t session v
  same_rests v same = rests (record { exported = same_exported w v t session same r.exported; started = ap (λ (z : Asked). z.ops t) same ∙ r.started })

  event_rests : IsAfterRest o s p t session (event o s p).world
  event_rests = event_world o s p (IsAfterRest o s p t session) (same_rests w refl)
      (λ c cs line none ps. call_rests c cs line _ (row-moves o p w c ps t r.exported.exporting.alive.kind))
      (λ c cs g op row i is ps. same_rests _ (operation_same o g.tdr g.vp (length (s.lps p).replies + 1) op row w is))
      (λ c cs g op access k gpa page i is found. same_rests _ (reach_same g.tdr g.vp access k gpa page w))
      (λ c cs g i. same_rests _ (left_same g.vp w))

pub sent_tds_rest : SentTdsRest
sent_tds_rest o s p t session timely r = (event_rests o s p t session r, rest_stops o s t session timely r)

-- What a destination has committed

module _ (o : Opening) (bundles : ℕ → Option Incoming) (s : State) (p : ℕ) (all : IsGuarded o s) (src : SourceHolds s.world) (h : CommitsHold s.world) where
  abbrev q : Opening
  q = with_bundles o bundles

  event_commits : CommitsHold (event q s p).world
  event_commits =
      let l : Lawful q.machine s.world = all.timely.lawful in
      event_world q s p CommitsHold h
      (λ c cs line none ps. row-commits q p s.world l src.aborts h c ps)
      (λ c cs g op row i is ps. same_commits s.world _ (operation_same q g.tdr g.vp (length (s.lps p).replies + 1) op row s.world is) h)
      (λ c cs g op access k gpa page i is found. same_commits s.world _ (reach_same g.tdr g.vp access k gpa page s.world) h)
      (λ c cs g i. same_commits s.world _ (left_same g.vp s.world) h)

pub none_is_some : {A B : Type 0} {x : A} → None ≡ Some x → B
none_is_some e = cc

pub commits_kept : CommitsAreKept
commits_kept = record {
  start = λ o ws. (source_kept.start o ws, λ session from e. none_is_some e);
  event = λ o bundles s p h. (source_kept.event o bundles s p h.0, event_commits o bundles s p h.0.0.0 h.0.1 h.1);
}

pub none_given_back : NoneGivenBack
none_given_back o ws schedule session from e = ((in_runs (λ o s. ((IsGuarded o s × ArePagesKnown s.world) × SourceHolds s.world) × CommitsHold s.world) commits_kept o ws schedule).1 session from e).kept

-- What was committed has a start token, where no tag is forged.
pub commits_have_starts : CommitsHaveStarts
commits_have_starts source w d session start e =
    let c = (d.given session start e).come.complete in
    subst (λ (bs : List Made). has_start session bs ≡ true) (sym c.place) (any_at (is_start session) c.before c.after c.token c.start)

pub started_in : (source : World) → IsSource source → (o : Opening) (ws : Option (List ℕ)) (schedule : List ℕ) → Unforged o source.outgoing.bundles
    → (session : ℕ) (start : Image) → (reached o ws schedule).world.hidden.given session ≡ Some start → has_start session source.outgoing.bundles ≡ true
started_in source src o ws schedule unforged =
    commits_have_starts source (reached o ws schedule).world
    (in_runs_where (λ o. Unforged o source.outgoing.bundles) (TakesIn source) (destination_kept source src) o ws schedule unforged).1

-- Runs

lives_now : (o : Opening) (ps : List ℕ) (s : State) (t : ℕ) → LivesThrough o ps s t → IsAlive s.world.pages s.world.tds t
lives_now o [] s t h = h
lives_now o (p ∷ ps) s t h = h.0

-- what is said of each state that is reached, is said of one that is reached in two parts
in_parts : (holds : Opening → State → Type 0) → HoldsInRuns holds → (o : Opening) (ws : Option (List ℕ)) (before after : List ℕ) → holds o (play o after (reached o ws before))
in_parts holds h o ws before after = subst (λ (s : State). holds o s) (play_append o before after (start o ws)) (h o ws (before ++ after))

-- what never began before its start token never does
module _ (o : Opening) (bundles : ℕ → Option Incoming) (session : ℕ) (s : State) (p : ℕ) (h : PausesIn o s) (k : IsUnstarted s.world session) where
  pub event_unstarted : IsUnstarted (event (with_bundles o bundles) s p).world session
  event_unstarted =
      let q : Opening = with_bundles o bundles in
      let u : World = s.world in
      let l : Lawful q.machine u = h.0.0.0.timely.lawful in
      event_world q s p (λ v. IsUnstarted v session) k
      (λ c cs line none ps. row-unstarted q p u l session k c ps)
      (λ c cs g op row i is ps. same_unstarted u _ session (operation_same q g.tdr g.vp (length (s.lps p).replies + 1) op row u is) k)
      (λ c cs g op access r gpa page i is found. same_unstarted u _ session (reach_same g.tdr g.vp access r gpa page u) k)
      (λ c cs g i. same_unstarted u _ session (left_same g.vp u) k)

all_unstarted : (o : Opening) (session : ℕ) (ps : List ℕ) (s : State) → PausesIn o s → IsUnstarted s.world session → IsUnstarted (play o ps s).world session
all_unstarted o session [] s h k = k
all_unstarted o session (p ∷ ps) s h k = all_unstarted o session ps (event o s p) (pauses_kept.event o o.bundles s p h) (event_unstarted o o.bundles session s p h k)

-- the source: what is sent stays so, or is called back
pub data StaysOr (B : Type 0) (was_paused : Bool) (w : World) (t session : ℕ) : Type 0 where
  goes_on : IsSent was_paused w t session → StaysOr B was_paused w t session
  instead : B → StaysOr B was_paused w t session

module _ (B : Type 0) (was_paused : Bool) (o : Opening) (bundles : ℕ → Option Incoming) (s : State) (p t session : ℕ) (h : PausesIn o s) (called : (c : Call) → IsCalledBack (with_bundles o bundles) t session c → B) where
  abbrev now : Opening
  now = with_bundles o bundles

  abbrev u : World
  u = s.world

  abbrev Pauses : World → Type 0
  Pauses v = was_paused ≡ true → is_paused (v.tds.ops t) ≡ true

  abbrev Then : World → Type 0
  Then v = StaysOr B was_paused v t session

  goes_sent : (c : Call) (v : World) → IsExportedAs u t session → Pauses u → Moves now c u v t → IsAlive v.pages v.tds t → Then v
  goes_sent c v r was (stays ops same) alive = goes_on (exported (exported_still u v t session r alive (ap is_exporting ops ∙ r.exporting.standing) same) (λ e. ap is_paused ops ∙ was e))
  goes_sent c v r was (builds new) alive = (new_apart (u.tds.ops t) new).0 r.exporting.standing
  goes_sent c v r was (begins runs live) alive = not_exporting (u.tds.ops t) op.Runnable runs refl r.exporting.standing
  goes_sent c v r was (exports on never paused same) alive = goes_on (exported (exported_still u v t session r alive (paused_exports (v.tds.ops t) paused) same) (λ e. paused))
  goes_sent c v r was (aborts on never is) alive =
      goes_on (aborted (subst (λ (z : World). IsUnstarted z session) (sym is) (subst (λ (n : ℕ). IsUnstarted (set_op t op.Runnable u) n) r.own (aborted_unstarted u t h.0.1 h.1 r.exporting never))))
  goes_sent c v r was (returns sent token runnable) alive = instead (called c (subst (λ (n : ℕ). IsCalledBack now t n c) r.own token))
  goes_sent c v r was (waits on still_on same) alive = waiting_apart (u.tds.ops t) on r.exporting.standing
  goes_sent c v r was (commits on live given) alive = waiting_apart (u.tds.ops t) on r.exporting.standing
  goes_sent c v r was (ends late runs) alive = not_exporting (u.tds.ops t) op.LiveImport late refl r.exporting.standing

  same_sent : (v : World) → asked v ≡ asked u → IsExportedAs u t session → Pauses u → Then v
  same_sent v same r was = goes_on (exported (same_exported u v t session same r) (λ e. ap (λ (z : Asked). is_paused (z.ops t)) same ∙ was e))

  pub event_sent : IsSent was_paused u t session → IsAlive (event now s p).world.pages (event now s p).world.tds t → Then (event now s p).world
  event_sent (aborted k) mine = goes_on (aborted (event_unstarted o bundles session s p h k))
  event_sent (exported r was) mine = event_world now s p (λ v. IsAlive v.pages v.tds t → Then v) (λ alive. goes_on (exported r was))
      (λ c cs line none ps alive. goes_sent c _ r was (row-moves now p u c ps t r.exporting.alive.kind) alive)
      (λ c cs g op row i is ps alive. same_sent _ (operation_same now g.tdr g.vp (length (s.lps p).replies + 1) op row u is) r was)
      (λ c cs g op access k gpa page i is found alive. same_sent _ (reach_same g.tdr g.vp access k gpa page u) r was)
      (λ c cs g i alive. same_sent _ (left_same g.vp u) r was) mine

pub sent_is_kept : SentIsKept
sent_is_kept was_paused o bundles s p t session h never alive k = by (event_sent ⊥ was_paused o bundles s p t session h never k alive)
  where
    by : StaysOr ⊥ was_paused (event (with_bundles o bundles) s p).world t session → IsSent was_paused (event (with_bundles o bundles) s p).world t session
    by (goes_on k) = k
    by (instead x) = absurd x

module _ (o : Opening) (t session : ℕ) (never_back : (c : Call) → IsCalledBack o t session c → ⊥) (was_paused : Bool) where
  all_sent : (ps : List ℕ) (s : State) → PausesIn o s → IsSent was_paused s.world t session → LivesThrough o ps s t → IsSent was_paused (play o ps s).world t session
  all_sent [] s h k lives = k
  all_sent (p ∷ ps) s h k lives =
      all_sent ps (event o s p) (pauses_kept.event o o.bundles s p h) (sent_is_kept was_paused o o.bundles s p t session h never_back (lives_now o ps (event o s p) t lives.1) k) lives.1

rests_then : (o : Opening) (s : State) (t session : ℕ) (was_paused : Bool) → PausesIn o s → has_start session s.world.outgoing.bundles ≡ true → IsSent was_paused s.world t session → RestsAs s.world t session
rests_then o s t session was_paused h started (exported r was) = record { exported = r; started = h.1.started t r.exporting (subst (λ (n : ℕ). has_start n s.world.outgoing.bundles ≡ true) (sym r.own) started) }
rests_then o s t session was_paused h started (aborted k) = absurd (let x : true ≡ false = sym started ∙ k.unstarted in cc)

pub sent_rests : SentRests
sent_rests was_paused o s t session h started k = (let r = rests_then o s t session was_paused h started k in (r, rest_stops o s t session h.0.0.0.timely r))

-- a token back is one that the destination made
never_returned : (q o : Opening) (made back : List Made) (t session : ℕ) → AreUnforged q o made back → All (OtherBack session) back → (c : Call) → IsCalledBack q t session c → ⊥
never_returned q o made back t session unforged kept c b =
    let m = unforged.returned b.slot b.bundle b.header b.there b.header_is b.right b.kind in
    let six : is_forward m.bundle ≡ false = ap (λ (h : ClearHeader). not (h.kind == 6)) m.same_header ∙ ap (λ (k : ℕ). not (k == 6)) b.kind in
    at_place (OtherBack session) m.before m.after m.bundle (subst (All (OtherBack session)) m.place kept) six (ap (λ (h : ClearHeader). h.session) m.same_header ∙ b.own)

pub commits_are_started : CommitsAreStarted
commits_are_started q o tells ws before schedule session from unforged e =
    started_in (reached q tells before).world (every_run_is_a_source q tells before) o ws schedule unforged session from e

-- two runs, the source's whole one among them
module _ (q o : Opening) (tells ws : Option (List ℕ)) (before later more schedule : List ℕ) (t session : ℕ) (from : Image) where
  abbrev first : State
  first = reached q tells before

  abbrev source : State
  source = play q later first

  abbrev destination : State
  destination = reached o ws schedule

  module _ (unforged : AreUnforged q o (bundles_in (play q more source)) (bundles_in destination)) (e : destination.world.hidden.given session ≡ Some from) where
    never : (c : Call) → IsCalledBack q t session c → ⊥
    never = never_returned q o (bundles_in (play q more source)) (bundles_in destination) t session unforged (none_given_back o ws schedule session from e)

    pauses_there : PausesIn q source
    pauses_there = in_parts PausesIn (in_runs PausesIn pauses_kept) q tells before later

    sent_there : (was_paused : Bool) → IsSent was_paused first.world t session → LivesThrough q later first t → IsSent was_paused source.world t session
    sent_there was_paused k lives = all_sent q t session never was_paused later first (in_runs PausesIn pauses_kept q tells before) k lives

    -- its start token is among those of the whole run
    whole_source : IsSource (play q more source).world
    whole_source = subst (λ (s : State). IsSource s.world) (play_append q later more first) (in_parts (λ o s. IsSource s.world) every_run_is_a_source q tells before (later ++ more))

    started_then : has_start session (bundles_in (play q more source)) ≡ true
    started_then = started_in (play q more source).world whole_source o ws schedule unforged.forward session from e

    paused_then : IsSent true source.world t session → IsPausedAs source.world t session
    paused_then (exported r was) = record { exported = r; paused = was refl }
    paused_then (aborted k) = absurd (let x : true ≡ false = sym started_then ∙ (all_unstarted q session more source pauses_there k).unstarted in cc)

pub sources_rest : SourcesRest
sources_rest q o tells ws before later more schedule t session from unforged exporting lives e started =
    let s : State = play q later (reached q tells before) in
    let h = pauses_there q o tells ws before later more schedule t session from unforged e in
    let sent = sent_there q o tells ws before later more schedule t session from unforged e false (exported exporting (λ x. cc)) lives in
    sent_rests false q s t session h started sent

pub paused_sources_stay : PausedSourcesStay
paused_sources_stay q o tells ws before later more schedule t session from unforged pausing lives e =
    let s : State = play q later (reached q tells before) in
    let h = pauses_there q o tells ws before later more schedule t session from unforged e in
    let sent = sent_there q o tells ws before later more schedule t session from unforged e true (exported pausing.exported (λ x. pausing.paused)) lives in
    let r = paused_then q o tells ws before later more schedule t session from unforged e sent in
    (r, λ runs. paused_stops (s.world.tds.ops t) r.paused (runs_in q s h.0.0.0.timely t runs))

-- the destination: the TD waits, or its session was committed
module _ (o : Opening) (bundles : ℕ → Option Incoming) (s : State) (p t session : ℕ) where
  abbrev met : Opening
  met = with_bundles o bundles

  abbrev x : World
  x = s.world

  goes_due : (c : Call) (v : World) → WaitsAs x t session → Moves met c x v t → IsAlive v.pages v.tds t → IsDue v t session
  goes_due c v r (stays ops same) alive = waiting (record { alive = alive; waiting = ap is_waiting ops ∙ r.waiting; own = same ∙ r.own })
  goes_due c v r (builds new) alive = (new_apart (x.tds.ops t) new).1 r.waiting
  goes_due c v r (begins was now) alive = not_waiting (x.tds.ops t) op.Runnable was refl r.waiting
  goes_due c v r (exports on never still same) alive = waiting_apart (x.tds.ops t) r.waiting on
  goes_due c v r (aborts on never is) alive = waiting_apart (x.tds.ops t) r.waiting on
  goes_due c v r (returns was token runnable) alive = not_waiting (x.tds.ops t) op.PostExport was refl r.waiting
  goes_due c v r (waits on still same) alive = waiting (record { alive = alive; waiting = still; own = same ∙ r.own })
  goes_due c v r (commits on live given) alive =
      let self : (session == x.tds.sessions t) ≡ true = eq-eqb session (x.tds.sessions t) (sym r.own) in
      noted (image_of x t) (ap (λ (f : ℕ → Option Image). f session) given ∙ rw self refl)
  goes_due c v r (ends was now) alive = not_waiting (x.tds.ops t) op.LiveImport was refl r.waiting

  call_due : (c : Call) → Passes ((row_of met p c).items x) → IsDue x t session → IsAlive ((row_of met p c).act x).pages ((row_of met p c).act x).tds t → IsDue ((row_of met p c).act x) t session
  call_due c ps (waiting r) alive = goes_due c _ r (row-moves met p x c ps t r.alive.kind) alive
  call_due c ps (noted image e) alive = let n = noted_stays met p x c session image e in noted n.0 n.1

  same_due : (v : World) → asked v ≡ asked x → IsDue x t session → IsDue v t session
  same_due v same (waiting r) = waiting (record { alive = same_alive x v t same r.alive; waiting = ap (λ (z : Asked). is_waiting (z.ops t)) same ∙ r.waiting; own = ap (λ (z : Asked). z.sessions t) same ∙ r.own })
  same_due v same (noted image e) = noted image (ap (λ (z : Asked). z.given session) same ∙ e)

  event_due : IsAlive (event met s p).world.pages (event met s p).world.tds t → IsDue x t session → IsDue (event met s p).world t session
  event_due mine k = event_world met s p (λ v. IsAlive v.pages v.tds t → IsDue v t session) (λ alive. k)
      (λ c cs line none ps alive. call_due c ps k alive)
      (λ c cs g op row i is ps alive. same_due _ (operation_same met g.tdr g.vp (length (s.lps p).replies + 1) op row x is) k)
      (λ c cs g op access r gpa page i is found alive. same_due _ (reach_same g.tdr g.vp access r gpa page x) k)
      (λ c cs g i alive. same_due _ (left_same g.vp x) k) mine

pub due_is_kept : DueIsKept
due_is_kept o bundles s p t session alive k = event_due o bundles s p t session alive k

all_due : (o : Opening) (t session : ℕ) (ps : List ℕ) (s : State) → IsDue s.world t session → LivesThrough o ps s t → IsDue (play o ps s).world t session
all_due o t session [] s k lives = k
all_due o t session (p ∷ ps) s k lives = all_due o t session ps (event o s p) (event_due o o.bundles s p t session (lives_now o ps (event o s p) t lives.1) k) lives.1

waits_then : (w : World) (t session : ℕ) → w.hidden.given session ≡ None → IsDue w t session → WaitsAs w t session
waits_then w t session none (waiting r) = r
waits_then w t session none (noted image e) = none_is_some (sym none ∙ e)

pub filling_waits : (s : OpState) → is_filling s ≡ true → is_waiting s ≡ true
filling_waits op.MemoryImport e = refl
filling_waits op.StateImport e = refl
filling_waits op.PostImport e = refl
filling_waits _ e = cc

pub due_waits : DueWaits
due_waits o s t session timely none k =
    let r = waits_then s.world t session none k in
    (r, λ runs. waiting_stops (s.world.tds.ops t) r.waiting (runs_in o s timely t runs))

pub importing_due : (w : World) (t session : ℕ) → IsImportedAs w t session → IsDue w t session
importing_due w t session h = waiting (record { alive = h.importing.alive; waiting = filling_waits _ h.importing.standing; own = h.own })

pub destinations_wait : DestinationsWait
destinations_wait o ws before later t session importing lives none =
    let first : State = reached o ws before in
    let destination : State = play o later first in
    due_waits o destination t session (in_parts IsGuarded always_guarded o ws before later).timely none (all_due o t session later first (importing_due first.world t session importing) lives)

-- what was committed stays committed
module _ (o : Opening) (session : ℕ) where
  abbrev IsNoted : World → Type 0
  IsNoted v = (image : Image) × (v.hidden.given session ≡ Some image)

  same_noted : (w v : World) → asked v ≡ asked w → IsNoted w → IsNoted v
  same_noted w v same n = (n.0, ap (λ (z : Asked). z.given session) same ∙ n.1)

  event_noted : (s : State) (p : ℕ) → IsNoted s.world → IsNoted (event o s p).world
  event_noted s p n =
      let w : World = s.world in
      event_world o s p IsNoted n
      (λ c cs line none ps. noted_stays o p w c session n.0 n.1)
      (λ c cs g op row i is ps. same_noted w (tell_words (row.tells w) (row.act w)) (operation_same o g.tdr g.vp (length (s.lps p).replies + 1) op row w is) n)
      (λ c cs g op access r gpa page i is found. same_noted w (reach g.tdr g.vp access r gpa page w) (reach_same g.tdr g.vp access r gpa page w) n)
      (λ c cs g i. same_noted w (leave_guest g.vp w) (left_same g.vp w) n)

  all_noted : (ps : List ℕ) (s : State) → IsNoted s.world → IsNoted (play o ps s).world
  all_noted [] s n = n
  all_noted (p ∷ ps) s n = all_noted ps (event o s p) (event_noted s p n)

pub at_most_one_runs : AtMostOneRuns
at_most_one_runs q o tells ws before later more earlier after rest t u session unforged pausing lives importing stood runs others =
    by (standing.world.hidden.given session) refl
  where
    begun : State
    begun = reached o ws earlier

    standing : State
    standing = play o after begun

    same : reached o ws (earlier ++ (after ++ rest)) ≡ play o rest standing
    same = play_append o earlier (after ++ rest) (start o ws) ∙ play_append o after rest begun

    by : (x : Option Image) → standing.world.hidden.given session ≡ x → ⊥
    by None e = (destinations_wait o ws earlier after u session importing stood e).1 others
    by (Some from) e =
        let n = all_noted o session rest standing (from, e) in
        (paused_sources_stay q o tells ws before later more (earlier ++ (after ++ rest)) t session n.0
        (subst (λ (d : State). AreUnforged q o (bundles_in (play q more (play q later (reached q tells before)))) (bundles_in d)) (sym same) unforged)
        pausing lives (ap (λ (d : State). d.world.hidden.given session) same ∙ n.1)).1 runs
