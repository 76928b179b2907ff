-- What an event keeps of a TD that is there, alive or not: that it has run, that it is due, and that it was sent.
use Rattle.std.proofs.Common.{◌≡◌, refl, sym, ◌∙◌, ap, subst, ℕ, ◌+◌, length, Option, Some, true, false, ◌==◌}
use Rattle.std.proofs.lemmas.Bool.{eq-eqb}
use Rattle.td_words.specs.Packing.{Unassigned}
use Rattle.td_words.specs.declared.names.LifeState.TheVariants as life
use Rattle.td_words.specs.declared.names.OpState.{OpState}
use Rattle.td_words.specs.declared.names.OpState.TheVariants as op
use Rattle.td_words.specs.declared.calls.Call.{Call}
use Rattle.flat_core.specs.World.{World, Image}
use Rattle.flat_core.specs.Opening.{Opening}
use Rattle.flat_core.specs.Row.{Passes}
use Rattle.flat_core.specs.Effects.{set_op, set_key, set_life, tell_words, leave_guest}
use Rattle.flat_core.specs.Guest.{reach}
use Rattle.flat_core.specs.ExportRows.{image_of}
use Rattle.flat_core.specs.Table.{row_of}
use Rattle.flat_core.specs.Lawful.{IsAlive, is_exporting}
use Rattle.flat_core.specs.Access.{has_not_run}
use Rattle.flat_core.specs.Event.{State, event}
use Rattle.flat_core.proofs.Tests.{by_test, same_self}
use Rattle.flat_core.proofs.Acts.{event_world}
use Rattle.mig_laws.specs.Ivs.{IsExporting}
use Rattle.mig_laws.specs.Source.{SourceHolds}
use Rattle.mig_laws.specs.Paused.{has_start, PausesHold}
use Rattle.runner_laws.specs.Runner.{IsExportedAs, IsImportedAs, is_waiting, IsCalledBack}
use Rattle.runner_laws.specs.Kept.{PausesIn, IsUnstarted}
use Rattle.runner_laws.proofs.Moves.{is_new, Moves, stays, builds, begins, exports, aborts, returns, waits, commits, ends, row-moves, noted_stays, Asked, asked, operation_same, reach_same, left_same}
use Rattle.runner_laws.proofs.Unstarted.{aborted_unstarted, row-unstarted, same_unstarted}
use Rattle.runner_laws.proofs.Runner.{paused_exports, filling_waits, new_apart, waiting_apart, not_exporting, not_waiting, exported_still, same_exported}
use Rattle.chain_laws.specs.Lineages.{IsThere}
use Rattle.chain_laws.proofs.Lives.{LifeGoes, lives, ends_life, row-life}

-- op states

new_ran : {A : Type 0} (s : OpState) → is_new s ≡ true → has_not_run s ≡ false → A
new_ran op.Uninitialized e f = cc
new_ran op.Initialized e f = cc
new_ran _ e f = cc

pub waits_ran : {A : Type 0} (s : OpState) → is_waiting s ≡ true → has_not_run s ≡ false → A
waits_ran op.MemoryImport e f = cc
waits_ran op.StateImport e f = cc
waits_ran op.PostImport e f = cc
waits_ran op.FailedImport e f = cc
waits_ran _ e f = cc

pub exports_ran : (s : OpState) → is_exporting s ≡ true → has_not_run s ≡ false
exports_ran op.LiveExport e = refl
exports_ran op.PausedExport e = refl
exports_ran op.PostExport e = refl
exports_ran _ e = cc

module _ (o : Opening) (s : State) (p : ℕ) (t : ℕ) (there : IsThere s.world t) where
  abbrev w : World
  w = s.world

  -- A TD that has run goes on as one that has.
  abbrev Ran : World → Type 0
  Ran v = has_not_run (v.tds.ops t) ≡ false

  call_ran : (c : Call) (v : World) → Ran w → Moves o c w v t → Ran v
  call_ran c v r (stays ops same) = ap has_not_run ops ∙ r
  call_ran c v r (builds is) = new_ran (w.tds.ops t) is r
  call_ran c v r (begins is then) = ap has_not_run then
  call_ran c v r (exports is never then same) = exports_ran (v.tds.ops t) (paused_exports (v.tds.ops t) then)
  call_ran c v r (aborts is never same) = (let self = same_self t in subst (λ (z : World). has_not_run (z.tds.ops t) ≡ false) (sym same) (rw self refl))
  call_ran c v r (returns is back then) = ap has_not_run then
  call_ran c v r (waits is then same) = waits_ran (w.tds.ops t) is r
  call_ran c v r (commits is then given) = ap has_not_run then
  call_ran c v r (ends is then) = ap has_not_run then

  same_ran : (v : World) → asked v ≡ asked w → Ran w → Ran v
  same_ran v same r = ap (λ (z : Asked). has_not_run (z.ops t)) same ∙ r

  pub event_ran : Ran w → Ran (event o s p).world
  event_ran r = event_world o s p Ran r
      (λ c cs line none ps. call_ran c _ r (row-moves o p w c ps t there))
      (λ c cs g op row i is ps. same_ran (tell_words (row.tells w) (row.act w)) (operation_same o g.tdr g.vp (length (s.lps p).replies + 1) op row w is) r)
      (λ c cs g op access k gpa page i is found. same_ran (reach g.tdr g.vp access k gpa page w) (reach_same g.tdr g.vp access k gpa page w) r)
      (λ c cs g i. same_ran (leave_guest g.vp w) (left_same g.vp w) r)

-- A TD that was imported under a session waits, or its import was committed.
pub data IsDue (w : World) (t session : ℕ) : Type 0 where
  waiting : is_waiting (w.tds.ops t) ≡ true → w.tds.sessions t ≡ session → IsDue w t session
  committed : (start : Image) → w.hidden.given session ≡ Some start → has_not_run (w.tds.ops t) ≡ false → IsDue w t session

pub imported_due : (w : World) (t session : ℕ) → IsImportedAs w t session → IsDue w t session
imported_due w t session i = waiting (filling_waits (w.tds.ops t) i.importing.standing) i.own

module _ (o : Opening) (s : State) (p : ℕ) (t session : ℕ) (there : IsThere s.world t) where
  abbrev x : World
  x = s.world

  goes_due : (c : Call) (v : World) → is_waiting (x.tds.ops t) ≡ true → x.tds.sessions t ≡ session → Moves o c x v t → IsDue v t session
  goes_due c v r own (stays ops same) = waiting (ap is_waiting ops ∙ r) (same ∙ own)
  goes_due c v r own (builds is) = (new_apart (x.tds.ops t) is).1 r
  goes_due c v r own (begins is then) = not_waiting (x.tds.ops t) op.Runnable is refl r
  goes_due c v r own (exports is never then same) = waiting_apart (x.tds.ops t) r is
  goes_due c v r own (aborts is never same) = waiting_apart (x.tds.ops t) r is
  goes_due c v r own (returns is back then) = not_waiting (x.tds.ops t) op.PostExport is refl r
  goes_due c v r own (waits is then same) = waiting then (same ∙ own)
  goes_due c v r own (commits is then given) =
      let self : (session == x.tds.sessions t) ≡ true = eq-eqb session (x.tds.sessions t) (sym own) in
      committed (image_of x t) (ap (λ (f : ℕ → Option Image). f session) given ∙ rw self refl) (ap has_not_run then)
  goes_due c v r own (ends is then) = not_waiting (x.tds.ops t) op.LiveImport is refl r

  call_due : (c : Call) → Passes ((row_of o p c).items x) → IsDue x t session → IsDue ((row_of o p c).act x) t session
  call_due c ps (waiting r own) = goes_due c _ r own (row-moves o p x c ps t there)
  call_due c ps (committed start e ran) = (let n = noted_stays o p x c session start e in committed n.0 n.1 (call_ran o s p t there c _ ran (row-moves o p x c ps t there)))

  same_due : (v : World) → asked v ≡ asked x → IsDue x t session → IsDue v t session
  same_due v same (waiting r own) = waiting (ap (λ (z : Asked). is_waiting (z.ops t)) same ∙ r) (ap (λ (z : Asked). z.sessions t) same ∙ own)
  same_due v same (committed start e ran) = committed start (ap (λ (z : Asked). z.given session) same ∙ e) (same_ran o s p t there v same ran)

  pub event_due : IsDue x t session → IsDue (event o s p).world t session
  event_due k = event_world o s p (λ v. IsDue v t session) k
      (λ c cs line none ps. call_due c ps k)
      (λ c cs g op row i is ps. same_due (tell_words (row.tells x) (row.act x)) (operation_same o g.tdr g.vp (length (s.lps p).replies + 1) op row x is) k)
      (λ c cs g op access r gpa page i is found. same_due (reach g.tdr g.vp access r gpa page x) (reach_same g.tdr g.vp access r gpa page x) k)
      (λ c cs g i. same_due (leave_guest g.vp x) (left_same g.vp x) k)

-- A TD that was exported under a session is so still; or the session ended before its start token; or the TD was sent whole.
pub data IsSent (w : World) (t session : ℕ) : Type 0 where
  exported : IsExportedAs w t session → IsSent w t session
  unstarted : IsUnstarted w session → IsSent w t session
  whole : w.tds.ops t ≡ op.PostExport → w.tds.sessions t ≡ session → IsSent w t session

-- the key of a TD is given up before its start token
ended_unstarted : (w : World) (t hkid : ℕ) → SourceHolds w → IsExporting w t → has_start (w.tds.sessions t) w.outgoing.bundles ≡ false → IsUnstarted (set_key hkid Unassigned (set_life t life.Teardown w)) (w.tds.sessions t)
ended_unstarted w t hkid h a none = record {
  exported = h.ivs.session t a;
  ended = λ x b same.
      let off : (x == t) ≡ false = by_test (x == t) (λ y. absurd (let no : true ≡ false = rw y at b.alive.life in cc)) (λ y. y) in
      let was : IsExporting w x = record { alive = record { kind = b.alive.kind; life = rw off at b.alive.life }; standing = b.standing } in
      let is : x ≡ t = h.ivs.one x t was a same in
      let no : true ≡ false = sym (eq-eqb x t is) ∙ off in cc;
  unstarted = none;
}

module _ (o : Opening) (s : State) (p : ℕ) (t session : ℕ) (h : PausesIn o s) (never_back : (c : Call) → IsCalledBack o t session c → ⊥) (there : IsThere s.world t) where
  abbrev u : World
  u = s.world

  goes_sent : (c : Call) (v : World) → IsExportedAs u t session → IsAlive v.pages v.tds t → Moves o c u v t → IsSent v t session
  goes_sent c v r alive (stays ops same) = exported (exported_still u v t session r alive (ap is_exporting ops ∙ r.exporting.standing) same)
  goes_sent c v r alive (builds is) = (new_apart (u.tds.ops t) is).0 r.exporting.standing
  goes_sent c v r alive (begins is then) = not_exporting (u.tds.ops t) op.Runnable is refl r.exporting.standing
  goes_sent c v r alive (exports is never then same) = exported (exported_still u v t session r alive (paused_exports (v.tds.ops t) then) same)
  goes_sent c v r alive (aborts is never same) =
      unstarted (subst (λ (z : World). IsUnstarted z session) (sym same) (subst (λ (n : ℕ). IsUnstarted (set_op t op.Runnable u) n) r.own (aborted_unstarted u t h.0.1 h.1 r.exporting never)))
  goes_sent c v r alive (returns is back then) = absurd (never_back c (subst (λ (n : ℕ). IsCalledBack o t n c) r.own back))
  goes_sent c v r alive (waits is then same) = waiting_apart (u.tds.ops t) is r.exporting.standing
  goes_sent c v r alive (commits is then given) = waiting_apart (u.tds.ops t) is r.exporting.standing
  goes_sent c v r alive (ends is then) = not_exporting (u.tds.ops t) op.LiveImport is refl r.exporting.standing

  goes_whole : (c : Call) (v : World) → u.tds.ops t ≡ op.PostExport → u.tds.sessions t ≡ session → Moves o c u v t → IsSent v t session
  goes_whole c v r own (stays ops same) = whole (ops ∙ r) (same ∙ own)
  goes_whole c v r own (builds is) = absurd (let no : false ≡ true = ap is_new (sym r) ∙ is in cc)
  goes_whole c v r own (begins is then) = absurd (let no : op.PostExport ≡ op.Runnable = sym r ∙ is in cc)
  goes_whole c v r own (exports is never then same) = absurd (never r)
  goes_whole c v r own (aborts is never same) = absurd (never r)
  goes_whole c v r own (returns is back then) = absurd (never_back c (subst (λ (n : ℕ). IsCalledBack o t n c) own back))
  goes_whole c v r own (waits is then same) = absurd (let no : false ≡ true = ap is_waiting (sym r) ∙ is in cc)
  goes_whole c v r own (commits is then given) = absurd (let no : false ≡ true = ap is_waiting (sym r) ∙ is in cc)
  goes_whole c v r own (ends is then) = absurd (let no : op.PostExport ≡ op.LiveImport = sym r ∙ is in cc)

  life_sent : (c : Call) (v : World) → IsExportedAs u t session → IsThere v t → Moves o c u v t → LifeGoes u v t → IsSent v t session
  life_sent c v r still m (lives live) = goes_sent c v r (record { kind = still; life = live }) m
  life_sent c v r still m (ends_life hkid is) = by_test (has_start session u.outgoing.bundles)
      (λ y. (let same_ops : v.tds.ops t ≡ u.tds.ops t = ap (λ (z : World). z.tds.ops t) is in
      let same_own : v.tds.sessions t ≡ u.tds.sessions t = ap (λ (z : World). z.tds.sessions t) is in
      whole (same_ops ∙ h.1.started t r.exporting (subst (λ (n : ℕ). has_start n u.outgoing.bundles ≡ true) (sym r.own) y)) (same_own ∙ r.own)))
      (λ y. unstarted (subst (λ (z : World). IsUnstarted z session) (sym is)
      (subst (λ (n : ℕ). IsUnstarted (set_key hkid Unassigned (set_life t life.Teardown u)) n) r.own
      (ended_unstarted u t hkid h.0.1 r.exporting (subst (λ (n : ℕ). has_start n u.outgoing.bundles ≡ false) (sym r.own) y)))))

  call_sent : (c : Call) → Passes ((row_of o p c).items u) → IsSent u t session → IsThere ((row_of o p c).act u) t → IsSent ((row_of o p c).act u) t session
  call_sent c ps (exported r) still = life_sent c _ r still (row-moves o p u c ps t there) (row-life o p u c ps t there r.exporting.alive.life)
  call_sent c ps (whole r own) still = goes_whole c _ r own (row-moves o p u c ps t there)
  call_sent c ps (unstarted k) still = unstarted k'
    where
      k' : IsUnstarted ((row_of o p c).act u) session
      k' = row-unstarted o p u h.0.0.0.timely.lawful session k c ps

  same_sent : (v : World) → asked v ≡ asked u → IsSent u t session → IsSent v t session
  same_sent v same (exported r) = exported (same_exported u v t session same r)
  same_sent v same (unstarted k) = unstarted (same_unstarted u v session same k)
  same_sent v same (whole r own) = whole (ap (λ (z : Asked). z.ops t) same ∙ r) (ap (λ (z : Asked). z.sessions t) same ∙ own)

  pub event_sent : IsSent u t session → IsThere (event o s p).world t → IsSent (event o s p).world t session
  event_sent k still = event_world o s p (λ v. IsThere v t → IsSent v t session) (λ at. k)
      (λ c cs line none ps at. call_sent c ps k at)
      (λ c cs g op row i is ps at. same_sent (tell_words (row.tells u) (row.act u)) (operation_same o g.tdr g.vp (length (s.lps p).replies + 1) op row u is) k)
      (λ c cs g op access r gpa page i is found at. same_sent (reach g.tdr g.vp access r gpa page u) (reach_same g.tdr g.vp access r gpa page u) k)
      (λ c cs g i at. same_sent (leave_guest g.vp u) (left_same g.vp u) k) still

-- with its start token it was sent whole
pub sent_rests : (w : World) (t session : ℕ) → PausesHold w → has_start session w.outgoing.bundles ≡ true → IsSent w t session → (w.tds.ops t ≡ op.PostExport) × (w.tds.sessions t ≡ session)
sent_rests w t session h started (exported r) = (h.started t r.exporting (subst (λ (n : ℕ). has_start n w.outgoing.bundles ≡ true) (sym r.own) started), r.own)
sent_rests w t session h started (unstarted k) = absurd (let no : true ≡ false = sym started ∙ k.unstarted in cc)
sent_rests w t session h started (whole r own) = (r, own)
