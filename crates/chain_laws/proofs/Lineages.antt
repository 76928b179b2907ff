-- At most one TD of a lineage may run, at every moment of every run of a chain.
use Rattle.std.proofs.Common.{◌≡◌, refl, sym, ◌∙◌, ap, subst, ℕ, suc, List, [], ◌∷◌, ◌++◌, Some, true, false, ◌==◌, not, ◌≤◌, arith}
use Rattle.std.specs.List.{All, list_any}
use Rattle.td_words.specs.declared.names.OpState.{OpState}
use Rattle.td_words.specs.declared.names.OpState.TheVariants as op
use Rattle.td_words.specs.declared.calls.Call.{Call}
use Rattle.td_words.specs.NameNumber.{op_number}
use Rattle.flat_core.specs.World.{Image, ClearHeader, Made}
use Rattle.flat_core.specs.Conditions.{running_ops}
use Rattle.flat_core.specs.Access.{has_not_run}
use Rattle.flat_core.specs.AccessLaw.{IsGuarded}
use Rattle.flat_core.proofs.Always.{access_kept}
use Rattle.mig_laws.specs.Ivs.{is_forward}
use Rattle.mig_laws.proofs.Places.{at_place}
use Rattle.mig_laws.proofs.Paused.{pauses_kept}
use Rattle.runner_laws.specs.Runner.{IsExportedAs, IsImportedAs, is_waiting, IsCalledBack}
use Rattle.runner_laws.proofs.Commits.{OtherBack}
use Rattle.runner_laws.specs.Kept.{PausesIn, CommitsIn}
use Rattle.runner_laws.proofs.Runner.{commits_kept, waiting_stops}
use Rattle.chain_laws.specs.Chains.{Chain, Running, state_of, world_of, opening_now, chain_event, play_chain, first_modules, at_moment}
use Rattle.chain_laws.specs.Lineages.{Td, IsThere, IsThereThrough, WasExported, WasImported, AreJoined, IsOfLineage, itself, goes_on, goes_back, AtMostOneMayRun, AtMostOneOfTwo}
use Rattle.chain_laws.proofs.Turns.{module_keeps, event_holds, chain_append, modules_keep}
use Rattle.chain_laws.proofs.Grown.{Begins, made_by, turns_grow, back_made}
use Rattle.chain_laws.proofs.Images.{guarded_now, started_of}
use Rattle.chain_laws.proofs.Once.{IsOnlyExported, IsOnlyImported, event_exported, event_imported}
use Rattle.chain_laws.proofs.Runners.{waits_ran, exports_ran, event_ran, IsDue, waiting, committed, imported_due, event_due, IsSent, exported, event_sent, sent_rests}

-- a TD that is there through some turns is there at their beginning
there_now : (c : Chain) (xs : List ℕ) (r : Running) (d : Td) → IsThereThrough c xs r d → IsThere (world_of r d.number) d.tdr
there_now c [] r d h = h
there_now c (x ∷ xs) r d h = h.0

pauses_now : (c : Chain) (r : Running) (i : ℕ) → PausesIn (c.openings i) (state_of r i) → PausesIn (opening_now c r.modules i) (state_of r i)
pauses_now c r i h = (((guarded_now c r i h.0.0.0, h.0.0.1), h.0.1), h.1)

module _ (c : Chain) (d : Td) where
  abbrev i : ℕ
  i = d.number

  abbrev t : ℕ
  t = d.tdr

  ran_through : (xs : List ℕ) (r : Running) → IsThereThrough c xs r d → has_not_run ((world_of r i).tds.ops t) ≡ false → has_not_run ((world_of (play_chain c xs r) i).tds.ops t) ≡ false
  ran_through [] r h k = k
  ran_through (x ∷ xs) r h k = ran_through xs (chain_event c r x) h.1
      (module_keeps (λ s. has_not_run (s.world.tds.ops t) ≡ false) c r x i k (λ p. event_ran (opening_now c r.modules i) (state_of r i) p t h.0 k))

  module _ (session : ℕ) where
    due_through : (xs : List ℕ) (r : Running) → IsThereThrough c xs r d → IsDue (world_of r i) t session → IsDue (world_of (play_chain c xs r) i) t session
    due_through [] r h k = k
    due_through (x ∷ xs) r h k = due_through xs (chain_event c r x) h.1
        (module_keeps (λ s. IsDue s.world t session) c r x i k (λ p. event_due (opening_now c r.modules i) (state_of r i) p t session h.0 k))

    -- a token back is one that the module behind it made
    never_back : (r : Running) (back : List Made) → Begins (made_by r (suc i)) back → All (OtherBack session) back → (call : Call) → IsCalledBack (opening_now c r.modules i) t session call → ⊥
    never_back r back g kept call b =
        let m = back_made c r.modules i back g b.slot b.bundle b.header b.there b.header_is b.kind in
        let six : is_forward m.bundle ≡ false = ap (λ (h : ClearHeader). not (h.kind == 6)) m.same_header ∙ ap (λ (k : ℕ). not (k == 6)) b.kind in
        at_place (OtherBack session) m.before m.after m.bundle (subst (All (OtherBack session)) m.place kept) six (ap (λ (h : ClearHeader). h.session) m.same_header ∙ b.own)

    sent_through : (xs : List ℕ) (r : Running) → IsThereThrough c xs r d → PausesIn (c.openings i) (state_of r i) → All (OtherBack session) (made_by (play_chain c xs r) (suc i)) → IsSent (world_of r i) t session → IsSent (world_of (play_chain c xs r) i) t session
    sent_through [] r h holds kept k = k
    sent_through (x ∷ xs) r h holds kept k =
        let never = never_back r (made_by (play_chain c (x ∷ xs) r) (suc i)) (turns_grow c (x ∷ xs) r (suc i)) kept in
        let still : IsThere (world_of (chain_event c r x) i) t = there_now c xs (chain_event c r x) d h.1 in
        sent_through xs (chain_event c r x) h.1 (event_holds PausesIn pauses_kept c i r x holds) kept
        (module_keeps (λ s. IsThere s.world t → IsSent s.world t session) c r x i (λ at. k)
        (λ p at. event_sent (opening_now c r.modules i) (state_of r i) p t session (pauses_now c r i holds) never h.0 k at) still)

-- at most one TD of a module has a session
module _ (c : Chain) (i n t : ℕ) where
  exported_once : (xs : List ℕ) (r : Running) → IsGuarded (c.openings i) (state_of r i) → IsOnlyExported (world_of r i) n t → IsOnlyExported (world_of (play_chain c xs r) i) n t
  exported_once [] r g h = h
  exported_once (x ∷ xs) r g h = exported_once xs (chain_event c r x) (event_holds IsGuarded access_kept c i r x g)
      (module_keeps (λ s. IsOnlyExported s.world n t) c r x i h (λ p. event_exported (opening_now c r.modules i) (state_of r i) p (guarded_now c r i g) n t h))

  imported_once : (xs : List ℕ) (r : Running) → IsGuarded (c.openings i) (state_of r i) → IsOnlyImported (world_of r i) n t → IsOnlyImported (world_of (play_chain c xs r) i) n t
  imported_once [] r g h = h
  imported_once (x ∷ xs) r g h = imported_once xs (chain_event c r x) (event_holds IsGuarded access_kept c i r x g)
      (module_keeps (λ s. IsOnlyImported s.world n t) c r x i h (λ p. event_imported (opening_now c r.modules i) (state_of r i) p (guarded_now c r i g) n t h))

-- of two beginnings of one list one is the other's
data Order (xs ys : List ℕ) : Type 0 where
  first : (m : List ℕ) → ys ≡ xs ++ m → Order xs ys
  second : (m : List ℕ) → xs ≡ ys ++ m → Order xs ys

later_order : (x : ℕ) (xs ys : List ℕ) → Order xs ys → Order (x ∷ xs) (x ∷ ys)
later_order x xs ys (first m e) = first m (ap (λ (l : List ℕ). x ∷ l) e)
later_order x xs ys (second m e) = second m (ap (λ (l : List ℕ). x ∷ l) e)

order : (xs vs ys bs : List ℕ) → xs ++ vs ≡ ys ++ bs → Order xs ys
order [] vs ys bs e = first ys refl
order (x ∷ xs) vs [] bs e = second (x ∷ xs) refl
order (x ∷ xs) vs (y ∷ ys) bs e =
    let same : x ≡ y = cc in
    let rest : xs ++ vs ≡ ys ++ bs = cc in
    subst (λ (z : ℕ). Order (x ∷ xs) (z ∷ ys)) same (later_order x xs ys (order xs vs ys bs rest))

to_td : (x y : Td) → x.number ≡ y.number → x.tdr ≡ y.tdr → x ≡ y
to_td x y e f = ap (λ (n : ℕ). td n x.tdr) e ∙ ap (λ (n : ℕ). td y.number n) f
  where
    td : ℕ → ℕ → Td
    td n m = record { number = n; tdr = m }

suc_same : (m n : ℕ) → suc m ≡ suc n → m ≡ n
suc_same m n e = omega (arith, e)

own_next : (n : ℕ) → n ≡ suc n → ⊥
own_next n e = omega (arith, e)

-- a moment
module _ (c : Chain) (turns : List ℕ) where
  abbrev now : Running
  now = at_moment c turns

  at_parts : (before after : List ℕ) → turns ≡ before ++ after → at_moment c turns ≡ play_chain c after (at_moment c before)
  at_parts before after e = ap (λ (xs : List ℕ). at_moment c xs) e ∙ chain_append c before after (first_modules c)

  later_moment : (xs m ys : List ℕ) → ys ≡ xs ++ m → at_moment c ys ≡ play_chain c m (at_moment c xs)
  later_moment xs m ys e = ap (λ (zs : List ℕ). at_moment c zs) e ∙ chain_append c xs m (first_modules c)

  guarded_at : (xs : List ℕ) (i : ℕ) → IsGuarded (c.openings i) (state_of (at_moment c xs) i)
  guarded_at xs i = modules_keep IsGuarded access_kept c xs i

  pauses_at : (xs : List ℕ) (i : ℕ) → PausesIn (c.openings i) (state_of (at_moment c xs) i)
  pauses_at xs i = modules_keep PausesIn pauses_kept c xs i

  has_run : (x : Td) (n : ℕ) → WasExported c turns x n → has_not_run ((world_of now x.number).tds.ops x.tdr) ≡ false
  has_run x n h = subst (λ (r : Running). has_not_run ((world_of r x.number).tds.ops x.tdr) ≡ false) (sym (at_parts h.before h.after h.parts))
      (ran_through c x h.after (at_moment c h.before) h.since (exports_ran ((world_of (at_moment c h.before) x.number).tds.ops x.tdr) h.then_so.exporting.standing))

  is_due : (y : Td) (n : ℕ) → WasImported c turns y n → IsDue (world_of now y.number) y.tdr n
  is_due y n h = subst (λ (r : Running). IsDue (world_of r y.number) y.tdr n) (sym (at_parts h.before h.after h.parts))
      (due_through c y n h.after (at_moment c h.before) h.since (imported_due (world_of (at_moment c h.before) y.number) y.tdr n h.then_so))

  -- whose import is committed, rests where it was
  rests : (x : Td) (n : ℕ) (start : Image) → WasExported c turns x n → (world_of now (suc x.number)).hidden.given n ≡ Some start → ((world_of now x.number).tds.ops x.tdr ≡ op.PostExport) × ((world_of now x.number).tds.sessions x.tdr ≡ n)
  rests x n start h e =
      let over = (modules_keep CommitsIn commits_kept c turns (suc x.number)).1 n start e in
      let same = at_parts h.before h.after h.parts in
      let kept : All (OtherBack n) (made_by (play_chain c h.after (at_moment c h.before)) (suc x.number)) = subst (λ (r : Running). All (OtherBack n) (made_by r (suc x.number))) same over.kept in
      let sent : IsSent (world_of now x.number) x.tdr n = subst (λ (r : Running). IsSent (world_of r x.number) x.tdr n) (sym same)
      (sent_through c x n h.after (at_moment c h.before) h.since (pauses_at h.before x.number) kept (exported h.then_so)) in
      sent_rests (world_of now x.number) x.tdr n (pauses_at turns x.number).1 (started_of c turns x.number n start e) sent

  only_exported_at : (xs : List ℕ) (x : Td) (n : ℕ) → IsExportedAs (world_of (at_moment c xs) x.number) x.tdr n → IsOnlyExported (world_of (at_moment c xs) x.number) n x.tdr
  only_exported_at xs x n e =
      let src = (pauses_at xs x.number).0.1 in
      record {
        given = subst (λ (z : ℕ). z ≤ (world_of (at_moment c xs) x.number).key_table.last_exported) e.own (src.ivs.session x.tdr e.exporting);
        only = λ y a same. src.ivs.one y x.tdr a e.exporting (same ∙ sym e.own);
      }

  only_imported_at : (xs : List ℕ) (x : Td) (n : ℕ) → IsImportedAs (world_of (at_moment c xs) x.number) x.tdr n → IsOnlyImported (world_of (at_moment c xs) x.number) n x.tdr
  only_imported_at xs x n e =
      let src = (pauses_at xs x.number).0.1 in
      record {
        given = subst (λ (z : ℕ). z ≤ (world_of (at_moment c xs) x.number).key_table.last_imported) e.own (src.aborts.session x.tdr e.importing);
        only = λ y a same. src.aborts.one y x.tdr a e.importing (same ∙ sym e.own);
      }

  same_exported : (i t u n : ℕ) → WasExported c turns (record { number = i; tdr = t }) n → WasExported c turns (record { number = i; tdr = u }) n → t ≡ u
  same_exported i t u n h k = by (order h.before h.after k.before k.after (sym h.parts ∙ k.parts))
    where
      by : Order h.before k.before → t ≡ u
      by (first m e) = sym ((subst (λ (r : Running). IsOnlyExported (world_of r i) n t) (sym (later_moment h.before m k.before e))
          (exported_once c i n t m (at_moment c h.before) (guarded_at h.before i) (only_exported_at h.before (record { number = i; tdr = t }) n h.then_so))).only u k.then_so.exporting k.then_so.own)
      by (second m e) = (subst (λ (r : Running). IsOnlyExported (world_of r i) n u) (sym (later_moment k.before m h.before e))
          (exported_once c i n u m (at_moment c k.before) (guarded_at k.before i) (only_exported_at k.before (record { number = i; tdr = u }) n k.then_so))).only t h.then_so.exporting h.then_so.own

  same_imported : (i t u n : ℕ) → WasImported c turns (record { number = i; tdr = t }) n → WasImported c turns (record { number = i; tdr = u }) n → t ≡ u
  same_imported i t u n h k = by (order h.before h.after k.before k.after (sym h.parts ∙ k.parts))
    where
      by : Order h.before k.before → t ≡ u
      by (first m e) = sym ((subst (λ (r : Running). IsOnlyImported (world_of r i) n t) (sym (later_moment h.before m k.before e))
          (imported_once c i n t m (at_moment c h.before) (guarded_at h.before i) (only_imported_at h.before (record { number = i; tdr = t }) n h.then_so))).only u k.then_so.importing k.then_so.own)
      by (second m e) = (subst (λ (r : Running). IsOnlyImported (world_of r i) n u) (sym (later_moment k.before m h.before e))
          (imported_once c i n u m (at_moment c k.before) (guarded_at k.before i) (only_imported_at k.before (record { number = i; tdr = u }) n k.then_so))).only t h.then_so.importing h.then_so.own

  -- so two of neighbouring modules with one TD are with the other, too
  one_source : (x y : Td) (n : ℕ) → x.number ≡ y.number → WasExported c turns x n → WasExported c turns y n → x ≡ y
  one_source x y n e h k = to_td x y e (same_exported y.number x.tdr y.tdr n (subst (λ (i : ℕ). WasExported c turns (record { number = i; tdr = x.tdr }) n) e h) k)

  one_destination : (x y : Td) (n : ℕ) → x.number ≡ y.number → WasImported c turns x n → WasImported c turns y n → x ≡ y
  one_destination x y n e h k = to_td x y e (same_imported y.number x.tdr y.tdr n (subst (λ (i : ℕ). WasImported c turns (record { number = i; tdr = x.tdr }) n) e h) k)

  abbrev Runs : Td → Type 0
  Runs x = list_any (λ s. op_number s == op_number ((world_of now x.number).tds.ops x.tdr)) running_ops ≡ true

  abbrev Waits : Td → Type 0
  Waits x = is_waiting ((world_of now x.number).tds.ops x.tdr) ≡ true

  sent_stops : (x : Td) → (world_of now x.number).tds.ops x.tdr ≡ op.PostExport → Runs x → ⊥
  sent_stops x e r = let no : false ≡ true = ap (λ (z : OpState). list_any (λ s. op_number s == op_number z) running_ops) (sym e) ∙ r in cc

  -- a TD was committed in the module of y, under the session
  record IsCommitted (y : Td) (n : ℕ) : Type 0 where
    start : Image
    given : (world_of now y.number).hidden.given n ≡ Some start

  rests_where : (x y : Td) (n : ℕ) → y.number ≡ suc x.number → WasExported c turns x n → IsCommitted y n → ((world_of now x.number).tds.ops x.tdr ≡ op.PostExport) × ((world_of now x.number).tds.sessions x.tdr ≡ n)
  rests_where x y n next h k = rests x n k.start h (subst (λ (i : ℕ). (world_of now i).hidden.given n ≡ Some k.start) next k.given)

  -- Above x stand those that it came from, each committed in the next one's module.
  data Above (x : Td) : Td → Type 0 where
    here : (y : Td) → y ≡ x → Above x y
    above : (y z : Td) (n : ℕ) → Above x z → z.number ≡ suc y.number → WasExported c turns y n → WasImported c turns z n → IsCommitted z n → Above x y

  -- All others of its lineage are imports that wait, of one of these.
  data Near (x : Td) : Td → Type 0 where
    up : (y : Td) → Above x y → Near x y
    aside : (y z : Td) (n : ℕ) → Above x z → y.number ≡ suc z.number → WasExported c turns z n → WasImported c turns y n → Waits y → Near x y

  module _ (x : Td) (live : Runs x) where
    back_up : (y z : Td) → AreJoined c turns z y → Above x y → Near x z
    back_up y z j a = by (is_due y j.session j.later) a
      where
        by : IsDue (world_of now y.number) y.tdr j.session → Above x y → Near x z
        by (committed start e ran) b = up z (above z y j.session a j.next j.earlier j.later (record { start = start; given = e }))
        by (waiting w own) (here _ e) = absurd (waiting_stops ((world_of now y.number).tds.ops y.tdr) w (subst Runs (sym e) live))
        by (waiting w own) (above _ u n b next h k done) = waits_ran ((world_of now y.number).tds.ops y.tdr) w (has_run y n h)

    session_of : (y : Td) (n : ℕ) → Waits y → WasImported c turns y n → (world_of now y.number).tds.sessions y.tdr ≡ n
    session_of y n w h = by (is_due y n h)
      where
        by : IsDue (world_of now y.number) y.tdr n → (world_of now y.number).tds.sessions y.tdr ≡ n
        by (waiting v own) = own
        by (committed start e ran) = waits_ran ((world_of now y.number).tds.ops y.tdr) w ran

    back : (y z : Td) → AreJoined c turns z y → Near x y → Near x z
    back y z j (up _ a) = back_up y z j a
    back y z j (aside _ v n a next h k w) =
        let same : n ≡ j.session = sym (session_of y n w k) ∙ session_of y j.session w j.later in
        let modules : v.number ≡ z.number = suc_same v.number z.number (sym next ∙ j.next) in
        let is : v ≡ z = one_source v z j.session modules (subst (λ (m : ℕ). WasExported c turns v m) same h) j.earlier in
        subst (λ (q : Td). Near x q) is (up v a)

    on_down : (y z : Td) → AreJoined c turns y z → Above x y → Near x z
    on_down y z j a = by (is_due z j.session j.later) a
      where
        by : IsDue (world_of now z.number) z.tdr j.session → Above x y → Near x z
        by (waiting w own) b = aside z y j.session a j.next j.earlier j.later w
        by (committed start e ran) (here _ is) = absurd (sent_stops y (rests_where y z j.session j.next j.earlier (record { start = start; given = e })).0 (subst Runs (sym is) live))
        by (committed start e ran) (above _ u n b next h k done) =
            let first = (rests_where y u n next h done).1 in
            let second = (rests_where y z j.session j.next j.earlier (record { start = start; given = e })).1 in
            let is : u ≡ z = one_destination u z j.session (next ∙ sym j.next) (subst (λ (m : ℕ). WasImported c turns u m) (sym first ∙ second) k) j.later in
            subst (λ (q : Td). Near x q) is (up u b)

    on : (y z : Td) → AreJoined c turns y z → Near x y → Near x z
    on y z j (up _ a) = on_down y z j a
    on y z j (aside _ v n a next h k w) = waits_ran ((world_of now y.number).tds.ops y.tdr) w (has_run y j.session j.earlier)

    near : (y : Td) → IsOfLineage c turns x y → Near x y
    near y (itself _ e) = up y (here y (sym e))
    near y (goes_on z _ l j) = on z y j (near z l)
    near y (goes_back z _ l j) = back z y j (near z l)

    alone : (y : Td) → Near x y → Runs y → x ≡ y
    alone y (up _ (here _ e)) r = sym e
    alone y (up _ (above _ z n a next h k done)) r = absurd (sent_stops y (rests_where y z n next h done).0 r)
    alone y (aside _ z n a next h k w) r = absurd (waiting_stops ((world_of now y.number).tds.ops y.tdr) w r)

pub at_most_one : AtMostOneMayRun
at_most_one c turns x y l p q = alone c turns x p.running y (near c turns x p.running y l) q.running

pub at_most_one_of_two : AtMostOneOfTwo
at_most_one_of_two c turns x y j p q =
    let same : x ≡ y = at_most_one c turns x y (goes_on x y (itself x refl) j) p q in
    own_next x.number (ap (λ (d : Td). d.number) same ∙ j.next)
