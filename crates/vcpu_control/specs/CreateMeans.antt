-- Behind the beginning of its row the leaf that creates a virtual processor means the row.
use Rattle.std.proofs.Common.{◌≡◌, ℕ, ◌+◌, ◌-◌, ◌<◌, ◌≤◌, Bool, true, false, ◌==◌, ◌&&◌, if◌then◌else◌, List, [], ◌∷◌, ◌++◌, length, Option, Some, None, refl, ap, ◌∙◌, inl, inr, arith}
use Rattle.std.specs.Prelude.{nat_le, nat_lt, not}
use Rattle.std.proofs.lemmas.Bool.{eq-eqb, ltb-true, lt-ltb, leb-true, not-true}
use Rattle.std.proofs.lemmas.Bool.Decides.{nat_tests}
use Rattle.td_words.specs.declared.names.PageKind.TheVariants as kind
use Rattle.td_words.specs.declared.names.OpState.{OpState}
use Rattle.td_words.specs.declared.names.OpState.TheVariants as op
use Rattle.td_words.specs.declared.names.Mode.TheVariants.{Exclusive}
use Rattle.td_words.specs.declared.calls.Call.TheVariants as call
use Rattle.td_words.specs.declared.machines.Machine.{Machine}
use Rattle.td_words.specs.declared.places.TheConstants.{TDCS_VPS_EXPECTED}
use Rattle.td_words.specs.Place as place
use Rattle.flat_core.specs.World.{World, put}
use Rattle.flat_core.specs.Processor.{OfPage, OfOp}
use Rattle.flat_core.specs.Conditions.{is_host, vp_limit, vp_room, host_page, page_exclusive}
use Rattle.flat_core.specs.Effects.{add_vp}
use Rattle.flat_core.specs.Lawful.{Lawful, ArePagesOf}
use Rattle.flat_core.specs.VpRows.{create_vp}
use Rattle.flat_core.proofs.Tests.{by_test, host_kind}
use Rattle.word_rules.specs.Guards.{Grip, Locked, Meets}
use Rattle.word_rules.specs.Rules.{Class, VcpuWord, Association, Unused, Whole, KeepsNothing, owes}
use Rattle.word_rules.specs.Lines.{in_lines}
use Rattle.word_rules.specs.Spots.{guard_at, or_unused, vp_classes}
use Rattle.word_rules.specs.Cells.{Shows, IsAs, lock_word, one_of_parity, entered_of_parity, vp_lines}
use Rattle.act_rules.proofs.Rows.{rows-respect}
use Rattle.leaf_engine.specs.Trees.{Load}
use Rattle.leaf_engine.specs.Means.{Instant, Means, Work, work_of, OfCall, hold}
use Rattle.leaf_parts.specs.ListTrees.{listed_tree}
use Rattle.leaf_parts.proofs.Acted.{opening}
use Rattle.leaf_parts.proofs.Aside.{apart}
use Rattle.leaf_parts.proofs.Begun.{IsTd}
use Rattle.leaf_parts.proofs.Checks.{spot_of, at-spot, tdcs-load}
use Rattle.leaf_parts.proofs.Lines.{each-may}
use Rattle.leaf_parts.proofs.Vps.{vp-line, vp-class, vp-spot}
use Rattle.vcpu_control.specs.VpTrees.{vp_list, create_room, create_rest}
use Rattle.vcpu_control.specs.VpLocks.{td_locks, page_locks, td-held, op-held, held-td, held-op, held-page, alone-page, alone-op}
use Rattle.vcpu_control.specs.TdcsLists.{last-one, others, one-longer, tdcs_word, ListsInTdcs, listed-means}

-- room

limit_small : (o : OpState) (e : ℕ) → e ≤ 8 → vp_limit o e ≤ 8
limit_small op.MemoryImport e h = h
limit_small _ e h = omega arith

room_told : (n l : ℕ) → l ≤ 8 → (nat_lt n 8 && nat_lt n l) ≡ nat_lt n l
room_told n l few = by_test (nat_lt n l)
    (λ y. (let lt : n < l = ltb-true n l y in let eight : nat_lt n 8 ≡ true = lt-ltb n 8 (omega arith) in rw (y, eight) refl))
    (λ y. by_test (nat_lt n 8) (λ a. rw (y, a) refl) (λ a. rw (y, a) refl))

room_few : (n l : ℕ) → l ≤ 8 → nat_lt n l ≡ true → n < 8
room_few n l few y = (let lt : n < l = ltb-true n l y in omega arith)

-- each word of the new TDVPR page may still be stored
vp-owed : (g : Grip) (t p i : ℕ) → g.has (Locked (OfPage t)) ≡ true → g.has (Locked (OfOp t)) ≡ true → g.sole (Locked (OfPage p)) ≡ true
    → Meets g (guard_at (spot_of (or_unused (in_lines vp_classes i)) t p)) (owes (or_unused (in_lines vp_classes i)) KeepsNothing)
vp-owed g t p i td op own =
    let P : Class → Type 0 = λ c. Meets g (guard_at (spot_of c t p)) (owes c KeepsNothing) in
    let vcpu : P VcpuWord = inr (inl (td, (op, (own, tt)))) in
    let association : P Association = inl (td, (own, tt)) in
    let unused : P Unused = inl (td, (own, tt)) in
    each-may P vp_classes (vcpu, (vcpu, (association, (vcpu, (vcpu, (vcpu, (λ j. vcpu, unused))))))) i

module _ (m : Machine) (c : Instant) (t p : ℕ) (la : Lawful m c.state.world) (sh : Shows m c.memory.words c.memory.slots c.state)
    (x : IsTd m c.state.world t (op.Initialized ∷ op.MemoryImport ∷ [])) (tdr_page : nat_lt t m.pages ≡ true) (page : nat_lt p m.pages ≡ true) (differ : not (p == t) ≡ true) where
  abbrev w : World
  w = c.state.world

  abbrev k : Work
  k = work_of (OfCall (create_vp m t p))

  abbrev n : ℕ
  n = length (w.tds.vps t)

  abbrev g : Grip
  g = hold c (page_locks t p Exclusive)

  other : (p == t) ≡ false
  other = not-true (p == t) differ

  -- its TDCS
  abbrev d : ℕ
  d = x.controls.tdcs

  limit : vp_limit (w.tds.ops t) (w.tds.vps_expected t) ≤ 8
  limit = limit_small (w.tds.ops t) (w.tds.vps_expected t) (la.tds.vps_expected t)

  itself : (q : ℕ) → (q == q) ≡ true
  itself q = eq-eqb q q refl

  -- the world once it is listed, and its act
  abbrev listed : World
  listed = add_vp t p w

  abbrev w' : World
  w' = k.act w

  module _ (room : nat_lt n (vp_limit (w.tds.ops t) (w.tds.vps_expected t)) ≡ true) (host : is_host w p ≡ true) where
    nda : w.pages.kinds p ≡ kind.Nda
    nda = host_kind (w.pages.kinds p) host

    eight : n < 8
    eight = room_few n (vp_limit (w.tds.ops t) (w.tds.vps_expected t)) limit room

    -- none of the others is in guest at another epoch than before, and the new one isn't in guest
    not-entered : (u b : ℕ) (vs : List ℕ) → ArePagesOf w.pages u kind.Tdvpr vs → entered_of_parity b (put w.vps.entered p None) vs ≡ entered_of_parity b w.vps.entered vs
    not-entered u b [] h = refl
    not-entered u b (v ∷ vs) h = (let o : (v == p) ≡ false = apart w.pages.kinds v p kind.Tdvpr kind.Nda h.0.kind nda (λ e. cc) in rw o (ap (λ (z : ℕ). one_of_parity b (w.vps.entered v) + z) (not-entered u b vs h.1)))

    one-more : (b : ℕ) (vs : List ℕ) → entered_of_parity b (put w.vps.entered p None) (vs ++ p ∷ []) ≡ entered_of_parity b (put w.vps.entered p None) vs
    one-more b [] = rw (itself p) refl
    one-more b (v ∷ vs) = ap (λ (z : ℕ). one_of_parity b (put w.vps.entered p None v) + z) (one-more b vs)

    entered-same : (b : ℕ) → entered_of_parity b (put w.vps.entered p None) (w.tds.vps t ++ p ∷ []) ≡ entered_of_parity b w.vps.entered (w.tds.vps t)
    entered-same b = one-more b (w.tds.vps t) ∙ not-entered t b (w.tds.vps t) (la.tds.vps t x.alive)

    -- a word of TDCS that neither names it nor counts it
    other-word : (i : ℕ) → (i == 15) ≡ false → (i == 40 + n) ≡ false → tdcs_word c.state listed t i ≡ tdcs_word c.state w t i
    other-word i a b = by_test (nat_le 40 i)
        (λ y. (let long : 40 ≤ i = leb-true 40 i y in
        let o : (i - 40 == n) ≡ false = grind (arith, nat_tests) in rw (itself t, a, entered-same (i - 6), y, others p (w.tds.vps t) (i - 40) o) refl))
        (λ y. rw (itself t, a, entered-same (i - 6), y) refl)

    -- a word of its own page
    or-zero : (b : Bool) (o : Option ℕ) → IsAs o 0 → IsAs (if b then Some 0 else o) 0
    or-zero true o a = refl
    or-zero false o a = a

    new-line : (i : ℕ) → IsAs (in_lines (vp_lines w' p) i) (if i == 0 then n else 0)
    new-line i = by_test (i == 0)
        (λ e. rw (itself p, e) refl)
        (λ e. rw (itself p, e) (or-zero (i == 1) _ (or-zero (i == 2) _ (or-zero (i == 3) _ (or-zero (i == 4) _ (or-zero (i == 5) _ (or-zero (nat_le 8 i && nat_lt i 16) None tt)))))))

    -- the locks that it holds
    td : g.has (Locked (OfPage t)) ≡ true
    td = held-td t p Exclusive c.kept other

    op_held : g.has (Locked (OfOp t)) ≡ true
    op_held = held-op t p Exclusive c.kept other

    own : g.sole (Locked (OfPage p)) ≡ true
    own = alone-page t p Exclusive c.kept other

    in-list : ListsInTdcs c (vp_list d) t p n listed
    in-list = record {
      apart = grind (arith, nat_tests);
      named = vp-line listed (lock_word c.state.lps c.state.lp_count) t n eight ∙ rw (itself t) (last-one p (w.tds.vps t));
      more = rw (itself t) (ap Some (one-longer p (w.tds.vps t)));
      others = other-word;
      elsewhere = λ u alive o i. rw (o, not-entered u (i - 6) (w.tds.vps u) (la.tds.vps u alive)) refl;
      vps = λ q i o. rw o refl;
      streams = λ q i o. refl;
      new = λ i. rw x.alive.life (new-line i);
      first_class = λ current empty. vp-class current empty n eight;
      count_class = λ current empty. refl;
      page = λ its i. at-spot g w' (place.Word p i) (spot_of (or_unused (in_lines vp_classes i)) t p) (λ z. owes z KeepsNothing) (vp-spot w' t p i its) (vp-owed g t p i td op_held own);
      respects = rows-respect (opening m) 0 (call.VpCreate t p) g w la
          (tdr_page, (page, (differ, (rw x.alive.kind refl, (rw x.configured refl, (x.two, (x.op, (room, (host, tt)))))))))
          (td, ((op_held, alone-op t p c.kept), ((held-page t p Exclusive c.kept other, own), tt)));
    }

  paged : nat_lt n (vp_limit (w.tds.ops t) (w.tds.vps_expected t)) ≡ true → Means m c k (td_locks t Exclusive) (listed_tree (vp_list d) m.pages t p n) (page_exclusive p ∷ host_page w p ∷ [])
  paged room =
      let eight : n < 8 = room_few n (vp_limit (w.tds.ops t) (w.tds.vps_expected t)) limit room in
      listed-means m c t p la sh (op.Initialized ∷ op.MemoryImport ∷ []) x (ltb-true t m.pages tdr_page) (ltb-true p m.pages page) other (vp_list d) refl n listed (create_vp m t p) refl
      (record { reply_is = refl; cached_is = refl; enters_is = refl; notes_are = refl; tells_are = refl; bundles_are = refl })
      (record { control = x.controls.tdcs_in; listed = omega (arith, eight); total = omega arith; told = omega arith }) (in-list room)

  -- the number there is, and the expected one
  pub create_rest-means : Means m c k (td_locks t Exclusive) (create_rest m.pages t (record { tdcs = d; op = w.tds.ops t }) p) (vp_room w t ∷ page_exclusive p ∷ host_page w p ∷ [])
  create_rest-means =
      tdcs-load m c k (td_locks t Exclusive) sh t 15 n x.alive x.controls (omega arith) refl (inr (inl (td-held t p Exclusive c.kept other, (op-held t p Exclusive c.kept other, tt)))) (λ count. Load Whole (place.Word d TDCS_VPS_EXPECTED) (λ expected. create_room m.pages t d (w.tds.ops t) p count expected)) (vp_room w t ∷ page_exclusive p ∷ host_page w p ∷ [])
      (tdcs-load m c k (td_locks t Exclusive) sh t 14 (w.tds.vps_expected t) x.alive x.controls (omega arith) refl (inr (inl (td-held t p Exclusive c.kept other, (op-held t p Exclusive c.kept other, tt)))) (λ expected. create_room m.pages t d (w.tds.ops t) p n expected) (vp_room w t ∷ page_exclusive p ∷ host_page w p ∷ [])
      (room_told n (vp_limit (w.tds.ops t) (w.tds.vps_expected t)) limit, λ e. refl, paged))
