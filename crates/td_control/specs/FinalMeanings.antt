-- The leaf that ends a TD's building means its row.
use Rattle.std.proofs.Common.{◌≡◌, ℕ, zero, suc, ◌+◌, ◌-◌, ◌<◌, Bool, true, false, ◌==◌, ◌&&◌, nat_lt, List, [], ◌∷◌, ◌++◌, Option, None, refl, ap, sym, ◌∙◌, subst, inl, inr, arith}
use Rattle.std.specs.List.{list_all}
use Rattle.std.specs.Prelude.{if◌then◌else◌, nat_le}
use Rattle.std.proofs.lemmas.Bool.{eq-eqb, eqb-true, ltb-true}
use Rattle.std.proofs.lemmas.Bool.Decides.{nat_tests}
use Rattle.td_words.specs.declared.names.PageKind.TheVariants as kind
use Rattle.td_words.specs.declared.names.VcpuState.TheVariants as vcpu
use Rattle.td_words.specs.declared.names.Mode.TheVariants.{Shared, Exclusive}
use Rattle.td_words.specs.declared.machines.Machine.{Machine}
use Rattle.td_words.specs.declared.calls.Call.TheVariants as call
use Rattle.td_words.specs.declared.refusals.Status.TheVariants.{OperandInvalid, VcpuStateIncorrect}
use Rattle.td_words.specs.declared.replies.Value.TheVariants as value
use Rattle.td_words.specs.declared.replies.Reply.TheVariants.{Done}
use Rattle.td_words.specs.NameNumber.{vcpu_number}
use Rattle.td_words.specs.Place.{IsIn}
use Rattle.td_words.specs.Place as place
use Rattle.flat_core.specs.World.{World}
use Rattle.flat_core.specs.Processor.{LockId, OfPage, OfOp, Held}
use Rattle.flat_core.specs.Conditions.{same_vp_state, vps_ready}
use Rattle.flat_core.specs.Lawful.{Lawful, IsPageOf, key_owner}
use Rattle.flat_core.specs.TdRows.{finalize}
use Rattle.flat_core.specs.Event.{State}
use Rattle.flat_core.proofs.Tests.{by_test}
use Rattle.word_rules.specs.Lines.{in_lines}
use Rattle.word_rules.specs.Rules.{TdcsWord, Whole, KeepsNothing}
use Rattle.word_rules.specs.Spots.{or_unused, tdcs_classes, is_current, is_empty, slot_of}
use Rattle.word_rules.specs.Permissions.{MayAt, Owes, Reads}
use Rattle.word_rules.specs.Cells.{Shows, IsAs, lock_word, td_lock_lines, tdcs_lines}
use Rattle.lock_words.specs.Grips.{holds, holds_alone}
use Rattle.act_rules.proofs.Rows.{rows-respect}
use Rattle.leaf_engine.specs.declared.needs.Place.{Place}
use Rattle.leaf_engine.specs.Changes.{Memory, changed_all, changes_where}
use Rattle.leaf_engine.specs.Trees.{Tree, needs, acts}
use Rattle.leaf_engine.specs.Means.{Instant, IsHkid, Means, MeansRow, MayChange, Work, work_of, OfCall, hold}
use Rattle.leaf_parts.specs.Vps.{vps_tree, apart_in}
use Rattle.leaf_parts.proofs.Acted.{opening}
use Rattle.leaf_parts.proofs.Begun.{page_lock, op_lock, locks-kept, IsTd, TwoControls}
use Rattle.leaf_parts.proofs.Checks.{td-row-means, tdr-load}
use Rattle.leaf_parts.proofs.Hashers.{initialized, hasher-told, hashers-but}
use Rattle.leaf_parts.proofs.Keys.{hkid-in}
use Rattle.leaf_parts.proofs.Stored.{tdcs-changed}
use Rattle.leaf_parts.proofs.Vps.{vp-shown, vp-spot}
use Rattle.leaf_parts.proofs.VpTrees.{none-apart, vps-mean}
use Rattle.leaf_parts.proofs.Told.{tdcs-spot}
use Rattle.td_control.specs.FinalTrees.{word_in_hand, end_changes, final_changes, ready_vp, ready_tree, finalize_task}

-- another word of TDCS than MRTD's
outside : (i j : ℕ) → (nat_le 64 j && nat_lt j 70) ≡ true → (nat_le 64 i && nat_lt i 70) ≡ false → (i == j) ≡ false
outside i j within beyond = by_test (i == j)
    (λ y. (let same : i ≡ j = eqb-true i j y in let bad : true ≡ false = sym within ∙ (sym (ap (λ (x : ℕ). nat_le 64 x && nat_lt x 70) same) ∙ beyond) in cc))
    (λ n. n)

inside : (i : ℕ) → (nat_le 64 i && nat_lt i 70) ≡ true → (i ≡ 64 + (i - 64)) × (i - 64 < 6)
inside i h = (grind (arith, nat_tests), grind (arith, nat_tests))

-- words that show the state before show the one after, with these changes
module _ (m : Machine) (s : State) (mem : Memory) (t : ℕ) (sh : Shows m mem.words mem.slots s) (la : Lawful m s.world) (empty : mem.hand ≡ None) (x : IsTd m s.world t initialized) where
  abbrev w : World
  w = s.world

  abbrev w' : World
  w' = (finalize m t).act s.world

  abbrev y : TwoControls m s.world t
  y = x.controls

  abbrev h : ℕ
  h = s.world.tds.hkids t

  abbrev locks : LockId → ℕ
  locks = lock_word s.lps s.lp_count

  abbrev after : Memory
  after = changed_all (end_changes x.controls.tdcs (s.world.tds.hkids t)) mem

  itself : (t == t) ≡ true
  itself = eq-eqb t t refl

  its-page : (y.tdcs == y.tdcs) ≡ true
  its-page = eq-eqb y.tdcs y.tdcs refl

  -- MRTD's words
  mrtd-word : (k : ℕ) → word_in_hand k (mem.slots h) ≡ w'.tds.mrtds t k
  mrtd-word k = rw (hasher-told m w t mem.slots sh.hasher la x, itself) refl

  abbrev told : ℕ → ℕ → ℕ
  told i old =
      if i == 4 then 2
      else if i == 69 then word_in_hand 5 (mem.slots (s.world.tds.hkids t))
      else if i == 68 then word_in_hand 4 (mem.slots (s.world.tds.hkids t))
      else if i == 67 then word_in_hand 3 (mem.slots (s.world.tds.hkids t))
      else if i == 66 then word_in_hand 2 (mem.slots (s.world.tds.hkids t))
      else if i == 65 then word_in_hand 1 (mem.slots (s.world.tds.hkids t))
      else if i == 64 then word_in_hand 0 (mem.slots (s.world.tds.hkids t))
      else old

  abbrev After : ℕ → ℕ → Type 0
  After i old = IsAs (in_lines (td_lock_lines locks t (tdcs_lines w' t)) i) (told i old)

  mrtd-told : (k old : ℕ) → k < 6 → After (64 + k) old
  mrtd-told zero old b = mrtd-word 0
  mrtd-told (suc zero) old b = mrtd-word 1
  mrtd-told (suc (suc zero)) old b = mrtd-word 2
  mrtd-told (suc (suc (suc zero))) old b = mrtd-word 3
  mrtd-told (suc (suc (suc (suc zero)))) old b = mrtd-word 4
  mrtd-told (suc (suc (suc (suc (suc zero))))) old b = mrtd-word 5
  mrtd-told (suc (suc (suc (suc (suc (suc k)))))) old b = absurd (omega (arith, b))

  op-told : (old : ℕ) → After 4 old
  op-told old = rw itself refl

  same-lines : (i : ℕ) → (i == 4) ≡ false → (nat_le 64 i && nat_lt i 70) ≡ false → in_lines (td_lock_lines locks t (tdcs_lines w' t)) i ≡ in_lines (td_lock_lines locks t (tdcs_lines w t)) i
  same-lines i a b = rw (a, b) refl

  same-told : (i old : ℕ) → (i == 4) ≡ false → (nat_le 64 i && nat_lt i 70) ≡ false → told i old ≡ old
  same-told i old a b = rw (a, outside i 69 refl b, outside i 68 refl b, outside i 67 refl b, outside i 66 refl b, outside i 65 refl b, outside i 64 refl b) refl

  lines-told : (i old : ℕ) → IsAs (in_lines (td_lock_lines locks t (tdcs_lines w t)) i) old → After i old
  lines-told i old was = by_test (i == 4)
      (λ e. subst (λ (j : ℕ). After j old) (sym (eqb-true i 4 e)) (op-told old))
      (λ a. by_test (nat_le 64 i && nat_lt i 70)
      (λ e. (let at = inside i e in subst (λ (j : ℕ). After j old) (sym at.0) (mrtd-told (i - 64) old at.1)))
      (λ b. subst (λ (v : ℕ). IsAs (in_lines (td_lock_lines locks t (tdcs_lines w' t)) i) v) (sym (same-told i old a b))
      (subst (λ (c : Option ℕ). IsAs c old) (sym (same-lines i a b)) was)))

  pub finalized : Shows m after.words after.slots (record s { world = w' })
  finalized = record {
    word = tdcs-changed m s mem.words t y.tdcs y.root sh.word x.alive.life y.list y.tdcs_page y.tdcs_in w' (λ u n i. rw n refl) after.words (λ r. refl) (λ r. refl) (λ k. refl) (λ r i o. rw o refl)
        (λ i was. rw its-page (lines-told i (mem.words (place.Word y.tdcs i)) was));
    hasher = hashers-but m w w' t mem.slots after.slots la x.alive refl (λ u n. rw n refl) (λ k n. rw n refl) (rw (x.configured, itself) tt) sh.hasher;
  }

module _ (m : Machine) (c : Instant) (t : ℕ) (in_page : nat_lt t m.pages ≡ true) (la : Lawful m c.state.world) (sh : Shows m c.memory.words c.memory.slots c.state) (empty : c.memory.hand ≡ None) (x : IsTd m c.state.world t initialized) where
  abbrev v : World
  v = c.state.world

  abbrev v' : World
  v' = (finalize m t).act c.state.world

  abbrev work : Work
  work = work_of (OfCall (finalize m t))

  abbrev both : List Held
  both = op_lock t Exclusive ∷ page_lock t Shared ∷ []

  abbrev z : TwoControls m c.state.world t
  z = x.controls

  abbrev hkid : ℕ
  hkid = c.state.world.tds.hkids t

  its-in : t < m.pages
  its-in = ltb-true t m.pages in_page

  tdr-held : holds (both ++ c.kept) (OfPage t) ≡ true
  tdr-held = rw (eq-eqb t t refl) refl

  op-held : holds (both ++ c.kept) (OfOp t) ≡ true
  op-held = rw (eq-eqb t t refl) refl

  op-alone : holds_alone (both ++ c.kept) (OfOp t) ≡ true
  op-alone = rw (eq-eqb t t refl) refl

  range : IsHkid m hkid
  range = la.keys.in_range t x.alive

  -- words of TDCS

  reads-tdcs : (i : ℕ) → or_unused (in_lines (tdcs_classes (is_current v t) (is_empty v t)) i) ≡ TdcsWord → Reads (hold c both) v (place.Word z.tdcs i) Whole
  reads-tdcs i e = rw (tdcs-spot v t i z.tdcs (z.root ∷ []) z.list z.tdcs_page, e) (inr (inl (tdr-held, (op-held, tt))))

  owes-tdcs : (i : ℕ) → i < 512 → or_unused (in_lines (tdcs_classes (is_current v' t) (is_empty v' t)) i) ≡ TdcsWord → IsIn m (place.Word z.tdcs i) × Owes (hold c both) v' (place.Word z.tdcs i) KeepsNothing
  owes-tdcs i b e = ((z.tdcs_in, b), rw (tdcs-spot v' t i z.tdcs (z.root ∷ []) z.list (record { kind = z.tdcs_page.kind; owner = z.tdcs_page.owner }), e) (inr (inl (tdr-held, (op-alone, tt)))))

  may-swap : MayAt (hold c both) (slot_of (key_owner (v.key_table.keys hkid))) (λ k. Rattle.word_rules.specs.Rules.writes k KeepsNothing)
  may-swap = rw (la.keys.owner t x.alive) (inl (tdr-held, (op-alone, tt)))

  may-change : MayChange m (hold c both) v v' c.memory (end_changes z.tdcs hkid)
  may-change =
      let a = owes-tdcs 64 (omega arith) refl in
      let b = owes-tdcs 65 (omega arith) refl in
      let d = owes-tdcs 66 (omega arith) refl in
      let e = owes-tdcs 67 (omega arith) refl in
      let f = owes-tdcs 68 (omega arith) refl in
      let g = owes-tdcs 69 (omega arith) refl in
      let o = owes-tdcs 4 (omega arith) refl in
      ((range, may-swap), (a, (b, (d, (e, (f, (g, ((o.0, (KeepsNothing, o.1, tt)), tt))))))))

  abbrev ready : List ℕ → Bool
  ready vs = list_all (λ p. same_vp_state (v.vps.states p) vcpu.Ready) vs

  ended : ready (v.tds.vps t) ≡ true → Means m c work both (acts (Done value.Nothing) (end_changes z.tdcs hkid)) []
  ended all = (
    record {
      answers = record { reply_is = refl; cached_is = refl; enters_is = refl; notes_are = refl; tells_are = refl; bundles_are = refl };
      fills_allowed = tt;
      respects = rows-respect (opening m) 0 (call.MrFinalize t) (hold c both) v la (in_page, (rw x.alive.kind refl, (rw x.configured refl, (x.two, (x.op, (all, tt))))))
          (tdr-held, ((op-held, op-alone), tt));
      locks_stay = locks-kept v v' refl (λ u a. record { kind = a.kind; life = a.life }) both;
      shows = finalized m c.state c.memory t sh la empty x;
    },
    may-change,
  )

  ends : ready (v.tds.vps t) ≡ true → Means m c work both (acts (Done value.Nothing) (final_changes m z.tdcs hkid)) []
  ends all = subst (λ (b : Bool). Means m c work both (acts (Done value.Nothing) (changes_where b (end_changes z.tdcs hkid))) []) (sym (hkid-in m hkid range)) (ended all)

  abbrev last : Tree
  last = acts (Done value.Nothing) (final_changes m x.controls.tdcs (c.state.world.tds.hkids t))

  reads-state : (p : ℕ) → IsPageOf v.pages t p kind.Tdvpr → Reads (hold c both) v (place.Word p 1) Whole
  reads-state p its = rw (vp-spot v t p 1 its) (inr (inl (tdr-held, (op-alone, tt))))

  says-state : (p : ℕ) → IsPageOf v.pages t p kind.Tdvpr → p < m.pages → (c.memory.words (place.Word p 1) ≡ vcpu_number (v.vps.states p)) × Reads (hold c both) v (place.Word p 1) Whole
  says-state p its p_in = (vp-shown m c.memory.words c.memory.slots c.state sh t x.alive.life p 1 its p_in (omega arith), reads-state p its)

  abbrev checked : ℕ → Tree
  checked created = needs (created == 0) (VcpuStateIncorrect vcpu.Created) last

  vps-ready : Means m c work both (vps_tree m.pages (ready_vp z.tdcs) checked) (vps_ready v t ∷ [])
  vps-ready =
      let states : ℕ → ℕ = λ p. vcpu_number (v.vps.states p) in
      let all : (apart_in states (vcpu_number vcpu.Ready) (v.tds.vps t) == 0) ≡ ready (v.tds.vps t) = none-apart states (vcpu_number vcpu.Ready) (v.tds.vps t) in
      vps-mean m c work both (vps_ready v t ∷ []) t la sh x.alive z reads-tdcs 1 (vcpu_number vcpu.Ready) states (omega arith) says-state checked (all, λ e. refl, λ e. ends e)

  ready-means : Means m c work both (ready_tree m.pages t z.tdcs (λ k. acts (Done value.Nothing) (final_changes m z.tdcs k))) (vps_ready v t ∷ [])
  ready-means =
      tdr-load m c work both sh t 1 hkid x.alive.kind x.own its-in (omega arith) refl (inl (tdr-held, tt))
      (λ a. vps_tree m.pages (ready_vp z.tdcs) (λ created. needs (created == 0) (VcpuStateIncorrect vcpu.Created) (acts (Done value.Nothing) (final_changes m z.tdcs a)))) (vps_ready v t ∷ []) vps-ready

pub finalize-means : (p : Place) (t : ℕ) → MeansRow (finalize_task p t)
finalize-means p t = record {
  means = λ c at. td-row-means p.machine c (work_of (OfCall (finalize p.machine t))) t at.lawful at.shown ((nat_lt t p.machine.pages, OperandInvalid 1) ∷ []) (λ a. ltb-true t p.machine.pages a.0) Exclusive initialized
      (λ td. ready_tree p.machine.pages t td.tdcs (λ k. acts (Done value.Nothing) (final_changes p.machine td.tdcs k))) (vps_ready c.state.world t ∷ []) (λ a x. ready-means p.machine c t a.0 at.lawful at.shown at.empty_hand x);
}
