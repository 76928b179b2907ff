-- The leaf of VP.ENTER means its row.
use Rattle.std.proofs.Common.{◌≡◌, ℕ, zero, suc, ◌+◌, ◌%◌, ◌<◌, Bool, true, false, not, ◌==◌, List, [], ◌∷◌, ◌++◌, Option, Some, None, slice_index, refl, ap, sym, ◌∙◌, subst, inl, inr, arith}
use Rattle.std.proofs.lemmas.Bool.{eq-eqb, ltb-true, not-true}
use Rattle.td_words.specs.declared.names.PageKind.TheVariants as kind
use Rattle.td_words.specs.declared.names.VcpuState.{VcpuState}
use Rattle.td_words.specs.declared.names.VcpuState.TheVariants as vcpu
use Rattle.td_words.specs.declared.names.Mode.TheVariants.{Shared}
use Rattle.td_words.specs.declared.machines.Machine.{Machine}
use Rattle.td_words.specs.declared.refusals.Status.TheVariants.{VcpuStateIncorrect, VcpuAssociated}
use Rattle.td_words.specs.declared.places.TheConstants.{TDR_ROOT, VP_STATE, VP_LAST_EPOCH, VP_POSITION}
use Rattle.td_words.specs.NameNumber.{vcpu_number}
use Rattle.td_words.specs.Place as place
use Rattle.flat_core.specs.World.{World}
use Rattle.flat_core.specs.Processor.{OfEpoch, Held}
use Rattle.flat_core.specs.Row.{Item}
use Rattle.td_words.specs.declared.replies.Reply.{Reply}
use Rattle.flat_core.specs.Conditions.{same_vp_state, is_elsewhere, lp_shown, not_elsewhere, epoch_shared, td_page, vp_in, page_exclusive, running_ops}
use Rattle.flat_core.specs.Lawful.{Lawful, IsPageOf}
use Rattle.flat_core.specs.VpRows.{enter_vp}
use Rattle.word_rules.specs.Guards.{Grip}
use Rattle.word_rules.specs.Rules.{Class, EpochCount, Association, VcpuWord, Whole, KeepsNothing, reads, writes, owes}
use Rattle.word_rules.specs.Lines.{in_lines}
use Rattle.word_rules.specs.Spots.{or_unused, vp_classes, tdcs_classes, is_current, is_empty}
use Rattle.word_rules.specs.Permissions.{MayAt, Respects}
use Rattle.word_rules.specs.Cells.{Shows, IsAs, vp_lines, associated_word}
use Rattle.act_rules.proofs.Respected.{effects-respect}
use Rattle.lock_words.specs.Grips.{holds}
use Rattle.leaf_engine.proofs.Facts.{outside-none}
use Rattle.leaf_engine.specs.Trees as tree
use Rattle.leaf_engine.specs.Means.{Instant, Means, Work, work_of, OfCall, hold}
use Rattle.leaf_parts.specs.Words.{page_told}
use Rattle.leaf_parts.proofs.Begun.{IsTd}
use Rattle.leaf_parts.proofs.Checks.{spot_of, at-spot, td-page-means, td-row-means, tdr-load, tdcs-load}
use Rattle.leaf_parts.proofs.Told.{page-back, tdcs-spot}
use Rattle.leaf_parts.proofs.Vps.{vp-shown, vp-spot}
use Rattle.vcpu_control.specs.Words.{vcpu_told}
use Rattle.vcpu_control.specs.VpLocks.{td_locks, page_locks, held-td, held-op, held-page, alone-page}
use Rattle.vcpu_control.specs.EnterTrees.{lp_told, enter_changes, enter_answer, enter_guest, enter_epoch, enter_associated, enter_rest, entry_arguments, EntryMeans}
use Rattle.vcpu_control.specs.EnterShows.{entered}

vcpu_again : (s : VcpuState) → vcpu_told (vcpu_number s) ≡ s
vcpu_again vcpu.Created = refl
vcpu_again vcpu.Ready = refl

pub lp-again : (o : Option ℕ) → lp_told (associated_word o) ≡ o
lp-again None = refl
lp-again (Some lp) = (let one : lp + 1 ≡ suc lp = omega arith in rw one refl)

-- the class of the counts
pub count-class : (current empty : ℕ → Bool) (b : ℕ) → b < 2 → or_unused (in_lines (tdcs_classes current empty) (6 + b)) ≡ EpochCount (current b) (empty b)
count-class current empty zero h = refl
count-class current empty (suc zero) h = refl
count-class current empty (suc (suc b)) h = absurd (omega (arith, h))

-- the locks at its end: E besides
abbrev enter_locks : ℕ → ℕ → List Held
enter_locks t v = record { lock = OfEpoch t; mode = Shared } ∷ page_locks t v Shared

module _ (m : Machine) (c : Instant) (me t v most : ℕ) (few : m.pages < 65536) (la : Lawful m c.state.world) (sh : Shows m c.memory.words c.memory.slots c.state) (x : IsTd m c.state.world t running_ops) (in_page : v < m.pages) (other : (v == t) ≡ false)
    (out : is_elsewhere me (c.state.world.vps.associated v) ≡ false → c.state.world.vps.entered v ≡ None) where
  abbrev w : World
  w = c.state.world

  abbrev k : Work
  k = work_of (OfCall (enter_vp m me t v most))

  abbrev d : ℕ
  d = x.controls.tdcs

  abbrev e : ℕ
  e = w.tds.epochs t

  abbrev w' : World
  w' = (enter_vp m me t v most).act w

  module _ (its : IsPageOf c.state.world.pages t v kind.Tdvpr) where
    -- a word of the virtual processor
    vp-load : (hs : List Held) (i n : ℕ) → i < 512 → in_lines (vp_lines w v) i ≡ Some n → MayAt (hold c hs) (spot_of (or_unused (in_lines vp_classes i)) t v) (λ z. reads z Whole)
        → (further : ℕ → tree.Tree) (rest : List (Item Reply)) → Means m c k hs (further n) rest → Means m c k hs (tree.Load Whole (place.Word v i) further) rest
    vp-load hs i n i_in line may further rest h =
        let word : c.memory.words (place.Word v i) ≡ n = subst (λ (o : Option ℕ). IsAs o (c.memory.words (place.Word v i))) line (vp-shown m c.memory.words c.memory.slots c.state sh t x.alive.life v i its in_page i_in) in (
          (in_page, i_in),
          inl (at-spot (hold c hs) w (place.Word v i) (spot_of (or_unused (in_lines vp_classes i)) t v) (λ z. reads z Whole) (vp-spot w t v i its) may),
          subst (λ (z : ℕ). Means m c k hs (further z) rest) (sym word) h,
        )

    abbrev g : Grip
    g = hold c (enter_locks t v)

    epoch_held : holds (enter_locks t v ++ c.kept) (OfEpoch t) ≡ true
    epoch_held = rw (eq-eqb t t refl) refl

    parity : e % 2 < 2
    parity = omega arith

    may_count : MayAt g (spot_of (or_unused (in_lines (tdcs_classes (is_current w t) (is_empty w t)) (6 + e % 2))) t d) (λ z. writes z KeepsNothing)
    may_count = subst (λ (z : Class). MayAt g (spot_of z t d) (λ y. writes y KeepsNothing)) (sym (count-class (is_current w t) (is_empty w t) (e % 2) parity))
        (rw (eq-eqb (e % 2) (e % 2) refl) (inr (inl (held-td t v Shared c.kept other, (held-op t v Shared c.kept other, tt)))))

    respects : Respects g w w'
    respects = (effects-respect g w).enter m me t v la its.owner (held-td t v Shared c.kept other)

    after-its : IsPageOf w'.pages t v kind.Tdvpr
    after-its = record { kind = its.kind; owner = its.owner }

    -- its end, where these are told
    abbrev ended : (index position root : ℕ) → tree.Tree
    ended index position root = tree.End (enter_answer t v most (w.vps.associated v) (w.vps.lasts v) e index position root) [] (enter_changes d me v e)

    its_end : is_elsewhere me (w.vps.associated v) ≡ false → Means m c k (enter_locks t v) (ended (w.vps.indexes v) (w.vps.positions v) (slice_index (w.tds.controls t) 1)) []
    its_end here = (
      record {
        answers = record { reply_is = refl; cached_is = refl; enters_is = refl; notes_are = refl; tells_are = refl; bundles_are = refl };
        fills_allowed = tt;
        respects = respects;
        locks_stay = ((refl, λ y. record { alive = record { kind = y.alive.kind; life = y.alive.life }; has_tdcs = y.has_tdcs }), ((refl, λ y. y), ((refl, λ y. record { alive = record { kind = y.alive.kind; life = y.alive.life }; has_tdcs = y.has_tdcs }), ((refl, λ y. y), tt))));
        shows = entered m c.state c.memory me t v d x.controls.root sh la x.alive x.controls.list x.controls.tdcs_page its x.controls.tdcs_in in_page (out here);
      },
      (
        ((x.controls.tdcs_in, omega (arith, parity)), at-spot g w (place.Word d (6 + e % 2)) (spot_of (or_unused (in_lines (tdcs_classes (is_current w t) (is_empty w t)) (6 + e % 2))) t d) (λ z. writes z KeepsNothing) (tdcs-spot w t (6 + e % 2) d (x.controls.root ∷ []) x.controls.list x.controls.tdcs_page) may_count),
        (
          ((in_page, omega arith), (KeepsNothing, at-spot g w' (place.Word v 2) (spot_of Association t v) (λ z. owes z KeepsNothing) (vp-spot w' t v 2 after-its) (inl (held-td t v Shared c.kept other, (alone-page t v Shared c.kept other, tt))), tt)),
          (((in_page, omega arith), (KeepsNothing, at-spot g w' (place.Word v 3) (spot_of VcpuWord t v) (λ z. owes z KeepsNothing) (vp-spot w' t v 3 after-its) (inr (inl (held-td t v Shared c.kept other, (held-op t v Shared c.kept other, (alone-page t v Shared c.kept other, tt))))), tt)), tt),
        ),
      ),
    )

    -- where the guest begins
    at_guest : is_elsewhere me (w.vps.associated v) ≡ false → Means m c k (enter_locks t v) (enter_guest m.pages me t d v most (w.vps.associated v) (w.vps.lasts v) e) []
    at_guest here =
        let last : slice_index (w.tds.controls t) 1 ≡ x.controls.root = ap (λ (cs : List ℕ). slice_index cs 1) x.controls.list in
        let told : page_told m.pages (slice_index (w.tds.controls t) 1) ≡ slice_index (w.tds.controls t) 1 = ap (page_told m.pages) last ∙ (page-back m.pages x.controls.root x.controls.root_in ∙ sym last) in
        vp-load (enter_locks t v) 0 (w.vps.indexes v) (omega arith) refl (inr (inr (inl (held-td t v Shared c.kept other, (held-op t v Shared c.kept other, (held-page t v Shared c.kept other, tt))))))
        (λ index. tree.Load Whole (place.Word v VP_POSITION) (λ position. tree.Load Whole (place.Word t TDR_ROOT) (λ root. ended index position (page_told m.pages root)))) []
        (vp-load (enter_locks t v) 4 (w.vps.positions v) (omega arith) refl (inr (inr (inl (held-td t v Shared c.kept other, (held-op t v Shared c.kept other, (held-page t v Shared c.kept other, tt))))))
        (λ position. tree.Load Whole (place.Word t TDR_ROOT) (λ root. ended (w.vps.indexes v) position (page_told m.pages root))) []
        (tdr-load m c k (enter_locks t v) sh t 5 (slice_index (w.tds.controls t) 1) x.alive.kind (la.pages.tdr t x.alive.kind) (la.pages.in_machine t (let is = x.alive.kind in rw is refl)) (omega arith) refl (inl (held-td t v Shared c.kept other, tt))
        (λ root. ended (w.vps.indexes v) (w.vps.positions v) (page_told m.pages root)) []
        (subst (λ (r : ℕ). Means m c k (enter_locks t v) (ended (w.vps.indexes v) (w.vps.positions v) r) []) (sym told) (its_end here))))

    -- TD_EPOCH and the last epoch
    at_epoch : is_elsewhere me (w.vps.associated v) ≡ false → Means m c k (page_locks t v Shared) (enter_epoch m.pages me t d v most (w.vps.associated v)) (epoch_shared t ∷ [])
    at_epoch here = (
      refl,
      refl,
      record {
        in_machine = (x.controls.tdcs_in, omega arith);
        at = rw x.controls.list refl;
        stands = record { alive = x.alive; has_tdcs = rw x.controls.list refl };
        allowed = rw (tdcs-spot w t 2 d (x.controls.root ∷ []) x.controls.list x.controls.tdcs_page) (inl (held-td t v Shared c.kept other, tt));
      },
      tdcs-load m c k (enter_locks t v) sh t 5 e x.alive x.controls (omega arith) refl (inr (inr (inl (held-td t v Shared c.kept other, (held-op t v Shared c.kept other, (epoch_held, tt))))))
          (λ epoch. tree.Load Whole (place.Word v VP_LAST_EPOCH) (λ last. enter_guest m.pages me t d v most (w.vps.associated v) last epoch)) []
          (vp-load (enter_locks t v) 3 (w.vps.lasts v) (omega arith) refl (inr (inr (inl (held-td t v Shared c.kept other, (held-op t v Shared c.kept other, (held-page t v Shared c.kept other, tt))))))
          (λ last. enter_guest m.pages me t d v most (w.vps.associated v) last e) [] (at_guest here)),
    )

    associated : Means m c k (page_locks t v Shared) (enter_associated m.pages me t d v most) (not_elsewhere w me v ∷ epoch_shared t ∷ [])
    associated =
        vp-load (page_locks t v Shared) 2 (associated_word (w.vps.associated v)) (omega arith) refl (inr (inl (held-td t v Shared c.kept other, (held-page t v Shared c.kept other, tt))))
        (λ word. tree.needs (not (is_elsewhere me (lp_told word))) (VcpuAssociated (lp_shown (lp_told word))) (enter_epoch m.pages me t d v most (lp_told word))) (not_elsewhere w me v ∷ epoch_shared t ∷ [])
        (rw (lp-again (w.vps.associated v)) (refl, λ f. refl, λ f. at_epoch (not-true (is_elsewhere me (w.vps.associated v)) f)))

    ready : Means m c k (page_locks t v Shared) (tree.Load Whole (place.Word v VP_STATE) (λ state. tree.needs (same_vp_state (vcpu_told state) vcpu.Ready) (VcpuStateIncorrect (vcpu_told state)) (enter_associated m.pages me t d v most)))
        (vp_in w v vcpu.Ready ∷ not_elsewhere w me v ∷ epoch_shared t ∷ [])
    ready =
        vp-load (page_locks t v Shared) 1 (vcpu_number (w.vps.states v)) (omega arith) refl (inr (inr (inl (held-td t v Shared c.kept other, (held-op t v Shared c.kept other, (held-page t v Shared c.kept other, tt))))))
        (λ state. tree.needs (same_vp_state (vcpu_told state) vcpu.Ready) (VcpuStateIncorrect (vcpu_told state)) (enter_associated m.pages me t d v most)) (vp_in w v vcpu.Ready ∷ not_elsewhere w me v ∷ epoch_shared t ∷ [])
        (rw (vcpu_again (w.vps.states v)) (refl, λ f. refl, λ f. associated))

  pub enter_rest-means : Means m c k (td_locks t Shared) (enter_rest m.pages me t d v most) (page_exclusive v ∷ td_page w t v kind.Tdvpr ∷ vp_in w v vcpu.Ready ∷ not_elsewhere w me v ∷ epoch_shared t ∷ [])
  enter_rest-means =
      td-page-means m c k (td_locks t Shared) sh la few t v kind.Tdvpr in_page (tree.Load Whole (place.Word v VP_STATE) (λ state. tree.needs (same_vp_state (vcpu_told state) vcpu.Ready) (VcpuStateIncorrect (vcpu_told state)) (enter_associated m.pages me t d v most)))
      (vp_in w v vcpu.Ready ∷ not_elsewhere w me v ∷ epoch_shared t ∷ []) ready

pub entry-means : EntryMeans
entry-means p t v most few = record {
  means = λ c at. td-row-means p.machine c (work_of (OfCall (enter_vp p.machine p.lp t v most))) t at.lawful at.shown (entry_arguments p.machine t v most) (λ a. ltb-true t p.machine.pages a.0) Shared running_ops
      (λ td. enter_rest p.machine.pages p.lp t td.tdcs v most) (page_exclusive v ∷ td_page c.state.world t v kind.Tdvpr ∷ vp_in c.state.world v vcpu.Ready ∷ not_elsewhere c.state.world p.lp v ∷ epoch_shared t ∷ [])
      (λ a y. enter_rest-means p.machine c p.lp t v most few at.lawful at.shown y (ltb-true v p.machine.pages a.1.0) (not-true (v == t) a.1.1.1.0)
      (λ here. outside-none c.state p.lp v at.facts (subst (λ (n : ℕ). (c.state.lps n).guest ≡ None) at.processor at.maker.0) here));
}
