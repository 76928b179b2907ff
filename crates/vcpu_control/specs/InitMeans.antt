-- Behind the beginning of its row the leaf that initializes a virtual processor means the row.
use Rattle.std.proofs.Common.{◌≡◌, ℕ, ◌<◌, false, ◌==◌, [], ◌∷◌, refl, inl, inr, arith}
use Rattle.td_words.specs.declared.names.PageKind.TheVariants as kind
use Rattle.td_words.specs.declared.names.VcpuState.{VcpuState}
use Rattle.td_words.specs.declared.names.VcpuState.TheVariants as vcpu
use Rattle.td_words.specs.declared.names.Mode.TheVariants.{Shared}
use Rattle.td_words.specs.declared.machines.Machine.{Machine}
use Rattle.td_words.specs.declared.places.TheConstants.{VP_STATE}
use Rattle.td_words.specs.declared.refusals.Status.TheVariants.{VcpuStateIncorrect}
use Rattle.td_words.specs.NameNumber.{vcpu_number}
use Rattle.td_words.specs.declared.replies.Value.TheVariants as value
use Rattle.td_words.specs.declared.replies.Reply.TheVariants.{Done}
use Rattle.td_words.specs.Place as place
use Rattle.flat_core.specs.World.{World}
use Rattle.flat_core.specs.Conditions.{same_vp_state, td_page, vp_in, page_exclusive}
use Rattle.flat_core.specs.Lawful.{Lawful, IsAlive, IsPageOf}
use Rattle.flat_core.specs.VpRows.{initialize_vp}
use Rattle.word_rules.specs.Guards.{Grip, Meets}
use Rattle.word_rules.specs.Rules.{VcpuWord, Whole, KeepsNothing, reads, writes, owes}
use Rattle.word_rules.specs.Spots.{guard_at}
use Rattle.word_rules.specs.Permissions.{Respects}
use Rattle.word_rules.specs.Cells.{Shows}
use Rattle.act_rules.proofs.Respected.{leaves, all-same}
use Rattle.leaf_engine.specs.Trees.{Tree, Load, needs, acts}
use Rattle.leaf_engine.specs.Means.{Instant, Means, work_of, OfCall, hold}
use Rattle.leaf_parts.proofs.Checks.{spot_of, at-spot, td-page-means}
use Rattle.leaf_parts.proofs.Vps.{vp-shown, vp-spot}
use Rattle.vcpu_control.specs.Words.{vcpu_told}
use Rattle.vcpu_control.specs.VpTrees.{init_changes}
use Rattle.vcpu_control.specs.VpTrees.{init_rest}
use Rattle.vcpu_control.specs.VpLocks.{td_locks, page_locks, held-td, held-op, held-page, alone-page}
use Rattle.vcpu_control.specs.InitShows.{initialized}

-- what the words say

pub vcpu_again : (s : VcpuState) → vcpu_told (vcpu_number s) ≡ s
vcpu_again vcpu.Created = refl
vcpu_again vcpu.Ready = refl

init_respects : (m : Machine) (g : Grip) (w : World) (t v x : ℕ) → Respects g w ((initialize_vp m t v x).act w)
init_respects m g w t v x =
    let w' : World = (initialize_vp m t v x).act w in
    leaves g w w' (all-same w w' refl (λ u. record { op = refl; controls = refl; epoch = refl; empty = λ b. refl; named = λ n. refl })) (λ h. refl) refl

-- the page's virtual processor is CREATED
abbrev created_tree : ℕ → Tree → Tree
created_tree v further = Load Whole (place.Word v VP_STATE) (λ state. needs (same_vp_state (vcpu_told state) vcpu.Created) (VcpuStateIncorrect (vcpu_told state)) further)

module _ (m : Machine) (c : Instant) (t v x : ℕ) (few : m.pages < 65536) (la : Lawful m c.state.world) (sh : Shows m c.memory.words c.memory.slots c.state) (alive : IsAlive c.state.world.pages c.state.world.tds t) (in_page : v < m.pages) (other : (v == t) ≡ false) where
  abbrev w : World
  w = c.state.world

  module _ (its : IsPageOf c.state.world.pages t v kind.Tdvpr) where
    state_word : c.memory.words (place.Word v 1) ≡ vcpu_number (w.vps.states v)
    state_word = vp-shown m c.memory.words c.memory.slots c.state sh t alive.life v 1 its in_page (omega arith)

    state_shown : vcpu_told (c.memory.words (place.Word v 1)) ≡ w.vps.states v
    state_shown = rw state_word (vcpu_again (w.vps.states v))

    abbrev g : Grip
    g = hold c (page_locks t v Shared)

    abbrev w' : World
    w' = (initialize_vp m t v x).act w

    may_store : Meets g (guard_at (spot_of VcpuWord t v)) (writes VcpuWord KeepsNothing)
    may_store = inr (inl (held-td t v Shared c.kept other, (held-op t v Shared c.kept other, (alone-page t v Shared c.kept other, tt))))

    may_load : Meets g (guard_at (spot_of VcpuWord t v)) (reads VcpuWord Whole)
    may_load = inr (inr (inl (held-td t v Shared c.kept other, (held-op t v Shared c.kept other, (held-page t v Shared c.kept other, tt)))))

    its_end : Means m c (work_of (OfCall (initialize_vp m t v x))) (page_locks t v Shared) (acts (Done value.Nothing) (init_changes v x)) []
    its_end = (
      record {
        answers = record { reply_is = refl; cached_is = refl; enters_is = refl; notes_are = refl; tells_are = refl; bundles_are = refl };
        fills_allowed = tt;
        respects = init_respects m (hold c (page_locks t v Shared)) w t v x;
        locks_stay = ((refl, λ y. y), ((refl, λ y. record { alive = record { kind = y.alive.kind; life = y.alive.life }; has_tdcs = y.has_tdcs }), ((refl, λ y. y), tt)));
        shows = initialized m c.state c.memory t v x sh alive its in_page;
      },
      (
        ((in_page, omega arith), (KeepsNothing, at-spot g w (place.Word v 1) (spot_of VcpuWord t v) (λ z. writes z KeepsNothing) (vp-spot w t v 1 its) may_store, tt)),
        (((in_page, omega arith), (KeepsNothing, at-spot g w' (place.Word v 8) (spot_of VcpuWord t v) (λ z. owes z KeepsNothing) (vp-spot w' t v 8 (record { kind = its.kind; owner = its.owner })) may_store, tt)), tt),
      ),
    )

  pub init_rest-means : Means m c (work_of (OfCall (initialize_vp m t v x))) (td_locks t Shared) (init_rest t v x) (page_exclusive v ∷ td_page w t v kind.Tdvpr ∷ vp_in w v vcpu.Created ∷ [])
  init_rest-means =
      td-page-means m c (work_of (OfCall (initialize_vp m t v x))) (td_locks t Shared) sh la few t v kind.Tdvpr in_page (created_tree v (acts (Done value.Nothing) (init_changes v x))) (vp_in w v vcpu.Created ∷ []) (λ its. (
        (in_page, omega arith),
        inl (at-spot (hold c (page_locks t v Shared)) w (place.Word v 1) (spot_of VcpuWord t v) (λ z. reads z Whole) (vp-spot w t v 1 its) (may_load its)),
        rw (state_shown its) (refl, λ f. refl, λ f. its_end its),
      ))
