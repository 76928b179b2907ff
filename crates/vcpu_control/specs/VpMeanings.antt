-- The leaves that build virtual processors mean their rows.
use Rattle.std.proofs.Common.{ℕ, ◌<◌, ◌==◌, [], ◌∷◌}
use Rattle.std.proofs.lemmas.Bool.{ltb-true, not-true}
use Rattle.td_words.specs.declared.names.PageKind.TheVariants as kind
use Rattle.td_words.specs.declared.names.OpState.TheVariants as op
use Rattle.td_words.specs.declared.names.VcpuState.TheVariants as vcpu
use Rattle.td_words.specs.declared.names.Mode.TheVariants.{Shared, Exclusive}
use Rattle.flat_core.specs.Conditions.{td_page, vp_in, vp_room, host_page, page_exclusive}
use Rattle.flat_core.specs.VpRows.{create_vp, initialize_vp}
use Rattle.leaf_engine.specs.declared.needs.Place.{Place}
use Rattle.leaf_engine.specs.Means.{MeansRow, OfCall, work_of}
use Rattle.leaf_parts.specs.Arguments.{two_pages}
use Rattle.leaf_parts.proofs.Checks.{td-row-means}
use Rattle.vcpu_control.specs.VpTrees.{init_rest, vp_init_task, create_rest, vp_create_task}
use Rattle.vcpu_control.specs.InitMeans.{init_rest-means}
use Rattle.vcpu_control.specs.CreateMeans.{create_rest-means}

pub vp_init-means : (p : Place) (t v x : ℕ) → p.machine.pages < 65536 → MeansRow (vp_init_task p t v x)
vp_init-means p t v x few = record {
  means = λ c at. td-row-means p.machine c (work_of (OfCall (initialize_vp p.machine t v x))) t at.lawful at.shown (two_pages p.machine t v) (λ a. ltb-true t p.machine.pages a.0) Shared (op.Initialized ∷ [])
      (λ td. init_rest t v x) (page_exclusive v ∷ td_page c.state.world t v kind.Tdvpr ∷ vp_in c.state.world v vcpu.Created ∷ [])
      (λ a y. init_rest-means p.machine c t v x few at.lawful at.shown y.alive (ltb-true v p.machine.pages a.1.0) (not-true (v == t) a.1.1.0));
}

pub vp_create-means : (p : Place) (t q : ℕ) → MeansRow (vp_create_task p t q)
vp_create-means p t q = record {
  means = λ c at. td-row-means p.machine c (work_of (OfCall (create_vp p.machine t q))) t at.lawful at.shown (two_pages p.machine t q) (λ a. ltb-true t p.machine.pages a.0) Exclusive (op.Initialized ∷ op.MemoryImport ∷ [])
      (λ td. create_rest p.machine.pages t td q) (vp_room c.state.world t ∷ page_exclusive q ∷ host_page c.state.world q ∷ [])
      (λ a y. create_rest-means p.machine c t q at.lawful at.shown y a.0 a.1.0 a.1.1.0);
}
