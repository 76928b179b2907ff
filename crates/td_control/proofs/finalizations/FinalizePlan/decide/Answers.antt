use Rattle.std.proofs.Common.{◌≡◌, ℕ, true, ◌==◌, nat_lt, List, [], ◌∷◌, Result, Ok, Err, refl}
use Rattle.td_words.specs.declared.names.OpState.TheVariants as op
use Rattle.td_words.specs.declared.names.VcpuState.TheVariants as vcpu
use Rattle.td_words.specs.declared.names.Mode.TheVariants.{Exclusive}
use Rattle.td_words.specs.declared.machines.Machine.{Machine}
use Rattle.td_words.specs.declared.refusals.Status.TheVariants.{OperandInvalid, VcpuStateIncorrect}
use Rattle.leaf_engine.specs.declared.plans.Stop.{Stop}
use Rattle.leaf_engine.specs.Trees.{Tree, needs, done}
use Rattle.leaf_engine.specs.Decides.{Ending, Decides}
use Rattle.leaf_parts.specs.declared.heads.Td.{Td}
use Rattle.leaf_parts.specs.Heads.{td_head_tree}
use Rattle.leaf_parts.specs.Parts.{Goes}
use Rattle.leaf_parts.proofs.Parts.{exit, passes, refuses}
use Rattle.td_control.specs.FinalTrees.{final_changes, ready_tree, final_tree}
use Rattle.td_control.proofs.finalizations.FinalizePlan.decide.Goals as goal

abbrev end : Machine → (tdcs hkid : ℕ) → Tree
end m tdcs hkid = done [] (final_changes m tdcs hkid)

abbrev checked : Machine → (tdcs hkid created : ℕ) → Tree
checked m tdcs hkid created = needs (created == 0) (VcpuStateIncorrect vcpu.Created) (end m tdcs hkid)

module _ (m : Machine) (t : ℕ) where
  abbrev head : (Td → Tree) → Tree
  head f = td_head_tree m.pages t Exclusive (op.Initialized ∷ []) f

  abbrev rest : Td → Tree
  rest td = ready_tree m.pages t td.tdcs (end m td.tdcs)

  behind-argument : (xs : List ℕ) (r : Result Ending Stop) → nat_lt t m.pages ≡ true → Decides m.pages (head rest) xs r → Decides m.pages (final_tree m t) xs r
  behind-argument xs r in_page d = passes m.pages (nat_lt t m.pages) (OperandInvalid 1) (head rest) xs r in_page d

  behind-head : (td : Td) (xs ys : List ℕ) (r : Result Ending Stop) → nat_lt t m.pages ≡ true → Goes m.pages head xs ys (Ok td) → Decides m.pages (rest td) ys r → Decides m.pages (final_tree m t) xs r
  behind-head td xs ys r in_page g d = behind-argument xs r in_page (g rest r d)

pub returns-in_err-td-clause-decides : goal.returns-in_err-td-clause-decides
returns-in_err-td-clause-decides c =
    let m = c.args.self.now.place.machine in
    rw (exit c.from_residual-in_err-td.result c.in_err-td.field-0.0 _ c.from_residual-in_err-td.ensures.1 (λ y h. h))
    (behind-argument m c.args.self.now.tdr c.args.told.left.now (Err c.in_err-td.field-0.0) (rw c.from.ensures at c.in_ok-check.ensures) (c.in_err-td.ensures.goes (rest m c.args.self.now.tdr)))

pub returns-in_err-hkid-clause-decides : goal.returns-in_err-hkid-clause-decides
returns-in_err-hkid-clause-decides c =
    rw (exit c.from_residual-in_err-hkid.result c.in_err-hkid.field-0.0 _ c.from_residual-in_err-hkid.ensures.1 (λ y h. h))
    (behind-head c.args.self.now.place.machine c.args.self.now.tdr c.in_ok-td.td c.args.told.left.now c.td_head.new.told.left.now (Err c.in_err-hkid.field-0.0) (rw c.from.ensures at c.in_ok-check.ensures) c.in_ok-td.ensures.goes
    (rw (c.in_err-hkid.ensures.0, c.in_err-hkid.ensures.1, c.word_address.ensures) refl))

pub returns-in_err-created-clause-decides : goal.returns-in_err-created-clause-decides
returns-in_err-created-clause-decides c =
    let m = c.args.self.now.place.machine in
    rw (exit c.from_residual-in_err-created.result c.in_err-created.field-0.0 _ c.from_residual-in_err-created.ensures.1 (λ y h. h))
    (behind-head m c.args.self.now.tdr c.in_ok-td.td c.args.told.left.now c.td_head.new.told.left.now (Err c.in_err-created.field-0.0) (rw c.from.ensures at c.in_ok-check.ensures) c.in_ok-td.ensures.goes
    (rw c.in_ok-hkid.ensures (c.in_err-created.ensures.goes (checked m c.in_ok-td.td.tdcs c.in_ok-hkid.hkid))))

pub returns-in_err-check-2-clause-decides : goal.returns-in_err-check-2-clause-decides
returns-in_err-check-2-clause-decides c =
    let m = c.args.self.now.place.machine in
    let e : Stop = c.in_err-check-2.field-0.0 in
    rw (exit c.from_residual-in_err-check-2.result c.in_err-check-2.field-0.0 _ c.from_residual-in_err-check-2.ensures.1 (λ y h. h))
    (behind-head m c.args.self.now.tdr c.in_ok-td.td c.args.told.left.now c.td_head.new.told.left.now (Err e) (rw c.from.ensures at c.in_ok-check.ensures) c.in_ok-td.ensures.goes
    (rw c.in_ok-hkid.ensures (c.in_ok-created.ensures.goes (checked m c.in_ok-td.td.tdcs c.in_ok-hkid.hkid) (Err e)
    (refuses m.pages (c.in_ok-created.created == 0) (VcpuStateIncorrect vcpu.Created) (end m c.in_ok-td.td.tdcs c.in_ok-hkid.hkid) c.vps_apart.new.told.left.now e c.in_err-check-2.ensures.0 c.in_err-check-2.ensures.1))))

pub returns-clause-decides : goal.returns-clause-decides
returns-clause-decides c =
    let m = c.args.self.now.place.machine in
    behind-head m c.args.self.now.tdr c.in_ok-td.td c.args.told.left.now c.td_head.new.told.left.now _ (rw c.from.ensures at c.in_ok-check.ensures) c.in_ok-td.ensures.goes
    (rw c.in_ok-hkid.ensures (c.in_ok-created.ensures.goes (checked m c.in_ok-td.td.tdcs c.in_ok-hkid.hkid) _
    (passes m.pages (c.in_ok-created.created == 0) (VcpuStateIncorrect vcpu.Created) (end m c.in_ok-td.td.tdcs c.in_ok-hkid.hkid) c.vps_apart.new.told.left.now _ c.in_ok-check-2.ensures (rw c.done.ensures (refl, refl)))))
