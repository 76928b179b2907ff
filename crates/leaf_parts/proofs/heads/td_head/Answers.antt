use Rattle.std.proofs.Common.{ℕ, [], ◌∷◌}
use Rattle.td_words.specs.declared.names.Mode.TheVariants.{Shared}
use Rattle.td_words.specs.declared.names.LifeState.TheVariants.{KeysConfigured}
use Rattle.leaf_engine.specs.Trees.{Tree}
use Rattle.leaf_parts.specs.declared.heads.Td.{Td}
use Rattle.leaf_parts.specs.Heads.{root_tree, life_tree, tdcs_tree, op_tree}
use Rattle.leaf_parts.proofs.Parts.{goes-on, goes-off, feeds-on, exit}
use Rattle.leaf_parts.proofs.heads.td_head.Goals as goal

pub returns-in_err-root-clause-goes : goal.returns-in_err-root-clause-goes
returns-in_err-root-clause-goes c =
    goes-off c.args.place.machine.pages (λ (f : Unit {0} → Tree). root_tree c.args.tdr Shared (f tt)) (λ (y : Unit {0}). λ (f : Td → Tree). life_tree c.args.tdr (KeysConfigured ∷ []) (tdcs_tree c.args.place.machine.pages c.args.tdr (λ p. op_tree c.args.tdr p c.args.mode c.args.allowed.now f))) c.args.told.now.left.now c.root.new.told.left.now c.root.new.told.left.now c.in_err-root.field-0.0 c.from_residual.result (exit c.from_residual.result c.in_err-root.field-0.0 _ c.from_residual.ensures.1 (λ y h. h)) c.in_err-root.ensures.goes

pub returns-in_err-life_in-clause-goes : goal.returns-in_err-life_in-clause-goes
returns-in_err-life_in-clause-goes c =
    goes-on c.args.place.machine.pages (λ (f : Unit {0} → Tree). root_tree c.args.tdr Shared (f tt)) (λ (y : Unit {0}). λ (f : Td → Tree). life_tree c.args.tdr (KeysConfigured ∷ []) (tdcs_tree c.args.place.machine.pages c.args.tdr (λ p. op_tree c.args.tdr p c.args.mode c.args.allowed.now f))) c.args.told.now.left.now c.root.new.told.left.now c.life_in.new.told.left.now tt c.from_residual-in_err-life_in.result
    c.in_ok-root.ensures.goes
    (goes-off c.args.place.machine.pages (λ (f : Unit {0} → Tree). life_tree c.args.tdr (KeysConfigured ∷ []) (f tt)) (λ (y : Unit {0}). λ (f : Td → Tree). tdcs_tree c.args.place.machine.pages c.args.tdr (λ p. op_tree c.args.tdr p c.args.mode c.args.allowed.now f)) c.root.new.told.left.now c.life_in.new.told.left.now c.life_in.new.told.left.now c.in_err-life_in.field-0.0 c.from_residual-in_err-life_in.result (exit c.from_residual-in_err-life_in.result c.in_err-life_in.field-0.0 _ c.from_residual-in_err-life_in.ensures.1 (λ y h. h)) c.in_err-life_in.ensures.goes)

pub returns-in_err-tdcs-clause-goes : goal.returns-in_err-tdcs-clause-goes
returns-in_err-tdcs-clause-goes c =
    goes-on c.args.place.machine.pages (λ (f : Unit {0} → Tree). root_tree c.args.tdr Shared (f tt)) (λ (y : Unit {0}). λ (f : Td → Tree). life_tree c.args.tdr (KeysConfigured ∷ []) (tdcs_tree c.args.place.machine.pages c.args.tdr (λ p. op_tree c.args.tdr p c.args.mode c.args.allowed.now f))) c.args.told.now.left.now c.root.new.told.left.now c.tdcs.new.told.left.now tt c.from_residual-in_err-tdcs.result
    c.in_ok-root.ensures.goes
    (goes-on c.args.place.machine.pages (λ (f : Unit {0} → Tree). life_tree c.args.tdr (KeysConfigured ∷ []) (f tt)) (λ (y : Unit {0}). λ (f : Td → Tree). tdcs_tree c.args.place.machine.pages c.args.tdr (λ p. op_tree c.args.tdr p c.args.mode c.args.allowed.now f)) c.root.new.told.left.now c.life_in.new.told.left.now c.tdcs.new.told.left.now tt c.from_residual-in_err-tdcs.result
    c.in_ok-life_in.ensures.goes
    (goes-off c.args.place.machine.pages (λ (f : ℕ → Tree). tdcs_tree c.args.place.machine.pages c.args.tdr f) (λ (p : ℕ) (f : Td → Tree). op_tree c.args.tdr p c.args.mode c.args.allowed.now f) c.life_in.new.told.left.now c.tdcs.new.told.left.now c.tdcs.new.told.left.now c.in_err-tdcs.field-0.0 c.from_residual-in_err-tdcs.result (exit c.from_residual-in_err-tdcs.result c.in_err-tdcs.field-0.0 _ c.from_residual-in_err-tdcs.ensures.1 (λ y h. h)) c.in_err-tdcs.ensures.goes))

pub returns-clause-goes : goal.returns-clause-goes
returns-clause-goes c =
    goes-on c.args.place.machine.pages (λ (f : Unit {0} → Tree). root_tree c.args.tdr Shared (f tt)) (λ (y : Unit {0}). λ (f : Td → Tree). life_tree c.args.tdr (KeysConfigured ∷ []) (tdcs_tree c.args.place.machine.pages c.args.tdr (λ p. op_tree c.args.tdr p c.args.mode c.args.allowed.now f))) c.args.told.now.left.now c.root.new.told.left.now c.op_in.new.told.left.now tt c.op_in.result
    c.in_ok-root.ensures.goes
    (goes-on c.args.place.machine.pages (λ (f : Unit {0} → Tree). life_tree c.args.tdr (KeysConfigured ∷ []) (f tt)) (λ (y : Unit {0}). λ (f : Td → Tree). tdcs_tree c.args.place.machine.pages c.args.tdr (λ p. op_tree c.args.tdr p c.args.mode c.args.allowed.now f)) c.root.new.told.left.now c.life_in.new.told.left.now c.op_in.new.told.left.now tt c.op_in.result
    c.in_ok-life_in.ensures.goes
    (goes-on c.args.place.machine.pages (λ (f : ℕ → Tree). tdcs_tree c.args.place.machine.pages c.args.tdr f) (λ (p : ℕ) (f : Td → Tree). op_tree c.args.tdr p c.args.mode c.args.allowed.now f) c.life_in.new.told.left.now c.tdcs.new.told.left.now c.op_in.new.told.left.now c.in_ok-tdcs.tdcs c.op_in.result
    c.in_ok-tdcs.ensures.goes
    (c.op_in.ensures.goes c.args.tdr)))

pub returns-clause-feeds : goal.returns-clause-feeds
returns-clause-feeds c =
    feeds-on (λ (f : Unit {0} → Tree). root_tree c.args.tdr Shared (f tt)) (λ (y : Unit {0}). λ (f : Td → Tree). life_tree c.args.tdr (KeysConfigured ∷ []) (tdcs_tree c.args.place.machine.pages c.args.tdr (λ p. op_tree c.args.tdr p c.args.mode c.args.allowed.now f))) c.args.told.now.left.now c.root.new.told.left.now c.op_in.new.told.left.now tt c.op_in.result
    c.in_ok-root.ensures.feeds
    (feeds-on (λ (f : Unit {0} → Tree). life_tree c.args.tdr (KeysConfigured ∷ []) (f tt)) (λ (y : Unit {0}). λ (f : Td → Tree). tdcs_tree c.args.place.machine.pages c.args.tdr (λ p. op_tree c.args.tdr p c.args.mode c.args.allowed.now f)) c.root.new.told.left.now c.life_in.new.told.left.now c.op_in.new.told.left.now tt c.op_in.result
    c.in_ok-life_in.ensures.feeds
    (feeds-on (λ (f : ℕ → Tree). tdcs_tree c.args.place.machine.pages c.args.tdr f) (λ (p : ℕ) (f : Td → Tree). op_tree c.args.tdr p c.args.mode c.args.allowed.now f) c.life_in.new.told.left.now c.tdcs.new.told.left.now c.op_in.new.told.left.now c.in_ok-tdcs.tdcs c.op_in.result
    c.in_ok-tdcs.ensures.feeds
    (c.op_in.ensures.feeds c.args.tdr)))
