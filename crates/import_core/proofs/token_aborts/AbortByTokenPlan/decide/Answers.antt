use Rattle.std.proofs.Common.{ℕ, Ok, Err, [], refl, subst}
use Rattle.td_words.specs.declared.names.OpState.TheVariants.{Runnable}
use Rattle.flat_core.specs.World.{ClearHeader}
use Rattle.flat_core.specs.Inputs.{Input, input_in}
use Rattle.leaf_engine.specs.Trees.{Tree, done}
use Rattle.leaf_parts.specs.Parts.{Goes}
use Rattle.leaf_parts.proofs.Parts.{exit}
use Rattle.stream_parts.specs.AloneTrees.{op_changes}
use Rattle.import_core.specs.TokenAbortTrees.{given_up_tree}
use Rattle.import_core.proofs.token_aborts.AbortByTokenPlan.decide.Goals as goal

abbrev next : Input → ℕ → Tree
next x d = given_up_tree d x.header x (done [] (op_changes Runnable d))

pub returns-in_err-tdcs-clause-decides : goal.returns-in_err-tdcs-clause-decides
returns-in_err-tdcs-clause-decides c =
    let x : Input = input_in c.args.self.now.input in
    rw (exit c.from_residual.result c.in_err-tdcs.field-0.0 _ c.from_residual.ensures.1 (λ y h. h)) (c.in_err-tdcs.ensures.goes (next x))

pub returns-in_err-given_up-clause-decides : goal.returns-in_err-given_up-clause-decides
returns-in_err-given_up-clause-decides c =
    let l = c.args.self.now in
    let x : Input = input_in l.input in
    let d : ℕ = c.in_ok-tdcs.tdcs in
    let e = c.in_err-given_up.field-0.0 in
    let here = subst (λ (h : ClearHeader). Goes {A = Unit {0}} l.place.machine.pages (λ f. given_up_tree d h x (f tt)) c.input_alone.new.told.left.now c.given_up.new.told.left.now (Err e)) c.header_of-header.ensures c.in_err-given_up.ensures.goes in
    rw (exit c.from_residual-in_err-given_up.result e _ c.from_residual-in_err-given_up.ensures.1 (λ y h. h)) (c.in_ok-tdcs.ensures.goes (next x) (Err e) (here (λ u. done [] (op_changes Runnable d))))

pub returns-clause-decides : goal.returns-clause-decides
returns-clause-decides c =
    let l = c.args.self.now in
    let x : Input = input_in l.input in
    let d : ℕ = c.in_ok-tdcs.tdcs in
    let here = subst (λ (h : ClearHeader). Goes {A = Unit {0}} l.place.machine.pages (λ f. given_up_tree d h x (f tt)) c.input_alone.new.told.left.now c.given_up.new.told.left.now (Ok tt)) c.header_of-header.ensures c.in_ok-given_up.ensures.goes in
    c.in_ok-tdcs.ensures.goes (next x) _ (here (λ u. done [] (op_changes Runnable d)) _ (rw c.done.ensures (refl, refl)))
