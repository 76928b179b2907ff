use Rattle.td_words.specs.declared.names.Mode.TheVariants.{Exclusive}
use Rattle.flat_core.specs.BundleRows.{paused_ops}
use Rattle.leaf_engine.specs.Trees.{Tree}
use Rattle.leaf_parts.specs.declared.heads.Td.{Td}
use Rattle.leaf_parts.specs.Arguments.{checked, two_pages}
use Rattle.leaf_parts.specs.Heads.{td_head_tree}
use Rattle.leaf_parts.proofs.Arguments.{arguments-hold, arguments-fed}
use Rattle.leaf_parts.proofs.Parts.{behind-stop, goes-stop, exit}
use Rattle.export_states.specs.declared.states.Stated.{Stated}
use Rattle.export_states.specs.VpStateTrees.{vp_state_tree, vp_asked}
use Rattle.export_states.proofs.Asked.{goes-behind, feeds-behind}
use Rattle.export_states.proofs.vp_states.to_export.Goals as goal

pub returns-in_err-td-clause-goes : goal.returns-in_err-td-clause-goes
returns-in_err-td-clause-goes c =
    let a = c.args in
    goes-stop a.place.machine.pages (λ (f : Stated → Tree). vp_asked a.place.machine a.tdr a.vp f) a.told.now.left.now c.td_head.new.told.left.now c.from_residual-in_err-td.result c.in_err-td.field-0.0
    (exit c.from_residual-in_err-td.result c.in_err-td.field-0.0 _ c.from_residual-in_err-td.ensures.1 (λ y h. h))
    (λ f. behind-stop a.place.machine.pages (checked (two_pages a.place.machine a.tdr a.vp))
    (arguments-hold a.place.machine.pages (two_pages a.place.machine a.tdr a.vp) (rw c.from.ensures at c.in_ok-check.ensures, (rw c.from-2.ensures at c.in_ok-check-2.ensures, (c.in_ok-check-3.ensures, tt))))
    (λ (h : Td → Tree). td_head_tree a.place.machine.pages a.tdr Exclusive paused_ops h) (λ (td : Td). vp_state_tree a.place.machine.pages a.tdr td.tdcs a.vp f) a.told.now.left.now c.td_head.new.told.left.now
    c.in_err-td.field-0.0 c.in_err-td.ensures.goes)

pub returns-clause-goes : goal.returns-clause-goes
returns-clause-goes c =
    let a = c.args in
    goes-behind a.place.machine.pages (checked (two_pages a.place.machine a.tdr a.vp))
    (arguments-hold a.place.machine.pages (two_pages a.place.machine a.tdr a.vp) (rw c.from.ensures at c.in_ok-check.ensures, (rw c.from-2.ensures at c.in_ok-check-2.ensures, (c.in_ok-check-3.ensures, tt))))
    (λ (h : Td → Tree). td_head_tree a.place.machine.pages a.tdr Exclusive paused_ops h) (λ (td : Td) (f : Stated → Tree). vp_state_tree a.place.machine.pages a.tdr td.tdcs a.vp f) a.told.now.left.now c.td_head.new.told.left.now c.vp_state.new.told.left.now
    c.in_ok-td.td c.vp_state.result c.in_ok-td.ensures.goes c.vp_state.ensures.goes

pub returns-clause-feeds : goal.returns-clause-feeds
returns-clause-feeds c =
    let a = c.args in
    feeds-behind (checked (two_pages a.place.machine a.tdr a.vp))
    (arguments-fed (two_pages a.place.machine a.tdr a.vp) (rw c.from.ensures at c.in_ok-check.ensures, (rw c.from-2.ensures at c.in_ok-check-2.ensures, (c.in_ok-check-3.ensures, tt))))
    (λ (h : Td → Tree). td_head_tree a.place.machine.pages a.tdr Exclusive paused_ops h) (λ (td : Td) (f : Stated → Tree). vp_state_tree a.place.machine.pages a.tdr td.tdcs a.vp f) a.told.now.left.now c.td_head.new.told.left.now c.vp_state.new.told.left.now
    c.in_ok-td.td c.vp_state.result c.in_ok-td.ensures.feeds c.vp_state.ensures.feeds
