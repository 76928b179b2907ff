use Rattle.std.proofs.Common.{ℕ, ◌==◌}
use Rattle.td_words.specs.declared.names.HeaderField.TheVariants as field
use Rattle.td_words.specs.declared.refusals.Status.TheVariants.{BundleHeader}
use Rattle.flat_core.specs.Opening.{clear_header}
use Rattle.leaf_engine.specs.Trees.{Tree, needs}
use Rattle.leaf_parts.proofs.Parts.{goes-stop, feeds-check, exit}
use Rattle.import_parts.specs.InputTrees.{session_same_tree}
use Rattle.import_parts.proofs.dues.session_same.Goals as goal

abbrev tested : (session : ℕ) → (Unit {0} → Tree) → (told : ℕ) → Tree
tested session f told = needs (session == told) (BundleHeader field.Session) (f tt)

pub returns-in_err-session-clause-goes : goal.returns-in_err-session-clause-goes
returns-in_err-session-clause-goes c =
    let a = c.args in
    goes-stop a.machine.pages (λ (f : Unit {0} → Tree). session_same_tree a.tdcs (clear_header a.header.now) (f tt)) a.told.now.left.now c.session.new.told.left.now c.from_residual.result c.in_err-session.field-0.0
    (exit c.from_residual.result c.in_err-session.field-0.0 _ c.from_residual.ensures.1 (λ y h. h)) (λ f. c.in_err-session.ensures.goes (tested a.header.now.session f))

pub returns-clause-feeds : goal.returns-clause-feeds
returns-clause-feeds c =
    let a = c.args in
    feeds-check (λ (f : Unit {0} → Tree). session_same_tree a.tdcs (clear_header a.header.now) (f tt)) a.told.now.left.now c.session.new.told.left.now (a.header.now.session == c.in_ok-session.session) (BundleHeader field.Session) c.check.result
    (λ f. c.in_ok-session.ensures.feeds (tested a.header.now.session f)) c.check.ensures
