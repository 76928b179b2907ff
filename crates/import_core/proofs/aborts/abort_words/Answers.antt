use Rattle.std.proofs.Common.{ℕ, nat_lt, Err, ◌∙◌}
use Rattle.td_words.specs.declared.refusals.Status.TheVariants.{OperandInvalid}
use Rattle.flat_core.specs.ImportRows.{given_up_ops}
use Rattle.leaf_engine.specs.Trees.{Tree}
use Rattle.leaf_parts.proofs.Parts.{goes-stop, passes, feed-passes, exit}
use Rattle.stream_parts.specs.Rooms.{session_tree}
use Rattle.stream_parts.specs.AloneTrees.{td_alone_tree}
use Rattle.import_core.specs.declared.aborts.AbortWords.{AbortWords}
use Rattle.import_core.specs.AbortTrees.{abort_words_tree}
use Rattle.import_core.proofs.aborts.abort_words.Goals as goal

abbrev made : (AbortWords → Tree) → (tdcs session : ℕ) → Tree
made f d session = f (record { tdcs = d; session = session })

abbrev headed : (AbortWords → Tree) → (tdcs : ℕ) → Tree
headed f d = session_tree d (made f d)

abbrev begun : (n t : ℕ) → (AbortWords → Tree) → Tree
begun n t f = td_alone_tree n t given_up_ops (headed f)

pub returns-in_err-tdcs-clause-goes : goal.returns-in_err-tdcs-clause-goes
returns-in_err-tdcs-clause-goes c =
    let a = c.args in
    let n : ℕ = a.place.machine.pages in
    let e = c.in_err-tdcs.field-0.0 in
    goes-stop n (λ (f : AbortWords → Tree). abort_words_tree a.place.machine a.tdr f) a.told.now.left.now c.td_alone.new.told.left.now c.from_residual-in_err-tdcs.result e
    (exit c.from_residual-in_err-tdcs.result e _ c.from_residual-in_err-tdcs.ensures.1 (λ y h. h))
    (λ f. passes n (nat_lt a.tdr n) (OperandInvalid 1) (begun n a.tdr f) a.told.now.left.now (Err e) (rw c.from.ensures at c.in_ok-check.ensures) (c.in_err-tdcs.ensures.goes (headed f)))

pub returns-in_err-session-clause-goes : goal.returns-in_err-session-clause-goes
returns-in_err-session-clause-goes c =
    let a = c.args in
    let n : ℕ = a.place.machine.pages in
    let e = c.in_err-session.field-0.0 in
    goes-stop n (λ (f : AbortWords → Tree). abort_words_tree a.place.machine a.tdr f) a.told.now.left.now c.session.new.told.left.now c.from_residual-in_err-session.result e
    (exit c.from_residual-in_err-session.result e _ c.from_residual-in_err-session.ensures.1 (λ y h. h))
    (λ f. passes n (nat_lt a.tdr n) (OperandInvalid 1) (begun n a.tdr f) a.told.now.left.now (Err e) (rw c.from.ensures at c.in_ok-check.ensures) (c.in_ok-tdcs.ensures.goes (headed f) (Err e) (c.in_err-session.ensures.goes (made f c.in_ok-tdcs.tdcs))))

pub returns-clause-goes : goal.returns-clause-goes
returns-clause-goes c = λ f r end.
    let a = c.args in
    let n : ℕ = a.place.machine.pages in
    passes n (nat_lt a.tdr n) (OperandInvalid 1) (begun n a.tdr f) a.told.now.left.now r (rw c.from.ensures at c.in_ok-check.ensures) (c.in_ok-tdcs.ensures.goes (headed f) r (c.in_ok-session.ensures.goes (made f c.in_ok-tdcs.tdcs) r end))

pub returns-clause-feeds : goal.returns-clause-feeds
returns-clause-feeds c = λ f.
    let a = c.args in
    let n : ℕ = a.place.machine.pages in
    feed-passes (nat_lt a.tdr n) (OperandInvalid 1) (begun n a.tdr f) a.told.now.left.now (rw c.from.ensures at c.in_ok-check.ensures) ∙ (c.in_ok-tdcs.ensures.feeds (headed f) ∙ c.in_ok-session.ensures.feeds (made f c.in_ok-tdcs.tdcs))
