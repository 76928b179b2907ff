use Rattle.std.proofs.Common.{ℕ, List, Ok, Err, ◌∙◌, subst}
use Rattle.leaf_engine.specs.Trees.{Tree}
use Rattle.leaf_parts.specs.Parts.{Goes, Feeds}
use Rattle.leaf_parts.proofs.Parts.{goes-stop, exit}
use Rattle.stream_parts.specs.Streams.{sum_tree}
use Rattle.export_tokens.specs.declared.tokens.TokenWords.{TokenWords}
use Rattle.export_tokens.specs.TokenTrees.{total_tree}
use Rattle.export_tokens.proofs.Rests.{told, summed}
use Rattle.export_tokens.proofs.tokens.with_total.Goals as goal

pub returns-in_err-session-clause-goes : goal.returns-in_err-session-clause-goes
returns-in_err-session-clause-goes c =
    let a = c.args in
    let e = c.in_err-session.field-0.0 in
    let sum = subst (λ (ps : List ℕ). Goes {A = ℕ} a.machine.pages (λ f. sum_tree 0 ps f) a.told.now.left.now c.stream_sum.new.told.left.now (Ok c.in_ok-total.total)) c.as_slice.ensures.value c.in_ok-total.ensures.goes in
    goes-stop a.machine.pages (λ (f : TokenWords → Tree). total_tree a.streams.now a.epoch f) a.told.now.left.now c.session.new.told.left.now c.from_residual-in_err-session.result e
    (exit c.from_residual-in_err-session.result e _ c.from_residual-in_err-session.ensures.1 (λ y h. h))
    (λ f. sum (summed a.streams.now a.epoch f) (Err e) (c.in_err-session.ensures.goes (told a.streams.now a.epoch f c.in_ok-total.total)))

pub returns-clause-goes : goal.returns-clause-goes
returns-clause-goes c = λ f r end.
    let a = c.args in
    let sum = subst (λ (ps : List ℕ). Goes {A = ℕ} a.machine.pages (λ f. sum_tree 0 ps f) a.told.now.left.now c.stream_sum.new.told.left.now (Ok c.in_ok-total.total)) c.as_slice.ensures.value c.in_ok-total.ensures.goes in
    sum (summed a.streams.now a.epoch f) r (c.in_ok-session.ensures.goes (told a.streams.now a.epoch f c.in_ok-total.total) r end)

pub returns-clause-feeds : goal.returns-clause-feeds
returns-clause-feeds c = λ f.
    let a = c.args in
    let sum = subst (λ (ps : List ℕ). Feeds {A = ℕ} (λ f. sum_tree 0 ps f) a.told.now.left.now c.stream_sum.new.told.left.now (Ok c.in_ok-total.total)) c.as_slice.ensures.value c.in_ok-total.ensures.feeds in
    sum (summed a.streams.now a.epoch f) ∙ c.in_ok-session.ensures.feeds (told a.streams.now a.epoch f c.in_ok-total.total)
