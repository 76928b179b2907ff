use Rattle.std.proofs.Common.{ℕ}
use Rattle.arrayvec.specs.ArrayVec.{ArrayVec}
use Rattle.leaf_engine.specs.Trees.{Tree}
use Rattle.leaf_parts.proofs.Parts.{goes-off, exit}
use Rattle.stream_parts.specs.Streams.{pages_tree}
use Rattle.export_sessions.specs.SessionTrees.{unrestored_tree}
use Rattle.export_sessions.proofs.Decided.{restored-feeds}
use Rattle.export_sessions.proofs.sessions.restored.Goals as goal

pub returns-in_err-streams-clause-goes : goal.returns-in_err-streams-clause-goes
returns-in_err-streams-clause-goes c =
    goes-off c.args.machine.pages (λ (f : ArrayVec ℕ → Tree). pages_tree c.args.machine.pages c.args.tdcs f) (λ (ps : ArrayVec ℕ) (f : ArrayVec ℕ → Tree). unrestored_tree c.args.tdcs ps f) c.args.told.now.left.now c.stream_pages.new.told.left.now c.stream_pages.new.told.left.now c.in_err-streams.field-0.0 c.from_residual.result
    (exit c.from_residual.result c.in_err-streams.field-0.0 _ c.from_residual.ensures.1 (λ y h. h)) c.in_err-streams.ensures.goes

pub returns-clause-feeds : goal.returns-clause-feeds
returns-clause-feeds c =
    restored-feeds c.args.machine.pages c.args.tdcs c.args.told.now.left.now c.stream_pages.new.told.left.now c.load.new.self.left.now c.stream_sum.new.told.left.now c.in_ok-streams.streams c.as_slice.result.now c.as_slice.ensures.value c.in_ok-unrestored.unrestored c.in_ok-first.first
    c.in_ok-streams.ensures.feeds (rw c.len.ensures.value at c.in_ok-check.ensures) c.in_ok-unrestored.ensures c.in_ok-first.ensures.feeds c.in_ok-check-2.ensures
