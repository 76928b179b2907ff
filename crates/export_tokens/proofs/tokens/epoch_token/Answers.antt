use Rattle.std.proofs.Common.{ℕ}
use Rattle.flat_core.specs.ExportRows.{abortable_ops}
use Rattle.leaf_engine.specs.Trees.{Tree}
use Rattle.leaf_parts.proofs.Parts.{goes-on, goes-off, feeds-on, exit}
use Rattle.export_tokens.specs.declared.tokens.Streams.{Streams}
use Rattle.export_tokens.specs.declared.tokens.TokenWords.{TokenWords}
use Rattle.export_tokens.specs.TokenTrees.{streams_tree, next_epoch_tree, total_tree}
use Rattle.export_tokens.proofs.Rests.{epoch_next}
use Rattle.export_tokens.proofs.tokens.epoch_token.Goals as goal

pub returns-in_err-streams-clause-goes : goal.returns-in_err-streams-clause-goes
returns-in_err-streams-clause-goes c =
    let a = c.args in
    goes-off a.place.machine.pages (λ (f : Streams → Tree). streams_tree a.place.machine a.tdr abortable_ops f) epoch_next a.told.now.left.now c.streams_of.new.told.left.now c.streams_of.new.told.left.now c.in_err-streams.field-0.0 c.from_residual.result
    (exit c.from_residual.result c.in_err-streams.field-0.0 _ c.from_residual.ensures.1 (λ y h. h)) c.in_err-streams.ensures.goes

pub returns-in_err-epoch-clause-goes : goal.returns-in_err-epoch-clause-goes
returns-in_err-epoch-clause-goes c =
    let a = c.args in
    let s : Streams = c.in_ok-streams.streams in
    goes-on a.place.machine.pages (λ (f : Streams → Tree). streams_tree a.place.machine a.tdr abortable_ops f) epoch_next a.told.now.left.now c.streams_of.new.told.left.now c.next_epoch.new.told.left.now s c.from_residual-in_err-epoch.result c.in_ok-streams.ensures.goes
    (goes-off a.place.machine.pages (λ (f : ℕ → Tree). next_epoch_tree s.tdcs f) (λ (epoch : ℕ) (f : TokenWords → Tree). total_tree s epoch f) c.streams_of.new.told.left.now c.next_epoch.new.told.left.now c.next_epoch.new.told.left.now c.in_err-epoch.field-0.0 c.from_residual-in_err-epoch.result
    (exit c.from_residual-in_err-epoch.result c.in_err-epoch.field-0.0 _ c.from_residual-in_err-epoch.ensures.1 (λ y h. h)) c.in_err-epoch.ensures.goes)

pub returns-clause-goes : goal.returns-clause-goes
returns-clause-goes c =
    let a = c.args in
    let s : Streams = c.in_ok-streams.streams in
    goes-on a.place.machine.pages (λ (f : Streams → Tree). streams_tree a.place.machine a.tdr abortable_ops f) epoch_next a.told.now.left.now c.streams_of.new.told.left.now c.with_total.new.told.left.now s c.with_total.result c.in_ok-streams.ensures.goes
    (goes-on a.place.machine.pages (λ (f : ℕ → Tree). next_epoch_tree s.tdcs f) (λ (epoch : ℕ) (f : TokenWords → Tree). total_tree s epoch f) c.streams_of.new.told.left.now c.next_epoch.new.told.left.now c.with_total.new.told.left.now c.in_ok-epoch.epoch c.with_total.result c.in_ok-epoch.ensures.goes c.with_total.ensures.goes)

pub returns-clause-feeds : goal.returns-clause-feeds
returns-clause-feeds c =
    let a = c.args in
    let s : Streams = c.in_ok-streams.streams in
    feeds-on (λ (f : Streams → Tree). streams_tree a.place.machine a.tdr abortable_ops f) epoch_next a.told.now.left.now c.streams_of.new.told.left.now c.with_total.new.told.left.now s c.with_total.result c.in_ok-streams.ensures.feeds
    (feeds-on (λ (f : ℕ → Tree). next_epoch_tree s.tdcs f) (λ (epoch : ℕ) (f : TokenWords → Tree). total_tree s epoch f) c.streams_of.new.told.left.now c.next_epoch.new.told.left.now c.with_total.new.told.left.now c.in_ok-epoch.epoch c.with_total.result c.in_ok-epoch.ensures.feeds c.with_total.ensures.feeds)
