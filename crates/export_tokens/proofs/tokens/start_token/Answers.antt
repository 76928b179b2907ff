use Rattle.std.proofs.Common.{ℕ, List, Ok, Err, subst}
use Rattle.flat_core.specs.BundleRows.{paused_ops}
use Rattle.leaf_engine.specs.Trees.{Tree}
use Rattle.leaf_parts.specs.Parts.{Goes, Feeds}
use Rattle.leaf_parts.proofs.Parts.{goes-on, goes-off, feeds-on, exit}
use Rattle.export_tokens.specs.declared.tokens.Streams.{Streams}
use Rattle.export_tokens.specs.TokenTrees.{streams_tree, none_missing_tree, none_dirty_tree}
use Rattle.export_tokens.proofs.Rests.{start_next, dirty_next, total_next}
use Rattle.export_tokens.proofs.tokens.start_token.Goals as goal

pub returns-in_err-streams-clause-goes : goal.returns-in_err-streams-clause-goes
returns-in_err-streams-clause-goes c =
    let a = c.args in
    goes-off a.place.machine.pages (λ (f : Streams → Tree). streams_tree a.place.machine a.tdr paused_ops f) start_next a.told.now.left.now c.streams_of.new.told.left.now c.streams_of.new.told.left.now c.in_err-streams.field-0.0 c.from_residual.result
    (exit c.from_residual.result c.in_err-streams.field-0.0 _ c.from_residual.ensures.1 (λ y h. h)) c.in_err-streams.ensures.goes

pub returns-in_err-none_missing-clause-goes : goal.returns-in_err-none_missing-clause-goes
returns-in_err-none_missing-clause-goes c =
    let a = c.args in
    let n : ℕ = a.place.machine.pages in
    let s : Streams = c.in_ok-streams.streams in
    let e = c.in_err-none_missing.field-0.0 in
    goes-on n (λ (f : Streams → Tree). streams_tree a.place.machine a.tdr paused_ops f) start_next a.told.now.left.now c.streams_of.new.told.left.now c.none_missing.new.told.left.now s c.from_residual-in_err-none_missing.result c.in_ok-streams.ensures.goes
    (goes-off n (λ (f : Unit {0} → Tree). none_missing_tree s.tdcs (f tt)) (dirty_next s) c.streams_of.new.told.left.now c.none_missing.new.told.left.now c.none_missing.new.told.left.now e c.from_residual-in_err-none_missing.result
    (exit c.from_residual-in_err-none_missing.result e _ c.from_residual-in_err-none_missing.ensures.1 (λ y h. h)) c.in_err-none_missing.ensures.goes)

pub returns-in_err-none_dirty-clause-goes : goal.returns-in_err-none_dirty-clause-goes
returns-in_err-none_dirty-clause-goes c =
    let a = c.args in
    let n : ℕ = a.place.machine.pages in
    let s : Streams = c.in_ok-streams.streams in
    let e = c.in_err-none_dirty.field-0.0 in
    let dirty = subst (λ (ps : List ℕ). Goes {A = Unit {0}} n (λ f. none_dirty_tree s.tdcs ps (f tt)) c.none_missing.new.told.left.now c.none_dirty.new.told.left.now (Err e)) c.as_slice.ensures.value c.in_err-none_dirty.ensures.goes in
    goes-on n (λ (f : Streams → Tree). streams_tree a.place.machine a.tdr paused_ops f) start_next a.told.now.left.now c.streams_of.new.told.left.now c.none_dirty.new.told.left.now s c.from_residual-in_err-none_dirty.result c.in_ok-streams.ensures.goes
    (goes-on n (λ (f : Unit {0} → Tree). none_missing_tree s.tdcs (f tt)) (dirty_next s) c.streams_of.new.told.left.now c.none_missing.new.told.left.now c.none_dirty.new.told.left.now tt c.from_residual-in_err-none_dirty.result c.in_ok-none_missing.ensures.goes
    (goes-off n (λ (f : Unit {0} → Tree). none_dirty_tree s.tdcs s.pages.items (f tt)) (total_next s) c.none_missing.new.told.left.now c.none_dirty.new.told.left.now c.none_dirty.new.told.left.now e c.from_residual-in_err-none_dirty.result
    (exit c.from_residual-in_err-none_dirty.result e _ c.from_residual-in_err-none_dirty.ensures.1 (λ y h. h)) dirty))

pub returns-clause-goes : goal.returns-clause-goes
returns-clause-goes c =
    let a = c.args in
    let n : ℕ = a.place.machine.pages in
    let s : Streams = c.in_ok-streams.streams in
    let dirty = subst (λ (ps : List ℕ). Goes {A = Unit {0}} n (λ f. none_dirty_tree s.tdcs ps (f tt)) c.none_missing.new.told.left.now c.none_dirty.new.told.left.now (Ok tt)) c.as_slice.ensures.value c.in_ok-none_dirty.ensures.goes in
    goes-on n (λ (f : Streams → Tree). streams_tree a.place.machine a.tdr paused_ops f) start_next a.told.now.left.now c.streams_of.new.told.left.now c.with_total.new.told.left.now s c.with_total.result c.in_ok-streams.ensures.goes
    (goes-on n (λ (f : Unit {0} → Tree). none_missing_tree s.tdcs (f tt)) (dirty_next s) c.streams_of.new.told.left.now c.none_missing.new.told.left.now c.with_total.new.told.left.now tt c.with_total.result c.in_ok-none_missing.ensures.goes
    (goes-on n (λ (f : Unit {0} → Tree). none_dirty_tree s.tdcs s.pages.items (f tt)) (total_next s) c.none_missing.new.told.left.now c.none_dirty.new.told.left.now c.with_total.new.told.left.now tt c.with_total.result dirty c.with_total.ensures.goes))

pub returns-clause-feeds : goal.returns-clause-feeds
returns-clause-feeds c =
    let a = c.args in
    let s : Streams = c.in_ok-streams.streams in
    let dirty = subst (λ (ps : List ℕ). Feeds {A = Unit {0}} (λ f. none_dirty_tree s.tdcs ps (f tt)) c.none_missing.new.told.left.now c.none_dirty.new.told.left.now (Ok tt)) c.as_slice.ensures.value c.in_ok-none_dirty.ensures.feeds in
    feeds-on (λ (f : Streams → Tree). streams_tree a.place.machine a.tdr paused_ops f) start_next a.told.now.left.now c.streams_of.new.told.left.now c.with_total.new.told.left.now s c.with_total.result c.in_ok-streams.ensures.feeds
    (feeds-on (λ (f : Unit {0} → Tree). none_missing_tree s.tdcs (f tt)) (dirty_next s) c.streams_of.new.told.left.now c.none_missing.new.told.left.now c.with_total.new.told.left.now tt c.with_total.result c.in_ok-none_missing.ensures.feeds
    (feeds-on (λ (f : Unit {0} → Tree). none_dirty_tree s.tdcs s.pages.items (f tt)) (total_next s) c.none_missing.new.told.left.now c.none_dirty.new.told.left.now c.with_total.new.told.left.now tt c.with_total.result dirty c.with_total.ensures.feeds))
