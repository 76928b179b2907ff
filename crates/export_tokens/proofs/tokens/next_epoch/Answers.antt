use Rattle.std.proofs.Common.{ℕ, ◌+◌, ◌-◌, ◌^◌, nat_lt, ◌∙◌}
use Rattle.td_words.specs.declared.names.Counter.TheVariants.{MigEpoch}
use Rattle.td_words.specs.declared.refusals.Status.TheVariants.{CounterLimit}
use Rattle.leaf_engine.specs.Trees.{Tree}
use Rattle.leaf_parts.proofs.Parts.{goes-stop, feed-passes, exit}
use Rattle.export_tokens.specs.TokenTrees.{next_epoch_tree}
use Rattle.export_tokens.proofs.Rests.{tested}
use Rattle.export_tokens.proofs.tokens.next_epoch.Goals as goal

pub returns-in_err-epoch-clause-goes : goal.returns-in_err-epoch-clause-goes
returns-in_err-epoch-clause-goes c =
    goes-stop c.args.machine.pages (λ (f : ℕ → Tree). next_epoch_tree c.args.tdcs f) c.args.told.now.left.now c.mig_epoch.new.told.left.now c.from_residual.result c.in_err-epoch.field-0.0
    (exit c.from_residual.result c.in_err-epoch.field-0.0 _ c.from_residual.ensures.1 (λ y h. h)) (λ f. c.in_err-epoch.ensures.goes (tested f))

pub returns-clause-feeds : goal.returns-clause-feeds
returns-clause-feeds c = λ further.
    c.in_ok-epoch.ensures.feeds (tested further) ∙ feed-passes (nat_lt c.in_ok-epoch.epoch (2 ^ 32 - 2)) (CounterLimit MigEpoch) (further (c.in_ok-epoch.epoch + 1)) c.mig_epoch.new.told.left.now c.in_ok-check.ensures
