use Rattle.std.proofs.Common.{ℕ, List, Result, Err, subst, false}
use Rattle.td_words.specs.declared.machines.Machine.{Machine}
use Rattle.leaf_engine.specs.declared.plans.Stop.{Stop}
use Rattle.leaf_engine.specs.declared.plans.Act.{Act}
use Rattle.leaf_engine.specs.Decides.{Ending, Decides, ending}
use Rattle.td_words.specs.declared.names.LifeState.TheVariants as life
use Rattle.td_words.specs.Packing.{FlushedOf}
use Rattle.key_table.specs.EndTrees.{end_changes}
use Rattle.leaf_parts.specs.Vps.{vps_tree}
use Rattle.leaf_parts.proofs.Parts.{exit}
use Rattle.key_table.specs.FlushTrees.{flush_counted, free_vp}
use Rattle.key_table.proofs.flush_ends.end_flush.Goals as goal

abbrev Counts : Machine → (t page : ℕ) → List ℕ → Result Ending Stop → Type 0
Counts m t page told r = Decides m.pages (vps_tree m.pages (free_vp page) (flush_counted m t)) told r

pub returns-in_err-count-clause-decides : goal.returns-in_err-count-clause-decides
returns-in_err-count-clause-decides c =
    rw (exit c.from_residual-in_err-count.result c.in_err-count.field-0.0 _ c.from_residual-in_err-count.ensures.1 (λ y h. h), c.in_ok-controls.ensures, c.if-controls-eq2.true, c.in_ok-word.ensures)
    (subst (λ (p : ℕ). Counts c.args.machine c.args.tdr p c.load-then-controls-eq2.new.self.left.now (Err c.in_err-count.field-0.0)) c.page_told.ensures
    (c.in_err-count.ensures.goes (flush_counted c.args.machine c.args.tdr)))

pub returns-in_ok-count-clause-decides : goal.returns-in_ok-count-clause-decides
returns-in_ok-count-clause-decides c =
    rw (c.in_ok-controls.ensures, c.if-controls-eq2.true, c.in_ok-word.ensures)
    (subst (λ (p : ℕ). Counts c.args.machine c.args.tdr p c.load-then-controls-eq2.new.self.left.now (ending (λ (a : Act). end_changes c.args.machine c.args.tdr a.hkid (FlushedOf c.args.tdr false) life.Blocked) c.flush_counted.result)) c.page_told.ensures
    (c.in_ok-count.ensures.goes (flush_counted c.args.machine c.args.tdr) _ c.flush_counted.ensures.decides))
