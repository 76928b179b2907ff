use Rattle.std.proofs.Common.{refl}
use Rattle.td_words.specs.declared.names.Mode.TheVariants.{Shared, Exclusive}
use Rattle.td_words.specs.declared.replies.Reply.TheVariants.{Done}
use Rattle.flat_core.specs.Conditions.{begun_ops}
use Rattle.flat_core.specs.MemRows.{entry_value}
use Rattle.leaf_engine.specs.Trees.{Tree, answers}
use Rattle.leaf_parts.specs.Arguments.{checked}
use Rattle.leaf_parts.proofs.Parts.{behind-stop, behind-go, exit}
use Rattle.leaf_parts.proofs.Arguments.{arguments-hold}
use Rattle.sept_parts.specs.declared.finds.Found.{Found}
use Rattle.sept_parts.specs.SeptTrees.{td_find_tree}
use Rattle.mem_build.specs.SeptReadTrees.{sept_read_arguments}
use Rattle.mem_build.proofs.sept_reads.SeptRdPlan.decide.Goals as goal

pub returns-in_err-found-clause-decides : goal.returns-in_err-found-clause-decides
returns-in_err-found-clause-decides c =
    let l = c.args.self.now in
    let m = l.place.machine in
    rw (exit c.from_residual-in_err-found.result c.in_err-found.field-0.0 _ c.from_residual-in_err-found.ensures.1 (λ y h. h))
    (behind-stop m.pages (checked (sept_read_arguments m l.tdr l.gpa l.level))
    (arguments-hold m.pages (sept_read_arguments m l.tdr l.gpa l.level) (rw c.from.ensures at c.in_ok-check.ensures, (c.in_ok-check-2.ensures, (c.in_ok-check-3.ensures, (rw c.is_aligned.ensures at c.in_ok-check-4.ensures, tt)))))
    (λ (f : Found → Tree). td_find_tree m.pages l.tdr (record { op = Shared; tree = Exclusive }) begun_ops l.gpa l.level f) (λ (found : Found). answers (Done (entry_value found.entry)))
    c.args.told.left.now c.td_find.new.told.left.now c.in_err-found.field-0.0 c.in_err-found.ensures.goes)

pub returns-clause-decides : goal.returns-clause-decides
returns-clause-decides c =
    let l = c.args.self.now in
    let m = l.place.machine in
    behind-go m.pages (checked (sept_read_arguments m l.tdr l.gpa l.level))
    (arguments-hold m.pages (sept_read_arguments m l.tdr l.gpa l.level) (rw c.from.ensures at c.in_ok-check.ensures, (c.in_ok-check-2.ensures, (c.in_ok-check-3.ensures, (rw c.is_aligned.ensures at c.in_ok-check-4.ensures, tt)))))
    (λ (f : Found → Tree). td_find_tree m.pages l.tdr (record { op = Shared; tree = Exclusive }) begun_ops l.gpa l.level f) (λ (found : Found). answers (Done (entry_value found.entry)))
    c.args.told.left.now c.td_find.new.told.left.now c.in_ok-found.found _
    c.in_ok-found.ensures.goes (rw (c.answer.ensures, c.entry_value.ensures) refl, refl)
