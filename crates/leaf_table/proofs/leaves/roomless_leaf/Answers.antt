use Rattle.std.proofs.Common.{◌∙◌, Option, None, sym, ap}
use Rattle.flat_core.specs.Opening.{Incoming}
use Rattle.incoming.specs.Arrivals.{at_slot}
use Rattle.import_core.specs.TokenTrees.{import_token_task}
use Rattle.import_core.specs.TokenAbortTrees.{abort_by_token_task}
use Rattle.import_pages.specs.PageImportTrees.{page_import_task}
use Rattle.import_states.specs.BeginImportTrees.{import_immutable_task}
use Rattle.import_states.specs.TdImportTrees.{import_td_task}
use Rattle.import_states.specs.VpImportTrees.{import_vp_task}
use Rattle.leaf_table.specs.Given.{given_in}
use Rattle.leaf_table.specs.Table.{task_of}
use Rattle.leaf_table.proofs.leaves.roomless_leaf.Goals as goal

pub returns-in-VpCreate-clause-task : goal.returns-in-VpCreate-clause-task
returns-in-VpCreate-clause-task c =
    c.by_plan-in-VpCreate.ensures.task ∙ c.plan-in-VpCreate.ensures ∙ sym (ap (task_of (given_in c.args.given) c.args.place) c.in-VpCreate.is)

pub returns-in-VpInit-clause-task : goal.returns-in-VpInit-clause-task
returns-in-VpInit-clause-task c =
    c.by_plan-in-VpInit.ensures.task ∙ c.plan-in-VpInit.ensures ∙ sym (ap (task_of (given_in c.args.given) c.args.place) c.in-VpInit.is)

pub returns-in-MemSeptAdd-clause-task : goal.returns-in-MemSeptAdd-clause-task
returns-in-MemSeptAdd-clause-task c =
    c.by_plan-in-MemSeptAdd.ensures.task ∙ c.plan-in-MemSeptAdd.ensures ∙ sym (ap (task_of (given_in c.args.given) c.args.place) c.in-MemSeptAdd.is)

pub returns-in-MemSeptRd-clause-task : goal.returns-in-MemSeptRd-clause-task
returns-in-MemSeptRd-clause-task c =
    c.by_plan-in-MemSeptRd.ensures.task ∙ c.plan-in-MemSeptRd.ensures ∙ sym (ap (task_of (given_in c.args.given) c.args.place) c.in-MemSeptRd.is)

pub returns-in-MemPageAug-clause-task : goal.returns-in-MemPageAug-clause-task
returns-in-MemPageAug-clause-task c =
    c.by_plan-in-MemPageAug.ensures.task ∙ c.plan-in-MemPageAug.ensures ∙ sym (ap (task_of (given_in c.args.given) c.args.place) c.in-MemPageAug.is)

pub returns-in-MemPageRemove-clause-task : goal.returns-in-MemPageRemove-clause-task
returns-in-MemPageRemove-clause-task c =
    c.by_plan-in-MemPageRemove.ensures.task ∙ c.plan-in-MemPageRemove.ensures ∙ sym (ap (task_of (given_in c.args.given) c.args.place) c.in-MemPageRemove.is)

pub returns-in-MemPageRelocate-clause-task : goal.returns-in-MemPageRelocate-clause-task
returns-in-MemPageRelocate-clause-task c =
    c.by_plan-in-MemPageRelocate.ensures.task ∙ c.plan-in-MemPageRelocate.ensures ∙ sym (ap (task_of (given_in c.args.given) c.args.place) c.in-MemPageRelocate.is)

pub returns-in-MemRangeBlock-clause-task : goal.returns-in-MemRangeBlock-clause-task
returns-in-MemRangeBlock-clause-task c =
    c.by_plan-in-MemRangeBlock.ensures.task ∙ c.plan-in-MemRangeBlock.ensures ∙ sym (ap (task_of (given_in c.args.given) c.args.place) c.in-MemRangeBlock.is)

pub returns-in-MemRangeUnblock-clause-task : goal.returns-in-MemRangeUnblock-clause-task
returns-in-MemRangeUnblock-clause-task c =
    c.by_plan-in-MemRangeUnblock.ensures.task ∙ c.plan-in-MemRangeUnblock.ensures ∙ sym (ap (task_of (given_in c.args.given) c.args.place) c.in-MemRangeUnblock.is)

pub returns-in-MigStreamCreate-clause-task : goal.returns-in-MigStreamCreate-clause-task
returns-in-MigStreamCreate-clause-task c =
    c.by_plan-in-MigStreamCreate.ensures.task ∙ c.plan-in-MigStreamCreate.ensures ∙ sym (ap (task_of (given_in c.args.given) c.args.place) c.in-MigStreamCreate.is)

pub returns-in-ExportBlockw-clause-task : goal.returns-in-ExportBlockw-clause-task
returns-in-ExportBlockw-clause-task c =
    c.by_plan-in-ExportBlockw.ensures.task ∙ c.plan-in-ExportBlockw.ensures ∙ sym (ap (task_of (given_in c.args.given) c.args.place) c.in-ExportBlockw.is)

pub returns-in-ExportUnblockw-clause-task : goal.returns-in-ExportUnblockw-clause-task
returns-in-ExportUnblockw-clause-task c =
    c.by_plan-in-ExportUnblockw.ensures.task ∙ c.plan-in-ExportUnblockw.ensures ∙ sym (ap (task_of (given_in c.args.given) c.args.place) c.in-ExportUnblockw.is)

pub returns-in-ExportRestore-clause-task : goal.returns-in-ExportRestore-clause-task
returns-in-ExportRestore-clause-task c =
    c.by_plan-in-ExportRestore.ensures.task ∙ c.plan-in-ExportRestore.ensures ∙ sym (ap (task_of (given_in c.args.given) c.args.place) c.in-ExportRestore.is)

pub returns-in-MemSeptRemove-clause-task : goal.returns-in-MemSeptRemove-clause-task
returns-in-MemSeptRemove-clause-task c = c.leaf.ensures.task ∙ sym (ap (task_of (given_in c.args.given) c.args.place) c.in-MemSeptRemove.is)

pub returns-in-MrExtend-clause-task : goal.returns-in-MrExtend-clause-task
returns-in-MrExtend-clause-task c = c.leaf-in-MrExtend.ensures.task ∙ sym (ap (task_of (given_in c.args.given) c.args.place) c.in-MrExtend.is)

pub returns-in-VpEnter-clause-task : goal.returns-in-VpEnter-clause-task
returns-in-VpEnter-clause-task c =
    c.by_plan-in-VpEnter.ensures.task ∙ c.plan-in-VpEnter.ensures ∙ sym (ap (task_of (given_in c.args.given) c.args.place) c.in-VpEnter.is)

pub returns-in-ExportStateImmutable-clause-task : goal.returns-in-ExportStateImmutable-clause-task
returns-in-ExportStateImmutable-clause-task c =
    c.by_plan-in-ExportStateImmutable.ensures.task ∙ c.plan-in-ExportStateImmutable.ensures ∙ sym (ap (task_of (given_in c.args.given) c.args.place) c.in-ExportStateImmutable.is)

pub returns-in-ExportStateVp-clause-task : goal.returns-in-ExportStateVp-clause-task
returns-in-ExportStateVp-clause-task c =
    c.by_plan-in-ExportStateVp.ensures.task ∙ c.plan-in-ExportStateVp.ensures ∙ sym (ap (task_of (given_in c.args.given) c.args.place) c.in-ExportStateVp.is)

pub returns-in-ExportStateTd-clause-task : goal.returns-in-ExportStateTd-clause-task
returns-in-ExportStateTd-clause-task c = c.leaf-in-ExportStateTd.ensures.task ∙ sym (ap (task_of (given_in c.args.given) c.args.place) c.in-ExportStateTd.is)

pub returns-in-ExportAbortByToken-clause-task : goal.returns-in-ExportAbortByToken-clause-task
returns-in-ExportAbortByToken-clause-task c =
    c.by_bundle.ensures.task ∙ c.plan-in-ExportAbortByToken.ensures.task ∙ ap (λ (b : Option Incoming). abort_by_token_task c.args.place b c.in-ExportAbortByToken.tdr c.in-ExportAbortByToken.slot) c.get.ensures ∙ sym (ap (task_of (given_in c.args.given) c.args.place) c.in-ExportAbortByToken.is)

pub returns-in-ImportStateImmutable-clause-task : goal.returns-in-ImportStateImmutable-clause-task
returns-in-ImportStateImmutable-clause-task c =
    c.by_bundle-in-ImportStateImmutable.ensures.task ∙ c.plan-in-ImportStateImmutable.ensures.task ∙ ap (λ (b : Option Incoming). import_immutable_task c.args.place b c.in-ImportStateImmutable.tdr c.in-ImportStateImmutable.slot) c.get-in-ImportStateImmutable.ensures ∙ sym (ap (task_of (given_in c.args.given) c.args.place) c.in-ImportStateImmutable.is)

pub returns-in-ImportMem-clause-task : goal.returns-in-ImportMem-clause-task
returns-in-ImportMem-clause-task c =
    c.leaf-in-ImportMem.ensures.task ∙ ap (λ (b : Option Incoming). page_import_task c.args.place b c.in-ImportMem.tdr c.in-ImportMem.slot c.in-ImportMem.page None) c.get-in-ImportMem.ensures ∙ sym (ap (task_of (given_in c.args.given) c.args.place) c.in-ImportMem.is)

pub returns-in-ImportTrack-clause-task : goal.returns-in-ImportTrack-clause-task
returns-in-ImportTrack-clause-task c =
    c.by_bundle-in-ImportTrack.ensures.task ∙ c.plan-in-ImportTrack.ensures.task ∙ ap (λ (b : Option Incoming). import_token_task c.args.place b c.in-ImportTrack.tdr c.in-ImportTrack.slot) c.get-in-ImportTrack.ensures ∙ sym (ap (task_of (given_in c.args.given) c.args.place) c.in-ImportTrack.is)

pub returns-in-ImportStateTd-clause-task : goal.returns-in-ImportStateTd-clause-task
returns-in-ImportStateTd-clause-task c =
    c.leaf-in-ImportStateTd.ensures.task ∙ ap (λ (b : Option Incoming). import_td_task c.args.place b c.in-ImportStateTd.tdr c.in-ImportStateTd.slot) c.get-in-ImportStateTd.ensures ∙ sym (ap (task_of (given_in c.args.given) c.args.place) c.in-ImportStateTd.is)

pub returns-in-ImportStateVp-clause-task : goal.returns-in-ImportStateVp-clause-task
returns-in-ImportStateVp-clause-task c =
    c.by_bundle-in-ImportStateVp.ensures.task ∙ c.plan-in-ImportStateVp.ensures.task ∙ ap (λ (b : Option Incoming). import_vp_task c.args.place b c.in-ImportStateVp.tdr c.in-ImportStateVp.vp c.in-ImportStateVp.slot) c.get-in-ImportStateVp.ensures ∙ sym (ap (task_of (given_in c.args.given) c.args.place) c.in-ImportStateVp.is)

pub returns-in-ImportAbort-clause-task : goal.returns-in-ImportAbort-clause-task
returns-in-ImportAbort-clause-task c =
    c.by_plan-in-ImportAbort.ensures.task ∙ c.plan-in-ImportAbort.ensures ∙ sym (ap (task_of (given_in c.args.given) c.args.place) c.in-ImportAbort.is)

pub returns-in-ExportAbortByToken-clause-takes : goal.returns-in-ExportAbortByToken-clause-takes
returns-in-ExportAbortByToken-clause-takes c =
    c.by_bundle.ensures.takes (given_in c.args.given) (c.plan-in-ExportAbortByToken.ensures.input.1 ∙ c.get.ensures ∙ sym (ap (at_slot c.args.given.bundles.now) c.plan-in-ExportAbortByToken.ensures.input.0))

pub returns-in-ImportStateImmutable-clause-takes : goal.returns-in-ImportStateImmutable-clause-takes
returns-in-ImportStateImmutable-clause-takes c =
    c.by_bundle-in-ImportStateImmutable.ensures.takes (given_in c.args.given) (c.plan-in-ImportStateImmutable.ensures.input.1 ∙ c.get-in-ImportStateImmutable.ensures ∙ sym (ap (at_slot c.args.given.bundles.now) c.plan-in-ImportStateImmutable.ensures.input.0))

pub returns-in-ImportTrack-clause-takes : goal.returns-in-ImportTrack-clause-takes
returns-in-ImportTrack-clause-takes c =
    c.by_bundle-in-ImportTrack.ensures.takes (given_in c.args.given) (c.plan-in-ImportTrack.ensures.input.1 ∙ c.get-in-ImportTrack.ensures ∙ sym (ap (at_slot c.args.given.bundles.now) c.plan-in-ImportTrack.ensures.input.0))

pub returns-in-ImportStateVp-clause-takes : goal.returns-in-ImportStateVp-clause-takes
returns-in-ImportStateVp-clause-takes c =
    c.by_bundle-in-ImportStateVp.ensures.takes (given_in c.args.given) (c.plan-in-ImportStateVp.ensures.input.1 ∙ c.get-in-ImportStateVp.ensures ∙ sym (ap (at_slot c.args.given.bundles.now) c.plan-in-ImportStateVp.ensures.input.0))

pub returns-in-ImportMem-clause-takes : goal.returns-in-ImportMem-clause-takes
returns-in-ImportMem-clause-takes c = c.leaf-in-ImportMem.ensures.input.1 ∙ c.get-in-ImportMem.ensures ∙ sym (ap (at_slot c.args.given.bundles.now) c.leaf-in-ImportMem.ensures.input.0)

pub returns-in-ImportStateTd-clause-takes : goal.returns-in-ImportStateTd-clause-takes
returns-in-ImportStateTd-clause-takes c = c.leaf-in-ImportStateTd.ensures.input.1 ∙ c.get-in-ImportStateTd.ensures ∙ sym (ap (at_slot c.args.given.bundles.now) c.leaf-in-ImportStateTd.ensures.input.0)
