use Rattle.std.proofs.Common.{sym, subst}
use Rattle.command_files.specs.Commands.{Run, named_seen}
use Rattle.script_runner.specs.Ending.{Ended, HandedOut}
use Rattle.script_runner.specs.Threads.{texts_end}
use Rattle.script_runner.specs.Commanded.{handed_in, EndsRun}
use Rattle.script_runner.proofs.Brings.{hands_words}
use Rattle.script_runner.proofs.Running.{held, threads-given}
use Rattle.script_runner.proofs.ending.run.Goals as goal

pub returns-in-Ok-threaded_texts : goal.returns-in-Ok-threaded_texts
returns-in-Ok-threaded_texts g c =
    let n = named_seen c.args.named.now in
    let s = c.args.script.now in
    let handed = handed_in c.args.inputs.now in
    let keys = c.keys_of-keys.result in
    let fit = hands_words c.args.inputs.now c.deref-3.result.now keys.forward keys.backward c.deref.result.now c.deref-4.result.now c.in-Ok.bundles c.deref-3.ensures.value c.deref-4.ensures.value c.deref.ensures.value c.keys_of-keys.ensures.forward c.keys_of-keys.ensures.backward c.in-Ok.ensures c.come_in_as_words.ensures in (
      subst (λ (e : Ended). EndsRun (Run n) n s handed e) (sym c.of_texts.ensures)
          (subst (λ (h : HandedOut). EndsRun (Run n) n s h (texts_end n c.in-Ok-threaded_texts.texts))
          (λ i. held (c.deref-2.ensures.value i) (c.keys_of-keys.ensures.forward i) (c.keys_of-keys.ensures.backward i) (c.deref.ensures.value i) (c.report_key_of-report_key.ensures i))
          (threads-given n s c.deref-2.result.now keys.forward keys.backward c.deref.result.now c.in-Ok.bundles c.in-Ok.ensures c.report_key_of-report_key.result c.in-Ok-threaded_texts.texts c.in-Ok-threaded_texts.ensures.each)),
      fit,
    )
