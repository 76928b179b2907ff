use Rattle.std.proofs.Common.{◌∙◌, sym, string_bytes}
use Rattle.leaf_dispatch.specs.States.{seen_of}
use Rattle.state_runs.proofs.Telling.{guest-said}
use Rattle.state_runs.proofs.reading.push_guest_of.Goals as goal

pub returns-in_ok-push_guest-in-Some : goal.returns-in_ok-push_guest-in-Some
returns-in_ok-push_guest-in-Some c =
    guest-said c.push_locks.result c.args.form c.args.words.now (string_bytes c.args.text.now) _ _ c.args.lp (seen_of c.args.state.now).guest c.in-Some.guest c.step_held.result.now (sym c.in-Some.is ∙ c.guest.ensures) c.step_held.ensures
    c.in_ok-push_guest-in-Some.ensures c.push_locks.ensures
