-- The worked examples of guests compute.
use Rattle.std.proofs.Common.{refl}
use Rattle.flat_core.specs.GuestWorked.{GuestExamples}

pub guest_examples : GuestExamples
guest_examples = record {
  epoch_waits = refl;
  tracked_after_exit = refl;
  used_until_exit = refl;
  removed_after_exit_0 = refl;
  removed_after_exit_1 = refl;
  moved_after_exit_0 = refl;
  moved_after_exit_1 = refl;
  moved_page = refl;
  moved_word = refl;
  sept_after_exit_0 = refl;
  sept_after_exit_1 = refl;
  exported_beside = refl;
  exported_words = refl;
  moved_0 = refl;
  moved_1 = refl;
  flushed_0 = refl;
  flushed_1 = refl;
  flushed_in_guest = refl;
  flushed_elsewhere = refl;
  flush_events = refl;
  exits = refl;
  stop_before_max = refl;
  sums = refl;
  secret_told = refl;
  secret_kept = refl;
  secret_noted = refl;
  busy_0 = refl;
  busy_1 = refl;
  stop_0 = refl;
  stop_1 = refl;
  refused = refl;
  in_guest_elsewhere = refl;
  associated_elsewhere = refl;
  load_and_store = refl;
  load_note = refl;
  no_page = refl;
  no_tree = refl;
  shared = refl;
  shared_own = refl;
  shared_outside = refl;
  told = refl;
  accept_nothing = refl;
  accept_mapped = refl;
  accept_pending = refl;
  accepted = refl;
  accepted_entry = refl;
  measured = refl;
  reported = refl;
  guests_share = refl;
  entry = refl;
  set_events = refl;
  walk_events = refl;
  cached_events = refl;
  shared_events = refl;
  shared_own_events = refl;
  violation_events = refl;
  accept_events = refl;
  accept_nothing_events = refl;
  rtmr_events = refl;
  report_events = refl;
  vmcall_events = refl;
}
