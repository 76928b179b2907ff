-- A run's texts are those that its ending puts and saves.
use Rattle.std.proofs.Common.{◌≡◌, refl, ap, subst, ℕ, List, ◌++◌, map, Option, Some, None, slice_index}
use Rattle.td_words.specs.Seen.{BundleSeen}
use Rattle.flat_core.specs.HostText.{host_text}
use Rattle.flat_core.specs.GuestText.{guest_text}
use Rattle.flat_core.specs.Opening.{Opening}
use Rattle.script_text.specs.Seen.{ScriptSeen}
use Rattle.command_files.specs.Commands.{NamedSeen, Replay, Run}
use Rattle.incoming.specs.Arrivals.{SlotIncoming, incoming_in, at_slot}
use Rattle.leaf_table.specs.Given.{Given, secrets_in}
use Rattle.leaf_engine.specs.Merges.{order}
use Rattle.run_texts.specs.Openings.{opening_of}
use Rattle.run_texts.specs.Sealing.{bundles_text}
use Rattle.run_texts.specs.Replaying.{where_named, TellAll}
use Rattle.run_texts.specs.Threaded.{AreOfThreads}
use Rattle.run_texts.specs.declared.replay.Texts.{Texts}
use Rattle.script_runner.specs.Ending.{HandedOut, opening_by, file_named, both_files, run_end}
use Rattle.script_runner.specs.Threads.{texts_end}
use Rattle.script_runner.specs.Commanded.{EndsRun}

-- the bytes of a file count where it is named
same-file : (name : Option (List ℕ)) (bytes told : List ℕ) → bytes ≡ where_named name told → file_named name bytes ≡ file_named name told
same-file None bytes told h = refl
same-file (Some n) bytes told h = ap (file_named (Some n)) h

-- these secret words, these two keys, these bundles and this report key
abbrev pub held : (secrets forward backward : List ℕ) → List BundleSeen → (report_key : List ℕ) → HandedOut
held secrets forward backward bundles report_key = record { secrets = slice_index secrets; keys = record { forward = forward; backward = backward }; bundles = bundles; report_key = report_key }

-- what a run is given by words and by bundles that were opened
abbrev pub given_words : List ℕ → List SlotIncoming → Given
given_words secrets arrived = record { secrets = secrets_in secrets; bundles = at_slot arrived }

abbrev TellsRun : NamedSeen → ScriptSeen → HandedOut → List ℕ → Texts → Type 0
TellsRun n s handed order t =
    TellAll n.out_bundles n.guest_out (host_text (opening_by handed s) order) (bundles_text handed.keys.forward handed.keys.backward (opening_by handed s) order) (guest_text handed.report_key (opening_by handed s) order) t

-- an ending of these texts is the run's
text-ends : (n : NamedSeen) (s : ScriptSeen) (handed : HandedOut) (order : List ℕ) (t : Texts) → TellsRun n s handed order t → texts_end n t ≡ run_end n s handed order
text-ends n s handed order t h =
    let o : Opening = opening_by handed s in
    let made : List ℕ = bundles_text handed.keys.forward handed.keys.backward o order in
    let files : both_files n.out_bundles n.guest_out t.container.items t.guest.items ≡ both_files n.out_bundles n.guest_out made (guest_text handed.report_key o order) =
    λ i. same-file n.out_bundles t.container.items made h.1 i ++ same-file n.guest_out t.guest.items (guest_text handed.report_key o order) h.2 i in
    λ i. record { status = 0; text = h.0 i; files = files i }

-- a replay's texts are those of the run under its schedule
pub replay-ends : (n : NamedSeen) (s : ScriptSeen) (handed : HandedOut) (t : Texts) → TellsRun n s handed s.schedule t → EndsRun (Replay n) n s handed (texts_end n t)
replay-ends n s handed t h = (s.schedule, refl, text-ends n s handed s.schedule t h, tt)

-- those of threads are those of the run under the order of what they made
pub threads-end : (n : NamedSeen) (s : ScriptSeen) (handed : HandedOut) (t : Texts) → AreOfThreads (opening_by handed s) handed.keys.forward handed.keys.backward handed.report_key n.out_bundles n.guest_out t → EndsRun (Run n) n s handed (texts_end n t)
threads-end n s handed t threads = (order threads.made, threads.processors, text-ends n s handed (order threads.made) t (threads.each threads.made threads.table threads.ordered), (t, threads, refl, refl))

-- what is given is what the inputs hand out
module _ (n : NamedSeen) (s : ScriptSeen) (secrets forward backward : List ℕ) (bundles : List BundleSeen) (arrived : List SlotIncoming) (opened : arrived ≡ map (incoming_in forward backward) bundles) (report_key : List ℕ) (t : Texts) where
  pub replay-given : TellAll n.out_bundles n.guest_out (host_text (opening_of (given_words secrets arrived) s) s.schedule) (bundles_text forward backward (opening_of (given_words secrets arrived) s) s.schedule) (guest_text report_key (opening_of (given_words secrets arrived) s) s.schedule) t
      → EndsRun (Replay n) n s (held secrets forward backward bundles report_key) (texts_end n t)
  replay-given h =
      replay-ends n s (held secrets forward backward bundles report_key) t
      (subst (λ (x : List SlotIncoming). TellAll n.out_bundles n.guest_out (host_text (opening_of (given_words secrets x) s) s.schedule) (bundles_text forward backward (opening_of (given_words secrets x) s) s.schedule) (guest_text report_key (opening_of (given_words secrets x) s) s.schedule) t) opened h)

  pub threads-given : AreOfThreads (opening_of (given_words secrets arrived) s) forward backward report_key n.out_bundles n.guest_out t → EndsRun (Run n) n s (held secrets forward backward bundles report_key) (texts_end n t)
  threads-given threads =
      threads-end n s (held secrets forward backward bundles report_key) t
      (subst (λ (x : List SlotIncoming). AreOfThreads (opening_of (given_words secrets x) s) forward backward report_key n.out_bundles n.guest_out t) opened threads)
