-- The texts of a run in threads.
use Rattle.std.specs.Prelude.{◌≡◌, ℕ, List}
use Rattle.leaf_engine.specs.Merges.{order}
use Rattle.script_text.specs.Seen.{ScriptSeen}
use Rattle.command_files.specs.Commands.{NamedSeen, CommandSeen, Replay, Run, Check}
use Rattle.run_texts.specs.declared.replay.Texts.{Texts}
use Rattle.run_texts.specs.Threaded.{AreOfThreads}
use Rattle.script_runner.specs.Ending.{Ended, HandedOut, opening_by, both_files}

-- an ending that puts and saves these texts
abbrev pub texts_end : NamedSeen → Texts → Ended
texts_end n t = record { status = 0; text = t.replies.items; files = both_files n.out_bundles n.guest_out t.container.items t.guest.items }

-- The ending's texts are those of processors in threads: their own lists of word steps have an order that plays, whose events are
-- these; and each such order is one of events under which the flat machine's run prints these texts and makes these bundles.
abbrev pub EndsThreads : NamedSeen → ScriptSeen → HandedOut → (events : List ℕ) → Ended → Type 0
EndsThreads n s handed events e =
    (t : Texts) × (threads : AreOfThreads (opening_by handed s) handed.keys.forward handed.keys.backward handed.report_key n.out_bundles n.guest_out t) × (events ≡ order threads.made) × (e ≡ texts_end n t)

-- a run's ending is so; a replay has no threads
abbrev pub ThreadsOf : CommandSeen → ScriptSeen → HandedOut → (events : List ℕ) → Ended → Type 0
ThreadsOf (Replay n) s handed events e = Unit {0}
ThreadsOf (Run n) s handed events e = EndsThreads n s handed events e
ThreadsOf (Check name) s handed events e = Unit {0}
