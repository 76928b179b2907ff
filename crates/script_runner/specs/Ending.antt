-- How a command ends: its status, its text and what it saves, over the contents that are told.
use Rattle.std.specs.Prelude.{◌≡◌, ℕ, ◌+◌, ◌*◌, ◌^◌, ◌<◌, List, [], ◌∷◌, ◌++◌, length, map, drop, replicate, Bool, Option, Some, None, option_map, Result, Ok, Err, ◌==◌, nat_le, if◌then◌else◌, codes}
use Rattle.std.specs.List.{All}
use Rattle.std.specs.Fmt.{decimal}
use Rattle.std.specs.Str.{bytes_eq}
use Rattle.byteorder.specs.Endian.{little_number}
use Rattle.td_words.specs.Seen.{CodeSeen, BundleSeen}
use Rattle.td_words.specs.declared.calls.Call.{Call}
use Rattle.script_text.specs.declared.faults.Reason.{Reason}
use Rattle.script_text.specs.declared.faults.ScriptFault.{ScriptFault}
use Rattle.script_text.specs.declared.faults.ScriptFault.TheVariants.{Bad, OutOfMemory}
use Rattle.script_text.specs.ReasonText.{reason_text}
use Rattle.script_text.specs.Reading.{read_of}
use Rattle.script_text.specs.Seen.{ScriptSeen}
use Rattle.script_text.specs.Needs.{needs_keys, needs_report_key}
use Rattle.flat_core.specs.Opening.{Opening}
use Rattle.flat_core.specs.HostText.{host_text}
use Rattle.flat_core.specs.GuestText.{guest_text}
use Rattle.incoming.specs.Arrivals.{incoming_in, at_slot}
use Rattle.leaf_table.specs.Given.{Given}
use Rattle.run_texts.specs.Openings.{opening_of}
use Rattle.run_texts.specs.Sealing.{bundles_text}
use Rattle.soak_runs.specs.Soaked.{soak_text}
use Rattle.bundle_store.specs.Containers.{container_in}
use Rattle.command_files.specs.declared.inputs.Input.{Input}
use Rattle.command_files.specs.declared.inputs.Input.TheVariants as input
use Rattle.command_files.specs.declared.inputs.InputFault.{InputFault}
use Rattle.command_files.specs.declared.inputs.InputFault.TheVariants as fault
use Rattle.command_files.specs.declared.inputs.KeyBytes.{KeyBytes}
use Rattle.command_files.specs.declared.inputs.Needs.{Needs}
use Rattle.command_files.specs.Commands.{NamedSeen, CommandSeen, Replay, Run, Check, script_name}
use Rattle.command_files.specs.Inputs.{place_fault, first, bundles_read, keys_of}
use Rattle.report_core.specs.declared.facts.Facts.{Facts}
use Rattle.report_core.specs.declared.reports.ReportFault.{ReportFault}
use Rattle.report_checks.specs.Checked.{verdict_text}
use Rattle.script_runner.specs.declared.ending.Ending.{Ending}

-- a file that is to be saved
pub record ToSave : Type 0 where
  pub name : List ℕ
  pub bytes : List ℕ

-- an exit status, what is put to the output, and the files that are saved behind it, in order
pub record Ended : Type 0 where
  pub status : ℕ
  pub text : List ℕ
  pub files : List ToSave

-- a file that is saved where it is named
abbrev pub file_named : Option (List ℕ) → List ℕ → List ToSave
file_named None bytes = []
file_named (Some name) bytes = record { name = name; bytes = bytes } ∷ []

-- the container is saved first
abbrev pub both_files : (container guest : Option (List ℕ)) → (made told : List ℕ) → List ToSave
both_files container guest made told = file_named container made ++ file_named guest told

abbrev pub ending_seen : Ending → Ended
ending_seen e = record {
  status = e.status;
  text = e.text.items;
  files = both_files (option_map (λ name. name.now) e.out_bundles) (option_map (λ name. name.now) e.guest_out) e.container.items e.guest.items;
}

-- texts, each by its status

abbrev pub usage_end : Ended
usage_end = record { status = 1; text = codes "usage: tdx replay|run SCRIPT [--bundles F] [--keys F] [--secrets F] [--out-bundles F] [--guest-out F] [--report-key F] | tdx check SCRIPT | tdx soak N | tdx verify FILE KEY" ++ 10 ∷ []; files = [] }

abbrev pub bad_end : ℕ → Reason → Ended
bad_end line reason = record { status = 2; text = codes "script line " ++ (decimal line ++ (codes " " ++ (reason_text reason ++ 10 ∷ []))); files = [] }

abbrev pub unread_end : List ℕ → Ended
unread_end name = record { status = 3; text = codes "cannot read " ++ name ++ 10 ∷ []; files = [] }

abbrev pub memory_end : Ended
memory_end = record { status = 5; text = codes "out of memory" ++ 10 ∷ []; files = [] }

-- the order of a script's events: a replay's is the schedule; a run's is one of its processors, which no reader is told
abbrev pub IsOrderOf : CommandSeen → ScriptSeen → List ℕ → Type 0
IsOrderOf (Replay n) s order = order ≡ s.schedule
IsOrderOf (Run n) s order = All (λ p. p < length s.calls) order
IsOrderOf (Check name) s order = Unit {0}

-- what the input files hand out to a run: the secret words, the keys from source to destination and back, the bundles of
-- the container, each in its slot and sealed, and the report key
pub record HandedOut : Type 0 where
  pub secrets : ℕ → ℕ
  pub keys : KeyBytes
  pub bundles : List BundleSeen
  pub report_key : List ℕ

-- what a run is given by them: the secret words, and in each slot its bundle, opened under these keys
abbrev pub given_by : HandedOut → Given
given_by handed = record { secrets = handed.secrets; bundles = at_slot (map (incoming_in handed.keys.forward handed.keys.backward) handed.bundles) }

-- the opening of a script and of what its files hand out
abbrev pub opening_by : HandedOut → ScriptSeen → Opening
opening_by handed s = opening_of (given_by handed) s

-- without a key file each byte of the keys is 0; a run makes no bundle then and takes none, since its script needs no keys
abbrev pub no_keys : KeyBytes
no_keys = record { forward = replicate 32 0; backward = replicate 32 0 }

abbrev pub keys_or_none : Option KeyBytes → KeyBytes
keys_or_none None = no_keys
keys_or_none (Some keys) = keys

-- without a report key file each byte of the report key is 0; no guest of a run reports then
abbrev pub no_report_key : List ℕ
no_report_key = replicate 48 0

abbrev pub report_key_or_none : Option (List ℕ) → List ℕ
report_key_or_none None = no_report_key
report_key_or_none (Some key) = key

-- a script's run with what is handed out, under that order; the container has its bundles, sealed under these keys, and the
-- guest file what its guests noted, with the reports under the report key
abbrev pub run_end : NamedSeen → ScriptSeen → HandedOut → (order : List ℕ) → Ended
run_end n s handed order = record {
  status = 0;
  text = host_text (opening_by handed s) order;
  files = both_files n.out_bundles n.guest_out (bundles_text handed.keys.forward handed.keys.backward (opening_by handed s) order) (guest_text handed.report_key (opening_by handed s) order);
}

-- how many calls these lists have, and how many guest operations
abbrev pub calls_in : List (List Call) → ℕ
calls_in [] = 0
calls_in (cs ∷ css) = length cs + calls_in css

abbrev pub ops_in : List CodeSeen → ℕ
ops_in [] = 0
ops_in (c ∷ cs) = length c.ops + ops_in cs

-- the numbers of a script: its processors, their calls, the guest operations, and the items of the schedule, written out
abbrev pub check_text : ScriptSeen → List ℕ
check_text s =
    codes "ok "
    ++ (decimal s.machine.lps ++ (codes " " ++ (decimal (calls_in s.calls) ++ (codes " " ++ (decimal (ops_in s.codes) ++ (codes " " ++ (decimal (length s.schedule) ++ 10 ∷ [])))))))

abbrev pub check_end : ScriptSeen → Ended
check_end s = record { status = 0; text = check_text s; files = [] }

-- the line of a soak of so many pages
abbrev pub soak_end : ℕ → Ended
soak_end n = record { status = 0; text = soak_text n; files = [] }

-- the line of what is said of a report's file
abbrev pub verdict_end : Result Facts ReportFault → Ended
verdict_end verdict = record { status = 0; text = verdict_text verdict; files = [] }

-- what a command comes to with a script where nothing is wrong
abbrev pub success_end : CommandSeen → ScriptSeen → HandedOut → (order : List ℕ) → Ended
success_end (Replay n) s handed order = run_end n s handed order
success_end (Run n) s handed order = run_end n s handed order
success_end (Check name) s handed order = check_end s

abbrev pub fault_end : ScriptFault → Ended
fault_end (Bad line reason) = bad_end line reason
fault_end OutOfMemory = memory_end

-- the container's bytes are none, from that place on
abbrev pub container_end : ℕ → Ended
container_end place = record { status = 6; text = codes "bundle file byte " ++ (decimal place ++ 10 ∷ []); files = [] }

-- the key file hasn't its length, or none is named where a call makes a bundle or takes one
abbrev pub keys_end : Ended
keys_end = record { status = 7; text = codes "key file" ++ 10 ∷ []; files = [] }

-- the secrets file hasn't its length
abbrev pub secrets_end : Ended
secrets_end = record { status = 7; text = codes "secrets file" ++ 10 ∷ []; files = [] }

-- the report key file hasn't its length, or none is named where a guest's list has a report
abbrev pub report_key_end : Ended
report_key_end = record { status = 7; text = codes "report key file" ++ 10 ∷ []; files = [] }

-- a save failed
abbrev pub unwritten_end : List ℕ → Ended
unwritten_end name = record { status = 4; text = codes "cannot write " ++ name ++ 10 ∷ []; files = [] }

-- ---- the ending that is due by what each name has, where nothing fails

abbrev pub name_in : Option (List ℕ) → List ℕ
name_in None = []
name_in (Some name) = name

abbrev pub input_name : NamedSeen → Input → List ℕ
input_name n input.Bundles = name_in n.bundles
input_name n input.Keys = name_in n.keys
input_name n input.Secrets = name_in n.secrets
input_name n input.ReportKey = name_in n.report_key

-- what an input has, where it is named; None in it says that the name isn't there
abbrev pub held : (List ℕ → Option (List ℕ)) → Option (List ℕ) → Option (Option (List ℕ))
held contents None = None
held contents (Some name) = Some (contents name)

-- a named input isn't there
abbrev pub absent_fault : Input → Option (Option (List ℕ)) → Option InputFault
absent_fault i None = None
absent_fault i (Some None) = Some (fault.Unread i)
absent_fault i (Some (Some bytes)) = None

-- the container's bytes are none, or too many
abbrev pub container_wrong : Option (Option (List ℕ)) → Option InputFault
container_wrong None = None
container_wrong (Some None) = None
container_wrong (Some (Some bytes)) = if nat_le (length bytes) (2 ^ 29) then place_fault (container_in bytes) else Some (fault.Container (2 ^ 29))

-- an input that is there hasn't so many bytes, which is that fault
abbrev pub length_wrong : ℕ → InputFault → Option (Option (List ℕ)) → Option InputFault
length_wrong bytes f None = None
length_wrong bytes f (Some None) = None
length_wrong bytes f (Some (Some given)) = if length given == bytes then None else Some f

-- the same, or none is named where one is needed
abbrev pub needed_wrong : ℕ → InputFault → (needed : Bool) → Option (Option (List ℕ)) → Option InputFault
needed_wrong bytes f needed None = if needed then Some f else None
needed_wrong bytes f needed (Some there) = length_wrong bytes f (Some there)

-- the key file has 64 bytes, and the report key file 48
abbrev pub keys_wrong : (needed : Bool) → Option (Option (List ℕ)) → Option InputFault
keys_wrong needed there = needed_wrong 64 fault.Keys needed there

abbrev pub report_key_wrong : (needed : Bool) → Option (Option (List ℕ)) → Option InputFault
report_key_wrong needed there = needed_wrong 48 fault.ReportKey needed there

-- a named input isn't there: the container, else the key file, else the secrets file, else the report key file
abbrev pub absent_input : (bundles keys secrets report_key : Option (Option (List ℕ))) → Option InputFault
absent_input bundles keys secrets report_key =
    first (absent_fault input.Bundles bundles) (first (absent_fault input.Keys keys) (first (absent_fault input.Secrets secrets) (absent_fault input.ReportKey report_key)))

-- one that is there hasn't its form, in the same order
abbrev pub form_wrong : Needs → (bundles keys secrets report_key : Option (Option (List ℕ))) → Option InputFault
form_wrong needs bundles keys secrets report_key =
    first (container_wrong bundles) (first (keys_wrong needs.keys keys) (first (length_wrong 4096 fault.Secrets secrets) (report_key_wrong needs.report_key report_key)))

-- the first fault of the inputs: all are there, and then the form of each is tested
abbrev pub wrong_input : (List ℕ → Option (List ℕ)) → Needs → NamedSeen → Option InputFault
wrong_input contents needs n =
    first (absent_input (held contents n.bundles) (held contents n.keys) (held contents n.secrets) (held contents n.report_key))
    (form_wrong needs (held contents n.bundles) (held contents n.keys) (held contents n.secrets) (held contents n.report_key))

-- keys are needed where a call of the script makes a bundle or takes one, and a report key where a list of its guests has a report
abbrev pub needs_of : ScriptSeen → Needs
needs_of s = record { keys = needs_keys s.calls; report_key = needs_report_key s.codes }

-- check has no inputs
abbrev pub command_wrong : (List ℕ → Option (List ℕ)) → ScriptSeen → CommandSeen → Option InputFault
command_wrong contents s (Replay n) = wrong_input contents (needs_of s) n
command_wrong contents s (Run n) = wrong_input contents (needs_of s) n
command_wrong contents s (Check name) = None

-- the secret word of number i of a secrets file that has these bytes; without a file each is 0
abbrev pub held_word : Option (Option (List ℕ)) → ℕ → ℕ
held_word None i = 0
held_word (Some None) i = 0
held_word (Some (Some bytes)) i = little_number 8 (drop (8 * i) bytes)

-- the secrets file that a command names
abbrev pub secrets_named : CommandSeen → Option (List ℕ)
secrets_named (Replay n) = n.secrets
secrets_named (Run n) = n.secrets
secrets_named (Check name) = None

-- the keys of a key file that has these bytes
abbrev pub held_keys : Option (Option (List ℕ)) → KeyBytes
held_keys None = no_keys
held_keys (Some None) = no_keys
held_keys (Some (Some bytes)) = keys_of bytes

-- the key file that a command names
abbrev pub keys_named : CommandSeen → Option (List ℕ)
keys_named (Replay n) = n.keys
keys_named (Run n) = n.keys
keys_named (Check name) = None

-- the bundles of a container that has these bytes
abbrev pub held_bundles : Option (Option (List ℕ)) → List BundleSeen
held_bundles None = []
held_bundles (Some None) = []
held_bundles (Some (Some bytes)) = bundles_read (container_in bytes)

-- the container that a command names
abbrev pub bundles_named : CommandSeen → Option (List ℕ)
bundles_named (Replay n) = n.bundles
bundles_named (Run n) = n.bundles
bundles_named (Check name) = None

-- the report key of a file that has these bytes
abbrev pub held_report_key : Option (Option (List ℕ)) → List ℕ
held_report_key None = no_report_key
held_report_key (Some None) = no_report_key
held_report_key (Some (Some bytes)) = bytes

-- the report key file that a command names
abbrev pub report_key_named : CommandSeen → Option (List ℕ)
report_key_named (Replay n) = n.report_key
report_key_named (Run n) = n.report_key
report_key_named (Check name) = None

-- what these files hand out
abbrev pub held_by : (List ℕ → Option (List ℕ)) → (secrets keys bundles report_key : Option (List ℕ)) → HandedOut
held_by contents secrets keys bundles report_key = record {
  secrets = held_word (held contents secrets);
  keys = held_keys (held contents keys);
  bundles = held_bundles (held contents bundles);
  report_key = held_report_key (held contents report_key);
}

abbrev pub handed_held : (List ℕ → Option (List ℕ)) → CommandSeen → HandedOut
handed_held contents c = held_by contents (secrets_named c) (keys_named c) (bundles_named c) (report_key_named c)

-- a script is run where its inputs have no fault, which else is told
abbrev pub inputs_end : NamedSeen → ScriptSeen → HandedOut → (order : List ℕ) → Option InputFault → Ended
inputs_end n s handed order None = run_end n s handed order
inputs_end n s handed order (Some (fault.Unread i)) = unread_end (input_name n i)
inputs_end n s handed order (Some (fault.Container place)) = container_end place
inputs_end n s handed order (Some fault.Keys) = keys_end
inputs_end n s handed order (Some fault.Secrets) = secrets_end
inputs_end n s handed order (Some fault.ReportKey) = report_key_end
inputs_end n s handed order (Some fault.OutOfMemory) = memory_end

abbrev pub named_end : (List ℕ → Option (List ℕ)) → NamedSeen → ScriptSeen → (order : List ℕ) → Ended
named_end contents n s order = inputs_end n s (held_by contents n.secrets n.keys n.bundles n.report_key) order (wrong_input contents (needs_of s) n)

abbrev pub script_end : (List ℕ → Option (List ℕ)) → CommandSeen → ScriptSeen → (order : List ℕ) → Ended
script_end contents (Replay n) s order = named_end contents n s order
script_end contents (Run n) s order = named_end contents n s order
script_end contents (Check name) s order = check_end s

-- the inputs count where the script is in the grammar
abbrev pub read_end : (List ℕ → Option (List ℕ)) → CommandSeen → (order : List ℕ) → Result ScriptSeen ScriptFault → Ended
read_end contents c order (Ok s) = script_end contents c s order
read_end contents c order (Err f) = fault_end f

abbrev pub held_end : (List ℕ → Option (List ℕ)) → CommandSeen → (order : List ℕ) → Option (List ℕ) → Ended
held_end contents c order None = unread_end (script_name c)
held_end contents c order (Some bytes) = read_end contents c order (read_of bytes)

-- the ending that is due, where nothing fails; a run of the script has its events in that order
abbrev pub ending_of : (List ℕ → Option (List ℕ)) → Option CommandSeen → (order : List ℕ) → Ended
ending_of contents None order = usage_end
ending_of contents (Some c) order = held_end contents c order (contents (script_name c))

-- that is an order of the script's events, where the command's script is there and in the grammar
abbrev pub IsOrderIn : (List ℕ → Option (List ℕ)) → Option CommandSeen → List ℕ → Type 0
IsOrderIn contents c order = (command : CommandSeen) (bytes : List ℕ) (script : ScriptSeen) → c ≡ Some command → contents (script_name command) ≡ Some bytes → read_of bytes ≡ Ok script
    → IsOrderOf command script order

-- what names have, if that one isn't there
abbrev pub without : List ℕ → (List ℕ → Option (List ℕ)) → List ℕ → Option (List ℕ)
without name contents other = if bytes_eq other name then None else contents other
