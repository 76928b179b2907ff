-- What one call loads, puts and saves, by the histories alone: of files and outputs that tell what they hold, and of those that don't.
use Rattle.std.specs.Prelude.{◌≡◌, ◌≢◌, ◌⊎◌, ℕ, ◌+◌, List, [], ◌∷◌, ◌++◌, Bool, true, Option, Some, None, Result, Ok, Err, ◌≤◌, length}
use Rattle.std.specs.Global.{Vec}
use Rattle.script_text.specs.declared.faults.Reason.{Reason}
use Rattle.script_text.specs.declared.faults.Reason.TheVariants.{Length}
use Rattle.script_text.specs.declared.faults.ScriptFault.TheVariants.{Bad}
use Rattle.script_text.specs.Reading.{read_of}
use Rattle.script_text.specs.Seen.{ScriptSeen}
use Rattle.script_text.specs.Needs.{needs_keys, needs_report_key}
use Rattle.bundle_store.specs.declared.outside.LoadFault.{LoadFault}
use Rattle.bundle_store.specs.declared.outside.LoadFault.TheVariants as load
use Rattle.bundle_store.specs.declared.outside.SaveFault.TheVariants as save
use Rattle.bundle_store.specs.declared.outside.PutFault.{PutFault}
use Rattle.bundle_store.specs.declared.outside.PutFault.TheVariants as put
use Rattle.bundle_store.specs.Containers.{container_in}
use Rattle.bundle_store.specs.History.{Loaded, Put, Writes}
use Rattle.command_files.specs.declared.inputs.InputFault.{InputFault}
use Rattle.command_files.specs.declared.inputs.InputFault.TheVariants as fault
use Rattle.command_files.specs.Commands.{NamedSeen, CommandSeen, named_of, script_name}
use Rattle.command_files.specs.Inputs.{container_fault, length_fault, secret_word, keys_of}
use Rattle.script_runner.specs.Ending.{ToSave, Ended, usage_end, bad_end, unread_end, memory_end, container_end, keys_end, secrets_end, report_key_end, unwritten_end, secrets_named, IsOrderOf, success_end, HandedOut, opening_by, no_keys, no_report_key, keys_named, bundles_named, report_key_named}
use Rattle.script_runner.specs.Saving.{AllSaved, named_once}
use Rattle.script_runner.specs.Threads.{ThreadsOf}
use Rattle.script_runner.specs.Accesses.{OwnAccesses}
use Rattle.script_runner.specs.Images.{TakesOver}
use Rattle.script_runner.specs.Brings.{HandsWords, sealed_by, BringsOver}
use Rattle.script_runner.specs.Blind.{IsBlindRun}
use Rattle.script_runner.specs.Ends.{IsRead}

-- ---- histories

-- one load, of this name, with this answer
abbrev pub LoadsOnce : List Loaded → List ℕ → Result (Vec ℕ) LoadFault → List Loaded → Type 0
LoadsOnce old name answer new = new ≡ old ++ record { name = name; answer = answer } ∷ []

-- the same, and then others
abbrev pub LoadsFirst : List Loaded → List ℕ → Result (Vec ℕ) LoadFault → List Loaded → Type 0
LoadsFirst old name answer new = (more : List Loaded) × (new ≡ old ++ record { name = name; answer = answer } ∷ more)

-- the same, behind so many others
abbrev pub LoadsBehind : ℕ → List Loaded → List ℕ → Result (Vec ℕ) LoadFault → List Loaded → Type 0
LoadsBehind count old name answer new = (before : List Loaded) × (length before ≡ count) × LoadsFirst (old ++ before) name answer new

-- one put, of these bytes, with this answer
abbrev pub PutsOnce : List Put → List ℕ → Result (Unit {0}) PutFault → List Put → Type 0
PutsOnce old bytes answer new = new ≡ old ++ record { bytes = bytes; answer = answer } ∷ []

-- the same, for which memory was found
abbrev pub PutsText : List Put → List ℕ → List Put → Type 0
PutsText old text new = (answer : Result (Unit {0}) PutFault) × (answer ≢ Err put.OutOfMemory) × PutsOnce old text answer new

-- ---- what each status says

-- how many loads come before: the script's, and those of the files in front that are named
abbrev pub behind_bundles : (bundles : Option (List ℕ)) → ℕ
behind_bundles bundles = 1 + length (named_once bundles)

abbrev pub behind_keys : (bundles keys : Option (List ℕ)) → ℕ
behind_keys bundles keys = behind_bundles bundles + length (named_once keys)

abbrev pub behind_secrets : (bundles keys secrets : Option (List ℕ)) → ℕ
behind_secrets bundles keys secrets = behind_keys bundles keys + length (named_once secrets)

-- the load behind so many others handed out bytes of which this holds, under the name of a file; where none is named, that is so
abbrev pub HandsOut : ℕ → Option (List ℕ) → (loads loads' : List Loaded) → (unnamed : Type 0) → (Vec ℕ → Type 0) → Type 0
HandsOut count None loads loads' unnamed P = unnamed
HandsOut count (Some name) loads loads' unnamed P = (given : Vec ℕ) × LoadsBehind count loads name (Ok given) loads' × P given

-- These are the bundles of the container, the keys of the key file, the secret words of the secrets file and the report key, as the
-- loads of these files handed them out; without its file there are no bundles, and each byte and word is 0. All words have 64 bits.
pub record AreHandedBy (bundles keys secrets report_key : Option (List ℕ)) (loads loads' : List Loaded) (handed : HandedOut) : Type 0 where
  pub bundle_list : HandsOut 1 bundles loads loads' (handed.bundles ≡ []) (λ given. container_in given.items ≡ Ok handed.bundles)
  pub key_bytes : HandsOut (behind_bundles bundles) keys loads loads' (handed.keys ≡ no_keys) (λ given. (length given.items ≡ 64) × (handed.keys ≡ keys_of given.items))
  pub words : HandsOut (behind_keys bundles keys) secrets loads loads' ((i : ℕ) → handed.secrets i ≡ 0) (λ given. (length given.items ≡ 4096) × ((i : ℕ) → handed.secrets i ≡ secret_word (Some (Ok given)) i))
  pub report_key_bytes : HandsOut (behind_secrets bundles keys secrets) report_key loads loads' (handed.report_key ≡ no_report_key) (λ given. (length given.items ≡ 48) × (handed.report_key ≡ given.items))
  pub fit : HandsWords handed

-- the same of the files of a command
abbrev pub AreHandedOut : CommandSeen → (loads loads' : List Loaded) → HandedOut → Type 0
AreHandedOut c loads loads' handed = AreHandedBy (bundles_named c) (keys_named c) (secrets_named c) (report_key_named c) loads loads' handed

-- What holds of the run of a script that a command names, under that order of its events: for run the order is one that threads
-- can have made, each access of guests to their private memory is to a page of their own, what is put and what is sealed is the
-- same in two worlds, what the run committed starts from the source's pause, where each bundle that came in and opened is that one
-- run's, and the container that it seals brings over what it paused.
pub record HoldsOfRun (c : CommandSeen) (s : ScriptSeen) (handed : HandedOut) (order : List ℕ) : Type 0 where
  pub threads : ThreadsOf c s handed order (success_end c s handed order)
  pub accesses : OwnAccesses (opening_by handed s) order
  pub blind : IsBlindRun c s handed order (success_end c s handed order).text
  pub images : TakesOver (opening_by handed s) order
  pub brings : BringsOver handed s order (sealed_by handed s order)

-- The named script was loaded first. What was handed out is in the grammar, and one put was given just the reply lines of the
-- flat machine's run of it, with the secret words, keys and bundles that were handed out, under one order of its events, which for
-- a replay is the schedule; or for check its numbers.
pub record PutsRun (c : Option CommandSeen) (loads loads' : List Loaded) (puts puts' : List Put) (answer : Result (Unit {0}) PutFault) : Type 0 where
  pub command : CommandSeen
  pub read_as : c ≡ Some command
  pub given : Vec ℕ
  pub loaded : LoadsFirst loads (script_name command) (Ok given) loads'
  pub script : ScriptSeen
  pub reads : read_of given.items ≡ Ok script
  pub handed : HandedOut
  pub handed_out : AreHandedOut command loads loads' handed
  pub order : List ℕ
  pub is_order : IsOrderOf command script order
  pub prints : PutsOnce puts (success_end command script handed order).text answer puts'

-- the same, and then each file that is named was saved with what that same run leaves
abbrev pub PutsAndSaved : Option CommandSeen → (loads loads' : List Loaded) → (puts puts' : List Put) → (written written' : Writes) → Type 0
PutsAndSaved c loads loads' puts puts' written written' =
    (r : PutsRun c loads loads' puts puts' (Ok tt)) × AllSaved (success_end r.command r.script r.handed r.order).files written written'

-- what was put and saved is what threads made, in the order of these events
abbrev pub PutsThreads : Option CommandSeen → (loads loads' : List Loaded) → (puts puts' : List Put) → (written written' : Writes) → Type 0
PutsThreads c loads loads' puts puts' written written' =
    (r : PutsRun c loads loads' puts puts' (Ok tt)) × AllSaved (success_end r.command r.script r.handed r.order).files written written'
    × ThreadsOf r.command r.script r.handed r.order (success_end r.command r.script r.handed r.order)

-- the text of the run was put, which is the same in two worlds, as what it seals is
abbrev pub PutsBlind : Option CommandSeen → (loads loads' : List Loaded) → (puts puts' : List Put) → Type 0
PutsBlind c loads loads' puts puts' =
    (r : PutsRun c loads loads' puts puts' (Ok tt)) × IsBlindRun r.command r.script r.handed r.order (success_end r.command r.script r.handed r.order).text

-- All of it of one run: its text was put, each file that is named was saved with what it leaves, and all that holds of a run holds
-- of it.
pub record PutsHeadline (c : Option CommandSeen) (loads loads' : List Loaded) (puts puts' : List Put) (written written' : Writes) : Type 0 where
  pub run : PutsRun c loads loads' puts puts' (Ok tt)
  pub saved : AllSaved (success_end run.command run.script run.handed run.order).files written written'
  pub holds : HoldsOfRun run.command run.script run.handed run.order

-- the words are no command; nothing was loaded, and the usage line was put
abbrev pub PutsUsage : Option CommandSeen → (loads loads' : List Loaded) → (puts puts' : List Put) → Type 0
PutsUsage c loads loads' puts puts' = (c ≡ None) × (loads' ≡ loads) × PutsText puts usage_end.text puts'

-- the first fault of what was loaded, or that it was too long
abbrev pub IsFirstFault : Result (Vec ℕ) LoadFault → ℕ → Reason → Type 0
IsFirstFault (Ok given) line reason = read_of given.items ≡ Err (Bad line reason)
IsFirstFault (Err load.Absent) line reason = ⊥
IsFirstFault (Err load.TooLong) line reason = (line ≡ 0) × (reason ≡ Length)
IsFirstFault (Err load.Failed) line reason = ⊥
IsFirstFault (Err load.OutOfMemory) line reason = ⊥

-- the named script was loaded, and nothing else, and its first fault was put
pub record PutsFault (c : Option CommandSeen) (loads loads' : List Loaded) (puts puts' : List Put) : Type 0 where
  pub command : CommandSeen
  pub read_as : c ≡ Some command
  pub answer : Result (Vec ℕ) LoadFault
  pub loaded : LoadsOnce loads (script_name command) answer loads'
  pub line : ℕ
  pub reason : Reason
  pub first : IsFirstFault answer line reason
  pub prints : PutsText puts (bad_end line reason).text puts'

-- nothing was handed out: the name isn't there, or reading failed
abbrev pub IsUnread : Result (Vec ℕ) LoadFault → Type 0
IsUnread answer = (answer ≡ Err load.Absent) ⊎ (answer ≡ Err load.Failed)

-- the last load couldn't be read, and its name was put
pub record PutsName (c : Option CommandSeen) (loads loads' : List Loaded) (puts puts' : List Put) : Type 0 where
  pub command : CommandSeen
  pub read_as : c ≡ Some command
  pub name : List ℕ
  pub named : IsRead command name
  pub before : List Loaded
  pub answer : Result (Vec ℕ) LoadFault
  pub loaded : LoadsOnce (loads ++ before) name answer loads'
  pub unread : IsUnread answer
  pub prints : PutsText puts (unread_end name).text puts'

-- the named container was loaded, behind the script, and its fault was put
pub record PutsPlace (c : Option CommandSeen) (loads loads' : List Loaded) (puts puts' : List Put) : Type 0 where
  pub command : CommandSeen
  pub read_as : c ≡ Some command
  pub options : NamedSeen
  pub has : named_of command ≡ Some options
  pub name : List ℕ
  pub named : options.bundles ≡ Some name
  pub answer : Result (Vec ℕ) LoadFault
  pub loaded : LoadsBehind 1 loads name answer loads'
  pub place : ℕ
  pub wrong : container_fault (Some answer) ≡ Some (fault.Container place)
  pub prints : PutsText puts (container_end place).text puts'

-- the file that an option names was loaded, behind so many others, and hasn't so many bytes, which was put
pub record PutsLength (file : NamedSeen → Option (List ℕ)) (behind : NamedSeen → ℕ) (count : ℕ) (f : InputFault) (e : Ended) (c : Option CommandSeen) (loads loads' : List Loaded) (puts puts' : List Put) : Type 0 where
  pub command : CommandSeen
  pub read_as : c ≡ Some command
  pub options : NamedSeen
  pub has : named_of command ≡ Some options
  pub name : List ℕ
  pub named : file options ≡ Some name
  pub answer : Result (Vec ℕ) LoadFault
  pub loaded : LoadsBehind (behind options) loads name answer loads'
  pub wrong : length_fault count f (Some answer) ≡ Some f
  pub prints : PutsText puts e.text puts'

-- the key file is loaded behind the script and the container, the secrets file behind the key file too, and then the report key file
abbrev pub before_keys : NamedSeen → ℕ
before_keys n = behind_bundles n.bundles

abbrev pub before_secrets : NamedSeen → ℕ
before_secrets n = behind_keys n.bundles n.keys

abbrev pub before_report_key : NamedSeen → ℕ
before_report_key n = behind_secrets n.bundles n.keys n.secrets

-- the named script was loaded, and needs a file that no option names, which was put
pub record PutsLacking (file : NamedSeen → Option (List ℕ)) (needs_file : ScriptSeen → Bool) (e : Ended) (c : Option CommandSeen) (loads loads' : List Loaded) (puts puts' : List Put) : Type 0 where
  pub command : CommandSeen
  pub read_as : c ≡ Some command
  pub options : NamedSeen
  pub has : named_of command ≡ Some options
  pub given : Vec ℕ
  pub loaded : LoadsFirst loads (script_name command) (Ok given) loads'
  pub script : ScriptSeen
  pub reads : read_of given.items ≡ Ok script
  pub needs : needs_file script ≡ true
  pub unnamed : file options ≡ None
  pub prints : PutsText puts e.text puts'

-- the key file, the secrets file or the report key file hasn't its length; or the key file is wanting where a call makes a bundle or
-- takes one, or the report key file where a list of operations has a report
abbrev pub PutsBadLength : Option CommandSeen → (loads loads' : List Loaded) → (puts puts' : List Put) → Type 0
PutsBadLength c loads loads' puts puts' =
    PutsLength (λ n. n.keys) before_keys 64 fault.Keys keys_end c loads loads' puts puts'
    ⊎ PutsLength (λ n. n.secrets) before_secrets 4096 fault.Secrets secrets_end c loads loads' puts puts'
    ⊎ PutsLength (λ n. n.report_key) before_report_key 48 fault.ReportKey report_key_end c loads loads' puts puts'
    ⊎ PutsLacking (λ n. n.keys) (λ s. needs_keys s.calls) keys_end c loads loads' puts puts'
    ⊎ PutsLacking (λ n. n.report_key) (λ s. needs_report_key s.codes) report_key_end c loads loads' puts puts'

-- Files have what they had behind the saves of the first files of a run, of which at least one more was left. The text of that run
-- was put, and all of this holds of it.
pub record SavesFront (c : Option CommandSeen) (loads loads' : List Loaded) (written written' : Writes) (puts : List Put) : Type 0 where
  pub between : List Put
  pub replies : PutsRun c loads loads' puts between (Ok tt)
  pub holds : HoldsOfRun replies.command replies.script replies.handed replies.order
  pub front : List ToSave
  pub out : ToSave
  pub rest : List ToSave
  pub are : (success_end replies.command replies.script replies.handed replies.order).files ≡ front ++ out ∷ rest
  pub before : Writes
  pub front_saved : AllSaved front written before
  pub kept : written'.contents ≡ before.contents

-- what files have is as before, or as the saves that came through left it
abbrev pub KeepsOrSaves : Option CommandSeen → (loads loads' : List Loaded) → (written written' : Writes) → List Put → Type 0
KeepsOrSaves c loads loads' written written' puts = (written'.contents ≡ written.contents) ⊎ SavesFront c loads loads' written written' puts

-- the save of the first file that was left failed, and its name was put
pub record PutsUnsaved (c : Option CommandSeen) (loads loads' : List Loaded) (written written' : Writes) (puts puts' : List Put) : Type 0 where
  pub behind : SavesFront c loads loads' written written' puts
  pub saved : written'.saves ≡ behind.before.saves ++ record { name = behind.out.name; bytes = behind.out.bytes; answer = Err save.Failed } ∷ []
  pub prints : PutsText behind.between (unwritten_end behind.out.name).text puts'

-- the put of a run's text failed, of which all of this holds, and nothing was saved; or the save of a file did
abbrev pub PutsLost : Option CommandSeen → (loads loads' : List Loaded) → (written written' : Writes) → (puts puts' : List Put) → Type 0
PutsLost c loads loads' written written' puts puts' =
    ((r : PutsRun c loads loads' puts puts' (Err put.Failed)) × HoldsOfRun r.command r.script r.handed r.order × (written' ≡ written)) ⊎ PutsUnsaved c loads loads' written written' puts puts'

-- a put that found no memory, or none
abbrev pub IsWanting : List Put → Type 0
IsWanting puts = (puts ≡ []) ⊎ ((text : List ℕ) × (puts ≡ record { bytes = text; answer = Err put.OutOfMemory } ∷ []))

-- the text of a run was put where a file was to be saved, and all of it holds of that run; or none was
abbrev pub IsPut : Option CommandSeen → (loads loads' : List Loaded) → List (List ℕ) → (puts first : List Put) → Type 0
IsPut c loads loads' names puts first =
    (first ≡ []) ⊎ ((names ≢ []) × (r : PutsRun c loads loads' puts (puts ++ first) (Ok tt)) × HoldsOfRun r.command r.script r.handed r.order)

-- the last put says that memory was wanting; before it at most one found none, and at most one came through
abbrev pub PutsMemory : Option CommandSeen → (loads loads' : List Loaded) → List (List ℕ) → (puts puts' : List Put) → Type 0
PutsMemory c loads loads' names puts puts' =
    (first second : List Put) × (answer : Result (Unit {0}) PutFault) × IsPut c loads loads' names puts first × IsWanting second × PutsOnce ((puts ++ first) ++ second) memory_end.text answer puts'

-- files are saved only at the statuses 0, 4 and 5
abbrev pub SavesNothing : List (List ℕ) → ℕ → Type 0
SavesNothing names status = (names ≡ []) ⊎ ((status ≢ 0) × (status ≢ 4) × (status ≢ 5))

-- what files have stays at each status but 0, where not two are to be saved; of two the first may be saved at the statuses 4 and 5
abbrev pub ChangesNothing : List (List ℕ) → ℕ → Type 0
ChangesNothing names status = SavesNothing names status ⊎ ((length names ≤ 1) × (status ≢ 0))
