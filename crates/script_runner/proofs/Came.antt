-- What was loaded, by the ending that it came to.
use Rattle.std.proofs.Common.{lit<, ◌≡◌, ◌≢◌, ◌⊎◌, inl, inr, refl, sym, ◌∙◌, ap, subst, ℕ, ◌^◌, ◌≤◌, List, [], ◌∷◌, ◌++◌, append-nil, append_assoc, length, length-append, suc, Option, Some, None, IfNone, IfOk, Result, Ok, Err, Bool, true, false, ◌==◌, if◌then◌else◌, arith}
use Rattle.std.proofs.lemmas.Bool.Decides.{eqb_tells}
use Rattle.std.specs.Global.{Vec}
use Rattle.std.specs.declared.alloc.AllocError.{AllocError}
use Rattle.td_words.specs.Seen.{BundleSeen}
use Rattle.script_text.specs.declared.faults.Reason.{Reason}
use Rattle.script_text.specs.declared.faults.Reason.TheVariants.{Length}
use Rattle.script_text.specs.declared.faults.ScriptFault.{ScriptFault}
use Rattle.script_text.specs.declared.faults.ScriptFault.TheVariants.{Bad, OutOfMemory}
use Rattle.script_text.specs.Reading.{read_of}
use Rattle.script_text.specs.Seen.{ScriptSeen}
use Rattle.script_text.specs.Needs.{needs_keys, needs_report_key}
use Rattle.flat_core.specs.GuestText.{guest_text}
use Rattle.bundle_store.specs.declared.outside.LoadFault.{LoadFault}
use Rattle.bundle_store.specs.declared.outside.LoadFault.TheVariants as load
use Rattle.bundle_store.specs.Outside.{Rose}
use Rattle.bundle_store.specs.History.{Loaded, Reads}
use Rattle.bundle_store.specs.Containers.{container_in}
use Rattle.command_files.specs.declared.inputs.Input.{Input}
use Rattle.command_files.specs.declared.inputs.Input.TheVariants as input
use Rattle.command_files.specs.declared.inputs.InputFault.{InputFault}
use Rattle.command_files.specs.declared.inputs.InputFault.TheVariants as fault
use Rattle.command_files.specs.declared.inputs.Needs.{Needs}
use Rattle.command_files.specs.declared.inputs.Inputs.{Inputs}
use Rattle.command_files.specs.Commands.{NamedSeen, CommandSeen, Replay, Run, Check, named_of, script_name}
use Rattle.command_files.specs.Inputs.{Loads, LoadsNamed, LoadsNext, TakesInputs, AreSecrets, IsDue, due, load_fault, unread_fault, form_fault, container_fault, length_fault, keys_fault, secrets_fault, place_fault, first, bundles_read, bundles_in, keys_in, secret_word, needed_fault, report_key_fault, report_key_in}
use Rattle.script_runner.specs.declared.ending.Ending.{Ending}
use Rattle.script_runner.specs.Ending.{ToSave, Ended, ending_seen, file_named, usage_end, bad_end, unread_end, memory_end, container_end, keys_end, secrets_end, run_end, success_end, name_in, input_name, IsOrderOf, HandedOut, opening_by, keys_or_none, no_keys, needs_of, report_key_end, report_key_or_none, no_report_key}
use Rattle.script_runner.specs.Saving.{named_once, outs_of, out_names}
use Rattle.script_runner.specs.Ends.{IsRead}
use Rattle.script_runner.specs.Threads.{ThreadsOf}
use Rattle.script_runner.specs.Brings.{HandsWords}
use Rattle.script_runner.specs.Done.{LoadsOnce, LoadsFirst, IsFirstFault, IsUnread, AreHandedOut, LoadsBehind, before_keys, before_secrets, HandsOut, AreHandedBy, before_report_key}
use Rattle.script_runner.specs.Commanded.{Comes, AnswerEnd, ReadEnd, ScriptEnd, NamedEnd, InputsEnd, EndsRun, handed_in}
use Rattle.script_runner.proofs.Asked.{asks}
use Rattle.script_runner.proofs.Named.{input_of, success_of, handed_of}
use Rattle.script_runner.proofs.Due.{first_cases}
use Rattle.run_texts.specs.Sealing.{bundles_text}

-- the file that an option names was loaded, behind so many others, and hasn't so many bytes
pub record LengthCame (file : NamedSeen → Option (List ℕ)) (behind : NamedSeen → ℕ) (count : ℕ) (f : InputFault) (told : Ended) (c : Option CommandSeen) (r r' : Reads) (e : Ended) : Type 0 where
  pub command : CommandSeen
  pub read_as : c ≡ Some command
  pub options : NamedSeen
  pub has : named_of command ≡ Some options
  pub name : List ℕ
  pub named : file options ≡ Some name
  pub answer : Result (Vec ℕ) LoadFault
  pub loaded : LoadsBehind (behind options) r.loads name answer r'.loads
  pub wrong : length_fault count f (Some answer) ≡ Some f
  pub is : e ≡ told

-- the script that was loaded needs a file that no option names
pub record LacksCame (file : NamedSeen → Option (List ℕ)) (needs_file : ScriptSeen → Bool) (told : Ended) (c : Option CommandSeen) (r r' : Reads) (e : Ended) : Type 0 where
  pub command : CommandSeen
  pub read_as : c ≡ Some command
  pub options : NamedSeen
  pub has : named_of command ≡ Some options
  pub given : Vec ℕ
  pub loaded : LoadsFirst r.loads (script_name command) (Ok given) r'.loads
  pub script : ScriptSeen
  pub reads : read_of given.items ≡ Ok script
  pub needs : needs_file script ≡ true
  pub unnamed : file options ≡ None
  pub is : e ≡ told

abbrev pub SomeLength : Option CommandSeen → Reads → Reads → Ended → Type 0
SomeLength c r r' e =
    LengthCame (λ n. n.keys) before_keys 64 fault.Keys keys_end c r r' e
    ⊎ LengthCame (λ n. n.secrets) before_secrets 4096 fault.Secrets secrets_end c r r' e
    ⊎ LengthCame (λ n. n.report_key) before_report_key 48 fault.ReportKey report_key_end c r r' e
    ⊎ LacksCame (λ n. n.keys) (λ s. needs_keys s.calls) keys_end c r r' e
    ⊎ LacksCame (λ n. n.report_key) (λ s. needs_report_key s.codes) report_key_end c r r' e

pub data Came (contents : Option (List ℕ → Option (List ℕ))) (c : Option CommandSeen) (r r' : Reads) (e : Ended) : Type 0 where
  Usage : c ≡ None → r'.loads ≡ r.loads → e ≡ usage_end → Came contents c r r' e
  Unread : (command : CommandSeen) → c ≡ Some command → (name : List ℕ) → IsRead command name → (before : List Loaded) (answer : Result (Vec ℕ) LoadFault)
      → LoadsOnce (r.loads ++ before) name answer r'.loads → IsUnread answer → IfNone contents (Rose r.faults r'.faults) → e ≡ unread_end name → Came contents c r r' e
  BadScript : (command : CommandSeen) → c ≡ Some command → (answer : Result (Vec ℕ) LoadFault) → LoadsOnce r.loads (script_name command) answer r'.loads
      → (line : ℕ) (reason : Reason) → IsFirstFault answer line reason → e ≡ bad_end line reason → Came contents c r r' e
  Want : (command : CommandSeen) → c ≡ Some command → e ≡ memory_end → Came contents c r r' e
  Place : (command : CommandSeen) → c ≡ Some command → (options : NamedSeen) → named_of command ≡ Some options → (name : List ℕ) → options.bundles ≡ Some name
      → (answer : Result (Vec ℕ) LoadFault) → LoadsBehind 1 r.loads name answer r'.loads
      → (place : ℕ) → container_fault (Some answer) ≡ Some (fault.Container place) → e ≡ container_end place → Came contents c r r' e
  WrongLength : SomeLength c r r' e → e.status ≡ 7 → e.files ≡ [] → Came contents c r r' e
  Success : (command : CommandSeen) → c ≡ Some command → (given : Vec ℕ) → LoadsFirst r.loads (script_name command) (Ok given) r'.loads
      → (s : ScriptSeen) → read_of given.items ≡ Ok s → (handed : HandedOut) → AreHandedOut command r.loads r'.loads handed
      → (order : List ℕ) → IsOrderOf command s order → e ≡ success_end command s handed order → ThreadsOf command s handed order e → Came contents c r r' e

-- ---- counts

pub rose_later : (a b c : ℕ) → Rose a b → b ≤ c → Rose a c
rose_later a b c h l = omega (arith, h, l)

pub rose_earlier : (a b c : ℕ) → a ≤ b → Rose b c → Rose a c
rose_earlier a b c l h = omega (arith, h, l)

if_none : {P Q : Type 0} (o : Option (List ℕ → Option (List ℕ))) → (P → Q) → IfNone o P → IfNone o Q
if_none None f p = f p
if_none (Some k) f p = tt

if_none_from : {P : Type 0} (o : Option (List ℕ → Option (List ℕ))) → P → IfNone o P
if_none_from None p = p
if_none_from (Some k) p = tt

-- ---- one input

-- what is loaded of an input that may be named
pub data Loading (contents : Option (List ℕ → Option (List ℕ))) (most : ℕ) (name : Option (List ℕ)) (old : Reads) (a : Option (Result (Vec ℕ) LoadFault)) (new : Reads) : Type 0 where
  Not : name ≡ None → a ≡ None → new ≡ old → Loading contents most name old a new
  Once : (n : List ℕ) (x : Result (Vec ℕ) LoadFault) → name ≡ Some n → a ≡ Some x → Loads contents most n old x new → Loading contents most name old a new

pub loading : (contents : Option (List ℕ → Option (List ℕ))) (most : ℕ) (name : Option (List ℕ)) (old : Reads) (a : Option (Result (Vec ℕ) LoadFault)) (new : Reads)
    → LoadsNamed contents most name old a new → Loading contents most name old a new
loading contents most None old None new h = Not refl refl h
loading contents most None old (Some x) new h = absurd h
loading contents most (Some n) old None new h = absurd h
loading contents most (Some n) old (Some x) new h = Once n x refl refl h

more_loads : (contents : Option (List ℕ → Option (List ℕ))) (most : ℕ) (name : Option (List ℕ)) (old : Reads) (a : Option (Result (Vec ℕ) LoadFault)) (new : Reads)
    → LoadsNamed contents most name old a new → (more : List Loaded) × (new.loads ≡ old.loads ++ more) × (length more ≡ length (named_once name))
more_loads contents most name old a new h = elim (loading contents most name old a new h) [
  | Not no_name none same ↦ ([], ap (λ (x : Reads). x.loads) same ∙ sym (append-nil old.loads), ap (λ (x : Option (List ℕ)). length (named_once x)) (sym no_name))
  | Once n x named answered l ↦ (record { name = n; answer = x } ∷ [], l.noted, ap (λ (x : Option (List ℕ)). length (named_once x)) (sym named))
]

more_next : (contents : Option (List ℕ → Option (List ℕ))) (f : Option InputFault) (name : Option (List ℕ)) (old : Reads) (a : Option (Result (Vec ℕ) LoadFault)) (new : Reads)
    → LoadsNext contents f name old a new → (more : List Loaded) × (new.loads ≡ old.loads ++ more) × (f ≡ None → length more ≡ length (named_once name))
more_next contents None name old a new h = let (more, grew, count) = more_loads contents (2 ^ 16) name old a new h in (more, grew, λ q. count)
more_next contents (Some f) name old a new h = ([], ap (λ (x : Reads). x.loads) h.1 ∙ sym (append-nil old.loads), λ q. absurd (cc))

pub loads_later : (contents : Option (List ℕ → Option (List ℕ))) (most : ℕ) (name : Option (List ℕ)) (old : Reads) (a : Option (Result (Vec ℕ) LoadFault)) (new : Reads)
    → LoadsNamed contents most name old a new → old.faults ≤ new.faults
loads_later contents most name old a new h = elim (loading contents most name old a new h) [
  | Not no_name none same ↦ subst (λ (x : Reads). old.faults ≤ x.faults) (sym same) (omega arith)
  | Once n x named answered l ↦ l.later
]

pub next_later : (contents : Option (List ℕ → Option (List ℕ))) (f : Option InputFault) (name : Option (List ℕ)) (old : Reads) (a : Option (Result (Vec ℕ) LoadFault)) (new : Reads)
    → LoadsNext contents f name old a new → old.faults ≤ new.faults
next_later contents None name old a new h = loads_later contents (2 ^ 16) name old a new h
next_later contents (Some f) name old a new h = subst (λ (x : Reads). old.faults ≤ x.faults) (sym h.1) (omega arith)

-- a load that handed out nothing, where it isn't told what names have
loads_rose : (contents : Option (List ℕ → Option (List ℕ))) (most : ℕ) (n : List ℕ) (old : Reads) (x : Result (Vec ℕ) LoadFault) (new : Reads) → Loads contents most n old x new → IsUnread x
    → IfNone contents (Rose old.faults new.faults)
loads_rose contents most n old (Ok v) new l u = elim u [ inl q ↦ absurd (cc) | inr q ↦ absurd (cc) ]
loads_rose contents most n old (Err load.Absent) new l u = l.untold
loads_rose contents most n old (Err load.TooLong) new l u = elim u [ inl q ↦ absurd (cc) | inr q ↦ absurd (cc) ]
loads_rose contents most n old (Err load.Failed) new l u = if_none_from contents l.cause
loads_rose contents most n old (Err load.OutOfMemory) new l u = elim u [ inl q ↦ absurd (cc) | inr q ↦ absurd (cc) ]

-- ---- which fault is which

pub unread_some : (i j : Input) (a : Option (Result (Vec ℕ) LoadFault)) → load_fault i a ≡ Some (fault.Unread j) → (x : Result (Vec ℕ) LoadFault) × (a ≡ Some x) × IsUnread x × (j ≡ i)
unread_some i j None h = absurd (cc)
unread_some i j (Some (Ok v)) h = absurd (cc)
unread_some i j (Some (Err load.Absent)) h = (Err load.Absent, refl, inl refl, cc)
unread_some i j (Some (Err load.TooLong)) h = absurd (cc)
unread_some i j (Some (Err load.Failed)) h = (Err load.Failed, refl, inr refl, cc)
unread_some i j (Some (Err load.OutOfMemory)) h = absurd (cc)

pub load_unread : (i : Input) (f : InputFault) (a : Option (Result (Vec ℕ) LoadFault)) → load_fault i a ≡ Some f → (f ≡ fault.Unread i) ⊎ (f ≡ fault.OutOfMemory)
load_unread i f None h = absurd (cc)
load_unread i f (Some (Ok v)) h = absurd (cc)
load_unread i f (Some (Err load.Absent)) h = inl (cc)
load_unread i f (Some (Err load.TooLong)) h = absurd (cc)
load_unread i f (Some (Err load.Failed)) h = inl (cc)
load_unread i f (Some (Err load.OutOfMemory)) h = inr (cc)

place_at : (r : Result (List BundleSeen) ℕ) (f : InputFault) → place_fault r ≡ Some f → (place : ℕ) × (f ≡ fault.Container place)
place_at (Ok bundles) f h = absurd (cc)
place_at (Err place) f h = (place, cc)

pub container_at : (a : Option (Result (Vec ℕ) LoadFault)) (f : InputFault) → container_fault a ≡ Some f → (x : Result (Vec ℕ) LoadFault) × (place : ℕ) × (a ≡ Some x) × (f ≡ fault.Container place)
container_at None f h = absurd (cc)
container_at (Some (Ok v)) f h = let (place, is) = place_at (container_in v.items) f h in (Ok v, place, refl, is)
container_at (Some (Err load.Absent)) f h = absurd (cc)
container_at (Some (Err load.TooLong)) f h = (Err load.TooLong, 2 ^ 29, refl, cc)
container_at (Some (Err load.Failed)) f h = absurd (cc)
container_at (Some (Err load.OutOfMemory)) f h = absurd (cc)

if_length : (t : Bool) (g f : InputFault) → (if t then None else Some g) ≡ Some f → f ≡ g
if_length true g f h = absurd (cc)
if_length false g f h = cc

pub length_at : (count : ℕ) (g : InputFault) (a : Option (Result (Vec ℕ) LoadFault)) (f : InputFault) → length_fault count g a ≡ Some f → (x : Result (Vec ℕ) LoadFault) × (a ≡ Some x) × (f ≡ g)
length_at count g None f h = absurd (cc)
length_at count g (Some (Ok v)) f h = (Ok v, refl, if_length (length v.items == count) g f h)
length_at count g (Some (Err load.Absent)) f h = absurd (cc)
length_at count g (Some (Err load.TooLong)) f h = (Err load.TooLong, refl, cc)
length_at count g (Some (Err load.Failed)) f h = absurd (cc)
length_at count g (Some (Err load.OutOfMemory)) f h = absurd (cc)

-- a file is needed, and none is named
needed_is : (needed : Bool) (g f : InputFault) → (if needed then Some g else None) ≡ Some f → (needed ≡ true) × (f ≡ g)
needed_is true g f h = (refl, cc)
needed_is false g f h = absurd (cc)

needed_at : (count : ℕ) (g : InputFault) (needed : Bool) (a : Option (Result (Vec ℕ) LoadFault)) (f : InputFault) → needed_fault count g needed a ≡ Some f → f ≡ g
needed_at count g needed None f h = (needed_is needed g f h).1
needed_at count g needed (Some x) f h = (length_at count g (Some x) f h).2

-- which of the inputs has the fault that is due
pub data Faulty (needs : Needs) (bundles keys secrets report_key : Option (Result (Vec ℕ) LoadFault)) (f : InputFault) : Type 0 where
  Bundles : load_fault input.Bundles bundles ≡ Some f → Faulty needs bundles keys secrets report_key f
  KeyFile : load_fault input.Bundles bundles ≡ None → load_fault input.Keys keys ≡ Some f → Faulty needs bundles keys secrets report_key f
  SecretsFile : load_fault input.Bundles bundles ≡ None → load_fault input.Keys keys ≡ None → load_fault input.Secrets secrets ≡ Some f → Faulty needs bundles keys secrets report_key f
  ReportKeyFile : load_fault input.Bundles bundles ≡ None → load_fault input.Keys keys ≡ None → load_fault input.Secrets secrets ≡ None → load_fault input.ReportKey report_key ≡ Some f
      → Faulty needs bundles keys secrets report_key f
  Form : unread_fault bundles keys secrets report_key ≡ None → container_fault bundles ≡ Some f → Faulty needs bundles keys secrets report_key f
  Length64 : unread_fault bundles keys secrets report_key ≡ None → keys_fault needs.keys keys ≡ Some f → Faulty needs bundles keys secrets report_key f
  Length4096 : unread_fault bundles keys secrets report_key ≡ None → secrets_fault secrets ≡ Some f → Faulty needs bundles keys secrets report_key f
  Length48 : unread_fault bundles keys secrets report_key ≡ None → report_key_fault needs.report_key report_key ≡ Some f → Faulty needs bundles keys secrets report_key f

-- neither of two faults
pub first_none : (x y : Option InputFault) → first x y ≡ None → (x ≡ None) × (y ≡ None)
first_none None y h = (refl, h)
first_none (Some g) y h = absurd (cc)

-- each input was read
pub all_read : (bundles keys secrets report_key : Option (Result (Vec ℕ) LoadFault)) → unread_fault bundles keys secrets report_key ≡ None
    → (load_fault input.Bundles bundles ≡ None) × (load_fault input.Keys keys ≡ None) × (load_fault input.Secrets secrets ≡ None) × (load_fault input.ReportKey report_key ≡ None)
all_read bundles keys secrets report_key h =
    let (b, more) = first_none _ _ h in
    let (k, last) = first_none _ _ more in
    let (s, r) = first_none _ _ last in
    (b, k, s, r)

module _ (needs : Needs) (bundles keys secrets report_key : Option (Result (Vec ℕ) LoadFault)) (f : InputFault) where
  unread_faulty : unread_fault bundles keys secrets report_key ≡ Some f → Faulty needs bundles keys secrets report_key f
  unread_faulty h = by (first_cases _ _ f h)
    where
      last : load_fault input.Bundles bundles ≡ None → load_fault input.Keys keys ≡ None → (load_fault input.Secrets secrets ≡ Some f) ⊎ ((load_fault input.Secrets secrets ≡ None) × (load_fault input.ReportKey report_key ≡ Some f))
          → Faulty needs bundles keys secrets report_key f
      last b k (inl x) = SecretsFile b k x
      last b k (inr x) = ReportKeyFile b k x.0 x.1

      later : load_fault input.Bundles bundles ≡ None
          → (load_fault input.Keys keys ≡ Some f) ⊎ ((load_fault input.Keys keys ≡ None) × (first (load_fault input.Secrets secrets) (load_fault input.ReportKey report_key) ≡ Some f)) → Faulty needs bundles keys secrets report_key f
      later b (inl x) = KeyFile b x
      later b (inr x) = last b x.0 (first_cases _ _ f x.1)

      by : (load_fault input.Bundles bundles ≡ Some f)
          ⊎ ((load_fault input.Bundles bundles ≡ None) × (first (load_fault input.Keys keys) (first (load_fault input.Secrets secrets) (load_fault input.ReportKey report_key)) ≡ Some f))
          → Faulty needs bundles keys secrets report_key f
      by (inl x) = Bundles x
      by (inr x) = later x.0 (first_cases _ _ f x.1)

  form_faulty : unread_fault bundles keys secrets report_key ≡ None → form_fault needs bundles keys secrets report_key ≡ Some f → Faulty needs bundles keys secrets report_key f
  form_faulty none h = by (first_cases _ _ f h)
    where
      last : (secrets_fault secrets ≡ Some f) ⊎ ((secrets_fault secrets ≡ None) × (report_key_fault needs.report_key report_key ≡ Some f)) → Faulty needs bundles keys secrets report_key f
      last (inl x) = Length4096 none x
      last (inr x) = Length48 none x.1

      later : (keys_fault needs.keys keys ≡ Some f) ⊎ ((keys_fault needs.keys keys ≡ None) × (first (secrets_fault secrets) (report_key_fault needs.report_key report_key) ≡ Some f)) → Faulty needs bundles keys secrets report_key f
      later (inl x) = Length64 none x
      later (inr x) = last (first_cases _ _ f x.1)

      by : (container_fault bundles ≡ Some f)
          ⊎ ((container_fault bundles ≡ None) × (first (keys_fault needs.keys keys) (first (secrets_fault secrets) (report_key_fault needs.report_key report_key)) ≡ Some f)) → Faulty needs bundles keys secrets report_key f
      by (inl x) = Form none x
      by (inr x) = later (first_cases _ _ f x.1)

  pub faulty : due needs bundles keys secrets report_key ≡ Some f → Faulty needs bundles keys secrets report_key f
  faulty h = by (first_cases _ _ f h)
    where
      by : (unread_fault bundles keys secrets report_key ≡ Some f) ⊎ ((unread_fault bundles keys secrets report_key ≡ None) × (form_fault needs bundles keys secrets report_key ≡ Some f)) → Faulty needs bundles keys secrets report_key f
      by (inl x) = unread_faulty x
      by (inr x) = form_faulty x.0 x.1

-- ---- what a file hands out

-- one load behind so many, and others behind it
one_behind : (loads before later now new last : List Loaded) (name : List ℕ) (answer : Result (Vec ℕ) LoadFault) (count : ℕ)
    → length before ≡ count → now ≡ loads ++ before → new ≡ now ++ record { name = name; answer = answer } ∷ [] → last ≡ new ++ later → LoadsBehind count loads name answer last
one_behind loads before later now new last name answer count many at one others = (
  before,
  many,
  (later, others ∙ ap (λ (z : List Loaded). z ++ later) (one ∙ ap (λ (z : List Loaded). z ++ record { name = name; answer = answer } ∷ []) at) ∙ append_assoc (loads ++ before) (record { name = name; answer = answer } ∷ []) later),
)

-- an input that was read and has its form is what was handed out
hands_out : (contents : Option (List ℕ → Option (List ℕ))) (most : ℕ) (name : Option (List ℕ)) (old : Reads) (a : Option (Result (Vec ℕ) LoadFault)) (new r' : Reads) → LoadsNamed contents most name old a new
    → (count : ℕ) (loads more later : List Loaded) → length more ≡ count → old.loads ≡ loads ++ more → r'.loads ≡ new.loads ++ later
    → (unnamed : Type 0) (P : Vec ℕ → Type 0) → (a ≡ None → unnamed) → ((v : Vec ℕ) → a ≡ Some (Ok v) → P v) → ((f : LoadFault) → a ≡ Some (Err f) → ⊥) → HandsOut count name loads r'.loads unnamed P
hands_out contents most None old None new r' l count loads more later many grew after unnamed P none is never = none refl
hands_out contents most None old (Some x) new r' l count loads more later many grew after unnamed P none is never = absurd l
hands_out contents most (Some n) old None new r' l count loads more later many grew after unnamed P none is never = absurd l
hands_out contents most (Some n) old (Some (Ok v)) new r' l count loads more later many grew after unnamed P none is never =
    (v, one_behind loads more later old.loads new.loads r'.loads n (Ok v) count many grew l.noted after, is v refl)
hands_out contents most (Some n) old (Some (Err f)) new r' l count loads more later many grew after unnamed P none is never = absurd (never f refl)

-- where a file was read and has its length, its load is no fault, and it has it
no_fault : (i : Input) (count : ℕ) (g : InputFault) (a : Option (Result (Vec ℕ) LoadFault)) (f : LoadFault) → load_fault i a ≡ None → length_fault count g a ≡ None → a ≡ Some (Err f) → ⊥
no_fault i count g None f fine right is = cc
no_fault i count g (Some (Ok v)) f fine right is = cc
no_fault i count g (Some (Err load.Absent)) f fine right is = cc
no_fault i count g (Some (Err load.TooLong)) f fine right is = cc
no_fault i count g (Some (Err load.Failed)) f fine right is = cc
no_fault i count g (Some (Err load.OutOfMemory)) f fine right is = cc

right_length : (count : ℕ) (g : InputFault) (v : Vec ℕ) → length_fault count g (Some (Ok v)) ≡ None → length v.items ≡ count
right_length count g v h = by (eqb_tells (length v.items) count)
  where
    by : (((length v.items == count) ≡ true) × (length v.items ≡ count)) ⊎ (((length v.items == count) ≡ false) × (length v.items ≢ count)) → length v.items ≡ count
    by (inl t) = t.1
    by (inr t) =
        let h' : Some g ≡ None = subst (λ (x : Bool). (if x then None else Some g) ≡ None) t.0 h in
        absurd (cc)

-- the same of a file that may be needed
needed_right : (count : ℕ) (g : InputFault) (needed : Bool) (a : Option (Result (Vec ℕ) LoadFault)) → needed_fault count g needed a ≡ None → length_fault count g a ≡ None
needed_right count g needed None h = refl
needed_right count g needed (Some x) h = h

-- and of the container
no_container_fault : (a : Option (Result (Vec ℕ) LoadFault)) (f : LoadFault) → load_fault input.Bundles a ≡ None → container_fault a ≡ None → a ≡ Some (Err f) → ⊥
no_container_fault None f fine right is = cc
no_container_fault (Some (Ok v)) f fine right is = cc
no_container_fault (Some (Err load.Absent)) f fine right is = cc
no_container_fault (Some (Err load.TooLong)) f fine right is = cc
no_container_fault (Some (Err load.Failed)) f fine right is = cc
no_container_fault (Some (Err load.OutOfMemory)) f fine right is = cc

read_is : (r : Result (List BundleSeen) ℕ) → place_fault r ≡ None → r ≡ Ok (bundles_read r)
read_is (Ok bundles) h = refl
read_is (Err place) h = absurd (cc)

-- ---- the whole

module _ (contents : Option (List ℕ → Option (List ℕ))) (k : CommandSeen) (c : NamedSeen) (has : named_of k ≡ Some c) (r b r' : Reads) (given : Vec ℕ)
    (loaded : Loads contents (2 ^ 24) (script_name k) r (Ok given) b) where
  abbrev script_load : Loaded
  script_load = record { name = script_name k; answer = Ok given }

  -- the named input was loaded behind the script and some others, and couldn't be read
  input_unread : (i : Input) (name : Option (List ℕ)) (most : ℕ) (mid now : Reads) (a : Option (Result (Vec ℕ) LoadFault)) (more : List Loaded) (e : Ended)
      → name_in name ≡ input_name c i → ((n : List ℕ) → name ≡ Some n → IsRead k n) → mid.loads ≡ b.loads ++ more → b.faults ≤ mid.faults → Loading contents most name mid a now → r' ≡ now
      → (x : Result (Vec ℕ) LoadFault) → a ≡ Some x → IsUnread x → e ≡ unread_end (input_name c i) → Came contents (Some k) r r' e
  input_unread i name most mid now a more e is_name named grew later (Not no_name none same) at x answered unread is = absurd (cc)
  input_unread i name most mid now a more e is_name named grew later (Once n y is_n is_y l) at x answered unread is =
      let same : y ≡ x = cc in
      let u : IsUnread y = subst IsUnread (sym same) unread in
      let grown : mid.loads ≡ r.loads ++ (script_load ∷ more) = grew ∙ ap (λ (z : List Loaded). z ++ more) loaded.noted ∙ append_assoc r.loads (script_load ∷ []) more in
      Unread k refl n (named n is_n) (script_load ∷ more) y
      (ap (λ (z : Reads). z.loads) at ∙ l.noted ∙ ap (λ (z : List Loaded). z ++ record { name = n; answer = y } ∷ []) grown)
      u
      (if_none contents (λ (z : Rose mid.faults now.faults). subst (λ (q : Reads). Rose r.faults q.faults) (sym at) (rose_earlier r.faults mid.faults now.faults (omega (arith, loaded.later, later)) z)) (loads_rose contents most n mid y now l u))
      (is ∙ ap unread_end (sym is_name ∙ ap name_in is_n))

  -- the named file was loaded behind the script and some others, and hasn't its length
  input_length : (file : NamedSeen → Option (List ℕ)) (behind : NamedSeen → ℕ) (count : ℕ) (g : InputFault) (told : Ended) (mid now : Reads) (a : Option (Result (Vec ℕ) LoadFault)) (more rest : List Loaded) (e : Ended)
      → suc (length more) ≡ behind c → mid.loads ≡ b.loads ++ more → Loading contents (2 ^ 16) (file c) mid a now → r'.loads ≡ now.loads ++ rest → length_fault count g a ≡ Some g → e ≡ told
      → LengthCame file behind count g told (Some k) r r' e
  input_length file behind count g told mid now a more rest e many grew (Not no_name none same) then_more h is = let (x, answered, wrong) = length_at count g a g h in absurd (cc)
  input_length file behind count g told mid now a more rest e many grew (Once n x is_n answered l) then_more h is = record {
    command = k;
    read_as = refl;
    options = c;
    has = has;
    name = n;
    named = is_n;
    answer = x;
    loaded =
        one_behind r.loads (script_load ∷ more) rest mid.loads now.loads r'.loads n x (behind c) many (grew ∙ ap (λ (z : List Loaded). z ++ more) loaded.noted ∙ append_assoc r.loads (script_load ∷ []) more) l.noted then_more;
    wrong = subst (λ (z : Option (Result (Vec ℕ) LoadFault)). length_fault count g z ≡ Some g) answered h;
    is = is;
  }

  module _ (s : ScriptSeen) (res : Result Inputs InputFault) (e : Ended) (reads : read_of given.items ≡ Ok s) (t : TakesInputs contents (needs_of s) c b r' res) where
    abbrev needs : Needs
    needs = needs_of s

    abbrev not_bundles : Option InputFault
    not_bundles = load_fault input.Bundles t.bundles

    abbrev not_keys : Option InputFault
    not_keys = load_fault input.Keys t.keys

    abbrev not_secrets : Option InputFault
    not_secrets = load_fault input.Secrets t.secrets

    abbrev IsFaulty : InputFault → Type 0
    IsFaulty f = Faulty needs t.bundles t.keys t.secrets t.report_key f

    bundles_more : (more : List Loaded) × (t.behind_bundles.loads ≡ b.loads ++ more) × (length more ≡ length (named_once c.bundles))
    bundles_more = more_loads contents (2 ^ 29) c.bundles b t.bundles t.behind_bundles t.bundles_loaded

    keys_more : (more : List Loaded) × (t.behind_keys.loads ≡ t.behind_bundles.loads ++ more) × (not_bundles ≡ None → length more ≡ length (named_once c.keys))
    keys_more = more_next contents not_bundles c.keys t.behind_bundles t.keys t.behind_keys t.keys_loaded

    secrets_more : (more : List Loaded) × (t.behind_secrets.loads ≡ t.behind_keys.loads ++ more) × (first not_bundles not_keys ≡ None → length more ≡ length (named_once c.secrets))
    secrets_more = more_next contents (first not_bundles not_keys) c.secrets t.behind_keys t.secrets t.behind_secrets t.secrets_loaded

    report_key_more : (more : List Loaded) × (r'.loads ≡ t.behind_secrets.loads ++ more) × (first not_bundles (first not_keys not_secrets) ≡ None → length more ≡ length (named_once c.report_key))
    report_key_more = more_next contents (first not_bundles (first not_keys not_secrets)) c.report_key t.behind_secrets t.report_key r' t.report_key_loaded

    -- two are loaded behind the script, and three
    abbrev two_more : List Loaded
    two_more = bundles_more.0 ++ keys_more.0

    abbrev three_more : List Loaded
    three_more = two_more ++ secrets_more.0

    behind_two : t.behind_keys.loads ≡ b.loads ++ two_more
    behind_two = keys_more.1 ∙ ap (λ (z : List Loaded). z ++ keys_more.0) bundles_more.1 ∙ append_assoc b.loads bundles_more.0 keys_more.0

    behind_three : t.behind_secrets.loads ≡ b.loads ++ three_more
    behind_three = secrets_more.1 ∙ ap (λ (z : List Loaded). z ++ secrets_more.0) behind_two ∙ append_assoc b.loads two_more secrets_more.0

    -- and behind each of these some more
    then_two : r'.loads ≡ t.behind_keys.loads ++ (secrets_more.0 ++ report_key_more.0)
    then_two = report_key_more.1 ∙ ap (λ (z : List Loaded). z ++ report_key_more.0) secrets_more.1 ∙ append_assoc t.behind_keys.loads secrets_more.0 report_key_more.0

    then_three : r'.loads ≡ t.behind_bundles.loads ++ (keys_more.0 ++ (secrets_more.0 ++ report_key_more.0))
    then_three = then_two ∙ ap (λ (z : List Loaded). z ++ (secrets_more.0 ++ report_key_more.0)) keys_more.1 ∙ append_assoc t.behind_bundles.loads keys_more.0 (secrets_more.0 ++ report_key_more.0)

    -- the same behind what was loaded before the script
    from_start : (more : List Loaded) (now : Reads) → now.loads ≡ b.loads ++ more → now.loads ≡ r.loads ++ (script_load ∷ more)
    from_start more now is = is ∙ ap (λ (z : List Loaded). z ++ more) loaded.noted ∙ append_assoc r.loads (script_load ∷ []) more

    bundles_many : suc (length bundles_more.0) ≡ before_keys c
    bundles_many = let a = bundles_more.2 in omega (arith, a)

    both_none : not_bundles ≡ None → not_keys ≡ None → first not_bundles not_keys ≡ None
    both_none fine fine' = ap (λ (x : Option InputFault). first x not_keys) fine ∙ fine'

    all_none : not_bundles ≡ None → not_keys ≡ None → not_secrets ≡ None → first not_bundles (first not_keys not_secrets) ≡ None
    all_none fine fine' fine'' = ap (λ (x : Option InputFault). first x (first not_keys not_secrets)) fine ∙ ap (λ (x : Option InputFault). first x not_secrets) fine' ∙ fine''

    two_many : not_bundles ≡ None → suc (length two_more) ≡ before_secrets c
    two_many fine = let a = bundles_more.2 in let b = keys_more.2 fine in omega (arith, length-append bundles_more.0 keys_more.0, a, b)

    three_many : not_bundles ≡ None → not_keys ≡ None → suc (length three_more) ≡ before_report_key c
    three_many fine fine' = let a = two_many fine in let b = secrets_more.2 (both_none fine fine') in omega (arith, length-append two_more secrets_more.0, a, b)

    -- all are loaded
    all_loaded : LoadsFirst r.loads (script_name k) (Ok given) r'.loads
    all_loaded = (
      three_more ++ report_key_more.0,
      report_key_more.1 ∙ ap (λ (z : List Loaded). z ++ report_key_more.0) (from_start three_more t.behind_secrets behind_three) ∙ append_assoc r.loads (script_load ∷ three_more) report_key_more.0,
    )

    bundles_later : b.faults ≤ t.behind_bundles.faults
    bundles_later = loads_later contents (2 ^ 29) c.bundles b t.bundles t.behind_bundles t.bundles_loaded

    two_later : b.faults ≤ t.behind_keys.faults
    two_later = let q = next_later contents not_bundles c.keys t.behind_bundles t.keys t.behind_keys t.keys_loaded in let p = bundles_later in omega (arith, p, q)

    three_later : b.faults ≤ t.behind_secrets.faults
    three_later = let q = next_later contents (first not_bundles not_keys) c.secrets t.behind_keys t.secrets t.behind_secrets t.secrets_loaded in let p = two_later in omega (arith, p, q)

    keys_named_at : not_bundles ≡ None → LoadsNamed contents (2 ^ 16) c.keys t.behind_bundles t.keys t.behind_keys
    keys_named_at none = subst (λ (x : Option InputFault). LoadsNext contents x c.keys t.behind_bundles t.keys t.behind_keys) none t.keys_loaded

    secrets_named_at : not_bundles ≡ None → not_keys ≡ None → LoadsNamed contents (2 ^ 16) c.secrets t.behind_keys t.secrets t.behind_secrets
    secrets_named_at none none' = subst (λ (x : Option InputFault). LoadsNext contents x c.secrets t.behind_keys t.secrets t.behind_secrets) (both_none none none') t.secrets_loaded

    report_key_named_at : not_bundles ≡ None → not_keys ≡ None → not_secrets ≡ None → LoadsNamed contents (2 ^ 16) c.report_key t.behind_secrets t.report_key r'
    report_key_named_at none none' none'' = subst (λ (x : Option InputFault). LoadsNext contents x c.report_key t.behind_secrets t.report_key r') (all_none none none' none'') t.report_key_loaded

    -- behind a fault nothing is loaded
    not_next : (d : Option InputFault) (f : InputFault) (name : Option (List ℕ)) (old : Reads) (a : Option (Result (Vec ℕ) LoadFault)) (new : Reads) → d ≡ Some f → LoadsNext contents d name old a new → new ≡ old
    not_next d f name old a new some h =
        let h' : LoadsNext contents (Some f) name old a new = subst (λ (x : Option InputFault). LoadsNext contents x name old a new) some h in
        h'.1

    keys_not : (f : InputFault) → not_bundles ≡ Some f → t.behind_keys ≡ t.behind_bundles
    keys_not f some = not_next not_bundles f c.keys t.behind_bundles t.keys t.behind_keys some t.keys_loaded

    secrets_not : (f : InputFault) → first not_bundles not_keys ≡ Some f → t.behind_secrets ≡ t.behind_keys
    secrets_not f some = not_next (first not_bundles not_keys) f c.secrets t.behind_keys t.secrets t.behind_secrets some t.secrets_loaded

    report_key_not : (f : InputFault) → first not_bundles (first not_keys not_secrets) ≡ Some f → r' ≡ t.behind_secrets
    report_key_not f some = not_next (first not_bundles (first not_keys not_secrets)) f c.report_key t.behind_secrets t.report_key r' some t.report_key_loaded

    handed_by_files : (inputs : Inputs) → due needs t.bundles t.keys t.secrets t.report_key ≡ None → AreSecrets t.secrets inputs.secrets.items → inputs.keys ≡ keys_in t.keys → inputs.bundles.items ≡ bundles_in t.bundles
        → inputs.report_key ≡ report_key_in t.report_key → HandsWords (handed_in inputs) → AreHandedBy c.bundles c.keys c.secrets c.report_key r.loads r'.loads (handed_in inputs)
    handed_by_files inputs none words key_bytes listed report_key_bytes fit =
        let (unread, form) = first_none _ _ none in
        let (fine, fine', fine'', fine''') = all_read t.bundles t.keys t.secrets t.report_key unread in
        let (right, lengths) = first_none _ _ form in
        let (keys_right, last) = first_none _ _ lengths in
        let (secrets_right, report_key_right) = first_none _ _ last in
        record {
          bundle_list =
              hands_out contents (2 ^ 29) c.bundles b t.bundles t.behind_bundles r' t.bundles_loaded 1 r.loads (script_load ∷ []) (keys_more.0 ++ (secrets_more.0 ++ report_key_more.0)) refl loaded.noted then_three _ _
              (λ is. listed ∙ ap bundles_in is)
              (λ v is. read_is (container_in v.items) (subst (λ (x : Option (Result (Vec ℕ) LoadFault)). container_fault x ≡ None) is right) ∙ ap (λ (x : List BundleSeen). Ok x) (sym (listed ∙ ap bundles_in is)))
              (λ f is. no_container_fault t.bundles f fine right is);
          key_bytes =
              hands_out contents (2 ^ 16) c.keys t.behind_bundles t.keys t.behind_keys r' (keys_named_at fine) (before_keys c) r.loads (script_load ∷ bundles_more.0) (secrets_more.0 ++ report_key_more.0) bundles_many
              (from_start bundles_more.0 t.behind_bundles bundles_more.1) then_two _ _
              (λ is. ap keys_or_none (key_bytes ∙ ap keys_in is))
              (λ v is. (right_length 64 fault.Keys v (subst (λ (x : Option (Result (Vec ℕ) LoadFault)). keys_fault needs.keys x ≡ None) is keys_right), ap keys_or_none (key_bytes ∙ ap keys_in is)))
              (λ f is. no_fault input.Keys 64 fault.Keys t.keys f fine' (needed_right 64 fault.Keys needs.keys t.keys keys_right) is);
          words =
              hands_out contents (2 ^ 16) c.secrets t.behind_keys t.secrets t.behind_secrets r' (secrets_named_at fine fine') (before_secrets c) r.loads (script_load ∷ two_more) report_key_more.0 (two_many fine)
              (from_start two_more t.behind_keys behind_two) report_key_more.1 _ _
              (λ is i. words.each i ∙ ap (λ (x : Option (Result (Vec ℕ) LoadFault)). secret_word x i) is)
              (λ v is. (right_length 4096 fault.Secrets v (subst (λ (x : Option (Result (Vec ℕ) LoadFault)). secrets_fault x ≡ None) is secrets_right), λ i. words.each i ∙ ap (λ (x : Option (Result (Vec ℕ) LoadFault)). secret_word x i) is))
              (λ f is. no_fault input.Secrets 4096 fault.Secrets t.secrets f fine'' secrets_right is);
          report_key_bytes =
              hands_out contents (2 ^ 16) c.report_key t.behind_secrets t.report_key r' r' (report_key_named_at fine fine' fine'') (before_report_key c) r.loads (script_load ∷ three_more) [] (three_many fine fine')
              (from_start three_more t.behind_secrets behind_three) (sym (append-nil r'.loads)) _ _
              (λ is. ap report_key_or_none (report_key_bytes ∙ ap report_key_in is))
              (λ v is. (right_length 48 fault.ReportKey v (subst (λ (x : Option (Result (Vec ℕ) LoadFault)). report_key_fault needs.report_key x ≡ None) is report_key_right), ap report_key_or_none (report_key_bytes ∙ ap report_key_in is)))
              (λ f is. no_fault input.ReportKey 48 fault.ReportKey t.report_key f fine''' (needed_right 48 fault.ReportKey needs.report_key t.report_key report_key_right) is);
          fit = fit;
        }

    run_came : (inputs : Inputs) → due needs t.bundles t.keys t.secrets t.report_key ≡ None → AreSecrets t.secrets inputs.secrets.items → inputs.keys ≡ keys_in t.keys → inputs.bundles.items ≡ bundles_in t.bundles
        → inputs.report_key ≡ report_key_in t.report_key → EndsRun k c s (handed_in inputs) e × HandsWords (handed_in inputs) → Came contents (Some k) r r' e
    run_came inputs none words key_bytes listed report_key_bytes ((order, is_order, is, threads), fit) =
        Success k refl given all_loaded s reads (handed_in inputs) (handed_of k c r.loads r'.loads (handed_in inputs) has (handed_by_files inputs none words key_bytes listed report_key_bytes fit))
        order is_order (is ∙ sym (success_of k c s (handed_in inputs) order has)) threads

    unread_came : (i : Input) → IsFaulty (fault.Unread i) → e ≡ unread_end (input_name c i) → Came contents (Some k) r r' e
    unread_came i (Bundles h) is =
        let (x, answered, u, same) = unread_some input.Bundles i t.bundles h in
        input_unread input.Bundles c.bundles (2 ^ 29) b t.behind_bundles t.bundles [] e refl (λ n q. inr (input_of k c n has (inl q))) (sym (append-nil b.loads)) (omega arith)
        (loading contents (2 ^ 29) c.bundles b t.bundles t.behind_bundles t.bundles_loaded)
        (report_key_not _ (ap (λ (x : Option InputFault). first x (first not_keys not_secrets)) h) ∙ secrets_not _ (ap (λ (x : Option InputFault). first x not_keys) h) ∙ keys_not _ h)
        x answered u (is ∙ ap (λ (z : Input). unread_end (input_name c z)) same)
    unread_came i (KeyFile none h) is =
        let (x, answered, u, same) = unread_some input.Keys i t.keys h in
        input_unread input.Keys c.keys (2 ^ 16) t.behind_bundles t.behind_keys t.keys bundles_more.0 e refl (λ n q. inr (input_of k c n has (inr (inl q)))) bundles_more.1 bundles_later
        (loading contents (2 ^ 16) c.keys t.behind_bundles t.keys t.behind_keys (keys_named_at none))
        (report_key_not _ (ap (λ (x : Option InputFault). first x (first not_keys not_secrets)) none ∙ ap (λ (x : Option InputFault). first x not_secrets) h) ∙ secrets_not _ (ap (λ (x : Option InputFault). first x not_keys) none ∙ h))
        x answered u (is ∙ ap (λ (z : Input). unread_end (input_name c z)) same)
    unread_came i (SecretsFile none none' h) is =
        let (x, answered, u, same) = unread_some input.Secrets i t.secrets h in
        input_unread input.Secrets c.secrets (2 ^ 16) t.behind_keys t.behind_secrets t.secrets two_more e refl (λ n q. inr (input_of k c n has (inr (inr (inl q))))) behind_two two_later
        (loading contents (2 ^ 16) c.secrets t.behind_keys t.secrets t.behind_secrets (secrets_named_at none none'))
        (report_key_not _ (ap (λ (x : Option InputFault). first x (first not_keys not_secrets)) none ∙ ap (λ (x : Option InputFault). first x not_secrets) none' ∙ h))
        x answered u (is ∙ ap (λ (z : Input). unread_end (input_name c z)) same)
    unread_came i (ReportKeyFile none none' none'' h) is =
        let (x, answered, u, same) = unread_some input.ReportKey i t.report_key h in
        input_unread input.ReportKey c.report_key (2 ^ 16) t.behind_secrets r' t.report_key three_more e refl (λ n q. inr (input_of k c n has (inr (inr (inr q))))) behind_three three_later
        (loading contents (2 ^ 16) c.report_key t.behind_secrets t.report_key r' (report_key_named_at none none' none'')) refl x answered u (is ∙ ap (λ (z : Input). unread_end (input_name c z)) same)
    unread_came i (Form none h) is = let (x, place, answered, wrong) = container_at t.bundles _ h in absurd (cc)
    unread_came i (Length64 none h) is = let wrong = needed_at 64 fault.Keys needs.keys t.keys _ h in absurd (cc)
    unread_came i (Length4096 none h) is = let (x, answered, wrong) = length_at 4096 fault.Secrets t.secrets _ h in absurd (cc)
    unread_came i (Length48 none h) is = let wrong = needed_at 48 fault.ReportKey needs.report_key t.report_key _ h in absurd (cc)

    place_of : (place : ℕ) → container_fault t.bundles ≡ Some (fault.Container place) → Loading contents (2 ^ 29) c.bundles b t.bundles t.behind_bundles → e ≡ container_end place → Came contents (Some k) r r' e
    place_of place h (Not no_name none same) is = let (x, p, answered, wrong) = container_at t.bundles _ h in absurd (cc)
    place_of place h (Once n x named answered l) is =
        Place k refl c has n named x
        (one_behind r.loads (script_load ∷ []) (keys_more.0 ++ (secrets_more.0 ++ report_key_more.0)) b.loads t.behind_bundles.loads r'.loads n x 1 refl loaded.noted l.noted then_three)
        place (subst (λ (z : Option (Result (Vec ℕ) LoadFault)). container_fault z ≡ Some (fault.Container place)) answered h) is

    container_came : (place : ℕ) → IsFaulty (fault.Container place) → e ≡ container_end place → Came contents (Some k) r r' e
    container_came place (Bundles h) is = elim (load_unread input.Bundles _ t.bundles h) [ inl x ↦ absurd (cc) | inr x ↦ absurd (cc) ]
    container_came place (KeyFile none h) is = elim (load_unread input.Keys _ t.keys h) [ inl x ↦ absurd (cc) | inr x ↦ absurd (cc) ]
    container_came place (SecretsFile none none' h) is = elim (load_unread input.Secrets _ t.secrets h) [ inl x ↦ absurd (cc) | inr x ↦ absurd (cc) ]
    container_came place (ReportKeyFile none none' none'' h) is = elim (load_unread input.ReportKey _ t.report_key h) [ inl x ↦ absurd (cc) | inr x ↦ absurd (cc) ]
    container_came place (Form none h) is = place_of place h (loading contents (2 ^ 29) c.bundles b t.bundles t.behind_bundles t.bundles_loaded) is
    container_came place (Length64 none h) is = let wrong = needed_at 64 fault.Keys needs.keys t.keys _ h in absurd (cc)
    container_came place (Length4096 none h) is = let (x, answered, wrong) = length_at 4096 fault.Secrets t.secrets _ h in absurd (cc)
    container_came place (Length48 none h) is = let wrong = needed_at 48 fault.ReportKey needs.report_key t.report_key _ h in absurd (cc)

    -- a file that may be needed hasn't its length, or is wanting
    needed_wrong : (file : NamedSeen → Option (List ℕ)) (behind : NamedSeen → ℕ) (needs_file : ScriptSeen → Bool) (count : ℕ) (g : InputFault) (told : Ended) (mid now : Reads) (a : Option (Result (Vec ℕ) LoadFault)) (more rest : List Loaded)
        → (LengthCame file behind count g told (Some k) r r' e → Came contents (Some k) r r' e) → (LacksCame file needs_file told (Some k) r r' e → Came contents (Some k) r r' e)
        → suc (length more) ≡ behind c → mid.loads ≡ b.loads ++ more → r'.loads ≡ now.loads ++ rest → needed_fault count g (needs_file s) a ≡ Some g → e ≡ told
        → Loading contents (2 ^ 16) (file c) mid a now → Came contents (Some k) r r' e
    needed_wrong file behind needs_file count g told mid now a more rest short lacking many grew after h is (Not no_name none same) =
        let wanting : needed_fault count g (needs_file s) None ≡ Some g = subst (λ (z : Option (Result (Vec ℕ) LoadFault)). needed_fault count g (needs_file s) z ≡ Some g) none h in
        lacking (record { command = k; read_as = refl; options = c; has = has; given = given; loaded = all_loaded; script = s; reads = reads; needs = (needed_is (needs_file s) g g wanting).0; unnamed = no_name; is = is })
    needed_wrong file behind needs_file count g told mid now a more rest short lacking many grew after h is (Once n x named answered l) =
        let wrong : length_fault count g (Some x) ≡ Some g = subst (λ (z : Option (Result (Vec ℕ) LoadFault)). needed_fault count g (needs_file s) z ≡ Some g) answered h in
        short
        (input_length file behind count g told mid now a more rest e many grew (Once n x named answered l) after
        (subst (λ (z : Option (Result (Vec ℕ) LoadFault)). length_fault count g z ≡ Some g) (sym answered) wrong) is)

    -- which is told
    ends_seven : SomeLength (Some k) r r' e → (told : Ended) → e ≡ told → told.status ≡ 7 → told.files ≡ [] → Came contents (Some k) r r' e
    ends_seven which told is seven none = WrongLength which (ap (λ (x : Ended). x.status) is ∙ seven) (ap (λ (x : Ended). x.files) is ∙ none)

    keys_came : IsFaulty fault.Keys → e ≡ keys_end → Came contents (Some k) r r' e
    keys_came (Bundles h) is = elim (load_unread input.Bundles _ t.bundles h) [ inl x ↦ absurd (cc) | inr x ↦ absurd (cc) ]
    keys_came (KeyFile none h) is = elim (load_unread input.Keys _ t.keys h) [ inl x ↦ absurd (cc) | inr x ↦ absurd (cc) ]
    keys_came (SecretsFile none none' h) is = elim (load_unread input.Secrets _ t.secrets h) [ inl x ↦ absurd (cc) | inr x ↦ absurd (cc) ]
    keys_came (ReportKeyFile none none' none'' h) is = elim (load_unread input.ReportKey _ t.report_key h) [ inl x ↦ absurd (cc) | inr x ↦ absurd (cc) ]
    keys_came (Form none h) is = let (x, place, answered, wrong) = container_at t.bundles _ h in absurd (cc)
    keys_came (Length64 none h) is =
        let (fine, fine', fine'', fine''') = all_read t.bundles t.keys t.secrets t.report_key none in
        needed_wrong (λ n. n.keys) before_keys (λ s. needs_keys s.calls) 64 fault.Keys keys_end t.behind_bundles t.behind_keys t.keys bundles_more.0 (secrets_more.0 ++ report_key_more.0)
        (λ q. ends_seven (inl q) keys_end is refl refl) (λ q. ends_seven (inr (inr (inr (inl q)))) keys_end is refl refl)
        bundles_many bundles_more.1 then_two h is (loading contents (2 ^ 16) c.keys t.behind_bundles t.keys t.behind_keys (keys_named_at fine))
    keys_came (Length4096 none h) is = let (x, answered, wrong) = length_at 4096 fault.Secrets t.secrets _ h in absurd (cc)
    keys_came (Length48 none h) is = let wrong = needed_at 48 fault.ReportKey needs.report_key t.report_key _ h in absurd (cc)

    secrets_came : IsFaulty fault.Secrets → e ≡ secrets_end → Came contents (Some k) r r' e
    secrets_came (Bundles h) is = elim (load_unread input.Bundles _ t.bundles h) [ inl x ↦ absurd (cc) | inr x ↦ absurd (cc) ]
    secrets_came (KeyFile none h) is = elim (load_unread input.Keys _ t.keys h) [ inl x ↦ absurd (cc) | inr x ↦ absurd (cc) ]
    secrets_came (SecretsFile none none' h) is = elim (load_unread input.Secrets _ t.secrets h) [ inl x ↦ absurd (cc) | inr x ↦ absurd (cc) ]
    secrets_came (ReportKeyFile none none' none'' h) is = elim (load_unread input.ReportKey _ t.report_key h) [ inl x ↦ absurd (cc) | inr x ↦ absurd (cc) ]
    secrets_came (Form none h) is = let (x, place, answered, wrong) = container_at t.bundles _ h in absurd (cc)
    secrets_came (Length64 none h) is = let wrong = needed_at 64 fault.Keys needs.keys t.keys _ h in absurd (cc)
    secrets_came (Length4096 none h) is =
        let (fine, fine', fine'', fine''') = all_read t.bundles t.keys t.secrets t.report_key none in
        ends_seven
        (inr (inl (input_length (λ n. n.secrets) before_secrets 4096 fault.Secrets secrets_end t.behind_keys t.behind_secrets t.secrets two_more report_key_more.0 e (two_many fine) behind_two
        (loading contents (2 ^ 16) c.secrets t.behind_keys t.secrets t.behind_secrets (secrets_named_at fine fine')) report_key_more.1 h is)))
        secrets_end is refl refl
    secrets_came (Length48 none h) is = let wrong = needed_at 48 fault.ReportKey needs.report_key t.report_key _ h in absurd (cc)

    report_key_came : IsFaulty fault.ReportKey → e ≡ report_key_end → Came contents (Some k) r r' e
    report_key_came (Bundles h) is = elim (load_unread input.Bundles _ t.bundles h) [ inl x ↦ absurd (cc) | inr x ↦ absurd (cc) ]
    report_key_came (KeyFile none h) is = elim (load_unread input.Keys _ t.keys h) [ inl x ↦ absurd (cc) | inr x ↦ absurd (cc) ]
    report_key_came (SecretsFile none none' h) is = elim (load_unread input.Secrets _ t.secrets h) [ inl x ↦ absurd (cc) | inr x ↦ absurd (cc) ]
    report_key_came (ReportKeyFile none none' none'' h) is = elim (load_unread input.ReportKey _ t.report_key h) [ inl x ↦ absurd (cc) | inr x ↦ absurd (cc) ]
    report_key_came (Form none h) is = let (x, place, answered, wrong) = container_at t.bundles _ h in absurd (cc)
    report_key_came (Length64 none h) is = let wrong = needed_at 64 fault.Keys needs.keys t.keys _ h in absurd (cc)
    report_key_came (Length4096 none h) is = let (x, answered, wrong) = length_at 4096 fault.Secrets t.secrets _ h in absurd (cc)
    report_key_came (Length48 none h) is =
        let (fine, fine', fine'', fine''') = all_read t.bundles t.keys t.secrets t.report_key none in
        needed_wrong (λ n. n.report_key) before_report_key (λ s. needs_report_key s.codes) 48 fault.ReportKey report_key_end t.behind_secrets r' t.report_key three_more []
        (λ q. ends_seven (inr (inr (inl q))) report_key_end is refl refl) (λ q. ends_seven (inr (inr (inr (inr q)))) report_key_end is refl refl)
        (three_many fine fine') behind_three (sym (append-nil r'.loads)) h is (loading contents (2 ^ 16) c.report_key t.behind_secrets t.report_key r' (report_key_named_at fine fine' fine''))

    each_came : (q : Result Inputs InputFault) → IsDue (due needs t.bundles t.keys t.secrets t.report_key) q → IfOk q (λ inputs. AreSecrets t.secrets inputs.secrets.items) → IfOk q (λ inputs. inputs.keys ≡ keys_in t.keys)
        → IfOk q (λ inputs. inputs.bundles.items ≡ bundles_in t.bundles) → IfOk q (λ inputs. inputs.report_key ≡ report_key_in t.report_key) → InputsEnd k c s q e → Came contents (Some k) r r' e
    each_came (Ok inputs) d words key_bytes listed report_key_bytes is = run_came inputs d words key_bytes listed report_key_bytes is
    each_came (Err (fault.Unread i)) d words key_bytes listed report_key_bytes is = unread_came i (faulty needs t.bundles t.keys t.secrets t.report_key _ d) is
    each_came (Err (fault.Container place)) d words key_bytes listed report_key_bytes is = container_came place (faulty needs t.bundles t.keys t.secrets t.report_key _ d) is
    each_came (Err fault.Keys) d words key_bytes listed report_key_bytes is = keys_came (faulty needs t.bundles t.keys t.secrets t.report_key _ d) is
    each_came (Err fault.Secrets) d words key_bytes listed report_key_bytes is = secrets_came (faulty needs t.bundles t.keys t.secrets t.report_key _ d) is
    each_came (Err fault.ReportKey) d words key_bytes listed report_key_bytes is = report_key_came (faulty needs t.bundles t.keys t.secrets t.report_key _ d) is
    each_came (Err fault.OutOfMemory) d words key_bytes listed report_key_bytes is = absurd is

    -- what the inputs of a script came to
    inputs_came : InputsEnd k c s res e → Came contents (Some k) r r' e
    inputs_came ends = each_came res t.is_due t.words t.key_bytes t.bundle_list t.report_key_bytes ends

module _ (contents : Option (List ℕ → Option (List ℕ))) (c : CommandSeen) (r b r' : Reads) (e : Ended) where
  -- what a script in the grammar came to
  script_came : (k : CommandSeen) (given : Vec ℕ) (s : ScriptSeen) → Loads contents (2 ^ 24) (script_name k) r (Ok given) b → read_of given.items ≡ Ok s → ScriptEnd contents k s b r' e
      → Came contents (Some k) r r' e
  script_came (Replay n) given s loaded reads (res, takes, ends) = inputs_came contents (Replay n) n refl r b r' given loaded s res e reads takes ends
  script_came (Run n) given s loaded reads (res, takes, ends) = inputs_came contents (Run n) n refl r b r' given loaded s res e reads takes ends
  script_came (Check name) given s loaded reads (same, is) =
      Success (Check name) refl given ([], ap (λ (z : Reads). z.loads) same ∙ loaded.noted) s reads (record { secrets = λ i. 0; keys = no_keys; bundles = []; report_key = no_report_key }) (record { words = λ i. refl; key_bytes = refl; bundle_list = refl; report_key_bytes = refl; fit = record { words = λ k few. lit< tt; come_in = λ slot. tt } }) [] tt is tt

  -- what a script that was loaded came to
  read_came : (given : Vec ℕ) (read : Result ScriptSeen ScriptFault) → Loads contents (2 ^ 24) (script_name c) r (Ok given) b → read_of given.items ≡ read → ReadEnd contents c b r' read e
      → Came contents (Some c) r r' e
  read_came given (Ok s) loaded reads h = script_came c given s loaded reads h
  read_came given (Err (Bad line reason)) loaded reads (same, is) = BadScript c refl (Ok given) (ap (λ (z : Reads). z.loads) same ∙ loaded.noted) line reason reads is
  read_came given (Err OutOfMemory) loaded reads (same, is) = Want c refl is

  -- a script that wasn't handed out
  script_unread : (answer : Result (Vec ℕ) LoadFault) → Loads contents (2 ^ 24) (script_name c) r answer b → IsUnread answer → r' ≡ b → e ≡ unread_end (script_name c) → Came contents (Some c) r r' e
  script_unread answer l u same is =
      Unread c refl (script_name c) (inl refl) [] answer
      (ap (λ (z : Reads). z.loads) same ∙ l.noted ∙ ap (λ (z : List Loaded). z ++ record { name = (script_name c); answer = answer } ∷ []) (sym (append-nil r.loads)))
      u (if_none contents (λ (z : Rose r.faults b.faults). subst (λ (q : Reads). Rose r.faults q.faults) (sym same) z) (loads_rose contents (2 ^ 24) (script_name c) r answer b l u)) is

  answer_came : (answer : Result (Vec ℕ) LoadFault) → Loads contents (2 ^ 24) (script_name c) r answer b → AnswerEnd contents c b r' answer e → Came contents (Some c) r r' e
  answer_came (Ok given) l h = read_came given (read_of given.items) l refl h
  answer_came (Err load.Absent) l (same, is) = script_unread (Err load.Absent) l (inl refl) same is
  answer_came (Err load.TooLong) l (same, is) = BadScript c refl (Err load.TooLong) (ap (λ (z : Reads). z.loads) same ∙ l.noted) 0 Length (refl, refl) is
  answer_came (Err load.Failed) l (same, is) = script_unread (Err load.Failed) l (inr refl) same is
  answer_came (Err load.OutOfMemory) l h = absurd h

pub came : (contents : Option (List ℕ → Option (List ℕ))) (c : Option CommandSeen) (r r' : Reads) (e : Ended) → Comes contents (asks c) r r' e → Came contents c r r' e
came contents None r r' e (same, is) = Usage refl (ap (λ (z : Reads). z.loads) same) is
came contents (Some c) r r' e h = answer_came contents c r h.between r' e h.answer h.script_loaded h.ends

no_files : {fs : List ToSave} {n : ℕ} → fs ≡ [] → length fs ≤ n
no_files {fs} {n} h = let q = ap (λ (x : List ToSave). length x) h in omega (arith, q)

-- no more files are saved than are named
named_few : (name : Option (List ℕ)) (bytes : List ℕ) → length (file_named name bytes) ≡ length (named_once name)
named_few None bytes = refl
named_few (Some n) bytes = refl

both_few : (a b : Option (List ℕ)) (x y : List ℕ) → length (file_named a x ++ file_named b y) ≡ length (named_once a ++ named_once b)
both_few None b x y = named_few b y
both_few (Some n) b x y = ap suc (named_few b y)

run_few : (n : NamedSeen) (s : ScriptSeen) (handed : HandedOut) (order : List ℕ) → length (run_end n s handed order).files ≤ length (outs_of n)
run_few n s handed order = let q = both_few n.out_bundles n.guest_out (bundles_text handed.keys.forward handed.keys.backward (opening_by handed s) order) (guest_text handed.report_key (opening_by handed s) order) in omega (arith, q)

success_few : (k : CommandSeen) (s : ScriptSeen) (handed : HandedOut) (order : List ℕ) → length (success_end k s handed order).files ≤ length (out_names (Some k))
success_few (Replay n) s handed order = run_few n s handed order
success_few (Run n) s handed order = run_few n s handed order
success_few (Check name) s handed order = omega arith

pub files_few : (contents : Option (List ℕ → Option (List ℕ))) (c : Option CommandSeen) (r r' : Reads) (e : Ended) → Came contents c r r' e → length e.files ≤ length (out_names c)
files_few contents c r r' e (Usage none same is) = no_files (ap (λ (x : Ended). x.files) is)
files_few contents c r r' e (Unread k is_c n named before answer loaded u rose is) = no_files (ap (λ (x : Ended). x.files) is)
files_few contents c r r' e (BadScript k is_c answer loaded line reason first is) = no_files (ap (λ (x : Ended). x.files) is)
files_few contents c r r' e (Want k is_c is) = no_files (ap (λ (x : Ended). x.files) is)
files_few contents c r r' e (Place k is_c o has n named answer loaded place wrong is) = no_files (ap (λ (x : Ended). x.files) is)
files_few contents c r r' e (WrongLength which seven none) = no_files none
files_few contents c r r' e (Success k is_c given loaded s reads handed out order is_order is threads) =
    subst (λ (x : Option CommandSeen). length e.files ≤ length (out_names x)) (sym is_c) (subst (λ (x : Ended). length x.files ≤ length (out_names (Some k))) (sym is) (success_few k s handed order))

-- a fault of the inputs is told
pub fault_ends : (contents : Option (List ℕ → Option (List ℕ))) (k : CommandSeen) (c : NamedSeen) (s : ScriptSeen) (old new : Reads) (f : InputFault) (r : Result Ending AllocError)
    → TakesInputs contents (needs_of s) c old new (Err f) → IfOk r (λ e. InputsEnd k c s (Err f) (ending_seen e)) → IfOk r (λ e. NamedEnd contents k c s old new (ending_seen e))
fault_ends contents k c s old new f (Ok e) takes ends = (Err f, takes, ends)
fault_ends contents k c s old new f (Err e) takes ends = tt

-- so is a run
pub run_ends : (contents : Option (List ℕ → Option (List ℕ))) (k : CommandSeen) (c : NamedSeen) (s : ScriptSeen) (old new : Reads) (inputs : Inputs) (r : Result Ending AllocError)
    → TakesInputs contents (needs_of s) c old new (Ok inputs) → IfOk r (λ e. EndsRun k c s (handed_in inputs) (ending_seen e) × HandsWords (handed_in inputs)) → IfOk r (λ e. NamedEnd contents k c s old new (ending_seen e))
run_ends contents k c s old new inputs (Ok e) takes h = (Ok inputs, takes, h)
run_ends contents k c s old new inputs (Err e) takes h = tt
