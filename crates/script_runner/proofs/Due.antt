-- The ending that is due by what names have, each with its cause.
use Rattle.std.proofs.Common.{◌≡◌, ◌≢◌, ◌⊎◌, inl, inr, refl, sym, ◌∙◌, subst, ℕ, ◌^◌, ◌<◌, List, [], length, Option, Some, None, Result, Ok, Err, Bool, true, false, ◌==◌, nat_le, if◌then◌else◌}
use Rattle.std.proofs.lemmas.Bool.{leb-false}
use Rattle.std.proofs.lemmas.Bool.Decides.{eqb_tells}
use Rattle.std.proofs.lemmas.List.Elements.{All-nil}
use Rattle.td_words.specs.Seen.{BundleSeen}
use Rattle.script_text.specs.declared.faults.Reason.{Reason}
use Rattle.script_text.specs.declared.faults.ScriptFault.{ScriptFault}
use Rattle.script_text.specs.declared.faults.ScriptFault.TheVariants.{Bad, OutOfMemory}
use Rattle.script_text.specs.Reading.{read_of}
use Rattle.script_text.specs.Seen.{ScriptSeen}
use Rattle.script_text.specs.Needs.{needs_keys, needs_report_key}
use Rattle.bundle_store.specs.Containers.{container_in}
use Rattle.command_files.specs.declared.inputs.Input.{Input}
use Rattle.command_files.specs.declared.inputs.Input.TheVariants as input
use Rattle.command_files.specs.declared.inputs.InputFault.{InputFault}
use Rattle.command_files.specs.declared.inputs.InputFault.TheVariants as fault
use Rattle.command_files.specs.declared.inputs.Needs.{Needs}
use Rattle.command_files.specs.Commands.{NamedSeen, CommandSeen, Replay, Run, Check, named_of, script_name}
use Rattle.command_files.specs.Inputs.{place_fault, first}
use Rattle.script_runner.specs.Ending.{Ended, usage_end, bad_end, unread_end, memory_end, container_end, run_end, success_end, input_name, held, absent_fault, container_wrong, length_wrong, needed_wrong, keys_wrong, report_key_wrong, absent_input, form_wrong, needs_of, wrong_input, command_wrong, handed_held, inputs_end, script_end, read_end, held_end, ending_of, IsOrderOf, IsOrderIn, HandedOut, held_by}
use Rattle.script_runner.specs.Ends.{NamesInput, IsBadScript, IsAbsent, IsNoContainer, IsBadContainer, HasWrongLength, Lacks, IsBadLength}
use Rattle.script_runner.proofs.Named.{secrets_of, input_of, wrong_of, success_of, keys_of_command, bundles_of_command, report_key_of_command}

-- a script is run, or checked
pub record IsRun (contents : List ℕ → Option (List ℕ)) (c : Option CommandSeen) (order : List ℕ) (e : Ended) : Type 0 where
  pub command : CommandSeen
  pub read_as : c ≡ Some command
  pub bytes : List ℕ
  pub there : contents (script_name command) ≡ Some bytes
  pub script : ScriptSeen
  pub reads : read_of bytes ≡ Ok script
  pub fits : command_wrong contents script command ≡ None
  pub is : e ≡ success_end command script (handed_held contents command) order

-- an ending, with its cause
pub data Due (contents : List ℕ → Option (List ℕ)) (c : Option CommandSeen) (order : List ℕ) (e : Ended) : Type 0 where
  Usage : c ≡ None → e ≡ usage_end → Due contents c order e
  Absent : (name : List ℕ) → IsAbsent contents c → e ≡ unread_end name → Due contents c order e
  BadScript : (line : ℕ) (reason : Reason) → IsBadScript contents c → e ≡ bad_end line reason → Due contents c order e
  Want : e ≡ memory_end → Due contents c order e
  BadContainer : (place : ℕ) → IsBadContainer contents c → e ≡ container_end place → Due contents c order e
  BadLength : IsBadLength contents c → e.status ≡ 7 → Due contents c order e
  Success : IsRun contents c order e → Due contents c order e

-- the first of two faults
pub first_cases : (x y : Option InputFault) (f : InputFault) → first x y ≡ Some f → (x ≡ Some f) ⊎ ((x ≡ None) × (y ≡ Some f))
first_cases None y f h = inr (refl, h)
first_cases (Some g) y f h = inl h

-- ---- of the inputs

absent_some : (i : Input) (contents : List ℕ → Option (List ℕ)) (b : Option (List ℕ)) (f : InputFault) → absent_fault i (held contents b) ≡ Some f
    → (name : List ℕ) × (b ≡ Some name) × (contents name ≡ None) × (f ≡ fault.Unread i)
absent_some i contents None f h = absurd (cc)
absent_some i contents (Some name) f h = by (contents name) refl h
  where
    by : (x : Option (List ℕ)) → contents name ≡ x → absent_fault i (Some x) ≡ Some f → (n : List ℕ) × (Some name ≡ Some n) × (contents n ≡ None) × (f ≡ fault.Unread i)
    by None e h = (name, refl, e, cc)
    by (Some bytes) e h = absurd (cc)

place_some : (r : Result (List BundleSeen) ℕ) (f : InputFault) → place_fault r ≡ Some f → (place : ℕ) × (r ≡ Err place) × (f ≡ fault.Container place)
place_some (Ok bundles) f h = absurd (cc)
place_some (Err place) f h = (place, refl, cc)

container_some : (contents : List ℕ → Option (List ℕ)) (b : Option (List ℕ)) (f : InputFault) → container_wrong (held contents b) ≡ Some f
    → (name bytes : List ℕ) × (place : ℕ) × (b ≡ Some name) × (contents name ≡ Some bytes) × IsNoContainer bytes × (f ≡ fault.Container place)
container_some contents None f h = absurd (cc)
container_some contents (Some name) f h = by (contents name) refl h
  where
    of : (bytes : List ℕ) → contents name ≡ Some bytes → (t : Bool) → nat_le (length bytes) (2 ^ 29) ≡ t
        → (if t then place_fault (container_in bytes) else Some (fault.Container (2 ^ 29))) ≡ Some f
        → (n bytes : List ℕ) × (place : ℕ) × (Some name ≡ Some n) × (contents n ≡ Some bytes) × IsNoContainer bytes × (f ≡ fault.Container place)
    of bytes e true short h = let (place, none, is) = place_some (container_in bytes) f h in (name, bytes, place, refl, e, inl (place, none), is)
    of bytes e false long h = (name, bytes, 2 ^ 29, refl, e, inr (leb-false _ _ long), cc)

    by : (x : Option (List ℕ)) → contents name ≡ x → container_wrong (Some x) ≡ Some f
        → (n bytes : List ℕ) × (place : ℕ) × (Some name ≡ Some n) × (contents n ≡ Some bytes) × IsNoContainer bytes × (f ≡ fault.Container place)
    by None e h = absurd (cc)
    by (Some bytes) e h = of bytes e (nat_le (length bytes) (2 ^ 29)) refl h

length_some : (count : ℕ) (g : InputFault) (contents : List ℕ → Option (List ℕ)) (b : Option (List ℕ)) (f : InputFault) → length_wrong count g (held contents b) ≡ Some f
    → (name bytes : List ℕ) × (b ≡ Some name) × (contents name ≡ Some bytes) × (length bytes ≢ count) × (f ≡ g)
length_some count g contents None f h = absurd (cc)
length_some count g contents (Some name) f h = by (contents name) refl h
  where
    of : (bytes : List ℕ) → contents name ≡ Some bytes → (((length bytes == count) ≡ true) × (length bytes ≡ count)) ⊎ (((length bytes == count) ≡ false) × (length bytes ≢ count))
        → (if length bytes == count then None else Some g) ≡ Some f
        → (n bytes : List ℕ) × (Some name ≡ Some n) × (contents n ≡ Some bytes) × (length bytes ≢ count) × (f ≡ g)
    of bytes e (inl t) h =
        let h' : None ≡ Some f = subst (λ (x : Bool). (if x then None else Some g) ≡ Some f) t.0 h in
        absurd (cc)
    of bytes e (inr t) h =
        let h' : Some g ≡ Some f = subst (λ (x : Bool). (if x then None else Some g) ≡ Some f) t.0 h in
        (name, bytes, refl, e, t.1, cc)

    by : (x : Option (List ℕ)) → contents name ≡ x → length_wrong count g (Some x) ≡ Some f
        → (n bytes : List ℕ) × (Some name ≡ Some n) × (contents n ≡ Some bytes) × (length bytes ≢ count) × (f ≡ g)
    by None e h = absurd (cc)
    by (Some bytes) e h = of bytes e (eqb_tells (length bytes) count) h

-- a file is needed, and none is named
needed_some : (needed : Bool) (g f : InputFault) → (if needed then Some g else None) ≡ Some f → (needed ≡ true) × (f ≡ g)
needed_some true g f h = (refl, cc)
needed_some false g f h = absurd (cc)

-- ---- the whole

module _ (contents : List ℕ → Option (List ℕ)) (k : CommandSeen) (c : NamedSeen) (has : named_of k ≡ Some c) (s : ScriptSeen) (order : List ℕ) where
  abbrev DueBy : Option InputFault → Type 0
  DueBy f = Due contents (Some k) order (inputs_end c s (held_by contents c.secrets c.keys c.bundles c.report_key) order f)

  abbrev needs : Needs
  needs = needs_of s

  -- a named input isn't there
  absent_due : (f : InputFault) → absent_input (held contents c.bundles) (held contents c.keys) (held contents c.secrets) (held contents c.report_key) ≡ Some f → DueBy (Some f)
  absent_due f h = by (first_cases _ _ f h)
    where
      unread : (i : Input) (name : List ℕ) → NamesInput c name → contents name ≡ None → f ≡ fault.Unread i → DueBy (Some f)
      unread i name named gone is =
          subst (λ (x : InputFault). DueBy (Some x)) (sym is)
          (Absent (input_name c i) (record { command = k; read_as = refl; name = name; named = inr (input_of k c name has named); absent = gone }) refl)

      last : (absent_fault input.Secrets (held contents c.secrets) ≡ Some f) ⊎ ((absent_fault input.Secrets (held contents c.secrets) ≡ None) × (absent_fault input.ReportKey (held contents c.report_key) ≡ Some f)) → DueBy (Some f)
      last (inl x) = let (name, named, gone, is) = absent_some input.Secrets contents c.secrets f x in unread input.Secrets name (inr (inr (inl named))) gone is
      last (inr x) = let (name, named, gone, is) = absent_some input.ReportKey contents c.report_key f x.1 in unread input.ReportKey name (inr (inr (inr named))) gone is

      more : (absent_fault input.Keys (held contents c.keys) ≡ Some f)
          ⊎ ((absent_fault input.Keys (held contents c.keys) ≡ None) × (first (absent_fault input.Secrets (held contents c.secrets)) (absent_fault input.ReportKey (held contents c.report_key)) ≡ Some f)) → DueBy (Some f)
      more (inl x) = let (name, named, gone, is) = absent_some input.Keys contents c.keys f x in unread input.Keys name (inr (inl named)) gone is
      more (inr x) = last (first_cases _ _ f x.1)

      by : (absent_fault input.Bundles (held contents c.bundles) ≡ Some f)
          ⊎ ((absent_fault input.Bundles (held contents c.bundles) ≡ None)
          × (first (absent_fault input.Keys (held contents c.keys)) (first (absent_fault input.Secrets (held contents c.secrets)) (absent_fault input.ReportKey (held contents c.report_key))) ≡ Some f))
          → DueBy (Some f)
      by (inl x) = let (name, named, gone, is) = absent_some input.Bundles contents c.bundles f x in unread input.Bundles name (inl named) gone is
      by (inr x) = more (first_cases _ _ f x.1)

  -- one that is there hasn't its form, or a file is wanting
  form_due : (bytes : List ℕ) → contents (script_name k) ≡ Some bytes → read_of bytes ≡ Ok s → (f : InputFault)
      → form_wrong needs (held contents c.bundles) (held contents c.keys) (held contents c.secrets) (held contents c.report_key) ≡ Some f → DueBy (Some f)
  form_due script there reads f h = by (first_cases _ _ f h)
    where
      wrong_length : (file : NamedSeen → Option (List ℕ)) (count : ℕ) (g : InputFault) → length_wrong count g (held contents (file c)) ≡ Some f → HasWrongLength file count contents (Some k) × (f ≡ g)
      wrong_length file count g x =
          let (name, bytes, named, there, wrong, is) = length_some count g contents (file c) f x in
          (record { command = k; read_as = refl; options = c; has = has; name = name; named = named; bytes = bytes; there = there; wrong = wrong }, is)

      -- a file that may be needed hasn't its length, or is wanting
      needed_due : (file : NamedSeen → Option (List ℕ)) (needs_file : ScriptSeen → Bool) (count : ℕ) (g : InputFault) → (HasWrongLength file count contents (Some k) → DueBy (Some g)) → (Lacks file needs_file contents (Some k) → DueBy (Some g))
          → (named : Option (List ℕ)) → file c ≡ named → needed_wrong count g (needs_file s) (held contents named) ≡ Some f → DueBy (Some f)
      needed_due file needs_file count g short lacking None unnamed x =
          let (needs, is) = needed_some (needs_file s) g f x in
          subst (λ (x : InputFault). DueBy (Some x)) (sym is)
          (lacking (record { command = k; read_as = refl; options = c; has = has; bytes = script; there = there; script = s; reads = reads; needs = needs; unnamed = unnamed }))
      needed_due file needs_file count g short lacking (Some name) named x =
          let x' : length_wrong count g (held contents (file c)) ≡ Some f = subst (λ (q : Option (List ℕ)). length_wrong count g (held contents q) ≡ Some f) (sym named) x in
          let (wrong, is) = wrong_length file count g x' in
          subst (λ (x : InputFault). DueBy (Some x)) (sym is) (short wrong)

      keys_due : keys_wrong needs.keys (held contents c.keys) ≡ Some f → DueBy (Some f)
      keys_due x = needed_due (λ n. n.keys) (λ s. needs_keys s.calls) 64 fault.Keys (λ h. BadLength (inl h) refl) (λ h. BadLength (inr (inr (inr (inl h)))) refl) c.keys refl x

      report_key_due : report_key_wrong needs.report_key (held contents c.report_key) ≡ Some f → DueBy (Some f)
      report_key_due x =
          needed_due (λ n. n.report_key) (λ s. needs_report_key s.codes) 48 fault.ReportKey (λ h. BadLength (inr (inr (inl h))) refl) (λ h. BadLength (inr (inr (inr (inr h)))) refl) c.report_key refl x

      last : (length_wrong 4096 fault.Secrets (held contents c.secrets) ≡ Some f)
          ⊎ ((length_wrong 4096 fault.Secrets (held contents c.secrets) ≡ None) × (report_key_wrong needs.report_key (held contents c.report_key) ≡ Some f)) → DueBy (Some f)
      last (inl x) =
          let (wrong, is) = wrong_length (λ n. n.secrets) 4096 fault.Secrets x in
          subst (λ (x : InputFault). DueBy (Some x)) (sym is) (BadLength (inr (inl wrong)) refl)
      last (inr x) = report_key_due x.1

      more : (keys_wrong needs.keys (held contents c.keys) ≡ Some f)
          ⊎ ((keys_wrong needs.keys (held contents c.keys) ≡ None) × (first (length_wrong 4096 fault.Secrets (held contents c.secrets)) (report_key_wrong needs.report_key (held contents c.report_key)) ≡ Some f)) → DueBy (Some f)
      more (inl x) = keys_due x
      more (inr x) = last (first_cases _ _ f x.1)

      by : (container_wrong (held contents c.bundles) ≡ Some f)
          ⊎ ((container_wrong (held contents c.bundles) ≡ None)
          × (first (keys_wrong needs.keys (held contents c.keys)) (first (length_wrong 4096 fault.Secrets (held contents c.secrets)) (report_key_wrong needs.report_key (held contents c.report_key))) ≡ Some f)) → DueBy (Some f)
      by (inl x) =
          let (name, bytes, place, named, there, wrong, is) = container_some contents c.bundles f x in
          subst (λ (x : InputFault). DueBy (Some x)) (sym is)
          (BadContainer place (record { command = k; read_as = refl; options = c; has = has; name = name; named = named; bytes = bytes; there = there; wrong = wrong }) refl)
      by (inr x) = more (first_cases _ _ f x.1)

  input_due : (bytes : List ℕ) → contents (script_name k) ≡ Some bytes → read_of bytes ≡ Ok s → (f : InputFault) → wrong_input contents needs c ≡ Some f → DueBy (Some f)
  input_due bytes there reads f h = elim (first_cases _ _ f h) [ inl x ↦ absent_due f x | inr x ↦ form_due bytes there reads f x.1 ]

  inputs_due : (bytes : List ℕ) (f : Option InputFault) → contents (script_name k) ≡ Some bytes → read_of bytes ≡ Ok s → wrong_input contents needs c ≡ f → DueBy f
  inputs_due bytes None there reads fits =
      Success (record {
        command = k;
        read_as = refl;
        bytes = bytes;
        there = there;
        script = s;
        reads = reads;
        fits = wrong_of contents s k c has ∙ fits;
        is =
            sym (success_of k c s (handed_held contents k) order has ∙ (λ i. run_end c s (held_by contents (secrets_of k c has i) (keys_of_command k c has i) (bundles_of_command k c has i) (report_key_of_command k c has i)) order));
      })
  inputs_due bytes (Some f) there reads wrong = input_due bytes there reads f wrong

module _ (contents : List ℕ → Option (List ℕ)) (c : CommandSeen) (order : List ℕ) where
  script_due : (k : CommandSeen) (bytes : List ℕ) (s : ScriptSeen) → contents (script_name k) ≡ Some bytes → read_of bytes ≡ Ok s → Due contents (Some k) order (script_end contents k s order)
  script_due (Replay n) bytes s there reads = inputs_due contents (Replay n) n refl s order bytes _ there reads refl
  script_due (Run n) bytes s there reads = inputs_due contents (Run n) n refl s order bytes _ there reads refl
  script_due (Check name) bytes s there reads =
      Success (record { command = Check name; read_as = refl; bytes = bytes; there = there; script = s; reads = reads; fits = refl; is = refl })

  read_due : (bytes : List ℕ) (r : Result ScriptSeen ScriptFault) → contents (script_name c) ≡ Some bytes → read_of bytes ≡ r → Due contents (Some c) order (read_end contents c order r)
  read_due bytes (Ok s) there reads = script_due c bytes s there reads
  read_due bytes (Err (Bad line reason)) there reads =
      BadScript line reason (record { command = c; read_as = refl; bytes = bytes; there = there; line = line; reason = reason; reads = reads }) refl
  read_due bytes (Err OutOfMemory) there reads = Want refl

  held_due : (h : Option (List ℕ)) → contents (script_name c) ≡ h → Due contents (Some c) order (held_end contents c order h)
  held_due None gone = Absent (script_name c) (record { command = c; read_as = refl; name = (script_name c); named = inl refl; absent = gone }) refl
  held_due (Some bytes) there = read_due bytes (read_of bytes) there refl

pub due : (contents : List ℕ → Option (List ℕ)) (c : Option CommandSeen) (order : List ℕ) → Due contents c order (ending_of contents c order)
due contents None order = Usage refl refl
due contents (Some c) order = held_due contents c order (contents (script_name c)) refl

-- ---- orders

-- an order is one of the script that was found
pub order_found : (contents : List ℕ → Option (List ℕ)) (k : CommandSeen) (bytes : List ℕ) (s : ScriptSeen) (order : List ℕ) → contents (script_name k) ≡ Some bytes → read_of bytes ≡ Ok s
    → IsOrderOf k s order → IsOrderIn contents (Some k) order
order_found contents k bytes s order there reads is k' bytes' s' same there' reads' =
    let same' : k' ≡ k = cc in
    let q : contents (script_name k) ≡ Some bytes' = subst (λ (x : CommandSeen). contents (script_name x) ≡ Some bytes') same' there' in
    let bytes_same : bytes' ≡ bytes = cc in
    let r : read_of bytes ≡ Ok s' = subst (λ (x : List ℕ). read_of x ≡ Ok s') bytes_same reads' in
    let scripts_same : s ≡ s' = cc in
    subst (λ (x : CommandSeen). IsOrderOf x s' order) (sym same') (subst (λ (x : ScriptSeen). IsOrderOf k x order) scripts_same is)

-- there is always one
pub some_order : (contents : List ℕ → Option (List ℕ)) (c : Option CommandSeen) → (order : List ℕ) × IsOrderIn contents c order
some_order contents None = ([], λ k bytes s same there reads. absurd (cc))
some_order contents (Some k) = by (contents (script_name k)) refl
  where
    of : (bytes : List ℕ) (s : ScriptSeen) (k' : CommandSeen) → k' ≡ k → contents (script_name k) ≡ Some bytes → read_of bytes ≡ Ok s → (order : List ℕ) × IsOrderIn contents (Some k) order
    of bytes s (Replay n) is there reads = (s.schedule, order_found contents k bytes s s.schedule there reads (subst (λ (x : CommandSeen). IsOrderOf x s s.schedule) is refl))
    of bytes s (Run n) is there reads = ([], order_found contents k bytes s [] there reads (subst (λ (x : CommandSeen). IsOrderOf x s []) is (All-nil (λ (p : ℕ). p < length s.calls))))
    of bytes s (Check name) is there reads = ([], order_found contents k bytes s [] there reads (subst (λ (x : CommandSeen). IsOrderOf x s []) is tt))

    read : (bytes : List ℕ) (r : Result ScriptSeen ScriptFault) → contents (script_name k) ≡ Some bytes → read_of bytes ≡ r → (order : List ℕ) × IsOrderIn contents (Some k) order
    read bytes (Ok s) there reads = of bytes s k refl there reads
    read bytes (Err f) there reads = (
      [],
      λ k' bytes' s' same there' reads'.
          let same' : k' ≡ k = cc in
          let q : contents (script_name k) ≡ Some bytes' = subst (λ (x : CommandSeen). contents (script_name x) ≡ Some bytes') same' there' in
          let bytes_same : bytes' ≡ bytes = cc in
          let r' : read_of bytes ≡ Ok s' = subst (λ (x : List ℕ). read_of x ≡ Ok s') bytes_same reads' in
          absurd (cc),
    )

    by : (x : Option (List ℕ)) → contents (script_name k) ≡ x → (order : List ℕ) × IsOrderIn contents (Some k) order
    by None gone = (
      [],
      λ k' bytes' s' same there' reads'.
          let same' : k' ≡ k = cc in
          let q : contents (script_name k) ≡ Some bytes' = subst (λ (x : CommandSeen). contents (script_name x) ≡ Some bytes') same' there' in
          absurd (cc),
    )
    by (Some bytes) there = read bytes (read_of bytes) there refl

-- the status of the ending that is due is the same under each order
pub same_status : (contents : List ℕ → Option (List ℕ)) (c : Option CommandSeen) (order order' : List ℕ) → (ending_of contents c order).status ≡ (ending_of contents c order').status
same_status contents None order order' = refl
same_status contents (Some k) order order' = by (contents (script_name k))
  where
    of_inputs : (n : NamedSeen) (s : ScriptSeen) (handed : HandedOut) (f : Option InputFault) → (inputs_end n s handed order f).status ≡ (inputs_end n s handed order' f).status
    of_inputs n s handed None = refl
    of_inputs n s handed (Some (fault.Unread i)) = refl
    of_inputs n s handed (Some (fault.Container place)) = refl
    of_inputs n s handed (Some fault.Keys) = refl
    of_inputs n s handed (Some fault.Secrets) = refl
    of_inputs n s handed (Some fault.ReportKey) = refl
    of_inputs n s handed (Some fault.OutOfMemory) = refl

    of_script : (k : CommandSeen) (s : ScriptSeen) → (script_end contents k s order).status ≡ (script_end contents k s order').status
    of_script (Replay n) s = of_inputs n s (held_by contents n.secrets n.keys n.bundles n.report_key) (wrong_input contents (needs_of s) n)
    of_script (Run n) s = of_inputs n s (held_by contents n.secrets n.keys n.bundles n.report_key) (wrong_input contents (needs_of s) n)
    of_script (Check name) s = refl

    of_read : (r : Result ScriptSeen ScriptFault) → (read_end contents k order r).status ≡ (read_end contents k order' r).status
    of_read (Ok s) = of_script k s
    of_read (Err f) = refl

    by : (x : Option (List ℕ)) → (held_end contents k order x).status ≡ (held_end contents k order' x).status
    by None = refl
    by (Some bytes) = of_read (read_of bytes)
