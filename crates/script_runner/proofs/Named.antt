-- What a replay and a run have in common.
use Rattle.std.proofs.Common.{◌≡◌, sym, ap, subst, ℕ, List, Option, Some}
use Rattle.script_text.specs.Seen.{ScriptSeen}
use Rattle.command_files.specs.Commands.{NamedSeen, CommandSeen, Replay, Run, Check, named_of, script_name}
use Rattle.script_runner.specs.Ending.{run_end, success_end, needs_of, wrong_input, command_wrong, secrets_named, named_end, script_end, HandedOut, keys_named, bundles_named, report_key_named}
use Rattle.script_runner.specs.Ends.{NamesInput, IsInput}
use Rattle.script_runner.specs.Done.{AreHandedBy, AreHandedOut}
use Rattle.bundle_store.specs.History.{Loaded}

pub script_of : (k : CommandSeen) (c : NamedSeen) → named_of k ≡ Some c → script_name k ≡ c.script
script_of (Replay n) c has = let same : n ≡ c = cc in ap (λ (x : NamedSeen). x.script) same
script_of (Run n) c has = let same : n ≡ c = cc in ap (λ (x : NamedSeen). x.script) same
script_of (Check name) c has = absurd (cc)

pub secrets_of : (k : CommandSeen) (c : NamedSeen) → named_of k ≡ Some c → secrets_named k ≡ c.secrets
secrets_of (Replay n) c has = let same : n ≡ c = cc in ap (λ (x : NamedSeen). x.secrets) same
secrets_of (Run n) c has = let same : n ≡ c = cc in ap (λ (x : NamedSeen). x.secrets) same
secrets_of (Check name) c has = absurd (cc)

pub keys_of_command : (k : CommandSeen) (c : NamedSeen) → named_of k ≡ Some c → keys_named k ≡ c.keys
keys_of_command (Replay n) c has = let same : n ≡ c = cc in ap (λ (x : NamedSeen). x.keys) same
keys_of_command (Run n) c has = let same : n ≡ c = cc in ap (λ (x : NamedSeen). x.keys) same
keys_of_command (Check name) c has = absurd (cc)

pub bundles_of_command : (k : CommandSeen) (c : NamedSeen) → named_of k ≡ Some c → bundles_named k ≡ c.bundles
bundles_of_command (Replay n) c has = let same : n ≡ c = cc in ap (λ (x : NamedSeen). x.bundles) same
bundles_of_command (Run n) c has = let same : n ≡ c = cc in ap (λ (x : NamedSeen). x.bundles) same
bundles_of_command (Check name) c has = absurd (cc)

pub report_key_of_command : (k : CommandSeen) (c : NamedSeen) → named_of k ≡ Some c → report_key_named k ≡ c.report_key
report_key_of_command (Replay n) c has = let same : n ≡ c = cc in ap (λ (x : NamedSeen). x.report_key) same
report_key_of_command (Run n) c has = let same : n ≡ c = cc in ap (λ (x : NamedSeen). x.report_key) same
report_key_of_command (Check name) c has = absurd (cc)

pub input_of : (k : CommandSeen) (c : NamedSeen) (name : List ℕ) → named_of k ≡ Some c → NamesInput c name → IsInput k name
input_of (Replay n) c name has h = let same : n ≡ c = cc in subst (λ (x : NamedSeen). NamesInput x name) (sym same) h
input_of (Run n) c name has h = let same : n ≡ c = cc in subst (λ (x : NamedSeen). NamesInput x name) (sym same) h
input_of (Check script) c name has h = absurd (cc)

pub wrong_of : (contents : List ℕ → Option (List ℕ)) (s : ScriptSeen) (k : CommandSeen) (c : NamedSeen) → named_of k ≡ Some c → command_wrong contents s k ≡ wrong_input contents (needs_of s) c
wrong_of contents s (Replay n) c has = let same : n ≡ c = cc in ap (wrong_input contents (needs_of s)) same
wrong_of contents s (Run n) c has = let same : n ≡ c = cc in ap (wrong_input contents (needs_of s)) same
wrong_of contents s (Check name) c has = absurd (cc)

pub success_of : (k : CommandSeen) (c : NamedSeen) (s : ScriptSeen) (handed : HandedOut) (order : List ℕ) → named_of k ≡ Some c → success_end k s handed order ≡ run_end c s handed order
success_of (Replay n) c s handed order has = let same : n ≡ c = cc in ap (λ (x : NamedSeen). run_end x s handed order) same
success_of (Run n) c s handed order has = let same : n ≡ c = cc in ap (λ (x : NamedSeen). run_end x s handed order) same
success_of (Check name) c s handed order has = absurd (cc)

pub script_end_of : (contents : List ℕ → Option (List ℕ)) (k : CommandSeen) (c : NamedSeen) (s : ScriptSeen) (order : List ℕ) → named_of k ≡ Some c → script_end contents k s order ≡ named_end contents c s order
script_end_of contents (Replay n) c s order has = let same : n ≡ c = cc in ap (λ (x : NamedSeen). named_end contents x s order) same
script_end_of contents (Run n) c s order has = let same : n ≡ c = cc in ap (λ (x : NamedSeen). named_end contents x s order) same
script_end_of contents (Check name) c s order has = absurd (cc)

-- what the files of a command handed out
pub handed_of : (k : CommandSeen) (c : NamedSeen) (loads loads' : List Loaded) (handed : HandedOut) → named_of k ≡ Some c → AreHandedBy c.bundles c.keys c.secrets c.report_key loads loads' handed → AreHandedOut k loads loads' handed
handed_of (Replay n) c loads loads' handed has h = let same : n ≡ c = cc in subst (λ (x : NamedSeen). AreHandedBy x.bundles x.keys x.secrets x.report_key loads loads' handed) (sym same) h
handed_of (Run n) c loads loads' handed has h = let same : n ≡ c = cc in subst (λ (x : NamedSeen). AreHandedBy x.bundles x.keys x.secrets x.report_key loads loads' handed) (sym same) h
handed_of (Check name) c loads loads' handed has h = absurd (cc)
