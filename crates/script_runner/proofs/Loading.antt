-- What is loaded behind the script, also where memory was wanting: its inputs, and only where it is one.
use Rattle.std.proofs.Common.{◌≡◌, inl, inr, refl, ℕ, List, Option, Result, Ok, Err}
use Rattle.std.specs.Global.{Vec}
use Rattle.script_text.specs.declared.faults.ScriptFault.{ScriptFault}
use Rattle.script_text.specs.Reading.{read_of}
use Rattle.script_text.specs.Seen.{ScriptSeen}
use Rattle.bundle_store.specs.declared.outside.LoadFault.{LoadFault}
use Rattle.bundle_store.specs.declared.outside.LoadFault.TheVariants as load
use Rattle.bundle_store.specs.History.{Reads}
use Rattle.command_files.specs.Commands.{CommandSeen, Replay, Run, Check}
use Rattle.script_runner.specs.Ending.{Ended}
use Rattle.script_runner.specs.Commanded.{AnswerEnd, ScriptEnd, ReadEnd, ScriptPart, ReadPart, AnswerPart}

script_part : (contents : Option (List ℕ → Option (List ℕ))) (c : CommandSeen) (s : ScriptSeen) (b r' : Reads) (e : Ended) → ScriptEnd contents c s b r' e → ScriptPart contents c s b r'
script_part contents (Replay n) s b r' e (res, takes, ends) = inr (res, takes)
script_part contents (Run n) s b r' e (res, takes, ends) = inr (res, takes)
script_part contents (Check name) s b r' e h = inl h.0

pub script_read : (contents : Option (List ℕ → Option (List ℕ))) (c : CommandSeen) (s : ScriptSeen) (b r' : Reads) (read : Result ScriptSeen ScriptFault) → read ≡ Ok s → ScriptPart contents c s b r' → ReadPart contents c b r' read
script_read contents c s b r' read is (inl same) = inl same
script_read contents c s b r' read is (inr takes) = inr (s, is, takes)

read_part : (contents : Option (List ℕ → Option (List ℕ))) (c : CommandSeen) (b r' : Reads) (read : Result ScriptSeen ScriptFault) (e : Ended) → ReadEnd contents c b r' read e → ReadPart contents c b r' read
read_part contents c b r' (Ok s) e h = script_read contents c s b r' (Ok s) refl (script_part contents c s b r' e h)
read_part contents c b r' (Err f) e (same, is) = inl same

pub answer_read : (contents : Option (List ℕ → Option (List ℕ))) (c : CommandSeen) (given : Vec ℕ) (b r' : Reads) (answer : Result (Vec ℕ) LoadFault) → answer ≡ Ok given → ReadPart contents c b r' (read_of given.items) → AnswerPart contents c b r' answer
answer_read contents c given b r' answer is (inl same) = inl same
answer_read contents c given b r' answer is (inr (s, reads, takes)) = inr (given, is, s, reads, takes)

pub answer_part : (contents : Option (List ℕ → Option (List ℕ))) (c : CommandSeen) (b r' : Reads) (answer : Result (Vec ℕ) LoadFault) (e : Ended) → AnswerEnd contents c b r' answer e → AnswerPart contents c b r' answer
answer_part contents c b r' (Ok given) e h = answer_read contents c given b r' (Ok given) refl (read_part contents c b r' (read_of given.items) e h)
answer_part contents c b r' (Err load.Absent) e h = inl h.0
answer_part contents c b r' (Err load.TooLong) e h = inl h.0
answer_part contents c b r' (Err load.Failed) e h = inl h.0
answer_part contents c b r' (Err load.OutOfMemory) e h = absurd h
