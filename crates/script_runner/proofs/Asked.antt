-- What holds of every command on a script, and of words that are no command, is said of what words ask for.
use Rattle.std.proofs.Common.{Option, Some, None}
use Rattle.command_files.specs.Commands.{CommandSeen, AskedSeen, OfScript, Soak, Verify}
use Rattle.script_runner.specs.Asked.{OfScripts}

-- what words ask for that are this command, or none
abbrev pub asks : Option CommandSeen → Option AskedSeen
asks None = None
asks (Some c) = Some (OfScript c)

pub of_scripts : (D : Option AskedSeen → Type 0) (P : Option CommandSeen → Type 0) → ((c : Option CommandSeen) → D (asks c) → P c) → (asked : Option AskedSeen) → D asked → OfScripts asked P
of_scripts D P f None d = f None d
of_scripts D P f (Some (OfScript c)) d = f (Some c) d
of_scripts D P f (Some (Soak n)) d = tt
of_scripts D P f (Some (Verify n)) d = tt
