-- Worked logs of a script with two calls of processor 0 and one of processor 1, which compute (`are_read_so` in `proofs/Worked.antt`).
use Rattle.std.specs.Prelude.{ℕ, List, [], ◌∷◌, ◌++◌, Result, Ok, Err, codes}
use Rattle.td_words.specs.declared.calls.Call.{Call}
use Rattle.td_words.specs.declared.calls.Call.TheVariants.{HostRead}
use Rattle.reply_logs.specs.declared.faults.LogFault.{LogFault}
use Rattle.reply_logs.specs.declared.faults.LogFault.TheVariants.{Bad}
use Rattle.reply_logs.specs.declared.faults.LogReason.TheVariants.{Unterminated, Byte, Place, Reply, Twice}
use Rattle.reply_logs.specs.Logs.{LogLineSeen}

abbrev pub calls : List (List Call)
calls = (HostRead 1 0 ∷ HostRead 1 0 ∷ []) ∷ (HostRead 1 0 ∷ []) ∷ []

abbrev pub told : (lp line : ℕ) → List ℕ → LogLineSeen
told lp line reply = record { lp = lp; line = line; reply = reply }

-- a line, with its newline
abbrev pub line : List ℕ → List ℕ
line text = text ++ 10 ∷ []

-- logs, and what they tell
abbrev pub worked_logs : List (List ℕ × Result (List LogLineSeen) LogFault)
worked_logs =
    -- lines may be left out, and stand in any order
    ([], Ok [])
    ∷ (line (codes "0.1 SUCCESS 0"), Ok (told 0 1 (codes "SUCCESS 0") ∷ []))
    ∷ (line (codes "1.1 OPERAND_BUSY P 1") ++ line (codes "0.2 SUCCESS 0"), Ok (told 1 1 (codes "OPERAND_BUSY P 1") ∷ told 0 2 (codes "SUCCESS 0") ∷ []))
    -- blank lines and comments are skipped, and spaces count as one
    ∷ (line (codes "") ++ (line (codes "# of the second run") ++ line (codes "  0.1   SUCCESS  0 ")), Ok (told 0 1 (codes "SUCCESS 0") ∷ []))
    -- a call line has a processor, a dot, and a number from 1, and is the script's
    ∷ (line (codes "0.0 SUCCESS"), Err (Bad 1 Place))
    ∷ (line (codes "0.3 SUCCESS"), Err (Bad 1 Place))
    ∷ (line (codes "2.1 SUCCESS"), Err (Bad 1 Place))
    ∷ (line (codes "0 SUCCESS"), Err (Bad 1 Place))
    ∷ (line (codes "0.1 SUCCESS 0") ++ line (codes "SUCCESS 0"), Err (Bad 2 Place))
    ∷ (line (codes "0.1.1 SUCCESS"), Err (Bad 1 Place))
    -- it has a reply, once
    ∷ (line (codes "0.1"), Err (Bad 1 Reply))
    ∷ (line (codes "0.1 SUCCESS 0") ++ (line (codes "1.1 SUCCESS 0") ++ line (codes "0.1 SUCCESS 0")), Err (Bad 3 Twice))
    -- each line is printable and ends in a newline
    ∷ (line (codes "0.1 SUCCESS" ++ 13 ∷ []), Err (Bad 1 Byte))
    ∷ (line (codes "0.1 SUCCESS 0") ++ codes "0.2 SUCC", Err (Bad 2 Unterminated))
    ∷ []
