-- Worked command lines, which compute (`are_read_so` in `proofs/Worked.antt`).
use Rattle.std.specs.Prelude.{ℕ, List, [], ◌∷◌, Option, Some, None, codes}
use Rattle.command_files.specs.Commands.{AskedSeen, OfScript, Soak, Verify, NamedSeen, Replay, Run, Check}

-- a script alone, and with a key file
abbrev pub script : List ℕ → NamedSeen
script name = record { script = name; bundles = None; keys = None; secrets = None; out_bundles = None; guest_out = None; report_key = None }

abbrev pub with_keys : List ℕ → List ℕ → NamedSeen
with_keys name keys = record (script name) { keys = Some keys }

abbrev pub replay : NamedSeen → Option AskedSeen
replay n = Some (OfScript (Replay n))

-- words, and what they ask for; None is a faulty command line
abbrev pub worked_lines : List (List (List ℕ) × Option AskedSeen)
worked_lines =
    -- the first word is the command
    ([], None)
    ∷ (codes "sock" ∷ codes "1" ∷ [], None)
    ∷ (codes "" ∷ codes "s" ∷ [], None)
    ∷ (codes "run" ∷ codes "s" ∷ [], Some (OfScript (Run (script (codes "s")))))
    ∷ (codes "check" ∷ codes "s" ∷ [], Some (OfScript (Check (codes "s"))))
    -- SCRIPT is one word, which may be empty
    ∷ (codes "replay" ∷ [], None)
    ∷ (codes "replay" ∷ codes "s" ∷ codes "t" ∷ [], None)
    ∷ (codes "replay" ∷ codes "" ∷ [], replay (script (codes "")))
    -- options stand before it or behind it, as one word or two, each at most once
    ∷ (codes "replay" ∷ codes "s" ∷ codes "--keys" ∷ codes "k" ∷ [], replay (with_keys (codes "s") (codes "k")))
    ∷ (codes "replay" ∷ codes "--keys" ∷ codes "k" ∷ codes "s" ∷ [], replay (with_keys (codes "s") (codes "k")))
    ∷ (codes "replay" ∷ codes "--keys=k" ∷ codes "s" ∷ [], replay (with_keys (codes "s") (codes "k")))
    ∷ (codes "replay" ∷ codes "--keys=" ∷ codes "s" ∷ [], replay (with_keys (codes "s") (codes "")))
    ∷ (codes "replay" ∷ codes "--keys==-k" ∷ codes "s" ∷ [], replay (with_keys (codes "s") (codes "=-k")))
    ∷ (codes "replay" ∷ codes "s" ∷ codes "--keys" ∷ codes "" ∷ [], replay (with_keys (codes "s") (codes "")))
    ∷ (codes "replay" ∷ codes "s" ∷ codes "--keys" ∷ [], None)
    ∷ (codes "replay" ∷ codes "s" ∷ codes "--keys" ∷ codes "k" ∷ codes "--keys" ∷ codes "k" ∷ [], None)
    ∷ (codes "replay" ∷ codes "s" ∷ codes "--key" ∷ codes "k" ∷ [], None)
    ∷ (codes "replay" ∷ codes "s" ∷ codes "-k" ∷ [], None)
    ∷ (codes "replay" ∷ codes "s" ∷ codes "--help" ∷ [], None)
    ∷ (codes "check" ∷ codes "s" ∷ codes "--keys" ∷ codes "k" ∷ [], None)
    ∷ (codes "run" ∷ codes "s" ∷ codes "--report-key" ∷ codes "r" ∷ [], Some (OfScript (Run (record (script (codes "s")) { report_key = Some (codes "r") }))))
    ∷ (codes "check" ∷ codes "s" ∷ codes "--report-key" ∷ codes "r" ∷ [], None)
    -- a value that is a word of its own doesn't begin with a dash, but may be one
    ∷ (codes "replay" ∷ codes "s" ∷ codes "--keys" ∷ codes "-k" ∷ [], None)
    ∷ (codes "replay" ∷ codes "s" ∷ codes "--keys" ∷ codes "-1" ∷ [], None)
    ∷ (codes "replay" ∷ codes "s" ∷ codes "--keys" ∷ codes "-" ∷ [], replay (with_keys (codes "s") (codes "-")))
    ∷ (codes "replay" ∷ codes "-" ∷ [], replay (script (codes "-")))
    -- behind `--` no word is an option
    ∷ (codes "replay" ∷ codes "--" ∷ codes "--keys" ∷ [], replay (script (codes "--keys")))
    ∷ (codes "replay" ∷ codes "s" ∷ codes "--" ∷ [], replay (script (codes "s")))
    ∷ (codes "replay" ∷ codes "--" ∷ codes "--" ∷ [], replay (script (codes "--")))
    ∷ (codes "replay" ∷ codes "s" ∷ codes "--keys" ∷ codes "--" ∷ codes "k" ∷ [], None)
    -- N is decimal, from 1 to 512, without sign and leading zeros
    ∷ (codes "soak" ∷ codes "1" ∷ [], Some (Soak 1))
    ∷ (codes "soak" ∷ codes "512" ∷ [], Some (Soak 512))
    ∷ (codes "soak" ∷ codes "--" ∷ codes "7" ∷ [], Some (Soak 7))
    ∷ (codes "soak" ∷ [], None)
    ∷ (codes "soak" ∷ codes "2" ∷ codes "3" ∷ [], None)
    ∷ (codes "soak" ∷ codes "0" ∷ [], None)
    ∷ (codes "soak" ∷ codes "513" ∷ [], None)
    ∷ (codes "soak" ∷ codes "07" ∷ [], None)
    ∷ (codes "soak" ∷ codes "+7" ∷ [], None)
    ∷ (codes "soak" ∷ codes "-7" ∷ [], None)
    ∷ (codes "soak" ∷ codes "0x7" ∷ [], None)
    ∷ (codes "soak" ∷ codes "x" ∷ [], None)
    ∷ (codes "soak" ∷ codes "7" ∷ codes "--keys" ∷ codes "k" ∷ [], None)
    -- FILE and KEY are two words, in this order
    ∷ (codes "verify" ∷ codes "f" ∷ codes "k" ∷ [], Some (Verify (record { report = codes "f"; key = codes "k" })))
    ∷ (codes "verify" ∷ codes "f" ∷ [], None)
    ∷ (codes "verify" ∷ codes "f" ∷ codes "k" ∷ codes "l" ∷ [], None)
    ∷ (codes "verify" ∷ codes "f" ∷ codes "k" ∷ codes "--keys" ∷ codes "k" ∷ [], None)
    ∷ []
