-- What is told of logical processors over words, as they know of themselves.
use Rattle.std.specs.Prelude.{ℕ, ◌/◌, ◌%◌, List, [], ◌++◌, length, map, Option, Some, None}
use Rattle.std.specs.List.{concat}
use Rattle.field_lines.specs.declared.lines.Form.{Form}
use Rattle.leaf_engine.specs.declared.events.HeldLock.{HeldLock}
use Rattle.leaf_engine.specs.Turns.{Standing}
use Rattle.leaf_engine.specs.Guests.{WordGuest}
use Rattle.leaf_engine.specs.OwnLists.{WordLp}
use Rattle.state_lines.specs.declared.seen.Holder.{Holder}
use Rattle.state_lines.specs.declared.seen.Holder.TheVariants as holder
use Rattle.state_lines.specs.Lines.{done_line, held_line, guest_line}
use Rattle.state_lines.specs.StateText.{translation_line}
use Rattle.state_lines.specs.WordText.{owner_read}

-- the TD of a lock is that of the page where its word stands
abbrev pub lock_read : Form → List ℕ → ℕ → Holder → HeldLock → List ℕ
lock_read f words p who h = held_line f p who h.name (owner_read words (h.at / 514 % 65536)) h.mode

abbrev pub locks_read : Form → List ℕ → ℕ → Holder → List HeldLock → List ℕ
locks_read f words p who hs = concat (map (lock_read f words p who) hs)

-- the locks that a run holds, the oldest first
abbrev pub run_locks : Option Standing → List HeldLock
run_locks None = []
run_locks (Some s) = s.held

abbrev pub guest_read : Form → List ℕ → ℕ → Option WordGuest → List ℕ
guest_read f words p None = []
guest_read f words p (Some g) = guest_line f p g.tdr g.vp g.completed g.most ++ locks_read f words p holder.Guest (run_locks g.run)

-- a logical processor with so many calls
abbrev pub lp_read : Form → List ℕ → (p calls : ℕ) → WordLp → List ℕ
lp_read f words p calls at =
    done_line f p (length at.replies) calls ++ (locks_read f words p holder.Call (run_locks at.run) ++ (guest_read f words p at.guest ++ concat (map (translation_line f p) at.beside.cached)))
