-- Argument rules. Each argument's own range is tested first, from left to right; then that no page is named twice; then
-- alignment. A fault is OPERAND_INVALID with the argument's place, from 1.
use Rattle.std.specs.Prelude.{ℕ, ◌*◌, ◌%◌, ◌^◌, Bool, not, ◌==◌, ◌&&◌, nat_lt, nat_le}
use Rattle.td_words.specs.declared.refusals.Status.TheVariants.{OperandInvalid}
use Rattle.td_words.specs.declared.replies.Reply.{Reply}
use Rattle.td_words.specs.declared.machines.Machine.{Machine}
use Rattle.flat_core.specs.Row.{Item, needs}

abbrev pub argument : ℕ → Bool → Item Reply
argument place holds = needs holds (OperandInvalid place)

-- ranges
abbrev pub page_argument : Machine → ℕ → ℕ → Item Reply
page_argument m place p = argument place (nat_lt p m.pages)

abbrev pub word_argument : ℕ → ℕ → Item Reply
word_argument place i = argument place (nat_lt i 512)

abbrev pub hkid_argument : Machine → ℕ → ℕ → Item Reply
hkid_argument m place h = argument place (nat_le 1 h && nat_le h m.hkids)

abbrev pub gpa_argument : ℕ → ℕ → Item Reply
gpa_argument place gpa = argument place (nat_lt gpa (2 ^ 47))

-- levels 0 to 3, or 1 to 3 where a secure EPT page is meant
abbrev pub level_argument : ℕ → ℕ → Item Reply
level_argument place level = argument place (nat_le level 3)

abbrev pub upper_level_argument : ℕ → ℕ → Item Reply
upper_level_argument place level = argument place (nat_le 1 level && nat_le level 3)

abbrev pub most_argument : ℕ → ℕ → Item Reply
most_argument place most = argument place (nat_le 1 most && nat_lt most (2 ^ 16))

abbrev pub stream_argument : ℕ → ℕ → Item Reply
stream_argument place stream = argument place (nat_lt stream 4)

abbrev pub start_argument : ℕ → ℕ → Item Reply
start_argument place start = argument place (nat_lt start 2)

-- a page that an earlier argument names
abbrev pub apart_argument : ℕ → ℕ → ℕ → Item Reply
apart_argument place p q = argument place (not (p == q))

-- the size of what an entry of a level maps
abbrev pub level_size : ℕ → ℕ
level_size level = 4096 * 512 ^ level

abbrev pub aligned_argument : ℕ → ℕ → ℕ → Item Reply
aligned_argument place level gpa = argument place (gpa % level_size level == 0)

abbrev pub chunk_argument : ℕ → ℕ → Item Reply
chunk_argument place gpa = argument place (gpa % 256 == 0)
