-- The steps of a walk: it is told the entry at the address that it asks for.
use Rattle.std.specs.Prelude.{ℕ, ◌-◌, not, ◌==◌, ◌&&◌, if◌then◌else◌}
use Rattle.td_words.specs.Address.{word_at}
use Rattle.td_words.specs.Packing.{Entry}
use Rattle.sept_walk.specs.declared.walks.Walked.{Walked}
use Rattle.sept_walk.specs.declared.walks.Walked.TheVariants.{More, Found, Failed}
use Rattle.sept_walk.specs.Seen.{Walk}
use Rattle.sept_walk.specs.SecureEpt.{index_at, is_mapped_on}

-- a walk begins at the root
abbrev pub walk_from : (root gpa level : ℕ) → Walk
walk_from root gpa level = record { page = root; level = 3; gpa = gpa; wanted = level }

-- the address of the entry that it asks for
abbrev pub address_of : Walk → ℕ
address_of k = word_at k.page (index_at k.level k.gpa)

-- what it answers: an entry of the wanted level is found whatever its state
abbrev pub answer_to : Walk → Entry → Walked
answer_to k e = if k.level == k.wanted then Found e else if is_mapped_on e then More else Failed k.level

-- behind an upper entry that is NL_MAPPED it goes on in the page that the entry names; else it stays
abbrev pub walk_after : Walk → Entry → Walk
walk_after k e = if not (k.level == k.wanted) && is_mapped_on e then record k { page = e.page; level = k.level - 1 } else k
