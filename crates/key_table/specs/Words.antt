-- What the words of the key table say, and whose a page is.
use Rattle.std.specs.Prelude.{ℕ, ◌+◌, ◌-◌, ◌%◌, Bool, not, ◌==◌, ◌&&◌, if◌then◌else◌}
use Rattle.td_words.specs.declared.names.HkidState.TheVariants as hkid
use Rattle.td_words.specs.declared.machines.Machine.{Machine}
use Rattle.td_words.specs.declared.places.TheConstants.{KEY_LOCK, KEY_FIRST}
use Rattle.td_words.specs.NameNumber.{hkid_number}
use Rattle.leaf_parts.specs.Words.{says_host, says_owner, is_hkid}

-- the number of an HKID's word in the key table, where it is an HKID of the machine
abbrev pub key_number : Machine → ℕ → ℕ
key_number m h = if is_hkid m h then KEY_FIRST + (h - 1) else KEY_LOCK

-- a key table word of a flushed HKID that was written back
abbrev pub is_marked : ℕ → Bool
is_marked word = word % 16 == hkid_number hkid.Flushed + 4

-- a key table word after PHYMEM.CACHE.WB, which marks it where the HKID is flushed
abbrev pub marked : ℕ → ℕ
marked word = if word % 16 == hkid_number hkid.Flushed then word + 4 else word

-- a PAMT word of a page of that TD
abbrev pub is_owned : ℕ → ℕ → Bool
is_owned t word = not (says_host word) && says_owner t word
