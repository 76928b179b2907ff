-- What the words say that the leaves of virtual processors load.
use Rattle.std.specs.Prelude.{ℕ, Bool, ◌==◌, ◌&&◌, if◌then◌else◌, nat_lt}
use Rattle.td_words.specs.declared.names.PageKind.{PageKind}
use Rattle.td_words.specs.declared.names.OpState.{OpState}
use Rattle.td_words.specs.declared.names.VcpuState.{VcpuState}
use Rattle.td_words.specs.declared.names.VcpuState.TheVariants as vcpu
use Rattle.flat_core.specs.Conditions.{vp_limit}
use Rattle.leaf_parts.specs.Words.{says_kind, says_owner}

-- a PAMT word of a page of that kind and TD
abbrev pub says_page_of : (t : ℕ) → PageKind → ℕ → Bool
says_page_of t k word = says_kind k word && says_owner t word

-- the state of a virtual processor of that number
abbrev pub vcpu_told : ℕ → VcpuState
vcpu_told n = if n == 0 then vcpu.Created else vcpu.Ready

-- there is room for another: eight at most, also where an import's number, as it is told, is larger
abbrev pub has_room : OpState → (expected count : ℕ) → Bool
has_room op expected count = nat_lt count 8 && nat_lt count (vp_limit op expected)
