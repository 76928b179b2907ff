-- Where the first list of each virtual processor stands among a script's lists.
use Rattle.std.specs.Prelude.{◌≡◌, ℕ, Bool, ◌==◌, ◌&&◌, List}
use Rattle.std.specs.List.{position_from}
use Rattle.std.specs.Map.{lookup}
use Rattle.std.proofs.Props.{props}
use Rattle.td_words.specs.Seen.{CodeSeen}
use Rattle.leaf_dispatch.specs.declared.first_lists.FirstLists.{FirstLists}
use Rattle.leaf_dispatch.specs.declared.first_lists.VirtualProcessor.{VirtualProcessor}

-- a list, and a key of the table, of the virtual processor of that index of the TD whose TDR is page `tdr`
abbrev pub is_list_of : (tdr index : ℕ) → CodeSeen → Bool
is_list_of tdr index c = c.tdr == tdr && c.index == index

abbrev pub is_vcpu : (tdr index : ℕ) → VirtualProcessor → Bool
is_vcpu tdr index p = p.tdr == tdr && p.index == index

-- Under each virtual processor the table has the place of its first list, counted from 0, and nothing where it has none.
abbrev pub AreFirstLists : List CodeSeen → FirstLists → Type 0
AreFirstLists codes p = (tdr index : ℕ) → lookup (is_vcpu tdr index) p.firsts.entries ≡ position_from (is_list_of tdr index) 0 codes

-- has one proof
pub AreFirstLists-prop : (codes : List CodeSeen) (p : FirstLists) → IsProp (AreFirstLists codes p)
AreFirstLists-prop codes p = hlevel props
