-- A guest that gives its list of operations up, and takes it again.
use Rattle.std.specs.Prelude.{◌≡◌, Option, Some, None, List}
use Rattle.td_words.specs.Seen.{CodeSeen}
use Rattle.leaf_table.specs.Table.{code_in}
use Rattle.leaf_dispatch.specs.declared.guests.GuestAt.{GuestAt}

-- the same guest, with whatever list
abbrev pub IsButList : (before after : GuestAt) → Type 0
IsButList g h = h ≡ record g { list = h.list }

abbrev pub AreWithoutList : (before after : Option GuestAt) → Type 0
AreWithoutList None None = Unit {0}
AreWithoutList (Some g) (Some h) = IsButList g h
AreWithoutList None (Some h) = ⊥
AreWithoutList (Some g) None = ⊥

-- the same guest, with the list of its virtual processor
abbrev pub AreWithList : List CodeSeen → (before after : Option GuestAt) → Type 0
AreWithList codes None None = Unit {0}
AreWithList codes (Some g) (Some h) = IsButList g h × (h.list.now ≡ code_in codes g.tdr g.index)
AreWithList codes None (Some h) = ⊥
AreWithList codes (Some g) None = ⊥
