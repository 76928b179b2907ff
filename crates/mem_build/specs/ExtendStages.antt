-- How far the leaf is that extends a TD's measurement: while the conditions are asked all words told are kept; once they
-- have shown the chunk, the chunk's own are.
use Rattle.std.specs.Prelude.{◌≡◌, ℕ, ◌%◌, ◌<◌, ◌≤◌, Option, Some, None, List, [], length}
use Rattle.std.proofs.Props.{props}
use Rattle.flat_core.specs.Tree.{word_of_gpa}
use Rattle.leaf_engine.specs.declared.needs.Place.{Place}
use Rattle.leaf_engine.specs.Trees.{Tree, feed}
use Rattle.mem_build.specs.declared.extensions.Chunk.{Chunk}
use Rattle.mem_build.specs.ExtendTrees.{chunk_tree, extend_tree}

-- what is left of its tree
abbrev pub rest_of : Place → (tdr gpa : ℕ) → Option Chunk → (told words : List ℕ) → Tree
rest_of p tdr gpa None told words = feed (extend_tree p.machine tdr gpa) told
rest_of p tdr gpa (Some c) told words = feed (chunk_tree p.machine gpa c.page c.hkid (word_of_gpa gpa) 32 []) words

-- where a word is waited for, there is room for it
abbrev pub HasRoom : Option Chunk → (told words : List ℕ) → Type 0
HasRoom None told words = length told < 15
HasRoom (Some c) told words = length words < 32

-- the chunk is known behind the conditions, which take fifteen answers, and stands in a page of the machine
abbrev pub IsKnown : Place → (gpa : ℕ) → Option Chunk → (told words : List ℕ) → Type 0
IsKnown p gpa None told words = (words ≡ []) × (length told ≤ 15)
IsKnown p gpa (Some c) told words = (c.page < p.machine.pages) × (gpa % 256 ≡ 0) × (length words ≤ 32)

pub HasRoom-prop : (c : Option Chunk) (told words : List ℕ) → IsProp (HasRoom c told words)
HasRoom-prop None told words = hlevel props
HasRoom-prop (Some c) told words = hlevel props

pub IsKnown-prop : (p : Place) (gpa : ℕ) (c : Option Chunk) (told words : List ℕ) → IsProp (IsKnown p gpa c told words)
IsKnown-prop p gpa None told words = hlevel props
IsKnown-prop p gpa (Some c) told words = hlevel props
