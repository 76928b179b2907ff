-- Contents that are held in memory.
use Rattle.std.specs.Prelude.{◌≡◌, ◌<◌, ℕ, List, [], ◌∷◌, Option, Some, None, if◌then◌else◌, take, length, slice_index_or}
use Rattle.std.specs.Str.{bytes_eq}
use Rattle.bundle_store.specs.Seen.{FileSeen}

-- what the first file of that name has
abbrev pub contents_in : List FileSeen → List ℕ → Option (List ℕ)
contents_in [] name = None
contents_in (f ∷ fs) name = if bytes_eq f.name name then Some f.bytes else contents_in fs name

abbrev pub no_file : FileSeen
no_file = record { name = []; bytes = [] }

-- the first file of that name stands there
pub record FirstAt (files : List FileSeen) (name : List ℕ) (place : ℕ) : Type 0 where
  pub inside : place < length files
  pub named : (slice_index_or files place no_file).name ≡ name
  pub none_before : contents_in (take place files) name ≡ None
