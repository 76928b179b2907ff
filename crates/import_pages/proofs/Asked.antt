-- The parts of the conditions of the import of a page, and what comes behind each.
use Rattle.std.proofs.Common.{ℕ, None, [], ◌∷◌}
use Rattle.td_words.specs.declared.names.Mode.TheVariants.{Exclusive}
use Rattle.td_words.specs.declared.machines.Machine.{Machine}
use Rattle.flat_core.specs.World.{ClearHeader}
use Rattle.flat_core.specs.Inputs.{Input}
use Rattle.leaf_engine.specs.Trees.{Tree}
use Rattle.leaf_parts.specs.declared.heads.Td.{Td}
use Rattle.leaf_parts.specs.Arguments.{checked}
use Rattle.sept_parts.specs.declared.finds.Found.{Found}
use Rattle.sept_parts.specs.SeptTrees.{tree_lock_tree, find_tree}
use Rattle.stream_parts.specs.declared.rooms.Room.{Room}
use Rattle.import_parts.specs.InputTrees.{input_tree, tag_tree, session_same_tree, epoch_same_tree, counter_due_tree}
use Rattle.import_pages.specs.declared.page_imports.Filling.{Filling}
use Rattle.import_pages.specs.declared.page_imports.Importing.{Importing}
use Rattle.import_pages.specs.PageImportTrees.{arriving, page_import_arguments, stream_there_tree, due_bundle_tree, found_rest, fill_tree, td_rest, td_import_tree}
use Rattle.import_pages.specs.PageImportStages.{for_one, one_page}

-- the fields of the header
module _ (n d : ℕ) (h : ClearHeader) where
  abbrev pub there : (Unit {0} → Tree) → Tree
  there f = stream_there_tree d h (f tt)

  abbrev pub in_session : (Unit {0} → Tree) → Tree
  in_session f = session_same_tree d h (f tt)

  abbrev pub in_epoch : (Unit {0} → Tree) → Tree
  in_epoch f = epoch_same_tree d h (f tt)

  abbrev pub behind_epoch : Unit {0} → (Room → Tree) → Tree
  behind_epoch u f = counter_due_tree n d h.stream h f

  abbrev pub behind_session : Unit {0} → (Room → Tree) → Tree
  behind_session u f = epoch_same_tree d h (counter_due_tree n d h.stream h f)

  abbrev pub behind_there : Unit {0} → (Room → Tree) → Tree
  behind_there u f = session_same_tree d h (epoch_same_tree d h (counter_due_tree n d h.stream h f))

-- behind the beginning of the row
module _ (n t page : ℕ) (h : ClearHeader) (d : ℕ) where
  abbrev pub locking : (Unit {0} → Tree) → Tree
  locking f = tree_lock_tree t d Exclusive (f tt)

  abbrev pub due : (Room → Tree) → Tree
  due f = due_bundle_tree n d h f

  abbrev pub finding : (Found → Tree) → Tree
  finding f = find_tree n t h.gpa 0 f

  abbrev pub for_room : Room → (Importing → Tree) → Filling → Tree
  for_room room f x = f (record { filling = x; room = room })

  abbrev pub behind_found : Room → Found → (Importing → Tree) → Tree
  behind_found room found f = found_rest t [] page found (for_room room f)

  abbrev pub behind_due : Room → (Importing → Tree) → Tree
  behind_due room f = fill_tree n t [] h.gpa page (for_room room f)

  abbrev pub behind_lock : Unit {0} → (Importing → Tree) → Tree
  behind_lock u f = due_bundle_tree n d h (λ room. fill_tree n t [] h.gpa page (for_room room f))

-- the beginning of the row, and the tag
module _ (n t page : ℕ) (x : Input) where
  abbrev pub tagged : (Importing → Tree) → Importing → Tree
  tagged f y = tag_tree x (f y)

  abbrev pub behind_head : (Importing → Tree) → Td → Tree
  behind_head f td = td_rest n t (one_page x.header.gpa page) x.header td.tdcs (for_one (λ y. tag_tree x (f y)))

-- the arguments, and the form of the bundle
module _ (m : Machine) (x : Input) (t slot page : ℕ) where
  abbrev pub arguing : (Unit {0} → Tree) → Tree
  arguing f = checked (page_import_arguments m t page None) (f tt)

  abbrev pub formed : (Unit {0} → Tree) → Tree
  formed f = input_tree x slot (3 ∷ []) (f tt)

  abbrev pub behind_form : Unit {0} → (Importing → Tree) → Tree
  behind_form u f = td_import_tree m.pages t (arriving x page None) x (for_one f)

  abbrev pub behind_arguments : Unit {0} → (Importing → Tree) → Tree
  behind_arguments u f = input_tree x slot (3 ∷ []) (td_import_tree m.pages t (arriving x page None) x (for_one f))
