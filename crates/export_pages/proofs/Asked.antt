-- The parts of the conditions of the export of a page, and what comes behind each.
use Rattle.std.proofs.Common.{ℕ, List, ◌∷◌, Result, Ok, Err}
use Rattle.td_words.specs.declared.machines.Machine.{Machine}
use Rattle.td_words.specs.declared.names.OpState.{OpState}
use Rattle.td_words.specs.declared.names.Mode.{Mode}
use Rattle.td_words.specs.declared.names.Mode.TheVariants.{Exclusive, Shared}
use Rattle.td_words.specs.Place.{WordPlace}
use Rattle.td_words.specs.Place as place
use Rattle.flat_core.specs.Processor.{LockId, OfPage}
use Rattle.flat_core.specs.ExportRows.{abortable_ops}
use Rattle.flat_core.specs.BundleRows.{exportable}
use Rattle.word_rules.specs.Rules.{Whole}
use Rattle.leaf_engine.specs.declared.plans.Stop.{Stop}
use Rattle.leaf_engine.specs.Trees.{Tree, Lock, Load}
use Rattle.leaf_parts.specs.declared.heads.Td.{Td}
use Rattle.leaf_parts.specs.Heads.{td_head_tree}
use Rattle.leaf_parts.specs.Parts.{Goes, Feeds}
use Rattle.mem_remove.specs.declared.named_entries.Named.{Named}
use Rattle.stream_parts.specs.declared.rooms.Room.{Room}
use Rattle.stream_parts.specs.Streams.{page_tree as stream_page_tree}
use Rattle.stream_parts.specs.Rooms.{counter_tree}
use Rattle.export_core.specs.WriteTrees.{shared_walk, page_tree, held_tree}
use Rattle.export_pages.specs.declared.page_exports.Exporting.{Exporting}
use Rattle.export_pages.specs.PageExportTrees.{page_export_arguments, has_stream_tree, exportable_tree, other_epoch_tree, held_room_tree, tracked_in_tree, counted_at, said_tree, named_rest, td_rest}

-- the arguments, and the beginning of the row
module _ (m : Machine) (t gpa k : ℕ) where
  abbrev pub arguing : (Unit {0} → Tree) → Tree
  arguing f = page_export_arguments m t gpa k (f tt)

  abbrev pub heading : (Td → Tree) → Tree
  heading f = td_head_tree m.pages t Shared abortable_ops f

  abbrev pub behind_head : Td → (Exporting → Tree) → Tree
  behind_head td f = td_rest m.pages t gpa k td f

  abbrev pub behind_arguments : Unit {0} → (Exporting → Tree) → Tree
  behind_arguments u f = td_head_tree m.pages t Shared abortable_ops (λ td. td_rest m.pages t gpa k td f)

-- the stream, and the entry
module _ (pages t gpa k : ℕ) (td : Td) where
  abbrev pub having : (Unit {0} → Tree) → Tree
  having f = has_stream_tree td.tdcs k (f tt)

  abbrev pub finding : (Named → Tree) → Tree
  finding f = exportable_tree pages t gpa td f

  abbrev pub behind_found : Named → (Exporting → Tree) → Tree
  behind_found n f = named_rest pages k td.op n f

  abbrev pub behind_stream : Unit {0} → (Exporting → Tree) → Tree
  behind_stream u f = exportable_tree pages t gpa td (λ n. named_rest pages k td.op n f)

-- the walk, and the page that the entry names
module _ (pages t gpa : ℕ) (td : Td) where
  abbrev pub walking : (ℕ → Tree) → Tree
  walking f = shared_walk pages t gpa td.tdcs f

  abbrev pub naming : ℕ → (ℕ → Tree) → Tree
  naming at f = page_tree pages gpa at f

  abbrev pub behind_page : ℕ → ℕ → (Named → Tree) → Tree
  behind_page at p f = held_tree pages td.tdcs gpa at (exportable td.op) p f

  abbrev pub behind_walk : ℕ → (Named → Tree) → Tree
  behind_walk at f = page_tree pages gpa at (λ p. held_tree pages td.tdcs gpa at (exportable td.op) p f)

-- what comes behind the entry
module _ (pages k : ℕ) (o : OpState) (n : Named) where
  abbrev pub dating : (ℕ → Tree) → Tree
  dating f = other_epoch_tree n f

  abbrev pub rooming : (Room → Tree) → Tree
  rooming f = held_room_tree pages n.tdcs k f

  abbrev pub tracking : (Unit {0} → Tree) → Tree
  tracking f = tracked_in_tree o n.tdcs n.entry.page (f tt)

  abbrev pub behind_tracked : (epoch : ℕ) → Room → Unit {0} → (Exporting → Tree) → Tree
  behind_tracked epoch room u f = said_tree n room epoch f

  abbrev pub behind_room : (epoch : ℕ) → Room → (Exporting → Tree) → Tree
  behind_room epoch room f = tracked_in_tree o n.tdcs n.entry.page (said_tree n room epoch f)

  abbrev pub behind_epoch : (epoch : ℕ) → (Exporting → Tree) → Tree
  behind_epoch epoch f = held_room_tree pages n.tdcs k (λ room. tracked_in_tree o n.tdcs n.entry.page (said_tree n room epoch f))

-- the page of a stream
module _ (pages tdcs k : ℕ) where
  abbrev pub paging : (ℕ → Tree) → Tree
  paging f = stream_page_tree pages tdcs k f

  abbrev pub behind_stream_page : ℕ → (Room → Tree) → Tree
  behind_stream_page page f = Lock (OfPage page) (place.Lock page) Exclusive (counter_tree page f)

-- behind a lock that is granted
pub goes-held : {A : Type 0} (n : ℕ) (l : LockId) (q : WordPlace) (mode : Mode) (part : (A → Tree) → Tree) (word : ℕ) (before after : List ℕ) (r : Result A Stop)
    → Goes n part before after r → Goes n (λ f. Lock l q mode (part f)) (word ∷ before) after r
goes-held n l q mode part word before after (Ok x) g = λ f v d. g f v d
goes-held n l q mode part word before after (Err e) g = λ f. g f

pub feeds-held : {A : Type 0} (l : LockId) (q : WordPlace) (mode : Mode) (part : (A → Tree) → Tree) (word : ℕ) (before after : List ℕ) (r : Result A Stop)
    → Feeds part before after r → Feeds (λ f. Lock l q mode (part f)) (word ∷ before) after r
feeds-held l q mode part word before after (Ok x) g = λ f. g f
feeds-held l q mode part word before after (Err e) g = tt

-- what else a bundle says, behind the session
module _ (n : Named) (room : Room) (epoch : ℕ) where
  abbrev pub counting : (session : ℕ) → (Exporting → Tree) → Tree
  counting s f = Load Whole (place.Word room.page (counted_at n.entry.state)) (λ c. f (record { at = n.page; page = n.entry.page; state = n.entry.state; room = room; session = s; epoch = epoch; count = c }))
