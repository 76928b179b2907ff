-- What comes behind each part of a token's tree.
use Rattle.std.proofs.Common.{ℕ, ◌+◌, ◌-◌, ◌^◌, nat_lt}
use Rattle.td_words.specs.declared.names.Counter.TheVariants.{MigEpoch}
use Rattle.td_words.specs.declared.refusals.Status.TheVariants.{CounterLimit}
use Rattle.arrayvec.specs.ArrayVec.{ArrayVec}
use Rattle.leaf_engine.specs.Trees.{Tree, needs}
use Rattle.stream_parts.specs.declared.rooms.Room.{Room}
use Rattle.stream_parts.specs.Streams.{pages_tree}
use Rattle.stream_parts.specs.Rooms.{room_tree, session_tree}
use Rattle.export_tokens.specs.declared.tokens.Streams.{Streams}
use Rattle.export_tokens.specs.declared.tokens.TokenWords.{TokenWords}
use Rattle.export_tokens.specs.TokenTrees.{next_epoch_tree, none_missing_tree, none_dirty_tree, total_tree}

abbrev pub paged : (tdcs : ℕ) → Room → (Streams → Tree) → ArrayVec ℕ → Tree
paged d room f pages = f (record { tdcs = d; room = room; pages = pages })

abbrev pub roomed : (n tdcs : ℕ) → (Streams → Tree) → Room → Tree
roomed n d f room = pages_tree n d (paged d room f)

abbrev pub headed : (n : ℕ) → (Streams → Tree) → (tdcs : ℕ) → Tree
headed n f d = room_tree n d 0 (roomed n d f)

abbrev pub tested : (ℕ → Tree) → ℕ → Tree
tested f epoch = needs (nat_lt epoch (2 ^ 32 - 2)) (CounterLimit MigEpoch) (f (epoch + 1))

abbrev pub told : Streams → (epoch : ℕ) → (TokenWords → Tree) → (total session : ℕ) → Tree
told s epoch f total session = f (record { tdcs = s.tdcs; room = s.room; epoch = epoch; session = session; total = total })

abbrev pub summed : Streams → (epoch : ℕ) → (TokenWords → Tree) → (total : ℕ) → Tree
summed s epoch f total = session_tree s.tdcs (told s epoch f total)

abbrev pub epoch_next : Streams → (TokenWords → Tree) → Tree
epoch_next s f = next_epoch_tree s.tdcs (λ epoch. total_tree s epoch f)

abbrev pub total_next : Streams → Unit {0} → (TokenWords → Tree) → Tree
total_next s u f = total_tree s (2 ^ 32 - 1) f

abbrev pub dirty_next : Streams → Unit {0} → (TokenWords → Tree) → Tree
dirty_next s u f = none_dirty_tree s.tdcs s.pages.items (total_next s tt f)

abbrev pub start_next : Streams → (TokenWords → Tree) → Tree
start_next s f = none_missing_tree s.tdcs (dirty_next s tt f)
