-- The stream that a bundle is made on, and the words of the bundle's header that TDCS has.
use Rattle.std.specs.Prelude.{ℕ, ◌-◌, ◌%◌, ◌^◌, nat_lt}
use Rattle.td_words.specs.declared.names.Counter.TheVariants.{Mb}
use Rattle.td_words.specs.declared.places.TheConstants.{TDCS_MIG_EPOCH, TDCS_SESSION, STREAM_COUNTER}
use Rattle.td_words.specs.declared.refusals.Status.TheVariants.{CounterLimit}
use Rattle.td_words.specs.Place as place
use Rattle.word_rules.specs.Rules.{Whole}
use Rattle.leaf_engine.specs.Trees.{Tree, Load, needs}
use Rattle.stream_parts.specs.declared.rooms.Room.{Room}
use Rattle.stream_parts.specs.Streams.{page_tree}

-- the stream of that page has room for another bundle
abbrev pub counter_tree : (page : ℕ) → (Room → Tree) → Tree
counter_tree page further =
    Load Whole (place.Word page STREAM_COUNTER) (λ counter.
    needs (nat_lt counter (2 ^ 32 - 1)) (CounterLimit Mb) (further (record { page = page; counter = counter })))

-- the one of that number has
abbrev pub room_tree : (pages tdcs stream : ℕ) → (Room → Tree) → Tree
room_tree pages tdcs stream further = page_tree pages tdcs stream (λ page. counter_tree page further)

-- the session, which has a number of 16 bits, and the migration epoch, which has one of 32. Any other number never stands where
-- they are told
abbrev pub session_tree : (tdcs : ℕ) → (ℕ → Tree) → Tree
session_tree tdcs further = Load Whole (place.Word tdcs TDCS_SESSION) (λ session. further (session % 2 ^ 16))

abbrev pub mig_epoch_tree : (tdcs : ℕ) → (ℕ → Tree) → Tree
mig_epoch_tree tdcs further = Load Whole (place.Word tdcs TDCS_MIG_EPOCH) (λ epoch. further (epoch % 2 ^ 32))
