-- What the exports of states end with, as decisions over the words that they are told: the words of a payload, one after
-- another, and the bundle.
use Rattle.std.specs.Prelude.{◌≡◌, ℕ, List, [], ◌∷◌, Result, Ok, Err}
use Rattle.td_words.specs.declared.replies.Value.TheVariants as value
use Rattle.td_words.specs.declared.replies.Reply.TheVariants.{Done}
use Rattle.td_words.specs.Place.{WordPlace}
use Rattle.flat_core.specs.World.{ClearHeader, Made}
use Rattle.leaf_engine.specs.declared.plans.Stop.{Stop}
use Rattle.leaf_engine.specs.Changes.{Change}
use Rattle.leaf_engine.specs.Decides.{Decides}
use Rattle.leaf_engine.specs.Trees.{Answer, Tree, End, only, feed, changes_of}
use Rattle.access_core.specs.RtmrTrees.{with_words}
use Rattle.export_states.specs.declared.states.Stated.{Stated}
use Rattle.export_states.specs.declared.states.Exported.{Exported}

-- the header of its bundle, of stream 0
abbrev pub state_header : (kind : ℕ) → Stated → ClearHeader
state_header kind x = record {
  size = 64;
  version = 1;
  stream = 0;
  kind = kind;
  reserved = 0;
  counter = x.room.counter;
  epoch = x.epoch;
  iv = x.room.counter;
  session = x.session;
  index = x.index;
  info = x.info;
  gpa = 0;
  total = 0;
}

abbrev pub state_bundle : (slot kind : ℕ) → Stated → List ℕ → Made
state_bundle slot kind x payload = record { slot = slot; header = state_header kind x; payload = payload }

-- the answer makes the bundle
abbrev pub state_answer : (slot kind : ℕ) → Stated → List ℕ → Answer
state_answer slot kind x payload = record (only (Done value.Nothing)) { bundles = state_bundle slot kind x payload ∷ [] }

abbrev pub state_end : (slot kind : ℕ) → (Stated → List Change) → Stated → List ℕ → Tree
state_end slot kind changes x payload = End (state_answer slot kind x payload) [] (changes x)

-- once all conditions are told the payload's words are, which stand at these places
abbrev pub payload_tree : (slot kind : ℕ) → (Stated → List Change) → (Stated → ℕ → WordPlace) → (count : ℕ) → Stated → Tree
payload_tree slot kind changes at count x = with_words (at x) 0 count (state_end slot kind changes x)

-- what such a tree comes to after these answers
abbrev pub ComesTo : (pages : ℕ) → Tree → (Stated → List ℕ → Tree) → (told : List ℕ) → Result Exported Stop → Type 0
ComesTo n tree ends told (Ok x) = (feed tree told ≡ ends x.stated x.payload.now) × Decides n tree told (Ok (record { reply = Done value.Nothing; changes = changes_of (feed tree told) }))
ComesTo n tree ends told (Err e) = Decides n tree told (Err e)
