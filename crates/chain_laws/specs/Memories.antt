-- Chain memory: what a TD's pages hold by the events of all modules that it was migrated through, and by these alone (TD Migration
-- Architecture, "Private Memory Migration").
use Rattle.std.specs.Prelude.{◌≡◌, ℕ, zero, suc, ◌<◌, List, [], ◌∷◌, Option, Some, None}
use Rattle.td_words.specs.declared.calls.Call.{Call}
use Rattle.td_words.specs.declared.calls.Call.TheVariants.{ImportCommit}
use Rattle.td_words.specs.declared.names.Access.TheVariants.{Read}
use Rattle.flat_core.specs.World.{World, Image, put}
use Rattle.flat_core.specs.Row.{Succeeds}
use Rattle.flat_core.specs.Tree.{page_of_gpa, word_of_gpa}
use Rattle.flat_core.specs.AccessLaw.{Loads}
use Rattle.flat_core.specs.Event.{Event, OfCall, Reaches, next_event, lines_left, world_after}
use Rattle.chain_laws.specs.Chains.{Chain, Running, state_of, world_of, opening_now, items_due, chain_event, first_modules, at_moment}

-- of one module: the pages by TDR page and GPA page, and by session the images that EXPORT.PAUSE noted
pub record ChainMemory : Type 0 where
  pub pages : ℕ → ℕ → Option (ℕ → ℕ)
  pub images : ℕ → Option Image

abbrev pub no_memory : ChainMemory
no_memory = record { pages = λ t g. None; images = λ n. None }

-- An event changes it as it changes what guests know by their own module's events. Of a world only that knowledge, and the images
-- that are noted of it, hang on it.
abbrev pub with_memory : ChainMemory → World → World
with_memory m w = record w { hidden = record (w.hidden) { memories = m.pages; paused = m.images } }

abbrev pub memory_in : World → ChainMemory
memory_in w = record { pages = w.hidden.memories; images = w.hidden.paused }

abbrev pub changed : Event → World → ChainMemory → ChainMemory
changed e w m = memory_in (world_after e (with_memory m w))

-- But with the act of IMPORT.COMMIT each page that was imported gets instead what the earlier TD had there at its pause, by the images
-- of the module before.
abbrev pub commit_of : List Call → Option ℕ
commit_of (ImportCommit t ∷ cs) = Some t
commit_of _ = None

abbrev pub committed : List Call → Event → Option ℕ
committed cs (OfCall row Succeeds) = commit_of cs
committed cs _ = None

abbrev pub image_page : Option Image → (gpa_page : ℕ) → Option (ℕ → ℕ)
image_page None g = None
image_page (Some image) g = image.pages g

abbrev pub instead : (imported paused : Option (ℕ → ℕ)) → Option (ℕ → ℕ)
instead None page = None
instead (Some words) page = page

abbrev pub taken_over : Option ℕ → (images : ℕ → Option Image) → World → ChainMemory → ChainMemory
taken_over None images w m = m
taken_over (Some t) images w m = record m { pages = put m.pages t (λ g. instead (m.pages t g) (image_page (images (w.tds.sessions t)) g)) }

abbrev pub earlier_images : (ℕ → ChainMemory) → ℕ → ℕ → Option Image
earlier_images ms zero n = None
earlier_images ms (suc i) n = (ms i).images n

-- after a module's next event, where it has one
abbrev pub memory_after : List Call → Option Event → (images : ℕ → Option Image) → World → ChainMemory → ChainMemory
memory_after cs None images w m = m
memory_after cs (Some e) images w m = taken_over (committed cs e) images w (changed e w m)

abbrev pub after_turn : Chain → Running → (ℕ → ChainMemory) → ℕ → List ℕ → ChainMemory
after_turn c r ms i [] = ms i
after_turn c r ms i (p ∷ ps) =
    let o = opening_now c r.modules i in
    let s = state_of r i in
    memory_after (lines_left o p (s.lps p)) (next_event o s p) (earlier_images ms i) s.world (ms i)

abbrev pub memory_event : Chain → Running → (ℕ → ChainMemory) → ℕ → ℕ → ChainMemory
memory_event c r ms i = put ms i (after_turn c r ms i (items_due (opening_now c r.modules i) (state_of r i) (r.modules i).items))

abbrev pub memories_from : Chain → List ℕ → Running → (ℕ → ChainMemory) → ℕ → ChainMemory
memories_from c [] r ms = ms
memories_from c (i ∷ is) r ms = memories_from c is (chain_event c r i) (memory_event c r ms i)

abbrev pub chain_memories : Chain → List ℕ → ℕ → ChainMemory
chain_memories c turns = memories_from c turns (first_modules c) (λ i. no_memory)

-- the same 512 words, or none
abbrev pub SameWords : Option (ℕ → ℕ) → Option (ℕ → ℕ) → Type 0
SameWords None None = Unit {0}
SameWords (Some f) (Some g) = (k : ℕ) → k < 512 → f k ≡ g k
SameWords _ _ = ⊥

-- At every moment each TD's guest memory is its chain memory.
abbrev pub ChainMemoriesHold : Type 0
ChainMemoriesHold = (c : Chain) (turns : List ℕ) (i t g : ℕ)
    → SameWords ((world_of (at_moment c turns) i).hidden.memories t g) ((chain_memories c turns i).pages t g)

-- So a guest's load gives the word of chain memory.
abbrev pub LoadsAreOfTheChain : Type 0
LoadsAreOfTheChain = (c : Chain) (turns : List ℕ) (i p t v r gpa page : ℕ)
    → let q = at_moment c turns in let o = opening_now c q.modules i in let s = state_of q i in
    next_event o s p ≡ Some (Reaches t v Read r gpa page)
    → (words : ℕ → ℕ) × ((chain_memories c turns i).pages t (page_of_gpa gpa) ≡ Some words) × Loads o s p v r gpa (words (word_of_gpa gpa))
