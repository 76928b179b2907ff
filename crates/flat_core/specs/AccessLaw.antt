-- The laws of guests' accesses to private pages and of cached translations, for every opening and every schedule.
use Rattle.std.specs.Prelude.{◌≡◌, ℕ, ◌+◌, ◌≤◌, List, [], ◌∷◌, ◌++◌, length, Contains, Option, Some, option_map, Bool, true, false, not, ◌&&◌}
use Rattle.std.specs.List.{list_all}
use Rattle.td_words.specs.declared.names.Access.{Access}
use Rattle.td_words.specs.declared.names.Access.TheVariants.{Read, Write}
use Rattle.td_words.specs.declared.names.PageKind.TheVariants as kind
use Rattle.flat_core.specs.World.{World}
use Rattle.flat_core.specs.Processor.{Translation, Guest, LoadNote}
use Rattle.flat_core.specs.Opening.{Opening}
use Rattle.flat_core.specs.Tree.{page_of_gpa, word_of_gpa}
use Rattle.flat_core.specs.Translations.{is_of_page, look_up, cache}
use Rattle.flat_core.specs.Lawful.{IsPageOf}
use Rattle.flat_core.specs.Event.{State, Reaches, next_event, event}
use Rattle.flat_core.specs.Laws.{reached, IsKept, HoldsInRuns, ArePagesKnown}
use Rattle.flat_core.specs.Inside.{AreTimely}
use Rattle.flat_core.specs.Access.{Names, AccessHolds}

-- No stale translation is used; and where each processor stands, which tells the guest that it runs.
pub record IsGuarded (o : Opening) (s : State) : Type 0 where
  pub timely : AreTimely o s
  pub access : AccessHolds s

abbrev pub AccessIsKept : Type 0
AccessIsKept = IsKept IsGuarded

abbrev pub AccessAlwaysHolds : Type 0
AccessAlwaysHolds = HoldsInRuns (λ o s. AccessHolds s)

-- a private page of a TD, which the TD's map names at that GPA page
pub record IsOwnPage (w : World) (t gpa_page page : ℕ) : Type 0 where
  pub private : IsPageOf w.pages t page kind.Reg
  pub named : Names (w.tds.entries t 0 gpa_page) page

-- In a reader's terms: where a translation is cached that allows a guest an access, it names a private page of the guest's
-- own TD, which the TD's map names at that GPA page.
abbrev pub GuestsReachTheirOwn : Type 0
GuestsReachTheirOwn = (o : Opening) (words_to_tell : Option (List ℕ)) (schedule : List ℕ) (p gpa_page page : ℕ) (access : Access) (g : Guest)
    → let s = reached o words_to_tell schedule in
    (s.lps p).guest ≡ Some g → look_up (s.lps p).cached g.tdr gpa_page access ≡ Some page → IsOwnPage s.world g.tdr gpa_page page

-- What guests know of their private pages is what the pages hold, where no stale translation is used: a store through one
-- would change another's page.
abbrev pub MemoriesAreKept : Type 0
MemoriesAreKept = IsKept (λ o s. IsGuarded o s × ArePagesKnown s.world)

-- the word at a GPA of what a TD's guest knows of its private pages, from the events of all its virtual processors and of calls
abbrev pub known_word : World → (t gpa : ℕ) → Option ℕ
known_word w t gpa = option_map (λ words. words (word_of_gpa gpa)) (w.hidden.memories t (page_of_gpa gpa))

-- A load of processor p's guest puts this word into the register and notes it.
pub record Loads (o : Opening) (s : State) (p v r gpa word : ℕ) : Type 0 where
  pub register : (event o s p).world.hidden.registers v r ≡ word
  pub note : ((event o s p).lps p).notes ≡ (s.lps p).notes ++ LoadNote (length (s.lps p).replies + 1) gpa word ∷ []

-- A store puts the register's word into that page, and from then on it is what the guest knows there. It notes nothing.
pub record Stores (o : Opening) (s : State) (p t v r gpa page : ℕ) : Type 0 where
  pub word : (event o s p).world.words page (word_of_gpa gpa) ≡ s.world.hidden.registers v r
  pub known : known_word (event o s p).world t gpa ≡ Some (s.world.hidden.registers v r)
  pub note : ((event o s p).lps p).notes ≡ (s.lps p).notes

-- In a reader's terms: an access to a word through a translation is one to the guest's own page; a load gives the word that
-- its TD's guest knows, which stores of the TD's other virtual processors change too, and the host's don't; and a store leaves
-- it the register's.
pub record IsOwnAccess (o : Opening) (s : State) (p t v : ℕ) (access : Access) (r gpa page : ℕ) : Type 0 where
  pub page_is : IsOwnPage s.world t (page_of_gpa gpa) page
  pub load : access ≡ Read → (word : ℕ) × (known_word s.world t gpa ≡ Some word) × Loads o s p v r gpa word
  pub store : access ≡ Write → Stores o s p t v r gpa page

abbrev pub AccessesAreOwn : Type 0
AccessesAreOwn = (o : Opening) (words_to_tell : Option (List ℕ)) (schedule : List ℕ) (p t v : ℕ) (access : Access) (r gpa page : ℕ)
    → let s = reached o words_to_tell schedule in
    next_event o s p ≡ Some (Reaches t v access r gpa page) → IsOwnAccess o s p t v access r gpa page

-- What a logical processor has cached is at most 16 translations, no two of one GPA page of a TD.
abbrev pub are_apart : List Translation → Bool
are_apart [] = true
are_apart (c ∷ cs) = list_all (λ x. not (is_of_page x.tdr x.gpa_page c)) cs && are_apart cs

pub record IsCache (cached : List Translation) : Type 0 where
  pub few : length cached ≤ 16
  pub apart : are_apart cached ≡ true

abbrev pub CachesAreKept : Type 0
CachesAreKept = IsKept (λ o s. (p : ℕ) → IsCache (s.lps p).cached)

abbrev pub CachesAreSmall : Type 0
CachesAreSmall = HoldsInRuns (λ o s. (p : ℕ) → IsCache (s.lps p).cached)

-- Caching one more drops none of another GPA page while there is room.
abbrev pub RoomIsUsed : Type 0
RoomIsUsed = (c x : Translation) (cs : List Translation) → length cs ≤ 15 → Contains cs x → is_of_page c.tdr c.gpa_page x ≡ false → Contains (cache c cs) x
