-- The act of a list that comes in, in the order of the stores: the words of all pages, then what maps those that are taken, one
-- after another. Each page leaves what the others need.
use Rattle.std.proofs.Common.{◌≡◌, ℕ, ◌+◌, ◌^◌, ◌<◌, true, false, ◌==◌, List, [], ◌∷◌, map, Some, refl, ap, sym, ◌∙◌, subst, arith}
use Rattle.std.specs.List.{list_any}
use Rattle.std.proofs.lemmas.Bool.{eq-eqb, ne_eqb}
use Rattle.td_words.specs.declared.names.EntryState.{EntryState}
use Rattle.td_words.specs.declared.names.EntryState.TheVariants as entry
use Rattle.td_words.specs.declared.names.PageKind.TheVariants as kind
use Rattle.td_words.specs.declared.machines.Machine.{Machine}
use Rattle.td_words.specs.declared.places.TheConstants.{TDR_CHILDREN}
use Rattle.td_words.specs.Packing.{Entry, entry_word, pamt_word}
use Rattle.td_words.specs.Place as place
use Rattle.flat_core.specs.World.{World, Pages, put}
use Rattle.flat_core.specs.Conditions.{is_host, children}
use Rattle.flat_core.specs.Effects.{set_page, set_entry, take_node, map_page, begin_memory}
use Rattle.flat_core.specs.Event.{State}
use Rattle.flat_core.specs.ImportRows.{importable, filled_page, page_filled, fill_page, take_in, take_each}
use Rattle.flat_core.specs.Lawful.{Lawful, IsAlive, is_free}
use Rattle.flat_core.specs.PageLists.{Arrival}
use Rattle.flat_core.specs.Tree.{page_of_gpa, entry_at, number_at, same_state}
use Rattle.flat_core.proofs.ImportKeeps.{IsInRange, MayFill, fills_on}
use Rattle.flat_core.proofs.Maps.{node_named}
use Rattle.flat_core.proofs.PageLists.{AreAbove, AreApart, MayTake, AllMayTake, EachIs, each_taken, still_take, locked_first}
use Rattle.flat_core.proofs.Tests.{host_kind, same_self}
use Rattle.sept_walk.specs.SecureEpt.{index_at}
use Rattle.word_rules.specs.Cells.{Shows, IsAs, page_cell, lock_word}
use Rattle.leaf_engine.specs.Changes.{Change, Memory, Put, changed, changed_all}
use Rattle.leaf_engine.proofs.Showing.{changed-append}
use Rattle.leaf_parts.specs.Words.{raised}
use Rattle.leaf_parts.proofs.Aside.{turned, untold}
use Rattle.leaf_parts.proofs.Begun.{TwoControls, two-controls}
use Rattle.leaf_parts.proofs.HostPages.{tdr-apart}
use Rattle.leaf_parts.proofs.Owned.{owned-taken}
use Rattle.sept_parts.proofs.Filled.{words-lawful}
use Rattle.sept_parts.proofs.Nodes.{node-taken}
use Rattle.sept_parts.proofs.SeptPut.{entry-put}
use Rattle.import_pages.specs.PageImportTrees.{word_puts, all_words, mapped_changes, taken_after, taken_changes}
use Rattle.import_pages.specs.PageImportLoop.{filling_of, fillings, AreOffered, IsTable, AreTables, entry-of}
use Rattle.import_pages.specs.PageImportShows.{words-stored}

-- the world in which each page has its words, whether it is the host's still or is mapped
abbrev pub put_words : World → (t : ℕ) → List Arrival → (ℕ → ℕ → ℕ) → ℕ → ℕ → ℕ
put_words w t [] ws = ws
put_words w t (a ∷ pages) ws = put_words w t pages (put ws (page_filled w t a) a.words)

abbrev pub with_words : World → (t : ℕ) → List Arrival → World → World
with_words w t pages v = record v { words = put_words w t pages v.words }

-- a page of another kind than the host's stays what it is
pub record Stays (w v : World) (q : ℕ) : Type 0 where
  pub kind_is : v.pages.kinds q ≡ w.pages.kinds q
  pub owner_is : v.pages.owners q ≡ w.pages.owners q
  pub level_is : v.pages.levels q ≡ w.pages.levels q
  pub number_is : v.pages.numbers q ≡ w.pages.numbers q

fill-stays : (w : World) (t : ℕ) (a : Arrival) (q : ℕ) (s : EntryState) → is_host w q ≡ false → (s ≡ entry.Free → is_host w a.page ≡ true) → Stays w (fill_page t a.gpa a.page a.words s w) q
fill-stays w t a q entry.Free other host =
    let apart : (q == a.page) ≡ false = ne_eqb q a.page (λ e. (let no : true ≡ false = sym (host refl) ∙ (sym (ap (λ (p : ℕ). is_host w p) e) ∙ other) in cc)) in
    record { kind_is = rw apart refl; owner_is = rw apart refl; level_is = rw apart refl; number_is = rw apart refl }
fill-stays w t a q _ other host = record { kind_is = refl; owner_is = refl; level_is = refl; number_is = refl }

pub take-stays : (w : World) (t : ℕ) (locked : List ℕ) (a : Arrival) (q : ℕ) → is_host w q ≡ false → MayTake w t locked a → Stays w (take_in t a w) q
take-stays w t locked a q other may =
    let f = fill-stays w t a q (entry_at w t 0 a.gpa).state other may.host in
    record { kind_is = f.kind_is; owner_is = f.owner_is; level_is = f.level_is; number_is = f.number_is }

stays-on : (w v u : World) (q : ℕ) → Stays w v q → Stays v u q → Stays w u q
stays-on w v u q a b = record { kind_is = b.kind_is ∙ a.kind_is; owner_is = b.owner_is ∙ a.owner_is; level_is = b.level_is ∙ a.level_is; number_is = b.number_is ∙ a.number_is }

each-any : (pages : List Arrival) → EachIs (λ a. Unit {0}) pages
each-any [] = tt
each-any (a ∷ pages) = (tt, each-any pages)

pub pages-stay : (w : World) (t q : ℕ) (pages : List Arrival) (locked : List ℕ) → AreApart (map (λ a. a.gpa) pages) → AllMayTake w t locked pages → is_host w q ≡ false → Stays w (take_each t pages w) q
pages-stay w t q pages locked apart may other =
    each_taken t (λ a. Unit {0}) (λ v. Stays w v q)
    (λ v ls a h can any. stays-on w v (take_in t a v) q h (take-stays v t ls a q (rw h.kind_is other) can))
    pages w locked apart may (each-any pages) (record { kind_is = refl; owner_is = refl; level_is = refl; number_is = refl })

-- so the secure EPT pages in which the entries stand
pub table-stays : (m : Machine) (w v : World) (t gpa at : ℕ) → (is_host w at ≡ false → Stays w v at) → IsTable m w t gpa at → IsTable m v t gpa at
table-stays m w v t gpa at stays is =
    let s : Stays w v at = stays (rw is.node.page.kind refl) in
    record {
      in_machine = is.in_machine;
      node = record { page = record { kind = s.kind_is ∙ is.node.page.kind; owner = s.owner_is ∙ is.node.page.owner }; level_is = s.level_is ∙ is.node.level_is; number_is = s.number_is ∙ is.node.number_is };
    }

pub tables-stay : (m : Machine) (w v : World) (t : ℕ) (pages : List Arrival) (ats : List ℕ) → ((q : ℕ) → is_host w q ≡ false → Stays w v q) → AreTables m w t pages ats → AreTables m v t pages ats
tables-stay m w v t [] [] stays are = tt
tables-stay m w v t (a ∷ pages) (at ∷ ats) stays are = (table-stays m w v t a.gpa at (stays at) are.0, tables-stay m w v t pages ats stays are.1)
tables-stay m w v t [] (at ∷ ats) stays are = absurd are
tables-stay m w v t (a ∷ pages) [] stays are = absurd are

-- and the entries of the pages behind one, and what is told of them
abbrev pub AreSame : World → (t : ℕ) → World → List Arrival → Type 0
AreSame w t v [] = Unit {0}
AreSame w t v (a ∷ pages) = (entry_at v t 0 a.gpa ≡ entry_at w t 0 a.gpa) × AreSame w t v pages

beside : (v : World) (t gpa page : ℕ) (ws : ℕ → ℕ) (s : EntryState) (n : ℕ) → (n == number_at 0 gpa) ≡ false → (fill_page t gpa page ws s v).tds.entries t 0 n ≡ v.tds.entries t 0 n
beside v t gpa page ws entry.Free n apart = rw (same_self t, apart) refl
beside v t gpa page ws _ n apart = refl

pub take-same : (v : World) (t : ℕ) (a : Arrival) (pages : List Arrival) → AreAbove (number_at 0 a.gpa) (map (λ x. x.gpa) pages) → AreSame v t (take_in t a v) pages
take-same v t a [] above = tt
take-same v t a (b ∷ pages) above =
    let apart : (number_at 0 b.gpa == number_at 0 a.gpa) ≡ false = ne_eqb (number_at 0 b.gpa) (number_at 0 a.gpa) (λ e. (let less = above.0 in omega (arith, less, e))) in
    (beside v t a.gpa a.page a.words (entry_at v t 0 a.gpa).state (number_at 0 b.gpa) apart, take-same v t a pages above.1)

pub same-fillings : (n : ℕ) (w v : World) (t : ℕ) (pages : List Arrival) (ats : List ℕ) → AreSame w t v pages → fillings n v t pages ats ≡ fillings n w t pages ats
same-fillings n w v t [] ats same = refl
same-fillings n w v t (a ∷ pages) [] same = refl
same-fillings n w v t (a ∷ pages) (at ∷ ats) same = rw same.0 (ap (λ fs. filling_of n at a.page (entry_at w t 0 a.gpa).state (entry_at w t 0 a.gpa).page ∷ fs) (same-fillings n w v t pages ats same.1))

same-words : (w v : World) (t : ℕ) (pages : List Arrival) (ws : ℕ → ℕ → ℕ) → AreSame w t v pages → put_words v t pages ws ≡ put_words w t pages ws
same-words w v t [] ws same = refl
same-words w v t (a ∷ pages) ws same = rw same.0 (same-words w v t pages (put ws (page_filled w t a) a.words) same.1)

-- the words of all pages show them
module _ (m : Machine) (s : State) (t n : ℕ) (la : Lawful m s.world) (alive : IsAlive s.world.pages s.world.tds t) where
  abbrev w : World
  w = s.world

  one-shown : (a : Arrival) (at : ℕ) (v : World) (mem : Memory) → v.pages ≡ s.world.pages → Shows m mem.words mem.slots (record s { world = v })
      → (e : EntryState) → (entry_at s.world t 0 a.gpa).state ≡ e → list_any (λ b. same_state b e) importable ≡ true → (e ≡ entry.Free → is_host s.world a.page ≡ true)
      → let after = changed_all (word_puts (filling_of n at a.page e (entry_at s.world t 0 a.gpa).page).page a.words 0 512) mem in
      Shows m after.words after.slots (record s { world = set_page (filled_page a.page e (entry_at s.world t 0 a.gpa).page) a.words v })
  one-shown a at v mem same sh entry.Free is state host =
      let nda : v.pages.kinds a.page ≡ kind.Nda = ap (λ (ps : Pages). ps.kinds a.page) same ∙ host_kind (w.pages.kinds a.page) (host refl) in
      words-stored a.page a.words m (record s { world = v }) mem sh (λ i. rw (nda, eq-eqb a.page a.page refl) refl)
  one-shown a at v mem same sh entry.Mapped is state host =
      let p : ℕ = (entry_at s.world t 0 a.gpa).page in
      let node = node_named m w la t 0 (number_at 0 a.gpa) alive (ap is_free is) in
      let private : v.pages.kinds p ≡ kind.Reg = ap (λ (ps : Pages). ps.kinds p) same ∙ node.page.kind in
      words-stored p a.words m (record s { world = v }) mem sh (λ i. rw (private, eq-eqb p p refl) refl)
  one-shown a at v mem same sh _ is state host = cc

  pub words-shown : (pages : List Arrival) (ats locked : List ℕ) (v : World) (mem : Memory) → AreTables m s.world t pages ats → AllMayTake s.world t locked pages → v.pages ≡ s.world.pages → Shows m mem.words mem.slots (record s { world = v })
      → let after = changed_all (all_words pages (fillings n s.world t pages ats)) mem in Shows m after.words after.slots (record s { world = with_words s.world t pages v })
  words-shown [] [] locked v mem are may same sh = sh
  words-shown (a ∷ pages) (at ∷ ats) locked v mem are may same sh =
      let e : Entry = entry_at s.world t 0 a.gpa in
      let here : List Change = word_puts (filling_of n at a.page e.state e.page).page a.words 0 512 in
      let rest : List Change = all_words pages (fillings n s.world t pages ats) in
      subst (λ (x : Memory). Shows m x.words x.slots (record s { world = with_words s.world t (a ∷ pages) v })) (sym (changed-append here rest mem))
      (words-shown pages ats (page_filled s.world t a ∷ locked) (set_page (page_filled s.world t a) a.words v) (changed_all here mem) are.1 may.1 same
      (one-shown a at v mem same sh e.state refl may.0.state may.0.host))
  words-shown [] (at ∷ ats) locked v mem are may same sh = absurd are
  words-shown (a ∷ pages) [] locked v mem are may same sh = absurd are

-- One page that is taken, in a world in which its words stand already: its entry, its PAMT word and the child count are stored,
-- and what is shown is the world in which the entry maps it.
module _ (m : Machine) (s : State) (mem : Memory) (t gpa p at : ℕ) (sh : Shows m mem.words mem.slots s) (la : Lawful m s.world) (alive : IsAlive s.world.pages s.world.tds t) (x : TwoControls m s.world t)
    (small : gpa < 2 ^ 47) (is : IsTable m s.world t gpa at) (host : is_host s.world p ≡ true) (in_page : p < m.pages) where
  abbrev its-entry : Entry
  its-entry = record { state = entry.Mapped; page = p; mark = 0 }

  -- its changes, as in `map_changes`
  abbrev pub step : List Change
  step = Put (place.Word at (index_at 0 gpa)) (entry_word its-entry) ∷ Put (place.Pamt p) (pamt_word (record { kind = kind.Reg; owner = t; epoch = 0 })) ∷ Put (place.Word t TDR_CHILDREN) (raised m.pages (children s.world t)) ∷ []

  abbrev named : World
  named = set_entry t 0 (number_at 0 gpa) its-entry s.world

  abbrev entry-memory : Memory
  entry-memory = changed (Put (place.Word at (index_at 0 gpa)) (entry_word its-entry)) mem

  nda : s.world.pages.kinds p ≡ kind.Nda
  nda = host_kind (s.world.pages.kinds p) host

  -- the entry stands in another page
  off-table : (p == at) ≡ false
  off-table = ne_eqb p at (λ e. (let no : kind.Nda ≡ kind.Ept = sym nda ∙ (ap s.world.pages.kinds e ∙ is.node.page.kind) in cc))

  -- the words that the page has are those that stand there
  host-word : (i : ℕ) → i < 512 → IsAs (page_cell s.world (lock_word s.lps s.lp_count) (s.world.pages.owners p) p kind.Nda i) (mem.words (place.Word p i))
  host-word i b = rw nda at (sh.word (place.Word p i) (in_page, b))

  page-word : (i : ℕ) → i < 512 → IsAs (page_cell (take_node p kind.Reg t 0 (number_at 0 gpa) named) (lock_word s.lps s.lp_count) t p kind.Reg i) (entry-memory.words (place.Word p i))
  page-word i b = rw off-table (host-word i b)

  pub step-shown : let after = changed_all step mem in Shows m after.words after.slots (record s { world = map_page p kind.Reg entry.Mapped t 0 (number_at 0 gpa) s.world })
  step-shown =
      let there = entry-put m mem s t sh la alive x gpa at 0 small (entry-of m s.world t x.root gpa at is) its-entry in
      record {
        word = node-taken m entry-memory.words (record s { world = named }) t p 0 (number_at 0 gpa) kind.Reg there.word la.size la.pages alive.kind host refl in_page page-word;
        hasher = there.hasher;
      }

-- All of them: of the pages that are taken, one after another, in worlds in which the words of all that are still to come stand
-- already. The child count was n at first.
module _ (m : Machine) (s : State) (t n : ℕ) where
  abbrev ShownIn : World → Memory → Type 0
  ShownIn v mem = Shows m mem.words mem.slots (record s { world = v })

  abbrev begun_in : (a : Arrival) → EntryState → World → World
  begun_in a st v = begin_memory t (page_of_gpa a.gpa) a.words (fill_page t a.gpa a.page a.words st v)

  -- no word tells what guests know
  known : (v : World) (mem : Memory) (a : Arrival) → ShownIn v mem → ShownIn (begin_memory t (page_of_gpa a.gpa) a.words v) mem
  known v mem a sh = record {
    word = untold m mem.words (record s { world = v }) v.tds.measured (begin_memory t (page_of_gpa a.gpa) a.words v).hidden.memories sh.word;
    hasher = sh.hasher;
  }

  one-stored : (v : World) (mem : Memory) (a : Arrival) (at before : ℕ) (pages : List Arrival) → MayFill m t v → a.gpa < 2 ^ 47 → a.page < m.pages → IsTable m v t a.gpa at → n + before ≡ children v t
      → (st : EntryState) → (st ≡ entry.Free → is_host v a.page ≡ true)
      → ShownIn (record v { words = put_words v t pages (put v.words (filled_page a.page st (entry_at v t 0 a.gpa).page) a.words) }) mem
      → let f = filling_of n at a.page st (entry_at v t 0 a.gpa).page in ShownIn (with_words v t pages (begun_in a st v)) (changed_all (mapped_changes m.pages t a.gpa f.at f.page before f.children) mem)
  one-stored v mem a at before pages may small inside is count entry.Free host sh =
      let u : World = record v { words = put_words v t pages (put v.words a.page a.words) } in
      let la : Lawful m u = words-lawful m v u.words may.lawful in
      let alive : IsAlive u.pages u.tds t = record { kind = may.alive.kind; life = may.alive.life } in
      let there : IsTable m u t a.gpa at = record { in_machine = is.in_machine; node = is.node } in
      let after : ℕ → Memory = λ c. changed_all (mapped_changes m.pages t a.gpa at a.page before (Some n)) mem in
      let stored = step-shown m (record s { world = u }) mem t a.gpa a.page at sh la alive (two-controls m u t la alive may.built) small there (host refl) inside in
      subst (λ (c : ℕ). ShownIn (with_words v t pages (begun_in a entry.Free v))
      (changed_all (Put (place.Word at (index_at 0 a.gpa)) (entry_word (record { state = entry.Mapped; page = a.page; mark = 0 })) ∷ Put (place.Pamt a.page) (pamt_word (record { kind = kind.Reg; owner = t; epoch = 0 }))
      ∷ Put (place.Word t TDR_CHILDREN) (raised m.pages c) ∷ []) mem)) (sym count)
      (known (map_page a.page kind.Reg entry.Mapped t 0 (number_at 0 a.gpa) u) (changed_all (step m (record s { world = u }) mem t a.gpa a.page at sh la alive (two-controls m u t la alive may.built) small there (host refl) inside) mem) a stored)
  one-stored v mem a at before pages may small inside is count _ host sh =
      known (record v { words = put_words v t pages (put v.words (entry_at v t 0 a.gpa).page a.words) }) mem a sh

  -- the child count goes on
  one-counted : (v : World) (a : Arrival) (at before : ℕ) → MayFill m t v → a.page < m.pages → n + before ≡ children v t → (st : EntryState) → (st ≡ entry.Free → is_host v a.page ≡ true)
      → n + taken_after before (filling_of n at a.page st (entry_at v t 0 a.gpa).page).children ≡ children (begun_in a st v) t
  one-counted v a at before may inside count entry.Free host =
      let p : ℕ = a.page in
      let taken : World = map_page p kind.Reg entry.Mapped t 0 (number_at 0 a.gpa) v in
      let small : p < v.size = subst (λ (k : ℕ). p < k) (sym may.lawful.size) inside in
      let apart : (p == t) ≡ false = turned t p (tdr-apart v t p may.alive.kind (host refl)) in
      let more : children taken t ≡ children v t + 1 =
      owned-taken v.pages taken.pages p (λ q d. rw d refl) (λ q d. rw d refl) t v.size small (host refl) apart (rw (eq-eqb p p refl) refl) (rw (eq-eqb p p refl) refl) in
      omega (arith, count, more)
  one-counted v a at before may inside count _ host = count

  pub pages-stored : (pages : List Arrival) (ats locked : List ℕ) (v : World) (mem : Memory) (before : ℕ) → MayFill m t v → AreApart (map (λ a. a.gpa) pages) → AllMayTake v t locked pages → EachIs (IsInRange m) pages → AreOffered m pages
      → AreTables m v t pages ats → n + before ≡ children v t → ShownIn (with_words v t pages v) mem
      → ShownIn (take_each t pages v) (changed_all (taken_changes m.pages t before pages (fillings n v t pages ats)) mem)
  pages-stored [] [] locked v mem before may apart can fit low are count sh = sh
  pages-stored (a ∷ pages) (at ∷ ats) locked v mem before may apart can fit low are count sh =
      let e : Entry = entry_at v t 0 a.gpa in
      let u : World = take_in t a v in
      let f = filling_of n at a.page e.state e.page in
      let here : List Change = mapped_changes m.pages t a.gpa f.at f.page before f.children in
      let then_ : ℕ = taken_after before f.children in
      let stored : ShownIn (with_words v t pages u) (changed_all here mem) = one-stored v mem a at before pages may low.0 low.1 are.0 count e.state can.0.host sh in
      let same : AreSame v t u pages = take-same v t a pages apart.0 in
      let all : ShownIn (take_each t pages u) (changed_all (taken_changes m.pages t then_ pages (fillings n u t pages ats)) (changed_all here mem)) =
      pages-stored pages ats (page_filled v t a ∷ locked) u (changed_all here mem) then_ (fills_on m t v may locked a can.0 fit.0) apart.1
      (still_take v t a (page_filled v t a ∷ locked) pages (locked_first (page_filled v t a) locked) apart.0 can.1) fit.1 low.2
      (tables-stay m v u t pages ats (λ q other. take-stays v t locked a q other can.0) are.1) (one-counted v a at before may low.1 count e.state can.0.host)
      (subst (λ (ws : ℕ → ℕ → ℕ). ShownIn (record u { words = ws }) (changed_all here mem)) (sym (same-words v u t pages u.words same)) stored) in
      subst (λ (x : Memory). ShownIn (take_each t pages u) x) (sym (changed-append here (taken_changes m.pages t then_ pages (fillings n v t pages ats)) mem))
      (subst (λ fs. ShownIn (take_each t pages u) (changed_all (taken_changes m.pages t then_ pages fs) (changed_all here mem))) (same-fillings n v u t pages ats same) all)
  pages-stored [] (at ∷ ats) locked v mem before may apart can fit low are count sh = absurd are
  pages-stored (a ∷ pages) [] locked v mem before may apart can fit low are count sh = absurd are
