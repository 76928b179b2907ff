-- The end of the leaf that imports pages: what its stores may be, and what they show.
use Rattle.std.proofs.Common.{◌≡◌, ℕ, zero, suc, ◌+◌, ◌^◌, ◌<◌, ◌≤◌, Bool, true, false, ◌==◌, ◌||◌, Option, Some, None, List, [], ◌∷◌, ◌++◌, map, refl, ap, sym, ◌∙◌, subst, inl, inr, arith}
use Rattle.std.specs.List.{list_any}
use Rattle.std.proofs.lemmas.Bool.{eq-eqb}
use Rattle.td_words.specs.declared.names.EntryState.{EntryState}
use Rattle.td_words.specs.declared.names.EntryState.TheVariants as entry
use Rattle.td_words.specs.declared.names.Mode.TheVariants.{Exclusive}
use Rattle.td_words.specs.declared.names.OpState.{OpState}
use Rattle.td_words.specs.declared.names.OpState.TheVariants as op
use Rattle.td_words.specs.declared.names.PageKind.TheVariants as kind
use Rattle.td_words.specs.declared.names.PageKind.{PageKind}
use Rattle.td_words.specs.declared.replies.Value.TheVariants as value
use Rattle.td_words.specs.declared.replies.Reply.TheVariants.{Done}
use Rattle.td_words.specs.declared.machines.Machine.{Machine}
use Rattle.td_words.specs.declared.places.TheConstants.{TDR_CHILDREN}
use Rattle.td_words.specs.NameNumber.{op_number}
use Rattle.td_words.specs.Packing.{Entry}
use Rattle.td_words.specs.Place as place
use Rattle.flat_core.specs.World.{World}
use Rattle.flat_core.specs.Processor.{LockId, OfPage, Held}
use Rattle.flat_core.specs.Row.{Row}
use Rattle.flat_core.specs.Conditions.{is_host, same_kind, children}
use Rattle.flat_core.specs.Effects.{take_node, map_page, begin_memory, set_page}
use Rattle.flat_core.specs.PageLists.{Arrival}
use Rattle.flat_core.specs.ImportRows.{filling_ops, importable, filled_page, page_filled, fill_page, take_in, take_each}
use Rattle.flat_core.specs.Lawful.{Lawful, IsAlive, IsPageOf, is_free}
use Rattle.flat_core.specs.Sessions.{stream_page, stream_counter, count_bundle}
use Rattle.flat_core.specs.Tree.{page_of_gpa, number_at, entry_at, same_state}
use Rattle.flat_core.proofs.ImportKeeps.{IsInRange}
use Rattle.flat_core.proofs.Maps.{node_named}
use Rattle.flat_core.proofs.PageLists.{AreApart, AllMayTake, EachIs, still_take, locked_first, TakenAs, takes_leave}
use Rattle.sept_walk.specs.SecureEpt.{index_at}
use Rattle.sept_walk.proofs.Meets.{split}
use Rattle.word_rules.specs.Guards.{Grip}
use Rattle.word_rules.specs.Rules.{GuestWord, StreamWord, KeepsNothing, writes, owes, fills}
use Rattle.word_rules.specs.Spots.{Spot, spot, runs_in}
use Rattle.word_rules.specs.Permissions.{MayAt, Fills, Writes, Owes, Respects}
use Rattle.word_rules.specs.Cells.{Shows}
use Rattle.word_rules.proofs.Conflicts.{respects-compose}
use Rattle.lock_words.specs.Grips.{holds_alone}
use Rattle.act_rules.proofs.Respected.{then-leaves, leaves-all, effects-respect}
use Rattle.leaf_engine.specs.Changes.{Memory, Change, Put, changed, changed_all}
use Rattle.leaf_engine.specs.Trees.{only}
use Rattle.leaf_engine.specs.Means.{Instant, Means, AnswersAs, MayFillAll, MayTakeAll, MayOweAll, MayChange, LocksStay, Work, work_of, OfCall, hold, grasp_of}
use Rattle.leaf_engine.proofs.Showing.{both-allowed, changed-append}
use Rattle.leaf_parts.proofs.Aside.{apart}
use Rattle.leaf_parts.proofs.Begun.{IsTd, TwoControls, page_lock, page-in, locks-kept}
use Rattle.leaf_parts.proofs.Checks.{spot_of, at-spot}
use Rattle.leaf_parts.proofs.HostPages.{host-fills}
use Rattle.sept_parts.proofs.SeptLocks.{entry-writes, count-owes}
use Rattle.sept_parts.proofs.SeptTold.{entry-spot}
use Rattle.stream_parts.specs.declared.rooms.Room.{Room}
use Rattle.stream_parts.proofs.StreamWords.{stream-spot}
use Rattle.import_pages.specs.declared.page_imports.Filling.{Filling}
use Rattle.import_pages.specs.PageImportTrees.{word_puts, all_words, is_taken, any_taken, mapped_changes, taken_after, taken_changes, counter_changes, changes_behind, end_where, page_import_end}
use Rattle.import_pages.specs.PageImportLoop.{HoldsMap, map-more, alone-more, with_fills, filling_of, fillings, AreOffered, IsTable, AreTables, entry-of}
use Rattle.import_pages.specs.PageImportShows.{counted-shown}
use Rattle.import_pages.specs.PageImportWorlds.{Stays, pages-stay, tables-stay, AreSame, take-same, words-shown, pages-stored}

-- in the operation states in which pages come in no guest runs
not-run : (o : OpState) → list_any (λ s. op_number s == op_number o) filling_ops ≡ true → runs_in o ≡ false
not-run op.MemoryImport h = refl
not-run op.StateImport h = refl
not-run _ h = cc

-- the words of a private page, while none does
private-spot : (v : World) (t p i : ℕ) → IsPageOf v.pages t p kind.Reg → runs_in (v.tds.ops t) ≡ false → spot v (place.Word p i) ≡ spot_of (GuestWord false) t p
private-spot v t p i its runs = rw (its.kind, its.owner, runs) refl

-- they copy nothing
puts-take : (h : Grip) (w : World) (p : ℕ) (ws : ℕ → ℕ) (from left : ℕ) → MayTakeAll h w (word_puts p ws from left)
unfolding word_puts
puts-take h w p ws from zero = tt
puts-take h w p ws from (suc left) = (tt, puts-take h w p ws (suc from) left)

-- the words of a page are stored, each: before the act, after it, and as the act with those after it
module _ (m : Machine) (g : Grip) (w w' : World) (p : ℕ) (ws : ℕ → ℕ) (in_page : p < m.pages) where
  pub puts-fill : ((i : ℕ) → Fills g w (place.Word p i)) → (from left : ℕ) → from + left ≤ 512 → MayFillAll m g w (word_puts p ws from left)
  unfolding word_puts
  puts-fill each from zero b = tt
  puts-fill each from (suc left) b = (((in_page, omega (arith, b)), each from), puts-fill each (suc from) left (omega (arith, b)))

  module _ (each : (i : ℕ) → Owes g w' (place.Word p i) KeepsNothing) (rest : List Change) (more : (mem : Memory) → MayOweAll m g w' mem rest) where
    pub puts-owe : (from left : ℕ) → from + left ≤ 512 → (mem : Memory) → MayOweAll m g w' mem (word_puts p ws from left ++ rest)
    unfolding word_puts
    puts-owe from zero b mem = more mem
    puts-owe from (suc left) b mem = (((in_page, omega (arith, b)), (KeepsNothing, each from, tt)), puts-owe (suc from) left (omega (arith, b)) (changed (Put (place.Word p from) (ws from)) mem))

    pub puts-change : Writes g w (place.Word p 0) KeepsNothing → (left : ℕ) → 1 ≤ left → left ≤ 512 → (mem : Memory) → MayChange m g w w' mem (word_puts p ws 0 left ++ rest)
    unfolding word_puts
    puts-change first zero a b mem = absurd (omega (arith, a))
    puts-change first (suc left) a b mem = (((in_page, omega arith), (KeepsNothing, first, tt)), puts-owe 1 left (omega (arith, b)) (changed (Put (place.Word p 0) (ws 0)) mem))

fill-both : (m : Machine) (g : Grip) (w : World) (xs ys : List Change) → MayFillAll m g w xs → MayFillAll m g w ys → MayFillAll m g w (xs ++ ys)
fill-both m g w [] ys a b = b
fill-both m g w (x ∷ xs) ys a b = (a.0, fill-both m g w xs ys a.1 b)

take-both : (g : Grip) (w : World) (xs ys : List Change) → MayTakeAll g w xs → MayTakeAll g w ys → MayTakeAll g w (xs ++ ys)
take-both g w [] ys a b = b
take-both g w (x ∷ xs) ys a b = (a.0, take-both g w xs ys a.1 b)

neither : (b d : Bool) → (b || d) ≡ false → (b ≡ false) × (d ≡ false)
neither false false none = (refl, refl)
neither true d none = cc
neither false true none = cc

pub append-again : (xs ys zs : List Change) → (xs ++ ys) ++ zs ≡ xs ++ (ys ++ zs)
append-again [] ys zs = refl
append-again (x ∷ xs) ys zs = ap (λ (cs : List Change). x ∷ cs) (append-again xs ys zs)

-- the lock of each page is held alone, whatever locks come behind
abbrev pub AllOwn : List Held → World → (t : ℕ) → List Arrival → Type 0
AllOwn hs w t [] = Unit {0}
AllOwn hs w t (a ∷ more) = (holds_alone hs (OfPage (page_filled w t a)) ≡ true) × AllOwn hs w t more

alone-through : (w : World) (t : ℕ) (pages : List Arrival) (hs kept : List Held) (l : LockId) → holds_alone (hs ++ kept) l ≡ true → holds_alone (with_fills w t pages hs ++ kept) l ≡ true
alone-through w t [] hs kept l a = a
alone-through w t (x ∷ pages) hs kept l a = alone-through w t pages (page_lock (page_filled w t x) Exclusive ∷ hs) kept l (alone-more (page_lock (page_filled w t x) Exclusive) (hs ++ kept) l a)

pub map-through : (w : World) (t : ℕ) (pages : List Arrival) (hs kept : List Held) → HoldsMap (hs ++ kept) t → HoldsMap (with_fills w t pages hs ++ kept) t
map-through w t [] hs kept a = a
map-through w t (x ∷ pages) hs kept a = map-through w t pages (page_lock (page_filled w t x) Exclusive ∷ hs) kept (map-more (page_lock (page_filled w t x) Exclusive) (hs ++ kept) t a)

pub all-own : (w : World) (t : ℕ) (pages : List Arrival) (hs kept : List Held) → AllOwn (with_fills w t pages hs ++ kept) w t pages
all-own w t [] hs kept = tt
all-own w t (x ∷ pages) hs kept =
    let p : ℕ = page_filled w t x in
    let mine : holds_alone (page_lock p Exclusive ∷ hs ++ kept) (OfPage p) ≡ true = rw (eq-eqb p p refl) refl in
    (alone-through w t pages (page_lock p Exclusive ∷ hs) kept (OfPage p) mine, all-own w t pages (page_lock p Exclusive ∷ hs) kept)

same-own : (hs : List Held) (w v : World) (t : ℕ) (pages : List Arrival) → AreSame w t v pages → AllOwn hs w t pages → AllOwn hs v t pages
same-own hs w v t [] same own = tt
same-own hs w v t (a ∷ pages) same own = (rw same.0 own.0, same-own hs w v t pages same.1 own.1)

-- the act respects the rules, page after page: the map is held alone, and each page that is taken
module _ (c : Instant) (hs : List Held) (t : ℕ) (held : HoldsMap (hs ++ c.kept) t) where
  abbrev grip : Grip
  grip = hold c hs

  one-respects : (v : World) (a : Arrival) (s : EntryState) (named : ℕ) → (s ≡ entry.Free → is_host v a.page ≡ true) → holds_alone (hs ++ c.kept) (OfPage (filled_page a.page s named)) ≡ true
      → Respects grip v (begin_memory t (page_of_gpa a.gpa) a.words (fill_page t a.gpa a.page a.words s v))
  one-respects v a entry.Free named host own =
      let taken : World = take_node a.page kind.Reg t 0 (number_at 0 a.gpa) v in
      let mapped : World = map_page a.page kind.Reg entry.Mapped t 0 (number_at 0 a.gpa) v in
      then-leaves grip v mapped (begin_memory t (page_of_gpa a.gpa) a.words (fill_page t a.gpa a.page a.words entry.Free v)) refl
      (respects-compose.both grip v taken mapped ((effects-respect grip v).taken a.page kind.Reg t 0 (number_at 0 a.gpa) (host refl) own)
      ((effects-respect grip taken).entry t 0 (number_at 0 a.gpa) (record { state = entry.Mapped; page = a.page; mark = 0 }) (record { tdr = held.tree.tdr; op = held.tree.op }) held.sole))
  one-respects v a _ named host own = leaves-all grip v (begin_memory t (page_of_gpa a.gpa) a.words (set_page (entry_at v t 0 a.gpa).page a.words v)) refl

  pages-respect : (pages : List Arrival) (v : World) (locked : List ℕ) → AreApart (map (λ a. a.gpa) pages) → AllMayTake v t locked pages → AllOwn (hs ++ c.kept) v t pages
      → Respects grip v (take_each t pages v)
  pages-respect [] v locked apart can own = respects-compose.same grip v
  pages-respect (a ∷ pages) v locked apart can own =
      let u : World = take_in t a v in
      let e : Entry = entry_at v t 0 a.gpa in
      respects-compose.both grip v u (take_each t pages u) (one-respects v a e.state e.page can.0.host own.0)
      (pages-respect pages u (page_filled v t a ∷ locked) apart.1 (still_take v t a (page_filled v t a ∷ locked) pages (locked_first (page_filled v t a) locked) apart.0 can.1)
      (same-own (hs ++ c.kept) v u t pages (take-same v t a pages apart.0) own.1))

-- The end: what the stores of these pages may be, and show.
module _ (m : Machine) (c : Instant) (t k : ℕ) (in_tdr : t < m.pages) (la : Lawful m c.state.world) (sh : Shows m c.memory.words c.memory.slots c.state) (y : IsTd m c.state.world t filling_ops)
    (hs : List Held) (held : HoldsMap (hs ++ c.kept) t) (stream : IsPageOf c.state.world.pages t (stream_page c.state.world t k) kind.Migsc) (in_stream : stream_page c.state.world t k < m.pages)
    (pages : List Arrival) (ats : List ℕ) (low : AreOffered m pages) (fit : EachIs (IsInRange m) pages) (off : AreApart (map (λ a. a.gpa) pages))
    (are : AreTables m c.state.world t pages ats) (can : AllMayTake c.state.world t [] pages) (own : AllOwn (hs ++ c.kept) c.state.world t pages) where
  abbrev w : World
  w = c.state.world

  abbrev g : Grip
  g = hold c hs

  abbrev n : ℕ
  n = children c.state.world t

  abbrev room : Room
  room = record { page = stream_page c.state.world t k; counter = stream_counter c.state.world t k }

  -- the act, and what it leaves
  abbrev taken : World
  taken = take_each t pages c.state.world

  abbrev w' : World
  w' = count_bundle t k (TakenAs c.state.world (take_each t pages c.state.world))

  act-is : count_bundle t k taken ≡ w'
  act-is = ap (λ (v : World). count_bundle t k v) (takes_leave t pages w)

  stays : (q : ℕ) → is_host w q ≡ false → Stays w w' q
  stays q other = (let s = pages-stay w t q pages [] off can other in record { kind_is = s.kind_is; owner_is = s.owner_is; level_is = s.level_is; number_is = s.number_is })

  page-then : (u q : ℕ) (j : PageKind) → same_kind j kind.Nda ≡ false → IsPageOf w.pages u q j → IsPageOf w'.pages u q j
  page-then u q j other its = (let s : Stays w w' q = stays q (rw its.kind other) in record { kind = s.kind_is ∙ its.kind; owner = s.owner_is ∙ its.owner })

  alive-then : (u : ℕ) → IsAlive w.pages w.tds u → IsAlive w'.pages w'.tds u
  alive-then u a = (let s : Stays w w' u = stays u (rw a.kind refl) in record { kind = s.kind_is ∙ a.kind; life = a.life })

  controls-then : TwoControls m w' t
  controls-then = record {
    tdcs = y.controls.tdcs;
    root = y.controls.root;
    list = y.controls.list;
    tdcs_page = page-then t y.controls.tdcs kind.Tdcx refl y.controls.tdcs_page;
    root_page = page-then t y.controls.root kind.Tdcx refl y.controls.root_page;
    differ = y.controls.differ;
    tdcs_in = y.controls.tdcs_in;
    root_in = y.controls.root_in;
  }

  runs : runs_in (w.tds.ops t) ≡ false
  runs = not-run (w.tds.ops t) y.op

  -- the stores
  abbrev fs : List Filling
  fs = fillings (children c.state.world t) c.state.world t pages ats

  abbrev words : List Change
  words = all_words pages (fillings (children c.state.world t) c.state.world t pages ats)

  abbrev maps : List Change
  maps = taken_changes m.pages t 0 pages (fillings (children c.state.world t) c.state.world t pages ats)

  abbrev behind : List Change
  behind = changes_behind m.pages t pages room (fillings (children c.state.world t) c.state.world t pages ats)

  abbrev filled : Memory
  filled = changed_all words c.memory

  abbrev after : Memory
  after = changed_all behind (changed_all words c.memory)

  shown : Shows m after.words after.slots (record (c.state) { world = w' })
  shown =
      let worded = words-shown m c.state t n la y.alive pages ats [] w c.memory are can refl sh in
      let none : n + 0 ≡ children w t = omega arith in
      let stored = pages-stored m c.state t n pages ats [] w filled 0 (record { lawful = la; alive = y.alive; built = y.two; op = y.op }) off can fit low are none worded in
      let there = subst (λ (v : World). Shows m (changed_all maps filled).words (changed_all maps filled).slots (record (c.state) { world = v })) (takes_leave t pages w) stored in
      let its : IsPageOf w'.pages t (stream_page w t k) kind.Migsc = page-then t (stream_page w t k) kind.Migsc refl stream in
      subst (λ (x : Memory). Shows m x.words x.slots (record (c.state) { world = w' })) (sym (changed-append maps (counter_changes room) filled))
      (counted-shown m (record (c.state) { world = TakenAs w taken }) (changed_all maps filled) t k there y.alive.life (record { kind = its.kind; owner = its.owner }) in_stream)

  -- words that are stored before the act
  words-fill : (a : Arrival) (at : ℕ) (s : EntryState) → (entry_at w t 0 a.gpa).state ≡ s → list_any (λ b. same_state b s) importable ≡ true → (s ≡ entry.Free → is_host w a.page ≡ true) → a.page < m.pages
      → holds_alone (hs ++ c.kept) (OfPage (filled_page a.page s (entry_at w t 0 a.gpa).page)) ≡ true
      → MayFillAll m g w (word_puts (filling_of n at a.page s (entry_at w t 0 a.gpa).page).page a.words 0 512)
  words-fill a at entry.Free is state host inside mine = puts-fill m g w w a.page a.words inside (λ i. host-fills g w a.page i (host refl) mine) 0 512 (omega arith)
  words-fill a at entry.Mapped is state host inside mine =
      let p : ℕ = (entry_at w t 0 a.gpa).page in
      let node = node_named m w la t 0 (number_at 0 a.gpa) y.alive (ap is_free is) in
      puts-fill m g w w p a.words (page-in m w t p kind.Reg la node.page refl)
      (λ i. at-spot g w (place.Word p i) (spot_of (GuestWord false) t p) fills (private-spot w t p i node.page runs) (inl (held.tree.tdr, (held.tree.op, (mine, tt))))) 0 512 (omega arith)
  words-fill a at _ is state host inside mine = cc

  all-fill : (pages : List Arrival) (ats locked : List ℕ) → AreOffered m pages → AreTables m w t pages ats → AllMayTake w t locked pages → AllOwn (hs ++ c.kept) w t pages → MayFillAll m g w (all_words pages (fillings n w t pages ats))
  all-fill [] [] locked fit are can own = tt
  all-fill (a ∷ pages) (at ∷ ats) locked fit are can own =
      let e : Entry = entry_at w t 0 a.gpa in
      fill-both m g w (word_puts (filling_of n at a.page e.state e.page).page a.words 0 512) (all_words pages (fillings n w t pages ats))
      (words-fill a at e.state refl can.0.state can.0.host fit.1 own.0) (all-fill pages ats (page_filled w t a ∷ locked) fit.2 are.1 can.1 own.1)
  all-fill [] (at ∷ ats) locked fit are can own = absurd are
  all-fill (a ∷ pages) [] locked fit are can own = absurd are

  all-take : (h : Grip) (pages : List Arrival) (some : List Filling) → MayTakeAll h w (all_words pages some)
  all-take h [] [] = tt
  all-take h [] (f ∷ some) = tt
  all-take h (a ∷ pages) [] = tt
  all-take h (a ∷ pages) (f ∷ some) = take-both h w (word_puts f.page a.words 0 512) (all_words pages some) (puts-take h w f.page a.words 0 512) (all-take h pages some)

  -- what may be stored after it: the count of the stream, the child count, and entries
  counter-spot : (v : World) → IsPageOf v.pages t (stream_page w t k) kind.Migsc → spot v (place.Word (stream_page w t k) 0) ≡ spot_of StreamWord t (stream_page w t k)
  counter-spot v its = stream-spot v t (stream_page w t k) 0 its

  counter-owes : Owes g w' (place.Word (stream_page w t k) 0) KeepsNothing
  counter-owes =
      at-spot g w' (place.Word (stream_page w t k) 0) (spot_of StreamWord t (stream_page w t k)) (λ z. owes z KeepsNothing) (counter-spot w' (page-then t (stream_page w t k) kind.Migsc refl stream))
      (inr (inr (inl (held.tree.tdr, (held.tree.op, (held.sole, tt))))))

  counter-writes : Writes g w (place.Word (stream_page w t k) 0) KeepsNothing
  counter-writes =
      at-spot g w (place.Word (stream_page w t k) 0) (spot_of StreamWord t (stream_page w t k)) (λ z. writes z KeepsNothing) (counter-spot w stream)
      (inr (inr (inl (held.tree.tdr, (held.tree.op, (held.sole, tt))))))

  counter-owed : (mem : Memory) → MayOweAll m g w' mem (counter_changes room)
  counter-owed mem = (((in_stream, omega arith), (KeepsNothing, counter-owes, tt)), tt)

  kids-owe : Owes g w' (place.Word t TDR_CHILDREN) KeepsNothing
  kids-owe =
      let s : Stays w w' t = stays t (rw y.alive.kind refl) in
      count-owes m c t sh y.alive y.controls hs held.tree la held.sole w' (alive-then t y.alive) (s.owner_is ∙ y.own)

  entry-owes : (gpa at : ℕ) → gpa < 2 ^ 47 → IsTable m w' t gpa at → Owes g w' (place.Word at (index_at 0 gpa)) KeepsNothing
  entry-owes gpa at small is =
      let there = entry-spot m after (record (c.state) { world = w' }) t shown (alive-then t y.alive) controls-then gpa small at 0 (entry-of m w' t controls-then.root gpa at is) in
      subst (λ (s : Spot). MayAt g s (λ z. owes z KeepsNothing)) (sym there) (rw runs (inr (inl (held.tree.tdr, (held.tree.op, (held.sole, tt))))))

  -- of the pages that are taken
  one-owed : (a : Arrival) (at before : ℕ) (mem : Memory) (pages : List Arrival) (fs : List Filling) → ((b : ℕ) (x : Memory) → MayOweAll m g w' x (taken_changes m.pages t b pages fs ++ counter_changes room))
      → a.gpa < 2 ^ 47 → a.page < m.pages → IsTable m w t a.gpa at → IsTable m w' t a.gpa at → (s : EntryState) (p : ℕ) → holds_alone (hs ++ c.kept) (OfPage (filled_page a.page s p)) ≡ true
      → MayOweAll m g w' mem (taken_changes m.pages t before (a ∷ pages) (filling_of n at a.page s p ∷ fs) ++ counter_changes room)
  one-owed a at before mem pages fs tail small inside is then_ entry.Free p mine = (
    ((is.in_machine, split.index 0 a.gpa), (KeepsNothing, entry-owes a.gpa at small then_, tt)),
    ((inside, (KeepsNothing, inl (mine, tt), tt)), (((in_tdr, omega arith), (KeepsNothing, kids-owe, tt)), tail (suc before) _)),
  )
  one-owed a at before mem pages fs tail small inside is then_ _ p mine = tail before mem

  all-owed : (pages : List Arrival) (ats : List ℕ) (before : ℕ) (mem : Memory) → AreOffered m pages → AreTables m w t pages ats → AreTables m w' t pages ats → AllOwn (hs ++ c.kept) w t pages
      → MayOweAll m g w' mem (taken_changes m.pages t before pages (fillings n w t pages ats) ++ counter_changes room)
  all-owed [] [] before mem fit are now own = counter-owed mem
  all-owed (a ∷ pages) (at ∷ ats) before mem fit are now own =
      one-owed a at before mem pages (fillings n w t pages ats) (λ b x. all-owed pages ats b x fit.2 are.1 now.1 own.1) fit.0 fit.1 are.0 now.0 (entry_at w t 0 a.gpa).state (entry_at w t 0 a.gpa).page own.0
  all-owed [] (at ∷ ats) before mem fit are now own = absurd are
  all-owed (a ∷ pages) [] before mem fit are now own = absurd are

  -- where one is taken, the entry of the first that is, is the act
  one-may : (a : Arrival) (at before : ℕ) (mem : Memory) (pages : List Arrival) (fs : List Filling) → ((b : ℕ) (x : Memory) → MayOweAll m g w' x (taken_changes m.pages t b pages fs ++ counter_changes room))
      → (any_taken fs ≡ true → MayChange m g w w' mem (taken_changes m.pages t before pages fs ++ counter_changes room)) → a.gpa < 2 ^ 47 → a.page < m.pages → IsTable m w t a.gpa at
      → (s : EntryState) (p : ℕ) → holds_alone (hs ++ c.kept) (OfPage (filled_page a.page s p)) ≡ true → any_taken (filling_of n at a.page s p ∷ fs) ≡ true
      → MayChange m g w w' mem (taken_changes m.pages t before (a ∷ pages) (filling_of n at a.page s p ∷ fs) ++ counter_changes room)
  one-may a at before mem pages fs tail later small inside is entry.Free p mine some = (
    ((is.in_machine, split.index 0 a.gpa), (KeepsNothing, entry-writes m c t sh y.alive y.controls hs held.tree a.gpa at 0 small (entry-of m w t y.controls.root a.gpa at is) KeepsNothing held.sole, tt)),
    ((inside, (KeepsNothing, inl (mine, tt), tt)), (((in_tdr, omega arith), (KeepsNothing, kids-owe, tt)), tail (suc before) _)),
  )
  one-may a at before mem pages fs tail later small inside is _ p mine some = later some

  all-may : (pages : List Arrival) (ats : List ℕ) (before : ℕ) (mem : Memory) → AreOffered m pages → AreTables m w t pages ats → AreTables m w' t pages ats → AllOwn (hs ++ c.kept) w t pages
      → any_taken (fillings n w t pages ats) ≡ true → MayChange m g w w' mem (taken_changes m.pages t before pages (fillings n w t pages ats) ++ counter_changes room)
  all-may [] [] before mem fit are now own some = cc
  all-may (a ∷ pages) (at ∷ ats) before mem fit are now own some =
      one-may a at before mem pages (fillings n w t pages ats) (λ b x. all-owed pages ats b x fit.2 are.1 now.1 own.1) (all-may pages ats before mem fit.2 are.1 now.1 own.1) fit.0 fit.1 are.0
      (entry_at w t 0 a.gpa).state (entry_at w t 0 a.gpa).page own.0 some
  all-may [] (at ∷ ats) before mem fit are now own some = absurd are
  all-may (a ∷ pages) [] before mem fit are now own some = absurd are

  -- where none is, the words of pages that are mapped are the act and what follows it
  record IsMapped (p : ℕ) : Type 0 where
    inside : p < m.pages
    writes_it : (i : ℕ) → Writes g w (place.Word p i) KeepsNothing
    owes_it : (i : ℕ) → Owes g w' (place.Word p i) KeepsNothing

  is-mapped : (a : Arrival) (at : ℕ) (s : EntryState) → (entry_at w t 0 a.gpa).state ≡ s → list_any (λ b. same_state b s) importable ≡ true
      → holds_alone (hs ++ c.kept) (OfPage (filled_page a.page s (entry_at w t 0 a.gpa).page)) ≡ true → is_taken (filling_of n at a.page s (entry_at w t 0 a.gpa).page).children ≡ false
      → IsMapped (filling_of n at a.page s (entry_at w t 0 a.gpa).page).page
  is-mapped a at entry.Free is state mine none = cc
  is-mapped a at entry.Mapped is state mine none =
      let p : ℕ = (entry_at w t 0 a.gpa).page in
      let node = node_named m w la t 0 (number_at 0 a.gpa) y.alive (ap is_free is) in
      record {
        inside = page-in m w t p kind.Reg la node.page refl;
        writes_it = λ i. at-spot g w (place.Word p i) (spot_of (GuestWord false) t p) (λ z. writes z KeepsNothing) (private-spot w t p i node.page runs) (inl (held.tree.tdr, (held.tree.op, (mine, tt))));
        owes_it = λ i. at-spot g w' (place.Word p i) (spot_of (GuestWord false) t p) (λ z. owes z KeepsNothing) (private-spot w' t p i (page-then t p kind.Reg refl node.page) runs) (inl (held.tree.tdr, (held.tree.op, (mine, tt))));
      }
  is-mapped a at _ is state mine none = cc

  words-owed : (pages : List Arrival) (ats locked : List ℕ) → AreTables m w t pages ats → AllMayTake w t locked pages → AllOwn (hs ++ c.kept) w t pages → any_taken (fillings n w t pages ats) ≡ false
      → (rest : List Change) → ((x : Memory) → MayOweAll m g w' x rest) → (mem : Memory) → MayOweAll m g w' mem (all_words pages (fillings n w t pages ats) ++ rest)
  words-owed [] [] locked are can own none rest more mem = more mem
  words-owed (a ∷ pages) (at ∷ ats) locked are can own none rest more mem =
      let e : Entry = entry_at w t 0 a.gpa in
      let f : Filling = filling_of n at a.page e.state e.page in
      let parts = neither (is_taken f.children) (any_taken (fillings n w t pages ats)) none in
      let its : IsMapped f.page = is-mapped a at e.state refl can.0.state own.0 parts.0 in
      let others : List Change = all_words pages (fillings n w t pages ats) in
      subst (λ (cs : List Change). MayOweAll m g w' mem cs) (sym (append-again (word_puts f.page a.words 0 512) others rest))
      (puts-owe m g w w' f.page a.words its.inside its.owes_it (others ++ rest) (words-owed pages ats (page_filled w t a ∷ locked) are.1 can.1 own.1 parts.1 rest more) 0 512 (omega arith) mem)
  words-owed [] (at ∷ ats) locked are can own none rest more mem = absurd are
  words-owed (a ∷ pages) [] locked are can own none rest more mem = absurd are

  words-may : (pages : List Arrival) (ats locked : List ℕ) → AreTables m w t pages ats → AllMayTake w t locked pages → AllOwn (hs ++ c.kept) w t pages → any_taken (fillings n w t pages ats) ≡ false
      → (rest : List Change) → ((x : Memory) → MayOweAll m g w' x rest) → MayChange m g w w' c.memory rest → MayChange m g w w' c.memory (all_words pages (fillings n w t pages ats) ++ rest)
  words-may [] [] locked are can own none rest more first = first
  words-may (a ∷ pages) (at ∷ ats) locked are can own none rest more first =
      let e : Entry = entry_at w t 0 a.gpa in
      let f : Filling = filling_of n at a.page e.state e.page in
      let parts = neither (is_taken f.children) (any_taken (fillings n w t pages ats)) none in
      let its : IsMapped f.page = is-mapped a at e.state refl can.0.state own.0 parts.0 in
      let others : List Change = all_words pages (fillings n w t pages ats) in
      subst (λ (cs : List Change). MayChange m g w w' c.memory cs) (sym (append-again (word_puts f.page a.words 0 512) others rest))
      (puts-change m g w w' f.page a.words its.inside its.owes_it (others ++ rest) (words-owed pages ats (page_filled w t a ∷ locked) are.1 can.1 own.1 parts.1 rest more) (its.writes_it 0) 512 (omega arith) (omega arith) c.memory)
  words-may [] (at ∷ ats) locked are can own none rest more first = absurd are
  words-may (a ∷ pages) [] locked are can own none rest more first = absurd are

  -- none is mapped anew
  unmapped : (gpa at p before : ℕ) (o : Option ℕ) → is_taken o ≡ false → (rest : ℕ → List Change) → rest before ≡ [] → mapped_changes m.pages t gpa at p before o ++ rest (taken_after before o) ≡ []
  unmapped gpa at p before None none rest is = is
  unmapped gpa at p before (Some x) none rest is = cc

  none-maps : (before : ℕ) (pages : List Arrival) (some : List Filling) → any_taken some ≡ false → taken_changes m.pages t before pages some ≡ []
  none-maps before [] [] none = refl
  none-maps before [] (f ∷ some) none = refl
  none-maps before (a ∷ pages) [] none = refl
  none-maps before (a ∷ pages) (f ∷ some) none =
      let parts = neither (is_taken f.children) (any_taken some) none in
      unmapped a.gpa f.at f.page before f.children parts.0 (λ b. taken_changes m.pages t b pages some) (none-maps before pages some parts.1)

  -- a row with this act, under these locks
  module _ (row : Row) (act : row.act c.state.world ≡ count_bundle t k (take_each t pages c.state.world)) (answers : AnswersAs (work_of (OfCall row)) c.state.world (only (Done value.Nothing))) where
    abbrev work : Work
    work = work_of (OfCall row)

    acts : row.act w ≡ w'
    acts = act ∙ act-is

    respects : Respects g w (row.act w)
    respects = subst (λ (v : World). Respects g w v) (sym act) (then-leaves g w taken (count_bundle t k taken) refl (pages-respect c hs t held pages w [] off can own))

    locks : LocksStay w (row.act w) hs
    locks = subst (λ (v : World). LocksStay w v hs) (sym acts) (locks-kept w w' refl alive-then hs)

    tables-then : AreTables m w' t pages ats
    tables-then = tables-stay m w w' t pages ats stays are

    ends : (b : Bool) → any_taken fs ≡ b → Means m c work hs (end_where b words behind) []
    ends true some = (
      record {
        answers = answers;
        fills_allowed = both-allowed m g (grasp_of c hs) w words (all-fill pages ats [] low are can own) (all-take (grasp_of c hs) pages fs);
        respects = respects;
        locks_stay = locks;
        shows = subst (λ (v : World). Shows m after.words after.slots (record (c.state) { world = v })) (sym acts) shown;
      },
      subst (λ (v : World). MayChange m g w v filled behind) (sym acts) (all-may pages ats 0 filled low are tables-then own some),
    )
    ends false none =
        let first : MayChange m g w w' c.memory behind =
        subst (λ (cs : List Change). MayChange m g w w' c.memory (cs ++ counter_changes room)) (sym (none-maps 0 pages fs none)) (((in_stream, omega arith), (KeepsNothing, counter-writes, tt)), tt) in (
          record {
            answers = answers;
            fills_allowed = tt;
            respects = respects;
            locks_stay = locks;
            shows = subst (λ (v : World). let mem = changed_all (words ++ behind) c.memory in Shows m mem.words mem.slots (record (c.state) { world = v })) (sym acts)
                (subst (λ (x : Memory). Shows m x.words x.slots (record (c.state) { world = w' })) (sym (changed-append words behind c.memory)) shown);
          },
          subst (λ (v : World). MayChange m g w v c.memory (words ++ behind)) (sym acts)
              (words-may pages ats [] are can own none behind (λ x. all-owed pages ats 0 x low are tables-then own) first),
        )

    pub end-means : Means m c work hs (page_import_end m t pages room fs) []
    end-means = ends (any_taken fs) refl
