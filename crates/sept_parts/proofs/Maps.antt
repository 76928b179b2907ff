-- A page of the host's that becomes a TD's, and that an entry comes to name which was FREE: what words show then, and that
-- the end of a call which maps it, of whatever kind and filled with whatever words, means its row's.
use Rattle.std.proofs.Common.{◌≡◌, ◌⊎◌, ℕ, suc, ◌^◌, ◌<◌, ◌≤◌, Bool, true, false, ◌==◌, List, [], ◌∷◌, ◌++◌, map, refl, sym, ap, ◌∙◌, subst, inl, inr, arith}
use Rattle.std.specs.List.{list_any}
use Rattle.std.proofs.lemmas.Bool.{eq-eqb, ne_eqb}
use Rattle.td_words.specs.declared.names.EntryState.TheVariants as entry
use Rattle.td_words.specs.declared.names.PageKind.{PageKind}
use Rattle.td_words.specs.declared.names.PageKind.TheVariants as kind
use Rattle.td_words.specs.declared.names.OpState.{OpState}
use Rattle.td_words.specs.declared.names.Mode.TheVariants.{Shared, Exclusive}
use Rattle.td_words.specs.declared.machines.Machine.{Machine}
use Rattle.td_words.specs.declared.refusals.Status.{Status}
use Rattle.td_words.specs.declared.replies.Value.TheVariants as value
use Rattle.td_words.specs.declared.replies.Reply.{Reply}
use Rattle.td_words.specs.declared.replies.Reply.TheVariants.{Done}
use Rattle.td_words.specs.Packing.{Entry, entry_word}
use Rattle.td_words.specs.Place.{WordPlace}
use Rattle.td_words.specs.Place as place
use Rattle.flat_core.specs.World.{World, Pages}
use Rattle.flat_core.specs.Processor.{OfPage, OfTree, Held}
use Rattle.flat_core.specs.Row.{Item, Row, needs}
use Rattle.flat_core.specs.Conditions.{is_host, children, page_exclusive, host_page, same_kind, td_row, tree_exclusive}
use Rattle.flat_core.specs.Effects.{set_entry, map_page}
use Rattle.flat_core.specs.Lawful.{Lawful, IsAlive, IsNodeOf}
use Rattle.flat_core.specs.Tree.{number_at, entry_at, same_state, state_in, walk}
use Rattle.flat_core.specs.Event.{State}
use Rattle.flat_core.proofs.Tests.{host_kind}
use Rattle.sept_walk.specs.SecureEpt.{index_at}
use Rattle.sept_walk.proofs.Meets.{split}
use Rattle.word_rules.specs.Cells.{Shows, IsAs, page_cell, lock_word}
use Rattle.word_rules.specs.Rules.{KeepsNothing}
use Rattle.word_rules.specs.Permissions.{Respects}
use Rattle.lock_words.specs.Grips.{holds_alone}
use Rattle.lock_words.specs.LockWords.{put_word}
use Rattle.leaf_engine.specs.Changes.{Change, Memory, changed_all}
use Rattle.leaf_engine.specs.Trees.{done, only}
use Rattle.leaf_engine.specs.Means.{Instant, Means, AnswersAs, FillsAllowed, MayOweAll, work_of, OfCall, hold, grasp_of}
use Rattle.leaf_parts.specs.Arguments.{checked, AllHold}
use Rattle.leaf_parts.proofs.Begun.{IsTd, TwoControls, page_lock, op_lock, locks-kept}
use Rattle.leaf_parts.proofs.Checks.{checks-mean}
use Rattle.leaf_parts.proofs.HostPages.{tdr-apart, taken-page-means}
use Rattle.sept_parts.specs.declared.mappings.Mapping.{Mapping}
use Rattle.sept_parts.specs.SeptPages.{HasEntry, HoldsTree}
use Rattle.sept_parts.specs.MapTrees.{map_changes, map_tree, td_map_tree}
use Rattle.sept_parts.proofs.Filled.{words-lawful}
use Rattle.sept_parts.proofs.SeptLocks.{tree_held, entry-writes, count-owes}
use Rattle.sept_parts.proofs.SeptPut.{entry-put}
use Rattle.sept_parts.proofs.SeptBegun.{row-find-means}
use Rattle.sept_parts.proofs.Nodes.{node-taken}

-- the world with these words, once the page is mapped
abbrev pub mapped : Mapping → (words : ℕ → ℕ → ℕ) → World → World
mapped x words w = map_page x.page x.kind x.state x.tdr x.level (number_at x.level x.gpa) (record w { words = words })

-- what is known at the end of a call that maps a page: where the entry stands, what is held, and that the page is the host's
pub record MayMap (m : Machine) (c : Instant) (hs : List Held) (x : Mapping) (table : ℕ) : Type 0 where
  pub lawful : Lawful m c.state.world
  pub shown : Shows m c.memory.words c.memory.slots c.state
  pub small : x.gpa < 2 ^ 47
  pub tdr_in : x.tdr < m.pages
  pub page_in : x.page < m.pages
  pub alive : IsAlive c.state.world.pages c.state.world.tds x.tdr
  pub controls : TwoControls m c.state.world x.tdr
  pub entry : HasEntry m c.state.world x.tdr controls.root table x.gpa x.level
  pub locks : HoldsTree (hs ++ c.kept) x.tdr
  pub tree_alone : holds_alone (hs ++ c.kept) (OfTree x.tdr) ≡ true
  pub page_alone : holds_alone (hs ++ c.kept) (OfPage x.page) ≡ true
  pub host : is_host c.state.world x.page ≡ true
  pub owned : same_kind x.kind kind.Nda ≡ false

-- the page is filled with these words, which are those that a page of its kind has
pub record IsFilled (m : Machine) (c : Instant) (x : Mapping) (words : ℕ → ℕ → ℕ) (fills : List Change) : Type 0 where
  pub shown : Shows m (changed_all fills c.memory).words (changed_all fills c.memory).slots (record (c.state) { world = record (c.state.world) { words = words } })
  pub fits : (i : ℕ) → i < 512 → IsAs (page_cell (mapped x words c.state.world) (lock_word c.state.lps c.state.lp_count) x.tdr x.page x.kind i) ((changed_all fills c.memory).words (place.Word x.page i))

-- any words are those of a private page
pub private-filled : (m : Machine) (c : Instant) (x : Mapping) (words : ℕ → ℕ → ℕ) (fills : List Change) → x.kind ≡ kind.Reg → x.page < m.pages → is_host c.state.world x.page ≡ true
    → Shows m (changed_all fills c.memory).words (changed_all fills c.memory).slots (record (c.state) { world = record (c.state.world) { words = words } }) → IsFilled m c x words fills
private-filled m c x words fills private in_page host shown = record {
  shown = shown;
  fits = λ i few. subst (λ (j : PageKind). IsAs (page_cell (mapped x words c.state.world) (lock_word c.state.lps c.state.lp_count) x.tdr x.page j i) ((changed_all fills c.memory).words (place.Word x.page i))) (sym private)
      (rw (host_kind (c.state.world.pages.kinds x.page) host) at (shown.word (place.Word x.page i) (in_page, few)));
}

module _ (m : Machine) (c : Instant) (hs : List Held) (x : Mapping) (table : ℕ) (a : MayMap m c hs x table) (words : ℕ → ℕ → ℕ) (fills : List Change) (filled : IsFilled m c x words fills) where
  abbrev w : World
  w = c.state.world

  abbrev t : ℕ
  t = x.tdr

  abbrev p : ℕ
  p = x.page

  abbrev its : World
  its = mapped x words c.state.world

  abbrev before : Memory
  before = changed_all fills c.memory

  abbrev changes : List Change
  changes = map_changes m.pages x table (children c.state.world x.tdr)

  abbrev after : Memory
  after = changed_all (map_changes m.pages x table (children c.state.world x.tdr)) (changed_all fills c.memory)

  -- the page isn't the one that its entry stands in
  off-table : (p == table) ≡ false
  off-table = ne_eqb p table (λ same. by-node same a.entry.node)
    where
      nda : w.pages.kinds p ≡ kind.Nda
      nda = host_kind (w.pages.kinds p) a.host

      by-node : p ≡ table → ((x.level ≡ 3) × (table ≡ a.controls.root)) ⊎ ((x.level < 3) × IsNodeOf w.pages t table kind.Ept (suc x.level) (number_at (suc x.level) x.gpa)) → ⊥
      by-node same (inl b) = (let no : kind.Nda ≡ kind.Tdcx = sym nda ∙ (ap w.pages.kinds (same ∙ b.1) ∙ a.controls.root_page.kind) in cc)
      by-node same (inr b) = (let no : kind.Nda ≡ kind.Ept = sym nda ∙ (ap w.pages.kinds same ∙ b.1.page.kind) in cc)

  abbrev its-entry : Entry
  its-entry = record { state = x.state; page = x.page; mark = 0 }

  abbrev entry-words : WordPlace → ℕ
  entry-words = put_word (changed_all fills c.memory).words (place.Word table (index_at x.level x.gpa)) (entry_word (record { state = x.state; page = x.page; mark = 0 }))

  abbrev full : State
  full = record (c.state) { world = record (c.state.world) { words = words } }

  abbrev named : State
  named = record (c.state) { world = set_entry x.tdr x.level (number_at x.level x.gpa) (record { state = x.state; page = x.page; mark = 0 }) (record (c.state.world) { words = words }) }

  entry-shown : Shows m entry-words before.slots named
  entry-shown =
      entry-put m before full t filled.shown (words-lawful m w words a.lawful) (record { kind = a.alive.kind; life = a.alive.life })
      (record { tdcs = a.controls.tdcs; root = a.controls.root; list = a.controls.list; tdcs_page = a.controls.tdcs_page; root_page = a.controls.root_page; differ = a.controls.differ; tdcs_in = a.controls.tdcs_in; root_in = a.controls.root_in })
      x.gpa table x.level a.small (record { in_machine = a.entry.in_machine; node = a.entry.node }) its-entry

  page-word : (i : ℕ) → i < 512 → IsAs (page_cell its (lock_word c.state.lps c.state.lp_count) t p x.kind i) (entry-words (place.Word p i))
  page-word i few = rw off-table (filled.fits i few)

  pub map-shown : Shows m after.words after.slots (record (c.state) { world = its })
  map-shown = record {
    word = node-taken m entry-words named t p x.level (number_at x.level x.gpa) x.kind entry-shown.word a.lawful.size a.lawful.pages a.alive.kind a.host a.owned a.page_in page-word;
    hasher = entry-shown.hasher;
  }

  -- An act that maps the page, and changes nothing of pages besides, nor lives nor the TDCX pages of TDs; what it changes
  -- further comes behind it.
  module _ (row : Row) (later : List Change) (pages : (row.act c.state.world).pages ≡ its.pages) (lives : (row.act c.state.world).tds.lives ≡ c.state.world.tds.lives) (controls : (row.act c.state.world).tds.controls ≡ c.state.world.tds.controls) where
    abbrev w' : World
    w' = row.act c.state.world

    alive-then : (u : ℕ) → IsAlive w.pages w.tds u → IsAlive w'.pages w'.tds u
    alive-then u z = record {
      kind = subst (λ (y : Pages). y.kinds u ≡ kind.Tdr) (sym pages) (rw (tdr-apart w u p z.kind a.host) (z.kind));
      life = rw lives (z.life);
    }

    own-then : w'.pages.owners t ≡ t
    own-then = subst (λ (y : Pages). y.owners t ≡ t) (sym pages) (rw (tdr-apart w t p a.alive.kind a.host) (a.lawful.pages.tdr t a.alive.kind))

    pub map-end : AnswersAs (work_of (OfCall row)) w (only (Done value.Nothing)) → FillsAllowed m (hold c hs) (grasp_of c hs) w fills → Respects (hold c hs) w w'
        → (let mem = changed_all later after in Shows m mem.words mem.slots (record (c.state) { world = w' })) → MayOweAll m (hold c hs) w' after later
        → Means m c (work_of (OfCall row)) hs (done fills (changes ++ later)) []
    map-end answers may_fill respects shows owes = (
      record { answers = answers; fills_allowed = may_fill; respects = respects; locks_stay = locks-kept w w' controls alive-then hs; shows = shows },
      (
        ((a.entry.in_machine, split.index x.level x.gpa), (KeepsNothing, entry-writes m c t a.shown a.alive a.controls hs a.locks x.gpa table x.level a.small a.entry KeepsNothing a.tree_alone, tt)),
        (
          (a.page_in, (KeepsNothing, inl (a.page_alone, tt), tt)),
          (((a.tdr_in, omega arith), (KeepsNothing, count-owes m c t a.shown a.alive a.controls hs a.locks a.lawful a.tree_alone w' (alive-then t a.alive) own-then, tt)), owes),
        ),
      ),
    )

-- the locks of the walk, and then of the page
abbrev pub map_locks : Mapping → List Held
map_locks x = page_lock x.page Exclusive ∷ tree_held x.tdr Exclusive ∷ op_lock x.tdr Shared ∷ page_lock x.tdr Shared ∷ []

-- what the arguments of a call say that maps a page while guests may run
pub record CanMap (m : Machine) (x : Mapping) : Type 0 where
  pub tdr : x.tdr < m.pages
  pub gpa : x.gpa < 2 ^ 47
  pub level : x.level ≤ 3
  pub page : x.page < m.pages
  pub apart : (x.page == x.tdr) ≡ false

-- and what it shows of its own: the page may be filled, and is, and the act respects the rules
pub record Fills (m : Machine) (c : Instant) (row : Row) (x : Mapping) (words : ℕ → ℕ → ℕ) (fills : List Change) : Type 0 where
  pub filled : IsFilled m c x words fills
  pub allowed : FillsAllowed m (hold c (map_locks x)) (grasp_of c (map_locks x)) c.state.world fills
  pub respects : Respects (hold c (map_locks x)) c.state.world (row.act c.state.world)

pub holds-map : (x : Mapping) (kept : List Held) → (x.page == x.tdr) ≡ false → HoldsTree (map_locks x ++ kept) x.tdr
holds-map x kept apart = record { tdr = rw (apart, eq-eqb x.tdr x.tdr refl) refl; op = rw (eq-eqb x.tdr x.tdr refl) refl; tree = rw (eq-eqb x.tdr x.tdr refl) refl }

module _ (m : Machine) (c : Instant) (row : Row) (x : Mapping) (ops : List OpState) (words : ℕ → ℕ → ℕ) (fills : List Change) (limit : m.pages ≤ 1024) (la : Lawful m c.state.world) (sh : Shows m c.memory.words c.memory.slots c.state)
    (owned : same_kind x.kind kind.Nda ≡ false) (act_is : row.act c.state.world ≡ mapped x words c.state.world) (answers : AnswersAs (work_of (OfCall row)) c.state.world (only (Done value.Nothing))) where
  abbrev items : List (Item Reply)
  items = state_in c.state.world x.tdr x.gpa x.level (entry.Free ∷ []) ∷ page_exclusive x.page ∷ host_page c.state.world x.page ∷ []

  abbrev IsFree : Type 0
  IsFree = list_any (λ s. same_state s (entry_at c.state.world x.tdr x.level x.gpa).state) (entry.Free ∷ []) ≡ true

  abbrev tree_locks : List Held
  tree_locks = tree_held x.tdr Exclusive ∷ op_lock x.tdr Shared ∷ page_lock x.tdr Shared ∷ []

  module _ (can : CanMap m x) (y : IsTd m c.state.world x.tdr ops) (own : IsFree → is_host c.state.world x.page ≡ true → Fills m c row x words fills) (table : ℕ) (has : HasEntry m c.state.world x.tdr y.controls.root table x.gpa x.level) where
    locks : HoldsTree (map_locks x ++ c.kept) x.tdr
    locks = holds-map x c.kept can.apart

    sole : holds_alone (map_locks x ++ c.kept) (OfTree x.tdr) ≡ true
    sole = rw (eq-eqb x.tdr x.tdr refl) refl

    ended : IsFree → is_host c.state.world x.page ≡ true → Means m c (work_of (OfCall row)) (map_locks x) (done fills (map_changes m.pages x table (children c.state.world x.tdr))) []
    ended free host =
        let its = own free host in
        let may : MayMap m c (map_locks x) x table = record {
          lawful = la;
          shown = sh;
          small = can.gpa;
          tdr_in = can.tdr;
          page_in = can.page;
          alive = y.alive;
          controls = y.controls;
          entry = has;
          locks = locks;
          tree_alone = sole;
          page_alone = rw (eq-eqb x.page x.page refl) refl;
          host = host;
          owned = owned;
        } in
        map-end m c (map_locks x) x table may words fills its.filled row [] (ap (λ (z : World). z.pages) act_is) (ap (λ (z : World). z.tds.lives) act_is) (ap (λ (z : World). z.tds.controls) act_is)
        answers its.allowed its.respects
        (subst (λ (z : World). let mem = changed_all (map_changes m.pages x table (children c.state.world x.tdr)) (changed_all fills c.memory) in Shows m mem.words mem.slots (record (c.state) { world = z })) (sym act_is)
        (map-shown m c (map_locks x) x table may words fills its.filled)) tt

    found-means : Means m c (work_of (OfCall row)) tree_locks (map_tree m.pages fills x (record { page = table; entry = entry_at c.state.world x.tdr x.level x.gpa })) items
    found-means = (
      refl,
      λ e. refl,
      λ free.
          taken-page-means m c sh (work_of (OfCall row)) tree_locks x.tdr x.page y.alive.kind y.own can.tdr can.page (inr (inr (inl (locks.tdr, (locks.op, (sole, tt))))))
          (λ n. done fills (map_changes m.pages x table n)) [] (λ host. ended free host),
    )

  pub map-row-means : (cs : List (Bool × Status)) → (AllHold cs → CanMap m x) → (AllHold cs → IsTd m c.state.world x.tdr ops → IsFree → is_host c.state.world x.page ≡ true → Fills m c row x words fills)
      → Means m c (work_of (OfCall row)) [] (checked cs (td_map_tree m.pages ops fills x))
      (map (λ d. needs d.0 d.1) cs ++ (td_row c.state.world x.tdr Shared ops ++ tree_exclusive x.tdr ∷ (walk c.state.world x.tdr x.gpa x.level ++ items)))
  map-row-means cs can own =
      checks-mean m c (work_of (OfCall row)) [] cs (td_map_tree m.pages ops fills x) (td_row c.state.world x.tdr Shared ops ++ tree_exclusive x.tdr ∷ (walk c.state.world x.tdr x.gpa x.level ++ items)) (λ a.
      let says = can a in
      row-find-means m c (work_of (OfCall row)) x.tdr says.tdr limit la sh (record { op = Shared; tree = Exclusive }) ops tt x.gpa x.level says.gpa says.level (map_tree m.pages fills x) items
      (λ y table has. found-means says y (own a y) table has))
