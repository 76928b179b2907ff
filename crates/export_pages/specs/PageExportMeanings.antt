-- The leaf that exports a page means its row.
use Rattle.std.proofs.Common.{◌≡◌, ℕ, ◌%◌, ◌^◌, ◌<◌, ◌≤◌, Bool, true, false, not, ◌==◌, nat_lt, None, List, [], ◌∷◌, ◌++◌, length, refl, ap, sym, ◌∙◌, subst, inl, inr, arith}
use Rattle.std.specs.List.{list_any}
use Rattle.std.proofs.lemmas.Bool.{eq-eqb, ne_eqb, lt-ltb, ltb-true}
use Rattle.td_words.specs.declared.names.PageKind.TheVariants as kind
use Rattle.td_words.specs.declared.names.EntryState.TheVariants as entry
use Rattle.td_words.specs.declared.names.OpState.{OpState}
use Rattle.td_words.specs.declared.names.OpState.TheVariants as op
use Rattle.td_words.specs.declared.names.Mode.TheVariants.{Shared, Exclusive}
use Rattle.td_words.specs.declared.machines.Machine.{Machine}
use Rattle.td_words.specs.declared.refusals.Status.{Status}
use Rattle.td_words.specs.declared.refusals.Status.TheVariants.{OperandInvalid, NoStream, ExportedThisEpoch}
use Rattle.td_words.specs.declared.replies.Reply.{Reply}
use Rattle.td_words.specs.Limits.{IsMachine}
use Rattle.td_words.specs.NameNumber.{op_number}
use Rattle.td_words.specs.Packing.{Entry, entry_word, is_exported, is_lawful_entry}
use Rattle.td_words.specs.Place.{WordPlace}
use Rattle.td_words.specs.Place as place
use Rattle.td_words.proofs.Unpacked.{packings}
use Rattle.flat_core.specs.World.{World, Made}
use Rattle.flat_core.specs.Processor.{OfPage, OfEpoch, Held}
use Rattle.flat_core.specs.Row.{Item}
use Rattle.flat_core.specs.Arguments.{level_size}
use Rattle.flat_core.specs.Conditions.{page_exclusive, tree_shared, epoch_shared}
use Rattle.flat_core.specs.ExportRows.{abortable_ops}
use Rattle.flat_core.specs.Effects.{set_entry}
use Rattle.flat_core.specs.BundleRows.{exportable, tracked_in, export_pages}
use Rattle.flat_core.specs.Sessions.{payload_words, stream_page, stream_counter, has_stream, counter_room, other_epoch}
use Rattle.flat_core.specs.Lawful.{Lawful, IsPageOf}
use Rattle.flat_core.specs.Tree.{entry_at, number_at, same_state, walk, state_in, has_page, named_page}
use Rattle.sept_walk.specs.SecureEpt.{index_at}
use Rattle.sept_walk.proofs.Meets.{split}
use Rattle.word_rules.specs.Guards.{Grip}
use Rattle.word_rules.specs.Rules.{StreamWord, ThePage, Whole, KeepsNothing, KeepsPage, reads, owes}
use Rattle.word_rules.specs.Views.{named_by, look, of_entry}
use Rattle.word_rules.specs.Lines.{in_lines}
use Rattle.word_rules.specs.Spots.{or_unused, stream_classes}
use Rattle.word_rules.specs.Permissions.{MayAt, Owes, Respects}
use Rattle.word_rules.specs.Cells.{Shows}
use Rattle.lock_words.specs.Grips.{holds, holds_alone}
use Rattle.lock_words.specs.LockWords.{TdStands}
use Rattle.act_rules.proofs.Respected.{then-leaves, effects-respect}
use Rattle.leaf_engine.specs.declared.needs.Place.{Place}
use Rattle.leaf_engine.specs.Facts.{Facts}
use Rattle.leaf_engine.specs.Changes.{Change, changed_all}
use Rattle.leaf_engine.specs.Trees.{Tree, Lock, Load, needs}
use Rattle.leaf_engine.specs.Means.{Instant, Means, MeansRow, MayChange, Work, work_of, OfCall, hold, acted}
use Rattle.leaf_parts.specs.declared.heads.Td.{Td}
use Rattle.leaf_parts.proofs.Aside.{apart}
use Rattle.leaf_parts.proofs.Begun.{IsTd, TwoControls, op_lock, page_lock, page-in}
use Rattle.leaf_parts.proofs.Checks.{spot_of, at-spot, td-row-means}
use Rattle.sept_parts.specs.SeptPages.{HoldsTree}
use Rattle.sept_parts.proofs.SeptLocks.{named-writes}
use Rattle.sept_parts.proofs.SeptTold.{said}
use Rattle.stream_parts.specs.declared.rooms.Room.{Room}
use Rattle.stream_parts.specs.Rooms.{counter_tree}
use Rattle.stream_parts.proofs.StreamWords.{abortable, listed, page-of, stream-spot}
use Rattle.stream_parts.proofs.StreamMeans.{HoldsHead, stream-load, counter-means, tdcs-means, page-means, session-means, mig_epoch-means}
use Rattle.mem_remove.specs.declared.named_entries.Named.{Named}
use Rattle.mem_remove.specs.TrackedMeanings.{tracked-means}
use Rattle.export_core.specs.SharedMeanings.{named-page, writable_locks, IsWritable, HoldsWritable, holds-writable, writable-locks-stay, map-means}
use Rattle.export_pages.specs.declared.page_exports.Exporting.{Exporting}
use Rattle.export_pages.specs.PageExportTrees.{td_rest, exportable_tree, named_rest, held_room_tree, tracked_in_tree, said_tree, counted_at, page_bundle, page_export_changes, page_export_end, page_words_tree, page_export_task}
use Rattle.export_pages.specs.PageExportShows.{counted_word, counted_of, counted-line, page-shown}
use Rattle.export_pages.specs.PageExportWords.{IsStill, write-clear, words-mean}

-- an export that can be aborted runs, or is paused
by-op : {A : Type 0} (o : OpState) → list_any (λ s. op_number s == op_number o) abortable_ops ≡ true → (o ≡ op.LiveExport → A) → (o ≡ op.PausedExport → A) → A
by-op op.LiveExport h live paused = live refl
by-op op.PausedExport h live paused = paused refl
by-op _ h live paused = cc

-- the entry of a page that was exported has a packing
exported-lawful : (p mark : ℕ) → p < 1024 → mark < 2 ^ 32 → 1 ≤ mark → is_lawful_entry (record { state = entry.ExportedBlockedW; page = p; mark = mark }) ≡ true
exported-lawful p mark few small begun = rw (lt-ltb p 1024 few, lt-ltb mark (2 ^ 32) small, ne_eqb mark 0 (λ e. omega (arith, e, begun))) refl

-- the words of a stream's page under P of it alone, with P of the TDR page, O and T in any mode
class-of : (again : Bool) → or_unused (in_lines stream_classes (counted_word again)) ≡ StreamWord
class-of true = refl
class-of false = refl

word-in : (again : Bool) → counted_word again < 512
word-in true = omega arith
word-in false = omega arith

stream-owed : (g : Grip) (w : World) (t p i : ℕ) → or_unused (in_lines stream_classes i) ≡ StreamWord → MayAt g (spot_of StreamWord t p) (λ z. owes z KeepsNothing) → IsPageOf w.pages t p kind.Migsc → Owes g w (place.Word p i) KeepsNothing
stream-owed g w t p i class may its = at-spot g w (place.Word p i) (spot_of StreamWord t p) (λ z. owes z KeepsNothing) (stream-spot w t p i its ∙ ap (λ x. spot_of x t p) class) may

-- which locks are held once the stream's page is, behind the entry
abbrev stream_locks : (t page stream : ℕ) → List Held
stream_locks t p q = page_lock q Exclusive ∷ writable_locks t p

record HoldsStream (hs : List Held) (t p q : ℕ) : Type 0 where
  tree : HoldsTree hs t
  epoch : holds hs (OfEpoch t) ≡ true
  page : holds hs (OfPage p) ≡ true
  page_alone : holds_alone hs (OfPage p) ≡ true
  stream : holds hs (OfPage q) ≡ true
  stream_alone : holds_alone hs (OfPage q) ≡ true

holds-stream : (t p q : ℕ) (kept : List Held) → (p == t) ≡ false → (q == t) ≡ false → (q == p) ≡ false → HoldsStream (stream_locks t p q ++ kept) t p q
holds-stream t p q kept p_t q_t q_p = record {
  tree = record { tdr = rw (q_t, p_t, eq-eqb t t refl) refl; op = rw (eq-eqb t t refl) refl; tree = rw (eq-eqb t t refl) refl };
  epoch = rw (eq-eqb t t refl) refl;
  page = rw (q_p, eq-eqb p p refl) refl;
  page_alone = rw (q_p, eq-eqb p p refl) refl;
  stream = rw (eq-eqb q q refl) refl;
  stream_alone = rw (eq-eqb q q refl) refl;
}

module _ (m : Machine) (c : Instant) (t gpa k slot : ℕ) (limit : m.pages ≤ 1024) (la : Lawful m c.state.world) (sh : Shows m c.memory.words c.memory.slots c.state) (facts : Facts c.state) (small : gpa < 2 ^ 47) (streams : k < length (c.state.world.tds.streams t))
    (x : IsWritable m c.state.world t gpa abortable_ops (exportable (c.state.world.tds.ops t))) where
  abbrev w : World
  w = c.state.world

  abbrev work : Work
  work = work_of (OfCall (export_pages m t gpa k slot None))

  abbrev w' : World
  w' = (export_pages m t gpa k slot None).act c.state.world

  abbrev e : Entry
  e = entry_at c.state.world t 0 gpa

  abbrev p : ℕ
  p = (entry_at c.state.world t 0 gpa).page

  abbrev q : ℕ
  q = stream_page c.state.world t k

  abbrev z : TwoControls m c.state.world t
  z = x.td.controls

  abbrev again : Bool
  again = is_exported (entry_at c.state.world t 0 gpa).state

  abbrev entry_locks : List Held
  entry_locks = writable_locks t (entry_at c.state.world t 0 gpa).page

  abbrev hs : List Held
  hs = stream_locks t (entry_at c.state.world t 0 gpa).page (stream_page c.state.world t k)

  abbrev g : Grip
  g = hold c hs

  -- its stream's page
  stream : IsPageOf w.pages t q kind.Migsc
  stream = page-of m w t k la x.td.alive streams

  stream_in : q < m.pages
  stream_in = page-in m w t q kind.Migsc la stream refl

  off-page : (q == p) ≡ false
  off-page = apart w.pages.kinds q p kind.Migsc kind.Reg stream.kind x.node.page.kind (λ o. cc)

  off-td : (q == t) ≡ false
  off-td = apart w.pages.kinds q t kind.Migsc kind.Tdr stream.kind x.td.alive.kind (λ o. cc)

  -- the locks held
  writable : HoldsWritable (entry_locks ++ c.kept) t p
  writable = holds-writable t p c.kept x.apart

  entry-head : HoldsHead (entry_locks ++ c.kept) t
  entry-head = record { tdr = writable.tree.tdr; op = writable.tree.op }

  held : HoldsStream (hs ++ c.kept) t p q
  held = holds-stream t p q c.kept x.apart off-td off-page

  head : HoldsHead (hs ++ c.kept) t
  head = record { tdr = held.tree.tdr; op = held.tree.op }

  may-read : MayAt g (spot_of StreamWord t q) (λ y. reads y Whole)
  may-read = inr (inr (inr (inl (held.tree.tdr, (held.tree.op, (held.tree.tree, (held.stream, tt)))))))

  may-owe : MayAt g (spot_of StreamWord t q) (λ y. owes y KeepsNothing)
  may-owe = inr (inr (inr (inl (held.tree.tdr, (held.tree.op, (held.tree.tree, (held.stream_alone, tt)))))))

  -- what is told
  abbrev named : Named
  named = record { tdcs = x.td.controls.tdcs; page = x.page; entry = e }

  abbrev room : Room
  room = record { page = stream_page c.state.world t k; counter = stream_counter c.state.world t k }

  abbrev told : Exporting
  told = record {
    at = x.page;
    page = (entry_at c.state.world t 0 gpa).page;
    state = (entry_at c.state.world t 0 gpa).state;
    room = room;
    session = c.state.world.tds.sessions t;
    epoch = c.state.world.tds.mig_epochs t;
    count = counted_of again c.state.world.streams (stream_page c.state.world t k);
  }

  abbrev words : List ℕ
  words = payload_words (c.state.world.words (entry_at c.state.world t 0 gpa).page) 512

  abbrev made : Made
  made = page_bundle gpa k slot told words

  abbrev changes : List Change
  changes = page_export_changes (index_at 0 gpa) told

  -- the end
  shown : (let mem = changed_all changes c.memory in Shows m mem.words mem.slots (acted work c.state))
  shown = page-shown m c.state c.memory t gpa x.page k sh la x.td.alive z small x.has stream stream_in made

  -- the entry still names the page
  abbrev new : Entry
  new = record { state = entry.ExportedBlockedW; page = (entry_at c.state.world t 0 gpa).page; mark = c.state.world.tds.mig_epochs t }

  respects : Respects g w w'
  respects = then-leaves g w (set_entry t 0 (number_at 0 gpa) new w) w' refl ((effects-respect g w).entry_state t 0 (number_at 0 gpa) new (rw x.used refl))

  begun : 1 ≤ w.tds.mig_epochs t
  begun = la.sessions.mig_epoch_begun t (abortable (w.tds.ops t) x.td.op)

  in_limit : p < 1024
  in_limit = (let inside : p < m.pages = x.in_machine in omega (arith, inside, limit))

  kept : look ThePage (entry_word new) ≡ look ThePage (c.memory.words (place.Word x.page (index_at 0 gpa)))
  kept =
      ap (of_entry named_by) (packings.entry new (exported-lawful p (w.tds.mig_epochs t) in_limit (la.sessions.mig_epoch t) begun))
      ∙ (sym (named-page e x.used) ∙ sym (ap (look ThePage) (said m c.memory c.state t sh x.td.alive z gpa small x.page 0 x.has) ∙ ap (of_entry named_by) (packings.entry e (la.tree.entry limit t 0 (number_at 0 gpa)))))

  alone : holds_alone (hs ++ c.kept) (OfPage (named_by e)) ≡ true
  alone = subst (λ (n : ℕ). holds_alone (hs ++ c.kept) (OfPage n) ≡ true) (sym (named-page e x.used)) held.page_alone

  still-stream : IsPageOf w'.pages t q kind.Migsc
  still-stream = record { kind = stream.kind; owner = stream.owner }

  may-change : MayChange m g w w' c.memory changes
  may-change = (
    ((x.has.in_machine, split.index 0 gpa), (KeepsPage, named-writes m c t sh x.td.alive z hs held.tree gpa x.page small x.has alone, kept)),
    (
      ((stream_in, omega arith), (KeepsNothing, stream-owed g w' t q 0 refl may-owe still-stream, tt)),
      (((stream_in, word-in again), (KeepsNothing, stream-owed g w' t q (counted_word again) (class-of again) may-owe still-stream, tt)), tt),
    ),
  )

  stands-on : TdStands w t → TdStands w' t
  stands-on a = record { alive = record { kind = a.alive.kind; life = a.alive.life }; has_tdcs = a.has_tdcs }

  ended : Means m c work hs (page_export_end gpa k slot told words) []
  ended = (
    record {
      answers = record { reply_is = refl; cached_is = refl; enters_is = refl; notes_are = refl; tells_are = refl; bundles_are = refl };
      fills_allowed = tt;
      respects = respects;
      locks_stay = ((refl, λ y. y), writable-locks-stay w w' t p refl stands-on);
      shows = shown;
    },
    may-change,
  )

  -- the page's words
  contents-mean : IsStill c t p → Means m c work hs (page_words_tree gpa k slot told) []
  contents-mean still = words-mean m c work hs t p sh x.node.page x.in_machine head held.page still 512 0 (omega arith) (page_export_end gpa k slot told) ended

  -- what else the bundle says
  abbrev further : Exporting → Tree
  further = page_words_tree gpa k slot

  said-means : IsStill c t p → Means m c work hs (said_tree named room (w.tds.mig_epochs t) further) []
  said-means still =
      let by : (session count : ℕ) → Exporting = λ s n. record { at = x.page; page = p; state = e.state; room = room; session = s; epoch = w.tds.mig_epochs t; count = n } in
      session-means m c work hs t la sh x.td.alive z head (λ s. Load Whole (place.Word q (counted_at e.state)) (λ n. further (by s n))) []
      (stream-load m c work hs t la sh x.td.alive z q (counted_word again) (counted_of again w.streams q) stream (word-in again) (counted-line again w q)
      (subst (λ y. MayAt g (spot_of y t q) (λ r. reads r Whole)) (sym (class-of again)) may-read)
      (λ n. further (by (w.tds.sessions t) n)) [] (contents-mean still))

  -- the block of the page is tracked, while guests may run
  live-means : w.tds.ops t ≡ op.LiveExport
      → Means m c work hs (tracked_in_tree op.LiveExport z.tdcs p (said_tree named room (w.tds.mig_epochs t) further)) (tracked_in op.LiveExport w t (gpa ∷ []))
  live-means live =
      let begins : 1 ≤ w.tds.epochs t = la.tds.epoch_begun t (λ o. let no = sym live ∙ o in cc) in
      tracked-means m c (export_pages m t gpa k slot None) t hs la sh facts.access.epochs abortable_ops x.td begins held.tree.tdr held.tree.op held.epoch
      (omega (arith, limit)) p x.in_machine held.page (said_tree named room (w.tds.mig_epochs t) further) []
      (λ tracked. said-means (inr (live, write-clear m c t gpa la facts x.td.alive x.used (subst (λ o. list_any (λ a. same_state a e.state) (exportable o) ≡ true) live x.state) tracked)))

  tracked_in-means : Means m c work hs (tracked_in_tree (w.tds.ops t) z.tdcs p (said_tree named room (w.tds.mig_epochs t) further)) (tracked_in (w.tds.ops t) w t (gpa ∷ []))
  tracked_in-means =
      (let In : OpState → Type 0 = λ o. Means m c work hs (tracked_in_tree o z.tdcs p (said_tree named room (w.tds.mig_epochs t) further))
      (tracked_in o w t (gpa ∷ [])) in
      by-op (w.tds.ops t) x.td.op (λ live. subst In (sym live) (live-means live)) (λ paused. subst In (sym paused) (said-means (inl paused))))

  -- the stream's page
  abbrev by_room : Room → Tree
  by_room r = tracked_in_tree (c.state.world.tds.ops t) x.td.controls.tdcs (entry_at c.state.world t 0 gpa).page (said_tree named r (c.state.world.tds.mig_epochs t) further)

  room-means : Means m c work entry_locks (held_room_tree m.pages z.tdcs k by_room) (page_exclusive q ∷ counter_room w t k ∷ tracked_in (w.tds.ops t) w t (gpa ∷ []))
  room-means =
      let few : length (w.tds.streams t) ≤ 4 = la.tds.streams_few t in
      page-means m c work entry_locks t la sh x.td.alive z entry-head k q (omega (arith, few, streams)) (listed w t k streams) stream
      (λ page. Lock (OfPage page) (place.Lock page) Exclusive (counter_tree page by_room))
      (page_exclusive q ∷ counter_room w t k ∷ tracked_in (w.tds.ops t) w t (gpa ∷ [])) (
        refl,
        refl,
        record { in_machine = stream_in; at = refl; stands = tt; allowed = inl tt },
        counter-means m c work hs t la sh x.td.alive z k stream may-read by_room (tracked_in (w.tds.ops t) w t (gpa ∷ [])) (λ has. tracked_in-means),
      )

  -- behind the entry
  pub named_rest-means : Means m c work entry_locks (named_rest m.pages k (w.tds.ops t) named further) (other_epoch w t gpa ∷ page_exclusive q ∷ counter_room w t k ∷ tracked_in (w.tds.ops t) w t (gpa ∷ []))
  named_rest-means =
      mig_epoch-means m c work entry_locks t la sh x.td.alive z entry-head
      (λ epoch. needs (not (e.mark == epoch)) ExportedThisEpoch (held_room_tree m.pages z.tdcs k (λ r. tracked_in_tree (w.tds.ops t) z.tdcs p (said_tree named r epoch further))))
      (other_epoch w t gpa ∷ page_exclusive q ∷ counter_room w t k ∷ tracked_in (w.tds.ops t) w t (gpa ∷ [])) (refl, λ o. refl, λ o. room-means)

-- the items behind the beginning of the row, and behind the entry
abbrev entry_items : World → (t gpa k : ℕ) → List (Item Reply)
entry_items w t gpa k = other_epoch w t gpa ∷ page_exclusive (stream_page w t k) ∷ counter_room w t k ∷ tracked_in (w.tds.ops t) w t (gpa ∷ [])

abbrev stream_items : World → (t gpa k : ℕ) → List (Item Reply)
stream_items w t gpa k =
    tree_shared t ∷ epoch_shared t ∷ (walk w t gpa 0 ++ has_page w t gpa 0 ∷ named_page w t gpa 0 Exclusive ∷ state_in w t gpa 0 (exportable (w.tds.ops t)) ∷ entry_items w t gpa k)

-- behind the beginning of the row
module _ (m : Machine) (c : Instant) (t gpa k slot : ℕ) (in_page : t < m.pages) (limit : m.pages ≤ 1024) (la : Lawful m c.state.world) (sh : Shows m c.memory.words c.memory.slots c.state) (facts : Facts c.state) (small : gpa < 2 ^ 47) (y : IsTd m c.state.world t abortable_ops) where
  abbrev v : World
  v = c.state.world

  abbrev row_work : Work
  row_work = work_of (OfCall (export_pages m t gpa k slot None))

  abbrev its-td : Td
  its-td = record { tdcs = y.controls.tdcs; op = c.state.world.tds.ops t }

  abbrev with_words : Exporting → Tree
  with_words = page_words_tree gpa k slot

  abbrev behind_count : Tree
  behind_count = exportable_tree m.pages t gpa its-td (λ n. named_rest m.pages k (c.state.world.tds.ops t) n with_words)

  td-held : HoldsHead (op_lock t Shared ∷ page_lock t Shared ∷ c.kept) t
  td-held = record { tdr = rw (eq-eqb t t refl) refl; op = rw (eq-eqb t t refl) refl }

  pub td_rest-means : Means m c row_work (op_lock t Shared ∷ page_lock t Shared ∷ []) (td_rest m.pages t gpa k its-td with_words) (has_stream v t k ∷ stream_items v t gpa k)
  td_rest-means =
      tdcs-means m c row_work (op_lock t Shared ∷ page_lock t Shared ∷ []) t la sh y.alive y.controls td-held 48 (length (v.tds.streams t)) (omega arith) refl refl
      (λ count. needs (nat_lt k count) (NoStream k) behind_count) (has_stream v t k ∷ stream_items v t gpa k) (
        refl,
        λ o. refl,
        λ has.
            (let streams : k < length (v.tds.streams t) = ltb-true k (length (v.tds.streams t)) has in
            map-means m c row_work t in_page limit la sh gpa small abortable_ops (exportable (v.tds.ops t)) (λ n. named_rest m.pages k (v.tds.ops t) n with_words) (entry_items v t gpa k)
            (λ x. named_rest-means m c t gpa k slot limit la sh facts small streams x) y),
      )

abbrev arguments : Machine → (t gpa k : ℕ) → List (Bool × Status)
arguments m t gpa k = (nat_lt t m.pages, OperandInvalid 1) ∷ (nat_lt gpa (2 ^ 47), OperandInvalid 2) ∷ (nat_lt k 4, OperandInvalid 3) ∷ (gpa % level_size 0 == 0, OperandInvalid 2) ∷ []

pub page_export-means : (p : Place) (t gpa k slot : ℕ) → IsMachine p.machine → MeansRow (page_export_task p t gpa k slot)
page_export-means p t gpa k slot limits = record {
  means = λ c at.
      (let m : Machine = p.machine in
      let w : World = c.state.world in
      let work : Work = work_of (OfCall (export_pages m t gpa k slot None)) in
      td-row-means m c work t at.lawful at.shown (arguments m t gpa k) (λ a. ltb-true t m.pages a.0) Shared abortable_ops
      (λ td. td_rest m.pages t gpa k td (page_words_tree gpa k slot)) (has_stream w t k ∷ stream_items w t gpa k)
      (λ a y. td_rest-means m c t gpa k slot (ltb-true t m.pages a.0) limits.pages.1 at.lawful at.shown at.facts (ltb-true gpa (2 ^ 47) a.1.0) y));
}
