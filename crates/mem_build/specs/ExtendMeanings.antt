-- The leaf that extends a TD's measurement by a chunk means its row.
use Rattle.std.proofs.Common.{◌≡◌, ℕ, zero, suc, ◌+◌, ◌/◌, ◌%◌, ◌^◌, ◌<◌, ◌≤◌, Bool, true, false, ◌==◌, ◌||◌, List, [], ◌∷◌, ◌++◌, map, Some, refl, sym, subst, inl, arith, append_assoc, append-nil}
use Rattle.std.specs.Prelude.{nat_lt}
use Rattle.std.specs.List.{list_any, range_with_len}
use Rattle.std.proofs.lemmas.Bool.{eq-eqb, eqb-true, ltb-true}
use Rattle.td_words.specs.declared.names.PageKind.TheVariants as kind
use Rattle.td_words.specs.declared.names.EntryState.{EntryState}
use Rattle.td_words.specs.declared.names.EntryState.TheVariants as entry
use Rattle.td_words.specs.declared.names.OpState.TheVariants as op
use Rattle.td_words.specs.declared.names.Mode.TheVariants.{Shared, Exclusive}
use Rattle.td_words.specs.declared.machines.Machine.{Machine}
use Rattle.td_words.specs.declared.refusals.Status.TheVariants.{OperandInvalid}
use Rattle.td_words.specs.declared.replies.Value.TheVariants as value
use Rattle.td_words.specs.declared.replies.Reply.TheVariants.{Done}
use Rattle.td_words.specs.Packing.{Entry}
use Rattle.td_words.specs.Place as place
use Rattle.mrtd_measure.specs.Records.{chunk_records}
use Rattle.flat_core.specs.World.{World}
use Rattle.flat_core.specs.Digests.{digest_bytes}
use Rattle.flat_core.specs.Processor.{LockId, OfPage, OfOp, Held}
use Rattle.flat_core.specs.Effects.{measure}
use Rattle.flat_core.specs.Lawful.{Lawful, IsNodeOf, key_owner, is_free}
use Rattle.flat_core.specs.MemRows.{extend, chunk_bytes}
use Rattle.td_words.specs.Limits.{IsMachine}
use Rattle.flat_core.specs.Tree.{entry_at, number_at, named_page, same_state, state_in, walk, word_of_gpa}
use Rattle.flat_core.specs.Conditions.{tree_shared}
use Rattle.flat_core.specs.Event.{State}
use Rattle.word_rules.specs.Rules.{Whole, KeepsNothing, GuestWord, writes, owes}
use Rattle.word_rules.specs.Views.{no_page}
use Rattle.word_rules.specs.Spots.{spot, slot_of}
use Rattle.word_rules.specs.Permissions.{MayAt, Reads}
use Rattle.word_rules.specs.Cells.{Shows, IsAs, lock_word, built_hasher}
use Rattle.lock_words.specs.Grips.{holds, holds_alone}
use Rattle.lock_words.specs.LockWords.{TdStands}
use Rattle.act_rules.specs.Acts.{SameSpots}
use Rattle.act_rules.proofs.Respected.{effects-respect}
use Rattle.leaf_engine.specs.declared.needs.Place.{Place}
use Rattle.leaf_engine.specs.Changes.{Memory, changed_all, changes_where}
use Rattle.leaf_engine.specs.Trees.{Tree, acts}
use Rattle.leaf_engine.specs.Means.{Instant, IsHkid, Means, MeansRow, MayChange, Work, work_of, OfCall, hold}
use Rattle.leaf_parts.proofs.Aside.{untold}
use Rattle.leaf_parts.proofs.Begun.{page_lock, op_lock, page-in, IsTd}
use Rattle.leaf_parts.proofs.Checks.{td-row-means, tdr-load}
use Rattle.leaf_parts.proofs.Hashers.{initialized, hasher-told, hashers-but}
use Rattle.leaf_parts.proofs.Keys.{hkid-in}
use Rattle.leaf_parts.proofs.Told.{only-op}
use Rattle.sept_parts.specs.SeptTrees.{state_tree}
use Rattle.sept_parts.proofs.SeptBegun.{td-find-means}
use Rattle.sept_parts.proofs.SeptLocks.{tree_held}
use Rattle.mem_build.specs.ExtendTrees.{measure_changes, words_tree, measure_tree, chunk_tree, mapped_tree, measured_tree, extend_task}

-- a MAPPED entry names a page
mapped-names : (s : EntryState) → list_any (λ a. same_state a s) (entry.Mapped ∷ []) ≡ true → is_free s ≡ false
mapped-names entry.Mapped h = refl
mapped-names entry.Free h = cc
mapped-names entry.Blocked h = refl
mapped-names entry.Pending h = refl
mapped-names entry.PendingBlocked h = refl
mapped-names entry.NlMapped h = refl
mapped-names entry.NlBlocked h = refl
mapped-names entry.BlockedW h = refl
mapped-names entry.ExportedBlockedW h = refl
mapped-names entry.ExportedDirty h = refl
mapped-names entry.ExportedDirtyBlockedW h = refl

-- a lock that was held stays so under one more
or-more : (a b : Bool) → b ≡ true → (a || b) ≡ true
or-more true b h = refl
or-more false b h = h

-- the chunk stands in its page
chunk-fits : (gpa : ℕ) → gpa % 256 ≡ 0 → gpa % 4096 / 8 + 32 ≤ 512
chunk-fits gpa aligned = omega (arith, aligned)

-- words that show the state before show the one after, once the hasher has measured the chunk
module _ (m : Machine) (s : State) (mem : Memory) (t gpa : ℕ) (words : List ℕ) (sh : Shows m mem.words mem.slots s) (la : Lawful m s.world) (x : IsTd m s.world t initialized) where
  abbrev w : World
  w = s.world

  abbrev w' : World
  w' = measure t (chunk_records gpa (digest_bytes words)) s.world

  abbrev h : ℕ
  h = s.world.tds.hkids t

  abbrev locks : LockId → ℕ
  locks = lock_word s.lps s.lp_count

  abbrev after : Memory
  after = changed_all (measure_changes gpa (s.world.tds.hkids t) words) mem

  its-hasher : IsAs (built_hasher w' (Some t)) (after.slots h)
  its-hasher = rw (x.configured, only-op op.Initialized (w.tds.ops t) x.op, eq-eqb t t refl, eq-eqb h h refl, hasher-told m w t mem.slots sh.hasher la x) refl

  pub measured-on : Shows m after.words after.slots (record s { world = w' })
  measured-on = record {
    word = untold m mem.words s w'.tds.measured w.hidden.memories sh.word;
    hasher = hashers-but m w w' t mem.slots after.slots la x.alive refl (λ u n. rw n refl) (λ k n. rw n refl) its-hasher sh.hasher;
  }

-- the leaf
module _ (m : Machine) (c : Instant) (t gpa : ℕ) (in_page : t < m.pages) (limit : m.pages ≤ 1024) (small : gpa < 2 ^ 47) (aligned : gpa % 256 ≡ 0) (la : Lawful m c.state.world) (sh : Shows m c.memory.words c.memory.slots c.state) (x : IsTd m c.state.world t initialized) where
  abbrev v : World
  v = c.state.world

  abbrev k : Work
  k = work_of (OfCall (extend m t gpa))

  abbrev e : Entry
  e = entry_at c.state.world t 0 gpa

  abbrev p : ℕ
  p = (entry_at c.state.world t 0 gpa).page

  abbrev hkid : ℕ
  hkid = c.state.world.tds.hkids t

  abbrev tree : List Held
  tree = tree_held t Shared ∷ op_lock t Exclusive ∷ page_lock t Shared ∷ []

  abbrev all : List Held
  all = page_lock (entry_at c.state.world t 0 gpa).page Shared ∷ tree_held t Shared ∷ op_lock t Exclusive ∷ page_lock t Shared ∷ []

  -- the locks held
  tdr-held : holds (all ++ c.kept) (OfPage t) ≡ true
  tdr-held = or-more (p == t) (holds (tree ++ c.kept) (OfPage t)) (rw (eq-eqb t t refl) refl)

  op-held : holds (all ++ c.kept) (OfOp t) ≡ true
  op-held = rw (eq-eqb t t refl) refl

  op-alone : holds_alone (all ++ c.kept) (OfOp t) ≡ true
  op-alone = rw (eq-eqb t t refl) refl

  own-held : holds (all ++ c.kept) (OfPage p) ≡ true
  own-held = rw (eq-eqb p p refl) refl

  builds : v.tds.ops t ≡ op.Initialized
  builds = only-op op.Initialized (v.tds.ops t) x.op

  range : IsHkid m hkid
  range = la.keys.in_range t x.alive

  module _ (node : IsNodeOf c.state.world.pages t (entry_at c.state.world t 0 gpa).page kind.Reg 0 (number_at 0 gpa)) (p_in : (entry_at c.state.world t 0 gpa).page < m.pages) where
    -- the words of the page
    said : (i : ℕ) → i < 512 → c.memory.words (place.Word p i) ≡ v.words p i
    said i b = rw (node.page.kind) at (sh.word (place.Word p i) (p_in, b))

    page-spot : (i : ℕ) → spot v (place.Word p i) ≡ record { class = GuestWord false; td = t; page = p; named = no_page }
    page-spot i = rw (node.page.kind, node.page.owner, builds) refl

    word-reads : (i : ℕ) → Reads (hold c all) v (place.Word p i) Whole
    word-reads i = rw (page-spot i) (inl (tdr-held, (op-held, (own-held, tt))))

    words-mean : (left at : ℕ) (seen : List ℕ) (further : List ℕ → Tree) → at + left ≤ 512 → Means m c k all (further (seen ++ map (v.words p) (range_with_len at left))) [] → Means m c k all (words_tree p at left seen further) []
    unfolding words_tree
    words-mean zero at seen further fits h = subst (λ (xs : List ℕ). Means m c k all (further xs) []) (append-nil seen) h
    words-mean (suc left) at seen further fits h =
        let b : at < 512 = omega (arith, fits) in (
          (p_in, b),
          inl (word-reads at),
          subst (λ (a : ℕ). Means m c k all (words_tree p (at + 1) left (seen ++ a ∷ []) further) []) (sym (said at b))
              (words-mean left (at + 1) (seen ++ v.words p at ∷ []) further (omega (arith, fits))
              (subst (λ (xs : List ℕ). Means m c k all (further xs) []) (sym (append_assoc seen (v.words p at ∷ []) (map (v.words p) (range_with_len (at + 1) left)))) h)),
        )

    -- the end
    abbrev words : List ℕ
    words = map (c.state.world.words (entry_at c.state.world t 0 gpa).page) (range_with_len (word_of_gpa gpa) 32)

    abbrev v' : World
    v' = measure t (chunk_records gpa (chunk_bytes (c.state.world.words (entry_at c.state.world t 0 gpa).page) gpa)) c.state.world

    may-swap : MayAt (hold c all) (slot_of (key_owner (v.key_table.keys hkid))) (λ a. writes a KeepsNothing)
    may-swap = rw (la.keys.owner t x.alive) (inl (tdr-held, (op-alone, tt)))

    may-owe : MayAt (hold c all) (slot_of (key_owner (v.key_table.keys hkid))) (λ a. owes a KeepsNothing)
    may-owe = rw (la.keys.owner t x.alive) (inl (tdr-held, (op-alone, tt)))

    may-change : MayChange m (hold c all) v v' c.memory (measure_changes gpa hkid words)
    may-change = ((range, may-swap), ((range, may-owe), tt))

    same : SameSpots v v'
    same = record {
      words = record { kinds = refl; owners = refl; levels = refl; numbers = refl; tds = λ u. record { op = refl; controls = refl; epoch = refl; empty = λ b. refl; named = λ n. refl } };
      lives = refl;
      keys = λ a. refl;
    }

    stands-on : TdStands v t → TdStands v' t
    stands-on a = record { alive = record { kind = a.alive.kind; life = a.alive.life }; has_tdcs = a.has_tdcs }

    ended : Means m c k all (acts (Done value.Nothing) (measure_changes gpa hkid words)) []
    ended = (
      record {
        answers = record { reply_is = refl; cached_is = refl; enters_is = refl; notes_are = refl; tells_are = refl; bundles_are = refl };
        fills_allowed = tt;
        respects = (effects-respect (hold c all) v).leaves v' same;
        locks_stay = ((refl, λ a. a), ((refl, stands-on), ((refl, stands-on), ((refl, λ a. a), tt))));
        shows = measured-on m c.state c.memory t gpa words sh la x;
      },
      may-change,
    )

    ends : Means m c k all (measure_tree m gpa hkid words) []
    ends = subst (λ (b : Bool). Means m c k all (acts (Done value.Nothing) (changes_where b (measure_changes gpa hkid words))) []) (sym (hkid-in m hkid range)) ended

    measures : Means m c k all (measured_tree m t gpa p) []
    measures =
        tdr-load m c k all sh t 1 hkid x.alive.kind x.own in_page (omega arith) refl (inl (tdr-held, tt)) (λ n. chunk_tree m gpa p n (word_of_gpa gpa) 32 []) []
        (words-mean 32 (word_of_gpa gpa) [] (measure_tree m gpa hkid) (chunk-fits gpa aligned) ends)

  -- the entry is MAPPED, and the page that it names is held
  mapped-means : Means m c k tree (state_tree e (entry.Mapped ∷ []) (Rattle.leaf_engine.specs.Trees.Lock (OfPage p) (place.Lock p) Shared (measured_tree m t gpa p))) (state_in v t gpa 0 (entry.Mapped ∷ []) ∷ named_page v t gpa 0 Shared ∷ [])
  mapped-means = (
    refl,
    λ f. refl,
    λ f. (let node : IsNodeOf v.pages t p kind.Reg 0 (number_at 0 gpa) = (la.tree.lowest t (number_at 0 gpa) x.alive (mapped-names e.state f)).1 in
        let p_in : p < m.pages = page-in m v t p kind.Reg la node.page refl in (
          refl,
          refl,
          record { in_machine = p_in; at = refl; stands = tt; allowed = inl tt },
          measures node p_in,
        )),
  )

  conditions-mean : Means m c k (op_lock t Exclusive ∷ page_lock t Shared ∷ []) (mapped_tree m.pages t x.controls.tdcs gpa (measured_tree m t gpa)) (tree_shared t ∷ (walk v t gpa 0 ++ state_in v t gpa 0 (entry.Mapped ∷ []) ∷ named_page v t gpa 0 Shared ∷ []))
  conditions-mean =
      td-find-means m c k t in_page limit la sh initialized x Shared Exclusive tt gpa 0 small (omega arith)
      (λ f. state_tree f.entry (entry.Mapped ∷ []) (Rattle.leaf_engine.specs.Trees.Lock (OfPage f.entry.page) (place.Lock f.entry.page) Shared (measured_tree m t gpa f.entry.page)))
      (state_in v t gpa 0 (entry.Mapped ∷ []) ∷ named_page v t gpa 0 Shared ∷ []) (λ page has. mapped-means)

pub extend-means : (p : Place) (t gpa : ℕ) → IsMachine p.machine → MeansRow (extend_task p t gpa)
extend-means p t gpa machine = record {
  means = λ c at.
      (let m : Machine = p.machine in
      td-row-means m c (work_of (OfCall (extend m t gpa))) t at.lawful at.shown ((nat_lt t m.pages, OperandInvalid 1) ∷ (nat_lt gpa (2 ^ 47), OperandInvalid 2) ∷ (gpa % 256 == 0, OperandInvalid 2) ∷ []) (λ a. ltb-true t m.pages a.0) Exclusive initialized
      (λ td. mapped_tree m.pages t td.tdcs gpa (measured_tree m t gpa)) (tree_shared t ∷ (walk c.state.world t gpa 0 ++ state_in c.state.world t gpa 0 (entry.Mapped ∷ []) ∷ named_page c.state.world t gpa 0 Shared ∷ []))
      (λ a x. conditions-mean m c t gpa (ltb-true t m.pages a.0) machine.pages.1 (ltb-true gpa (2 ^ 47) a.1.0) (eqb-true (gpa % 256) 0 a.1.1.0) at.lawful at.shown x));
}
