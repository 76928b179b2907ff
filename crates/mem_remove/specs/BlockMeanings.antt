-- The leaves that block and unblock an entry of a TD's secure EPT mean their rows.
use Rattle.std.proofs.Common.{ℕ, ◌%◌, ◌^◌, ◌<◌, ◌≤◌, Bool, ◌==◌, nat_lt, List, [], ◌∷◌, ◌++◌, refl, inl, arith}
use Rattle.std.specs.Prelude.{nat_le}
use Rattle.std.proofs.lemmas.Bool.{ltb-true, leb-true}
use Rattle.td_words.specs.declared.names.EntryState.{EntryState}
use Rattle.td_words.specs.declared.machines.Machine.{Machine}
use Rattle.td_words.specs.declared.refusals.Status.{Status}
use Rattle.td_words.specs.declared.refusals.Status.TheVariants.{OperandInvalid}
use Rattle.td_words.specs.Limits.{IsMachine}
use Rattle.td_words.specs.Packing.{Entry}
use Rattle.flat_core.specs.World.{World}
use Rattle.flat_core.specs.Processor.{Held}
use Rattle.flat_core.specs.Access.{LawfulEpochs}
use Rattle.flat_core.specs.Arguments.{level_size}
use Rattle.flat_core.specs.Effects.{set_state}
use Rattle.flat_core.specs.Lawful.{Lawful}
use Rattle.flat_core.specs.MemRows.{open_states, blocked_states, blocked_state, unblocked_state, block_range, unblock_range, named_row}
use Rattle.flat_core.specs.Tracking.{tracked_page}
use Rattle.flat_core.specs.Tree.{entry_at, number_at}
use Rattle.flat_core.proofs.Ranges.{block_restates, unblock_restates}
use Rattle.sept_walk.specs.SecureEpt.{index_at}
use Rattle.sept_walk.proofs.Meets.{split}
use Rattle.word_rules.specs.Guards.{Grip}
use Rattle.word_rules.specs.Rules.{KeepsNothing}
use Rattle.word_rules.specs.Permissions.{Respects}
use Rattle.word_rules.specs.Cells.{Shows}
use Rattle.word_rules.proofs.Conflicts.{respects-compose}
use Rattle.lock_words.specs.LockWords.{TdStands}
use Rattle.act_rules.proofs.Respected.{effects-respect}
use Rattle.leaf_engine.specs.declared.needs.Place.{Place}
use Rattle.leaf_engine.specs.Trees.{done}
use Rattle.leaf_engine.specs.Means.{Instant, Means, MeansRow, MayAct, Work, work_of, OfCall, hold}
use Rattle.leaf_parts.proofs.Checks.{checks-mean}
use Rattle.sept_parts.proofs.SeptLocks.{entry-writes}
use Rattle.mem_remove.specs.NamedMeanings.{named_locks, IsNamed, HoldsNamed, holds-named, named-locks-stay, named-means}
use Rattle.mem_remove.specs.TrackedMeanings.{epoch-told-means, tracked-means}
use Rattle.mem_remove.specs.RangeTrees.{state_change, block_changes, block_rest, block_map, range_block_task, unblock_changes, unblock_rest, unblock_map, range_unblock_task}
use Rattle.mem_remove.specs.RangeShows.{restated-shown, blocked-shown}

-- an entry in one of these states gets another one, under the locks of the beginning
module _ (m : Machine) (c : Instant) (t gpa level : ℕ) (allowed : List EntryState) (la : Lawful m c.state.world) (sh : Shows m c.memory.words c.memory.slots c.state) (epochs : LawfulEpochs c.state.world) (small : gpa < 2 ^ 47)
    (x : IsNamed m c.state.world t gpa level allowed) where
  abbrev w : World
  w = c.state.world

  abbrev e : Entry
  e = entry_at c.state.world t level gpa

  abbrev hs : List Held
  hs = named_locks t (entry_at c.state.world t level gpa).page

  abbrev g : Grip
  g = hold c hs

  locks : HoldsNamed (hs ++ c.kept) t e.page
  locks = holds-named t e.page c.kept x.apart

  begun : 1 ≤ w.tds.epochs t
  begun = la.tds.epoch_begun t (λ o. let no = rw o at x.td.op in cc)

  restated-respects : (s : EntryState) → Respects g w (set_state t level (number_at level gpa) s w)
  restated-respects s = (effects-respect g w).entry t level (number_at level gpa) (record { state = s; page = e.page; mark = 0 }) (record { tdr = locks.tree.tdr; op = locks.tree.op }) locks.tree_alone

  may-restate : (s : EntryState) → MayAct m g w c.memory (state_change x.page (index_at level gpa) e.page s)
  may-restate s = ((x.has.in_machine, split.index level gpa), (KeepsNothing, entry-writes m c t sh x.td.alive x.td.controls hs locks.tree gpa x.page level small x.has KeepsNothing locks.tree_alone, tt))

-- MEM.RANGE.BLOCK
module _ (m : Machine) (c : Instant) (t gpa level : ℕ) (la : Lawful m c.state.world) (sh : Shows m c.memory.words c.memory.slots c.state) (epochs : LawfulEpochs c.state.world) (small : gpa < 2 ^ 47) (x : IsNamed m c.state.world t gpa level open_states) where
  abbrev v : World
  v = c.state.world

  abbrev k : Work
  k = work_of (OfCall (block_range m t gpa level))

  abbrev v' : World
  v' = k.act v

  abbrev p : ℕ
  p = (entry_at c.state.world t level gpa).page

  abbrev s : EntryState
  s = (entry_at c.state.world t level gpa).state

  abbrev held : List Held
  held = named_locks t p

  holding : HoldsNamed (held ++ c.kept) t p
  holding = holds-named t p c.kept x.apart

  abbrev between : World
  between = set_state t level (number_at level gpa) (blocked_state s) v

  respects : Respects (hold c held) v v'
  respects = respects-compose.both (hold c held) v between v' (restated-respects m c t gpa level open_states la sh epochs small x (blocked_state s))
      ((effects-respect (hold c held) between).leaves v' (record {
        words = record { kinds = refl; owners = refl; levels = refl; numbers = refl; tds = λ u. record { op = refl; controls = refl; epoch = refl; empty = λ b. refl; named = λ n. refl } };
        lives = refl;
        keys = λ h. refl;
      }))

  stands-on : TdStands v t → TdStands v' t
  stands-on a = record { alive = record { kind = a.alive.kind; life = a.alive.life }; has_tdcs = a.has_tdcs }

  blocked : Means m c k held (done [] (block_changes t level x.page (index_at level gpa) p s (v.tds.epochs t))) []
  blocked = (
    record {
      answers = record { reply_is = refl; cached_is = refl; enters_is = refl; notes_are = refl; tells_are = refl; bundles_are = refl };
      fills_allowed = tt;
      respects = respects;
      locks_stay = named-locks-stay v v' t p refl stands-on;
      shows = blocked-shown m c.state c.memory t gpa level x.page sh la x.td.alive x.td.controls small x.has x.node s;
    },
    (
      may-restate m c t gpa level open_states la sh epochs small x (blocked_state s),
      ((x.in_machine, (KeepsNothing, inl (holding.page_alone, tt), tt)), tt),
    ),
  )

  pub block-means : Means m c k held (block_rest t level (index_at level gpa) (record { tdcs = x.td.controls.tdcs; page = x.page; entry = entry_at c.state.world t level gpa })) []
  block-means =
      epoch-told-means m c (block_range m t gpa level) t held la sh epochs _ x.td (begun m c t gpa level open_states la sh epochs small x) holding.tree.tdr holding.tree.op holding.epoch
      (λ epoch. done [] (block_changes t level x.page (index_at level gpa) p s epoch)) [] blocked

-- MEM.RANGE.UNBLOCK
module _ (m : Machine) (c : Instant) (t gpa level : ℕ) (limit : m.pages < 65536) (la : Lawful m c.state.world) (sh : Shows m c.memory.words c.memory.slots c.state) (epochs : LawfulEpochs c.state.world) (small : gpa < 2 ^ 47) (x : IsNamed m c.state.world t gpa level blocked_states) where
  abbrev u : World
  u = c.state.world

  abbrev j : Work
  j = work_of (OfCall (unblock_range m t gpa level))

  abbrev u' : World
  u' = j.act u

  abbrev q : ℕ
  q = (entry_at c.state.world t level gpa).page

  abbrev r : EntryState
  r = (entry_at c.state.world t level gpa).state

  abbrev these : List Held
  these = named_locks t q

  with-these : HoldsNamed (these ++ c.kept) t q
  with-these = holds-named t q c.kept x.apart

  stand-on : TdStands u t → TdStands u' t
  stand-on a = record { alive = record { kind = a.alive.kind; life = a.alive.life }; has_tdcs = a.has_tdcs }

  unblocked : Means m c j these (done [] (unblock_changes x.page (index_at level gpa) q r)) []
  unblocked = (
    record {
      answers = record { reply_is = refl; cached_is = refl; enters_is = refl; notes_are = refl; tells_are = refl; bundles_are = refl };
      fills_allowed = tt;
      respects = restated-respects m c t gpa level blocked_states la sh epochs small x (unblocked_state r);
      locks_stay = named-locks-stay u u' t q refl stand-on;
      shows = restated-shown m c.state c.memory t gpa level x.page sh la x.td.alive x.td.controls small x.has (unblocked_state r);
    },
    (may-restate m c t gpa level blocked_states la sh epochs small x (unblocked_state r), tt),
  )

  pub unblock-means : Means m c j these (unblock_rest (index_at level gpa) (record { tdcs = x.td.controls.tdcs; page = x.page; entry = entry_at c.state.world t level gpa })) (tracked_page u t q ∷ [])
  unblock-means =
      tracked-means m c (unblock_range m t gpa level) t these la sh epochs _ x.td (begun m c t gpa level blocked_states la sh epochs small x) with-these.tree.tdr with-these.tree.op with-these.epoch
      limit q x.in_machine with-these.page (done [] (unblock_changes x.page (index_at level gpa) q r)) [] (λ tracked. unblocked)

abbrev arguments : Machine → (t gpa level : ℕ) → List (Bool × Status)
arguments m t gpa level = (nat_lt t m.pages, OperandInvalid 1) ∷ (nat_lt gpa (2 ^ 47), OperandInvalid 2) ∷ (nat_le level 3, OperandInvalid 3) ∷ (gpa % level_size level == 0, OperandInvalid 2) ∷ []

pub range_block-means : (p : Place) (t gpa level : ℕ) → IsMachine p.machine → MeansRow (range_block_task p t gpa level)
range_block-means p t gpa level limits = record {
  means = λ c at.
      (let m : Machine = p.machine in
      checks-mean m c (work_of (OfCall (block_range m t gpa level))) [] (arguments m t gpa level) (block_map m t gpa level) (named_row c.state.world t gpa level open_states []) (λ a.
      let small : gpa < 2 ^ 47 = ltb-true gpa (2 ^ 47) a.1.0 in
      named-means m c (work_of (OfCall (block_range m t gpa level))) t (ltb-true t m.pages a.0) limits.pages.1 at.lawful at.shown gpa level small (leb-true level 3 a.1.1.0) open_states (λ s h. (block_restates s h).used)
      (block_rest t level (index_at level gpa)) [] (λ x. block-means m c t gpa level at.lawful at.shown at.facts.access.epochs small x)));
}

pub range_unblock-means : (p : Place) (t gpa level : ℕ) → IsMachine p.machine → MeansRow (range_unblock_task p t gpa level)
range_unblock-means p t gpa level limits = record {
  means = λ c at.
      (let m : Machine = p.machine in
      let few : m.pages ≤ 1024 = limits.pages.1 in
      let rest = tracked_page c.state.world t (entry_at c.state.world t level gpa).page ∷ [] in
      checks-mean m c (work_of (OfCall (unblock_range m t gpa level))) [] (arguments m t gpa level) (unblock_map m t gpa level) (named_row c.state.world t gpa level blocked_states rest) (λ a.
      let small : gpa < 2 ^ 47 = ltb-true gpa (2 ^ 47) a.1.0 in
      named-means m c (work_of (OfCall (unblock_range m t gpa level))) t (ltb-true t m.pages a.0) few at.lawful at.shown gpa level small (leb-true level 3 a.1.1.0) blocked_states (λ s h. (unblock_restates s h).used)
      (unblock_rest (index_at level gpa)) rest (λ x. unblock-means m c t gpa level (omega (arith, few)) at.lawful at.shown at.facts.access.epochs small x)));
}
