-- The leaf that imports what doesn't change of a TD, with which a session begins, means its row.
use Rattle.std.proofs.Common.{◌≡◌, ℕ, ◌+◌, ◌<◌, Bool, true, ◌==◌, nat_lt, List, [], ◌∷◌, ◌++◌, length, get_or, Option, refl, sym, subst, inl, inr, arith}
use Rattle.std.specs.List.{list_any}
use Rattle.std.proofs.lemmas.Bool.{eq-eqb, ltb-true}
use Rattle.std.proofs.lemmas.List.Folds.{list_any_at}
use Rattle.td_words.specs.declared.names.PageKind.TheVariants as kind
use Rattle.td_words.specs.declared.names.OpState.{OpState}
use Rattle.td_words.specs.declared.names.OpState.TheVariants as op
use Rattle.td_words.specs.declared.names.HeaderField.TheVariants as field
use Rattle.td_words.specs.declared.names.Mode.TheVariants.{Shared, Exclusive}
use Rattle.td_words.specs.declared.machines.Machine.{Machine}
use Rattle.td_words.specs.declared.refusals.Status.{Status}
use Rattle.td_words.specs.declared.refusals.Status.TheVariants.{OperandInvalid, NoStream, BundleHeader}
use Rattle.td_words.specs.declared.replies.Reply.{Reply}
use Rattle.td_words.specs.NameNumber.{op_number}
use Rattle.td_words.specs.Place as place
use Rattle.flat_core.specs.World.{World, ClearHeader}
use Rattle.flat_core.specs.Processor.{OfKeys, Held}
use Rattle.flat_core.specs.Row.{Item}
use Rattle.flat_core.specs.Opening.{Incoming}
use Rattle.flat_core.specs.Conditions.{keys_exclusive}
use Rattle.flat_core.specs.Effects.{set_op, set_epoch}
use Rattle.flat_core.specs.Lawful.{Lawful, IsPageOf}
use Rattle.flat_core.specs.Sessions.{has_stream, stream_page, stream_counter}
use Rattle.flat_core.specs.Inputs.{Input, input_in, header_says, counter_due, tag_holds}
use Rattle.flat_core.specs.ImportRows.{first_ops, import_immutable}
use Rattle.flat_core.proofs.Tests.{same_self}
use Rattle.word_rules.specs.Guards.{Grip}
use Rattle.word_rules.specs.Lines.{in_lines}
use Rattle.word_rules.specs.Rules.{TdcsWord, KeepsNothing, writes, owes}
use Rattle.word_rules.specs.Spots.{or_unused, tdcs_classes, is_current, is_empty}
use Rattle.word_rules.specs.Permissions.{Owes, Writes, Respects}
use Rattle.word_rules.specs.Cells.{Shows}
use Rattle.word_rules.proofs.Conflicts.{respects-compose}
use Rattle.lock_words.specs.LockWords.{TdStands}
use Rattle.act_rules.proofs.Respected.{leaves, all-same, effects-respect}
use Rattle.leaf_engine.specs.declared.needs.Place.{Place}
use Rattle.leaf_engine.specs.Changes.{Memory, Put, changed_all}
use Rattle.leaf_engine.specs.Trees.{Tree, needs}
use Rattle.leaf_engine.specs.Means.{Instant, Locks, Means, MeansRow, MayChange, Work, work_of, OfCall, hold}
use Rattle.leaf_parts.proofs.Begun.{IsTd, TwoControls, page-in, op_lock, page_lock, keys_lock}
use Rattle.leaf_parts.proofs.Checks.{at-tdcs, td-row-means}
use Rattle.stream_parts.specs.Streams.{page_tree}
use Rattle.stream_parts.proofs.StreamWords.{listed, page-of}
use Rattle.stream_parts.proofs.StreamMeans.{HoldsHead, HoldsAlone, tdcs-means, page-means}
use Rattle.stream_parts.proofs.Counted.{counter-owed}
use Rattle.import_parts.specs.InputTrees.{input_checks, tag_tree, due_tree}
use Rattle.import_parts.proofs.WordPuts.{puts-owed}
use Rattle.import_states.specs.BeginImportTrees.{begin_import_changes, stream_there_tree, session_first_tree, begin_import_tree, begin_import_end, import_immutable_task}
use Rattle.import_states.specs.BeginImportShows.{mrtd-class, import-begun}

only-new : (s : OpState) → list_any (λ a. op_number a == op_number s) first_ops ≡ true → s ≡ op.Uninitialized
only-new op.Uninitialized h = refl
only-new _ h = cc

module _ (m : Machine) (b : Option Incoming) (c : Instant) (t slot : ℕ) (la : Lawful m c.state.world) (sh : Shows m c.memory.words c.memory.slots c.state) (x : IsTd m c.state.world t first_ops) where
  abbrev w : World
  w = c.state.world

  abbrev w' : World
  w' = (import_immutable m b t slot).act c.state.world

  abbrev k : Work
  k = work_of (OfCall (import_immutable m b t slot))

  abbrev y : Input
  y = input_in b

  abbrev h : ClearHeader
  h = (input_in b).header

  abbrev z : TwoControls m c.state.world t
  z = x.controls

  abbrev d : ℕ
  d = x.controls.tdcs

  abbrev p : ℕ
  p = stream_page c.state.world t 0

  abbrev ends : (page : ℕ) → Tree
  ends page = begin_import_end (input_in b) (record { tdcs = x.controls.tdcs; page = page })

  -- what is held
  abbrev td_locks : List Held
  td_locks = op_lock t Exclusive ∷ page_lock t Shared ∷ []

  abbrev hs : List Held
  hs = keys_lock ∷ op_lock t Exclusive ∷ page_lock t Shared ∷ []

  abbrev g : Grip
  g = hold c hs

  itself : (t == t) ≡ true
  itself = eq-eqb t t refl

  own : HoldsAlone (hs ++ c.kept) t
  own = record { tdr = rw itself refl; op = rw itself refl; alone = rw itself refl }

  head : HoldsHead (hs ++ c.kept) t
  head = record { tdr = own.tdr; op = own.op }

  stands-on : TdStands w t → TdStands w' t
  stands-on a = record { alive = record { kind = a.alive.kind; life = a.alive.life }; has_tdcs = a.has_tdcs }

  -- what it changes of words
  abbrev moved : World
  moved = set_op t op.MemoryImport c.state.world

  abbrev timed : World
  timed = set_epoch t 1 moved

  respects : Respects g w w'
  respects =
      let first : Respects g w moved = (effects-respect g w).op t op.MemoryImport own.tdr own.alone in
      let second : Respects g moved timed = (effects-respect g moved).epoch_op t 1 own.tdr own.alone in
      let last : Respects g timed w' = leaves g timed w' (all-same timed w' refl (λ u. record { op = refl; controls = refl; epoch = refl; empty = λ e. refl; named = λ n. refl })) (λ a. refl) refl in
      respects-compose.both g w timed w' (respects-compose.both g w moved timed first second) last

  may-act : Writes g w (place.Word d 4) KeepsNothing
  may-act = at-tdcs g w t d 4 (z.root ∷ []) (λ r. writes r KeepsNothing) z.list z.tdcs_page (inr (inl (own.tdr, (own.alone, tt))))

  may-owe : (i : ℕ) → or_unused (in_lines (tdcs_classes (is_current w' t) (is_empty w' t)) i) ≡ TdcsWord → Owes g w' (place.Word d i) KeepsNothing
  may-owe i is = at-tdcs g w' t d i (z.root ∷ []) (λ r. owes r KeepsNothing) z.list (record { kind = z.tdcs_page.kind; owner = z.tdcs_page.owner }) (rw is (inr (inl (own.tdr, (own.alone, tt)))))

  may-owe-epoch : Owes g w' (place.Word d 5) KeepsNothing
  may-owe-epoch = at-tdcs g w' t d 5 (z.root ∷ []) (λ r. owes r KeepsNothing) z.list (record { kind = z.tdcs_page.kind; owner = z.tdcs_page.owner }) (inr (inl (own.tdr, (own.alone, tt))))

  -- its first stream, which has counted nothing
  module _ (some : 0 < length (c.state.world.tds.streams t)) where
    stream : IsPageOf w.pages t (stream_page w t 0) kind.Migsc
    stream = page-of m w t 0 la x.alive some

    stream_in : stream_page w t 0 < m.pages
    stream_in = page-in m w t (stream_page w t 0) kind.Migsc la stream refl

    none : stream_counter w t 0 ≡ 0
    none =
        let among : list_any (λ q. q == get_or (w.tds.streams t) 0 0) (w.tds.streams t) ≡ true = list_any_at (λ q. q == get_or (w.tds.streams t) 0 0) (w.tds.streams t) 0 0 some (same_self (get_or (w.tds.streams t) 0 0)) in
        la.streams.uncounted t (stream_page w t 0) x.alive (only-new (w.tds.ops t) x.op) among

    abbrev stored : Memory
    stored =
        changed_all (Put (place.Word d 4) (op_number op.MemoryImport) ∷ Put (place.Word d 5) 1 ∷ Put (place.Word d 10) 1 ∷ Put (place.Word d 11) (input_in b).header.session ∷ Put (place.Word d 14) (input_in b).header.info
        ∷ Put (place.Key 2) (input_in b).header.session ∷ Put (place.Word p 0) 1 ∷ []) c.memory

    may-change : MayChange m g w w' c.memory (begin_import_changes y (record { tdcs = d; page = p }))
    may-change =
        let tdcs_in : d < m.pages = z.tdcs_in in (
          ((tdcs_in, omega arith), (KeepsNothing, may-act, tt)),
          (
            ((tdcs_in, omega arith), (KeepsNothing, may-owe-epoch, tt)),
            (
              ((tdcs_in, omega arith), (KeepsNothing, may-owe 10 refl, tt)),
              (
                ((tdcs_in, omega arith), (KeepsNothing, may-owe 11 refl, tt)),
                (
                  ((tdcs_in, omega arith), (KeepsNothing, may-owe 14 refl, tt)),
                  (
                    (omega arith, (KeepsNothing, inl (refl, tt), tt)),
                    (
                      ((stream_in, omega arith), (KeepsNothing, counter-owed g w' t (stream_page w t 0) own.tdr own.alone stream, tt)),
                      puts-owed m g w' d 64 y.words 0 6 stored tdcs_in (omega arith) (λ n from to. may-owe (64 + n) (mrtd-class (is_current w' t) (is_empty w' t) n (omega (arith, to)))),
                    ),
                  ),
                ),
              ),
            ),
          ),
        )

    ended : Means m c k hs (ends p) []
    ended = (
      record {
        answers = record { reply_is = refl; cached_is = refl; enters_is = refl; notes_are = refl; tells_are = refl; bundles_are = refl };
        fills_allowed = tt;
        respects = respects;
        locks_stay = ((refl, λ a. a), ((refl, stands-on), ((refl, λ a. a), tt)));
        shows = import-begun m c.state c.memory t y sh x stream stream_in none;
      },
      may-change,
    )

    -- the page of its first stream, and the tag
    abbrev paged_tree : Tree
    paged_tree = page_tree m.pages x.controls.tdcs 0 (λ page. tag_tree (input_in b) (ends page))

    paged-means : Means m c k hs paged_tree (tag_holds y ∷ [])
    paged-means = page-means m c k hs t la sh x.alive z head 0 p (omega arith) (listed w t 0 some) stream (λ page. tag_tree y (ends page)) (tag_holds y ∷ []) (refl, λ e. refl, λ e. ended)

    -- the session is later than the last one, and the bundle is its first
    abbrev tested_tree : (last : ℕ) → Tree
    tested_tree last = needs (nat_lt last (input_in b).header.session) (BundleHeader field.Session) (needs ((input_in b).header.epoch == 1) (BundleHeader field.Epoch) (due_tree (input_in b).header 0 paged_tree))

    abbrev firsts : List (Item Reply)
    firsts =
        header_says (nat_lt c.state.world.key_table.last_imported (input_in b).header.session) field.Session ∷ header_says ((input_in b).header.epoch == 1) field.Epoch ∷ counter_due 0 (input_in b).header
        ∷ tag_holds (input_in b) ∷ []

    tested-means : Means m c k hs (tested_tree w.key_table.last_imported) firsts
    tested-means = (refl, λ e. refl, λ e. (refl, λ f. refl, λ f. (refl, λ i. refl, λ i. paged-means)))

    first-means : Means m c k hs (session_first_tree h paged_tree) firsts
    first-means =
        let last : c.memory.words (place.Key 2) ≡ w.key_table.last_imported = sh.word (place.Key 2) (omega arith) in (
          omega arith,
          inl (inl (refl, tt)),
          subst (λ (v : ℕ). Means m c k hs (tested_tree v) firsts) (sym last) tested-means,
        )

  abbrev dues : List (Item Reply)
  dues =
      has_stream c.state.world t 0 ∷ header_says (nat_lt c.state.world.key_table.last_imported (input_in b).header.session) field.Session ∷ header_says ((input_in b).header.epoch == 1) field.Epoch
      ∷ counter_due 0 (input_in b).header ∷ tag_holds (input_in b) ∷ []

  abbrev behind_tree : Tree
  behind_tree = session_first_tree (input_in b).header (page_tree m.pages x.controls.tdcs 0 (λ page. tag_tree (input_in b) (ends page)))

  there-means : Means m c k hs (stream_there_tree d behind_tree) dues
  there-means =
      tdcs-means m c k hs t la sh x.alive z head 48 (length (w.tds.streams t)) (omega arith) refl refl (λ count. needs (nat_lt 0 count) (NoStream 0) behind_tree) dues
      (refl, λ e. refl, λ e. first-means (ltb-true 0 (length (w.tds.streams t)) e))

  keys-tried : Locks m c td_locks OfKeys (place.Key 0)
  keys-tried = record { in_machine = omega arith; at = refl; stands = tt; allowed = inl tt }

  rest-means : Means m c k td_locks (begin_import_tree m.pages d h y ends) (keys_exclusive ∷ dues)
  rest-means = (refl, refl, keys-tried, there-means)

-- a page, and the bundle
abbrev arguments : Machine → Input → (t slot : ℕ) → List (Bool × Status)
arguments m x t slot = (nat_lt t m.pages, OperandInvalid 1) ∷ input_checks x slot (0 ∷ [])

pub import_immutable-means : (p : Place) (b : Option Incoming) (t slot : ℕ) → MeansRow (import_immutable_task p b t slot)
import_immutable-means p b t slot = record {
  means = λ c at. (let m : Machine = p.machine in
      td-row-means m c (work_of (OfCall (import_immutable m b t slot))) t at.lawful at.shown (arguments m (input_in b) t slot) (λ a. ltb-true t m.pages a.0) Exclusive first_ops
      (λ td. begin_import_tree m.pages td.tdcs (input_in b).header (input_in b) (λ page. begin_import_end (input_in b) (record { tdcs = td.tdcs; page = page })))
      (keys_exclusive ∷ has_stream c.state.world t 0 ∷ header_says (nat_lt c.state.world.key_table.last_imported (input_in b).header.session) field.Session ∷ header_says ((input_in b).header.epoch == 1) field.Epoch
      ∷ counter_due 0 (input_in b).header ∷ tag_holds (input_in b) ∷ [])
      (λ a y. rest-means m b c t slot at.lawful at.shown y));
}
