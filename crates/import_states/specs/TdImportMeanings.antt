-- The leaf that imports a TD's state means its row.
use Rattle.std.proofs.Common.{◌≡◌, ℕ, ◌+◌, ◌-◌, ◌^◌, ◌<◌, Bool, true, ◌==◌, nat_lt, List, [], ◌∷◌, ◌++◌, length, Option, refl, inl, inr, arith}
use Rattle.std.proofs.lemmas.Bool.{eqb-true, ltb-true, and_parts}
use Rattle.td_words.specs.declared.names.PageKind.TheVariants as kind
use Rattle.td_words.specs.declared.names.OpState.TheVariants as op
use Rattle.td_words.specs.declared.names.Mode.TheVariants.{Exclusive}
use Rattle.td_words.specs.declared.machines.Machine.{Machine}
use Rattle.td_words.specs.declared.refusals.Status.{Status}
use Rattle.td_words.specs.declared.refusals.Status.TheVariants.{OperandInvalid}
use Rattle.td_words.specs.declared.replies.Reply.{Reply}
use Rattle.td_words.specs.NameNumber.{op_number}
use Rattle.td_words.specs.Place as place
use Rattle.flat_core.specs.World.{World, ClearHeader}
use Rattle.flat_core.specs.Processor.{Held}
use Rattle.flat_core.specs.Row.{Item}
use Rattle.flat_core.specs.Opening.{Incoming}
use Rattle.flat_core.specs.Effects.{set_op}
use Rattle.flat_core.specs.Lawful.{Lawful, IsPageOf}
use Rattle.flat_core.specs.Sessions.{stream_page, stream_counter}
use Rattle.flat_core.specs.Inputs.{Input, input_in, session_same, epoch_same, counter_due, tag_holds}
use Rattle.flat_core.specs.ImportRows.{td_state_ops, give_rtmrs, import_td}
use Rattle.flat_core.proofs.ImportKeeps.{td_state_importing}
use Rattle.word_rules.specs.Guards.{Grip}
use Rattle.word_rules.specs.Rules.{RtmrWord, KeepsNothing, writes, owes}
use Rattle.word_rules.specs.Spots.{is_current, is_empty}
use Rattle.word_rules.specs.Permissions.{MayAt, Owes, Writes, Respects}
use Rattle.word_rules.specs.Cells.{Shows}
use Rattle.word_rules.proofs.Conflicts.{respects-compose}
use Rattle.act_rules.proofs.Respected.{leaves, all-same, effects-respect}
use Rattle.leaf_engine.specs.declared.needs.Place.{Place}
use Rattle.leaf_engine.specs.Changes.{Memory, Put, changed_all}
use Rattle.leaf_engine.specs.Trees.{Tree}
use Rattle.leaf_engine.specs.Means.{Instant, Means, MeansRow, MayChange, Work, work_of, OfCall, hold}
use Rattle.leaf_parts.proofs.Begun.{IsTd, TwoControls, page-in}
use Rattle.leaf_parts.proofs.Checks.{spot_of, at-tdcs, td-row-means}
use Rattle.stream_parts.specs.declared.rooms.Room.{Room}
use Rattle.stream_parts.proofs.StreamWords.{page-of}
use Rattle.stream_parts.proofs.StreamMeans.{HoldsAlone}
use Rattle.stream_parts.proofs.Counted.{counter-owed}
use Rattle.access_core.specs.RtmrShows.{rtmr-class}
use Rattle.stream_parts.proofs.AloneMeans.{td_locks, td-own}
use Rattle.import_parts.specs.InputTrees.{input_checks, tag_tree, epoch_same_tree, is_due, counter_due_tree}
use Rattle.import_parts.proofs.InputMeans.{session_same-means, epoch_same-means, counter_due-means}
use Rattle.import_parts.proofs.WordPuts.{puts-owed}
use Rattle.import_states.specs.TdImportTrees.{td_import_changes, td_due_tree, td_import_end, import_td_task}
use Rattle.import_states.specs.TdImportShows.{td-imported}

module _ (m : Machine) (b : Option Incoming) (c : Instant) (t slot : ℕ) (la : Lawful m c.state.world) (sh : Shows m c.memory.words c.memory.slots c.state) (x : IsTd m c.state.world t td_state_ops) where
  abbrev w : World
  w = c.state.world

  abbrev w' : World
  w' = (import_td m b t slot).act c.state.world

  abbrev k : Work
  k = work_of (OfCall (import_td m b t slot))

  abbrev y : Input
  y = input_in b

  abbrev h : ClearHeader
  h = (input_in b).header

  abbrev z : TwoControls m c.state.world t
  z = x.controls

  abbrev d : ℕ
  d = x.controls.tdcs

  abbrev p : ℕ
  p = stream_page c.state.world t 0

  abbrev ends : Room → Tree
  ends room = td_import_end (input_in b) (record { tdcs = x.controls.tdcs; page = room.page })

  abbrev hs : List Held
  hs = td_locks t

  abbrev g : Grip
  g = hold c (td_locks t)

  own : HoldsAlone (hs ++ c.kept) t
  own = td-own t c.kept

  -- its first stream
  some : 0 < length (w.tds.streams t)
  some = (let one = la.sessions.import_stream t (td_state_importing (w.tds.ops t) x.op) in omega (arith, one))

  stream : IsPageOf w.pages t (stream_page w t 0) kind.Migsc
  stream = page-of m w t 0 la x.alive some

  stream_in : stream_page w t 0 < m.pages
  stream_in = page-in m w t (stream_page w t 0) kind.Migsc la stream refl

  -- what it changes of words
  abbrev given : World
  given = give_rtmrs t (input_in b).words c.state.world

  abbrev moved : World
  moved = set_op t op.StateImport given

  respects : Respects g w w'
  respects =
      let first : Respects g w given = leaves g w given (all-same w given refl (λ u. record { op = refl; controls = refl; epoch = refl; empty = λ e. refl; named = λ n. refl })) (λ a. refl) refl in
      let second : Respects g given moved = (effects-respect g given).op t op.StateImport own.tdr own.alone in
      let last : Respects g moved w' = leaves g moved w' (all-same moved w' refl (λ u. record { op = refl; controls = refl; epoch = refl; empty = λ e. refl; named = λ n. refl })) (λ a. refl) refl in
      respects-compose.both g w moved w' (respects-compose.both g w given moved first second) last

  -- a word of the RTMRs, and the operation state
  rtmr-writes : MayAt g (spot_of RtmrWord t d) (λ r. writes r KeepsNothing)
  rtmr-writes = inr (inl (own.tdr, (own.alone, tt)))

  rtmr-owes : MayAt g (spot_of RtmrWord t d) (λ r. owes r KeepsNothing)
  rtmr-owes = inr (inl (own.tdr, (own.alone, tt)))

  may-act : Writes g w (place.Word d 16) KeepsNothing
  may-act = at-tdcs g w t d 16 (z.root ∷ []) (λ r. writes r KeepsNothing) z.list z.tdcs_page rtmr-writes

  may-owe : (n : ℕ) → n < 24 → Owes g w' (place.Word d (16 + n)) KeepsNothing
  may-owe n few = at-tdcs g w' t d (16 + n) (z.root ∷ []) (λ r. owes r KeepsNothing) z.list (record { kind = z.tdcs_page.kind; owner = z.tdcs_page.owner }) (rw (rtmr-class (is_current w' t) (is_empty w' t) n few) rtmr-owes)

  may-owe-op : Owes g w' (place.Word d 4) KeepsNothing
  may-owe-op = at-tdcs g w' t d 4 (z.root ∷ []) (λ r. owes r KeepsNothing) z.list (record { kind = z.tdcs_page.kind; owner = z.tdcs_page.owner }) (inr (inl (own.tdr, (own.alone, tt))))

  abbrev stored : Memory
  stored = changed_all (Put (place.Word d 16) ((input_in b).words 0) ∷ Put (place.Word d 4) (op_number op.StateImport) ∷ Put (place.Word p 0) ((input_in b).header.counter + 1) ∷ []) c.memory

  may-change : MayChange m g w w' c.memory (td_import_changes y (record { tdcs = d; page = p }))
  may-change =
      let tdcs_in : d < m.pages = z.tdcs_in in (
        ((tdcs_in, omega arith), (KeepsNothing, may-act, tt)),
        (
          ((tdcs_in, omega arith), (KeepsNothing, may-owe-op, tt)),
          (
            ((stream_in, omega arith), (KeepsNothing, counter-owed g w' t (stream_page w t 0) own.tdr own.alone stream, tt)),
            puts-owed m g w' d 16 y.words 1 23 stored tdcs_in (omega arith) (λ n from to. may-owe n (omega (arith, to))),
          ),
        ),
      )

  module _ (due : is_due (input_in b).header (stream_counter c.state.world t 0) ≡ true) where
    counter : h.counter ≡ stream_counter w t 0
    counter = eqb-true h.counter (stream_counter w t 0) (and_parts (h.counter == stream_counter w t 0) (nat_lt (stream_counter w t 0) (2 ^ 32 - 1)) due).0

    ended : Means m c k hs (ends (record { page = p; counter = stream_counter w t 0 })) []
    ended = (
      record {
        answers = record { reply_is = refl; cached_is = refl; enters_is = refl; notes_are = refl; tells_are = refl; bundles_are = refl };
        fills_allowed = tt;
        respects = respects;
        locks_stay = ((refl, λ a. record { alive = record { kind = a.alive.kind; life = a.alive.life }; has_tdcs = a.has_tdcs }), ((refl, λ a. a), tt));
        shows = td-imported m c.state c.memory t y sh x stream stream_in counter;
      },
      may-change,
    )

  -- the bundle is due
  abbrev counted_tree : Tree
  counted_tree = counter_due_tree m.pages x.controls.tdcs 0 (input_in b).header (λ room. tag_tree (input_in b) (ends room))

  abbrev dues : List (Item Reply)
  dues = session_same c.state.world t (input_in b).header ∷ epoch_same c.state.world t (input_in b).header ∷ counter_due (stream_counter c.state.world t 0) (input_in b).header ∷ tag_holds (input_in b) ∷ []

  counted-means : Means m c k hs counted_tree (counter_due (stream_counter w t 0) h ∷ tag_holds y ∷ [])
  counted-means = counter_due-means m c k hs t la sh x.alive z own h 0 some (λ room. tag_tree y (ends room)) (tag_holds y ∷ []) (λ due. (refl, λ e. refl, λ e. ended due))

  due-means : Means m c k hs (td_due_tree m.pages d h y ends) dues
  due-means = session_same-means m c k hs t la sh x.alive z own h (epoch_same_tree d h counted_tree) (epoch_same w t h ∷ counter_due (stream_counter w t 0) h ∷ tag_holds y ∷ []) (λ e. epoch_same-means m c k hs t la sh x.alive z own h counted_tree (counter_due (stream_counter w t 0) h ∷ tag_holds y ∷ []) (λ f. counted-means))

-- a page, and the bundle
abbrev arguments : Machine → Input → (t slot : ℕ) → List (Bool × Status)
arguments m x t slot = (nat_lt t m.pages, OperandInvalid 1) ∷ input_checks x slot (1 ∷ [])

pub import_td-means : (p : Place) (b : Option Incoming) (t slot : ℕ) → MeansRow (import_td_task p b t slot)
import_td-means p b t slot = record {
  means = λ c at. (let m : Machine = p.machine in
      td-row-means m c (work_of (OfCall (import_td m b t slot))) t at.lawful at.shown (arguments m (input_in b) t slot) (λ a. ltb-true t m.pages a.0) Exclusive td_state_ops
      (λ td. td_due_tree m.pages td.tdcs (input_in b).header (input_in b) (λ room. td_import_end (input_in b) (record { tdcs = td.tdcs; page = room.page })))
      (session_same c.state.world t (input_in b).header ∷ epoch_same c.state.world t (input_in b).header ∷ counter_due (stream_counter c.state.world t 0) (input_in b).header ∷ tag_holds (input_in b) ∷ [])
      (λ a y. due-means m b c t slot at.lawful at.shown y));
}
