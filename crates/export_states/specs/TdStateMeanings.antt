-- The leaf that exports a TD's state means its row.
use Rattle.std.proofs.Common.{ℕ, ◌+◌, ◌<◌, Bool, ◌==◌, nat_lt, List, [], ◌∷◌, ◌++◌, length, refl, inl, inr, arith}
use Rattle.std.proofs.lemmas.Bool.{eq-eqb, ltb-true}
use Rattle.td_words.specs.declared.names.PageKind.TheVariants as kind
use Rattle.td_words.specs.declared.names.Mode.TheVariants.{Exclusive}
use Rattle.td_words.specs.declared.machines.Machine.{Machine}
use Rattle.td_words.specs.declared.refusals.Status.{Status}
use Rattle.td_words.specs.declared.refusals.Status.TheVariants.{OperandInvalid, AlreadyExported}
use Rattle.td_words.specs.Place as place
use Rattle.flat_core.specs.World.{World, Made}
use Rattle.flat_core.specs.Processor.{Held}
use Rattle.flat_core.specs.Lawful.{Lawful, IsPageOf}
use Rattle.flat_core.specs.Sessions.{about, header_of, payload_words, stream_page, stream_counter, td_state_left, counter_room, note_td_export}
use Rattle.flat_core.specs.BundleRows.{paused_ops, export_td}
use Rattle.word_rules.specs.Guards.{Grip}
use Rattle.word_rules.specs.Rules.{RtmrWord, Whole, KeepsNothing, reads, writes}
use Rattle.word_rules.specs.Spots.{is_current, is_empty}
use Rattle.word_rules.specs.Permissions.{MayAt, Writes, Respects}
use Rattle.word_rules.specs.Cells.{Shows, lock_word}
use Rattle.act_rules.proofs.Respected.{leaves, all-same}
use Rattle.leaf_engine.specs.declared.needs.Place.{Place}
use Rattle.leaf_engine.specs.Changes.{Memory, Put, changed_all}
use Rattle.leaf_engine.specs.Trees.{Tree, Load, needs}
use Rattle.leaf_engine.specs.Means.{Instant, Means, MeansRow, Work, work_of, OfCall, hold, acted}
use Rattle.leaf_parts.proofs.Begun.{IsTd, TwoControls, page-in}
use Rattle.leaf_parts.proofs.Checks.{spot_of, at-tdcs, td-row-means, tdcs-load}
use Rattle.stream_parts.specs.declared.rooms.Room.{Room}
use Rattle.stream_parts.specs.Rooms.{room_tree, session_tree, mig_epoch_tree}
use Rattle.stream_parts.proofs.StreamWords.{page-of}
use Rattle.stream_parts.proofs.StreamMeans.{HoldsHead, HoldsAlone, tdcs-means, room-means, session-means, mig_epoch-means}
use Rattle.stream_parts.proofs.Counted.{counter-owed, bundle-counted}
use Rattle.access_core.specs.RtmrShows.{rtmr-line, rtmr-class}
use Rattle.vcpu_control.specs.VpLocks.{td_locks}
use Rattle.export_states.specs.declared.states.Stated.{Stated}
use Rattle.export_states.specs.StateTrees.{state_end}
use Rattle.export_states.specs.StateShows.{td-noted}
use Rattle.export_states.specs.StateMeanings.{paused-exports, payload-means}
use Rattle.export_states.specs.TdStateTrees.{td_changes, td_state_tree, rtmr_at, rtmrs_tree, td_state_task}

module _ (m : Machine) (c : Instant) (t slot : ℕ) (la : Lawful m c.state.world) (sh : Shows m c.memory.words c.memory.slots c.state) (x : IsTd m c.state.world t paused_ops) where
  abbrev w : World
  w = c.state.world

  abbrev w' : World
  w' = (export_td m t slot).act c.state.world

  abbrev k : Work
  k = work_of (OfCall (export_td m t slot))

  abbrev z : TwoControls m c.state.world t
  z = x.controls

  abbrev hs : List Held
  hs = td_locks t Exclusive

  abbrev g : Grip
  g = hold c (td_locks t Exclusive)

  own : HoldsAlone (hs ++ c.kept) t
  own = record { tdr = rw (eq-eqb t t refl) refl; op = rw (eq-eqb t t refl) refl; alone = rw (eq-eqb t t refl) refl }

  head : HoldsHead (hs ++ c.kept) t
  head = record { tdr = own.tdr; op = own.op }

  some : 0 < length (w.tds.streams t)
  some = (let one = la.sessions.first_stream t (paused-exports (w.tds.ops t) x.op) in omega (arith, one))

  stream : IsPageOf w.pages t (stream_page w t 0) kind.Migsc
  stream = page-of m w t 0 la x.alive some

  stream_in : stream_page w t 0 < m.pages
  stream_in = page-in m w t (stream_page w t 0) kind.Migsc la stream refl

  -- what is told
  abbrev stated : Stated
  stated = record {
    tdcs = x.controls.tdcs;
    count = 0;
    room = record { page = stream_page c.state.world t 0; counter = stream_counter c.state.world t 0 };
    session = c.state.world.tds.sessions t;
    epoch = c.state.world.tds.mig_epochs t;
    index = 0;
    info = 0;
  }

  abbrev rtmrs : List ℕ
  rtmrs = payload_words (c.state.world.hidden.rtmrs t) 24

  abbrev made : Made
  made = record { slot = slot; header = header_of (note_td_export t c.state.world) t (about 1 (c.state.world.tds.mig_epochs t)); payload = rtmrs }

  -- the words after both stores show its act
  abbrev between : Memory
  between = changed_all (Put (place.Word x.controls.tdcs 12) 1 ∷ []) c.memory

  noted : Shows m between.words between.slots (record (c.state) { world = note_td_export t w })
  noted = td-noted m c.memory.words c.memory.slots c.state t sh x.alive z 1

  shown : (let mem = changed_all (td_changes stated) c.memory in Shows m mem.words mem.slots (acted k c.state))
  shown = bundle-counted m (record (c.state) { world = note_td_export t w }) between t 0 made noted x.alive.life stream stream_in

  respects : Respects g w w'
  respects = leaves g w w' (all-same w w' refl (λ u. record { op = refl; controls = refl; epoch = refl; empty = λ b. refl; named = λ n. refl })) (λ h. refl) refl

  may-act : Writes g w (place.Word z.tdcs 12) KeepsNothing
  may-act = at-tdcs g w t z.tdcs 12 (z.root ∷ []) (λ y. writes y KeepsNothing) z.list z.tdcs_page (inr (inl (own.tdr, (own.alone, tt))))

  ended : Means m c k hs (state_end slot 1 td_changes stated rtmrs) []
  ended = (
    record {
      answers = record { reply_is = refl; cached_is = refl; enters_is = refl; notes_are = refl; tells_are = refl; bundles_are = refl };
      fills_allowed = tt;
      respects = respects;
      locks_stay = ((refl, λ y. record { alive = record { kind = y.alive.kind; life = y.alive.life }; has_tdcs = y.has_tdcs }), ((refl, λ y. y), tt));
      shows = shown;
    },
    (
      ((z.tdcs_in, omega arith), (KeepsNothing, may-act, tt)),
      (((stream_in, omega arith), (KeepsNothing, counter-owed g w' t (stream_page w t 0) own.tdr own.alone stream, tt)), tt),
    ),
  )

  -- the RTMRs
  rtmr-reads : MayAt g (spot_of RtmrWord t z.tdcs) (λ y. reads y Whole)
  rtmr-reads = inr (inl (own.tdr, (own.alone, tt)))

  rtmr-means : (n : ℕ) → n < 24 → (f : ℕ → Tree) → Means m c k hs (f (w.hidden.rtmrs t n)) [] → Means m c k hs (Load Whole (rtmr_at stated n) f) []
  rtmr-means n b f h =
      tdcs-load m c k hs sh t (16 + n) (w.hidden.rtmrs t n) x.alive z (omega (arith, b)) (rtmr-line w (lock_word c.state.lps c.state.lp_count) t n b)
      (rw (rtmr-class (is_current w t) (is_empty w t) n b) rtmr-reads) f [] h

  payload : Means m c k hs (rtmrs_tree slot stated) []
  payload = payload-means m c k hs [] (rtmr_at stated) (w.hidden.rtmrs t) 24 rtmr-means 24 0 (omega arith) (state_end slot 1 td_changes stated) ended

  abbrev told : Room → (session epoch : ℕ) → Stated
  told room session epoch = record { tdcs = x.controls.tdcs; count = 0; room = room; session = session; epoch = epoch; index = 0; info = 0 }

  abbrev by_session : Room → (session : ℕ) → Tree
  by_session room session = mig_epoch_tree x.controls.tdcs (λ epoch. rtmrs_tree slot (told room session epoch))

  abbrev by_room : Room → Tree
  by_room room = session_tree x.controls.tdcs (by_session room)

  abbrev by_exported : (exported : ℕ) → Tree
  by_exported exported = needs (exported == 0) AlreadyExported (room_tree m.pages x.controls.tdcs 0 by_room)

  td_rest-means : Means m c k hs (td_state_tree m.pages z.tdcs (rtmrs_tree slot)) (td_state_left w t ∷ counter_room w t 0 ∷ [])
  td_rest-means =
      let room : Room = record { page = stream_page w t 0; counter = stream_counter w t 0 } in
      tdcs-means m c k hs t la sh x.alive z head 12 (w.tds.td_exported t) (omega arith) refl refl by_exported (td_state_left w t ∷ counter_room w t 0 ∷ []) (
        refl,
        λ e. refl,
        λ e.
            room-means m c k hs t la sh x.alive z own 0 some by_room [] (λ has.
            session-means m c k hs t la sh x.alive z head (by_session room) []
            (mig_epoch-means m c k hs t la sh x.alive z head (λ epoch. rtmrs_tree slot (told room (w.tds.sessions t) epoch)) [] payload)),
      )

abbrev arguments : Machine → (t : ℕ) → List (Bool × Status)
arguments m t = (nat_lt t m.pages, OperandInvalid 1) ∷ []

pub td_state-means : (p : Place) (t slot : ℕ) → MeansRow (td_state_task p t slot)
td_state-means p t slot = record {
  means = λ c at. td-row-means p.machine c (work_of (OfCall (export_td p.machine t slot))) t at.lawful at.shown (arguments p.machine t) (λ a. ltb-true t p.machine.pages a.0) Exclusive paused_ops
      (λ td. td_state_tree p.machine.pages td.tdcs (rtmrs_tree slot)) (td_state_left c.state.world t ∷ counter_room c.state.world t 0 ∷ [])
      (λ a y. td_rest-means p.machine c t slot at.lawful at.shown y);
}
