-- The leaf that exports a virtual processor's state means its row.
use Rattle.std.proofs.Common.{◌≡◌, ℕ, suc, ◌+◌, ◌%◌, ◌^◌, ◌<◌, true, false, ◌==◌, not, List, [], ◌∷◌, ◌++◌, length, slice_get, Option, Some, refl, ap, sym, ◌∙◌, subst, inl, inr, arith}
use Rattle.std.specs.List.{list_any}
use Rattle.std.proofs.lemmas.Bool.{eqb-true, ltb-true, not-true}
use Rattle.td_words.specs.declared.names.PageKind.TheVariants as kind
use Rattle.td_words.specs.declared.names.Mode.TheVariants.{Exclusive}
use Rattle.td_words.specs.declared.machines.Machine.{Machine}
use Rattle.td_words.specs.declared.places.TheConstants.{TDCS_VPS_EXPORTED, VP_INDEX, VP_POSITION, VP_EXPORTED}
use Rattle.td_words.specs.declared.refusals.Status.TheVariants.{AlreadyExported}
use Rattle.td_words.specs.declared.replies.Reply.{Reply}
use Rattle.td_words.specs.Place as place
use Rattle.flat_core.specs.World.{World, Made, put}
use Rattle.flat_core.specs.Processor.{Held}
use Rattle.flat_core.specs.Row.{Item}
use Rattle.flat_core.specs.Conditions.{td_page, page_exclusive}
use Rattle.flat_core.specs.Lawful.{Lawful, IsAlive, IsPageOf}
use Rattle.flat_core.specs.Sessions.{about, header_of, payload_words, stream_page, stream_counter, vp_state_left, counter_room, note_vp_export}
use Rattle.flat_core.specs.BundleRows.{paused_ops, export_vp}
use Rattle.flat_core.specs.Event.{State}
use Rattle.flat_core.proofs.Tests.{by_test}
use Rattle.word_rules.specs.Guards.{Grip}
use Rattle.word_rules.specs.Lines.{in_lines}
use Rattle.word_rules.specs.Rules.{Class, VcpuWord, Whole, KeepsNothing, reads, writes, owes}
use Rattle.word_rules.specs.Spots.{or_unused, vp_classes}
use Rattle.word_rules.specs.Permissions.{Owes, Writes, Respects}
use Rattle.word_rules.specs.Cells.{Shows, IsAs, vp_lines}
use Rattle.act_rules.proofs.Respected.{leaves, all-same}
use Rattle.leaf_engine.specs.declared.needs.Place.{Place}
use Rattle.leaf_engine.specs.Changes.{Memory, Put, changed_all}
use Rattle.leaf_engine.specs.Trees.{Tree, Load, needs}
use Rattle.leaf_engine.specs.Means.{Instant, Means, MeansRow, Work, work_of, OfCall, hold, acted}
use Rattle.leaf_parts.specs.Arguments.{two_pages}
use Rattle.leaf_parts.proofs.Begun.{IsTd, TwoControls, page-in}
use Rattle.leaf_parts.proofs.Checks.{spot_of, at-spot, at-tdcs, td-row-means, td-page-means}
use Rattle.leaf_parts.proofs.Vps.{vp-shown, vp-spot}
use Rattle.stream_parts.specs.declared.rooms.Room.{Room}
use Rattle.stream_parts.specs.Rooms.{room_tree, session_tree}
use Rattle.stream_parts.proofs.StreamWords.{page-of}
use Rattle.stream_parts.proofs.StreamMeans.{HoldsHead, HoldsAlone, tdcs-means, room-means, session-means, mig_epoch-means}
use Rattle.stream_parts.proofs.Counted.{counter-owed, bundle-counted}
use Rattle.access_core.specs.RtmrTrees.{register_at}
use Rattle.access_core.specs.VpShows.{register-line, register-class}
use Rattle.vcpu_control.specs.VpLocks.{td_locks, page_locks, held-td, held-op, alone-op, alone-page}
use Rattle.export_states.specs.declared.states.Stated.{Stated}
use Rattle.export_states.specs.StateTrees.{state_end}
use Rattle.export_states.specs.StateShows.{vp-noted, vps-counted}
use Rattle.export_states.specs.StateMeanings.{paused-exports, payload-means}
use Rattle.export_states.specs.VpStateTrees.{vp_changes, vp_said_tree, vp_state_tree, registers_tree, vp_state_task}

-- the place in a list of a number that is in it
place-of : (ps : List ℕ) (v : ℕ) → list_any (λ q. q == v) ps ≡ true → (i : ℕ) × (i < length ps) × (slice_get ps i ≡ Some v)
place-of [] v h = cc
place-of (p ∷ ps) v h = by_test (p == v)
    (λ e. (0, omega arith, ap Some (eqb-true p v e)))
    (λ e. (let more = place-of ps v (rw e at h) in (suc more.0, omega (arith, more.1), more.2)))

-- a virtual processor has one of eight indexes
index-small : (m : Machine) (w : World) (t v : ℕ) → Lawful m w → IsAlive w.pages w.tds t → IsPageOf w.pages t v kind.Tdvpr → w.vps.indexes v < 8
index-small m w t v la alive its =
    let listed : list_any (λ q. q == v) (w.tds.vps t) ≡ true = rw its.owner at (la.lists.vp v its.kind (rw its.owner alive)) in
    let there = place-of (w.tds.vps t) v listed in
    let is : w.vps.indexes v ≡ there.0 = la.lists.index t there.0 v alive there.2 in
    let few = la.tds.vps_few t in omega (arith, is, there.1, few)

module _ (m : Machine) (c : Instant) (t v slot : ℕ) (few : m.pages < 65536) (la : Lawful m c.state.world) (sh : Shows m c.memory.words c.memory.slots c.state) (x : IsTd m c.state.world t paused_ops) (in_page : v < m.pages) (other : (v == t) ≡ false) where
  abbrev w : World
  w = c.state.world

  abbrev w' : World
  w' = (export_vp m t v slot).act c.state.world

  abbrev k : Work
  k = work_of (OfCall (export_vp m t v slot))

  abbrev z : TwoControls m c.state.world t
  z = x.controls

  abbrev hs : List Held
  hs = page_locks t v Exclusive

  abbrev g : Grip
  g = hold c (page_locks t v Exclusive)

  own : HoldsAlone (hs ++ c.kept) t
  own = record { tdr = held-td t v Exclusive c.kept other; op = held-op t v Exclusive c.kept other; alone = alone-op t v c.kept }

  head : HoldsHead (hs ++ c.kept) t
  head = record { tdr = own.tdr; op = own.op }

  some : 0 < length (w.tds.streams t)
  some = (let one = la.sessions.first_stream t (paused-exports (w.tds.ops t) x.op) in omega (arith, one))

  stream : IsPageOf w.pages t (stream_page w t 0) kind.Migsc
  stream = page-of m w t 0 la x.alive some

  stream_in : stream_page w t 0 < m.pages
  stream_in = page-in m w t (stream_page w t 0) kind.Migsc la stream refl

  -- the conditions behind its page, and what they tell
  abbrev by_room : (session : ℕ) → Room → Tree
  by_room session room = vp_said_tree x.controls.tdcs v room session (registers_tree v slot)

  abbrev by_session : (exported session : ℕ) → Tree
  by_session exported session = needs (not (exported == session)) AlreadyExported (room_tree m.pages x.controls.tdcs 0 (by_room session))

  abbrev left_tree : Tree
  left_tree = Load Whole (place.Word v VP_EXPORTED) (λ exported. session_tree x.controls.tdcs (by_session exported))

  module _ (its : IsPageOf c.state.world.pages t v kind.Tdvpr) where
    -- a word of its page is what its line says
    vp-means : (i n : ℕ) → i < 512 → in_lines (vp_lines w v) i ≡ Some n → or_unused (in_lines vp_classes i) ≡ VcpuWord → (further : ℕ → Tree) (rest : List (Item Reply)) → Means m c k hs (further n) rest
        → Means m c k hs (Load Whole (place.Word v i) further) rest
    vp-means i n b line class further rest h =
        let word : c.memory.words (place.Word v i) ≡ n = subst (λ (o : Option ℕ). IsAs o (c.memory.words (place.Word v i))) line (vp-shown m c.memory.words c.memory.slots c.state sh t x.alive.life v i its in_page b) in (
          (in_page, b),
          inl (at-spot g w (place.Word v i) (spot_of VcpuWord t v) (λ y. reads y Whole) (vp-spot w t v i its ∙ ap (λ (y : Class). spot_of y t v) class) (inr (inl (own.tdr, (own.alone, tt))))),
          subst (λ (y : ℕ). Means m c k hs (further y) rest) (sym word) h,
        )

    -- what is told
    abbrev stated : (index : ℕ) → Stated
    stated index = record {
      tdcs = x.controls.tdcs;
      count = c.state.world.tds.vps_exported t;
      room = record { page = stream_page c.state.world t 0; counter = stream_counter c.state.world t 0 };
      session = c.state.world.tds.sessions t;
      epoch = c.state.world.tds.mig_epochs t;
      index = index;
      info = c.state.world.vps.positions v % 2 ^ 32;
    }

    abbrev registers : List ℕ
    registers = payload_words (c.state.world.hidden.registers v) 8

    abbrev made : Made
    made = record { slot = slot; header = header_of (note_vp_export t v c.state.world) t (record (about 2 (c.state.world.tds.mig_epochs t)) { index = c.state.world.vps.indexes v; info = c.state.world.vps.positions v % 2 ^ 32 }); payload = registers }

    -- the words after all stores show its act
    abbrev noted : State
    noted = record (c.state) { world = record (c.state.world) { vps = record (c.state.world.vps) { exported = put c.state.world.vps.exported v (c.state.world.tds.sessions t) } } }

    abbrev between : Memory
    between = changed_all (Put (place.Word v 5) (c.state.world.tds.sessions t) ∷ Put (place.Word x.controls.tdcs 13) ((c.state.world.tds.vps_exported t + 1) % 2 ^ 64) ∷ []) c.memory

    abbrev its-controls : TwoControls m noted.world t
    its-controls = record { tdcs = x.controls.tdcs; root = x.controls.root; list = x.controls.list; tdcs_page = x.controls.tdcs_page; root_page = x.controls.root_page; differ = x.controls.differ; tdcs_in = x.controls.tdcs_in; root_in = x.controls.root_in }

    counted : Shows m between.words between.slots (record (c.state) { world = note_vp_export t v w })
    counted = vps-counted m _ c.memory.slots noted t (vp-noted m c.memory.words c.memory.slots c.state t sh x.alive v (w.tds.sessions t) its in_page) x.alive its-controls ((w.tds.vps_exported t + 1) % 2 ^ 64)

    shown : (let mem = changed_all (vp_changes v (stated (w.vps.indexes v))) c.memory in Shows m mem.words mem.slots (acted k c.state))
    shown = bundle-counted m (record (c.state) { world = note_vp_export t v w }) between t 0 made counted x.alive.life stream stream_in

    respects : Respects g w w'
    respects = leaves g w w' (all-same w w' refl (λ u. record { op = refl; controls = refl; epoch = refl; empty = λ b. refl; named = λ n. refl })) (λ h. refl) refl

    may-act : Writes g w (place.Word v 5) KeepsNothing
    may-act = at-spot g w (place.Word v 5) (spot_of VcpuWord t v) (λ y. writes y KeepsNothing) (vp-spot w t v 5 its) (inr (inl (own.tdr, (own.op, (alone-page t v Exclusive c.kept other, tt)))))

    may-count : Owes g w' (place.Word z.tdcs 13) KeepsNothing
    may-count = at-tdcs g w' t z.tdcs 13 (z.root ∷ []) (λ y. owes y KeepsNothing) z.list z.tdcs_page (inr (inl (own.tdr, (own.alone, tt))))

    ended : Means m c k hs (state_end slot 2 (vp_changes v) (stated (w.vps.indexes v)) registers) []
    ended = (
      record {
        answers = record { reply_is = refl; cached_is = refl; enters_is = refl; notes_are = refl; tells_are = refl; bundles_are = refl };
        fills_allowed = tt;
        respects = respects;
        locks_stay = ((refl, λ y. y), ((refl, λ y. record { alive = record { kind = y.alive.kind; life = y.alive.life }; has_tdcs = y.has_tdcs }), ((refl, λ y. y), tt)));
        shows = shown;
      },
      (
        ((in_page, omega arith), (KeepsNothing, may-act, tt)),
        (((z.tdcs_in, omega arith), (KeepsNothing, may-count, tt)), (((stream_in, omega arith), (KeepsNothing, counter-owed g w' t (stream_page w t 0) own.tdr own.alone stream, tt)), tt)),
      ),
    )

    -- the registers
    payload : Means m c k hs (registers_tree v slot (stated (w.vps.indexes v))) []
    payload = payload-means m c k hs [] (register_at v) (w.hidden.registers v) 8
        (λ n b f h. vp-means (8 + n) (w.hidden.registers v n) (omega (arith, b)) (register-line w v n b) (register-class n b) f [] h) 8 0 (omega arith)
        (state_end slot 2 (vp_changes v) (stated (w.vps.indexes v))) ended

    -- what else its bundle says
    abbrev told : (epoch index position count : ℕ) → Stated
    told epoch index position count = record {
      tdcs = x.controls.tdcs;
      count = count;
      room = record { page = stream_page c.state.world t 0; counter = stream_counter c.state.world t 0 };
      session = c.state.world.tds.sessions t;
      epoch = epoch;
      index = index % 2 ^ 16;
      info = position % 2 ^ 32;
    }

    abbrev by_position : (epoch index position : ℕ) → Tree
    by_position epoch index position = Load Whole (place.Word x.controls.tdcs TDCS_VPS_EXPORTED) (λ count. registers_tree v slot (told epoch index position count))

    abbrev by_index : (epoch index : ℕ) → Tree
    by_index epoch index = Load Whole (place.Word v VP_POSITION) (by_position epoch index)

    said : Means m c k hs (vp_said_tree z.tdcs v (record { page = stream_page w t 0; counter = stream_counter w t 0 }) (w.tds.sessions t) (registers_tree v slot)) []
    said =
        let epoch : ℕ = w.tds.mig_epochs t in
        let index : ℕ = w.vps.indexes v in
        let position : ℕ = w.vps.positions v in
        let fits : index ≡ index % 2 ^ 16 = (let small = index-small m w t v la x.alive its in omega (arith, small)) in
        mig_epoch-means m c k hs t la sh x.alive z head (λ e. Load Whole (place.Word v VP_INDEX) (by_index e)) []
        (vp-means 0 index (omega arith) refl refl (by_index epoch) []
        (vp-means 4 position (omega arith) refl refl (by_position epoch index) []
        (tdcs-means m c k hs t la sh x.alive z head 13 (w.tds.vps_exported t) (omega arith) refl refl (λ count. registers_tree v slot (told epoch index position count)) []
        (subst (λ (i : ℕ). Means m c k hs (registers_tree v slot (stated i)) []) fits payload))))

    -- it wasn't exported in the session
    left : Means m c k hs left_tree (vp_state_left w t v ∷ counter_room w t 0 ∷ [])
    left =
        let rest : List (Item Reply) = vp_state_left w t v ∷ counter_room w t 0 ∷ [] in
        vp-means 5 (w.vps.exported v) (omega arith) refl refl (λ exported. session_tree z.tdcs (by_session exported)) rest
        (session-means m c k hs t la sh x.alive z head (by_session (w.vps.exported v)) rest
        (refl, λ e. refl, λ e. room-means m c k hs t la sh x.alive z own 0 some (by_room (w.tds.sessions t)) [] (λ room. said)))

  vp_rest-means : Means m c k (td_locks t Exclusive) (vp_state_tree m.pages t z.tdcs v (registers_tree v slot)) (page_exclusive v ∷ td_page w t v kind.Tdvpr ∷ vp_state_left w t v ∷ counter_room w t 0 ∷ [])
  vp_rest-means = td-page-means m c k (td_locks t Exclusive) sh la few t v kind.Tdvpr in_page left_tree (vp_state_left w t v ∷ counter_room w t 0 ∷ []) left

pub vp_state-means : (p : Place) (t v slot : ℕ) → p.machine.pages < 65536 → MeansRow (vp_state_task p t v slot)
vp_state-means p t v slot few = record {
  means = λ c at. td-row-means p.machine c (work_of (OfCall (export_vp p.machine t v slot))) t at.lawful at.shown (two_pages p.machine t v) (λ a. ltb-true t p.machine.pages a.0) Exclusive paused_ops
      (λ td. vp_state_tree p.machine.pages t td.tdcs v (registers_tree v slot)) (page_exclusive v ∷ td_page c.state.world t v kind.Tdvpr ∷ vp_state_left c.state.world t v ∷ counter_room c.state.world t 0 ∷ [])
      (λ a y. vp_rest-means p.machine c t v slot few at.lawful at.shown y (ltb-true v p.machine.pages a.1.0) (not-true (v == t) a.1.1.0));
}
