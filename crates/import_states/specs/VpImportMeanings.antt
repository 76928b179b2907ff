-- The leaf that imports a virtual processor's state means its row.
use Rattle.std.proofs.Common.{◌≡◌, ℕ, ◌+◌, ◌-◌, ◌^◌, ◌<◌, Bool, true, false, ◌==◌, nat_lt, not, List, [], ◌∷◌, ◌++◌, length, Option, Some, refl, ap, sym, ◌∙◌, subst, inl, inr, arith}
use Rattle.std.proofs.lemmas.Bool.{eqb-true, ltb-true, not-true, and_parts}
use Rattle.td_words.specs.declared.names.PageKind.TheVariants as kind
use Rattle.td_words.specs.declared.names.VcpuState.{VcpuState}
use Rattle.td_words.specs.declared.names.VcpuState.TheVariants as vcpu
use Rattle.td_words.specs.declared.names.HeaderField.TheVariants as field
use Rattle.td_words.specs.declared.names.Mode.TheVariants.{Exclusive}
use Rattle.td_words.specs.declared.machines.Machine.{Machine}
use Rattle.td_words.specs.declared.refusals.Status.{Status}
use Rattle.td_words.specs.declared.refusals.Status.TheVariants.{OperandInvalid, VcpuStateIncorrect, BundleHeader}
use Rattle.td_words.specs.declared.replies.Reply.{Reply}
use Rattle.td_words.specs.NameNumber.{vcpu_number}
use Rattle.td_words.specs.Place as place
use Rattle.flat_core.specs.World.{World, ClearHeader}
use Rattle.flat_core.specs.Processor.{Held}
use Rattle.flat_core.specs.Row.{Item}
use Rattle.flat_core.specs.Opening.{Incoming}
use Rattle.flat_core.specs.Conditions.{same_vp_state, td_page, vp_in, page_exclusive}
use Rattle.flat_core.specs.Lawful.{Lawful, IsPageOf}
use Rattle.flat_core.specs.Sessions.{stream_page, stream_counter}
use Rattle.flat_core.specs.Inputs.{Input, input_in, header_says, session_same, epoch_same, counter_due, tag_holds}
use Rattle.flat_core.specs.ImportRows.{vp_state_ops, import_vp}
use Rattle.flat_core.proofs.ImportKeeps.{vp_state_importing}
use Rattle.word_rules.specs.Guards.{Grip}
use Rattle.word_rules.specs.Lines.{in_lines}
use Rattle.word_rules.specs.Rules.{Class, VcpuWord, Whole, KeepsNothing, reads, writes, owes}
use Rattle.word_rules.specs.Spots.{or_unused, vp_classes}
use Rattle.word_rules.specs.Permissions.{Owes, Writes, Respects}
use Rattle.word_rules.specs.Cells.{Shows, IsAs, vp_lines}
use Rattle.act_rules.proofs.Respected.{leaves, all-same}
use Rattle.leaf_engine.specs.declared.needs.Place.{Place}
use Rattle.leaf_engine.specs.Changes.{Put, changed_all}
use Rattle.leaf_engine.specs.Trees.{Tree, Load, needs}
use Rattle.leaf_engine.specs.Means.{Instant, Means, MeansRow, MayChange, Work, work_of, OfCall, hold, acted}
use Rattle.leaf_parts.proofs.Begun.{IsTd, TwoControls, page-in}
use Rattle.leaf_parts.proofs.Checks.{spot_of, at-spot, td-row-means, td-page-means}
use Rattle.leaf_parts.proofs.Vps.{vp-shown, vp-spot}
use Rattle.stream_parts.specs.declared.rooms.Room.{Room}
use Rattle.stream_parts.proofs.StreamWords.{page-of}
use Rattle.stream_parts.proofs.StreamMeans.{HoldsAlone}
use Rattle.stream_parts.proofs.Counted.{counter-owed}
use Rattle.access_core.specs.VpShows.{register-class}
use Rattle.vcpu_control.specs.Words.{vcpu_told}
use Rattle.vcpu_control.specs.InitMeans.{vcpu_again}
use Rattle.vcpu_control.specs.VpLocks.{td_locks, page_locks, held-td, held-op, alone-op, alone-page}
use Rattle.import_parts.specs.InputTrees.{input_checks, tag_tree, epoch_same_tree, is_due, counter_due_tree}
use Rattle.import_parts.proofs.InputMeans.{session_same-means, epoch_same-means, counter_due-means}
use Rattle.import_parts.proofs.WordPuts.{puts-owed}
use Rattle.import_states.specs.VpImportTrees.{vp_import_changes, index_same_tree, vp_due_tree, vp_import_tree, vp_import_end, import_vp_task}
use Rattle.import_states.specs.VpImportShows.{vp-imported}

module _ (m : Machine) (b : Option Incoming) (c : Instant) (t v slot : ℕ) (few : m.pages < 65536) (la : Lawful m c.state.world) (sh : Shows m c.memory.words c.memory.slots c.state) (x : IsTd m c.state.world t vp_state_ops) (in_page : v < m.pages) (other : (v == t) ≡ false) where
  abbrev w : World
  w = c.state.world

  abbrev w' : World
  w' = (import_vp m b t v slot).act c.state.world

  abbrev k : Work
  k = work_of (OfCall (import_vp m b t v slot))

  abbrev y : Input
  y = input_in b

  abbrev h : ClearHeader
  h = (input_in b).header

  abbrev z : TwoControls m c.state.world t
  z = x.controls

  abbrev hs : List Held
  hs = page_locks t v Exclusive

  abbrev g : Grip
  g = hold c (page_locks t v Exclusive)

  abbrev p : ℕ
  p = stream_page c.state.world t 0

  own : HoldsAlone (hs ++ c.kept) t
  own = record { tdr = held-td t v Exclusive c.kept other; op = held-op t v Exclusive c.kept other; alone = alone-op t v c.kept }

  -- its first stream
  some : 0 < length (w.tds.streams t)
  some = (let one = la.sessions.import_stream t (vp_state_importing (w.tds.ops t) x.op) in omega (arith, one))

  stream : IsPageOf w.pages t (stream_page w t 0) kind.Migsc
  stream = page-of m w t 0 la x.alive some

  stream_in : stream_page w t 0 < m.pages
  stream_in = page-in m w t (stream_page w t 0) kind.Migsc la stream refl

  abbrev ended_tree : Room → Tree
  ended_tree room = vp_import_end v (input_in b) room

  module _ (its : IsPageOf c.state.world.pages t v kind.Tdvpr) where
    -- a word of its page is what its line says
    vp-means : (i n : ℕ) → i < 512 → in_lines (vp_lines w v) i ≡ Some n → or_unused (in_lines vp_classes i) ≡ VcpuWord → (further : ℕ → Tree) (rest : List (Item Reply)) → Means m c k hs (further n) rest
        → Means m c k hs (Load Whole (place.Word v i) further) rest
    vp-means i n f line class further rest end =
        let word : c.memory.words (place.Word v i) ≡ n = subst (λ (o : Option ℕ). IsAs o (c.memory.words (place.Word v i))) line (vp-shown m c.memory.words c.memory.slots c.state sh t x.alive.life v i its in_page f) in (
          (in_page, f),
          inl (at-spot g w (place.Word v i) (spot_of VcpuWord t v) (λ r. reads r Whole) (vp-spot w t v i its ∙ ap (λ (r : Class). spot_of r t v) class) (inr (inl (own.tdr, (own.alone, tt))))),
          subst (λ (r : ℕ). Means m c k hs (further r) rest) (sym word) end,
        )

    respects : Respects g w w'
    respects = leaves g w w' (all-same w w' refl (λ u. record { op = refl; controls = refl; epoch = refl; empty = λ e. refl; named = λ n. refl })) (λ a. refl) refl

    -- its words may be stored
    may-act : Writes g w (place.Word v 1) KeepsNothing
    may-act = at-spot g w (place.Word v 1) (spot_of VcpuWord t v) (λ r. writes r KeepsNothing) (vp-spot w t v 1 its) (inr (inl (own.tdr, (own.op, (alone-page t v Exclusive c.kept other, tt)))))

    may-owe : (i : ℕ) → or_unused (in_lines vp_classes i) ≡ VcpuWord → Owes g w' (place.Word v i) KeepsNothing
    may-owe i class =
        at-spot g w' (place.Word v i) (spot_of VcpuWord t v) (λ r. owes r KeepsNothing) (vp-spot w' t v i (record { kind = its.kind; owner = its.owner }) ∙ ap (λ (r : Class). spot_of r t v) class)
        (inr (inl (own.tdr, (own.op, (alone-page t v Exclusive c.kept other, tt)))))

    may-change : MayChange m g w w' c.memory (vp_import_changes v y p)
    may-change = (
      ((in_page, omega arith), (KeepsNothing, may-act, tt)),
      (
        ((in_page, omega arith), (KeepsNothing, may-owe 4 refl, tt)),
        (
          ((stream_in, omega arith), (KeepsNothing, counter-owed g w' t (stream_page w t 0) own.tdr own.alone stream, tt)),
          puts-owed m g w' v 8 y.words 0 8 (changed_all (Put (place.Word v 1) (vcpu_number vcpu.Ready) ∷ Put (place.Word v 4) y.header.info ∷ Put (place.Word p 0) (y.header.counter + 1) ∷ []) c.memory) in_page (omega arith) (λ n from to. may-owe (8 + n) (register-class n (omega (arith, to)))),
        ),
      ),
    )

    module _ (due : is_due (input_in b).header (stream_counter c.state.world t 0) ≡ true) where
      counter : h.counter ≡ stream_counter w t 0
      counter = eqb-true h.counter (stream_counter w t 0) (and_parts (h.counter == stream_counter w t 0) (nat_lt (stream_counter w t 0) (2 ^ 32 - 1)) due).0

      shown : (let mem = changed_all (vp_import_changes v y p) c.memory in Shows m mem.words mem.slots (acted k c.state))
      shown = vp-imported m c.state c.memory t v y sh x.alive its in_page stream stream_in counter

      ended : Means m c k hs (ended_tree (record { page = p; counter = stream_counter w t 0 })) []
      ended = (
        record {
          answers = record { reply_is = refl; cached_is = refl; enters_is = refl; notes_are = refl; tells_are = refl; bundles_are = refl };
          fills_allowed = tt;
          respects = respects;
          locks_stay = ((refl, λ a. a), ((refl, λ a. record { alive = record { kind = a.alive.kind; life = a.alive.life }; has_tdcs = a.has_tdcs }), ((refl, λ a. a), tt)));
          shows = shown;
        },
        may-change,
      )

    -- the bundle is due
    abbrev counted_tree : Tree
    counted_tree = counter_due_tree m.pages x.controls.tdcs 0 (input_in b).header (λ room. tag_tree (input_in b) (ended_tree room))

    abbrev dues : List (Item Reply)
    dues =
        session_same c.state.world t (input_in b).header ∷ epoch_same c.state.world t (input_in b).header ∷ header_says ((input_in b).header.index == c.state.world.vps.indexes v) field.Index
        ∷ counter_due (stream_counter c.state.world t 0) (input_in b).header ∷ tag_holds (input_in b) ∷ []

    counted-means : Means m c k hs counted_tree (counter_due (stream_counter w t 0) h ∷ tag_holds y ∷ [])
    counted-means = counter_due-means m c k hs t la sh x.alive z own h 0 some (λ room. tag_tree y (ended_tree room)) (tag_holds y ∷ []) (λ due. (refl, λ e. refl, λ e. ended due))

    index-means : Means m c k hs (index_same_tree v h counted_tree) (header_says (h.index == w.vps.indexes v) field.Index ∷ counter_due (stream_counter w t 0) h ∷ tag_holds y ∷ [])
    index-means = vp-means 0 (w.vps.indexes v) (omega arith) refl refl (λ index. needs (h.index == index) (BundleHeader field.Index) counted_tree)
        (header_says (h.index == w.vps.indexes v) field.Index ∷ counter_due (stream_counter w t 0) h ∷ tag_holds y ∷ []) (refl, λ e. refl, λ e. counted-means)

    due-means : Means m c k hs (vp_due_tree m.pages z.tdcs v h y ended_tree) dues
    due-means =
        session_same-means m c k hs t la sh x.alive z own h (epoch_same_tree z.tdcs h (index_same_tree v h counted_tree))
        (epoch_same w t h ∷ header_says (h.index == w.vps.indexes v) field.Index ∷ counter_due (stream_counter w t 0) h ∷ tag_holds y ∷ []) (λ e.
        epoch_same-means m c k hs t la sh x.alive z own h (index_same_tree v h counted_tree)
        (header_says (h.index == w.vps.indexes v) field.Index ∷ counter_due (stream_counter w t 0) h ∷ tag_holds y ∷ []) (λ f. index-means))

    -- the virtual processor is CREATED
    abbrev state_tree : (state : VcpuState) → Tree
    state_tree state = needs (same_vp_state state vcpu.Created) (VcpuStateIncorrect state) (vp_due_tree m.pages x.controls.tdcs v (input_in b).header (input_in b) ended_tree)

    state-means : Means m c k hs (Load Whole (place.Word v 1) (λ state. state_tree (vcpu_told state))) (vp_in w v vcpu.Created ∷ dues)
    state-means =
        vp-means 1 (vcpu_number (w.vps.states v)) (omega arith) refl refl (λ state. state_tree (vcpu_told state)) (vp_in w v vcpu.Created ∷ dues)
        (subst (λ (s : VcpuState). Means m c k hs (state_tree s) (vp_in w v vcpu.Created ∷ dues)) (sym (vcpu_again (w.vps.states v))) (refl, λ e. refl, λ e. due-means))

  abbrev rest_items : List (Item Reply)
  rest_items =
      page_exclusive v ∷ td_page c.state.world t v kind.Tdvpr ∷ vp_in c.state.world v vcpu.Created ∷ session_same c.state.world t (input_in b).header ∷ epoch_same c.state.world t (input_in b).header
      ∷ header_says ((input_in b).header.index == c.state.world.vps.indexes v) field.Index ∷ counter_due (stream_counter c.state.world t 0) (input_in b).header ∷ tag_holds (input_in b) ∷ []

  rest-means : Means m c k (td_locks t Exclusive) (vp_import_tree m.pages t z.tdcs v y ended_tree) rest_items
  rest-means = td-page-means m c k (td_locks t Exclusive) sh la few t v kind.Tdvpr in_page (Load Whole (place.Word v 1) (λ state. needs (same_vp_state (vcpu_told state) vcpu.Created) (VcpuStateIncorrect (vcpu_told state)) (vp_due_tree m.pages z.tdcs v h y ended_tree)))
      (vp_in w v vcpu.Created ∷ session_same w t h ∷ epoch_same w t h ∷ header_says (h.index == w.vps.indexes v) field.Index ∷ counter_due (stream_counter w t 0) h ∷ tag_holds y ∷ []) state-means

-- two pages, which are not the same, and the bundle
abbrev arguments : Machine → Input → (t q slot : ℕ) → List (Bool × Status)
arguments m x t q slot = (nat_lt t m.pages, OperandInvalid 1) ∷ (nat_lt q m.pages, OperandInvalid 2) ∷ (not (q == t), OperandInvalid 2) ∷ input_checks x slot (2 ∷ [])

pub import_vp-means : (p : Place) (b : Option Incoming) (t v slot : ℕ) → p.machine.pages < 65536 → MeansRow (import_vp_task p b t v slot)
import_vp-means p b t v slot few = record {
  means = λ c at. td-row-means p.machine c (work_of (OfCall (import_vp p.machine b t v slot))) t at.lawful at.shown (arguments p.machine (input_in b) t v slot) (λ a. ltb-true t p.machine.pages a.0) Exclusive vp_state_ops
      (λ td. vp_import_tree p.machine.pages t td.tdcs v (input_in b) (vp_import_end v (input_in b)))
      (page_exclusive v ∷ td_page c.state.world t v kind.Tdvpr ∷ vp_in c.state.world v vcpu.Created ∷ session_same c.state.world t (input_in b).header ∷ epoch_same c.state.world t (input_in b).header
      ∷ header_says ((input_in b).header.index == c.state.world.vps.indexes v) field.Index ∷ counter_due (stream_counter c.state.world t 0) (input_in b).header ∷ tag_holds (input_in b) ∷ [])
      (λ a y. rest-means p.machine b c t v slot few at.lawful at.shown y (ltb-true v p.machine.pages a.1.0) (not-true (v == t) a.1.1.0));
}
