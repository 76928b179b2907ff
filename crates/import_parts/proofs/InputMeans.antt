-- The fields of a bundle's header mean what rows say of them, under P of the TDR page and O.
use Rattle.std.proofs.Common.{◌≡◌, ℕ, ◌<◌, ◌≤◌, true, ◌==◌, List, ◌∷◌, ◌++◌, length, refl, inl, inr, arith}
use Rattle.td_words.specs.declared.names.PageKind.TheVariants as kind
use Rattle.td_words.specs.declared.names.HeaderField.TheVariants as field
use Rattle.td_words.specs.declared.machines.Machine.{Machine}
use Rattle.td_words.specs.declared.refusals.Status.TheVariants.{BundleHeader}
use Rattle.td_words.specs.declared.replies.Reply.{Reply}
use Rattle.td_words.specs.Place as place
use Rattle.flat_core.specs.World.{World, ClearHeader}
use Rattle.flat_core.specs.Processor.{Held}
use Rattle.flat_core.specs.Row.{Item}
use Rattle.flat_core.specs.Lawful.{Lawful, IsAlive, IsPageOf}
use Rattle.flat_core.specs.Sessions.{stream_page, stream_counter}
use Rattle.flat_core.specs.Inputs.{session_same, epoch_same, counter_due}
use Rattle.word_rules.specs.Rules.{StreamWord, Whole, reads}
use Rattle.word_rules.specs.Permissions.{MayAt}
use Rattle.word_rules.specs.Cells.{Shows}
use Rattle.leaf_engine.specs.Trees.{Tree, Load, needs}
use Rattle.leaf_engine.specs.Means.{Instant, Means, Work, hold}
use Rattle.leaf_parts.proofs.Begun.{TwoControls}
use Rattle.leaf_parts.proofs.Checks.{spot_of}
use Rattle.stream_parts.specs.declared.rooms.Room.{Room}
use Rattle.stream_parts.proofs.StreamWords.{listed, page-of}
use Rattle.stream_parts.proofs.StreamMeans.{HoldsHead, HoldsAlone, stream-load, page-means, session-means, mig_epoch-means}
use Rattle.import_parts.specs.InputTrees.{session_same_tree, epoch_same_tree, is_due, due_tree, counter_due_tree}

-- in any mode
module _ (m : Machine) (c : Instant) (work : Work) (hs : List Held) (t : ℕ) (la : Lawful m c.state.world) (sh : Shows m c.memory.words c.memory.slots c.state) (alive : IsAlive c.state.world.pages c.state.world.tds t) (z : TwoControls m c.state.world t) (held : HoldsHead (hs ++ c.kept) t) (h : ClearHeader) where
  abbrev v : World
  v = c.state.world

  abbrev Goes : Tree → List (Item Reply) → Type 0
  Goes s rest = Means m c work hs s rest

  pub session_same-in : (further : Tree) (rest : List (Item Reply)) → ((h.session == v.tds.sessions t) ≡ true → Goes further rest) → Goes (session_same_tree z.tdcs h further) (session_same v t h ∷ rest)
  session_same-in further rest end = session-means m c work hs t la sh alive z held (λ session. needs (h.session == session) (BundleHeader field.Session) further) (session_same v t h ∷ rest) (refl, λ e. refl, λ e. end e)

  pub epoch_same-in : (further : Tree) (rest : List (Item Reply)) → ((h.epoch == v.tds.mig_epochs t) ≡ true → Goes further rest) → Goes (epoch_same_tree z.tdcs h further) (epoch_same v t h ∷ rest)
  epoch_same-in further rest end = mig_epoch-means m c work hs t la sh alive z held (λ epoch. needs (h.epoch == epoch) (BundleHeader field.Epoch) further) (epoch_same v t h ∷ rest) (refl, λ e. refl, λ e. end e)

  -- the counter that is due on a stream that there is, whose words stay
  module _ (k : ℕ) (small : k < length (c.state.world.tds.streams t)) (may : MayAt (hold c hs) (spot_of StreamWord t (stream_page c.state.world t k)) (λ y. reads y Whole)) (further : Room → Tree) (rest : List (Item Reply)) where
    abbrev q : ℕ
    q = stream_page c.state.world t k

    abbrev testing : (page counter : ℕ) → Tree
    testing page counter = due_tree h counter (further (record { page = page; counter = counter }))

    pub counter_due-in : (is_due h (stream_counter v t k) ≡ true → Goes (further (record { page = q; counter = stream_counter v t k })) rest) → Goes (counter_due_tree m.pages z.tdcs k h further) (counter_due (stream_counter v t k) h ∷ rest)
    counter_due-in end =
        let few : length (v.tds.streams t) ≤ 4 = la.tds.streams_few t in
        let its : IsPageOf v.pages t q kind.Migsc = page-of m v t k la alive small in
        page-means m c work hs t la sh alive z held k q (omega (arith, few, small)) (listed v t k small) its (λ page. Load Whole (place.Word page 0) (λ counter. testing page counter)) (counter_due (stream_counter v t k) h ∷ rest)
        (stream-load m c work hs t la sh alive z q 0 (stream_counter v t k) its (omega arith) refl may (λ counter. testing q counter) (counter_due (stream_counter v t k) h ∷ rest) (refl, λ e. refl, λ e. end e))

-- and alone
module _ (m : Machine) (c : Instant) (work : Work) (hs : List Held) (t : ℕ) (la : Lawful m c.state.world) (sh : Shows m c.memory.words c.memory.slots c.state) (alive : IsAlive c.state.world.pages c.state.world.tds t) (z : TwoControls m c.state.world t) (own : HoldsAlone (hs ++ c.kept) t) (h : ClearHeader) where
  abbrev w : World
  w = c.state.world

  abbrev head : HoldsHead (hs ++ c.kept) t
  head = record { tdr = own.tdr; op = own.op }

  abbrev Mean : Tree → List (Item Reply) → Type 0
  Mean s rest = Means m c work hs s rest

  pub session_same-means : (further : Tree) (rest : List (Item Reply)) → ((h.session == w.tds.sessions t) ≡ true → Mean further rest) → Mean (session_same_tree z.tdcs h further) (session_same w t h ∷ rest)
  session_same-means further rest end = session_same-in m c work hs t la sh alive z head h further rest end

  pub epoch_same-means : (further : Tree) (rest : List (Item Reply)) → ((h.epoch == w.tds.mig_epochs t) ≡ true → Mean further rest) → Mean (epoch_same_tree z.tdcs h further) (epoch_same w t h ∷ rest)
  epoch_same-means further rest end = epoch_same-in m c work hs t la sh alive z head h further rest end

  -- the counter that is due on a stream that there is
  module _ (k : ℕ) (small : k < length (c.state.world.tds.streams t)) (further : Room → Tree) (rest : List (Item Reply)) where
    abbrev p : ℕ
    p = stream_page c.state.world t k

    pub counter_due-means : (is_due h (stream_counter w t k) ≡ true → Mean (further (record { page = p; counter = stream_counter w t k })) rest) → Mean (counter_due_tree m.pages z.tdcs k h further) (counter_due (stream_counter w t k) h ∷ rest)
    counter_due-means end = counter_due-in m c work hs t la sh alive z head h k small (inr (inl (own.tdr, (own.alone, tt)))) further rest end
