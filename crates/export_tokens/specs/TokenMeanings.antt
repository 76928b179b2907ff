-- The leaf that makes tokens means its row.
use Rattle.std.proofs.Common.{◌≡◌, ℕ, zero, suc, ◌+◌, ◌-◌, ◌%◌, ◌^◌, ◌<◌, ◌≤◌, Bool, true, ◌==◌, nat_lt, List, [], ◌∷◌, ◌++◌, length, refl, sym, subst, inl, inr, arith}
use Rattle.std.specs.List.{list_any, sum_by}
use Rattle.std.proofs.lemmas.Bool.{eq-eqb, ltb-true}
use Rattle.td_words.specs.declared.names.PageKind.TheVariants as kind
use Rattle.td_words.specs.declared.names.OpState.{OpState}
use Rattle.td_words.specs.declared.names.OpState.TheVariants as op
use Rattle.td_words.specs.declared.names.Counter.TheVariants.{MigEpoch}
use Rattle.td_words.specs.declared.machines.Machine.{Machine}
use Rattle.td_words.specs.declared.refusals.Status.{Status}
use Rattle.td_words.specs.declared.refusals.Status.TheVariants.{OperandInvalid, CounterLimit, StateMissing, DirtyPages}
use Rattle.td_words.specs.declared.replies.Reply.{Reply}
use Rattle.td_words.specs.NameNumber.{op_number}
use Rattle.td_words.specs.Place.{IsIn}
use Rattle.td_words.specs.Place as place
use Rattle.flat_core.specs.World.{World}
use Rattle.flat_core.specs.Processor.{Held}
use Rattle.flat_core.specs.Row.{Item}
use Rattle.flat_core.specs.Effects.{set_op}
use Rattle.flat_core.specs.Lawful.{Lawful, IsPageOf, is_exporting}
use Rattle.flat_core.specs.ExportRows.{abortable_ops}
use Rattle.flat_core.specs.Sessions.{stream_page, stream_counter, bundles_so_far, missing_states, counter_room, mig_epoch_room, none_missing, none_dirty, set_mig_epoch}
use Rattle.flat_core.specs.BundleRows.{paused_ops, start_epoch, export_token}
use Rattle.word_rules.specs.Guards.{Grip}
use Rattle.word_rules.specs.Rules.{KeepsNothing, Whole, writes, owes}
use Rattle.word_rules.specs.Permissions.{Writes}
use Rattle.word_rules.specs.Cells.{Shows}
use Rattle.act_rules.proofs.Rows.{token-exported}
use Rattle.leaf_engine.specs.declared.needs.Place.{Place}
use Rattle.leaf_engine.specs.Changes.{Memory, Put, changed}
use Rattle.leaf_engine.specs.Trees.{Tree, Load, needs}
use Rattle.leaf_engine.specs.Means.{Instant, Means, MeansRow, Work, work_of, OfCall, hold}
use Rattle.leaf_parts.proofs.Aside.{AllShown}
use Rattle.leaf_parts.proofs.Begun.{IsTd, TwoControls, locks-kept, page-in}
use Rattle.leaf_parts.proofs.Checks.{tdcs-load, at-tdcs}
use Rattle.leaf_parts.proofs.Hashers.{hashers-but}
use Rattle.leaf_parts.proofs.Stored.{tdcs-stored}
use Rattle.leaf_parts.proofs.Vps.{vps-back}
use Rattle.stream_parts.specs.declared.rooms.Room.{Room}
use Rattle.stream_parts.specs.Streams.{pages_tree, sum_tree}
use Rattle.stream_parts.specs.Rooms.{room_tree, session_tree}
use Rattle.stream_parts.proofs.StreamSums.{sum-fits}
use Rattle.stream_parts.proofs.StreamWords.{abortable, page-of}
use Rattle.stream_parts.proofs.StreamMeans.{HoldsHead, HoldsAlone, tdcs-means, pages-means, sum-means, room-means, session-means, mig_epoch-means}
use Rattle.stream_parts.proofs.Counted.{bundle-counted, counter-owed}
use Rattle.stream_parts.proofs.AloneMeans.{alone_locks, alone-head, alone-own, alone-row-means}
use Rattle.export_tokens.specs.declared.tokens.Streams.{Streams}
use Rattle.export_tokens.specs.declared.tokens.TokenWords.{TokenWords}
use Rattle.export_tokens.specs.TokenTrees.{next_epoch_tree, missing_in, none_missing_tree, none_dirty_tree, total_tree, token_made, token_end, token_task}

-- a TD that is paused for its export is being exported
paused : (s : OpState) → list_any (λ a. op_number a == op_number s) paused_ops ≡ true → is_exporting s ≡ true
paused op.PausedExport h = refl
paused _ h = cc

module _ (m : Machine) (c : Instant) (t : ℕ) (la : Lawful m c.state.world) (sh : Shows m c.memory.words c.memory.slots c.state) (ops : List OpState) (x : IsTd m c.state.world t ops) (first : 1 ≤ length (c.state.world.tds.streams t)) where
  abbrev w : World
  w = c.state.world

  abbrev z : TwoControls m c.state.world t
  z = x.controls

  abbrev d : ℕ
  d = x.controls.tdcs

  abbrev p : ℕ
  p = stream_page c.state.world t 0

  abbrev held : List Held
  held = alone_locks t

  abbrev g : Grip
  g = hold c held

  own : HoldsAlone (held ++ c.kept) t
  own = alone-own t c.kept

  head : HoldsHead (held ++ c.kept) t
  head = alone-head t c.kept

  its-stream : IsPageOf w.pages t p kind.Migsc
  its-stream = page-of m w t 0 la x.alive first

  stream-in : p < m.pages
  stream-in = page-in m w t p kind.Migsc la its-stream refl

  abbrev its-room : Room
  its-room = record { page = stream_page c.state.world t 0; counter = stream_counter c.state.world t 0 }

  abbrev its-streams : Streams
  its-streams = record { tdcs = x.controls.tdcs; room = its-room; pages = record { items = c.state.world.tds.streams t } }

  abbrev its-words : ℕ → TokenWords
  its-words epoch = record { tdcs = x.controls.tdcs; room = its-room; epoch = epoch; session = c.state.world.tds.sessions t; total = bundles_so_far c.state.world t }

  -- the migration epoch is stored, which is the act
  epoch-shown : (epoch : ℕ) → AllShown m (changed (Put (place.Word d 10) epoch) c.memory).words (record (c.state) { world = set_mig_epoch t epoch c.state.world })
  epoch-shown epoch = tdcs-stored m c.state c.memory.words t d z.root sh.word x.alive.life z.list z.tdcs_page z.tdcs_in (set_mig_epoch t epoch w) (λ u n i. rw n refl) 10 epoch (rw (eq-eqb t t refl) refl) (λ i n. rw n refl)

  may-act : IsIn m (place.Word d 10) × Writes g w (place.Word d 10) KeepsNothing
  may-act = ((z.tdcs_in, omega arith), at-tdcs g w t d 10 (z.root ∷ []) (λ a. writes a KeepsNothing) z.list z.tdcs_page (inr (inl (own.tdr, (own.alone, tt)))))

  module _ (slot start : ℕ) where
    abbrev k : Work
    k = work_of (OfCall (export_token m t slot start))

    abbrev Mean : Tree → List (Item Reply) → Type 0
    Mean tree rest = Means m c k held tree rest

    -- the beginning
    begun-means : (further : Streams → Tree) (rest : List (Item Reply)) → Mean (further its-streams) rest
        → Mean (room_tree m.pages d 0 (λ room. pages_tree m.pages d (λ pages. further (record { tdcs = d; room = room; pages = pages })))) (counter_room w t 0 ∷ rest)
    begun-means further rest end =
        room-means m c k held t la sh x.alive z own 0 first (λ room. pages_tree m.pages d (λ pages. further (record { tdcs = d; room = room; pages = pages }))) rest
        (λ room. pages-means m c k held t la sh x.alive z own (λ pages. further (record { tdcs = d; room = its-room; pages = pages })) rest end)

    -- the words of its header
    total-means : (epoch : ℕ) (further : TokenWords → Tree) (rest : List (Item Reply)) → Mean (further (its-words epoch)) rest → Mean (total_tree its-streams epoch further) rest
    total-means epoch further rest end =
        let few : length (w.tds.streams t) ≤ 4 = la.tds.streams_few t in
        let fits : sum_by w.streams.counters (w.tds.streams t) % 2 ^ 64 ≡ bundles_so_far w t = sum-fits w.streams.counters
        (λ q. (let own = la.streams.counter q in omega (arith, own))) (w.tds.streams t) few in
        let made : ℕ → ℕ → TokenWords = λ total session. record { tdcs = d; room = its-room; epoch = epoch; session = session; total = total } in
        sum-means m c k held t la sh x.alive z own 0 w.streams.counters (omega arith) (λ q. refl) refl (λ total. session_tree d (λ session. further (made total session))) rest
        (session-means m c k held t la sh x.alive z head (λ session. further (made (sum_by w.streams.counters (w.tds.streams t) % 2 ^ 64) session)) rest
        (subst (λ (total : ℕ). Mean (further (made total (w.tds.sessions t))) rest) (sym fits) end))

    -- the epoch that begins
    next-means : (further : ℕ → Tree) (rest : List (Item Reply)) → Mean (further (w.tds.mig_epochs t + 1)) rest → Mean (next_epoch_tree d further) (mig_epoch_room w t ∷ rest)
    next-means further rest end =
        mig_epoch-means m c k held t la sh x.alive z head (λ epoch. needs (nat_lt epoch (2 ^ 32 - 2)) (CounterLimit MigEpoch) (further (epoch + 1))) (mig_epoch_room w t ∷ rest) (refl, λ e. refl, λ e. end)

    -- no state is missing
    missing-means : (further : Tree) (rest : List (Item Reply)) → Mean further rest → Mean (none_missing_tree d further) (none_missing w t ∷ rest)
    missing-means further rest end =
        let counted : missing_in (w.tds.td_exported t) (length (w.tds.vps t)) (w.tds.vps_exported t) ≡ missing_states w t = rw (vps-back (length (w.tds.vps t)) (la.tds.vps_few t)) refl in
        let tested : ℕ → Tree = λ n. needs (n == 0) (StateMissing n) further in
        tdcs-means m c k held t la sh x.alive z head 12 (w.tds.td_exported t) (omega arith) refl refl (λ a. Load Whole (place.Word d 15) (λ b. Load Whole (place.Word d 13) (λ e. tested (missing_in a b e)))) (none_missing w t ∷ rest)
        (tdcs-means m c k held t la sh x.alive z head 15 (length (w.tds.vps t)) (omega arith) refl refl (λ b. Load Whole (place.Word d 13) (λ e. tested (missing_in (w.tds.td_exported t) b e))) (none_missing w t ∷ rest)
        (tdcs-means m c k held t la sh x.alive z head 13 (w.tds.vps_exported t) (omega arith) refl refl (λ e. tested (missing_in (w.tds.td_exported t) (length (w.tds.vps t)) e)) (none_missing w t ∷ rest)
        (subst (λ (n : ℕ). Mean (tested n) (none_missing w t ∷ rest)) (sym counted) (refl, λ e. refl, λ e. end))))

    -- and no page is dirty
    dirty-means : (further : Tree) (rest : List (Item Reply)) → Mean further rest → Mean (none_dirty_tree d (w.tds.streams t) further) (none_dirty w t ∷ rest)
    dirty-means further rest end =
        let few : length (w.tds.streams t) ≤ 4 = la.tds.streams_few t in
        let small : (q : ℕ) → w.streams.cleaned q < 2 ^ 36 = λ q. (let a = la.streams.cleaned q in let b = la.streams.counter q in omega (arith, a, b)) in
        let fits : sum_by w.streams.cleaned (w.tds.streams t) % 2 ^ 64 ≡ sum_by w.streams.cleaned (w.tds.streams t) = sum-fits w.streams.cleaned small (w.tds.streams t) few in
        let tested : ℕ → ℕ → Tree = λ dirtied cleaned. needs (dirtied - cleaned == 0) (DirtyPages (dirtied - cleaned)) further in
        tdcs-load m c k held sh t 8 (w.tds.dirtied t) x.alive z (omega arith) refl (inr (inl (own.tdr, (own.alone, tt)))) (λ dirtied. sum_tree 1 (w.tds.streams t) (tested dirtied)) (none_dirty w t ∷ rest)
        (sum-means m c k held t la sh x.alive z own 1 w.streams.cleaned (omega arith) (λ q. refl) refl (tested (w.tds.dirtied t)) (none_dirty w t ∷ rest)
        (subst (λ (n : ℕ). Mean (tested (w.tds.dirtied t) n) (none_dirty w t ∷ rest)) (sym fits) (refl, λ e. refl, λ e. end)))

  -- an epoch token's end
  module _ (slot : ℕ) where
    abbrev epoch : ℕ
    epoch = c.state.world.tds.mig_epochs t + 1

    abbrev begun : World
    begun = set_mig_epoch t epoch c.state.world

    abbrev told : Memory
    told = changed (Put (place.Word x.controls.tdcs 10) epoch) c.memory

    epoch-begun : Shows m told.words told.slots (record (c.state) { world = begun })
    epoch-begun = record { word = epoch-shown epoch; hasher = sh.hasher }

    epoch-end : Means m c (k slot 0) held (token_end slot 0 (its-words epoch)) []
    epoch-end = (let w' : World = (export_token m t slot 0).act w in (
      record {
        answers = record { reply_is = refl; cached_is = refl; enters_is = refl; notes_are = refl; tells_are = refl; bundles_are = refl };
        fills_allowed = tt;
        respects = token-exported g w m t slot 0 own.tdr own.alone;
        locks_stay = locks-kept w w' refl (λ u a. record { kind = a.kind; life = a.life }) held;
        shows = bundle-counted m (record (c.state) { world = begun }) told t 0 (token_made slot 0 (its-words epoch)) epoch-begun x.alive.life its-stream stream-in;
      },
      (
        (may-act.0, (KeepsNothing, may-act.1, tt)),
        (((stream-in, omega arith), (KeepsNothing, counter-owed g w' t p own.tdr own.alone (record { kind = its-stream.kind; owner = its-stream.owner }), tt)), tt),
      ),
    ))

  -- a start token's end
  module _ (slot n : ℕ) where
    abbrev last : World
    last = set_mig_epoch t start_epoch c.state.world

    abbrev ended : World
    ended = set_op t op.PostExport last

    abbrev told-last : Memory
    told-last = changed (Put (place.Word x.controls.tdcs 4) 5) (changed (Put (place.Word x.controls.tdcs 10) start_epoch) c.memory)

    itself : (t == t) ≡ true
    itself = eq-eqb t t refl

    export-ended : Shows m told-last.words told-last.slots (record (c.state) { world = ended })
    export-ended = record {
      word = tdcs-stored m (record (c.state) { world = last }) (changed (Put (place.Word x.controls.tdcs 10) start_epoch) c.memory).words t d z.root
          (epoch-shown start_epoch) x.alive.life z.list z.tdcs_page z.tdcs_in ended (λ u n i. rw n refl) 4 5 (rw itself refl) (λ i n. rw n refl);
      hasher = hashers-but m w ended t c.memory.slots told-last.slots la x.alive refl (λ u e. rw e refl) (λ h e. refl) (rw (x.configured, itself) tt) sh.hasher;
    }

    start-end : Means m c (k slot (suc n)) held (token_end slot (suc n) (its-words start_epoch)) []
    start-end = (let w' : World = (export_token m t slot (suc n)).act w in (
      record {
        answers = record { reply_is = refl; cached_is = refl; enters_is = refl; notes_are = refl; tells_are = refl; bundles_are = refl };
        fills_allowed = tt;
        respects = token-exported g w m t slot (suc n) own.tdr own.alone;
        locks_stay = locks-kept w w' refl (λ u a. record { kind = a.kind; life = a.life }) held;
        shows = bundle-counted m (record (c.state) { world = ended }) told-last t 0 (token_made slot (suc n) (its-words start_epoch)) export-ended x.alive.life its-stream stream-in;
      },
      (
        (may-act.0, (KeepsNothing, may-act.1, tt)),
        (
          ((z.tdcs_in, omega arith), (KeepsNothing, at-tdcs g w' t d 4 (z.root ∷ []) (λ a. owes a KeepsNothing) z.list (record { kind = z.tdcs_page.kind; owner = z.tdcs_page.owner }) (inr (inl (own.tdr, (own.alone, tt)))), tt)),
          (((stream-in, omega arith), (KeepsNothing, counter-owed g w' t p own.tdr own.alone (record { kind = its-stream.kind; owner = its-stream.owner }), tt)), tt),
        ),
      ),
    ))

abbrev arguments : Machine → (tdr start : ℕ) → List (Bool × Status)
arguments m t start = (nat_lt t m.pages, OperandInvalid 1) ∷ (nat_lt start 2, OperandInvalid 3) ∷ []

pub token-means : (p : Place) (t slot start : ℕ) → MeansRow (token_task p t slot start)
token-means p t slot zero = record {
  means = λ c at. (let m : Machine = p.machine in let w : World = c.state.world in
      alone-row-means m c (work_of (OfCall (export_token m t slot 0))) t at.lawful at.shown (arguments m t 0) (λ a. ltb-true t m.pages a.0) abortable_ops
      (λ d. room_tree m.pages d 0 (λ room. pages_tree m.pages d (λ pages. next_epoch_tree d (λ epoch. total_tree (record { tdcs = d; room = room; pages = pages }) epoch (token_end slot 0)))))
      (counter_room w t 0 ∷ mig_epoch_room w t ∷ [])
      (λ a x. (let first : 1 ≤ length (w.tds.streams t) = at.lawful.sessions.first_stream t (abortable (w.tds.ops t) x.op) in
      begun-means m c t at.lawful at.shown abortable_ops x first slot 0 (λ s. next_epoch_tree s.tdcs (λ epoch. total_tree s epoch (token_end slot 0))) (mig_epoch_room w t ∷ [])
      (next-means m c t at.lawful at.shown abortable_ops x first slot 0 (λ epoch. total_tree (its-streams m c t at.lawful at.shown abortable_ops x first) epoch (token_end slot 0)) []
      (total-means m c t at.lawful at.shown abortable_ops x first slot 0 (w.tds.mig_epochs t + 1) (token_end slot 0) []
      (epoch-end m c t at.lawful at.shown abortable_ops x first slot))))));
}
token-means p t slot (suc n) = record {
  means = λ c at. (let m : Machine = p.machine in let w : World = c.state.world in
      alone-row-means m c (work_of (OfCall (export_token m t slot (suc n)))) t at.lawful at.shown (arguments m t (suc n)) (λ a. ltb-true t m.pages a.0) paused_ops
      (λ d. room_tree m.pages d 0 (λ room. pages_tree m.pages d (λ pages. none_missing_tree d (none_dirty_tree d pages.items (total_tree (record { tdcs = d; room = room; pages = pages }) start_epoch (token_end slot (suc n)))))))
      (counter_room w t 0 ∷ none_missing w t ∷ none_dirty w t ∷ [])
      (λ a x. (let first : 1 ≤ length (w.tds.streams t) = at.lawful.sessions.first_stream t (paused (w.tds.ops t) x.op) in
      begun-means m c t at.lawful at.shown paused_ops x first slot (suc n) (λ s. none_missing_tree s.tdcs (none_dirty_tree s.tdcs s.pages.items (total_tree s start_epoch (token_end slot (suc n))))) (none_missing w t ∷ none_dirty w t ∷ [])
      (missing-means m c t at.lawful at.shown paused_ops x first slot (suc n) (none_dirty_tree x.controls.tdcs (w.tds.streams t) (total_tree (its-streams m c t at.lawful at.shown paused_ops x first) start_epoch (token_end slot (suc n)))) (none_dirty w t ∷ [])
      (dirty-means m c t at.lawful at.shown paused_ops x first slot (suc n) (total_tree (its-streams m c t at.lawful at.shown paused_ops x first) start_epoch (token_end slot (suc n))) []
      (total-means m c t at.lawful at.shown paused_ops x first slot (suc n) start_epoch (token_end slot (suc n)) []
      (start-end m c t at.lawful at.shown paused_ops x first slot n)))))));
}
