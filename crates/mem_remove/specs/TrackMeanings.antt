-- The leaf that advances a TD's epoch means its row.
use Rattle.std.proofs.Common.{◌≡◌, ℕ, ◌+◌, ◌≤◌, true, ◌==◌, nat_lt, List, [], ◌∷◌, ◌++◌, refl, inr, inl, arith}
use Rattle.std.proofs.lemmas.Bool.{eq-eqb, ltb-true}
use Rattle.td_words.specs.declared.names.Mode.TheVariants.{Shared, Exclusive}
use Rattle.td_words.specs.declared.machines.Machine.{Machine}
use Rattle.td_words.specs.declared.places.TheConstants.{TDCS_EPOCH}
use Rattle.td_words.specs.declared.refusals.Status.TheVariants.{OperandInvalid, PreviousTlbEpochBusy}
use Rattle.td_words.specs.Place as place
use Rattle.flat_core.specs.World.{World}
use Rattle.flat_core.specs.Processor.{OfPage, OfOp, OfEpoch, Held}
use Rattle.flat_core.specs.Access.{LawfulEpochs}
use Rattle.flat_core.specs.Conditions.{augmented_ops, epoch_exclusive}
use Rattle.flat_core.specs.Lawful.{Lawful}
use Rattle.flat_core.specs.MemRows.{advance_epoch}
use Rattle.flat_core.specs.Tracking.{epoch_room, previous_epoch_left}
use Rattle.flat_core.specs.Event.{State}
use Rattle.word_rules.specs.Rules.{Whole, KeepsNothing, writes}
use Rattle.word_rules.specs.Cells.{Shows}
use Rattle.lock_words.specs.Grips.{holds, holds_alone}
use Rattle.act_rules.proofs.Respected.{effects-respect}
use Rattle.leaf_engine.specs.declared.needs.Place.{Place}
use Rattle.leaf_engine.specs.Changes.{Memory, changed_all}
use Rattle.leaf_engine.specs.Trees.{Load, done, needs}
use Rattle.leaf_engine.specs.Means.{Instant, Means, MeansRow, MayChange, Work, work_of, OfCall, hold}
use Rattle.leaf_parts.proofs.Begun.{IsTd, TwoControls, locks-kept, op_lock, page_lock}
use Rattle.leaf_parts.proofs.Checks.{td-row-means, at-tdcs}
use Rattle.leaf_parts.proofs.Stored.{tdcs-stored}
use Rattle.mem_remove.specs.NamedMeanings.{epoch_held, epoch-lock-means}
use Rattle.mem_remove.specs.TrackedMeanings.{epoch-told-means, previous-means}
use Rattle.mem_remove.specs.TrackTrees.{track_changes, track_epoch, track_rest, track_task}

-- words that show the state before show the one after, once TD_EPOCH was stored
module _ (m : Machine) (s : State) (mem : Memory) (t : ℕ) (sh : Shows m mem.words mem.slots s) (x : IsTd m s.world t augmented_ops) where
  abbrev w : World
  w = s.world

  abbrev w' : World
  w' = (advance_epoch m t).act w

  abbrev y : TwoControls m w t
  y = x.controls

  abbrev after : Memory
  after = changed_all (track_changes y.tdcs (w.tds.epochs t)) mem

  pub advanced : Shows m after.words after.slots (record s { world = w' })
  advanced = record {
    word = tdcs-stored m s mem.words t y.tdcs y.root sh.word x.alive.life y.list y.tdcs_page y.tdcs_in w' (λ u n i. rw n refl) 5 (w.tds.epochs t + 1) (rw (eq-eqb t t refl) refl) (λ i n. rw n refl);
    hasher = sh.hasher;
  }

-- the leaf
module _ (m : Machine) (c : Instant) (t : ℕ) (la : Lawful m c.state.world) (sh : Shows m c.memory.words c.memory.slots c.state) (epochs : LawfulEpochs c.state.world) (x : IsTd m c.state.world t augmented_ops) where
  abbrev v : World
  v = c.state.world

  abbrev k : Work
  k = work_of (OfCall (advance_epoch m t))

  abbrev v' : World
  v' = k.act v

  abbrev e : ℕ
  e = c.state.world.tds.epochs t

  abbrev z : TwoControls m v t
  z = x.controls

  abbrev td_locks : List Held
  td_locks = op_lock t Shared ∷ page_lock t Shared ∷ []

  abbrev held : List Held
  held = epoch_held t Exclusive ∷ td_locks

  tdr-held : holds (held ++ c.kept) (OfPage t) ≡ true
  tdr-held = rw (eq-eqb t t refl) refl

  op-held : holds (held ++ c.kept) (OfOp t) ≡ true
  op-held = rw (eq-eqb t t refl) refl

  epoch-is-held : holds (held ++ c.kept) (OfEpoch t) ≡ true
  epoch-is-held = rw (eq-eqb t t refl) refl

  epoch-alone : holds_alone (held ++ c.kept) (OfEpoch t) ≡ true
  epoch-alone = rw (eq-eqb t t refl) refl

  -- TD_EPOCH has begun
  begun : 1 ≤ e
  begun = la.tds.epoch_begun t (λ o. let no = rw o at x.op in cc)

  may-change : MayChange m (hold c held) v v' c.memory (track_changes z.tdcs e)
  may-change = (
    ((z.tdcs_in, omega arith), (KeepsNothing, at-tdcs (hold c held) v t z.tdcs 5 (z.root ∷ []) (λ a. writes a KeepsNothing) z.list z.tdcs_page (inr (inr (inl (tdr-held, (op-held, (epoch-alone, tt)))))), tt)),
    tt,
  )

  ended : Means m c k held (done [] (track_changes z.tdcs e)) []
  ended = (
    record {
      answers = record { reply_is = refl; cached_is = refl; enters_is = refl; notes_are = refl; tells_are = refl; bundles_are = refl };
      fills_allowed = tt;
      respects = (effects-respect (hold c held) v).epoch t (e + 1) (record { tdr = tdr-held; op = op-held }) epoch-alone;
      locks_stay = locks-kept v v' refl (λ u a. record { kind = a.kind; life = a.life }) held;
      shows = advanced m c.state c.memory t sh x;
    },
    may-change,
  )

  -- the previous epoch is left
  left-means : Means m c k held (track_epoch z.tdcs e) (epoch_room v t ∷ previous_epoch_left v t ∷ [])
  left-means = (
    refl,
    λ f. refl,
    λ room.
        previous-means m c (advance_epoch m t) t held la sh epochs augmented_ops x begun tdr-held op-held epoch-is-held (λ count. needs (count == 0) (PreviousTlbEpochBusy count) (done [] (track_changes z.tdcs e))) (previous_epoch_left v t ∷ []) (λ some. rw some refl)
        (refl, λ f. refl, λ none. ended),
  )

  pub rest-means : Means m c k td_locks (track_rest t z.tdcs) (epoch_exclusive t ∷ epoch_room v t ∷ previous_epoch_left v t ∷ [])
  rest-means =
      epoch-lock-means m c k t x.alive x.controls td_locks Exclusive (Load Whole (place.Word z.tdcs TDCS_EPOCH) (λ epoch. track_epoch z.tdcs epoch)) (epoch_room v t ∷ previous_epoch_left v t ∷ []) (rw (eq-eqb t t refl) refl)
      (epoch-told-means m c (advance_epoch m t) t held la sh epochs augmented_ops x begun tdr-held op-held epoch-is-held (λ epoch. track_epoch z.tdcs epoch) (epoch_room v t ∷ previous_epoch_left v t ∷ []) left-means)

pub track-means : (p : Place) (t : ℕ) → MeansRow (track_task p t)
track-means p t = record {
  means = λ c at.
      (let m : Machine = p.machine in
      let w : World = c.state.world in
      td-row-means m c (work_of (OfCall (advance_epoch m t))) t at.lawful at.shown ((nat_lt t m.pages, OperandInvalid 1) ∷ []) (λ a. ltb-true t m.pages a.0) Shared augmented_ops (λ td. track_rest t td.tdcs)
      (epoch_exclusive t ∷ epoch_room w t ∷ previous_epoch_left w t ∷ []) (λ a x. rest-means m c t at.lawful at.shown at.facts.access.epochs x));
}
