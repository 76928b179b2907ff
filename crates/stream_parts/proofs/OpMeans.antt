-- An act that gives a TD another operation state, in which nothing is measured: what words show after it, which locks it wants,
-- that the end of a leaf with this store is that act, and that the call behind the beginning of the rows that hold a TD's map
-- alone means such a row. What is noted of exports and imports may be other after it, and what has left the machine.
use Rattle.std.proofs.Common.{◌≡◌, ℕ, true, false, ◌==◌, nat_lt, List, [], ◌∷◌, ◌++◌, refl, inl, inr, arith}
use Rattle.std.proofs.lemmas.Bool.{eq-eqb, ltb-true}
use Rattle.td_words.specs.declared.names.OpState.{OpState}
use Rattle.td_words.specs.declared.machines.Machine.{Machine}
use Rattle.td_words.specs.declared.refusals.Status.TheVariants.{OperandInvalid}
use Rattle.td_words.specs.declared.replies.Reply.{Reply}
use Rattle.td_words.specs.declared.replies.Reply.TheVariants.{Done}
use Rattle.td_words.specs.declared.replies.Value.TheVariants as value
use Rattle.td_words.specs.NameNumber.{op_number}
use Rattle.flat_core.specs.World.{World, Made}
use Rattle.flat_core.specs.Processor.{Held}
use Rattle.flat_core.specs.Arguments.{page_argument}
use Rattle.flat_core.specs.Conditions.{td_exclusive, tree_exclusive}
use Rattle.flat_core.specs.Effects.{set_op}
use Rattle.flat_core.specs.Lawful.{Lawful}
use Rattle.flat_core.specs.Row.{Item, Row, call_row}
use Rattle.word_rules.specs.Guards.{Grip}
use Rattle.word_rules.specs.Rules.{KeepsNothing, writes}
use Rattle.word_rules.specs.Permissions.{Respects}
use Rattle.word_rules.specs.Cells.{Shows, is_built}
use Rattle.word_rules.proofs.Conflicts.{respects-compose}
use Rattle.act_rules.proofs.Respected.{leaves, all-same, effects-respect}
use Rattle.leaf_engine.specs.declared.needs.Place.{Place}
use Rattle.leaf_engine.specs.Changes.{Memory, changed_all}
use Rattle.leaf_engine.specs.Trees.{End, only, done, added}
use Rattle.leaf_engine.specs.Means.{Instant, Means, MeansRow, MayChange, Work, work_of, OfCall, hold}
use Rattle.leaf_parts.proofs.Begun.{IsTd, locks-kept}
use Rattle.leaf_parts.proofs.Checks.{at-tdcs}
use Rattle.leaf_parts.proofs.Hashers.{hashers-but}
use Rattle.leaf_parts.proofs.Stored.{tdcs-stored}
use Rattle.stream_parts.specs.AloneTrees.{op_changes, op_task}
use Rattle.stream_parts.proofs.StreamMeans.{HoldsAlone}
use Rattle.stream_parts.proofs.AloneMeans.{alone_locks, alone-own, alone-row-means}

-- what is noted of exports and imports, and what has left the machine, are as in the other world
abbrev pub notes_as : (w other : World) → World
notes_as w other = record w { hidden = record (w.hidden) { paused = other.hidden.paused; given = other.hidden.given }; outgoing = other.outgoing }

-- the TD's operation state is another besides
abbrev pub moved : ℕ → OpState → (World → World) → World → World
moved t next note w = set_op t next (notes_as w (note w))

-- behind the beginning of a row, where its TD's operation state is held alone
module _ (m : Machine) (c : Instant) (t : ℕ) (ops : List OpState) (la : Lawful m c.state.world) (sh : Shows m c.memory.words c.memory.slots c.state) (x : IsTd m c.state.world t ops) (next : OpState) (built : is_built next ≡ false) (note : World → World)
    (hs : List Held) (own : HoldsAlone (hs ++ c.kept) t) where
  abbrev w : World
  w = c.state.world

  abbrev w' : World
  w' = moved t next note c.state.world

  abbrev d : ℕ
  d = x.controls.tdcs

  abbrev g : Grip
  g = hold c hs

  abbrev after : Memory
  after = changed_all (op_changes next x.controls.tdcs) c.memory

  itself : (t == t) ≡ true
  itself = eq-eqb t t refl

  op-moved : Shows m after.words after.slots (record (c.state) { world = w' })
  op-moved = record {
    word = tdcs-stored m c.state c.memory.words t d x.controls.root sh.word x.alive.life x.controls.list x.controls.tdcs_page x.controls.tdcs_in w' (λ u n i. rw n refl) 4 (op_number next) (rw itself refl) (λ i n. rw n refl);
    hasher = hashers-but m w w' t c.memory.slots after.slots la x.alive refl (λ u n. rw n refl) (λ k n. refl) (rw (x.configured, itself, built) tt) sh.hasher;
  }

  respects : Respects g w w'
  respects =
      let between : World = notes_as w (note w) in
      respects-compose.both g w between w'
      (leaves g w between (all-same w between refl (λ u. record { op = refl; controls = refl; epoch = refl; empty = λ b. refl; named = λ n. refl })) (λ h. refl) refl)
      ((effects-respect g between).op t next own.tdr own.alone)

  may-change : MayChange m g w w' c.memory (op_changes next d)
  may-change = (((x.controls.tdcs_in, omega arith), (KeepsNothing, at-tdcs g w t d 4 (x.controls.root ∷ []) (λ a. writes a KeepsNothing) x.controls.list x.controls.tdcs_page (inr (inl (own.tdr, (own.alone, tt)))), tt)), tt)

  module _ (items : World → List (Item Reply)) (made : List Made) (bundles : (note c.state.world).outgoing.bundles ≡ added (c.state.world).outgoing.bundles made) where
    abbrev k : Work
    k = work_of (OfCall (call_row items (moved t next note) (λ v. value.Nothing)))

    pub op-ended : Means m c k hs (End (record (only (Done value.Nothing)) { bundles = made }) [] (op_changes next d)) []
    op-ended = (
      record {
        answers = record { reply_is = refl; cached_is = refl; enters_is = refl; notes_are = refl; tells_are = refl; bundles_are = bundles };
        fills_allowed = tt;
        respects = respects;
        locks_stay = locks-kept w w' refl (λ u a. record { kind = a.kind; life = a.life }) hs;
        shows = op-moved;
      },
      may-change,
    )

-- such a row, whose act makes no bundle
abbrev pub op_row : Machine → List OpState → OpState → (World → World) → ℕ → Row
op_row m allowed next note t = call_row (λ w. page_argument m 1 t ∷ (td_exclusive w t allowed ++ tree_exclusive t ∷ [])) (moved t next note) (λ w. value.Nothing)

pub op-row-means : (p : Place) (allowed : List OpState) (next : OpState) → is_built next ≡ false → (note : World → World) → ((w : World) → (note w).outgoing.bundles ≡ w.outgoing.bundles) → (t : ℕ)
    → MeansRow (op_task p allowed next t (op_row p.machine allowed next note t))
op-row-means p allowed next built note none t = record {
  means = λ c at. (let m : Machine = p.machine in
      alone-row-means m c (work_of (OfCall (op_row m allowed next note t))) t at.lawful at.shown ((nat_lt t m.pages, OperandInvalid 1) ∷ []) (λ a. ltb-true t m.pages a.0) allowed (λ d. done [] (op_changes next d)) []
      (λ a x. op-ended m c t allowed at.lawful at.shown x next built note (alone_locks t) (alone-own t c.kept) (op_row m allowed next note t).items [] (none c.state.world)));
}
