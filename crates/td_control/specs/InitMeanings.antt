-- The leaf that begins a TD's measurement means its row.
use Rattle.std.proofs.Common.{◌≡◌, ℕ, ◌<◌, true, ◌==◌, nat_lt, List, [], ◌∷◌, ◌++◌, Option, refl, sym, subst, inl, inr, arith}
use Rattle.std.specs.List.{list_any}
use Rattle.std.proofs.lemmas.Bool.{eq-eqb, ltb-true, lt-ltb}
use Rattle.td_words.specs.declared.names.OpState.TheVariants as op
use Rattle.td_words.specs.declared.names.LifeState.TheVariants as life
use Rattle.td_words.specs.declared.names.Mode.TheVariants.{Shared, Exclusive}
use Rattle.td_words.specs.declared.machines.Machine.{Machine}
use Rattle.td_words.specs.declared.calls.Call.TheVariants as call
use Rattle.td_words.specs.declared.places.TheConstants.{TDCS_OP}
use Rattle.td_words.specs.declared.refusals.Status.TheVariants.{OperandInvalid}
use Rattle.td_words.specs.declared.replies.Value.TheVariants as value
use Rattle.td_words.specs.declared.replies.Reply.TheVariants.{Done}
use Rattle.td_words.specs.NameNumber.{life_number}
use Rattle.td_words.specs.Place as place
use Rattle.flat_core.specs.World.{World}
use Rattle.flat_core.specs.Processor.{OfPage, OfOp, Held}
use Rattle.flat_core.specs.Effects.{set_op}
use Rattle.flat_core.specs.Lawful.{Lawful}
use Rattle.flat_core.specs.TdRows.{initialize}
use Rattle.flat_core.specs.Event.{State}
use Rattle.word_rules.specs.Rules.{KeepsNothing, writes}
use Rattle.word_rules.specs.Permissions.{MayAt}
use Rattle.word_rules.specs.Spots.{slot_of}
use Rattle.word_rules.specs.Cells.{Shows}
use Rattle.lock_words.specs.Grips.{holds, holds_alone}
use Rattle.lock_words.specs.LockWords.{put_word}
use Rattle.act_rules.proofs.Rows.{rows-respect}
use Rattle.leaf_engine.specs.declared.needs.Place.{Place}
use Rattle.leaf_engine.specs.Changes.{Memory, Change, changed_all}
use Rattle.leaf_engine.specs.Trees.{acts}
use Rattle.leaf_engine.specs.Means.{Instant, Means, MeansRow, MayChange, Work, work_of, OfCall, hold}
use Rattle.leaf_parts.proofs.Acted.{opening}
use Rattle.leaf_parts.proofs.Aside.{AllShown}
use Rattle.leaf_parts.proofs.Checks.{td-row-means, tdr-load}
use Rattle.leaf_parts.proofs.Hashers.{hashers-but}
use Rattle.leaf_parts.proofs.Stored.{tdcs-stored}
use Rattle.leaf_parts.proofs.Begun.{page_lock, op_lock, holds-newest, locks-kept, IsTd, TwoControls}
use Rattle.leaf_parts.proofs.Keys.{hkid-in}
use Rattle.leaf_parts.proofs.Told.{tdcs-spot}
use Rattle.td_control.specs.InitTrees.{begin_changes, init_changes, begin_tree, init_task}

module _ (m : Machine) (s : State) (mem : Memory) (t : ℕ) (sh : Shows m mem.words mem.slots s) (la : Lawful m s.world) (x : IsTd m s.world t (op.Uninitialized ∷ [])) where
  abbrev w : World
  w = s.world

  abbrev w' : World
  w' = (initialize m t).act w

  abbrev y : TwoControls m w t
  y = x.controls

  abbrev h : ℕ
  h = w.tds.hkids t

  -- once the operation state was stored
  abbrev first : World
  first = set_op t op.Initialized s.world

  abbrev after : Memory
  after = changed_all (begin_changes y.tdcs h) mem

  itself : (t == t) ≡ true
  itself = eq-eqb t t refl

  first-shown : AllShown m (put_word mem.words (place.Word y.tdcs TDCS_OP) 1) (record s { world = first })
  first-shown = tdcs-stored m s mem.words t y.tdcs y.root sh.word x.alive.life y.list y.tdcs_page y.tdcs_in first (λ u n i. rw n refl) 4 1 (rw itself refl) (λ i n. rw n refl)

  pub begun : Shows m after.words after.slots (record s { world = w' })
  begun = record {
    word = tdcs-stored m (record s { world = first }) (put_word mem.words (place.Word y.tdcs TDCS_OP) 1) t y.tdcs y.root first-shown x.alive.life y.list y.tdcs_page y.tdcs_in w' (λ u n i. rw n refl) 5 1 (rw itself refl) (λ i n. rw n refl);
    hasher = hashers-but m w w' t mem.slots after.slots la x.alive refl (λ u n. rw n refl) (λ k n. rw n refl) (rw (x.alive.life, itself, eq-eqb h h refl) refl) sh.hasher;
  }

-- the leaf
module _ (m : Machine) (c : Instant) (t : ℕ) (in_tdr : t < m.pages) (la : Lawful m c.state.world) (sh : Shows m c.memory.words c.memory.slots c.state) where
  abbrev v : World
  v = c.state.world

  abbrev k : Work
  k = work_of (OfCall (initialize m t))

  abbrev v' : World
  v' = k.act v

  abbrev held : List Held
  held = op_lock t Exclusive ∷ page_lock t Shared ∷ []

  tdr-held : holds (held ++ c.kept) (OfPage t) ≡ true
  tdr-held = holds-newest t Shared c.kept

  op-held : holds (held ++ c.kept) (OfOp t) ≡ true
  op-held = rw (eq-eqb t t refl) refl

  op-alone : holds_alone (held ++ c.kept) (OfOp t) ≡ true
  op-alone = rw (eq-eqb t t refl) refl

  module _ (x : IsTd m v t (op.Uninitialized ∷ [])) where
    abbrev z : TwoControls m v t
    z = x.controls

    may-change : MayChange m (hold c held) v v' c.memory (begin_changes z.tdcs (v.tds.hkids t))
    may-change = (
      (la.keys.in_range t x.alive, subst (λ (o : Option ℕ). MayAt (hold c held) (slot_of o) (λ a. writes a KeepsNothing)) (sym (la.keys.owner t x.alive)) (inl (tdr-held, (op-alone, tt)))),
      (
        ((z.tdcs_in, omega arith), (KeepsNothing, rw (tdcs-spot v' t 4 z.tdcs (z.root ∷ []) z.list z.tdcs_page) (inr (inl (tdr-held, (op-alone, tt)))), tt)),
        (((z.tdcs_in, omega arith), (KeepsNothing, rw (tdcs-spot v' t 5 z.tdcs (z.root ∷ []) z.list z.tdcs_page) (inr (inl (tdr-held, (op-alone, tt)))), tt)), tt),
      ),
    )

    among-life : list_any (λ a. life_number a == life_number (v.tds.lives t)) (life.KeysConfigured ∷ []) ≡ true
    among-life = rw x.configured refl

    ended : Means m c k held (acts (Done value.Nothing) (begin_changes z.tdcs (v.tds.hkids t))) []
    ended = (
      record {
        answers = record { reply_is = refl; cached_is = refl; enters_is = refl; notes_are = refl; tells_are = refl; bundles_are = refl };
        fills_allowed = tt;
        respects = rows-respect (opening m) 0 (call.MngInit t) (hold c held) v la (lt-ltb t m.pages in_tdr, (rw x.alive.kind refl, (among-life, (x.two, (x.op, tt)))))
            (tdr-held, ((op-held, op-alone), tt));
        locks_stay = locks-kept v v' refl (λ u a. record { kind = a.kind; life = a.life }) held;
        shows = begun m c.state c.memory t sh la x;
      },
      may-change,
    )

    begins : Means m c k held (begin_tree m t z.tdcs) []
    begins =
        let listed : init_changes m z.tdcs (v.tds.hkids t) ≡ begin_changes z.tdcs (v.tds.hkids t) = rw (hkid-in m (v.tds.hkids t) (la.keys.in_range t x.alive)) refl in
        tdr-load m c k held sh t 1 (v.tds.hkids t) x.alive.kind x.own in_tdr (omega arith) refl (inl (tdr-held, tt)) (λ n. acts (Done value.Nothing) (init_changes m z.tdcs n)) []
        (subst (λ (cs : List Change). Means m c k held (acts (Done value.Nothing) cs) []) (sym listed) ended)

pub init-means : (p : Place) (t : ℕ) → MeansRow (init_task p t)
init-means p t = record {
  means = λ c at. td-row-means p.machine c (work_of (OfCall (initialize p.machine t))) t at.lawful at.shown ((nat_lt t p.machine.pages, OperandInvalid 1) ∷ []) (λ a. ltb-true t p.machine.pages a.0) Exclusive (op.Uninitialized ∷ []) (λ td. begin_tree p.machine t td.tdcs) []
      (λ a x. begins p.machine c t (ltb-true t p.machine.pages a.0) at.lawful at.shown x);
}
