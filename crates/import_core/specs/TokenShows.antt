-- The words that an imported token leaves show its act.
use Rattle.std.proofs.Common.{◌≡◌, ℕ, ◌+◌, ◌<◌, Bool, true, false, ◌==◌, List, [], ◌∷◌, ◌++◌, length, refl, inl, inr, arith}
use Rattle.std.specs.List.{list_any}
use Rattle.std.proofs.lemmas.Bool.{eq-eqb}
use Rattle.td_words.specs.declared.names.PageKind.TheVariants as kind
use Rattle.td_words.specs.declared.names.OpState.{OpState}
use Rattle.td_words.specs.declared.names.OpState.TheVariants as op
use Rattle.td_words.specs.declared.machines.Machine.{Machine}
use Rattle.td_words.specs.declared.replies.Reply.{Reply}
use Rattle.td_words.specs.declared.replies.Value.TheVariants as value
use Rattle.td_words.specs.NameNumber.{op_number}
use Rattle.td_words.specs.Place.{IsIn}
use Rattle.td_words.specs.Place as place
use Rattle.flat_core.specs.World.{World}
use Rattle.flat_core.specs.Processor.{Held}
use Rattle.flat_core.specs.Effects.{set_op}
use Rattle.flat_core.specs.Lawful.{Lawful, IsPageOf}
use Rattle.flat_core.specs.Sessions.{stream_page, stream_counter, count_bundle, set_mig_epoch}
use Rattle.flat_core.specs.ImportRows.{import_token_ops, op_then}
use Rattle.flat_core.specs.Row.{Item, call_row}
use Rattle.word_rules.specs.Guards.{Grip}
use Rattle.word_rules.specs.Rules.{KeepsNothing, writes, owes}
use Rattle.word_rules.specs.Permissions.{Writes, Respects}
use Rattle.word_rules.specs.Cells.{Shows, is_built}
use Rattle.word_rules.proofs.Conflicts.{respects-compose}
use Rattle.act_rules.proofs.Respected.{leaves, all-same, effects-respect}
use Rattle.leaf_engine.specs.Changes.{Memory, Put, changed}
use Rattle.leaf_engine.specs.Trees.{done}
use Rattle.leaf_engine.specs.Means.{Instant, Means, MayOwe, Work, work_of, OfCall, hold}
use Rattle.leaf_parts.proofs.Begun.{IsTd, locks-kept, page-in}
use Rattle.leaf_parts.proofs.Checks.{at-tdcs}
use Rattle.leaf_parts.proofs.Hashers.{hashers-but}
use Rattle.leaf_parts.proofs.Stored.{tdcs-stored}
use Rattle.stream_parts.proofs.StreamWords.{page-of}
use Rattle.stream_parts.proofs.StreamMeans.{HoldsAlone}
use Rattle.stream_parts.proofs.Counted.{counter-owed, input-counted}
use Rattle.stream_parts.proofs.AloneMeans.{alone_locks, alone-own}
use Rattle.import_core.specs.TokenTrees.{import_token_changes}

-- nothing is measured of a TD that is being imported
unbuilt : (start : Bool) (s : OpState) → list_any (λ a. op_number a == op_number s) (import_token_ops start) ≡ true → is_built s ≡ false
unbuilt true op.Initialized h = cc
unbuilt false op.Initialized h = cc
unbuilt start _ h = refl

module _ (m : Machine) (c : Instant) (t : ℕ) (start : Bool) (la : Lawful m c.state.world) (sh : Shows m c.memory.words c.memory.slots c.state) (x : IsTd m c.state.world t (import_token_ops start)) (first : 0 < length (c.state.world.tds.streams t)) (epoch : ℕ) where
  abbrev w : World
  w = c.state.world

  abbrev d : ℕ
  d = x.controls.tdcs

  abbrev p : ℕ
  p = stream_page c.state.world t 0

  abbrev held : List Held
  held = alone_locks t

  abbrev g : Grip
  g = hold c held

  abbrev begun : World
  begun = set_mig_epoch t epoch c.state.world

  abbrev ended : World
  ended = set_op t (op_then start (c.state.world.tds.ops t)) (set_mig_epoch t epoch c.state.world)

  abbrev counted : World
  counted = count_bundle t 0 (set_op t (op_then start (c.state.world.tds.ops t)) (set_mig_epoch t epoch c.state.world))

  own : HoldsAlone (held ++ c.kept) t
  own = alone-own t c.kept

  its-stream : IsPageOf w.pages t p kind.Migsc
  its-stream = page-of m w t 0 la x.alive first

  stream-in : p < m.pages
  stream-in = page-in m w t p kind.Migsc la its-stream refl

  itself : (t == t) ≡ true
  itself = eq-eqb t t refl

  abbrev told : Memory
  told = changed (Put (place.Word x.controls.tdcs 10) epoch) c.memory

  respects : Respects g w counted
  respects = respects-compose.both g w ended counted
      (respects-compose.both g w begun ended
      (leaves g w begun (all-same w begun refl (λ u. record { op = refl; controls = refl; epoch = refl; empty = λ b. refl; named = λ n. refl })) (λ h. refl) refl)
      ((effects-respect g begun).op t (op_then start (w.tds.ops t)) own.tdr own.alone))
      (leaves g ended counted (all-same ended counted refl (λ u. record { op = refl; controls = refl; epoch = refl; empty = λ b. refl; named = λ n. refl })) (λ h. refl) refl)

  may-act : IsIn m (place.Word d 10) × Writes g w (place.Word d 10) KeepsNothing
  may-act = ((x.controls.tdcs_in, omega arith), at-tdcs g w t d 10 (x.controls.root ∷ []) (λ a. writes a KeepsNothing) x.controls.list x.controls.tdcs_page (inr (inl (own.tdr, (own.alone, tt)))))

  epoch-ended : start ≡ false → Shows m told.words told.slots (record (c.state) { world = set_op t (c.state.world.tds.ops t) begun })
  epoch-ended e =
      let same : World = set_op t (c.state.world.tds.ops t) begun in record {
        word = tdcs-stored m c.state c.memory.words t d x.controls.root sh.word x.alive.life x.controls.list x.controls.tdcs_page x.controls.tdcs_in same (λ u n i. rw n refl) 10 epoch (rw itself refl) (λ i n. rw (n, itself) refl);
        hasher = hashers-but m w same t c.memory.slots told.slots la x.alive refl (λ u n. rw n refl) (λ h n. refl) (rw (x.configured, itself, unbuilt start (w.tds.ops t) x.op) tt) sh.hasher;
      }

  abbrev told-last : Memory
  told-last = changed (Put (place.Word x.controls.tdcs 4) 8) (changed (Put (place.Word x.controls.tdcs 10) epoch) c.memory)

  start-ended : Shows m told-last.words told-last.slots (record (c.state) { world = set_op t op.PostImport begun })
  start-ended =
      let last : World = set_op t op.PostImport begun in
      let first-stored = tdcs-stored m c.state c.memory.words t d x.controls.root sh.word x.alive.life x.controls.list x.controls.tdcs_page x.controls.tdcs_in begun (λ u n i. rw n refl) 10 epoch (rw itself refl) (λ i n. rw n refl) in record {
        word = tdcs-stored m (record (c.state) { world = begun }) told.words t d x.controls.root first-stored x.alive.life x.controls.list x.controls.tdcs_page x.controls.tdcs_in last (λ u n i. rw n refl) 4 8 (rw itself refl) (λ i n. rw n refl);
        hasher = hashers-but m w last t c.memory.slots told-last.slots la x.alive refl (λ u n. rw n refl) (λ h n. refl) (rw (x.configured, itself) tt) sh.hasher;
      }

  owed-counter : (mem : Memory) → MayOwe m g counted mem (Put (place.Word p 0) (stream_counter w t 0 + 1))
  owed-counter mem = ((stream-in, omega arith), (KeepsNothing, counter-owed g counted t p own.tdr own.alone (record { kind = its-stream.kind; owner = its-stream.owner }), tt))

  owed-op : (mem : Memory) → MayOwe m g counted mem (Put (place.Word d 4) 8)
  owed-op mem = ((x.controls.tdcs_in, omega arith), (KeepsNothing, at-tdcs g counted t d 4 (x.controls.root ∷ []) (λ a. owes a KeepsNothing) x.controls.list (record { kind = x.controls.tdcs_page.kind; owner = x.controls.tdcs_page.owner }) (inr (inl (own.tdr, (own.alone, tt)))), tt))

-- the end of the leaf is the act
abbrev pub token_work : (t : ℕ) (start : Bool) (epoch : ℕ) → (World → List (Item Reply)) → Work
token_work t start epoch items = work_of (OfCall (call_row items (λ v. count_bundle t 0 (set_op t (op_then start (v.tds.ops t)) (set_mig_epoch t epoch v))) (λ v. value.Nothing)))

pub token-ended : (m : Machine) (c : Instant) (t : ℕ) (start : Bool) (la : Lawful m c.state.world) (sh : Shows m c.memory.words c.memory.slots c.state) (x : IsTd m c.state.world t (import_token_ops start)) (first : 0 < length (c.state.world.tds.streams t)) (epoch : ℕ)
    (items : World → List (Item Reply)) → Means m c (token_work t start epoch items) (alone_locks t) (done [] (import_token_changes start x.controls.tdcs (stream_page c.state.world t 0) epoch (stream_counter c.state.world t 0))) []
token-ended m c t false la sh x first epoch items = (
  record {
    answers = record { reply_is = refl; cached_is = refl; enters_is = refl; notes_are = refl; tells_are = refl; bundles_are = refl };
    fills_allowed = tt;
    respects = respects m c t false la sh x first epoch;
    locks_stay = locks-kept c.state.world (counted m c t false la sh x first epoch) refl (λ u a. record { kind = a.kind; life = a.life }) (alone_locks t);
    shows = input-counted m (record (c.state) { world = ended m c t false la sh x first epoch }) (told m c t false la sh x first epoch) t 0 (epoch-ended m c t false la sh x first epoch refl) x.alive.life (its-stream m c t false la sh x first epoch) (stream-in m c t false la sh x first epoch);
  },
  (
    ((may-act m c t false la sh x first epoch).0, (KeepsNothing, (may-act m c t false la sh x first epoch).1, tt)),
    (owed-counter m c t false la sh x first epoch (told m c t false la sh x first epoch), tt),
  ),
)
token-ended m c t true la sh x first epoch items = (
  record {
    answers = record { reply_is = refl; cached_is = refl; enters_is = refl; notes_are = refl; tells_are = refl; bundles_are = refl };
    fills_allowed = tt;
    respects = respects m c t true la sh x first epoch;
    locks_stay = locks-kept c.state.world (counted m c t true la sh x first epoch) refl (λ u a. record { kind = a.kind; life = a.life }) (alone_locks t);
    shows = input-counted m (record (c.state) { world = ended m c t true la sh x first epoch }) (told-last m c t true la sh x first epoch) t 0 (start-ended m c t true la sh x first epoch) x.alive.life (its-stream m c t true la sh x first epoch) (stream-in m c t true la sh x first epoch);
  },
  (
    ((may-act m c t true la sh x first epoch).0, (KeepsNothing, (may-act m c t true la sh x first epoch).1, tt)),
    (owed-op m c t true la sh x first epoch (told m c t true la sh x first epoch), (owed-counter m c t true la sh x first epoch (told-last m c t true la sh x first epoch), tt)),
  ),
)
