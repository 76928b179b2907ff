-- The leaf that begins a session of a TD's export means its row.
use Rattle.std.proofs.Common.{◌≡◌, ℕ, ◌+◌, ◌<◌, true, ◌==◌, nat_lt, List, [], ◌∷◌, ◌++◌, length, get_or, refl, inl, inr, arith}
use Rattle.std.specs.List.{list_any}
use Rattle.std.proofs.lemmas.Bool.{eq-eqb, ltb-true}
use Rattle.std.proofs.lemmas.List.Folds.{list_any_at}
use Rattle.td_words.specs.declared.names.PageKind.TheVariants as kind
use Rattle.td_words.specs.declared.names.Mode.TheVariants.{Shared, Exclusive}
use Rattle.td_words.specs.declared.machines.Machine.{Machine}
use Rattle.td_words.specs.declared.refusals.Status.TheVariants.{OperandInvalid}
use Rattle.td_words.specs.Place as place
use Rattle.flat_core.specs.World.{World}
use Rattle.flat_core.specs.Processor.{OfPage, OfOp, OfKeys, Held}
use Rattle.flat_core.specs.Digests.{six_words}
use Rattle.flat_core.specs.BundleRows.{session_ops, export_immutable}
use Rattle.flat_core.specs.Conditions.{keys_exclusive}
use Rattle.flat_core.specs.Lawful.{Lawful, IsPageOf, ArePagesOf}
use Rattle.flat_core.specs.Sessions.{has_stream, all_restored, session_room, put_all}
use Rattle.flat_core.proofs.Tests.{same_self}
use Rattle.word_rules.specs.Guards.{Grip}
use Rattle.word_rules.specs.Lines.{in_lines}
use Rattle.word_rules.specs.Rules.{KeepsNothing, TdcsWord, DirtyWord, StreamWord, owes}
use Rattle.word_rules.specs.Spots.{or_unused, tdcs_classes, stream_classes, is_current, is_empty}
use Rattle.word_rules.specs.Permissions.{Respects, Owes}
use Rattle.word_rules.specs.Cells.{Shows}
use Rattle.lock_words.specs.Grips.{holds, holds_alone}
use Rattle.act_rules.proofs.Rows.{immutable-exported}
use Rattle.leaf_engine.specs.declared.needs.Place.{Place}
use Rattle.leaf_engine.specs.Changes.{Memory, Put, changed}
use Rattle.leaf_engine.specs.Means.{Instant, Locks, Means, MeansRow, MayChange, MayOweAll, Work, work_of, OfCall, hold}
use Rattle.leaf_parts.proofs.Begun.{locks-kept, IsTd, op_lock, page_lock, keys_lock}
use Rattle.leaf_parts.proofs.Checks.{spot_of, at-spot, at-tdcs, td-row-means}
use Rattle.export_sessions.specs.declared.changes.Session.{Session}
use Rattle.export_sessions.specs.SessionTrees.{stream_changes, td_puts, session_changes, numbered_tree, Exported, session_rest, with_mrtd, session_end, immutable_task}
use Rattle.export_sessions.specs.SessionShows.{session-shown}
use Rattle.stream_parts.proofs.StreamWords.{stream-spot}
use Rattle.export_sessions.specs.SessionParts.{restored-means, numbered-means, mrtd-means}

module _ (m : Machine) (c : Instant) (t slot : ℕ) (la : Lawful m c.state.world) (sh : Shows m c.memory.words c.memory.slots c.state) (x : IsTd m c.state.world t session_ops) where
  abbrev w : World
  w = c.state.world

  abbrev w' : World
  w' = (export_immutable m t slot).act c.state.world

  abbrev k : Work
  k = work_of (OfCall (export_immutable m t slot))

  abbrev d : ℕ
  d = x.controls.tdcs

  abbrev streams : List ℕ
  streams = c.state.world.tds.streams t

  -- the session, with its words of MRTD
  abbrev session : Session
  session = record { tdcs = x.controls.tdcs; streams = record { items = c.state.world.tds.streams t }; number = c.state.world.key_table.last_exported + 1; vps = length (c.state.world.tds.vps t) }

  abbrev its : Exported
  its = record { session = session; mrtd = six_words (c.state.world.tds.mrtds t) }

  -- what is held
  abbrev td_locks : List Held
  td_locks = op_lock t Exclusive ∷ page_lock t Shared ∷ []

  abbrev held : List Held
  held = keys_lock ∷ op_lock t Exclusive ∷ page_lock t Shared ∷ []

  abbrev g : Grip
  g = hold c held

  itself : (t == t) ≡ true
  itself = eq-eqb t t refl

  tdr-held : holds (held ++ c.kept) (OfPage t) ≡ true
  tdr-held = rw itself refl

  op-held : holds (held ++ c.kept) (OfOp t) ≡ true
  op-held = rw itself refl

  op-alone : holds_alone (held ++ c.kept) (OfOp t) ≡ true
  op-alone = rw itself refl

  -- what it changes of words
  respects : Respects g w w'
  respects = immutable-exported g w m t slot tdr-held op-alone

  -- the stores that come after the act
  tdcs-page : IsPageOf w'.pages t d kind.Tdcx
  tdcs-page = record { kind = x.controls.tdcs_page.kind; owner = x.controls.tdcs_page.owner }

  tdcs-owed : (i : ℕ) → or_unused (in_lines (tdcs_classes (is_current w' t) (is_empty w' t)) i) ≡ TdcsWord → Owes g w' (place.Word d i) KeepsNothing
  tdcs-owed i is = at-tdcs g w' t d i (x.controls.root ∷ []) (λ z. owes z KeepsNothing) x.controls.list tdcs-page (rw is (inr (inl (tdr-held, (op-alone, tt)))))

  count-owed : (i : ℕ) → or_unused (in_lines (tdcs_classes (is_current w' t) (is_empty w' t)) i) ≡ DirtyWord → Owes g w' (place.Word d i) KeepsNothing
  count-owed i is = at-tdcs g w' t d i (x.controls.root ∷ []) (λ z. owes z KeepsNothing) x.controls.list tdcs-page (rw is (inr (inl (tdr-held, (op-alone, tt)))))

  stream-owed : (p i : ℕ) → IsPageOf w.pages t p kind.Migsc → or_unused (in_lines stream_classes i) ≡ StreamWord → Owes g w' (place.Word p i) KeepsNothing
  stream-owed p i page is =
      at-spot g w' (place.Word p i) (spot_of (or_unused (in_lines stream_classes i)) t p) (λ z. owes z KeepsNothing) (stream-spot w' t p i (record { kind = page.kind; owner = page.owner })) (rw is (inr (inl (tdr-held, (op-alone, tt)))))

  streams-owed : (counter : ℕ) (ps : List ℕ) (mem : Memory) → ArePagesOf w.pages t kind.Migsc ps → MayOweAll m g w' mem (stream_changes counter ps)
  streams-owed counter [] mem are = tt
  streams-owed counter (p ∷ ps) mem are =
      let page_in : p < m.pages = la.pages.in_machine p (rw are.0.kind refl) in (
        ((page_in, omega arith), (KeepsNothing, stream-owed p 0 are.0 refl, tt)),
        (
          ((page_in, omega arith), (KeepsNothing, stream-owed p 1 are.0 refl, tt)),
          (((page_in, omega arith), (KeepsNothing, stream-owed p 2 are.0 refl, tt)), streams-owed 0 ps _ are.1),
        ),
      )

  abbrev first : Memory
  first = changed (Put (place.Key 1) (c.state.world.key_table.last_exported + 1)) c.memory

  owed : MayOweAll m g w' first (td_puts d (w.key_table.last_exported + 1) ++ stream_changes 1 streams)
  owed =
      let tdcs_in : d < m.pages = x.controls.tdcs_in in (
        ((tdcs_in, omega arith), (KeepsNothing, tdcs-owed 4 refl, tt)),
        (
          ((tdcs_in, omega arith), (KeepsNothing, tdcs-owed 11 refl, tt)),
          (
            ((tdcs_in, omega arith), (KeepsNothing, tdcs-owed 10 refl, tt)),
            (
              ((tdcs_in, omega arith), (KeepsNothing, tdcs-owed 12 refl, tt)),
              (
                ((tdcs_in, omega arith), (KeepsNothing, tdcs-owed 13 refl, tt)),
                (
                  ((tdcs_in, omega arith), (KeepsNothing, count-owed 8 refl, tt)),
                  (((tdcs_in, omega arith), (KeepsNothing, count-owed 9 refl, tt)), streams-owed 1 streams _ (la.tds.streams t x.alive)),
                ),
              ),
            ),
          ),
        ),
      )

  may-change : MayChange m g w w' c.memory (session_changes session)
  may-change = ((omega arith, (KeepsNothing, inl (refl, tt), tt)), owed)

  -- the first stream hasn't counted any bundle before this one
  module _ (some : 0 < length (c.state.world.tds.streams t)) where
    none-before : put_all w.streams.counters streams 0 (get_or streams 0 0) ≡ 0
    none-before = (let among : list_any (λ p. p == get_or streams 0 0) streams ≡ true = list_any_at (λ p. p == get_or streams 0 0) streams 0 0 some (same_self (get_or streams 0 0)) in rw among refl)

    ended : Means m c k held (session_end slot its) []
    ended = (
      record {
        answers = record { reply_is = refl; cached_is = refl; enters_is = refl; notes_are = refl; tells_are = refl; bundles_are = rw (itself, none-before) refl };
        fills_allowed = tt;
        respects = respects;
        locks_stay = locks-kept w w' refl (λ u a. record { kind = a.kind; life = a.life }) held;
        shows = session-shown m slot c.state c.memory t sh la x some;
      },
      may-change,
    )

  keys-tried : Locks m c td_locks OfKeys (place.Key 0)
  keys-tried = record { in_machine = omega arith; at = refl; stands = tt; allowed = inl tt }

  rest-means : Means m c k td_locks (session_rest m.pages d (with_mrtd (session_end slot))) (keys_exclusive ∷ has_stream w t 0 ∷ all_restored w t ∷ session_room w ∷ [])
  rest-means = (
    refl,
    refl,
    keys-tried,
    restored-means m c k t la sh x held tdr-held op-held op-alone (λ s. numbered_tree d s (with_mrtd (session_end slot))) (session_room w ∷ [])
        (λ some. numbered-means m c k t la sh x held tdr-held op-held op-alone refl (record { items = streams }) (with_mrtd (session_end slot)) []
        (λ room. mrtd-means m c k t la sh x held tdr-held op-held op-alone (λ words. session_end slot (record { session = session; mrtd = words })) [] (ended some))),
  )

pub immutable-means : (p : Place) (t slot : ℕ) → MeansRow (immutable_task p t slot)
immutable-means p t slot = record {
  means = λ c at. (let m : Machine = p.machine in
      td-row-means m c (work_of (OfCall (export_immutable m t slot))) t at.lawful at.shown ((nat_lt t m.pages, OperandInvalid 1) ∷ []) (λ a. ltb-true t m.pages a.0) Exclusive session_ops (λ td. session_rest m.pages td.tdcs (with_mrtd (session_end slot)))
      (keys_exclusive ∷ has_stream c.state.world t 0 ∷ all_restored c.state.world t ∷ session_room c.state.world ∷ [])
      (λ a x. rest-means m c t slot at.lawful at.shown x));
}
