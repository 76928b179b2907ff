-- Parts of the export of a TD's immutable state, over words that show a lawful state: the streams, the number of the session,
-- and words of MRTD.
use Rattle.std.proofs.Common.{◌≡◌, ℕ, ◌+◌, ◌%◌, ◌^◌, ◌<◌, true, ◌==◌, nat_lt, List, ◌∷◌, ◌++◌, length, refl, inl, inr, arith}
use Rattle.std.specs.List.{sum_by}
use Rattle.std.proofs.lemmas.Bool.{ltb-true}
use Rattle.arrayvec.specs.ArrayVec.{ArrayVec}
use Rattle.td_words.specs.declared.machines.Machine.{Machine}
use Rattle.td_words.specs.declared.refusals.Status.TheVariants.{NoStream, UnrestoredPages}
use Rattle.td_words.specs.declared.replies.Reply.{Reply}
use Rattle.td_words.specs.Place as place
use Rattle.flat_core.specs.World.{World}
use Rattle.flat_core.specs.Processor.{OfPage, OfOp, OfKeys, Held}
use Rattle.flat_core.specs.Row.{Item}
use Rattle.flat_core.specs.Digests.{six_words}
use Rattle.flat_core.specs.BundleRows.{session_ops}
use Rattle.flat_core.specs.Lawful.{Lawful}
use Rattle.flat_core.specs.Sessions.{has_stream, all_restored, session_room}
use Rattle.word_rules.specs.Guards.{Locked}
use Rattle.word_rules.specs.Rules.{Whole}
use Rattle.word_rules.specs.Cells.{Shows}
use Rattle.leaf_engine.specs.Trees.{Tree, Load, needs}
use Rattle.leaf_engine.specs.Means.{Instant, Means, Work, hold}
use Rattle.leaf_parts.specs.Words.{vps_told}
use Rattle.leaf_parts.proofs.Begun.{IsTd, TwoControls}
use Rattle.leaf_parts.proofs.Checks.{tdcs-load}
use Rattle.leaf_parts.proofs.Vps.{vps-back}
use Rattle.stream_parts.specs.Streams.{sum_tree}
use Rattle.stream_parts.proofs.StreamMeans.{HoldsAlone, pages-means, sum-means}
use Rattle.export_sessions.specs.declared.changes.Session.{Session}
use Rattle.export_sessions.specs.SessionTrees.{restored_tree, numbered_tree, words_tree}

-- a sum of counts modulo 2^64, of which one is such a sum
sum-again : (a b : ℕ) → (a + b % 2 ^ 64) % 2 ^ 64 ≡ (a + b) % 2 ^ 64
sum-again a b = omega arith

module _ (m : Machine) (c : Instant) (k : Work) (t : ℕ) (la : Lawful m c.state.world) (sh : Shows m c.memory.words c.memory.slots c.state) (x : IsTd m c.state.world t session_ops) (hs : List Held)
    (td : (hold c hs).has (Locked (OfPage t)) ≡ true) (op : (hold c hs).has (Locked (OfOp t)) ≡ true) (alone : (hold c hs).sole (Locked (OfOp t)) ≡ true) where
  abbrev w : World
  w = c.state.world

  abbrev y : TwoControls m c.state.world t
  y = x.controls

  abbrev d : ℕ
  d = x.controls.tdcs

  abbrev Mean : Tree → List (Item Reply) → Type 0
  Mean tree items = Means m c k hs tree items

  abbrev own : HoldsAlone (hs ++ c.kept) t
  own = record { tdr = td; op = op; alone = alone }

  -- there is a stream, and none of its entries is exported
  module _ (further : ArrayVec ℕ → Tree) (rest : List (Item Reply)) (end : 0 < length (c.state.world.tds.streams t) → Means m c k hs (further (record { items = c.state.world.tds.streams t })) rest) where
    abbrev streams : List ℕ
    streams = c.state.world.tds.streams t

    abbrev tested : (unrestored first : ℕ) → Tree
    tested unrestored first = needs ((unrestored + first) % 2 ^ 64 == 0) (UnrestoredPages ((unrestored + first) % 2 ^ 64)) (further (record { items = c.state.world.tds.streams t }))

    tested-means : 0 < length streams → Mean (tested (w.tds.unrestored t) (sum_by w.streams.first_exports streams % 2 ^ 64)) (all_restored w t ∷ rest)
    tested-means few = rw (sum-again (w.tds.unrestored t) (sum_by w.streams.first_exports streams)) (refl, λ e. refl, λ e. end few)

    pub restored-means : Mean (restored_tree m.pages d further) (has_stream w t 0 ∷ all_restored w t ∷ rest)
    restored-means =
        pages-means m c k hs t la sh x.alive y own
        (λ ps. needs (nat_lt 0 (length ps.items)) (NoStream 0) (Load Whole (place.Word d 9) (λ unrestored. sum_tree 2 ps.items (λ first. needs ((unrestored + first) % 2 ^ 64 == 0) (UnrestoredPages ((unrestored + first) % 2 ^ 64)) (further ps)))))
        (has_stream w t 0 ∷ all_restored w t ∷ rest) (
          refl,
          λ e. refl,
          λ e.
              tdcs-load m c k hs sh t 9 (w.tds.unrestored t) x.alive y (omega arith) refl (inr (inl (td, (alone, tt))))
              (λ unrestored. sum_tree 2 streams (tested unrestored)) (all_restored w t ∷ rest)
              (sum-means m c k hs t la sh x.alive y own 2 w.streams.first_exports (omega arith) (λ p. refl) refl (tested (w.tds.unrestored t)) (all_restored w t ∷ rest)
              (tested-means (ltb-true 0 (length streams) e))),
        )

  -- the number of the session, and how many virtual processors there are
  pub numbered-means : (hold c hs).has (Locked OfKeys) ≡ true → (streams : ArrayVec ℕ) (further : Session → Tree) (rest : List (Item Reply))
      → (nat_lt w.key_table.last_exported 65535 ≡ true → Mean (further (record { tdcs = d; streams = streams; number = w.key_table.last_exported + 1; vps = length (w.tds.vps t) })) rest) → Mean (numbered_tree d streams further) (session_room w ∷ rest)
  numbered-means keys streams further rest end =
      let last : c.memory.words (place.Key 1) ≡ w.key_table.last_exported = sh.word (place.Key 1) (omega arith) in (
        omega arith,
        inl (inl (keys, tt)),
        rw last (
          refl,
          λ e. refl,
          λ e.
              tdcs-load m c k hs sh t 15 (length (w.tds.vps t)) x.alive y (omega arith) refl (inr (inl (td, (op, tt))))
              (λ vps. further (record { tdcs = d; streams = streams; number = w.key_table.last_exported + 1; vps = vps_told vps })) rest
              (rw (vps-back (length (w.tds.vps t)) (la.tds.vps_few t)) (end e)),
        ),
      )

  -- MRTD
  pub mrtd-means : (further : List ℕ → Tree) (rest : List (Item Reply)) → Mean (further (six_words (w.tds.mrtds t))) rest → Mean (words_tree d 64 6 further) rest
  mrtd-means further rest end =
      let v : ℕ → ℕ = w.tds.mrtds t in
      tdcs-load m c k hs sh t 64 (v 0) x.alive y (omega arith) refl (inr (inl (td, (op, tt)))) (λ a. words_tree d 65 5 (λ xs. further (a ∷ xs))) rest
      (tdcs-load m c k hs sh t 65 (v 1) x.alive y (omega arith) refl (inr (inl (td, (op, tt)))) (λ a. words_tree d 66 4 (λ xs. further (v 0 ∷ a ∷ xs))) rest
      (tdcs-load m c k hs sh t 66 (v 2) x.alive y (omega arith) refl (inr (inl (td, (op, tt)))) (λ a. words_tree d 67 3 (λ xs. further (v 0 ∷ v 1 ∷ a ∷ xs))) rest
      (tdcs-load m c k hs sh t 67 (v 3) x.alive y (omega arith) refl (inr (inl (td, (op, tt)))) (λ a. words_tree d 68 2 (λ xs. further (v 0 ∷ v 1 ∷ v 2 ∷ a ∷ xs))) rest
      (tdcs-load m c k hs sh t 68 (v 4) x.alive y (omega arith) refl (inr (inl (td, (op, tt)))) (λ a. words_tree d 69 1 (λ xs. further (v 0 ∷ v 1 ∷ v 2 ∷ v 3 ∷ a ∷ xs))) rest
      (tdcs-load m c k hs sh t 69 (v 5) x.alive y (omega arith) refl (inr (inl (td, (op, tt)))) (λ a. words_tree d 70 0 (λ xs. further (v 0 ∷ v 1 ∷ v 2 ∷ v 3 ∷ v 4 ∷ a ∷ xs))) rest end)))))
