-- The leaf that creates a migration stream means its row.
use Rattle.std.proofs.Common.{◌≡◌, ℕ, zero, suc, ◌+◌, ◌-◌, ◌<◌, ◌≤◌, Bool, true, false, ◌==◌, nat_lt, not, [], ◌∷◌, length, slice_get, Some, refl, ap, ◌∙◌, inl, inr, arith}
use Rattle.std.specs.Prelude.{nat_le}
use Rattle.std.proofs.lemmas.Bool.{eq-eqb, ltb-true, leb-true, not-true}
use Rattle.std.proofs.lemmas.Bool.Decides.{nat_tests}
use Rattle.td_words.specs.declared.names.PageKind.TheVariants as kind
use Rattle.td_words.specs.declared.names.Mode.TheVariants.{Exclusive}
use Rattle.td_words.specs.declared.calls.Call.TheVariants as call
use Rattle.td_words.specs.declared.machines.Machine.{Machine}
use Rattle.td_words.specs.Place as place
use Rattle.flat_core.specs.World.{World}
use Rattle.flat_core.specs.Processor.{LockId, OfPage, OfOp}
use Rattle.flat_core.specs.Conditions.{is_host, host_page, page_exclusive}
use Rattle.flat_core.specs.ExportRows.{stream_ops, stream_room, add_stream, create_stream}
use Rattle.flat_core.specs.Lawful.{Lawful, IsPageOf}
use Rattle.flat_core.proofs.Tests.{by_test}
use Rattle.word_rules.specs.Guards.{Grip, Locked, Meets}
use Rattle.word_rules.specs.Rules.{Class, StreamWord, Unused, TdcsWord, KeepsNothing, owes}
use Rattle.word_rules.specs.Lines.{in_lines}
use Rattle.word_rules.specs.Spots.{spot, guard_at, or_unused, stream_classes, tdcs_classes}
use Rattle.word_rules.specs.Cells.{Shows, IsAs, lock_word, td_lock_lines, tdcs_lines, stream_lines}
use Rattle.act_rules.proofs.Rows.{rows-respect}
use Rattle.leaf_engine.specs.declared.needs.Place.{Place}
use Rattle.leaf_engine.specs.Means.{Instant, Means, MeansRow, Work, work_of, OfCall, hold}
use Rattle.leaf_parts.specs.Arguments.{two_pages}
use Rattle.leaf_parts.specs.ListTrees.{listed_tree}
use Rattle.leaf_parts.proofs.Acted.{opening}
use Rattle.leaf_parts.proofs.Begun.{IsTd}
use Rattle.leaf_parts.proofs.Checks.{spot_of, at-spot, tdcs-load, td-row-means}
use Rattle.leaf_parts.proofs.Lines.{each-may, zeros}
use Rattle.vcpu_control.specs.VpLocks.{td_locks, page_locks, td-held, op-held, held-td, held-op, held-page, alone-page, alone-op}
use Rattle.vcpu_control.specs.TdcsLists.{last-one, others, one-longer, tdcs_word, ListsInTdcs, listed-means}
use Rattle.export_core.specs.StreamTrees.{stream_list, stream_counted, stream_rest, stream_create_task}

-- the lines of TDCS that name streams
stream-line : (w : World) (locks : LockId → ℕ) (t k : ℕ) → k < 4 → in_lines (td_lock_lines locks t (tdcs_lines w t)) (49 + k) ≡ slice_get (w.tds.streams t) k
stream-line w locks t zero b = refl
stream-line w locks t (suc zero) b = refl
stream-line w locks t (suc (suc zero)) b = refl
stream-line w locks t (suc (suc (suc zero))) b = refl
stream-line w locks t (suc (suc (suc (suc k)))) b = absurd (omega (arith, b))

stream-class : (current empty : ℕ → Bool) (k : ℕ) → k < 4 → or_unused (in_lines (tdcs_classes current empty) (49 + k)) ≡ TdcsWord
stream-class current empty zero b = refl
stream-class current empty (suc zero) b = refl
stream-class current empty (suc (suc zero)) b = refl
stream-class current empty (suc (suc (suc zero))) b = refl
stream-class current empty (suc (suc (suc (suc k)))) b = absurd (omega (arith, b))

-- what a word of a stream page is
stream-spot : (w : World) (t p i : ℕ) → IsPageOf w.pages t p kind.Migsc → spot w (place.Word p i) ≡ spot_of (or_unused (in_lines stream_classes i)) t p
stream-spot w t p i page = rw (page.kind, page.owner) refl

-- each word of the new stream page may still be stored
stream-owed : (g : Grip) (t p i : ℕ) → g.has (Locked (OfPage t)) ≡ true → g.sole (Locked (OfOp t)) ≡ true → g.sole (Locked (OfPage p)) ≡ true
    → Meets g (guard_at (spot_of (or_unused (in_lines stream_classes i)) t p)) (owes (or_unused (in_lines stream_classes i)) KeepsNothing)
stream-owed g t p i td op own =
    let P : Class → Type 0 = λ c. Meets g (guard_at (spot_of c t p)) (owes c KeepsNothing) in
    let stream : P StreamWord = inr (inl (td, (op, tt))) in
    let unused : P Unused = inl (td, (own, tt)) in
    each-may P stream_classes (stream, (stream, (stream, unused))) i

module _ (m : Machine) (c : Instant) (t p : ℕ) (la : Lawful m c.state.world) (sh : Shows m c.memory.words c.memory.slots c.state)
    (x : IsTd m c.state.world t stream_ops) (tdr_page : nat_lt t m.pages ≡ true) (page : nat_lt p m.pages ≡ true) (differ : not (p == t) ≡ true) where
  abbrev w : World
  w = c.state.world

  abbrev k : Work
  k = work_of (OfCall (create_stream m t p))

  abbrev n : ℕ
  n = length (w.tds.streams t)

  abbrev g : Grip
  g = hold c (page_locks t p Exclusive)

  other : (p == t) ≡ false
  other = not-true (p == t) differ

  -- its TDCS
  abbrev d : ℕ
  d = x.controls.tdcs

  itself : (q : ℕ) → (q == q) ≡ true
  itself q = eq-eqb q q refl

  -- the world once it is listed, and its act
  abbrev listed : World
  listed = add_stream t p w

  abbrev w' : World
  w' = k.act w

  module _ (room : nat_lt n 4 ≡ true) (host : is_host w p ≡ true) where
    few : n < 4
    few = ltb-true n 4 room

    -- a word of TDCS that neither names it nor counts it
    other-word : (i : ℕ) → (i == 48) ≡ false → (i == 49 + n) ≡ false → tdcs_word c.state listed t i ≡ tdcs_word c.state w t i
    other-word i a b = by_test (nat_le 49 i)
        (λ y. (let long : 49 ≤ i = leb-true 49 i y in
        let o : (i - 49 == n) ≡ false = grind (arith, nat_tests) in rw (itself t, a, y, others p (w.tds.streams t) (i - 49) o) refl))
        (λ y. rw (itself t, a, y) refl)

    -- a word of its own page
    new-line : (i : ℕ) → IsAs (in_lines (stream_lines w' p) i) 0
    new-line i = zeros (stream_lines w' p) (rw (itself p) (refl, (refl, (refl, tt)))) i

    -- the locks that it holds
    td : g.has (Locked (OfPage t)) ≡ true
    td = held-td t p Exclusive c.kept other

    own : g.sole (Locked (OfPage p)) ≡ true
    own = alone-page t p Exclusive c.kept other

    in-list : ListsInTdcs c (stream_list d) t p n listed
    in-list = record {
      apart = grind (arith, nat_tests);
      named = stream-line listed (lock_word c.state.lps c.state.lp_count) t n few ∙ rw (itself t) (last-one p (w.tds.streams t));
      more = rw (itself t) (ap Some (one-longer p (w.tds.streams t)));
      others = other-word;
      elsewhere = λ u alive o i. rw o refl;
      vps = λ q i o. refl;
      streams = λ q i o. rw o refl;
      new = λ i. rw x.alive.life (new-line i);
      first_class = λ current empty. stream-class current empty n few;
      count_class = λ current empty. refl;
      page = λ its i. at-spot g w' (place.Word p i) (spot_of (or_unused (in_lines stream_classes i)) t p) (λ z. owes z KeepsNothing) (stream-spot w' t p i its) (stream-owed g t p i td (alone-op t p c.kept) own);
      respects = rows-respect (opening m) 0 (call.MigStreamCreate t p) g w la
          (tdr_page, (page, (differ, (rw x.alive.kind refl, (rw x.configured refl, (x.two, (x.op, (room, (host, tt)))))))))
          (td, ((held-op t p Exclusive c.kept other, alone-op t p c.kept), ((held-page t p Exclusive c.kept other, own), tt)));
    }

  paged : nat_lt n 4 ≡ true → Means m c k (td_locks t Exclusive) (listed_tree (stream_list d) m.pages t p n) (page_exclusive p ∷ host_page w p ∷ [])
  paged room =
      let few : n < 4 = ltb-true n 4 room in
      listed-means m c t p la sh stream_ops x (ltb-true t m.pages tdr_page) (ltb-true p m.pages page) other (stream_list d) refl n listed (create_stream m t p) refl
      (record { reply_is = refl; cached_is = refl; enters_is = refl; notes_are = refl; tells_are = refl; bundles_are = refl })
      (record { control = x.controls.tdcs_in; listed = omega (arith, few); total = omega arith; told = tt }) (in-list room)

  -- the number there is
  stream_rest-means : Means m c k (td_locks t Exclusive) (stream_rest m.pages t d p) (stream_room w t ∷ page_exclusive p ∷ host_page w p ∷ [])
  stream_rest-means =
      tdcs-load m c k (td_locks t Exclusive) sh t 48 n x.alive x.controls (omega arith) refl (inr (inl (td-held t p Exclusive c.kept other, (op-held t p Exclusive c.kept other, tt))))
      (λ count. stream_counted m.pages t d p count) (stream_room w t ∷ page_exclusive p ∷ host_page w p ∷ [])
      (refl, λ e. refl, paged)

pub stream_create-means : (p : Place) (t q : ℕ) → MeansRow (stream_create_task p t q)
stream_create-means p t q = record {
  means = λ c at. td-row-means p.machine c (work_of (OfCall (create_stream p.machine t q))) t at.lawful at.shown (two_pages p.machine t q) (λ a. ltb-true t p.machine.pages a.0) Exclusive stream_ops
      (λ td. stream_rest p.machine.pages t td.tdcs q) (stream_room c.state.world t ∷ page_exclusive q ∷ host_page c.state.world q ∷ [])
      (λ a y. stream_rest-means p.machine c t q at.lawful at.shown y a.0 a.1.0 a.1.1.0);
}
