-- A stream page is added to a TD: what every world keeps.
use Rattle.std.proofs.Common.{lit<, lit≤, ◌≡◌, refl, sym, ◌∙◌, subst, ap, ℕ, zero, suc, ◌+◌, ◌%◌, ◌^◌, ◌<◌, List, [], ◌∷◌, ◌++◌, length, length-append, get_or, Bool, true, false, not, if◌then◌else◌, ◌==◌, arith}
use Rattle.std.specs.List.{list_any, sum_by}
use Rattle.std.proofs.lemmas.Bool.{eq-eqb, eqb-true, eqb-false, ne_eqb, not-true, and_parts}
use Rattle.std.proofs.lemmas.List.Folds.{list_any_at}
use Rattle.std.proofs.lemmas.List.Sums.{sum_by-cons, sum_by_push}
use Rattle.td_words.specs.declared.names.PageKind.{PageKind}
use Rattle.td_words.specs.declared.names.PageKind.TheVariants as kind
use Rattle.td_words.specs.declared.machines.Machine.{Machine}
use Rattle.flat_core.specs.World.{World, Pages, Tds, Streams, put}
use Rattle.flat_core.specs.ExportRows.{add_stream}
use Rattle.flat_core.specs.Sessions.{stream_page}
use Rattle.flat_core.specs.Exports.{is_dirty, entries_where}
use Rattle.flat_core.specs.Lawful.{IsAlive, IsPageOf, ArePagesOf, all_differ, Lawful}
use Rattle.flat_core.proofs.Tests.{by_test, same_self, put_here}
use Rattle.flat_core.proofs.Exports.{IsCounted, counts_of}
use Rattle.flat_core.proofs.Parts.{LawfulBut, sessions_kept, new_kept, built_other, more_listed, others_listed, more_pages, all_differ_more, shape_tree, shape_keys}

-- sums over a list: the same where the numbers of its pages are; as one other page says; none; one more, where no page comes
-- twice and that of one is one more
pub sum_same : (f g : ℕ → ℕ) (ps : List ℕ) → ((q : ℕ) → list_any (λ p. p == q) ps ≡ true → f q ≡ g q) → sum_by f ps ≡ sum_by g ps
sum_same f g [] e = refl
sum_same f g (p ∷ ps) e =
    let here = e p (rw (same_self p) refl) in
    let rest = sum_same f g ps (λ q h. e q (by_test (p == q) (λ y. rw y refl) (λ y. rw y h))) in
    let a = sum_by-cons f p ps in
    let b = sum_by-cons g p ps in omega (arith, here, rest, a, b)

pub sum_without : (f : ℕ → ℕ) (p v : ℕ) (ps : List ℕ) → list_any (λ q. q == p) ps ≡ false → sum_by (put f p v) ps ≡ sum_by f ps
sum_without f p v ps none = sum_same (put f p v) f ps (λ q h. by_test (q == p)
    (λ y. absurd (let no : true ≡ false = sym h ∙ subst (λ (z : ℕ). list_any (λ x. x == z) ps ≡ false) (sym (eqb-true q p y)) none in cc))
    (λ n. rw n refl))

pub sum_zero : (f : ℕ → ℕ) (ps : List ℕ) → ((q : ℕ) → list_any (λ p. p == q) ps ≡ true → f q ≡ 0) → sum_by f ps ≡ 0
sum_zero f [] e = refl
sum_zero f (p ∷ ps) e =
    let here = e p (rw (same_self p) refl) in
    let rest = sum_zero f ps (λ q h. e q (by_test (p == q) (λ y. rw y refl) (λ y. rw y h))) in
    let a = sum_by-cons f p ps in omega (arith, here, rest, a)

pub sum_raised : (f : ℕ → ℕ) (ps : List ℕ) (k : ℕ) → k < length ps → all_differ ps ≡ true → sum_by (put f (get_or ps k 0) (f (get_or ps k 0) + 1)) ps ≡ sum_by f ps + 1
sum_raised f [] k few d = absurd (omega (arith, few))
sum_raised f (q ∷ qs) zero few d =
    let apart = and_parts (not (list_any (λ x. x == q) qs)) (all_differ qs) d in
    let rest = sum_without f q (f q + 1) qs (not-true _ apart.0) in
    let here = put_here f q (f q + 1) in
    let a = sum_by-cons (put f q (f q + 1)) q qs in
    let b = sum_by-cons f q qs in omega (arith, rest, here, a, b)
sum_raised f (q ∷ qs) (suc k) few d =
    let apart = and_parts (not (list_any (λ x. x == q) qs)) (all_differ qs) d in
    let p : ℕ = get_or qs k 0 in
    let among : list_any (λ x. x == p) qs ≡ true = list_any_at (λ x. x == p) qs k 0 (omega (arith, few)) (same_self p) in
    let other : (q == p) ≡ false = by_test (q == p)
    (λ y. absurd (let no : true ≡ false = sym among ∙ subst (λ (z : ℕ). list_any (λ x. x == z) qs ≡ false) (eqb-true q p y) (not-true _ apart.0) in cc))
    (λ y. y) in
    let here : put f p (f p + 1) q ≡ f q = rw other refl in
    let rest = sum_raised f qs k (omega (arith, few)) apart.1 in
    let a = sum_by-cons (put f p (f p + 1)) q qs in
    let b = sum_by-cons f q qs in omega (arith, rest, here, a, b)

sum_more : (f : ℕ → ℕ) (p : ℕ) (ps : List ℕ) → sum_by (put f p 0) (ps ++ p ∷ []) ≡ sum_by (put f p 0) ps
sum_more f p ps = let nothing = put_here f p 0 in omega (arith, sum_by_push (put f p 0) ps p, nothing)

-- a page among a list's is another one than the one that was added
among_before : (q p : ℕ) (ps : List ℕ) → (p == q) ≡ false → list_any (λ x. x == q) (ps ++ p ∷ []) ≡ true → list_any (λ x. x == q) ps ≡ true
among_before q p [] n h = absurd (let no : false ≡ true = rw n at h in cc)
among_before q p (x ∷ xs) n h = by_test (x == q) (λ y. rw y refl) (λ y. rw y (among_before q p xs n (rw y at h)))

-- pages of one TD alone
pub page_among : (pages : Pages) (t : ℕ) (k : PageKind) (ps : List ℕ) (q : ℕ) → ArePagesOf pages t k ps → list_any (λ p. p == q) ps ≡ true → IsPageOf pages t q k
page_among pages t k [] q h e = cc
page_among pages t k (p ∷ ps) q h e = by_test (p == q) (λ y. subst (λ (z : ℕ). IsPageOf pages t z k) (eqb-true p q y) h.0) (λ y. page_among pages t k ps q h.1 (rw y at e))

-- the page of a TD's stream
pub stream_among : (ps : List ℕ) (k : ℕ) → k < length ps → list_any (λ q. q == get_or ps k 0) ps ≡ true
stream_among ps k few = list_any_at (λ q. q == get_or ps k 0) ps k 0 few (same_self (get_or ps k 0))

pub stream_owned : (m : Machine) (w : World) → Lawful m w → (t k : ℕ) → IsAlive w.pages w.tds t → k < length (w.tds.streams t) → IsPageOf w.pages t (stream_page w t k) kind.Migsc
stream_owned m w l t k alive few = page_among w.pages t kind.Migsc (w.tds.streams t) (stream_page w t k) (l.tds.streams t alive) (stream_among (w.tds.streams t) k few)

pub none_elsewhere : (w : World) (t p x : ℕ) → w.pages.owners p ≡ t → (x == t) ≡ false → (ps : List ℕ) → ArePagesOf w.pages x kind.Migsc ps → list_any (λ q. q == p) ps ≡ false
none_elsewhere w t p x owner n [] h = refl
none_elsewhere w t p x owner n (q ∷ qs) h =
    let apart : (q == p) ≡ false = by_test (q == p)
    (λ y. absurd (let same : x ≡ t = sym h.0.owner ∙ (ap w.pages.owners (eqb-true q p y) ∙ owner) in let no : true ≡ false = sym (eq-eqb x t same) ∙ n in cc))
    (λ y. y) in
    rw (apart, none_elsewhere w t p x owner n qs h.1) refl

module _ (m : Machine) (w : World) (t p : ℕ) (l : LawfulBut m w p) (page : IsPageOf w.pages t p kind.Migsc) (built : (length (w.tds.controls t) == 2) ≡ true) (few : length (w.tds.streams t) < 4) (apart : list_any (λ q. q == p) (w.tds.streams t) ≡ false) where
  abbrev with_stream : Tds
  with_stream = (add_stream t p w).tds

  abbrev streams_now : Streams
  streams_now = (add_stream t p w).streams

  stream_back : (x : ℕ) → IsAlive w.pages with_stream x → IsAlive w.pages w.tds x
  stream_back x a = record { kind = a.kind; life = a.life }

  -- the new page counts nothing
  same_sum : (f : ℕ → ℕ) (x : ℕ) → IsAlive w.pages w.tds x → sum_by (put f p 0) (with_stream.streams x) ≡ sum_by f (w.tds.streams x)
  same_sum f x a = by_test (x == t)
      (λ y. ap (λ (b : Bool). sum_by (put f p 0) (if b then w.tds.streams t ++ p ∷ [] else w.tds.streams x)) y
      ∙ (sum_more f p (w.tds.streams t) ∙ (sum_without f p 0 (w.tds.streams t) apart ∙ ap (λ (z : ℕ). sum_by f (w.tds.streams z)) (sym (eqb-true x t y)))))
      (λ n. ap (λ (b : Bool). sum_by (put f p 0) (if b then w.tds.streams t ++ p ∷ [] else w.tds.streams x)) n ∙ (sum_without f p 0 (w.tds.streams x) (none_elsewhere w t p x page.owner n (w.tds.streams x) (l.tds.streams x a))))

  counted : (x : ℕ) → IsAlive w.pages with_stream x → IsCounted m.pages w.pages with_stream streams_now x
  counted x a = (
    ap (λ (k : ℕ). entries_where is_dirty m.pages w.pages w.tds x + k) (same_sum w.streams.cleaned x (stream_back x a)) ∙ l.counts.dirtied x (stream_back x a),
    l.counts.unrestored x (stream_back x a) ∙ ap (λ (k : ℕ). (w.tds.unrestored x + k) % 2 ^ 64) (sym (same_sum w.streams.first_exports x (stream_back x a))),
  )

  others_among : (x q : ℕ) → (q == p) ≡ false → list_any (λ y. y == q) (with_stream.streams x) ≡ true → list_any (λ y. y == q) (w.tds.streams x) ≡ true
  others_among x q n = by_test (x == t)
      (λ y h. subst (λ (z : ℕ). list_any (λ s. s == q) (w.tds.streams z) ≡ true) (sym (eqb-true x t y)) (among_before q p (w.tds.streams t) (ne_eqb p q (λ e. eqb-false q p n (sym e))) (rw y at h)))
      (λ y h. rw y at h)

  pub stream_kept : Lawful m (add_stream t p w)
  stream_kept = record {
    size = l.size;
    pages = l.pages;
    tds = record {
      controls = λ x a. l.tds.controls x (stream_back x a);
      vps = λ x a. l.tds.vps x (stream_back x a);
      vps_few = l.tds.vps_few;
      vps_differ = l.tds.vps_differ;
      vps_expected = l.tds.vps_expected;
      streams = λ x a. by_test (x == t)
          (λ y. rw y (subst (λ (z : ℕ). ArePagesOf w.pages z kind.Migsc (w.tds.streams t ++ p ∷ [])) (sym (eqb-true x t y)) (more_pages w.pages t p kind.Migsc page (w.tds.streams t) (subst (λ (z : ℕ). ArePagesOf w.pages z kind.Migsc (w.tds.streams z)) (eqb-true x t y) (l.tds.streams x (stream_back x a))))))
          (λ n. rw n (l.tds.streams x (stream_back x a)));
      streams_few = λ x. by_test (x == t) (λ y. rw y (omega (arith, length-append (w.tds.streams t) (p ∷ [])))) (λ n. rw n (l.tds.streams_few x));
      streams_differ = λ x. by_test (x == t) (λ y. rw y (all_differ_more p (w.tds.streams t) apart (l.tds.streams_differ t))) (λ n. rw n (l.tds.streams_differ x));
      epoch = l.tds.epoch;
      epoch_begun = l.tds.epoch_begun;
    };
    lists = record {
      control = others_listed w.pages w.tds with_stream stream_back t p kind.Migsc page kind.Tdcx (λ e. cc) w.tds.controls l.control;
      vp = others_listed w.pages w.tds with_stream stream_back t p kind.Migsc page kind.Tdvpr (λ e. cc) w.tds.vps l.vp;
      stream = more_listed w.pages w.tds with_stream stream_back t p kind.Migsc page w.tds.streams l.stream;
      index = λ x i v a. l.index x i v (stream_back x a);
    };
    tree = shape_tree w.pages w.tds with_stream stream_back m.pages refl l.tree;
    keys = shape_keys w.pages w.tds with_stream stream_back refl m.hkids w.key_table w.key_table (λ x a. record { kind = a.kind; life = a.life }) (λ h. refl) (λ x a. l.keys.flushed x (stream_back x a)) l.keys;
    beginnings = record { is_new = λ x a n. new_kept w.tds with_stream w.hidden.rtmrs w.hidden.rtmrs x (rw (built_other w.tds.controls t x built n) refl) (l.beginnings.is_new x (stream_back x a) n) };
    counts = counts_of m.pages w.pages with_stream streams_now counted;
    streams = record {
      counter = λ s. by_test (s == p) (λ y. rw y (lit< tt)) (λ n. rw n (l.streams.counter s));
      cleaned = λ s. by_test (s == p) (λ y. rw y (lit≤ tt)) (λ n. rw n (l.streams.cleaned s));
      first_exports = λ s. by_test (s == p) (λ y. rw y (lit≤ tt)) (λ n. rw n (l.streams.first_exports s));
      uncounted = λ x s a new among. by_test (s == p) (λ y. rw y refl) (λ n. rw n (l.streams.uncounted x s (stream_back x a) new (others_among x s n among)));
    };
    sessions = sessions_kept w.tds with_stream w.key_table w.key_table refl
        (λ x h. by_test (x == t) (λ y. rw y (h.0, h.1, λ e. ((h.2 e).0, omega (arith, length-append (w.tds.streams t) (p ∷ []))), λ e. omega (arith, length-append (w.tds.streams t) (p ∷ [])), h.4)) (λ n. rw n h)) l.sessions;
  }
