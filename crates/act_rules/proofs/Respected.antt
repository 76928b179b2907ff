-- Words that acts are written in change what words are only as the rules say.
use Rattle.std.proofs.Common.{◌≡◌, ◌⊎◌, refl, sym, ◌∙◌, ap, subst, inl, inr, ℕ, zero, suc, ◌+◌, ◌-◌, ◌*◌, ◌%◌, ◌≤◌, Bool, true, false, ◌==◌, ◌&&◌, ◌||◌, if◌then◌else◌, List, [], ◌∷◌, arith}
use Rattle.td_words.specs.declared.places.TheConstants.{TDCS_OP_LOCK, TDCS_OP, TDCS_EPOCH, TDCS_ENTERED}
use Rattle.std.specs.Prelude.{Option, Some, None, nat_le, nat_lt}
use Rattle.std.proofs.lemmas.Bool.{eq-eqb, eqb-true, and_parts}
use Rattle.td_words.specs.declared.names.PageKind.{PageKind}
use Rattle.td_words.specs.declared.names.PageKind.TheVariants as kind
use Rattle.td_words.specs.declared.names.LifeState.{LifeState}
use Rattle.td_words.specs.declared.names.LifeState.TheVariants as life
use Rattle.td_words.specs.declared.machines.Machine.{Machine}
use Rattle.td_words.specs.NameNumber.{life_number}
use Rattle.td_words.specs.declared.names.OpState.{OpState}
use Rattle.td_words.specs.Packing.{Entry, Key}
use Rattle.td_words.specs.Place.{WordPlace, Lock, Pamt, Word, Key as KeyPlace}
use Rattle.flat_core.specs.World.{World, Pages, put}
use Rattle.flat_core.specs.Processor.{OfPage, OfOp, OfTree, OfEpoch}
use Rattle.flat_core.specs.Lawful.{key_owner, Lawful, ArePagesOf}
use Rattle.flat_core.specs.Conditions.{same_kind}
use Rattle.flat_core.specs.Effects.{take_node, set_entry, set_op, set_epoch, set_life, set_key, enter_guest, leave_guest}
use Rattle.flat_core.proofs.Tests.{by_test, host_kind}
use Rattle.word_rules.specs.Guards.{Grip, Locked}
use Rattle.word_rules.specs.Rules.{Class, GuestWord, LeafEntry, Unused, moves, EpochCount}
use Rattle.word_rules.specs.Views.{no_page, named_by}
use Rattle.word_rules.specs.Lines.{Line, At, Run, in_lines}
use Rattle.word_rules.specs.Spots.{Spot, spot, slot_of, slot_spot, runs_in, page_spot, control_class, root_class, or_unused, tdr_classes, tdcs_classes, vp_classes, stream_classes, is_current, is_at_end, is_empty, entry_class, entry_named}
use Rattle.word_rules.specs.Cells.{one_of_parity, entered_of_parity}
use Rattle.word_rules.specs.Permissions.{MayAt, Moves, Respects}
use Rattle.word_rules.proofs.Conflicts.{respects-compose}
use Rattle.act_rules.specs.Acts.{SameTd, SameWords, HoldsTd, EffectsRespect}

-- a page's words, from what tells of its TD and of its node

pub control-same : (w w' : World) (t p i : ℕ) (cs : List ℕ) → is_current w' t ≡ is_current w t → is_empty w' t ≡ is_empty w t → control_class w' t p cs i ≡ control_class w t p cs i
control-same w w' t p i [] e f = refl
control-same w w' t p i (c ∷ rest) e f = λ j. if c == p then or_unused (in_lines (tdcs_classes (e j) (f j)) i) else root_class p rest

current-same : (w w' : World) (t : ℕ) → w'.tds.epochs t ≡ w.tds.epochs t → is_current w' t ≡ is_current w t
current-same w w' t e = λ j. λ b. e j % 2 == b

empty-same : (w w' : World) (t : ℕ) → ((b : ℕ) → is_empty w' t b ≡ is_empty w t b) → is_empty w' t ≡ is_empty w t
empty-same w w' t e = λ j. λ b. e b j

class-same : (w w' : World) (t level : ℕ) → w'.tds.ops t ≡ w.tds.ops t → entry_class w' t level ≡ entry_class w t level
class-same w w' t zero e = refl
class-same w w' t (suc zero) e = λ j. LeafEntry (runs_in (e j))
class-same w w' t (suc (suc level)) e = refl

named-same : (w w' : World) (t level number i : ℕ) → ((n : ℕ) → named_by (w'.tds.entries t 0 n) ≡ named_by (w.tds.entries t 0 n)) → entry_named w' t level number i ≡ entry_named w t level number i
named-same w w' t zero number i e = refl
named-same w w' t (suc zero) number i e = e (512 * number + i)
named-same w w' t (suc (suc level)) number i e = refl

-- of one page with its node
pub page-as : (w w' : World) (t p : ℕ) (k : PageKind) (i : ℕ) → w'.tds.ops t ≡ w.tds.ops t → ((n : ℕ) → named_by (w'.tds.entries t 0 n) ≡ named_by (w.tds.entries t 0 n))
    → control_class w' t p (w'.tds.controls t) i ≡ control_class w t p (w.tds.controls t) i → w'.pages.levels p ≡ w.pages.levels p → w'.pages.numbers p ≡ w.pages.numbers p → page_spot w' t p k i ≡ page_spot w t p k i
page-as w w' t p kind.Nda i o a c l n = refl
page-as w w' t p kind.Reg i o a c l n = λ j. record { class = GuestWord (runs_in (o j)); td = t; page = p; named = no_page }
page-as w w' t p kind.Tdr i o a c l n = refl
page-as w w' t p kind.Tdcx i o a c l n = λ j. record { class = c j; td = t; page = p; named = no_page }
page-as w w' t p kind.Tdvpr i o a c l n = refl
page-as w w' t p kind.Ept i o a c l n =
    let e : entry_class w' t (w'.pages.levels p) ≡ entry_class w t (w.pages.levels p) = ap (λ (x : ℕ). entry_class w' t x) l ∙ class-same w w' t (w.pages.levels p) o in
    let f : entry_named w' t (w'.pages.levels p) (w'.pages.numbers p) i ≡ entry_named w t (w.pages.levels p) (w.pages.numbers p) i =
    (λ j. entry_named w' t (l j) (n j) i) ∙ named-same w w' t (w.pages.levels p) (w.pages.numbers p) i a in
    λ j. record { class = e j; td = t; page = p; named = f j }
page-as w w' t p kind.Migsc i o a c l n = refl

pub page-same : (w w' : World) (t p : ℕ) (k : PageKind) (i : ℕ) → SameTd w w' t → w'.pages.levels p ≡ w.pages.levels p → w'.pages.numbers p ≡ w.pages.numbers p → page_spot w' t p k i ≡ page_spot w t p k i
page-same w w' t p k i s l n =
    let e : control_class w' t p (w'.tds.controls t) i ≡ control_class w t p (w.tds.controls t) i =
    ap (λ (cs : List ℕ). control_class w' t p cs i) s.controls ∙ control-same w w' t p i (w.tds.controls t) (current-same w w' t s.epoch) (empty-same w w' t s.empty) in
    page-as w w' t p k i s.op s.named e l n

-- an act that leaves all of that

words-same : (w w' : World) → SameWords w w' → (q : WordPlace) → spot w' q ≡ spot w q
words-same w w' s (Lock p) = refl
words-same w w' s (Pamt p) = refl
words-same w w' s (KeyPlace k) = refl
words-same w w' s (Word p i) =
    (λ j. page_spot w' (s.owners j p) p (s.kinds j p) i)
    ∙ page-same w w' (w.pages.owners p) p (w.pages.kinds p) i (s.tds (w.pages.owners p)) (λ j. s.levels j p) (λ j. s.numbers j p)

pub leaves : (g : Grip) (w w' : World) → SameWords w w' → ((h : ℕ) → key_owner (w'.key_table.keys h) ≡ key_owner (w.key_table.keys h)) → w'.tds.lives ≡ w.tds.lives → Respects g w w'
leaves g w w' s k l = record { word = λ q. inl (words-same w w' s q); slot = λ h. inl (ap slot_of (k h)); life = λ t. inl (ap (λ (f : ℕ → LifeState). f t) l) }

-- an entry

entry-page : (w : World) (t level number : ℕ) (e : Entry) (u n : ℕ) → ((u == t) ≡ true → (0 == level && n == number) ≡ true → named_by e ≡ named_by (w.tds.entries u 0 n))
    → named_by ((set_entry t level number e w).tds.entries u 0 n) ≡ named_by (w.tds.entries u 0 n)
entry-page w t level number e u n k =
    by_test (u == t)
    (λ y. by_test (0 == level && n == number)
    (λ z. let is : u ≡ t = eqb-true u t y in rw (y, z) (k y z))
    (λ z. let is : u ≡ t = eqb-true u t y in rw (y, z) (ap (λ (x : ℕ). named_by (w.tds.entries x 0 n)) (sym is))))
    (λ y. rw y refl)

entry-td : (w : World) (t level number : ℕ) (e : Entry) (u : ℕ) → ((n : ℕ) → (u == t) ≡ true → (0 == level && n == number) ≡ true → named_by e ≡ named_by (w.tds.entries u 0 n)) → SameTd w (set_entry t level number e w) u
entry-td w t level number e u k = record { op = refl; controls = refl; epoch = refl; empty = λ b. refl; named = λ n. entry-page w t level number e u n (k n) }

-- one that names the same page as before
pub entry-same : (w : World) (t level number : ℕ) (e : Entry) → named_by e ≡ named_by (w.tds.entries t level number) → (u : ℕ) → SameTd w (set_entry t level number e w) u
entry-same w t level number e h u = entry-td w t level number e u (λ n y z.
    let a : u ≡ t = eqb-true u t y in
    let b : 0 ≡ level = eqb-true 0 level (and_parts (0 == level) (n == number) z).0 in
    let c : n ≡ number = eqb-true n number (and_parts (0 == level) (n == number) z).1 in h ∙ rw (a, ← b, c) refl)

entry-state : (g : Grip) (w : World) (t level number : ℕ) (e : Entry) → named_by e ≡ named_by (w.tds.entries t level number) → Respects g w (set_entry t level number e w)
entry-state g w t level number e h =
    leaves g w (set_entry t level number e w) (record { kinds = refl; owners = refl; levels = refl; numbers = refl; tds = entry-same w t level number e h }) (λ k. refl) refl

-- what may be moved under these locks, kind by kind
module _ (g : Grip) (w w' : World) (t p i : ℕ) where
  -- the tree alone: entries
  by_tree : (k : PageKind) → HoldsTd g t → g.sole (Locked (OfTree t)) ≡ true → (w'.tds.ops t ≡ w.tds.ops t) → (w'.tds.controls t ≡ w.tds.controls t) → (w'.tds.epochs t ≡ w.tds.epochs t) → (is_empty w' t ≡ is_empty w t)
      → w'.pages.levels p ≡ w.pages.levels p → w'.pages.numbers p ≡ w.pages.numbers p → (page_spot w' t p k i ≡ page_spot w t p k i) ⊎ MayAt g (page_spot w t p k i) moves
  by_tree kind.Nda h s o c e f l m = inl refl
  by_tree kind.Reg h s o c e f l m = inl (λ j. record { class = GuestWord (runs_in (o j)); td = t; page = p; named = no_page })
  by_tree kind.Tdr h s o c e f l m = inl refl
  by_tree kind.Tdcx h s o c e f l m =
      let d : control_class w' t p (w'.tds.controls t) i ≡ control_class w t p (w.tds.controls t) i =
      ap (λ (cs : List ℕ). control_class w' t p cs i) c ∙ control-same w w' t p i (w.tds.controls t) (current-same w w' t e) f in
      inl (λ j. record { class = d j; td = t; page = p; named = no_page })
  by_tree kind.Tdvpr h s o c e f l m = inl refl
  by_tree kind.Migsc h s o c e f l m = inl refl
  by_tree kind.Ept h s o c e f l m = by (w.pages.levels p) l
    where
      by : (level : ℕ) → w'.pages.levels p ≡ level
          → (page_spot w' t p kind.Ept i ≡ record { class = entry_class w t level; td = t; page = p; named = entry_named w t level (w.pages.numbers p) i })
          ⊎ MayAt g (record { class = entry_class w t level; td = t; page = p; named = entry_named w t level (w.pages.numbers p) i }) moves
      by zero x = inl (rw x refl)
      by (suc zero) x = inr (inr (inr (inl (h.tdr, (h.op, (s, tt))))))
      by (suc (suc level)) x = inl (rw x refl)

entry-moved : (g : Grip) (w : World) (t level number : ℕ) (e : Entry) → HoldsTd g t → g.sole (Locked (OfTree t)) ≡ true → Respects g w (set_entry t level number e w)
entry-moved g w t level number e h s = record { word = at; slot = λ k. inl refl; life = λ u. inl refl }
  where
    w' : World
    w' = set_entry t level number e w

    other : (u p i : ℕ) (k : PageKind) → (u == t) ≡ false → page_spot w' u p k i ≡ page_spot w u p k i
    other u p i k n = page-same w w' u p k i (entry-td w t level number e u (λ m y z. absurd (let bad : true ≡ false = sym y ∙ n in cc))) refl refl

    own : (u p i : ℕ) (k : PageKind) → u ≡ t → (page_spot w' u p k i ≡ page_spot w u p k i) ⊎ MayAt g (page_spot w u p k i) moves
    own u p i k e = subst (λ (x : ℕ). (page_spot w' x p k i ≡ page_spot w x p k i) ⊎ MayAt g (page_spot w x p k i) moves) (sym e) (by_tree g w w' t p i k h s refl refl refl refl refl refl)

    at : (q : WordPlace) → (spot w' q ≡ spot w q) ⊎ Moves g w q
    at (Lock p) = inl refl
    at (Pamt p) = inl refl
    at (KeyPlace k) = inl refl
    at (Word p i) = by_test (w.pages.owners p == t)
        (λ y. own (w.pages.owners p) p i (w.pages.kinds p) (eqb-true (w.pages.owners p) t y))
        (λ n. inl (other (w.pages.owners p) p i (w.pages.kinds p) n))

-- a page that is taken or given back

page-moved : (g : Grip) (w : World) (p : ℕ) (k : PageKind) (t level number : ℕ) → ((i : ℕ) → Moves g w (Word p i)) → Respects g w (take_node p k t level number w)
page-moved g w p k t level number m = record { word = at; slot = λ h. inl refl; life = λ u. inl refl }
  where
    w' : World
    w' = take_node p k t level number w

    there : (q i : ℕ) (y : (q == p) ≡ false) → spot w' (Word q i) ≡ spot w (Word q i)
    there q i y = rw y (page-same w w' (w.pages.owners q) q (w.pages.kinds q) i (record { op = refl; controls = refl; epoch = refl; empty = λ b. refl; named = λ n. refl }) (rw y refl) (rw y refl))

    at : (q : WordPlace) → (spot w' q ≡ spot w q) ⊎ Moves g w q
    at (Lock q) = inl refl
    at (Pamt q) = inl refl
    at (KeyPlace j) = inl refl
    at (Word q i) = by_test (q == p)
        (λ y. let is : q ≡ p = eqb-true q p y in inr (subst (λ (x : ℕ). Moves g w (Word x i)) (sym is) (m i)))
        (λ y. inl (there q i y))

pub host-moves : (g : Grip) (w : World) (p i : ℕ) → w.pages.kinds p ≡ kind.Nda → g.sole (Locked (OfPage p)) ≡ true → Moves g w (Word p i)
host-moves g w p i e s = rw e (inl (s, tt))

-- a word of a control page
abbrev control_spot : ℕ → ℕ → Class → Spot
control_spot t p c = record { class = c; td = t; page = p; named = no_page }

-- a page of a TD whose TDR page is held alone, and which is held alone itself

abbrev AllLines : (Class → Type 0) → List (Line Class) → Type 0
AllLines P [] = Unit {0}
AllLines P (At place c ∷ rest) = P c × AllLines P rest
AllLines P (Run place count cs ∷ rest) = ((k : ℕ) → P (or_unused (cs k))) × AllLines P rest

in-all-lines : (P : Class → Type 0) (lines : List (Line Class)) (i : ℕ) → P Unused → AllLines P lines → P (or_unused (in_lines lines i))
in-all-lines P [] i u h = u
in-all-lines P (At place c ∷ rest) i u h = by_test (i == place) (λ y. rw y h.0) (λ n. rw n (in-all-lines P rest i u h.1))
in-all-lines P (Run place count cs ∷ rest) i u h = by_test (nat_le place i && nat_lt i (place + count)) (λ y. rw y (h.0 (i - place))) (λ n. rw n (in-all-lines P rest i u h.1))

module _ (g : Grip) (w : World) (t p : ℕ) (has : g.has (Locked (OfPage t)) ≡ true) (alone : g.sole (Locked (OfPage t)) ≡ true) (own : g.sole (Locked (OfPage p)) ≡ true) where
  abbrev MayMove : Class → Type 0
  MayMove c = MayAt g (control_spot t p c) moves

  unused-moves : MayMove Unused
  unused-moves = inl (has, (own, tt))

  count-moves : (x y : Bool) → MayMove (EpochCount x y)
  count-moves true y = inl (has, tt)
  count-moves false true = inl (alone, tt)
  count-moves false false = inl (has, tt)

  tdr-moves : (i : ℕ) → MayMove (or_unused (in_lines tdr_classes i))
  tdr-moves i = in-all-lines MayMove tdr_classes i unused-moves (inl (alone, tt), (inl (alone, tt), (inl (alone, tt), (inl (alone, tt), (inl (alone, tt), (inl (alone, tt), tt))))))

  tdcs-moves : (i : ℕ) (current empty : ℕ → Bool) → MayMove (or_unused (in_lines (tdcs_classes current empty) i))
  tdcs-moves i current empty = in-all-lines MayMove (tdcs_classes current empty) i unused-moves (
    λ k. inl (alone, tt),
    (
      inl (alone, tt),
      (
        inl (alone, tt),
        (
          λ b. count-moves (current b) (empty b),
          (
            inl (alone, tt),
            (
              inl (alone, tt),
              (
                λ k. inl (alone, tt),
                (λ k. inl (alone, tt), (λ k. inl (alone, tt), (inl (alone, tt), (λ k. inl (alone, tt), (λ k. inl (alone, tt), tt))))),
              ),
            ),
          ),
        ),
      ),
    ),
  )

  vp-moves : (i : ℕ) → MayMove (or_unused (in_lines vp_classes i))
  vp-moves i = in-all-lines MayMove vp_classes i unused-moves (inl (alone, tt), (inl (alone, tt), (inl (alone, tt), (inl (alone, tt), (inl (alone, tt), (inl (alone, tt), (λ k. inl (alone, tt), tt)))))))

  stream-moves : (i : ℕ) → MayMove (or_unused (in_lines stream_classes i))
  stream-moves i = in-all-lines MayMove stream_classes i unused-moves (inl (alone, tt), (inl (alone, tt), (inl (alone, tt), tt)))

  root-moves : (cs : List ℕ) → MayMove (root_class p cs)
  root-moves [] = unused-moves
  root-moves (r ∷ rest) = by_test (r == p) (λ y. rw y (inl (alone, tt))) (λ n. rw n unused-moves)

  control-moves : (cs : List ℕ) (i : ℕ) → MayMove (control_class w t p cs i)
  control-moves [] i = unused-moves
  control-moves (c ∷ rest) i = by_test (c == p) (λ y. rw y (tdcs-moves i (is_current w t) (is_empty w t))) (λ n. rw n (root-moves rest))

  entry-moves : (level number : ℕ) → MayAt g (record { class = entry_class w t level; td = t; page = p; named = number }) moves
  entry-moves zero number = unused-moves
  entry-moves (suc zero) number = inl (alone, tt)
  entry-moves (suc (suc level)) number = inl (alone, tt)

  pub owned-moves : (k : PageKind) (i : ℕ) → same_kind k kind.Nda ≡ false → MayAt g (page_spot w t p k i) moves
  owned-moves kind.Nda i h = cc
  owned-moves kind.Reg i h = inl (alone, tt)
  owned-moves kind.Tdr i h = tdr-moves i
  owned-moves kind.Tdcx i h = control-moves (w.tds.controls t) i
  owned-moves kind.Tdvpr i h = vp-moves i
  owned-moves kind.Ept i h = entry-moves (w.pages.levels p) (entry_named w t (w.pages.levels p) (w.pages.numbers p) i)
  owned-moves kind.Migsc i h = stream-moves i

-- an operation state: O alone
op-moved : (g : Grip) (w : World) (t : ℕ) (s : OpState) → g.has (Locked (OfPage t)) ≡ true → g.sole (Locked (OfOp t)) ≡ true → Respects g w (set_op t s w)
op-moved g w t s h o = record { word = at; slot = λ k. inl refl; life = λ u. inl refl }
  where
    w' : World
    w' = set_op t s w

    own : (p i : ℕ) (k : PageKind) → (page_spot w' t p k i ≡ page_spot w t p k i) ⊎ MayAt g (page_spot w t p k i) moves
    own p i kind.Reg = inr (inr (inl (h, (o, tt))))
    own p i kind.Ept = by (w.pages.levels p)
      where
        by : (level : ℕ) → let named = entry_named w t level (w.pages.numbers p) i in
            (let x : Spot = record { class = entry_class w' t level; td = t; page = p; named = entry_named w' t level (w.pages.numbers p) i } in x ≡ record { class = entry_class w t level; td = t; page = p; named = named })
            ⊎ MayAt g (record { class = entry_class w t level; td = t; page = p; named = named }) moves
        by zero = inl refl
        by (suc zero) = inr (inr (inl (h, (o, tt))))
        by (suc (suc level)) = inl refl
    own p i kind.Tdcx = inl (λ j. record { class = control-same w w' t p i (w.tds.controls t) refl refl j; td = t; page = p; named = no_page })
    own p i kind.Nda = inl refl
    own p i kind.Tdr = inl refl
    own p i kind.Tdvpr = inl refl
    own p i kind.Migsc = inl refl

    other : (u p i : ℕ) (k : PageKind) → (u == t) ≡ false → page_spot w' u p k i ≡ page_spot w u p k i
    other u p i k n = page-same w w' u p k i (record { op = rw n refl; controls = refl; epoch = refl; empty = λ b. refl; named = λ m. refl }) refl refl

    at : (q : WordPlace) → (spot w' q ≡ spot w q) ⊎ Moves g w q
    at (Lock p) = inl refl
    at (Pamt p) = inl refl
    at (KeyPlace k) = inl refl
    at (Word p i) = by_test (w.pages.owners p == t)
        (λ y. let is : w.pages.owners p ≡ t = eqb-true (w.pages.owners p) t y in
        subst (λ (x : ℕ). (page_spot w' x p (w.pages.kinds p) i ≡ page_spot w x p (w.pages.kinds p) i) ⊎ MayAt g (page_spot w x p (w.pages.kinds p) i) moves) (sym is) (own p i (w.pages.kinds p)))
        (λ n. inl (other (w.pages.owners p) p i (w.pages.kinds p) n))

-- epoch counts: which of them is TD_EPOCH's, and which is 0

count-classes : (cur cur' emp emp' : ℕ → Bool) (i : ℕ) → (or_unused (in_lines (tdcs_classes cur' emp') i) ≡ or_unused (in_lines (tdcs_classes cur emp) i))
    ⊎ ((b : ℕ) × (or_unused (in_lines (tdcs_classes cur emp) i) ≡ EpochCount (cur b) (emp b)) × (or_unused (in_lines (tdcs_classes cur' emp') i) ≡ EpochCount (cur' b) (emp' b)))
count-classes cur cur' emp emp' i =
    by_test (nat_le TDCS_OP_LOCK i && nat_lt i (TDCS_OP_LOCK + 4)) (λ y. inl (rw y refl)) (λ n0.
    by_test (i == TDCS_OP) (λ y. inl (rw (n0, y) refl)) (λ n1.
    by_test (i == TDCS_EPOCH) (λ y. inl (rw (n0, n1, y) refl)) (λ n2.
    by_test (nat_le TDCS_ENTERED i && nat_lt i (TDCS_ENTERED + 2)) (λ y. inr (i - TDCS_ENTERED, rw (n0, n1, n2, y) refl, rw (n0, n1, n2, y) refl)) (λ n3. inl (rw (n0, n1, n2, n3) refl)))))

-- of each parity: it stays as it was, or may be moved
abbrev CountsMay : Grip → World → World → ℕ → ℕ → Type 0
CountsMay g w w' t p = (b : ℕ) → ((is_current w' t b ≡ is_current w t b) × (is_empty w' t b ≡ is_empty w t b)) ⊎ MayAt g (control_spot t p (EpochCount (is_current w t b) (is_empty w t b))) moves

counts-control : (g : Grip) (w w' : World) (t p i : ℕ) (cs : List ℕ) → CountsMay g w w' t p → (control_class w' t p cs i ≡ control_class w t p cs i) ⊎ MayAt g (control_spot t p (control_class w t p cs i)) moves
counts-control g w w' t p i [] k = inl refl
counts-control g w w' t p i (c ∷ rest) k =
    by_test (c == p) (λ y. rw y (by (count-classes (is_current w t) (is_current w' t) (is_empty w t) (is_empty w' t) i))) (λ n. inl (rw n refl))
  where
    at : (b : ℕ) → or_unused (in_lines (tdcs_classes (is_current w t) (is_empty w t)) i) ≡ EpochCount (is_current w t b) (is_empty w t b) → or_unused (in_lines (tdcs_classes (is_current w' t) (is_empty w' t)) i) ≡ EpochCount (is_current w' t b) (is_empty w' t b)
        → ((is_current w' t b ≡ is_current w t b) × (is_empty w' t b ≡ is_empty w t b)) ⊎ MayAt g (control_spot t p (EpochCount (is_current w t b) (is_empty w t b))) moves
        → (or_unused (in_lines (tdcs_classes (is_current w' t) (is_empty w' t)) i) ≡ or_unused (in_lines (tdcs_classes (is_current w t) (is_empty w t)) i)) ⊎ MayAt g (control_spot t p (or_unused (in_lines (tdcs_classes (is_current w t) (is_empty w t)) i))) moves
    at b e f (inl d) = inl (f ∙ ((λ j. EpochCount (d.0 j) (d.1 j)) ∙ sym e))
    at b e f (inr m) = inr (subst (λ (z : Class). MayAt g (control_spot t p z) moves) (sym e) m)

    by : (or_unused (in_lines (tdcs_classes (is_current w' t) (is_empty w' t)) i) ≡ or_unused (in_lines (tdcs_classes (is_current w t) (is_empty w t)) i))
        ⊎ ((b : ℕ) × (or_unused (in_lines (tdcs_classes (is_current w t) (is_empty w t)) i) ≡ EpochCount (is_current w t b) (is_empty w t b)) × (or_unused (in_lines (tdcs_classes (is_current w' t) (is_empty w' t)) i) ≡ EpochCount (is_current w' t b) (is_empty w' t b)))
        → (or_unused (in_lines (tdcs_classes (is_current w' t) (is_empty w' t)) i) ≡ or_unused (in_lines (tdcs_classes (is_current w t) (is_empty w t)) i)) ⊎ MayAt g (control_spot t p (or_unused (in_lines (tdcs_classes (is_current w t) (is_empty w t)) i))) moves
    by (inl e) = inl e
    by (inr x) = at x.0 x.1 x.2 (k x.0)

spot-of : (g : Grip) (t p : ℕ) (a b : Class) → (a ≡ b) ⊎ MayAt g (control_spot t p b) moves → (control_spot t p a ≡ control_spot t p b) ⊎ MayAt g (control_spot t p b) moves
spot-of g t p a b (inl x) = inl (λ j. control_spot t p (x j))
spot-of g t p a b (inr m) = inr m

-- an act that changes nothing else
pub record SameButCounts (w w' : World) : Type 0 where
  pages : w'.pages ≡ w.pages
  ops : w'.tds.ops ≡ w.tds.ops
  controls : w'.tds.controls ≡ w.tds.controls
  entries : w'.tds.entries ≡ w.tds.entries

counts-word : (g : Grip) (w w' : World) (u p i : ℕ) (k : PageKind) → SameButCounts w w' → (k ≡ kind.Tdcx → CountsMay g w w' u p) → (page_spot w' u p k i ≡ page_spot w u p k i) ⊎ MayAt g (page_spot w u p k i) moves
counts-word g w w' u p i kind.Tdcx s m =
    spot-of g u p _ _ (subst (λ (z : ℕ → List ℕ). (control_class w' u p (z u) i ≡ control_class w u p (w.tds.controls u) i) ⊎ MayAt g (control_spot u p (control_class w u p (w.tds.controls u) i)) moves) (sym s.controls) (counts-control g w w' u p i (w.tds.controls u) (m refl)))
counts-word g w w' u p i kind.Nda s m = inl refl
counts-word g w w' u p i kind.Reg s m = inl (λ j. record { class = GuestWord (runs_in (s.ops j u)); td = u; page = p; named = no_page })
counts-word g w w' u p i kind.Tdr s m = inl refl
counts-word g w w' u p i kind.Tdvpr s m = inl refl
counts-word g w w' u p i kind.Migsc s m = inl refl
counts-word g w w' u p i kind.Ept s m =
    let e : entry_class w' u (w'.pages.levels p) ≡ entry_class w u (w.pages.levels p) = (λ j. entry_class w' u ((s.pages j).levels p)) ∙ class-same w w' u (w.pages.levels p) (λ j. s.ops j u) in
    let f : entry_named w' u (w'.pages.levels p) (w'.pages.numbers p) i ≡ entry_named w u (w.pages.levels p) (w.pages.numbers p) i =
    (λ j. entry_named w' u ((s.pages j).levels p) ((s.pages j).numbers p) i) ∙ named-same w w' u (w.pages.levels p) (w.pages.numbers p) i (λ n. λ j. named_by (s.entries j u 0 n)) in
    inl (λ j. record { class = e j; td = u; page = p; named = f j })

counts-at : (g : Grip) (w w' : World) → SameButCounts w w' → ((p : ℕ) → w.pages.kinds p ≡ kind.Tdcx → CountsMay g w w' (w.pages.owners p) p) → (q : WordPlace) → (spot w' q ≡ spot w q) ⊎ Moves g w q
counts-at g w w' s m (Lock p) = inl refl
counts-at g w w' s m (Pamt p) = inl refl
counts-at g w w' s m (KeyPlace k) = inl refl
counts-at g w w' s m (Word p i) = subst (λ (z : Pages). (page_spot w' (z.owners p) p (z.kinds p) i ≡ page_spot w (w.pages.owners p) p (w.pages.kinds p) i) ⊎ Moves g w (Word p i)) (sym s.pages)
    (counts-word g w w' (w.pages.owners p) p i (w.pages.kinds p) s (λ e. m p e))

-- TD_EPOCH: E alone, or O alone

epoch-may : (g : Grip) (t p : ℕ) (x y : Bool) → HoldsTd g t → g.sole (Locked (OfEpoch t)) ≡ true → MayAt g (control_spot t p (EpochCount x y)) moves
epoch-may g t p true y h s = inl (h.tdr, tt)
epoch-may g t p false true h s = inr (inr (inl (h.tdr, (h.op, (s, tt)))))
epoch-may g t p false false h s = inl (h.tdr, tt)

epoch-may-op : (g : Grip) (t p : ℕ) (x y : Bool) → g.has (Locked (OfPage t)) ≡ true → g.sole (Locked (OfOp t)) ≡ true → MayAt g (control_spot t p (EpochCount x y)) moves
epoch-may-op g t p true y h s = inl (h, tt)
epoch-may-op g t p false true h s = inr (inl (h, (s, tt)))
epoch-may-op g t p false false h s = inl (h, tt)

-- TD_EPOCH is set where the counts of either parity may be moved
epoch-set : (g : Grip) (w : World) (t e : ℕ) → ((p : ℕ) (x y : Bool) → MayAt g (control_spot t p (EpochCount x y)) moves) → Respects g w (set_epoch t e w)
epoch-set g w t e may = record {
  word = counts-at g w (set_epoch t e w) (record { pages = refl; ops = refl; controls = refl; entries = refl }) (λ p k. by (w.pages.owners p) p);
  slot = λ k. inl refl;
  life = λ u. inl refl;
}
  where
    by : (u p : ℕ) → CountsMay g w (set_epoch t e w) u p
    by u p b = by_test (u == t)
        (λ y. let is : u ≡ t = eqb-true u t y in inr (subst (λ (z : ℕ). MayAt g (control_spot z p (EpochCount (is_current w z b) (is_empty w z b))) moves) (sym is) (may p (is_current w t b) (is_empty w t b))))
        (λ n. inl (rw n refl, refl))

-- a life: P of the TDR page alone

life-may : (g : Grip) (t p : ℕ) (x y : Bool) → g.has (Locked (OfPage t)) ≡ true → g.sole (Locked (OfPage t)) ≡ true → MayAt g (control_spot t p (EpochCount x y)) moves
life-may g t p true y h s = inl (h, tt)
life-may g t p false true h s = inl (s, tt)
life-may g t p false false h s = inl (h, tt)

life-moved : (g : Grip) (w : World) (t : ℕ) (s : LifeState) → g.has (Locked (OfPage t)) ≡ true → g.sole (Locked (OfPage t)) ≡ true → Respects g w (set_life t s w)
life-moved g w t s h o = record {
  word = counts-at g w (set_life t s w) (record { pages = refl; ops = refl; controls = refl; entries = refl }) (λ p k. by (w.pages.owners p) p);
  slot = λ k. inl refl;
  life = λ u. by_test (u == t) (λ y. let is : u ≡ t = eqb-true u t y in inr (rw is o)) (λ n. inl (rw n refl));
}
  where
    by : (u p : ℕ) → CountsMay g w (set_life t s w) u p
    by u p b = by_test (u == t)
        (λ y. let is : u ≡ t = eqb-true u t y in inr (subst (λ (z : ℕ). MayAt g (control_spot z p (EpochCount (is_current w z b) (is_empty w z b))) moves) (sym is) (life-may g t p (is_current w t b) (is_empty w t b) h o)))
        (λ n. inl (refl, rw n refl))

-- a virtual processor leaves its guest: a count falls, and one that is 0 stays 0

fewer : (f : ℕ → Option ℕ) (v b : ℕ) (vs : List ℕ) → entered_of_parity b (put f v None) vs ≤ entered_of_parity b f vs
fewer f v b [] = omega arith
fewer f v b (x ∷ vs) = let k = fewer f v b vs in by_test (x == v) (λ y. rw y (omega (arith, k))) (λ n. rw n (omega (arith, k)))

-- one that enters at an epoch of another parity
no-more : (f : ℕ → Option ℕ) (v b e : ℕ) (vs : List ℕ) → (e % 2 == b) ≡ false → entered_of_parity b (put f v (Some e)) vs ≤ entered_of_parity b f vs
no-more f v b e [] n = omega arith
no-more f v b e (x ∷ vs) n = let k = no-more f v b e vs n in by_test (x == v) (λ y. rw (y, n) (omega (arith, k))) (λ m. rw m (omega (arith, k)))

elsewhere : (pages : Pages) (f : ℕ → Option ℕ) (u v b : ℕ) (new : Option ℕ) (vs : List ℕ) → ArePagesOf pages u kind.Tdvpr vs → (pages.owners v ≡ u → ⊥) → entered_of_parity b (put f v new) vs ≡ entered_of_parity b f vs
elsewhere pages f u v b new [] a bad = refl
elsewhere pages f u v b new (x ∷ vs) a bad =
    by_test (x == v)
    (λ y. absurd (bad (let is : x ≡ v = eqb-true x v y in subst (λ (z : ℕ). pages.owners z ≡ u) is a.0.owner)))
    (λ n. rw n (ap (λ (z : ℕ). one_of_parity b (f x) + z) (elsewhere pages f u v b new vs a.1 bad)))

pub at-end : (s : LifeState) → is_at_end s ≡ false → (life_number s == life_number life.Teardown) ≡ false
at-end life.HkidAssigned h = refl
at-end life.KeysConfigured h = refl
at-end life.Blocked h = refl
at-end life.Teardown h = cc

exit-may : (g : Grip) (t p : ℕ) (x : Bool) → g.has (Locked (OfPage t)) ≡ true → MayAt g (control_spot t p (EpochCount x false)) moves
exit-may g t p true h = inl (h, tt)
exit-may g t p false h = inl (h, tt)

or-right : (a b : Bool) → (a || b) ≡ true → a ≡ false → b ≡ true
or-right true b h n = cc
or-right false b h n = h

exit-moved : (g : Grip) (w : World) (m : Machine) (t v : ℕ) → Lawful m w → w.pages.owners v ≡ t → g.has (Locked (OfPage t)) ≡ true → Respects g w (leave_guest v w)
exit-moved g w m t v la own h = record {
  word = counts-at g w w' (record { pages = refl; ops = refl; controls = refl; entries = refl }) (λ p k. by (w.pages.owners p) p (la.pages.owner p (rw k refl)));
  slot = λ k. inl refl;
  life = λ u. inl refl;
}
  where
    w' : World
    w' = leave_guest v w

    -- of its own TD
    still : (b : ℕ) → is_empty w t b ≡ true → is_empty w' t b ≡ true
    still b e = by_test (is_at_end (w.tds.lives t)) (λ y. rw y refl) (λ n.
        let z : entered_of_parity b w.vps.entered (w.tds.vps t) ≡ 0 = eqb-true _ 0 (or-right (is_at_end (w.tds.lives t)) (entered_of_parity b w.vps.entered (w.tds.vps t) == 0) e n) in
        let k = fewer w.vps.entered v b (w.tds.vps t) in
        let y : entered_of_parity b (put w.vps.entered v None) (w.tds.vps t) ≡ 0 = omega (arith, k, z) in rw (n, y) refl)

    mine : (p b : ℕ) → ((is_current w' t b ≡ is_current w t b) × (is_empty w' t b ≡ is_empty w t b)) ⊎ MayAt g (control_spot t p (EpochCount (is_current w t b) (is_empty w t b))) moves
    mine p b = by_test (is_empty w t b)
        (λ y. inl (refl, still b y ∙ sym y))
        (λ n. inr (subst (λ (z : Bool). MayAt g (control_spot t p (EpochCount (is_current w t b) z)) moves) (sym n) (exit-may g t p (is_current w t b) h)))

    -- of another
    theirs : (u b : ℕ) → w.pages.kinds u ≡ kind.Tdr → (u == t) ≡ false → is_empty w' u b ≡ is_empty w u b
    theirs u b k n = by_test (is_at_end (w.tds.lives u)) (λ y. rw y refl) (λ e.
        rw e (ap (λ (z : ℕ). z == 0) (elsewhere w.pages w.vps.entered u v b None (w.tds.vps u) (la.tds.vps u (record { kind = k; life = at-end (w.tds.lives u) e }))
        (λ d. let yes : (u == t) ≡ true = eq-eqb u t (sym d ∙ own) in let bad : true ≡ false = sym yes ∙ n in cc))))

    by : (u p : ℕ) → w.pages.kinds u ≡ kind.Tdr → CountsMay g w w' u p
    by u p k b = by_test (u == t)
        (λ y. let is : u ≡ t = eqb-true u t y in
        subst (λ (z : ℕ). ((is_current w' z b ≡ is_current w z b) × (is_empty w' z b ≡ is_empty w z b)) ⊎ MayAt g (control_spot z p (EpochCount (is_current w z b) (is_empty w z b))) moves) (sym is) (mine p b))
        (λ n. inl (refl, theirs u b k n))

-- a virtual processor enters at TD_EPOCH
enter-moved : (g : Grip) (w : World) (m : Machine) (me t v : ℕ) → Lawful m w → w.pages.owners v ≡ t → g.has (Locked (OfPage t)) ≡ true → Respects g w (enter_guest me v (w.tds.epochs t) w)
enter-moved g w m me t v la own h = record {
  word = counts-at g w w' (record { pages = refl; ops = refl; controls = refl; entries = refl }) (λ p k. by (w.pages.owners p) p (la.pages.owner p (rw k refl)));
  slot = λ k. inl refl;
  life = λ u. inl refl;
}
  where
    w' : World
    w' = enter_guest me v (w.tds.epochs t) w

    still : (b : ℕ) → (w.tds.epochs t % 2 == b) ≡ false → is_empty w t b ≡ true → is_empty w' t b ≡ true
    still b c e = by_test (is_at_end (w.tds.lives t)) (λ y. rw y refl) (λ n.
        let z : entered_of_parity b w.vps.entered (w.tds.vps t) ≡ 0 = eqb-true _ 0 (or-right (is_at_end (w.tds.lives t)) (entered_of_parity b w.vps.entered (w.tds.vps t) == 0) e n) in
        let k = no-more w.vps.entered v b (w.tds.epochs t) (w.tds.vps t) c in
        let y : entered_of_parity b (put w.vps.entered v (Some (w.tds.epochs t))) (w.tds.vps t) ≡ 0 = omega (arith, k, z) in rw (n, y) refl)

    mine : (p b : ℕ) → ((is_current w' t b ≡ is_current w t b) × (is_empty w' t b ≡ is_empty w t b)) ⊎ MayAt g (control_spot t p (EpochCount (is_current w t b) (is_empty w t b))) moves
    mine p b = by_test (is_current w t b)
        (λ c. inr (subst (λ (z : Bool). MayAt g (control_spot t p (EpochCount z (is_empty w t b))) moves) (sym c) (inl (h, tt))))
        (λ c. by_test (is_empty w t b)
        (λ y. inl (refl, still b c y ∙ sym y))
        (λ n. inr (subst (λ (z : Bool). MayAt g (control_spot t p (EpochCount (is_current w t b) z)) moves) (sym n) (exit-may g t p (is_current w t b) h))))

    theirs : (u b : ℕ) → w.pages.kinds u ≡ kind.Tdr → (u == t) ≡ false → is_empty w' u b ≡ is_empty w u b
    theirs u b k n = by_test (is_at_end (w.tds.lives u)) (λ y. rw y refl) (λ e.
        rw e (ap (λ (z : ℕ). z == 0) (elsewhere w.pages w.vps.entered u v b (Some (w.tds.epochs t)) (w.tds.vps u) (la.tds.vps u (record { kind = k; life = at-end (w.tds.lives u) e }))
        (λ d. let yes : (u == t) ≡ true = eq-eqb u t (sym d ∙ own) in let bad : true ≡ false = sym yes ∙ n in cc))))

    by : (u p : ℕ) → w.pages.kinds u ≡ kind.Tdr → CountsMay g w w' u p
    by u p k b = by_test (u == t)
        (λ y. let is : u ≡ t = eqb-true u t y in
        subst (λ (z : ℕ). ((is_current w' z b ≡ is_current w z b) × (is_empty w' z b ≡ is_empty w z b)) ⊎ MayAt g (control_spot z p (EpochCount (is_current w z b) (is_empty w z b))) moves) (sym is) (mine p b))
        (λ n. inl (refl, theirs u b k n))

-- keys

pub all-same : (w w' : World) → w'.pages ≡ w.pages → ((t : ℕ) → SameTd w w' t) → SameWords w w'
all-same w w' e s = record { kinds = λ j. (e j).kinds; owners = λ j. (e j).owners; levels = λ j. (e j).levels; numbers = λ j. (e j).numbers; tds = s }

-- all that tells what words are, of every page and TD
pub record Spotted : Type 0 where
  pub kinds : ℕ → PageKind
  pub owners : ℕ → ℕ
  pub levels : ℕ → ℕ
  pub numbers : ℕ → ℕ
  pub lives : ℕ → LifeState
  pub ops : ℕ → OpState
  pub controls : ℕ → List ℕ
  pub epochs : ℕ → ℕ
  pub entries : ℕ → ℕ → ℕ → Entry
  pub vps : ℕ → List ℕ
  pub entered : ℕ → Option ℕ
  pub keys : ℕ → Option ℕ

abbrev pub spotted : World → Spotted
spotted w = record {
  kinds = w.pages.kinds;
  owners = w.pages.owners;
  levels = w.pages.levels;
  numbers = w.pages.numbers;
  lives = w.tds.lives;
  ops = w.tds.ops;
  controls = w.tds.controls;
  epochs = w.tds.epochs;
  entries = w.tds.entries;
  vps = w.tds.vps;
  entered = w.vps.entered;
  keys = λ h. key_owner (w.key_table.keys h);
}

-- an act that leaves all of that; and one behind another
pub leaves-all : (g : Grip) (w w' : World) → spotted w' ≡ spotted w → Respects g w w'
leaves-all g w w' e = leaves g w w'
    (record {
      kinds = ap (λ (z : Spotted). z.kinds) e;
      owners = ap (λ (z : Spotted). z.owners) e;
      levels = ap (λ (z : Spotted). z.levels) e;
      numbers = ap (λ (z : Spotted). z.numbers) e;
      tds = λ u. record {
        op = ap (λ (z : Spotted). z.ops u) e;
        controls = ap (λ (z : Spotted). z.controls u) e;
        epoch = ap (λ (z : Spotted). z.epochs u) e;
        empty = λ b. ap (λ (z : Spotted). is_at_end (z.lives u) || entered_of_parity b z.entered (z.vps u) == 0) e;
        named = λ n. ap (λ (z : Spotted). named_by (z.entries u 0 n)) e;
      };
    })
    (λ h. ap (λ (z : Spotted). z.keys h) e) (ap (λ (z : Spotted). z.lives) e)

pub then-leaves : (g : Grip) (w w1 w2 : World) → spotted w2 ≡ spotted w1 → Respects g w w1 → Respects g w w2
then-leaves g w w1 w2 e before = respects-compose.both g w w1 w2 before (leaves-all g w1 w2 e)

key-moved : (g : Grip) (w : World) (h : ℕ) (k : Key) → (key_owner k ≡ key_owner (w.key_table.keys h)) ⊎ MayAt g (slot_spot w h) moves → Respects g w (set_key h k w)
key-moved g w h k m = record {
  word = λ q. inl (words-same w (set_key h k w) (all-same w (set_key h k w) refl (λ u. record { op = refl; controls = refl; epoch = refl; empty = λ b. refl; named = λ n. refl })) q);
  slot = λ x. by_test (x == h) (λ y. let is : x ≡ h = eqb-true x h y in
      rw y (subst (λ (z : ℕ). (slot_of (key_owner k) ≡ slot_spot w z) ⊎ MayAt g (slot_spot w z) moves) (sym is) (here m))) (λ n. inl (rw n refl));
  life = λ u. inl refl;
}
  where
    here : (key_owner k ≡ key_owner (w.key_table.keys h)) ⊎ MayAt g (slot_spot w h) moves → (slot_of (key_owner k) ≡ slot_spot w h) ⊎ MayAt g (slot_spot w h) moves
    here (inl e) = inl (ap slot_of e)
    here (inr x) = inr x

pub effects-respect : EffectsRespect
effects-respect g w = record {
  leaves = λ after s. leaves g w after s.words s.keys s.lives;
  entry = entry-moved g w;
  entry_state = entry-state g w;
  page = page-moved g w;
  taken = λ p k t level number h s. page-moved g w p k t level number (λ i. host-moves g w p i (host_kind (w.pages.kinds p) h) s);
  op = op-moved g w;
  reclaimed = λ p k t level number h has alone own. page-moved g w p k t level number (λ i. owned-moves g w (w.pages.owners p) p has alone own (w.pages.kinds p) i h);
  epoch = λ t e h s. epoch-set g w t e (λ p x y. epoch-may g t p x y h s);
  epoch_op = λ t e h s. epoch-set g w t e (λ p x y. epoch-may-op g t p x y h s);
  life = life-moved g w;
  enter = λ m me t v. enter-moved g w m me t v;
  exit = λ m t v. exit-moved g w m t v;
  key = key-moved g w;
}
