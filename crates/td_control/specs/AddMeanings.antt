-- The leaf that adds a TDCX page means its row.
use Rattle.std.proofs.Common.{◌≡◌, ℕ, zero, suc, ◌+◌, ◌<◌, Bool, true, false, ◌==◌, nat_lt, ◌*◌, List, [], ◌∷◌, ◌++◌, length, slice_index, Some, refl, ap, sym, ◌∙◌, subst, inl, arith}
use Rattle.std.specs.List.{list_any}
use Rattle.std.specs.Prelude.{slice_get}
use Rattle.std.proofs.lemmas.Bool.{eq-eqb, eqb-true, ltb-true, lt-ltb, not-true}
use Rattle.std.proofs.lemmas.Bool.Decides.{nat_tests}
use Rattle.td_words.specs.declared.names.PageKind.TheVariants as kind
use Rattle.td_words.specs.declared.names.LifeState.TheVariants as life
use Rattle.td_words.specs.declared.names.Mode.TheVariants.{Exclusive}
use Rattle.td_words.specs.declared.calls.Call.TheVariants as call
use Rattle.td_words.specs.declared.machines.Machine.{Machine}
use Rattle.td_words.specs.declared.refusals.Status.TheVariants.{TdcxNumIncorrect}
use Rattle.td_words.specs.NameNumber.{life_number, op_number}
use Rattle.flat_core.specs.World.{World}
use Rattle.flat_core.specs.Processor.{LockId, OfPage, OfOp, OfTree, OfEpoch, OfRtmr, Held}
use Rattle.flat_core.specs.Conditions.{is_host, children, tdcx_room, page_exclusive, host_page}
use Rattle.flat_core.specs.Effects.{add_control}
use Rattle.flat_core.specs.Lawful.{Lawful, IsAlive, IsNew, AreControls}
use Rattle.flat_core.specs.TdRows.{add_tdcx}
use Rattle.flat_core.specs.Event.{State}
use Rattle.flat_core.proofs.Tests.{by_test}
use Rattle.word_rules.specs.Lines.{Line, At, in_lines}
use Rattle.word_rules.specs.Cells.{Shows, IsAs, control_cell, lock_word, td_lock_lines, tdcs_lines, entered_of_parity}
use Rattle.word_rules.specs.Views.{no_page}
use Rattle.word_rules.specs.Guards.{Grip, Locked, Meets}
use Rattle.word_rules.specs.Rules.{Class, TdrWord, Unused, KeepsNothing, writes, owes}
use Rattle.word_rules.specs.Permissions.{MayAt}
use Rattle.word_rules.specs.Spots.{guard_at, or_unused, control_class, root_class, tdr_classes, tdcs_classes, is_current, is_empty}
use Rattle.lock_words.specs.LockWords.{LocksStand, TdStands}
use Rattle.act_rules.proofs.Rows.{rows-respect}
use Rattle.leaf_engine.specs.declared.needs.Place.{Place}
use Rattle.leaf_engine.specs.Trees.{needs}
use Rattle.leaf_engine.specs.Means.{Instant, Means, MeansRow, Work, work_of, OfCall, hold}
use Rattle.leaf_parts.specs.Arguments.{two_pages}
use Rattle.leaf_parts.specs.ListTrees.{listed_tree}
use Rattle.leaf_parts.proofs.Acted.{opening}
use Rattle.leaf_parts.proofs.Aside.{turned, control-kept}
use Rattle.leaf_parts.proofs.Aside as other_pages
use Rattle.leaf_parts.proofs.Begun.{life-is, page_lock, holds-newest}
use Rattle.leaf_parts.proofs.Checks.{spot_of, at-tdr, tdr-row-means, tdr-load}
use Rattle.leaf_parts.proofs.Lines.{and, each-may, zeros}
use Rattle.leaf_parts.proofs.Listed.{Lists, ListActs, list-means}
use Rattle.leaf_parts.proofs.Told.{kind-is}
use Rattle.leaf_parts.proofs.Unheld.{unheld}
use Rattle.td_control.specs.AddTrees.{control_list, room_tree, add_task}

-- a TD that gets a TDCX page: at most one was there
pub data Before (cs : List ℕ) : Type 0 where
  NoneYet : cs ≡ [] → Before cs
  OneYet : (c : ℕ) → cs ≡ c ∷ [] → Before cs

few-before : (cs : List ℕ) → nat_lt (length cs) 2 ≡ true → Before cs
few-before [] h = NoneYet refl
few-before (c ∷ []) h = OneYet c refl
few-before (c ∷ r ∷ cs) h = absurd (grind (arith, nat_tests))

-- the lines of a TDR page as the next one is listed
abbrev lines : (life hkid children : ℕ) → List ℕ → List (Line ℕ)
lines a b n ds = At 0 a ∷ At 1 b ∷ At 2 n ∷ At 3 (length ds) ∷ At 4 (slice_index ds 0) ∷ At 5 (slice_index ds 1) ∷ []

named-line : (p a b n : ℕ) (ds : List ℕ) → Before ds → in_lines (lines a b n (ds ++ p ∷ [])) (4 + length ds) ≡ Some p
named-line p a b n ds (NoneYet e) = rw e refl
named-line p a b n ds (OneYet c e) = rw e refl

count-line : (p a b n : ℕ) (ds : List ℕ) → Before ds → in_lines (lines a b n (ds ++ p ∷ [])) 3 ≡ Some (length ds + 1)
count-line p a b n ds (NoneYet e) = rw e refl
count-line p a b n ds (OneYet c e) = rw e refl

other-line : (p a b n : ℕ) (ds : List ℕ) → Before ds → (i : ℕ) → (i == 3) ≡ false → (i == 4 + length ds) ≡ false → in_lines (lines a b n (ds ++ p ∷ [])) i ≡ in_lines (lines a b n ds) i
other-line p a b n ds (NoneYet e) i three o = (let four : (i == 4) ≡ false = rw e at o in rw (e, three, four) refl)
other-line p a b n ds (OneYet c e) i three o = (let five : (i == 5) ≡ false = rw e at o in rw (e, three, five) refl)

control-class : (n : ℕ) → n < 2 → or_unused (in_lines tdr_classes (4 + n)) ≡ TdrWord
control-class zero few = refl
control-class (suc zero) few = refl
control-class (suc (suc n)) few = absurd (omega (arith, few))

-- the words of the page that is added may still be stored
module _ (g : Grip) (t p : ℕ) (has : g.has (Locked (OfPage t)) ≡ true) (alone : g.sole (Locked (OfPage t)) ≡ true) (page : g.sole (Locked (OfPage p)) ≡ true) where
  abbrev May : Class → Type 0
  May c = Meets g (guard_at (record { class = c; td = t; page = p; named = no_page })) (owes c KeepsNothing)

  may-unused : May Unused
  may-unused = inl (has, (page, tt))

  may-tdcs : (i : ℕ) (current empty : ℕ → Bool) → May (or_unused (in_lines (tdcs_classes current empty) i))
  may-tdcs i current empty = each-may May (tdcs_classes current empty)
      (and (λ j. inl (alone, tt)) (and (inl (alone, tt)) (and (inl (alone, tt)) (and (λ j. inl (alone, tt)) (and (inl (alone, tt)) (and (inl (alone, tt)) (and (λ j. inl (alone, tt))
      (and (λ j. inl (alone, tt)) (and (λ j. inl (alone, tt)) (and (inl (alone, tt)) (and (λ j. inl (alone, tt)) (and (λ j. inl (alone, tt)) may-unused)))))))))))) i

  may-root : (rs : List ℕ) → May (root_class p rs)
  may-root [] = may-unused
  may-root (r ∷ rest) = by_test (r == p) (λ y. rw y (inl (alone, tt))) (λ n. rw n may-unused)

  may-control : (w : World) (ds : List ℕ) (i : ℕ) → May (control_class w t p ds i)
  may-control w [] i = may-unused
  may-control w (c ∷ rest) i = by_test (c == p) (λ y. rw y (may-tdcs i (is_current w t) (is_empty w t))) (λ n. rw n (may-root rest))

module _ (m : Machine) (c : Instant) (t p : ℕ) (in_tdr : t < m.pages) (in_page : p < m.pages) (apart : (p == t) ≡ false) (la : Lawful m c.state.world) (sh : Shows m c.memory.words c.memory.slots c.state) (stand : LocksStand c.state)
    (is : c.state.world.pages.kinds t ≡ kind.Tdr) (lives : list_any (λ a. life_number a == life_number (c.state.world.tds.lives t)) (life.KeysConfigured ∷ []) ≡ true) where
  abbrev s : State
  s = c.state

  abbrev w : World
  w = c.state.world

  abbrev k : Work
  k = work_of (OfCall (add_tdcx m t p))

  abbrev w' : World
  w' = k.act w

  -- the world once it is listed
  abbrev listed : World
  listed = add_control t p w

  abbrev cs : List ℕ
  cs = w.tds.controls t

  abbrev n : ℕ
  n = length cs

  abbrev locks : LockId → ℕ
  locks = lock_word s.lps s.lp_count

  abbrev held : List Held
  held = page_lock p Exclusive ∷ page_lock t Exclusive ∷ []

  abbrev g : Grip
  g = hold c held

  live : w.tds.lives t ≡ life.KeysConfigured
  live = life-is life.KeysConfigured (w.tds.lives t) lives

  own : w.pages.owners t ≡ t
  own = la.pages.tdr t is

  itself : (q : ℕ) → (q == q) ≡ true
  itself q = eq-eqb q q refl

  t-p : (t == p) ≡ false
  t-p = turned p t apart

  tdr-held : g.has (Locked (OfPage t)) ≡ true
  tdr-held = rw (apart, itself t) refl

  tdr-alone : g.sole (Locked (OfPage t)) ≡ true
  tdr-alone = rw (apart, itself t) refl

  page-alone : g.sole (Locked (OfPage p)) ≡ true
  page-alone = rw (itself p) refl

  module _ (room : nat_lt (length (c.state.world.tds.controls t)) 2 ≡ true) (host : is_host c.state.world p ≡ true) where
    before : Before cs
    before = few-before cs room

    few : n < 2
    few = ltb-true n 2 room

    nda : w.pages.kinds p ≡ kind.Nda
    nda = kind-is (w.pages.kinds p) kind.Nda host

    -- a control page of before
    more-controls : (q i : ℕ) → (p == q) ≡ false → (ds : List ℕ) → Before ds → control_cell listed locks t q (ds ++ p ∷ []) i ≡ control_cell w locks t q ds i
    more-controls q i o ds (NoneYet e) = rw (e, o) refl
    more-controls q i o ds (OneYet c e) = rw e (by_test (c == q) (λ y. rw y refl) (λ z. rw (z, o) refl))

    its-controls : (u q i : ℕ) → (q == p) ≡ false → control_cell listed locks u q (listed.tds.controls u) i ≡ control_cell w locks u q (w.tds.controls u) i
    its-controls u q i o = by_test (u == t)
        (λ y. (let is : u ≡ t = eqb-true u t y in rw (is, itself t) (more-controls q i (turned q p o) cs before)))
        (λ d. (control-kept {w = w} {w' = listed} {locks = locks} {u = u} {q = q} (rw d refl) (λ l e. refl) (λ f j. refl)).same i)

    -- the words of the page that is added
    alive : IsAlive w.pages w.tds t
    alive = record { kind = is; life = rw live refl }

    not-two : (length cs == 2) ≡ false
    not-two = by_test (length cs == 2) (λ y. (let two : length cs ≡ 2 = eqb-true (length cs) 2 y in let no : nat_lt 2 2 ≡ true = rw two at room in cc)) (λ o. o)

    new : IsNew w.tds w.hidden.rtmrs t
    new = la.beginnings.is_new t alive not-two

    gone : cs ≡ [] → TdStands w t → ⊥
    gone e h = (let no : (0 == 0) ≡ false = rw e at h.has_tdcs in cc)

    none-got : (ds : List ℕ) → ds ≡ [] → (j : ℕ) → IsAs (slice_get ds j) 0
    none-got ds e j = rw e tt

    tdcs-zero : cs ≡ [] → (i : ℕ) → IsAs (in_lines (td_lock_lines locks t (tdcs_lines w t)) i) 0
    tdcs-zero e = zeros (td_lock_lines locks t (tdcs_lines w t))
        (and (unheld s (OfOp t) stand (gone e)) (and (unheld s (OfTree t) stand (gone e)) (and (unheld s (OfEpoch t) stand (gone e)) (and (unheld s (OfRtmr t) stand (gone e))
        (and (ap op_number new.op) (and new.epoch (and (λ b. sym (ap (λ (vs : List ℕ). entered_of_parity b w.vps.entered vs) new.vps)) (and new.dirtied (and new.unrestored (and new.mig_epoch
        (and new.session (and new.td_exported (and new.vps_exported (and new.vps_expected (and (ap (λ (vs : List ℕ). length vs) new.vps)
        (and (λ k. sym (new.rtmr k)) (and (none-got (w.tds.vps t) new.vps) (and (ap (λ (ps : List ℕ). length ps) new.streams) (and (none-got (w.tds.streams t) new.streams) (and (λ k. sym (new.mrtd k)) tt))))))))))))))))))))

    first-apart : (c : ℕ) → cs ≡ c ∷ [] → (c == p) ≡ false
    first-apart c e = (let its = subst (λ (ds : List ℕ). AreControls w.pages t ds) e (la.tds.controls t alive) in other_pages.apart w.pages.kinds c p kind.Tdcx kind.Nda its.kind nda (λ o. cc))

    added-zero : (ds : List ℕ) → cs ≡ ds → Before ds → (i : ℕ) → IsAs (control_cell w' locks t p (ds ++ p ∷ []) i) 0
    added-zero ds from (NoneYet e) i = rw (e, itself p) (tdcs-zero (from ∙ e) i)
    added-zero ds from (OneYet c e) i = rw (e, first-apart c (from ∙ e), itself p, new.entries 3 (512 * 0 + i)) refl

    lists : Lists s (control_list t) t p n listed
    lists = record {
      off = t-p;
      apart = grind (arith, nat_tests);
      named = rw (is, own, itself t) (named-line p (life_number (w.tds.lives t)) (w.tds.hkids t) (children w t) cs before);
      more = rw (is, own, itself t) (count-line p (life_number (w.tds.lives t)) (w.tds.hkids t) (children w t) cs before);
      others = λ i a b. rw (is, own, itself t) (other-line p (life_number (w.tds.lives t)) (w.tds.hkids t) (children w t) cs before i a b);
      rest = λ q o d. record {
        words = λ i. refl;
        tdr = λ it i. (let other : (w.pages.owners q == t) ≡ false = ap (λ (u : ℕ). u == t) (la.pages.tdr q it) ∙ d in rw other refl);
        owned = λ h. record { stands = λ z. z; level = refl; number = refl; entries = λ l e. refl; vp = λ i. refl; stream = λ i. refl; control = λ it z. record { same = λ i. its-controls (w.pages.owners q) q i o } };
      };
      new = λ i. rw (live, itself t) (added-zero cs refl before i);
    }

    acts : ListActs c (control_list t) t p n listed held
    acts = record {
      lists = lists;
      names = at-tdr g w t (4 + n) (λ z. writes z KeepsNothing) is own (subst (λ (j : Class). MayAt g (spot_of j t t) (λ z. writes z KeepsNothing)) (sym (control-class n few)) (inl (tdr-alone, tt)));
      counts = at-tdr g w' t 3 (λ z. owes z KeepsNothing) (rw t-p is) (rw t-p own) (inl (tdr-alone, tt));
      page = λ i. rw (itself p) (may-control g t p tdr-held tdr-alone page-alone w' (w'.tds.controls t) i);
      respects = rows-respect (opening m) 0 (call.MngAddcx t p) g w la (lt-ltb t m.pages in_tdr, (lt-ltb p m.pages in_page, (rw apart refl, (rw is refl, (lives, (room, (host, tt)))))))
          ((tdr-held, tdr-alone), ((holds-newest p Exclusive (page_lock t Exclusive ∷ c.kept), page-alone), tt));
      locks_stay = ((refl, λ z. z), ((refl, λ z. z), tt));
    }

  paged : nat_lt (length (c.state.world.tds.controls t)) 2 ≡ true → Means m c k (page_lock t Exclusive ∷ []) (listed_tree (control_list t) m.pages t p n) (page_exclusive p ∷ host_page w p ∷ [])
  paged room =
      let few : n < 2 = ltb-true n 2 room in
      list-means m c (control_list t) t p n listed la sh is refl in_tdr in_page (record { control = in_tdr; listed = omega (arith, few); total = omega arith; told = tt }) (add_tdcx m t p) (page_lock t Exclusive ∷ []) refl
      (record { reply_is = refl; cached_is = refl; enters_is = refl; notes_are = refl; tells_are = refl; bundles_are = refl }) (inl (tdr-alone, tt)) (acts room)

  -- the number there is
  room-means : Means m c k (page_lock t Exclusive ∷ []) (room_tree m.pages t p) (tdcx_room w t ∷ page_exclusive p ∷ host_page w p ∷ [])
  room-means =
      tdr-load m c k (page_lock t Exclusive ∷ []) sh t 3 n is own in_tdr (omega arith) refl (inl (holds-newest t Exclusive c.kept, tt)) (λ count. needs (nat_lt count 2) (TdcxNumIncorrect 2) (listed_tree (control_list t) m.pages t p count)) (tdcx_room w t ∷ page_exclusive p ∷ host_page w p ∷ [])
      (refl, λ e. refl, paged)

pub add-means : (p : Place) (t page : ℕ) → MeansRow (add_task p t page)
add-means p t page = record {
  means = λ c at.
      (let m : Machine = p.machine in
      tdr-row-means m c (work_of (OfCall (add_tdcx m t page))) t at.lawful at.shown (two_pages m t page) (λ a. ltb-true t m.pages a.0) (life.KeysConfigured ∷ [])
      (room_tree m.pages t page) (tdcx_room c.state.world t ∷ page_exclusive page ∷ host_page c.state.world page ∷ [])
      (λ a is lives. room-means m c t page (ltb-true t m.pages a.0) (ltb-true page m.pages a.1.0) (not-true (page == t) a.1.1.0) at.lawful at.shown at.facts.stand is lives));
}
