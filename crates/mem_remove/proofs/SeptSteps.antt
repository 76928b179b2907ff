-- What is left of the tree of the call that removes a secure EPT page, step by step.
use Rattle.std.proofs.Common.{◌≡◌, ℕ, zero, suc, ◌+◌, ◌-◌, ◌*◌, ◌/◌, ◌<◌, ◌≤◌, Bool, true, false, if◌then◌else◌, List, [], ◌∷◌, ◌++◌, length, drop, Option, Some, None, Result, Ok, Err, refl, ap, sym, ◌∙◌, subst, arith}
use Rattle.td_words.specs.declared.refusals.Status.TheVariants.{SeptNotEmpty}
use Rattle.td_words.specs.declared.replies.Reply.TheVariants.{Refused}
use Rattle.td_words.specs.Address.{word_at}
use Rattle.td_words.specs.Place as place
use Rattle.flat_core.proofs.Tests.{by_test}
use Rattle.sept_walk.specs.SecureEpt.{index_at}
use Rattle.word_rules.specs.Rules.{Whole}
use Rattle.leaf_engine.specs.declared.needs.Need.TheVariants as need
use Rattle.leaf_engine.specs.declared.needs.Place.{Place}
use Rattle.leaf_engine.specs.declared.plans.Stop.{Stop}
use Rattle.leaf_engine.specs.Changes.{Change}
use Rattle.leaf_engine.specs.Decides.{Decides, Wants, Ending, need_for, told_then}
use Rattle.leaf_engine.specs.Trees.{Tree, Load, answers, needs, feed, fed, settle, passed, changes_of, changes_left}
use Rattle.leaf_parts.specs.Parts.{Uses}
use Rattle.leaf_engine.proofs.Decided.{feed-append, decided, decided-kept, decided-then, decided-changes, decided-none}
use Rattle.mem_remove.specs.declared.sept_removals.Table.{Table}
use Rattle.mem_remove.specs.RemoveTrees.{is_used, scan_tree, sept_remove_tree}
use Rattle.mem_remove.specs.RemoveStages.{table_rest, table_tree, scanned, rest_of, HasRoom, IsKnown, ComesTo}

nothing : (xs : List ℕ) → length xs ≡ 0 → xs ≡ []
nothing [] e = refl
nothing (x ∷ xs) e = cc

drop-none : (j : ℕ) → drop {A = Change} j [] ≡ []
drop-none zero = refl
drop-none (suc j) = refl

then-is : (b : Bool) (s t : Tree) → b ≡ true → (if b then s else t) ≡ s
then-is true s t e = refl
then-is false s t e = cc

else-is : (b : Bool) (s t : Tree) → b ≡ false → (if b then s else t) ≡ t
else-is true s t e = cc
else-is false s t e = refl

-- the entries of a page: the next one is asked for; it is used, or the one behind it is next; and all are told
module _ (pages page : ℕ) (f : Tree) where
  asks : (at left : ℕ) → 1 ≤ left → (k : ℕ → Tree) × (feed (scan_tree pages page at left f) [] ≡ Load Whole (place.Word page at) k)
  unfolding scan_tree
  asks at zero b = absurd (omega (arith, b))
  asks at (suc left) b = (λ word. if is_used pages word then needs false (SeptNotEmpty at) f else scan_tree pages page (suc at) left f, refl)

  used-next : (at left x : ℕ) → 1 ≤ left → is_used pages x ≡ true → feed (scan_tree pages page at left f) (x ∷ []) ≡ answers (Refused (SeptNotEmpty at))
  unfolding scan_tree
  used-next at zero x b y = absurd (omega (arith, b))
  used-next at (suc left) x b y = ap (λ (u : Tree). feed u []) (then-is (is_used pages x) (needs false (SeptNotEmpty at) f) (scan_tree pages page (suc at) left f) y)

  free-next : (at left left' x : ℕ) → left ≡ suc left' → is_used pages x ≡ false → feed (scan_tree pages page at left f) (x ∷ []) ≡ feed (scan_tree pages page (suc at) left' f) []
  unfolding scan_tree
  free-next at left left' x e n = subst (λ (z : ℕ). feed (scan_tree pages page at z f) (x ∷ []) ≡ feed (scan_tree pages page (suc at) left' f) []) (sym e) (ap (λ (u : Tree). feed u []) (else-is (is_used pages x) (needs false (SeptNotEmpty at) f) (scan_tree pages page (suc at) left' f) n))

  ends : (at : ℕ) (xs : List ℕ) → feed (scan_tree pages page at 0 f) xs ≡ feed f xs
  unfolding scan_tree
  ends at xs = refl

  bare : (at left : ℕ) (xs : List ℕ) → length xs < left → changes_of (feed (scan_tree pages page at left f) xs) ≡ []
  unfolding scan_tree
  bare at zero xs b = absurd (omega (arith, b))
  bare at (suc left) [] b = refl
  bare at (suc left) (x ∷ xs) b = by_test (is_used pages x)
      (λ y. ap (λ (u : Tree). changes_of (feed u xs)) (then-is (is_used pages x) (needs false (SeptNotEmpty at) f) (scan_tree pages page (suc at) left f) y))
      (λ n. ap (λ (u : Tree). changes_of (feed u xs)) (else-is (is_used pages x) (needs false (SeptNotEmpty at) f) (scan_tree pages page (suc at) left f) n) ∙ bare (suc at) left xs (omega (arith, b)))

-- behind the conditions
module _ (p : Place) (t gpa level : ℕ) (n : Table) (seen : ℕ) (told later : List ℕ) where
  abbrev pages : ℕ
  pages = p.machine.pages

  abbrev index : ℕ
  index = index_at level gpa

  abbrev f : Tree
  f = table_rest t (index_at level gpa) n

  abbrev left : Tree
  left = scanned p.machine.pages t (index_at level gpa) n seen None later

  -- an entry is still to be told
  module _ (few : seen < 512) (none : length later ≡ 0) where
    next-asked : (k : ℕ → Tree) × (left ≡ Load Whole (place.Word n.page seen) k)
    next-asked =
        let a = asks pages n.page f seen (512 - seen) (omega (arith, few)) in
        (a.0, ap (λ (xs : List ℕ). feed (scan_tree pages n.page seen (512 - seen) f) xs) (nothing later none) ∙ a.1)

    pub asks-gives : (at : ℕ) → at ≡ word_at n.page seen → Wants pages (settle left) (need.Load at)
    asks-gives at is = (let a = next-asked in subst (λ (u : Tree). Wants pages (settle u) (need.Load at)) (sym a.1) (ap need.Load is))

    pub asks-kept : left ≡ passed (settle left)
    asks-kept = (let a = next-asked in subst (λ (u : Tree). u ≡ passed (settle u)) (sym a.1) refl)

    pub asks-none : (j : ℕ) → changes_left left j ≡ []
    asks-none j = (let a = next-asked in subst (λ (u : Tree). changes_left u j ≡ []) (sym a.1) (drop-none j))

    pub used-told : (x : ℕ) → is_used pages x ≡ true → answers (Refused (SeptNotEmpty seen)) ≡ fed left x
    used-told x y =
        let e : later ≡ [] = nothing later none in
        subst (λ (xs : List ℕ). answers (Refused (SeptNotEmpty seen)) ≡ fed (feed (scan_tree pages n.page seen (512 - seen) f) xs) x) (sym e)
        (sym (feed-append (scan_tree pages n.page seen (512 - seen) f) [] (x ∷ []) ∙ used-next pages n.page f seen (512 - seen) x (omega (arith, few)) y))

    pub free-told : (x next : ℕ) → next ≡ seen + 1 → is_used pages x ≡ false → scanned pages t index n next None later ≡ fed left x
    free-told x next is y =
        let e : later ≡ [] = nothing later none in
        let more : suc seen ≡ next = omega (arith, is) in
        subst (λ (xs : List ℕ). feed (scan_tree pages n.page next (512 - next) f) xs ≡ fed (feed (scan_tree pages n.page seen (512 - seen) f) xs) x) (sym e)
        (subst (λ (z : ℕ). feed (scan_tree pages n.page z (512 - next) f) [] ≡ fed (feed (scan_tree pages n.page seen (512 - seen) f) []) x) more
        (sym (feed-append (scan_tree pages n.page seen (512 - seen) f) [] (x ∷ []) ∙ free-next pages n.page f seen (512 - seen) (512 - next) x (omega (arith, few, is)) y)))

  -- all are told, and were FREE
  module _ (all : seen ≡ 512) where
    at-end : left ≡ feed f later
    at-end =
        let none : 512 - seen ≡ 0 = omega (arith, all) in
        ap (λ (z : ℕ). feed (scan_tree pages n.page seen z f) later) none ∙ ends pages n.page f seen later

    pub end-gives : (r : Result Ending Stop) → Decides pages f later r → Wants pages (settle left) (need_for r)
    end-gives r d = subst (λ (u : Tree). Wants pages (settle u) (need_for r)) (sym at-end) (decided pages f later r d)

    pub end-kept : (v : Ending) → Decides pages f later (Ok v) → left ≡ passed (settle left)
    end-kept v d = subst (λ (u : Tree). u ≡ passed (settle u)) (sym at-end) (decided-kept pages f later v d)

    pub end-changes : (v : Ending) → Decides pages f later (Ok v) → changes_of left ≡ v.changes
    end-changes v d = subst (λ (u : Tree). changes_of u ≡ v.changes) (sym at-end) (decided-changes pages f later v d)

    pub end-none : (e : Stop) → Decides pages f later (Err e) → changes_of left ≡ []
    end-none e d = subst (λ (u : Tree). changes_of u ≡ []) (sym at-end) (decided-none pages f later e d)

-- one more entry is told
pub entry-told : (p : Place) (t gpa level : ℕ) (n : Table) (seen x : ℕ) (told later : List ℕ) → seen < 512 → length later ≡ 0
    → scanned p.machine.pages t (index_at level gpa) n (seen + 1) (if is_used p.machine.pages x then Some seen else None) later ≡ fed (scanned p.machine.pages t (index_at level gpa) n seen None later) x
entry-told p t gpa level n seen x told later few none = by_test (is_used p.machine.pages x)
    (λ y. rw y (used-told p t gpa level n seen told later few none x y))
    (λ f. rw f (free-told p t gpa level n seen told later few none x (seen + 1) refl f))

-- one more word behind the entries
pub word-told : (p : Place) (t gpa level : ℕ) (n : Table) (seen : ℕ) (later after : List ℕ) (x : ℕ) → seen ≡ 512 → after ≡ later ++ x ∷ []
    → scanned p.machine.pages t (index_at level gpa) n seen None after ≡ fed (scanned p.machine.pages t (index_at level gpa) n seen None later) x
word-told p t gpa level n seen later after x all is =
    let f = table_rest t (index_at level gpa) n in
    at-end p t gpa level n seen [] after all ∙ (ap (feed f) is ∙ (sym (feed-append f later (x ∷ [])) ∙ ap (λ (u : Tree). fed u x) (sym (at-end p t gpa level n seen [] later all))))

pub end-then : (p : Place) (t gpa level : ℕ) (n : Table) (seen : ℕ) (later after : List ℕ) (e : Stop) → seen ≡ 512 → Decides p.machine.pages (table_rest t (index_at level gpa) n) later (Err e) → after ≡ told_then later e
    → scanned p.machine.pages t (index_at level gpa) n seen None after ≡ passed (settle (scanned p.machine.pages t (index_at level gpa) n seen None later))
end-then p t gpa level n seen later after e all d is =
    let f = table_rest t (index_at level gpa) n in
    at-end p t gpa level n seen [] after all ∙ (ap (feed f) is ∙ (decided-then p.machine.pages f later e d ∙ ap (λ (u : Tree). passed (settle u)) (sym (at-end p t gpa level n seen [] later all))))

-- while the conditions are asked
module _ (p : Place) (t gpa level : ℕ) (told : List ℕ) where
  abbrev whole : Tree
  whole = sept_remove_tree p.machine t gpa level

  pub stop-gives : (e : Stop) → Decides p.machine.pages whole told (Err e) → Wants p.machine.pages (settle (feed whole told)) (need_for (Err e))
  stop-gives e d = decided p.machine.pages whole told (Err e) d

  pub stop-then : (e : Stop) (after : List ℕ) → Decides p.machine.pages whole told (Err e) → after ≡ told_then told e → feed whole after ≡ passed (settle (feed whole told))
  stop-then e after d is = ap (feed whole) is ∙ decided-then p.machine.pages whole told e d

  pub stop-none : (e : Stop) → Decides p.machine.pages whole told (Err e) → changes_of (feed whole told) ≡ []
  stop-none e d = decided-none p.machine.pages whole told e d

  pub answer-told : (x : ℕ) (after : List ℕ) → after ≡ told ++ x ∷ [] → feed whole after ≡ fed (feed whole told) x
  answer-told x after is = ap (feed whole) is ∙ sym (feed-append whole told (x ∷ []))

  -- the conditions hold, and the entry is known
  module _ (n : Table) (after : List ℕ) (comes : ComesTo p t gpa level told after (Ok n)) where
    abbrev entries : Tree
    entries = table_tree p.machine.pages t (index_at level gpa) n

    pub found-none : length after < 512 → changes_of (feed whole told) ≡ []
    found-none few = ap changes_of comes ∙ bare p.machine.pages n.page (table_rest t (index_at level gpa) n) 0 512 after few

    module _ (short : length after ≡ 0) where
      found : feed whole told ≡ feed entries []
      found = comes ∙ ap (feed entries) (nothing after short)

      pub found-gives : (at : ℕ) → at ≡ word_at n.page 0 → Wants p.machine.pages (settle (feed whole told)) (need.Load at)
      found-gives at is = subst (λ (u : Tree). Wants p.machine.pages (settle u) (need.Load at)) (sym found) (asks-gives p t gpa level n 0 told [] (omega arith) refl at is)

      pub found-kept : (seen : ℕ) (later : List ℕ) → seen ≡ 0 → length later ≡ 0 → scanned p.machine.pages t (index_at level gpa) n seen None later ≡ passed (settle (feed whole told))
      found-kept seen later none empty =
          let here : scanned p.machine.pages t (index_at level gpa) n seen None later ≡ scanned p.machine.pages t (index_at level gpa) n 0 None [] =
          ap (λ (z : ℕ). scanned p.machine.pages t (index_at level gpa) n z None later) none ∙ ap (λ (xs : List ℕ). scanned p.machine.pages t (index_at level gpa) n 0 None xs) (nothing later empty) in
          here ∙ subst (λ (u : Tree). scanned p.machine.pages t (index_at level gpa) n 0 None [] ≡ passed (settle u)) (sym found) (asks-kept p t gpa level n 0 told [] (omega arith) refl)

-- by what is known of the page
module _ (p : Place) (t gpa level : ℕ) (o : Option Table) (seen : ℕ) (u : Option ℕ) (told later : List ℕ) where
  abbrev here : Tree
  here = rest_of p t gpa level o seen u told later

  abbrev there : Table → Option ℕ → Tree
  there n v = scanned p.machine.pages t (index_at level gpa) n seen v later

  pub conditions-known : o ≡ None → IsKnown p.machine t level o seen u told later → (seen ≡ 0) × (u ≡ None) × (length later ≡ 0) × (length told ≤ 15 - level)
  conditions-known e known = subst (λ (x : Option Table). IsKnown p.machine t level x seen u told later) e known

  -- a word is told while the conditions are asked
  pub condition-told : (x : ℕ) (after : List ℕ) → o ≡ None → after ≡ told ++ x ∷ [] → rest_of p t gpa level o seen u after later ≡ fed here x
  condition-told x after e is = subst (λ (y : Option Table). rest_of p t gpa level y seen u after later ≡ fed (rest_of p t gpa level y seen u told later) x) (sym e) (answer-told p t gpa level told x after is)

  pub none-decided : (e : Stop) → o ≡ None → Decides p.machine.pages (sept_remove_tree p.machine t gpa level) told (Err e) → changes_of here ≡ []
  none-decided e none d = subst (λ (y : Option Table). changes_of (rest_of p t gpa level y seen u told later) ≡ []) (sym none) (stop-none p t gpa level told e d)

  pub none-scanned : (n : Table) (after : List ℕ) → o ≡ None → ComesTo p t gpa level told after (Ok n) → length after < 512 → changes_of here ≡ []
  none-scanned n after none comes few = subst (λ (y : Option Table). changes_of (rest_of p t gpa level y seen u told later) ≡ []) (sym none) (found-none p t gpa level told n after comes few)

  pub none-acts : (r : Result Table Stop) (after : List ℕ) → o ≡ None → IsKnown p.machine t level o seen u told later → ComesTo p t gpa level told after r → Uses (15 - level) told after r → changes_of here ≡ []
  none-acts (Ok n) after none known comes uses = (let k = conditions-known none known in let few : length told ≤ 15 - level = k.3 in none-scanned n after none comes (omega (arith, few, uses)))
  none-acts (Err e) after none known comes uses = none-decided e none comes

  pub condition-gives : (e : Stop) → o ≡ None → Decides p.machine.pages (sept_remove_tree p.machine t gpa level) told (Err e) → Wants p.machine.pages (settle here) (need_for (Err e))
  condition-gives e none d = subst (λ (y : Option Table). Wants p.machine.pages (settle (rest_of p t gpa level y seen u told later)) (need_for (Err e))) (sym none) (stop-gives p t gpa level told e d)

  pub condition-then : (e : Stop) (after : List ℕ) → o ≡ None → Decides p.machine.pages (sept_remove_tree p.machine t gpa level) told (Err e) → after ≡ told_then told e → rest_of p t gpa level o seen u after later ≡ passed (settle here)
  condition-then e after none d is = subst (λ (y : Option Table). rest_of p t gpa level y seen u after later ≡ passed (settle (rest_of p t gpa level y seen u told later))) (sym none) (stop-then p t gpa level told e after d is)

  -- the conditions hold
  module _ (n : Table) (after : List ℕ) (none : o ≡ None) (known : IsKnown p.machine t level o seen u told later) (comes : ComesTo p t gpa level told after (Ok n)) (uses : length told ≡ (15 - level) + length after) where
    k : (seen ≡ 0) × (u ≡ None) × (length later ≡ 0) × (length told ≤ 15 - level)
    k = conditions-known none known

    short : length after ≡ 0
    short = (let few : length told ≤ 15 - level = k.3 in omega (arith, few, uses))

    pub table-gives : (at : ℕ) → at ≡ word_at n.page 0 → Wants p.machine.pages (settle here) (need.Load at)
    table-gives at is = subst (λ (y : Option Table). Wants p.machine.pages (settle (rest_of p t gpa level y seen u told later)) (need.Load at)) (sym none) (found-gives p t gpa level told n after comes short at is)

    pub table-kept : rest_of p t gpa level (Some n) seen u told later ≡ passed (settle here)
    table-kept =
        subst (λ (y : Option Table). rest_of p t gpa level (Some n) seen u told later ≡ passed (settle (rest_of p t gpa level y seen u told later))) (sym none)
        (subst (λ (v : Option ℕ). scanned p.machine.pages t (index_at level gpa) n seen v later ≡ passed (settle (feed (sept_remove_tree p.machine t gpa level) told))) (sym k.1)
        (found-kept p t gpa level told n after comes short seen later k.0 k.2))

  -- the page is known
  module _ (n : Table) (some : o ≡ Some n) where
    pub table-known : IsKnown p.machine t level o seen u told later → IsKnown p.machine t level (Some n) seen u told later
    table-known known = subst (λ (x : Option Table). IsKnown p.machine t level x seen u told later) some known

    pub still-free : HasRoom level o u told later → u ≡ None
    still-free room = by u (subst (λ (x : Option Table). HasRoom level x u told later) some room)
      where
        by : (v : Option ℕ) → HasRoom level (Some n) v told later → v ≡ None
        by None h = refl
        by (Some i) h = absurd h

    pub no-later : IsKnown p.machine t level o seen u told later → seen < 512 → length later ≡ 0
    no-later known few = (let k = table-known known in let most : length later ≤ 4 * (seen / 512) = k.6 in omega (arith, most, few))

    -- an entry is told, and a word behind them all
    pub scan-told : (x : ℕ) (v : Option ℕ) → HasRoom level o u told later → IsKnown p.machine t level o seen u told later → seen < 512 → v ≡ (if is_used p.machine.pages x then Some seen else None) → rest_of p t gpa level o (seen + 1) v told later ≡ fed here x
    scan-told x v room known few is =
        subst (λ (y : Option Table). rest_of p t gpa level y (seen + 1) v told later ≡ fed (rest_of p t gpa level y seen u told later) x) (sym some)
        (subst (λ (z : Option ℕ). scanned p.machine.pages t (index_at level gpa) n (seen + 1) v later ≡ fed (there n z) x) (sym (still-free room))
        (subst (λ (z : Option ℕ). scanned p.machine.pages t (index_at level gpa) n (seen + 1) z later ≡ fed (there n None) x) (sym is)
        (entry-told p t gpa level n seen x told later few (no-later known few))))

    pub later-told : (x : ℕ) (after : List ℕ) → HasRoom level o u told later → seen ≡ 512 → after ≡ later ++ x ∷ [] → rest_of p t gpa level o seen u told after ≡ fed here x
    later-told x after room all is =
        subst (λ (y : Option Table). rest_of p t gpa level y seen u told after ≡ fed (rest_of p t gpa level y seen u told later) x) (sym some)
        (subst (λ (z : Option ℕ). scanned p.machine.pages t (index_at level gpa) n seen z after ≡ fed (there n z) x) (sym (still-free room))
        (word-told p t gpa level n seen later after x all is))

    -- the next entry is asked for
    module _ (unused : u ≡ None) where
      is-there : here ≡ there n None
      is-there = ap (λ (y : Option Table). rest_of p t gpa level y seen u told later) some ∙ ap (there n) unused

      pub scan-gives : (at : ℕ) → IsKnown p.machine t level o seen u told later → seen < 512 → at ≡ word_at n.page seen → Wants p.machine.pages (settle here) (need.Load at)
      scan-gives at known few is = subst (λ (z : Tree). Wants p.machine.pages (settle z) (need.Load at)) (sym is-there) (asks-gives p t gpa level n seen told later few (no-later known few) at is)

      pub scan-kept : IsKnown p.machine t level o seen u told later → seen < 512 → here ≡ passed (settle here)
      scan-kept known few = subst (λ (z : Tree). z ≡ passed (settle z)) (sym is-there) (asks-kept p t gpa level n seen told later few (no-later known few))

      pub all-gives : (r : Result Ending Stop) → seen ≡ 512 → Decides p.machine.pages (table_rest t (index_at level gpa) n) later r → Wants p.machine.pages (settle here) (need_for r)
      all-gives r all d = subst (λ (z : Tree). Wants p.machine.pages (settle z) (need_for r)) (sym is-there) (end-gives p t gpa level n seen told later all r d)

      pub all-kept : (v : Ending) → seen ≡ 512 → Decides p.machine.pages (table_rest t (index_at level gpa) n) later (Ok v) → here ≡ passed (settle here)
      all-kept v all d = subst (λ (z : Tree). z ≡ passed (settle z)) (sym is-there) (end-kept p t gpa level n seen told later all v d)

      pub all-then : (e : Stop) (after : List ℕ) → seen ≡ 512 → Decides p.machine.pages (table_rest t (index_at level gpa) n) later (Err e) → after ≡ told_then later e → rest_of p t gpa level o seen u told after ≡ passed (settle here)
      all-then e after all d is =
          ap (λ (y : Option Table). rest_of p t gpa level y seen u told after) some
          ∙ (ap (λ (z : Option ℕ). scanned p.machine.pages t (index_at level gpa) n seen z after) unused
          ∙ (end-then p t gpa level n seen later after e all d is
          ∙ ap (λ (z : Tree). passed (settle z)) (sym is-there)))

      pub scan-none : IsKnown p.machine t level o seen u told later → seen < 512 → changes_of here ≡ []
      scan-none known few = subst (λ (z : Tree). changes_of z ≡ []) (sym is-there) (asks-none p t gpa level n seen told later few (no-later known few) 0)

      pub all-changes : (v : Ending) → seen ≡ 512 → Decides p.machine.pages (table_rest t (index_at level gpa) n) later (Ok v) → changes_of here ≡ v.changes
      all-changes v all d = subst (λ (z : Tree). changes_of z ≡ v.changes) (sym is-there) (end-changes p t gpa level n seen told later all v d)

      pub all-none : (e : Stop) → seen ≡ 512 → Decides p.machine.pages (table_rest t (index_at level gpa) n) later (Err e) → changes_of here ≡ []
      all-none e all d = subst (λ (z : Tree). changes_of z ≡ []) (sym is-there) (end-none p t gpa level n seen told later all e d)
