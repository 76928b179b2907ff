-- Words that show a state but for what stands in one page, which is being taken, given back or stored to; and what an act
-- keeps of the other pages.
use Rattle.std.proofs.Common.{◌≡◌, ℕ, zero, suc, ◌+◌, ◌-◌, ◌*◌, ◌<◌, ◌≤◌, Bool, true, false, ◌==◌, List, [], ◌∷◌, Option, Some, refl, ap, sym, ◌∙◌, subst, arith}
use Rattle.std.proofs.lemmas.Bool.{eq-eqb, eqb-true, ne_eqb}
use Rattle.td_words.specs.declared.names.PageKind.{PageKind}
use Rattle.td_words.specs.declared.names.PageKind.TheVariants as kind
use Rattle.td_words.specs.declared.names.LifeState.{LifeState}
use Rattle.td_words.specs.declared.names.LifeState.TheVariants as life
use Rattle.td_words.specs.declared.machines.Machine.{Machine}
use Rattle.td_words.specs.declared.places.TheConstants.{TDR_CHILDREN}
use Rattle.td_words.specs.NameNumber.{life_number}
use Rattle.td_words.specs.Packing.{Entry, Key, pamt_word, entry_word, key_word}
use Rattle.td_words.specs.Place.{WordPlace, IsIn}
use Rattle.td_words.specs.Place as place
use Rattle.flat_core.specs.World.{World}
use Rattle.flat_core.specs.Processor.{LockId, OfKeys}
use Rattle.flat_core.specs.Conditions.{same_kind, is_host, is_host_in, children}
use Rattle.flat_core.specs.Effects.{take_node, set_key, set_life}
use Rattle.flat_core.specs.Lawful.{LawfulPages}
use Rattle.flat_core.specs.Event.{State}
use Rattle.flat_core.proofs.Tests.{by_test, host_kind}
use Rattle.word_rules.specs.Lines.{in_lines}
use Rattle.word_rules.specs.Cells.{IsAs, cell, page_cell, entry_cell, root_cell, control_cell, tdr_lines, td_lock_lines, tdcs_lines, vp_lines, stream_lines, if_stands, lock_word}
use Rattle.lock_words.specs.LockWords.{put_word}
use Rattle.leaf_parts.specs.Words.{raised, lowered}
use Rattle.leaf_parts.proofs.Keys.{key-changed}
use Rattle.leaf_parts.proofs.Owned.{counted-host, counted-other, owned-taken, owned-given, owned-same, raised-is}

-- pages of two kinds are two pages
pub apart : (kinds : ℕ → PageKind) (p q : ℕ) (j k : PageKind) → kinds p ≡ j → kinds q ≡ k → (j ≡ k → ⊥) → (p == q) ≡ false
apart kinds p q j k a b differ = ne_eqb p q (λ e. differ (sym a ∙ (ap kinds e ∙ b)))

pub turned : (a b : ℕ) → (a == b) ≡ false → (b == a) ≡ false
turned a b n = ne_eqb b a (λ e. (let no : true ≡ false = sym (eq-eqb a b (sym e)) ∙ n in cc))

-- all words are what they show, and all that don't stand in that page
abbrev pub AllShown : Machine → (WordPlace → ℕ) → State → Type 0
AllShown m words s = (q : WordPlace) → IsIn m q → IsAs (cell s q) (words q)

abbrev pub IsOff : ℕ → WordPlace → Type 0
IsOff p (place.Word q i) = (q == p) ≡ false
IsOff p _ = Unit {0}

pub record ShowsBut (p : ℕ) (m : Machine) (words : WordPlace → ℕ) (s : State) : Type 0 where
  pub word : (q : WordPlace) → IsIn m q → IsOff p q → IsAs (cell s q) (words q)

pub aside : (p : ℕ) (m : Machine) (words : WordPlace → ℕ) (s : State) → AllShown m words s → ShowsBut p m words s
aside p m words s sh = record { word = λ q b o. sh q b }

-- Other words that are the same off the page; and the page again, once each word of it is what it shows.
module _ {p : ℕ} {m : Machine} {words : WordPlace → ℕ} {s : State} (sh : ShowsBut p m words s) (words' : WordPlace → ℕ) (lock : (r : ℕ) → words' (place.Lock r) ≡ words (place.Lock r)) (pamt : (r : ℕ) → words' (place.Pamt r) ≡ words (place.Pamt r))
    (key : (k : ℕ) → words' (place.Key k) ≡ words (place.Key k)) (other : (r i : ℕ) → (r == p) ≡ false → words' (place.Word r i) ≡ words (place.Word r i)) where
  same : (q : WordPlace) → IsOff p q → words' q ≡ words q
  same (place.Lock r) o = lock r
  same (place.Pamt r) o = pamt r
  same (place.Key k) o = key k
  same (place.Word r i) o = other r i o

  pub with-words : ShowsBut p m words' s
  with-words = record { word = λ q b o. subst (λ (v : ℕ). IsAs (cell s q) v) (sym (same q o)) (sh.word q b o) }

  pub back : ((i : ℕ) → i < 512 → IsAs (cell s (place.Word p i)) (words' (place.Word p i))) → AllShown m words' s
  back its (place.Lock q) b = with-words.word (place.Lock q) b tt
  back its (place.Pamt q) b = with-words.word (place.Pamt q) b tt
  back its (place.Key k) b = with-words.word (place.Key k) b tt
  back its (place.Word q i) b = by_test (q == p)
      (λ e. subst (λ (x : ℕ). IsAs (cell s (place.Word x i)) (words' (place.Word x i))) (sym (eqb-true q p e)) (its i b.1))
      (λ n. with-words.word (place.Word q i) b n)

-- what words tell of a TDCX page
pub record KeepsControl (w w' : World) (locks : LockId → ℕ) (u q : ℕ) : Type 0 where
  pub same : (i : ℕ) → control_cell w' locks u q (w'.tds.controls u) i ≡ control_cell w locks u q (w.tds.controls u) i

-- of a TD's page besides its TDR, as far as the TD stands
pub record KeepsOwned (w w' : World) (locks : LockId → ℕ) (u q : ℕ) : Type 0 where
  pub stands : (life_number (w'.tds.lives u) == life_number life.Teardown) ≡ false → (life_number (w.tds.lives u) == life_number life.Teardown) ≡ false
  pub level : w'.pages.levels q ≡ w.pages.levels q
  pub number : w'.pages.numbers q ≡ w.pages.numbers q
  pub entries : (l n : ℕ) → w'.tds.entries u l n ≡ w.tds.entries u l n
  pub vp : (i : ℕ) → in_lines (vp_lines w' q) i ≡ in_lines (vp_lines w q) i
  pub stream : (i : ℕ) → in_lines (stream_lines w' q) i ≡ in_lines (stream_lines w q) i
  pub control : w.pages.kinds q ≡ kind.Tdcx → (life_number (w.tds.lives u) == life_number life.Teardown) ≡ false → KeepsControl w w' locks u q

-- and of any page
pub record KeepsPage (w w' : World) (locks : LockId → ℕ) (u q : ℕ) : Type 0 where
  pub words : (i : ℕ) → w'.words q i ≡ w.words q i
  pub tdr : w.pages.kinds q ≡ kind.Tdr → (i : ℕ) → in_lines (tdr_lines w' u) i ≡ in_lines (tdr_lines w u) i
  pub owned : is_host_in w.pages q ≡ false → KeepsOwned w w' locks u q

-- a control page stays, where TDCS and the entries of the root do
abbrev pub is_first : List ℕ → ℕ → Bool
is_first [] q = false
is_first (c ∷ rest) q = c == q

module _ (w w' : World) (locks : LockId → ℕ) (u q : ℕ) (entries : (l n : ℕ) → w'.tds.entries u l n ≡ w.tds.entries u l n) where
  entry-kept : (l n i : ℕ) → entry_cell w' u l n i ≡ entry_cell w u l n i
  entry-kept zero n i = refl
  entry-kept (suc l) n i = ap (λ (e : Entry). Some (entry_word e)) (entries l (512 * n + i))

  root-kept : (i : ℕ) (cs : List ℕ) → root_cell w' u q cs i ≡ root_cell w u q cs i
  root-kept i [] = refl
  root-kept i (r ∷ rest) = by_test (r == q) (λ y. rw y (entry-kept 4 0 i)) (λ n. rw n refl)

  pub listed-kept : (i : ℕ) (cs : List ℕ) → (is_first cs q ≡ true → in_lines (td_lock_lines locks u (tdcs_lines w' u)) i ≡ in_lines (td_lock_lines locks u (tdcs_lines w u)) i)
      → control_cell w' locks u q cs i ≡ control_cell w locks u q cs i
  listed-kept i [] f = refl
  listed-kept i (c ∷ rest) f = by_test (c == q) (λ y. rw y (f y)) (λ n. rw n (root-kept i rest))

pub control-kept : {w w' : World} {locks : LockId → ℕ} {u q : ℕ} → w'.tds.controls u ≡ w.tds.controls u → ((l n : ℕ) → w'.tds.entries u l n ≡ w.tds.entries u l n)
    → (is_first (w.tds.controls u) q ≡ true → (i : ℕ) → in_lines (td_lock_lines locks u (tdcs_lines w' u)) i ≡ in_lines (td_lock_lines locks u (tdcs_lines w u)) i) → KeepsControl w w' locks u q
control-kept {w = w} {w' = w'} {locks = locks} {u = u} {q = q} list entries f = record {
  same = λ i. subst (λ (cs : List ℕ). control_cell w' locks u q cs i ≡ control_cell w locks u q (w.tds.controls u) i) (sym list) (listed-kept w w' locks u q entries i (w.tds.controls u) (λ y. f y i));
}

-- but for the TDCS of one TD, in another page
pub tdcs-but : {w w' : World} {locks : LockId → ℕ} {u q : ℕ} → w'.tds.controls u ≡ w.tds.controls u → ((l n : ℕ) → w'.tds.entries u l n ≡ w.tds.entries u l n) → (t d : ℕ) (rest : List ℕ) → w.tds.controls t ≡ d ∷ rest → (q == d) ≡ false
    → ((u == t) ≡ false → (i : ℕ) → in_lines (td_lock_lines locks u (tdcs_lines w' u)) i ≡ in_lines (td_lock_lines locks u (tdcs_lines w u)) i) → KeepsControl w w' locks u q
tdcs-but {w = w} {w' = w'} {locks = locks} {u = u} {q = q} list entries t d rest its off f = control-kept {w = w} {w' = w'} {locks = locks} {u = u} {q = q} list entries (λ first. by_test (u == t)
    (λ y. absurd (let here : (d == q) ≡ true = subst (λ (cs : List ℕ). is_first cs q ≡ true) (ap w.tds.controls (eqb-true u t y) ∙ its) first in
    let no : true ≡ false = sym (eq-eqb q d (sym (eqb-true d q here))) ∙ off in cc))
    (λ n. f n))

module _ (s : State) (w' : World) (q i v : ℕ) (k : KeepsPage s.world w' (lock_word s.lps s.lp_count) (s.world.pages.owners q) q) where
  abbrev locks : LockId → ℕ
  locks = lock_word s.lps s.lp_count

  abbrev u : ℕ
  u = s.world.pages.owners q

  abbrev w : World
  w = s.world

  if-kept : (c c' : Option ℕ) → ((life_number (w'.tds.lives u) == life_number life.Teardown) ≡ false → (life_number (w.tds.lives u) == life_number life.Teardown) ≡ false) → ((life_number (w.tds.lives u) == life_number life.Teardown) ≡ false → c' ≡ c)
      → IsAs (if_stands (w.tds.lives u) c) v → IsAs (if_stands (w'.tds.lives u) c') v
  if-kept c c' stands f a = by_test (life_number (w'.tds.lives u) == life_number life.Teardown)
      (λ y. rw y tt)
      (λ n. rw n (subst (λ (o : Option ℕ). IsAs o v) (sym (f (stands n))) (rw (stands n) at a)))

  -- by what the page is
  as-kept : (j : PageKind) → w.pages.kinds q ≡ j → IsAs (page_cell w locks u q j i) v → IsAs (page_cell w' locks u q j i) v
  as-kept kind.Nda is a = rw (k.words i) a
  as-kept kind.Reg is a = rw (k.words i) a
  as-kept kind.Tdr is a = subst (λ (o : Option ℕ). IsAs o v) (sym (k.tdr is i)) a
  as-kept kind.Tdcx is a = (let o = k.owned (rw is refl) in if-kept (control_cell w locks u q (w.tds.controls u) i) (control_cell w' locks u q (w'.tds.controls u) i) o.stands (λ n. (o.control is n).same i) a)
  as-kept kind.Tdvpr is a = (let o = k.owned (rw is refl) in if-kept (in_lines (vp_lines w q) i) (in_lines (vp_lines w' q) i) o.stands (λ n. o.vp i) a)
  as-kept kind.Ept is a = (let o = k.owned (rw is refl) in if-kept (entry_cell w u (w.pages.levels q) (w.pages.numbers q) i) (entry_cell w' u (w'.pages.levels q) (w'.pages.numbers q) i) o.stands (λ n. node-kept o (w.pages.levels q) (w.pages.numbers q) refl refl) a)
    where
      node-kept : KeepsOwned w w' locks u q → (l n : ℕ) → w.pages.levels q ≡ l → w.pages.numbers q ≡ n → entry_cell w' u (w'.pages.levels q) (w'.pages.numbers q) i ≡ entry_cell w u l n i
      node-kept o zero n a b = rw (o.level, a) refl
      node-kept o (suc l) n a b = rw (o.level, a, o.number, b) (ap (λ (e : Entry). Some (entry_word e)) (o.entries l (512 * n + i)))
  as-kept kind.Migsc is a = (let o = k.owned (rw is refl) in if-kept (in_lines (stream_lines w q) i) (in_lines (stream_lines w' q) i) o.stands (λ n. o.stream i) a)

  pub page-kept : w'.pages.kinds q ≡ w.pages.kinds q → w'.pages.owners q ≡ u → IsAs (cell s (place.Word q i)) v → IsAs (cell (record s { world = w' }) (place.Word q i)) v
  page-kept kinds owners a =
      subst (λ (x : ℕ). IsAs (page_cell w' locks x q (w'.pages.kinds q) i) v) (sym owners)
      (subst (λ (j : PageKind). IsAs (page_cell w' locks u q j i) v) (sym kinds) (as-kept (w.pages.kinds q) refl a))

-- An act that neither gives nor takes a page, and keeps all pages but these two.
pub record KeepsRest (s : State) (w' : World) (p d : ℕ) : Type 0 where
  pub kinds : w'.pages.kinds ≡ s.world.pages.kinds
  pub owners : w'.pages.owners ≡ s.world.pages.owners
  pub blocked : w'.pages.blocked ≡ s.world.pages.blocked
  pub key_table : w'.key_table ≡ s.world.key_table
  pub page : (q : ℕ) → (q == p) ≡ false → (q == d) ≡ false → KeepsPage s.world w' (lock_word s.lps s.lp_count) (s.world.pages.owners q) q

module _ {p : ℕ} {m : Machine} {words : WordPlace → ℕ} {s : State} (w' : World) (sh : ShowsBut p m words s) where
  kept-word : (d : ℕ) → KeepsRest s w' p d → (q i : ℕ) → IsIn m (place.Word q i) → (q == p) ≡ false → (q == d) ≡ false → IsAs (cell (record s { world = w' }) (place.Word q i)) (words (place.Word q i))
  kept-word d x q i b o n = page-kept s w' q i (words (place.Word q i)) (x.page q o n) (ap (λ (f : ℕ → PageKind). f q) (x.kinds)) (ap (λ (f : ℕ → ℕ). f q) (x.owners)) (sh.word (place.Word q i) b o)

  kept-pamt : (d : ℕ) → KeepsRest s w' p d → (q : ℕ) → IsIn m (place.Pamt q) → IsAs (cell (record s { world = w' }) (place.Pamt q)) (words (place.Pamt q))
  kept-pamt d x q b = rw (x.kinds, x.owners, x.blocked) (sh.word (place.Pamt q) b tt)

  pub kept-but : KeepsRest s w' p p → ShowsBut p m words (record s { world = w' })
  kept-but x = record { word = at }
    where
      at : (q : WordPlace) → IsIn m q → IsOff p q → IsAs (cell (record s { world = w' }) q) (words q)
      at (place.Lock q) b o = sh.word (place.Lock q) b tt
      at (place.Pamt q) b o = kept-pamt p x q b
      at (place.Key k) b o = rw (x.key_table) (sh.word (place.Key k) b tt)
      at (place.Word q i) b o = kept-word p x q i b o o

  -- another page is stored to as well
  pub page-put : (d : ℕ) (words' : WordPlace → ℕ) → KeepsRest s w' p d → ((r : ℕ) → words' (place.Lock r) ≡ words (place.Lock r)) → ((r : ℕ) → words' (place.Pamt r) ≡ words (place.Pamt r)) → ((k : ℕ) → words' (place.Key k) ≡ words (place.Key k))
      → ((r i : ℕ) → (r == d) ≡ false → words' (place.Word r i) ≡ words (place.Word r i)) → ((i : ℕ) → IsIn m (place.Word d i) → IsAs (cell (record s { world = w' }) (place.Word d i)) (words' (place.Word d i)))
      → ShowsBut p m words' (record s { world = w' })
  page-put d words' x lock pamt key other its = record { word = at }
    where
      at : (q : WordPlace) → IsIn m q → IsOff p q → IsAs (cell (record s { world = w' }) q) (words' q)
      at (place.Lock q) b o = rw (lock q) (sh.word (place.Lock q) b tt)
      at (place.Pamt q) b o = subst (λ (v : ℕ). IsAs (cell (record s { world = w' }) (place.Pamt q)) v) (sym (pamt q)) (kept-pamt d x q b)
      at (place.Key k) b o = rw (x.key_table, key k) (sh.word (place.Key k) b tt)
      at (place.Word q i) b o = by_test (q == d)
          (λ y. subst (λ (r : ℕ). IsIn m (place.Word r i) → IsAs (cell (record s { world = w' }) (place.Word r i)) (words' (place.Word r i))) (sym (eqb-true q d y)) (its i) b)
          (λ n. subst (λ (v : ℕ). IsAs (cell (record s { world = w' }) (place.Word q i)) v) (sym (other q i n)) (kept-word d x q i b o n))

-- an act that keeps the words of all pages
pub all-kept : (m : Machine) (words : WordPlace → ℕ) (s : State) (w' : World) → AllShown m words s → w'.pages.kinds ≡ s.world.pages.kinds → w'.pages.owners ≡ s.world.pages.owners → w'.pages.blocked ≡ s.world.pages.blocked → w'.key_table ≡ s.world.key_table
    → ((q : ℕ) → KeepsPage s.world w' (lock_word s.lps s.lp_count) (s.world.pages.owners q) q) → AllShown m words (record s { world = w' })
all-kept m words s w' sh kinds owners blocked table page (place.Lock q) b = sh (place.Lock q) b
all-kept m words s w' sh kinds owners blocked table page (place.Pamt q) b = rw (kinds, owners, blocked) (sh (place.Pamt q) b)
all-kept m words s w' sh kinds owners blocked table page (place.Key k) b = rw table (sh (place.Key k) b)
all-kept m words s w' sh kinds owners blocked table page (place.Word q i) b = page-kept s w' q i (words (place.Word q i)) (page q) (ap (λ (f : ℕ → PageKind). f q) kinds) (ap (λ (f : ℕ → ℕ). f q) owners) (sh (place.Word q i) b)

-- The words of the page itself are other ones.
pub words-but : {p : ℕ} {m : Machine} {words : WordPlace → ℕ} {s : State} → ShowsBut p m words s → (content : ℕ → ℕ → ℕ) → ((q i : ℕ) → (q == p) ≡ false → content q i ≡ s.world.words q i) → ShowsBut p m words (record s { world = record (s.world) { words = content } })
words-but {p = p} {m = m} {words = words} {s = s} sh content same = kept-but (record (s.world) { words = content }) sh (record {
  kinds = refl;
  owners = refl;
  blocked = refl;
  key_table = refl;
  page = λ q o n. record {
    words = λ i. same q i o;
    tdr = λ is i. refl;
    owned = λ h. record { stands = λ z. z; level = refl; number = refl; entries = λ l e. refl; vp = λ i. refl; stream = λ i. refl; control = λ is z. control-kept refl (λ l e. refl) (λ f i. refl) };
  };
})

-- No word tells what a TD's guest has in memory, or what is measured so far.
pub untold : (m : Machine) (words : WordPlace → ℕ) (s : State) (measured : ℕ → List ℕ) (memories : ℕ → ℕ → Option (ℕ → ℕ)) → AllShown m words s
    → AllShown m words (record s { world = record (s.world) { tds = record (s.world.tds) { measured = measured }; hidden = record (s.world.hidden) { memories = memories } } })
untold m words s measured memories sh =
    all-kept m words s (record (s.world) { tds = record (s.world.tds) { measured = measured }; hidden = record (s.world.hidden) { memories = memories } }) sh refl refl refl refl (λ q. record {
      words = λ i. refl;
      tdr = λ is i. refl;
      owned = λ h. record { stands = λ z. z; level = refl; number = refl; entries = λ l e. refl; vp = λ i. refl; stream = λ i. refl; control = λ is z. control-kept refl (λ l e. refl) (λ f i. refl) };
    })

-- The life state of a TD whose TDR page is set aside is another one, in which it stands only if it stood.
pub life-but : {t : ℕ} {m : Machine} {words : WordPlace → ℕ} {s : State} → ShowsBut t m words s → (next : LifeState) → LawfulPages m.pages s.world.pages → ((life_number next == life_number life.Teardown) ≡ false → (life_number (s.world.tds.lives t) == life_number life.Teardown) ≡ false)
    → ShowsBut t m words (record s { world = set_life t next s.world })
life-but {t = t} {m = m} {words = words} {s = s} sh next lawful stood = kept-but (set_life t next s.world) sh (record {
  kinds = refl;
  owners = refl;
  blocked = refl;
  key_table = refl;
  page = λ q o n. record {
    words = λ i. refl;
    tdr = λ is i. (let other : (s.world.pages.owners q == t) ≡ false = ap (λ (u : ℕ). u == t) (lawful.tdr q is) ∙ o in rw other refl);
    owned = λ h. record {
      stands = λ z. by_test (s.world.pages.owners q == t) (λ y. (let is : s.world.pages.owners q ≡ t = eqb-true (s.world.pages.owners q) t y in rw is (stood (rw y at z)))) (λ d. rw d at z);
      level = refl;
      number = refl;
      entries = λ l e. refl;
      vp = λ i. refl;
      stream = λ i. refl;
      control = λ is z. control-kept refl (λ l e. refl) (λ f i. refl);
    };
  };
})

-- The page that is set aside becomes another one: its PAMT word, and the child count of a TD
abbrev pub node_words : (WordPlace → ℕ) → (p : ℕ) → PageKind → (owner : ℕ) → WordPlace → ℕ
node_words words p k owner = put_word words (place.Pamt p) (pamt_word (record { kind = k; owner = owner; epoch = 0 }))

abbrev pub counted_words : (WordPlace → ℕ) → (t children : ℕ) → WordPlace → ℕ
counted_words words t kids = put_word words (place.Word t TDR_CHILDREN) kids

module _ {p : ℕ} {m : Machine} {words : WordPlace → ℕ} {s : State} (k : PageKind) (owner level number : ℕ) (sh : ShowsBut p m words s) (lawful : LawfulPages m.pages s.world.pages) where
  abbrev was : World
  was = s.world

  abbrev taking : World
  taking = take_node p k owner level number was

  other-page : (q i : ℕ) → (q == p) ≡ false → (was.pages.kinds q ≡ kind.Tdr → children taking q ≡ children was q) → IsIn m (place.Word q i) → IsAs (cell (record s { world = taking }) (place.Word q i)) (words (place.Word q i))
  other-page q i o same b = page-kept s taking q i (words (place.Word q i)) (record {
    words = λ j. refl;
    tdr = λ is j. rw (subst (λ (u : ℕ). children taking u ≡ children was u) (sym (lawful.tdr q is)) (same is)) refl;
    owned = λ h. record { stands = λ n. n; level = rw o refl; number = rw o refl; entries = λ l n. refl; vp = λ j. refl; stream = λ j. refl; control = λ is n. control-kept refl (λ l e. refl) (λ f j. refl) };
  }) (rw o refl) (rw o refl) (sh.word (place.Word q i) b o)

  -- which was no TD's child, or its own TDR page
  pub node-but : ((q : ℕ) → (q == p) ≡ false → was.pages.kinds q ≡ kind.Tdr → children taking q ≡ children was q) → ShowsBut p m (node_words words p k owner) (record s { world = taking })
  node-but same = record { word = at }
    where
      at : (q : WordPlace) → IsIn m q → IsOff p q → IsAs (cell (record s { world = taking }) q) (node_words words p k owner q)
      at (place.Lock q) b o = sh.word (place.Lock q) b tt
      at (place.Pamt q) b o = by_test (q == p) (λ y. rw y refl) (λ n. rw n (sh.word (place.Pamt q) b tt))
      at (place.Key j) b o = sh.word (place.Key j) b tt
      at (place.Word q i) b o = other-page q i o (λ is. same q o is) b

  -- whose count of children changes with it
  module _ (t kids : ℕ) (tdr : s.world.pages.kinds t ≡ kind.Tdr) (t-p : (t == p) ≡ false) (counted : kids ≡ children taking t) (same : (u : ℕ) → (t == u) ≡ false → children taking u ≡ children was u) where
    abbrev after : WordPlace → ℕ
    after = counted_words (node_words words p k owner) t kids

    itself : (t == t) ≡ true
    itself = eq-eqb t t refl

    tdr-word : (i : ℕ) → IsIn m (place.Word t i) → IsAs (cell (record s { world = taking }) (place.Word t i)) (after (place.Word t i))
    tdr-word i b = rw (t-p, tdr, lawful.tdr t tdr) (by_test (i == 2)
        (λ y. subst (λ (j : ℕ). IsAs (in_lines (tdr_lines taking t) j) (after (place.Word t j))) (sym (eqb-true i 2 y)) (rw itself counted))
        (λ n. rw (itself, n) (rw n at (rw (tdr, lawful.tdr t tdr) at (sh.word (place.Word t i) b t-p)))))

    pub child-but : ShowsBut p m after (record s { world = taking })
    child-but = record { word = at }
      where
        at : (q : WordPlace) → IsIn m q → IsOff p q → IsAs (cell (record s { world = taking }) q) (after q)
        at (place.Lock q) b o = sh.word (place.Lock q) b tt
        at (place.Pamt q) b o = by_test (q == p) (λ y. rw y refl) (λ n. rw n (sh.word (place.Pamt q) b tt))
        at (place.Key j) b o = sh.word (place.Key j) b tt
        at (place.Word q i) b o = by_test (q == t)
            (λ y. subst (λ (x : ℕ). IsIn m (place.Word x i) → IsAs (cell (record s { world = taking }) (place.Word x i)) (after (place.Word x i))) (sym (eqb-true q t y)) (tdr-word i) b)
            (λ d. subst (λ (v : ℕ). IsAs (cell (record s { world = taking }) (place.Word q i)) v) (rw d refl) (other-page q i o (λ is. same q (turned q t d)) b))

-- A host page that is set aside is taken as one of a TD's; and one of a TD's is the host's again.
module _ {p : ℕ} {m : Machine} {words : WordPlace → ℕ} {s : State} (t : ℕ) (sh : ShowsBut p m words s) (size : s.world.size ≡ m.pages) (lawful : LawfulPages m.pages s.world.pages) (tdr : s.world.pages.kinds t ≡ kind.Tdr) where
  abbrev before : World
  before = s.world

  module _ (k : PageKind) (level number : ℕ) (host : is_host s.world p ≡ true) (owned : same_kind k kind.Nda ≡ false) (in_page : p < m.pages) where
    abbrev taken : World
    taken = take_node p k t level number before

    small : p < before.size
    small = subst (λ (n : ℕ). p < n) (sym size) in_page

    t-p : (t == p) ≡ false
    t-p = apart before.pages.kinds t p kind.Tdr kind.Nda tdr (host_kind (before.pages.kinds p) host) (λ e. cc)

    one-child : raised m.pages (children before t) ≡ children taken t
    one-child = subst (λ (n : ℕ). raised n (children before t) ≡ children taken t) size (raised-is before.pages taken.pages p (λ q n. rw n refl) (λ q n. rw n refl) t before.size
        (owned-taken before.pages taken.pages p (λ q n. rw n refl) (λ q n. rw n refl) t before.size small host (turned t p t-p) (rw (eq-eqb p p refl) owned) (rw (eq-eqb p p refl) refl)))

    pub taken-but : ShowsBut p m (counted_words (node_words words p k t) t (raised m.pages (children before t))) (record s { world = taken })
    taken-but = child-but k t level number sh lawful t (raised m.pages (children before t)) tdr t-p one-child
        (λ u d. owned-same before.pages taken.pages p (λ q n. rw n refl) (λ q n. rw n refl) u before.size small (counted-host before.pages u p host) (counted-other taken.pages u p (rw (eq-eqb p p refl) d)))

  module _ (owned : is_host s.world p ≡ false) (its : s.world.pages.owners p ≡ t) where
    abbrev given : World
    given = take_node p kind.Nda 0 0 0 before

    given-small : p < before.size
    given-small = subst (λ (n : ℕ). p < n) (sym size) (lawful.in_machine p owned)

    host-again : is_host_in given.pages p ≡ true
    host-again = rw (eq-eqb p p refl) refl

    given-same : (u : ℕ) → (t == u) ≡ false → children given u ≡ children before u
    given-same u d = owned-same before.pages given.pages p (λ q n. rw n refl) (λ q n. rw n refl) u before.size given-small (counted-other before.pages u p (rw its d)) (counted-host given.pages u p host-again)

    -- the TDR page itself, and a child
    pub tdr-given-but : (t == p) ≡ true → ShowsBut p m (node_words words p kind.Nda 0) (record s { world = given })
    tdr-given-but y = node-but kind.Nda 0 0 0 sh lawful (λ q n is. given-same q (turned q t (subst (λ (x : ℕ). (q == x) ≡ false) (sym (eqb-true t p y)) n)))

    pub given-but : (p == t) ≡ false → ShowsBut p m (counted_words (node_words words p kind.Nda 0) t (lowered (children before t))) (record s { world = given })
    given-but d = child-but kind.Nda 0 0 0 sh lawful t (lowered (children before t)) tdr (turned p t d)
        (let f : children given t + 1 ≡ children before t = owned-given before.pages given.pages p (λ q n. rw n refl) (λ q n. rw n refl) t before.size given-small host-again d owned its in omega (arith, f)) given-same

-- What the key table says of an HKID is another, which tells no page anything.
module _ {p : ℕ} {m : Machine} {words : WordPlace → ℕ} {s : State} (h : ℕ) (k : Key) (first : 1 ≤ h) (sh : ShowsBut p m words s) where
  abbrev marked : World
  marked = set_key h k s.world

  pub key-put : ShowsBut p m (put_word words (place.Key (3 + (h - 1))) (key_word k)) (record s { world = set_key h k s.world })
  key-put = record { word = at }
    where
      at : (q : WordPlace) → IsIn m q → IsOff p q → IsAs (cell (record s { world = marked }) q) (put_word words (place.Key (3 + (h - 1))) (key_word k) q)
      at (place.Lock q) b o = sh.word (place.Lock q) b tt
      at (place.Pamt q) b o = sh.word (place.Pamt q) b tt
      at (place.Key j) b o = (let now = key-changed s.world marked h first (λ i n. rw n refl) refl refl (lock_word s.lps s.lp_count OfKeys) j (words (place.Key j)) (sh.word (place.Key j) b tt) in rw (eq-eqb h h refl) at now)
      at (place.Word q i) b o = page-kept s marked q i (words (place.Word q i)) (record {
        words = λ j. refl;
        tdr = λ is j. refl;
        owned = λ x. record { stands = λ n. n; level = refl; number = refl; entries = λ l n. refl; vp = λ j. refl; stream = λ j. refl; control = λ is n. control-kept refl (λ l e. refl) (λ f j. refl) };
      }) refl refl (sh.word (place.Word q i) b o)
