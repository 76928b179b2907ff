-- Packed words are read back.
use Rattle.std.proofs.Common.{◌≡◌, refl, sym, subst, ℕ, ◌+◌, ◌*◌, ◌/◌, ◌%◌, ◌^◌, ◌<◌, Option, Some, None, Bool, true, false, ◌==◌, ◌&&◌, nat_lt, if◌then◌else◌, arith}
use Rattle.std.proofs.lemmas.Bool.{eq-eqb, eqb-true, ltb-true, and_parts}
use Rattle.std.proofs.lemmas.Bool.Decides.{nat_tests}
use Rattle.td_words.specs.declared.names.PageKind.{PageKind}
use Rattle.td_words.specs.declared.names.PageKind.TheVariants as kind
use Rattle.td_words.specs.declared.names.EntryState.{EntryState}
use Rattle.td_words.specs.declared.names.EntryState.TheVariants as entry
use Rattle.td_words.specs.NameNumber.{kind_number, entry_number}
use Rattle.td_words.specs.Laws.{PackingsUndone}
use Rattle.td_words.specs.Packing.{Pamt, pamt_word, pamt_in, pamt_if, pamt_of_kind, kind_of, is_lawful_pamt, Entry, entry_word, entry_in, entry_if, entry_of_state, entry_state_of, is_lawful_entry, Key, Unassigned, AssignedTo, FlushedOf, key_word, key_in, key_if, is_lawful_key}

-- fields of a packed word
pub record Fields (n x m word : ℕ) : Type 0 where
  pub low : word % 16 ≡ n
  pub middle : word / 16 % 65536 ≡ x
  pub high : word / 2 ^ 32 ≡ m

fields_of : (n x m : ℕ) → n < 16 → x < 1024 → m < 2 ^ 32 → Fields n x m (n + (16 * x + 2 ^ 32 * m))
fields_of n x m a b c = record { low = omega arith; middle = omega arith; high = omega arith }

kind_again : (k : PageKind) → (kind_of (kind_number k) ≡ Some k) × (kind_number k < 16)
kind_again kind.Nda = (refl, omega arith)
kind_again kind.Reg = (refl, omega arith)
kind_again kind.Tdr = (refl, omega arith)
kind_again kind.Tdcx = (refl, omega arith)
kind_again kind.Tdvpr = (refl, omega arith)
kind_again kind.Ept = (refl, omega arith)
kind_again kind.Migsc = (refl, omega arith)

state_again : (s : EntryState) → (entry_state_of (entry_number s) ≡ Some s) × (entry_number s < 16)
state_again entry.Free = (refl, omega arith)
state_again entry.Mapped = (refl, omega arith)
state_again entry.Blocked = (refl, omega arith)
state_again entry.Pending = (refl, omega arith)
state_again entry.PendingBlocked = (refl, omega arith)
state_again entry.NlMapped = (refl, omega arith)
state_again entry.NlBlocked = (refl, omega arith)
state_again entry.BlockedW = (refl, omega arith)
state_again entry.ExportedBlockedW = (refl, omega arith)
state_again entry.ExportedDirty = (refl, omega arith)
state_again entry.ExportedDirtyBlockedW = (refl, omega arith)

pamt_again : (k : PageKind) (o e : ℕ) → let p : Pamt = record { kind = k; owner = o; epoch = e } in is_lawful_pamt p ≡ true → pamt_in (pamt_word p) ≡ Some p
pamt_again k o e h =
    let p : Pamt = record { kind = k; owner = o; epoch = e } in
    let small = ltb-true o 1024 (and_parts (nat_lt o 1024) _ h).0 in
    let low = ltb-true e (2 ^ 32) (and_parts (nat_lt e (2 ^ 32)) _ (and_parts (nat_lt o 1024) _ h).1).0 in
    let f = fields_of (kind_number k) o e (kind_again k).1 small low in
    let same : (pamt_word p == pamt_word p) ≡ true = eq-eqb _ _ refl in
    rw (f.low, (kind_again k).0, f.middle, f.high, h, same) refl

entry_again : (s : EntryState) (x m : ℕ) → let e : Entry = record { state = s; page = x; mark = m } in is_lawful_entry e ≡ true → entry_in (entry_word e) ≡ Some e
entry_again s x m h =
    let e : Entry = record { state = s; page = x; mark = m } in
    let small = ltb-true x 1024 (and_parts (nat_lt x 1024) _ h).0 in
    let low = ltb-true m (2 ^ 32) (and_parts (nat_lt m (2 ^ 32)) _ (and_parts (nat_lt x 1024) _ h).1).0 in
    let f = fields_of (entry_number s) x m (state_again s).1 small low in
    let same : (entry_word e == entry_word e) ≡ true = eq-eqb _ _ refl in
    rw (f.low, (state_again s).0, f.middle, f.high, h, same) refl

-- what a test let through
pub through : {A : Type 0} (a b : Bool) (x y : A) → (if a && b then Some x else None) ≡ Some y → (x ≡ y) × (a ≡ true) × (b ≡ true)
through true true x y h = (cc, refl, refl)
through true false x y h = cc
through false b x y h = cc

pamt_if_read : (word : ℕ) (p q : Pamt) → pamt_if word p ≡ Some q → (is_lawful_pamt q ≡ true) × (pamt_word q ≡ word)
pamt_if_read word p q h =
    let t = through (is_lawful_pamt p) (pamt_word p == word) p q h in
    let P : Pamt → Type 0 = λ x. (is_lawful_pamt x ≡ true) × (pamt_word x ≡ word) in
    subst P t.0 (t.1, eqb-true _ _ t.2)

pamt_kind_read : (word : ℕ) (k : Option PageKind) (q : Pamt) → pamt_of_kind word k ≡ Some q → (is_lawful_pamt q ≡ true) × (pamt_word q ≡ word)
pamt_kind_read word None q h = cc
pamt_kind_read word (Some k) q h = pamt_if_read word (record { kind = k; owner = word / 16 % 65536; epoch = word / 2 ^ 32 }) q h

entry_if_read : (word : ℕ) (e d : Entry) → entry_if word e ≡ Some d → (is_lawful_entry d ≡ true) × (entry_word d ≡ word)
entry_if_read word e d h =
    let t = through (is_lawful_entry e) (entry_word e == word) e d h in
    let P : Entry → Type 0 = λ x. (is_lawful_entry x ≡ true) × (entry_word x ≡ word) in
    subst P t.0 (t.1, eqb-true _ _ t.2)

entry_state_read : (word : ℕ) (s : Option EntryState) (d : Entry) → entry_of_state word s ≡ Some d → (is_lawful_entry d ≡ true) × (entry_word d ≡ word)
entry_state_read word None d h = cc
entry_state_read word (Some s) d h = entry_if_read word (record { state = s; page = word / 16 % 65536; mark = word / 2 ^ 32 }) d h

key_if_read : (word : ℕ) (k j : Key) → key_if word k ≡ Some j → (is_lawful_key j ≡ true) × (key_word j ≡ word)
key_if_read word k j h =
    let t = through (is_lawful_key k) (key_word k == word) k j h in
    let P : Key → Type 0 = λ x. (is_lawful_key x ≡ true) × (key_word x ≡ word) in
    subst P t.0 (t.1, eqb-true _ _ t.2)

key_again : (k : Key) → is_lawful_key k ≡ true → key_in (key_word k) ≡ Some k
key_again Unassigned h = refl
key_again (AssignedTo t) h =
    let small = ltb-true t 1024 h in
    let a : (1 + 16 * t == 0) ≡ false = grind (arith, nat_tests) in
    let b : (1 + 16 * t) % 16 ≡ 1 = omega arith in
    let c : (1 + 16 * t) / 16 ≡ t = omega arith in
    let same : (1 + 16 * t == 1 + 16 * t) ≡ true = eq-eqb _ _ refl in
    rw (a, b, c, h, same) refl
key_again (FlushedOf t true) h =
    let small = ltb-true t 1024 h in
    let a : (6 + 16 * t == 0) ≡ false = grind (arith, nat_tests) in
    let b : (6 + 16 * t) % 16 ≡ 6 = omega arith in
    let c : (6 + 16 * t) / 16 ≡ t = omega arith in
    let same : (6 + 16 * t == 6 + 16 * t) ≡ true = eq-eqb _ _ refl in
    rw (a, b, c, h, same) refl
key_again (FlushedOf t false) h =
    let small = ltb-true t 1024 h in
    let a : (2 + 16 * t == 0) ≡ false = grind (arith, nat_tests) in
    let b : (2 + 16 * t) % 16 ≡ 2 = omega arith in
    let c : (2 + 16 * t) / 16 ≡ t = omega arith in
    let same : (2 + 16 * t == 2 + 16 * t) ≡ true = eq-eqb _ _ refl in
    rw (a, b, c, h, same) refl

key_read : (word : ℕ) (k : Key) → key_in word ≡ Some k → (is_lawful_key k ≡ true) × (key_word k ≡ word)
key_read word k h = by (word == 0) refl
  where
    last : (b : Bool) → (word % 16 == 6) ≡ b → (if b then key_if word (FlushedOf (word / 16) true) else None) ≡ Some k → (is_lawful_key k ≡ true) × (key_word k ≡ word)
    last true e h = key_if_read word (FlushedOf (word / 16) true) k h
    last false e h = cc

    second : (b : Bool) → (word % 16 == 2) ≡ b → (if b then key_if word (FlushedOf (word / 16) false) else (if word % 16 == 6 then key_if word (FlushedOf (word / 16) true) else None)) ≡ Some k → (is_lawful_key k ≡ true) × (key_word k ≡ word)
    second true e h = key_if_read word (FlushedOf (word / 16) false) k h
    second false e h = last (word % 16 == 6) refl h

    first : (b : Bool) → (word % 16 == 1) ≡ b → (if b then key_if word (AssignedTo (word / 16)) else (if word % 16 == 2 then key_if word (FlushedOf (word / 16) false) else (if word % 16 == 6 then key_if word (FlushedOf (word / 16) true) else None))) ≡ Some k → (is_lawful_key k ≡ true) × (key_word k ≡ word)
    first true e h = key_if_read word (AssignedTo (word / 16)) k h
    first false e h = second (word % 16 == 2) refl h

    by : (b : Bool) → (word == 0) ≡ b → (is_lawful_key k ≡ true) × (key_word k ≡ word)
    by true e =
        let h' : Some Unassigned ≡ Some k = rw e at h in
        let is_free : Unassigned ≡ k = cc in
        let zero_word : word ≡ 0 = eqb-true word 0 e in
        let P : Key → Type 0 = λ x. (is_lawful_key x ≡ true) × (key_word x ≡ word) in
        subst P is_free (refl, sym zero_word)
    by false e = first (word % 16 == 1) refl (rw e at h)

pub packings : PackingsUndone
packings = record {
  pamt = λ p h. pamt_again p.kind p.owner p.epoch h;
  entry = λ e h. entry_again e.state e.page e.mark h;
  key = key_again;
  pamt_read = λ word p h. pamt_kind_read word (kind_of (word % 16)) p h;
  entry_read = λ word e h. entry_state_read word (entry_state_of (word % 16)) e h;
  key_read = key_read;
}
