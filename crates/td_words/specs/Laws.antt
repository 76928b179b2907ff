-- Laws of addresses, packings and places.
use Rattle.std.specs.Prelude.{◌≡◌, ◌≢◌, ◌↔◌, ℕ, ◌+◌, ◌*◌, ◌/◌, ◌%◌, ◌<◌, Some, true}
use Rattle.td_words.specs.declared.names.LockName.{LockName}
use Rattle.td_words.specs.declared.machines.Machine.{Machine}
use Rattle.td_words.specs.declared.places.TheConstants.{KEY_FIRST}
use Rattle.td_words.specs.Address.{lock_at, pamt_at, word_at, key_at}
use Rattle.td_words.specs.Place.{WordPlace, IsIn, address, same_place, lock_place}
use Rattle.td_words.specs.Packing.{Pamt, pamt_word, pamt_in, is_lawful_pamt, Entry, entry_word, entry_in, is_lawful_entry, Key, key_word, key_in, is_lawful_key}
use Rattle.td_words.specs.Places.{tdr_places, tdcs_places, vp_places, stream_places, key_places, are_apart}

-- no word of a page stands where another word of it, of another page or of the key table stands, and an address
-- gives back its page and place
pub record AddressesApart : Type 0 where
  pub locks : (p q : ℕ) → lock_at p ≡ lock_at q → p ≡ q
  pub pamts : (p q : ℕ) → pamt_at p ≡ pamt_at q → p ≡ q
  pub words : (p i q j : ℕ) → i < 512 → j < 512 → word_at p i ≡ word_at q j → (p ≡ q) × (i ≡ j)
  pub lock_pamt : (p q : ℕ) → lock_at p ≢ pamt_at q
  pub lock_content : (p q j : ℕ) → j < 512 → lock_at p ≢ word_at q j
  pub pamt_content : (p q j : ℕ) → j < 512 → pamt_at p ≢ word_at q j
  pub lock_key : (pages p k : ℕ) → p < pages → lock_at p < key_at pages k
  pub pamt_key : (pages p k : ℕ) → p < pages → pamt_at p < key_at pages k
  pub content_key : (pages p i k : ℕ) → p < pages → i < 512 → word_at p i < key_at pages k
  pub keys : (pages j k : ℕ) → key_at pages j ≡ key_at pages k → j ≡ k
  pub lock_undone : (p : ℕ) → (lock_at p / 514 ≡ p) × (lock_at p % 514 ≡ 0)
  pub pamt_undone : (p : ℕ) → (pamt_at p / 514 ≡ p) × (pamt_at p % 514 ≡ 1)
  pub word_undone : (p i : ℕ) → i < 512 → (word_at p i / 514 ≡ p) × (word_at p i % 514 ≡ i + 2)

-- a packing is read back as its value, and what is read is a lawful value whose packing the word is
pub record PackingsUndone : Type 0 where
  pub pamt : (p : Pamt) → is_lawful_pamt p ≡ true → pamt_in (pamt_word p) ≡ Some p
  pub entry : (e : Entry) → is_lawful_entry e ≡ true → entry_in (entry_word e) ≡ Some e
  pub key : (k : Key) → is_lawful_key k ≡ true → key_in (key_word k) ≡ Some k
  pub pamt_read : (word : ℕ) (p : Pamt) → pamt_in word ≡ Some p → (is_lawful_pamt p ≡ true) × (pamt_word p ≡ word)
  pub entry_read : (word : ℕ) (e : Entry) → entry_in word ≡ Some e → (is_lawful_entry e ≡ true) × (entry_word e ≡ word)
  pub key_read : (word : ℕ) (k : Key) → key_in word ≡ Some k → (is_lawful_key k ≡ true) × (key_word k ≡ word)

pub record ControlWordsApart : Type 0 where
  pub tdr : are_apart tdr_places ≡ true
  pub tdcs : are_apart tdcs_places ≡ true
  pub vp : are_apart vp_places ≡ true
  pub stream : are_apart stream_places ≡ true
  pub keys : are_apart key_places ≡ true

-- no two places of a machine share an address, which is one of the machine's; two names of locks of one TD never share a
-- place
pub record PlacesInjective : Type 0 where
  pub apart : (m : Machine) (q r : WordPlace) → IsIn m q → IsIn m r → address m.pages q ≡ address m.pages r → q ≡ r
  pub inside : (m : Machine) (q : WordPlace) → IsIn m q → address m.pages q < 514 * m.pages + (KEY_FIRST + m.hkids)
  pub same : (q r : WordPlace) → (same_place q r ≡ true) ↔ (q ≡ r)
  pub locks : (tdcs : ℕ) (a b : LockName) → lock_place tdcs a ≡ lock_place tdcs b → a ≡ b
