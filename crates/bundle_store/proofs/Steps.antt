-- Entries, one after another.
use Rattle.std.proofs.Common.{◌≡◌, ◌∙◌, ◌≤◌, ◌<◌, ℕ, zero, suc, ◌+◌, ◌-◌, List, [], ◌∷◌, ◌++◌, length, take, drop, Result, Ok, Err, true, false, nat_le, refl, sym, ap, arith, length-append, append_assoc, subst, get_or}
use Rattle.std.proofs.lemmas.Bool.{and_from, eq-eqb, ne_eqb, le-leb, cond-true}
use Rattle.std.proofs.lemmas.List.{append-nil, drop-drop, take_at, drop_at, take_more, take_rest}
use Rattle.byteorder.specs.Numbers.{little_number-reads_back}
use Rattle.td_words.specs.Seen.{BundleSeen}
use Rattle.bundle_store.specs.Containers.{entry_bytes, entries_bytes, container_bytes, AreInOrder, slot_of, size_of, is_entry, entry_in, entries_from, entries_in, container_in}

-- the end of the entries
pub end_step : (whole turns : ℕ) (so_far : List BundleSeen) (least : ℕ) (bs : List ℕ) → length bs ≡ 0
    → entries_from whole (suc turns) so_far least bs ≡ Ok so_far
end_step whole turns so_far least bs e = rw (eq-eqb (length bs) 0 e) refl

-- an entry that is bad
pub bad_step : (whole turns : ℕ) (so_far : List BundleSeen) (least : ℕ) (bs : List ℕ) → 0 < length bs → is_entry least bs ≡ false
    → entries_from whole (suc turns) so_far least bs ≡ Err (whole - length bs)
bad_step whole turns so_far least bs some e = rw (ne_eqb (length bs) 0 (λ z. absurd (omega arith)), e) refl

-- an entry that is good
pub good_step : (whole turns : ℕ) (so_far : List BundleSeen) (least : ℕ) (bs : List ℕ) → 0 < length bs → is_entry least bs ≡ true
    → entries_from whole (suc turns) so_far least bs
    ≡ entries_from whole turns (so_far ++ entry_in bs ∷ []) (slot_of bs + 1) (drop (8 + size_of bs) bs)
good_step whole turns so_far least bs some e = rw (ne_eqb (length bs) 0 (λ z. absurd (omega arith)), e) refl

-- ---- the same of what is known to give an answer

pub some_of : (n : ℕ) → (n ≡ 0 → ⊥) → 0 < n
some_of n ne = omega arith

pub first_so_far : (bs : List ℕ) (n : ℕ) (so_far : List BundleSeen) → n ≡ length bs → so_far ≡ []
    → entries_from (length bs) n so_far 0 (take (length bs - 8) (drop 8 bs)) ≡ entries_in bs
first_so_far bs n so_far all none = λ j. entries_from (length bs) (all j) (none j) 0 (take_rest bs 8 j)

pub end_of : (whole n : ℕ) (so_far : List BundleSeen) (least : ℕ) (bs : List ℕ) (r : Result (List BundleSeen) ℕ) → 0 < n → length bs ≡ 0
    → entries_from whole n so_far least bs ≡ r → r ≡ Ok so_far
end_of whole zero so_far least bs r some e f = absurd (omega arith)
end_of whole (suc m) so_far least bs r some e f = sym f ∙ end_step whole m so_far least bs e

pub bad_of : (whole n : ℕ) (so_far : List BundleSeen) (least : ℕ) (bs : List ℕ) (r : Result (List BundleSeen) ℕ) → 0 < n → 0 < length bs
    → is_entry least bs ≡ false → entries_from whole n so_far least bs ≡ r → r ≡ Err (whole - length bs)
bad_of whole zero so_far least bs r some more e f = absurd (omega arith)
bad_of whole (suc m) so_far least bs r some more e f = sym f ∙ bad_step whole m so_far least bs more e

pub good_of : (whole n m : ℕ) (so_far so_far' : List BundleSeen) (least slot : ℕ) (bs rest : List ℕ) (r : Result (List BundleSeen) ℕ)
    → n ≡ suc m → 0 < length bs → is_entry least bs ≡ true → so_far' ≡ so_far ++ entry_in bs ∷ [] → slot ≡ slot_of bs
    → rest ≡ drop (8 + size_of bs) bs → entries_from whole n so_far least bs ≡ r
    → entries_from whole m so_far' (slot + 1) rest ≡ r
good_of whole n m so_far so_far' least slot bs rest r next some good pushed at behind f =
    (λ j. entries_from whole m (pushed j) (at j + 1) (behind j)) ∙ sym (good_step whole m so_far least bs some good)
    ∙ ap (λ (k : ℕ). entries_from whole k so_far least bs) (sym next) ∙ f

-- one entry more
pub entries-push : (xs : List BundleSeen) (b : BundleSeen) → entries_bytes (xs ++ b ∷ []) ≡ entries_bytes xs ++ entry_bytes b
entries-push [] b = append-nil (entry_bytes b)
entries-push (x ∷ xs) b = ap (λ (l : List ℕ). entry_bytes x ++ l) (entries-push xs b) ∙ sym (append_assoc (entry_bytes x) (entries_bytes xs) (entry_bytes b))

-- a bundle of a list that a container can hold isn't too long
pub all_small : (least i : ℕ) (xs : List BundleSeen) (b : BundleSeen) → AreInOrder least xs → i < length xs → b ≡ get_or xs i b → length b.bytes ≤ 131072
all_small least i [] b order h e = absurd (omega arith)
all_small least zero (x ∷ xs) b (low, high, small, more) h e = subst (λ (y : BundleSeen). length y.bytes ≤ 131072) (sym e) small
all_small least (suc i) (x ∷ xs) b (low, high, small, more) h e = all_small (x.slot + 1) i xs b more (omega arith) e

-- one entry more is written
pub put_step : (xs : List BundleSeen) (i : ℕ) (b : BundleSeen) (old new : List ℕ) → i < length xs → b ≡ get_or xs i b
    → old ≡ container_bytes (take i xs) → new ≡ old ++ entry_bytes b → new ≡ container_bytes (take (i + 1) xs)
put_step xs i b old new h e before more =
    let longer : take (i + 1) xs ≡ take i xs ++ b ∷ [] = take_more xs i b h ∙ ap (λ (y : BundleSeen). take i xs ++ y ∷ []) (sym e) in
    let pushed : container_bytes (take i xs) ++ entry_bytes b ≡ container_bytes (take i xs ++ b ∷ []) =
    ap (λ (l : List ℕ). container_bytes [] ++ l) (sym (entries-push (take i xs) b)) in
    more ∙ ap (λ (l : List ℕ). l ++ entry_bytes b) before ∙ pushed ∙ ap container_bytes (sym longer)

-- ---- entries are read back

good_entry : (least s n : ℕ) (bs : List ℕ) → slot_of bs ≡ s → size_of bs ≡ n → least ≤ s → s ≤ 4095 → n ≤ 131072 → 8 + n ≤ length bs
    → is_entry least bs ≡ true
good_entry least s n bs slot size low high small room =
    and_from (nat_le 8 (length bs)) _ (le-leb 8 (length bs) (omega arith))
    (and_from (nat_le least (slot_of bs)) _ (le-leb least (slot_of bs) (omega (arith, slot)))
    (and_from (nat_le (slot_of bs) 4095) _ (le-leb (slot_of bs) 4095 (omega (arith, slot)))
    (and_from (nat_le (size_of bs) 131072) _ (le-leb (size_of bs) 131072 (omega (arith, size)))
    (le-leb (8 + size_of bs) (length bs) (omega (arith, size))))))

slot_back : (b : BundleSeen) (rest : List ℕ) → b.slot ≤ 4095 → slot_of (entry_bytes b ++ rest) ≡ b.slot
slot_back b rest h = little_number-reads_back 4 b.slot [] (omega arith)

size_back : (b : BundleSeen) (rest : List ℕ) → length b.bytes ≤ 131072 → size_of (entry_bytes b ++ rest) ≡ length b.bytes
size_back b rest h = little_number-reads_back 4 (length b.bytes) [] (omega arith)

entry_back : (b : BundleSeen) (rest : List ℕ) → b.slot ≤ 4095 → length b.bytes ≤ 131072 → entry_in (entry_bytes b ++ rest) ≡ b
entry_back b rest high small =
    let slot = slot_back b rest high in
    let bytes : take (size_of (entry_bytes b ++ rest)) (b.bytes ++ rest) ≡ b.bytes =
    ap (λ (n : ℕ). take n (b.bytes ++ rest)) (size_back b rest small) ∙ take_at b.bytes rest (length b.bytes) refl in
    λ j. record { slot = slot j; bytes = bytes j }

rest_back : (b : BundleSeen) (rest : List ℕ) → length b.bytes ≤ 131072 → drop (8 + size_of (entry_bytes b ++ rest)) (entry_bytes b ++ rest) ≡ rest
rest_back b rest small =
    ap (λ (n : ℕ). drop (8 + n) (entry_bytes b ++ rest)) (size_back b rest small)
    ∙ sym (drop-drop (length b.bytes) 8 (entry_bytes b ++ rest)) ∙ drop_at b.bytes rest (length b.bytes) refl

entry-long : (b : BundleSeen) (rest : List ℕ) → length (entry_bytes b ++ rest) ≡ 8 + (length b.bytes + length rest)
entry-long b rest = omega (arith, length-append b.bytes rest)

entries-long : (xs : List BundleSeen) → length xs ≤ length (entries_bytes xs)
entries-long [] = omega arith
entries-long (b ∷ xs) = omega (arith, entries-long xs, entry-long b (entries_bytes xs))

entries_again : (whole turns : ℕ) (so_far : List BundleSeen) (least : ℕ) (xs : List BundleSeen) → AreInOrder least xs → length xs < turns
    → entries_from whole turns so_far least (entries_bytes xs) ≡ Ok (so_far ++ xs)
entries_again whole zero so_far least xs order few = absurd (omega arith)
entries_again whole (suc turns) so_far least [] order few = end_step whole turns so_far least [] refl ∙ ap Ok (sym (append-nil so_far))
entries_again whole (suc turns) so_far least (b ∷ xs) (low, high, small, more) few =
    let rest : List ℕ = entries_bytes xs in
    let long = entry-long b rest in
    let slot = slot_back b rest high in
    let entry = entry_back b rest high small in
    let behind = rest_back b rest small in
    let good = good_entry least b.slot (length b.bytes) (entry_bytes b ++ rest) slot (size_back b rest small) low high small (omega (arith, long)) in
    good_step whole turns so_far least (entry_bytes b ++ rest) (omega (arith, long)) good
    ∙ (λ j. entries_from whole turns (so_far ++ entry j ∷ []) (slot j + 1) (behind j))
    ∙ entries_again whole turns (so_far ++ b ∷ []) (b.slot + 1) xs more (omega arith)
    ∙ ap Ok (append_assoc so_far (b ∷ []) xs)

-- a container is read as its bundles
pub container_again : (xs : List BundleSeen) → AreInOrder 0 xs → container_in (container_bytes xs) ≡ Ok xs
container_again xs order =
    let whole : ℕ = length (container_bytes xs) in
    let long : 8 + length (entries_bytes xs) ≡ whole = omega arith in
    cond-true _ _ _ (and_from (nat_le 8 whole) _ (le-leb 8 whole (omega (arith, long))) refl)
    ∙ entries_again whole whole [] 0 xs order (omega (arith, long, entries-long xs))
