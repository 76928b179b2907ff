-- What is read as a container is one, and a fault is at the first bad entry.
use Rattle.std.proofs.Common.{◌≡◌, ◌∙◌, ◌≤◌, ◌<◌, ℕ, zero, suc, ◌+◌, ◌-◌, List, [], ◌∷◌, ◌++◌, length, take, drop, slice_index, Result, Ok, Err, true, false, ◌&&◌, ◌==◌, nat_le, inl, inr, refl, sym, ap, subst, arith, append_assoc, length-append, codes}
use Rattle.std.proofs.lemmas.Bool.{and_from, and_parts, eqb-true, eqb-false, leb-true, le-leb, cases_Bool, cond-true, cond-false}
use Rattle.std.proofs.lemmas.List.{append-nil, drop-drop, length-drop, length-take, length-take-le, take-append-drop, get_or-drop}
use Rattle.byteorder.specs.Endian.{little_bytes}
use Rattle.td_words.specs.Seen.{BundleSeen}
use Rattle.bundle_format.proofs.Digits.{bytes_from}
use Rattle.std.specs.Str.{bytes_eq}
use Rattle.std.proofs.lemmas.Slice.Eq.{bytes_eq-Decides}
use Rattle.bundle_store.specs.Containers.{entry_bytes, entries_bytes, container_bytes, AreInOrder, slot_of, size_of, is_entry, entry_in, entries_from, entries_in, container_in}
use Rattle.bundle_store.specs.Laws.{next_slot, IsFirstBad}
use Rattle.bundle_store.proofs.Steps.{some_of, end_of, bad_of, good_of}

-- what is known where an entry begins
pub record Entry (least : ℕ) (bs : List ℕ) : Type 0 where
  pub low : least ≤ slot_of bs
  pub high : slot_of bs ≤ 4095
  pub small : size_of bs ≤ 131072
  pub room : 8 + size_of bs ≤ length bs

entry_known : (least : ℕ) (bs : List ℕ) → is_entry least bs ≡ true → Entry least bs
entry_known least bs e =
    let a = and_parts (nat_le 8 (length bs)) _ e in
    let b = and_parts (nat_le least (slot_of bs)) _ a.1 in
    let c = and_parts (nat_le (slot_of bs) 4095) _ b.1 in
    let d = and_parts (nat_le (size_of bs) 131072) _ c.1 in
    record {
      low = leb-true least (slot_of bs) b.0;
      high = leb-true (slot_of bs) 4095 c.0;
      small = leb-true (size_of bs) 131072 d.0;
      room = leb-true (8 + size_of bs) (length bs) d.1;
    }

size_kept : (bs : List ℕ) → 8 + size_of bs ≤ length bs → length (take (size_of bs) (drop 8 bs)) ≡ size_of bs
size_kept bs h = length-take-le (size_of bs) (drop 8 bs) (omega (arith, length-drop 8 bs))

-- an entry's bytes are those of its bundle
entry_spelled : (bs : List ℕ) → ((i : ℕ) → slice_index bs i < 256) → 8 + size_of bs ≤ length bs
    → entry_bytes (entry_in bs) ++ drop (8 + size_of bs) bs ≡ bs
entry_spelled bs fits room =
    let n : ℕ = size_of bs in
    let body : List ℕ = take n (drop 8 bs) in
    let t8 : body ++ drop (8 + n) bs ≡ drop 8 bs = ap (λ (l : List ℕ). body ++ l) (sym (drop-drop n 8 bs)) ∙ take-append-drop n (drop 8 bs) in
    let t4 : little_bytes 4 n ++ (body ++ drop (8 + n) bs) ≡ drop 4 bs = ap (λ (l : List ℕ). little_bytes 4 n ++ l) t8 ∙ bytes_from 4 4 bs (omega arith) fits in
    let kept = size_kept bs room in
    ap (λ (m : ℕ). little_bytes 4 (slot_of bs) ++ (little_bytes 4 m ++ (body ++ drop (8 + n) bs))) kept
    ∙ ap (λ (l : List ℕ). little_bytes 4 (slot_of bs) ++ l) t4 ∙ bytes_from 4 0 bs (omega arith) fits

-- an entry before others, and before others and a rest
entries_more : (b : BundleSeen) (xs : List BundleSeen) (bs behind : List ℕ) → entry_bytes b ++ behind ≡ bs → behind ≡ entries_bytes xs
    → bs ≡ entries_bytes (b ∷ xs)
entries_more b xs bs behind spelled more = sym spelled ∙ ap (λ (l : List ℕ). entry_bytes b ++ l) more

spelled_more : (b : BundleSeen) (xs : List BundleSeen) (bs behind rest : List ℕ) → entry_bytes b ++ behind ≡ bs → behind ≡ entries_bytes xs ++ rest
    → bs ≡ entries_bytes (b ∷ xs) ++ rest
spelled_more b xs bs behind rest spelled more =
    sym spelled ∙ ap (λ (l : List ℕ). entry_bytes b ++ l) more ∙ sym (append_assoc (entry_bytes b) (entries_bytes xs) rest)

ok_same : (x y : List BundleSeen) → (let a : Result (List BundleSeen) ℕ = Ok x in a ≡ Ok y) → x ≡ y
ok_same x y h = cc

no_ok : (n : ℕ) (y : List BundleSeen) → (let a : Result (List BundleSeen) ℕ = Err n in a ≡ Ok y) → ⊥
no_ok n y h = cc

nil_of : (bs : List ℕ) → length bs ≡ 0 → bs ≡ []
nil_of [] h = refl
nil_of (x ∷ bs) h = absurd (omega arith)

-- entries that are read are the entries of what is read
pub entries_are : (whole turns : ℕ) (so_far : List BundleSeen) (least : ℕ) (bs : List ℕ) (r : List BundleSeen) → ((i : ℕ) → slice_index bs i < 256)
    → entries_from whole turns so_far least bs ≡ Ok r → (xs : List BundleSeen) × (r ≡ so_far ++ xs) × (bs ≡ entries_bytes xs) × AreInOrder least xs
entries_are whole zero so_far least bs r fits e = absurd (no_ok (whole - length bs) r e)
entries_are whole (suc turns) so_far least bs r fits e =
    elim (cases_Bool (length bs == 0)) [
      | inl z ↦
          let none : length bs ≡ 0 = eqb-true (length bs) 0 z in
          let same = ok_same r so_far (end_of whole (suc turns) so_far least bs (Ok r) (omega arith) none e) in
          ([], same ∙ sym (append-nil so_far), nil_of bs none, tt)
      | inr z ↦
          let some : 0 < length bs = some_of (length bs) (eqb-false (length bs) 0 z) in
          elim (cases_Bool (is_entry least bs)) [
            | inl good ↦
                let k = entry_known least bs good in
                let rest : List ℕ = drop (8 + size_of bs) bs in
                let b : BundleSeen = entry_in bs in
                let more = entries_are whole turns (so_far ++ b ∷ []) (slot_of bs + 1) rest r
                (λ i. subst (λ (x : ℕ). x < 256) (sym (get_or-drop (8 + size_of bs) bs i 0)) (fits (8 + size_of bs + i)))
                (good_of whole (suc turns) turns so_far (so_far ++ b ∷ []) least (slot_of bs) bs rest (Ok r) refl some good refl refl refl e) in
                let small : length b.bytes ≤ 131072 = omega (arith, size_kept bs k.room, k.small) in (
                  b ∷ more.0,
                  more.1 ∙ append_assoc so_far (b ∷ []) more.0,
                  entries_more b more.0 bs rest (entry_spelled bs fits k.room) more.2,
                  (k.low, k.high, small, more.3),
                )
            | inr bad ↦ absurd (no_ok (whole - length bs) r (sym (bad_of whole (suc turns) so_far least bs (Ok r) (omega arith) some bad e)))
          ]
    ]

-- the name, and entries behind it, and a rest
named_more : (xs : List BundleSeen) (bs : List ℕ) → take 8 bs ≡ codes "TDXBNDL1" → drop 8 bs ≡ entries_bytes xs → bs ≡ container_bytes xs
named_more xs bs name more = sym (take-append-drop 8 bs) ∙ (λ j. name j ++ more j)

named_spelled : (xs : List BundleSeen) (bs rest : List ℕ) → take 8 bs ≡ codes "TDXBNDL1" → drop 8 bs ≡ entries_bytes xs ++ rest
    → bs ≡ container_bytes xs ++ rest
named_spelled xs bs rest name more =
    sym (take-append-drop 8 bs) ∙ (λ j. name j ++ more j) ∙ sym (append_assoc (codes "TDXBNDL1") (entries_bytes xs) rest)

-- bytes that are read as a container are the container of what is read
pub container_found : (bs : List ℕ) (xs : List BundleSeen) → ((i : ℕ) → slice_index bs i < 256) → container_in bs ≡ Ok xs
    → (bs ≡ container_bytes xs) × AreInOrder 0 xs
container_found bs xs fits e =
    elim (cases_Bool (nat_le 8 (length bs) && bytes_eq (take 8 bs) (codes "TDXBNDL1"))) [
      | inl good ↦
          let p = and_parts (nat_le 8 (length bs)) _ good in
          let name : take 8 bs ≡ codes "TDXBNDL1" = (bytes_eq-Decides (take 8 bs) (codes "TDXBNDL1")).0 p.1 in
          let more = entries_are (length bs) (length bs) [] 0 (drop 8 bs) xs
          (λ i. subst (λ (x : ℕ). x < 256) (sym (get_or-drop 8 bs i 0)) (fits (8 + i)))
          (sym (cond-true _ (entries_in bs) (Err 0) good) ∙ e) in
          let same : more.0 ≡ xs = sym more.1 in
          (named_more xs bs name (subst (λ (ys : List BundleSeen). drop 8 bs ≡ entries_bytes ys) same more.2), subst (AreInOrder 0) same more.3)
      | inr bad ↦ absurd (no_ok 0 xs (sym (cond-false _ (entries_in bs) (Err 0) bad) ∙ e))
    ]

-- ---- the first bad entry

err_same : (m n : ℕ) → (let a : Result (List BundleSeen) ℕ = Err m in a ≡ Err n) → m ≡ n
err_same m n h = cc

-- good entries, and behind them the bad one
pub record BadBehind (whole least : ℕ) (bs : List ℕ) (place : ℕ) : Type 0 where
  pub before : List BundleSeen
  pub rest : List ℕ
  pub spelled : bs ≡ entries_bytes before ++ rest
  pub order : AreInOrder least before
  pub here : place ≡ whole - length rest
  pub some : 0 < length rest
  pub bad : is_entry (next_slot least before) rest ≡ false

-- where entries are refused, the first bad one is at the place that is told
pub bad_behind : (whole turns : ℕ) (so_far : List BundleSeen) (least : ℕ) (bs : List ℕ) (place : ℕ) → ((i : ℕ) → slice_index bs i < 256)
    → length bs < turns → entries_from whole turns so_far least bs ≡ Err place → BadBehind whole least bs place
bad_behind whole zero so_far least bs place fits few e = absurd (omega arith)
bad_behind whole (suc turns) so_far least bs place fits few e =
    elim (cases_Bool (length bs == 0)) [
      | inl z ↦ absurd (no_ok place so_far (end_of whole (suc turns) so_far least bs (Err place) (omega arith) (eqb-true (length bs) 0 z) e))
      | inr z ↦
          let some : 0 < length bs = some_of (length bs) (eqb-false (length bs) 0 z) in
          elim (cases_Bool (is_entry least bs)) [
            | inl good ↦
                let k = entry_known least bs good in
                let behind : List ℕ = drop (8 + size_of bs) bs in
                let b : BundleSeen = entry_in bs in
                let fewer : length behind < turns = omega (arith, length-drop (8 + size_of bs) bs) in
                let more = bad_behind whole turns (so_far ++ b ∷ []) (slot_of bs + 1) behind place
                (λ i. subst (λ (x : ℕ). x < 256) (sym (get_or-drop (8 + size_of bs) bs i 0)) (fits (8 + size_of bs + i)))
                fewer (good_of whole (suc turns) turns so_far (so_far ++ b ∷ []) least (slot_of bs) bs behind (Err place) refl some good refl refl refl e) in
                let small : length b.bytes ≤ 131072 = omega (arith, size_kept bs k.room, k.small) in
                record {
                  before = b ∷ more.before;
                  rest = more.rest;
                  spelled = spelled_more b more.before bs behind more.rest (entry_spelled bs fits k.room) more.spelled;
                  order = (k.low, k.high, small, more.order);
                  here = more.here;
                  some = more.some;
                  bad = more.bad;
                }
            | inr bad ↦
                record {
                  before = [];
                  rest = bs;
                  spelled = refl;
                  order = tt;
                  here = err_same place (whole - length bs) (bad_of whole (suc turns) so_far least bs (Err place) (omega arith) some bad e);
                  some = some;
                  bad = bad;
                }
          ]
    ]

at_rest : (place : ℕ) (front rest bs : List ℕ) → bs ≡ front ++ rest → place ≡ length bs - length rest → place ≡ length front
at_rest place front rest bs spelled here = omega (arith, here, ap length spelled, length-append front rest)

-- where a container is refused behind its name, the first bad entry is at the place that is told
pub bad_found : (bs : List ℕ) (place : ℕ) → ((i : ℕ) → slice_index bs i < 256) → take 8 bs ≡ codes "TDXBNDL1" → container_in bs ≡ Err place
    → (before : List BundleSeen) × (rest : List ℕ) × IsFirstBad bs place before rest
bad_found bs place fits name e =
    let long : 8 ≤ length bs = omega (arith, length-take 8 bs, ap length name) in
    let named : bytes_eq (take 8 bs) (codes "TDXBNDL1") ≡ true = (bytes_eq-Decides (take 8 bs) (codes "TDXBNDL1")).1 name in
    let good = and_from (nat_le 8 (length bs)) _ (le-leb 8 (length bs) long) named in
    let found = bad_behind (length bs) (length bs) [] 0 (drop 8 bs) place
    (λ i. subst (λ (x : ℕ). x < 256) (sym (get_or-drop 8 bs i 0)) (fits (8 + i)))
    (omega (arith, length-drop 8 bs)) (sym (cond-true _ (entries_in bs) (Err 0) good) ∙ e) in
    let spelled = named_spelled found.before bs found.rest name found.spelled in (
      found.before,
      found.rest,
      record {
        spelled = spelled;
        order = found.order;
        here = at_rest place (container_bytes found.before) found.rest bs spelled found.here;
        some = found.some;
        bad = found.bad;
      },
    )
