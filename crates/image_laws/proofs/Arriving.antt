-- Bundles with the same public part and the same verdict come in agreeing.
use Rattle.std.proofs.Common.{◌≡◌, refl, sym, ◌∙◌, ap, subst, ℕ, ◌+◌, ◌*◌, ◌≤◌, ◌/◌, List, [], ◌∷◌, length, take, drop, slice_index, map, Option, Some, None, option_map, Result, Ok, Err, Bool, true, false, not, ◌==◌, nat_lt, if◌then◌else◌, arith}
use Rattle.std.proofs.lemmas.List.{drop-take, get_or-take, length-drop, length-map}
use Rattle.std.proofs.lemmas.List.Elements.{All-head, All-tail}
use Rattle.std.specs.List.{All}
use Rattle.std.proofs.lemmas.List.FromFn.{length-map-range_with_len}
use Rattle.byteorder.specs.Endian.{little_number}
use Rattle.byteorder.specs.Numbers.{little_from-take}
use Rattle.td_words.specs.declared.headers.Header.{Header}
use Rattle.td_words.specs.declared.names.HeaderField.{HeaderField}
use Rattle.td_words.specs.declared.names.HeaderField.TheVariants as field
use Rattle.td_words.specs.Seen.{BundleSeen}
use Rattle.flat_core.specs.World.{ClearHeader, Made}
use Rattle.flat_core.specs.Opening.{Incoming, clear_header, is_private_kind, blind_words, blind_bundle, public_bundle}
use Rattle.flat_core.proofs.Tests.{by_test}
use Rattle.bundle_format.specs.declared.kinds.BundleKind.{BundleKind}
use Rattle.bundle_format.specs.Kinds.{kind_of, allowed}
use Rattle.bundle_format.specs.Headers.{header_in, uses_unused, is_outside, judged_by_kind, judged, bundle_in}
use Rattle.bundle_texts.specs.Sealed.{with_tag, additional_bytes, sealed}
use Rattle.bundle_texts.specs.Ordered.{in_slot_order}
use Rattle.bundle_texts.proofs.Sizes.{length-mixed, length-sealed_bytes}
use Rattle.incoming.specs.Opened.{clear_of, words_in, is_right, opened_words, opened_by, opened}
use Rattle.incoming.specs.Arrivals.{incoming_in, at_slot}
use Rattle.incoming.specs.Laws.{IsWhole}
use Rattle.incoming.proofs.Sealed.{sealed-comes-in}
use Rattle.image_laws.specs.Arriving.{ComesAlike, ComeAlike, AlikeComeInAgreeing, SealedComeAlike}
use Rattle.image_laws.proofs.Containers.{order_holds, all_whole}
use Rattle.image_laws.proofs.Covered.{public_order}

-- ---- what bytes 0 to 47 and the length tell

-- a number that is read of the first 48 bytes
number_there : (n k r : ℕ) (bs : List ℕ) → n ≤ r → little_number n (drop k (take (k + r) bs)) ≡ little_number n (drop k bs)
number_there n k r bs h = ap (little_number n) (drop-take k r bs) ∙ little_from-take 0 n r (drop k bs) (omega (arith, h))

head_told : (bs : List ℕ) → clear_header (header_in (take 48 bs)) ≡ clear_header (header_in bs)
head_told bs =
    let size = number_there 2 0 48 bs (omega arith) in
    let version = number_there 2 2 46 bs (omega arith) in
    let stream = number_there 2 4 44 bs (omega arith) in
    let kind = get_or-take 48 bs 6 0 (omega arith) in
    let reserved = get_or-take 48 bs 7 0 (omega arith) in
    let counter = number_there 4 8 40 bs (omega arith) in
    let epoch = number_there 4 12 36 bs (omega arith) in
    let iv = number_there 8 16 32 bs (omega arith) in
    let session = number_there 2 24 24 bs (omega arith) in
    let index = number_there 2 26 22 bs (omega arith) in
    let info = number_there 4 28 20 bs (omega arith) in
    let gpa = number_there 8 32 16 bs (omega arith) in
    let total = number_there 8 40 8 bs (omega arith) in
    λ j. record { size = size j; version = version j; stream = stream j; kind = kind j; reserved = reserved j; counter = counter j; epoch = epoch j; iv = iv j; session = session j; index = index j; info = info j; gpa = gpa j; total = total j }

-- the tag isn't judged
untagged : (h : Header) (n : ℕ) → clear_of (judged h n) ≡ clear_of (judged (with_tag [] (clear_header h)) n)
untagged h n =
    by_test (not (h.size == 64)) (λ y. rw y refl) (λ y.
    by_test (not (h.version == 1)) (λ z. rw (y, z) refl) (λ z. rw (y, z) (by_kind (kind_of h.kind))))
  where
    by_kind : (k : Option BundleKind) → clear_of (judged_by_kind h n k) ≡ clear_of (judged_by_kind (with_tag [] (clear_header h)) n k)
    by_kind None = refl
    by_kind (Some k) =
        by_test (uses_unused h (allowed k)) (λ y. rw y refl) (λ y.
        by_test (is_outside h (allowed k)) (λ z. rw (y, z) refl) (λ z.
        by_test (not (n == 64 + (allowed k).payload)) (λ v. rw (y, z, v) refl) (λ v. rw (y, z, v) refl)))

-- what is read of a header and a length
abbrev read_as : ℕ → ClearHeader → Result ClearHeader HeaderField
read_as n c = if nat_lt n 64 then Err field.Short else clear_of (judged (with_tag [] c) n)

told_by : (bs : List ℕ) → clear_of (bundle_in bs) ≡ read_as (length bs) (clear_header (header_in bs))
told_by bs = by_test (nat_lt (length bs) 64) (λ y. rw y refl) (λ y. rw y (untagged (header_in bs) (length bs)))

same_read : (a b : List ℕ) → length a ≡ length b → take 48 a ≡ take 48 b → clear_of (bundle_in a) ≡ clear_of (bundle_in b)
same_read a b long head =
    let heads : clear_header (header_in a) ≡ clear_header (header_in b) = sym (head_told a) ∙ (ap (λ (bs : List ℕ). clear_header (header_in bs)) head ∙ head_told b) in
    told_by a ∙ ((λ j. read_as (long j) (heads j)) ∙ sym (told_by b))

-- a header that is read is that of the bytes
judged_is : (h k : Header) (n : ℕ) → judged h n ≡ Ok k → h ≡ k
judged_is h k n e = passed (not (h.size == 64)) _ _ e (λ e. passed (not (h.version == 1)) _ _ e (of_kind (kind_of h.kind)))
  where
    passed : (b : Bool) (f : HeaderField) (r : Result Header HeaderField) → (if b then Err f else r) ≡ Ok k → (r ≡ Ok k → h ≡ k) → h ≡ k
    passed true f r e go = cc
    passed false f r e go = go e

    of_kind : (o : Option BundleKind) → judged_by_kind h n o ≡ Ok k → h ≡ k
    of_kind None e = cc
    of_kind (Some o) e = passed (uses_unused h (allowed o)) _ _ e (λ e. passed (is_outside h (allowed o)) _ _ e (λ e. passed (not (n == 64 + (allowed o).payload)) _ _ e (λ e. cc)))

kind_read : (bs : List ℕ) (h : Header) → bundle_in bs ≡ Ok h → h.kind ≡ slice_index bs 6
kind_read bs h e = by_test (nat_lt (length bs) 64) (λ y. absurd (let q = rw y at e in cc)) (λ y. ap (λ (k : Header). k.kind) (sym (judged_is (header_in bs) h (length bs) (rw y at e))))

-- ---- what it opens to

length-words_in : (bytes : List ℕ) → length (words_in bytes) ≡ length bytes / 8
length-words_in bytes = length-map-range_with_len (λ (k : ℕ). little_number 8 (drop (8 * k) bytes)) 0 (length bytes / 8)

-- how many words a text opens to
abbrev as_many : Bool → ℕ → ℕ
as_many right n = if right then n else 0

length-opened_words : (forward backward : List ℕ) (h : Header) (text : List ℕ) → length (opened_words forward backward h text) ≡ as_many (is_right forward backward h text) (length text / 8)
length-opened_words forward backward h text =
    by_test (is_right forward backward h text) (λ y. rw y (length-words_in _ ∙ ap (λ (n : ℕ). n / 8) (length-mixed _ _ text))) (λ y. rw y refl)

-- words that are hidden
no_words : (xs ys : List ℕ) → length xs ≡ length ys → map (λ (x : ℕ). let z : ℕ = 0 in z) xs ≡ map (λ (x : ℕ). let z : ℕ = 0 in z) ys
no_words [] [] e = refl
no_words (x ∷ xs) (y ∷ ys) e = ap (λ (zs : List ℕ). 0 ∷ zs) (no_words xs ys (omega (arith, e)))
no_words [] (y ∷ ys) e = absurd (omega (arith, e))
no_words (x ∷ xs) [] e = absurd (omega (arith, e))

ok_clear : (a b : ClearHeader) → (let r : Result ClearHeader HeaderField = Ok a in r ≡ Ok b) → a ≡ b
ok_clear a b e = cc

module _ (forward backward forward' backward' : List ℕ) where
  comes_agreeing : (x y : List ℕ) (r r' : Result Header HeaderField) → clear_of r ≡ clear_of r' → length x ≡ length y
      → (opened_by forward backward x r).«opens» ≡ (opened_by forward' backward' y r').«opens»
      → ((h : Header) → r ≡ Ok h → is_private_kind h.kind ≡ false → (opened_by forward backward x r).payload ≡ (opened_by forward' backward' y r').payload)
      → blind_bundle (opened_by forward backward x r) ≡ blind_bundle (opened_by forward' backward' y r')
  comes_agreeing x y (Err f) (Err g) same long verdict words = λ j. record { header = same j; «opens» = false; payload = [] }
  comes_agreeing x y (Ok h) (Ok k) same long verdict words =
      let kinds : h.kind ≡ k.kind = ap (λ (c : ClearHeader). c.kind) (ok_clear (clear_header h) (clear_header k) same) in
      let p : List ℕ = opened_words forward backward h (drop 64 x) in
      let q : List ℕ = opened_words forward' backward' k (drop 64 y) in
      let texts : length (drop 64 x) ≡ length (drop 64 y) = omega (arith, length-drop 64 x, length-drop 64 y, long) in
      let counts : length p ≡ length q =
      length-opened_words forward backward h (drop 64 x) ∙ ((λ j. as_many (verdict j) (texts j / 8)) ∙ sym (length-opened_words forward' backward' k (drop 64 y))) in
      let told : (if is_private_kind h.kind then map (λ (z : ℕ). let n : ℕ = 0 in n) p else p) ≡ (if is_private_kind k.kind then map (λ (z : ℕ). let n : ℕ = 0 in n) q else q) =
      by_test (is_private_kind h.kind)
      (λ u. rw (u, subst (λ (n : ℕ). is_private_kind n ≡ true) kinds u) (no_words p q counts))
      (λ u. rw (u, subst (λ (n : ℕ). is_private_kind n ≡ false) kinds u) (words h refl u)) in
      λ j. record { header = same j; «opens» = verdict j; payload = told j }
  comes_agreeing x y (Ok h) (Err g) same long verdict words = cc
  comes_agreeing x y (Err f) (Ok k) same long verdict words = cc

  one_agrees : (b c : BundleSeen) → ComesAlike forward backward forward' backward' b c → blind_bundle (opened forward backward b.bytes) ≡ blind_bundle (opened forward' backward' c.bytes)
  one_agrees b c a =
      comes_agreeing b.bytes c.bytes (bundle_in b.bytes) (bundle_in c.bytes) (same_read b.bytes c.bytes a.long a.head) a.long a.verdict
      (λ h e private. a.words (subst (λ (n : ℕ). is_private_kind n ≡ false) (kind_read b.bytes h e) private))

  pub all_agree : (bs cs : List BundleSeen) → ComeAlike forward backward forward' backward' bs cs
      → (slot : ℕ) → option_map blind_bundle (at_slot (map (incoming_in forward backward) bs) slot) ≡ option_map blind_bundle (at_slot (map (incoming_in forward' backward') cs) slot)
  all_agree [] [] alike slot = refl
  all_agree (b ∷ bs) (c ∷ cs) (one, rest) slot =
      by_test (b.slot == slot)
      (λ y. rw (y, subst (λ (n : ℕ). (n == slot) ≡ true) one.slot y) (ap (λ (x : Incoming). Some x) (one_agrees b c one)))
      (λ y. rw (y, subst (λ (n : ℕ). (n == slot) ≡ false) one.slot y) (all_agree bs cs rest slot))
  all_agree [] (c ∷ cs) alike slot = absurd alike
  all_agree (b ∷ bs) [] alike slot = absurd alike

pub alike_come_in_agreeing : AlikeComeInAgreeing
alike_come_in_agreeing = all_agree

-- ---- what two worlds seal

as_long : (private : Bool) (ws : List ℕ) → length ws ≡ length (if private then map (λ (x : ℕ). let z : ℕ = 0 in z) ws else ws)
as_long true ws = sym (length-map {A = ℕ} {B = ℕ} ws (λ x. 0))
as_long false ws = refl

same_heads : (m n : Made) (ms ns : List Made) → m ∷ ms ≡ n ∷ ns → (m ≡ n) × (ms ≡ ns)
same_heads m n ms ns e = (cc, cc)

module _ (forward backward forward' backward' : List ℕ) where
  sealed_alike : (m n : Made) → IsWhole forward backward m → IsWhole forward' backward' n → public_bundle m ≡ public_bundle n → ComesAlike forward backward forward' backward' (sealed forward backward m) (sealed forward' backward' n)
  sealed_alike m n whole whole' same =
      let header = ap (λ (b : Made). b.header) same in
      let own = sealed-comes-in forward backward m whole in
      let other = sealed-comes-in forward' backward' n whole' in
      let payloads : blind_words (Ok m.header) m.payload ≡ blind_words (Ok n.header) n.payload = ap (λ (b : Made). b.payload) same in
      let long : length m.payload ≡ length n.payload =
      as_long (is_private_kind m.header.kind) m.payload ∙ (ap (λ (ws : List ℕ). length ws) payloads ∙ sym (as_long (is_private_kind n.header.kind) n.payload)) in
      record {
        slot = ap (λ (b : Made). b.slot) same;
        long = omega (arith, length-sealed_bytes forward backward m, length-sealed_bytes forward' backward' n, long);
        head = ap additional_bytes header;
        verdict = ap (λ (b : Incoming). b.«opens») own ∙ sym (ap (λ (b : Incoming). b.«opens») other);
        words = λ public. ap (λ (b : Incoming). b.payload) own ∙ (told public payloads (ap (λ (h : ClearHeader). h.kind) header) ∙ sym (ap (λ (b : Incoming). b.payload) other));
      }
    where
      told : is_private_kind m.header.kind ≡ false → blind_words (Ok m.header) m.payload ≡ blind_words (Ok n.header) n.payload → m.header.kind ≡ n.header.kind → m.payload ≡ n.payload
      told public payloads kinds = rw (public, subst (λ (k : ℕ). is_private_kind k ≡ false) kinds public) at payloads

  each_alike : (ms ns : List Made) → All (IsWhole forward backward) ms → All (IsWhole forward' backward') ns → map public_bundle ms ≡ map public_bundle ns
      → ComeAlike forward backward forward' backward' (map (sealed forward backward) ms) (map (sealed forward' backward') ns)
  each_alike [] [] whole whole' same = tt
  each_alike (m ∷ ms) (n ∷ ns) whole whole' same =
      let (first, rest) = same_heads (public_bundle m) (public_bundle n) (map public_bundle ms) (map public_bundle ns) same in (
        sealed_alike m n (All-head (IsWhole forward backward) m ms whole) (All-head (IsWhole forward' backward') n ns whole') first,
        each_alike ms ns (All-tail (IsWhole forward backward) m ms whole) (All-tail (IsWhole forward' backward') n ns whole') rest,
      )
  each_alike [] (n ∷ ns) whole whole' same = cc
  each_alike (m ∷ ms) [] whole whole' same = cc

pub sealed_come_alike : SealedComeAlike
sealed_come_alike forward backward forward' backward' these those whole whole' same =
    each_alike forward backward forward' backward' (in_slot_order these) (in_slot_order those)
    (order_holds (IsWhole forward backward) these (all_whole forward backward these whole)) (order_holds (IsWhole forward' backward') those (all_whole forward' backward' those whole'))
    (public_order these ∙ (ap in_slot_order same ∙ sym (public_order those)))
