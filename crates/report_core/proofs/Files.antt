-- Files of reports.
use Rattle.std.proofs.Common.{◌≡◌, Bool, true, false, not, refl, sym, ◌∙◌, ap, ℕ, ◌*◌, List, [], ◌∷◌, ◌++◌, take, drop, length, slice_index, codes, Ok, arith}
use Rattle.std.specs.Result.{result_unwrap_or}
use Rattle.std.proofs.lemmas.List.{take_at, take_all, take_more, length-append, length-take-le, length-drop, get_or-append_right}
use Rattle.std.specs.Str.{bytes_eq}
use Rattle.std.proofs.lemmas.Slice.Eq.{bytes_eq-Decides}
use Rattle.hex.specs.Hex.{decode_of, decode_sized}
use Rattle.hex.proofs.HexLemmas.{decode_of-ok, decode_of-digits, decode_sized-twice}
use Rattle.report_core.specs.declared.facts.Facts.{Facts}
use Rattle.report_core.specs.Hmac.{hmac_sha384}
use Rattle.report_core.specs.Report.{report_of, AreFacts, facts_in, IsFileOf, HasLength, HasDigits, HasMagic, HasMac, bytes_in}
use Rattle.report_core.proofs.Pieces.{long_report, facts_long, report_in, text_of, mac_of, read_report}

-- a file of the right length is its digits and a newline
pub ends_in_newline : (file : List ℕ) → HasLength file → file ≡ take 720 file ++ 10 ∷ []
ends_in_newline file h =
    let long = h.0 in
    sym (take_all 721 file (omega (arith, long))) ∙ take_more file 720 0 (omega (arith, long)) ∙ ap (λ c. take 720 file ++ c ∷ []) h.1

module _ (key file : List ℕ) (f : Facts) (a : AreFacts f) (h : IsFileOf key file f) where
  digits_long : length h.0 ≡ 720
  digits_long =
      let ok = decode_of-ok h.0 (report_of key f) h.2 in
      let twice = ok.2 in
      let long = long_report key f a in
      omega (arith, twice, long)

  pub digits_are : take 720 file ≡ h.0
  digits_are = ap (take 720) h.1 ∙ take_at h.0 (10 ∷ []) 720 digits_long

  pub file_long : HasLength file
  file_long =
      let d = digits_long in
      let all = length-append h.0 (10 ∷ []) in
      let long : length (h.0 ++ 10 ∷ []) ≡ 721 = omega (arith, d, all) in
      (ap length h.1 ∙ long, ap (λ l. slice_index l 720) h.1 ∙ get_or-append_right h.0 (10 ∷ []) 720 720 0 d (omega arith))

  pub file_decodes : decode_of (take 720 file) ≡ Ok (report_of key f)
  file_decodes = ap decode_of digits_are ∙ h.2

  pub file_decodes_sized : decode_sized (take 720 file) 360 ≡ Ok (report_of key f)
  file_decodes_sized =
      let d = digits_long in
      let long : length (take 720 file) ≡ 2 * 360 = ap length digits_are ∙ omega (arith, d) in
      decode_sized-twice (take 720 file) 360 long ∙ file_decodes

-- what a file of the right length decodes to
pub decoded : (file b : List ℕ) → HasLength file → decode_sized (take 720 file) 360 ≡ Ok b → decode_of (take 720 file) ≡ Ok b
decoded file b h e =
    let long = h.0 in
    let short : length (take 720 file) ≡ 720 = length-take-le 720 file (omega (arith, long)) in
    sym (decode_sized-twice (take 720 file) 360 (omega (arith, short))) ∙ e

pub bytes_are : (file b : List ℕ) → decode_of (take 720 file) ≡ Ok b → bytes_in file ≡ b
bytes_are file b e = ap (λ r. result_unwrap_or r []) e

pub is_file : (key file b : List ℕ) → HasLength file → decode_of (take 720 file) ≡ Ok b → take 8 b ≡ codes "TDXREP01" → drop 312 b ≡ hmac_sha384 key (take 312 b)
    → IsFileOf key file (facts_in b)
is_file key file b h e magic mac = (take 720 file, ends_in_newline file h, e ∙ ap Ok (report_in key b magic mac))

-- digits decode
pub digits_decode : (file : List ℕ) → HasLength file → HasDigits file → (b : List ℕ) × (decode_sized (take 720 file) 360 ≡ Ok b)
digits_decode file h all =
    let long = h.0 in
    let short : length (take 720 file) ≡ 720 = length-take-le 720 file (omega (arith, long)) in
    let r = decode_of-digits (take 720 file) (omega (arith, short)) all in
    (r.0, decode_sized-twice (take 720 file) 360 (omega (arith, short)) ∙ r.1)

-- what a comparison of bytes says
not_false : (b : Bool) → not b ≡ false → b ≡ true
not_false true e = refl
not_false false e = cc e

not_true : (b : Bool) → not b ≡ true → b ≡ true → ⊥
not_true true e k = cc e
not_true false e k = cc k

pub alike : (b : Bool) (xs ys zs : List ℕ) → b ≡ not (bytes_eq xs ys) → b ≡ false → ys ≡ zs → xs ≡ zs
alike b xs ys zs is was e = (bytes_eq-Decides xs ys).0 (not_false (bytes_eq xs ys) (sym is ∙ was)) ∙ e

pub unlike : (b : Bool) (xs ys zs : List ℕ) → b ≡ not (bytes_eq xs ys) → b ≡ true → ys ≡ zs → xs ≡ zs → ⊥
unlike b xs ys zs is was e same = not_true (bytes_eq xs ys) (sym is ∙ was) ((bytes_eq-Decides xs ys).1 (same ∙ sym e))

-- the bytes of a file that decodes
module _ (key file b : List ℕ) (h : HasLength file) (e : decode_sized (take 720 file) 360 ≡ Ok b) where
  pub all_digits : HasDigits file
  all_digits = (decode_of-ok (take 720 file) b (decoded file b h e)).1

  bytes_long : length b ≡ 360
  bytes_long =
      let ok = decode_of-ok (take 720 file) b (decoded file b h e) in
      let twice = ok.2 in
      let long = h.0 in
      let short : length (take 720 file) ≡ 720 = length-take-le 720 file (omega (arith, long)) in
      omega (arith, twice, short)

  pub end_is : take 48 (drop 312 b) ≡ drop 312 b
  end_is =
      let long = bytes_long in
      let rest = length-drop 312 b in
      take_all 48 (drop 312 b) (omega (arith, long, rest))

  pub seen : bytes_in file ≡ b
  seen = bytes_are file b (decoded file b h e)

  pub magic_seen : HasMagic file → take 8 b ≡ codes "TDXREP01"
  magic_seen m = ap (take 8) (sym seen) ∙ m

  pub magic_there : take 8 b ≡ codes "TDXREP01" → HasMagic file
  magic_there m = ap (take 8) seen ∙ m

  pub mac_seen : HasMac key file → take 48 (drop 312 b) ≡ hmac_sha384 key (take 312 b)
  mac_seen m = end_is ∙ ap (drop 312) (sym seen) ∙ m ∙ ap (λ l. hmac_sha384 key (take 312 l)) seen

  pub told : take 8 b ≡ codes "TDXREP01" → take 48 (drop 312 b) ≡ hmac_sha384 key (take 312 b) → AreFacts (facts_in b) × IsFileOf key file (facts_in b)
  told magic mac = (facts_long b bytes_long, is_file key file b h (decoded file b h e) magic (sym end_is ∙ mac))

  pub is_report : (f : Facts) → AreFacts f → IsFileOf key file f → b ≡ report_of key f
  is_report f a file_is = ap (λ r. result_unwrap_or r []) (sym e ∙ file_decodes_sized key file f a file_is)

  pub report_magic : (f : Facts) → AreFacts f → IsFileOf key file f → take 8 b ≡ codes "TDXREP01"
  report_magic f a file_is = ap (take 8) (is_report f a file_is)

  pub report_mac : (f : Facts) → AreFacts f → IsFileOf key file f → take 48 (drop 312 b) ≡ hmac_sha384 key (take 312 b)
  report_mac f a file_is =
      let same = is_report f a file_is in
      end_is ∙ ap (drop 312) same ∙ mac_of key f a ∙ ap (hmac_sha384 key) (sym (text_of key f a)) ∙ ap (λ l. hmac_sha384 key (take 312 l)) (sym same)

  pub report_facts : (f : Facts) → AreFacts f → IsFileOf key file f → facts_in b ≡ f
  report_facts f a file_is = ap facts_in (is_report f a file_is) ∙ read_report key f a
