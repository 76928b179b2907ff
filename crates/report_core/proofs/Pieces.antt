-- The pieces of a report, each at its place.
use Rattle.std.proofs.Common.{◌≡◌, refl, sym, ◌∙◌, ap, ℕ, suc, ◌+◌, ◌≤◌, List, [], ◌∷◌, ◌++◌, take, drop, length, codes, arith}
use Rattle.std.proofs.lemmas.List.{append_assoc, take_at, take_all, take-append-drop, take-take, drop-take, length-append, length-drop, length-take-le}
use Rattle.sha2.proofs.Facts512.{length-sha384}
use Rattle.report_core.specs.declared.facts.Facts.{Facts}
use Rattle.report_core.specs.Hmac.{hmac_sha384}
use Rattle.report_core.specs.Report.{report_text, report_of, AreFacts, facts_in, ReportsDiffer}

pub skip : (n k : ℕ) (xs ys : List ℕ) → n ≡ length xs + k → drop n (xs ++ ys) ≡ drop k ys
skip n k [] ys e = ap (λ m. drop m ys) (omega arith)
skip n k (x ∷ xs) ys e = let more : n ≡ suc (length xs + k) = omega arith in rw more (skip (length xs + k) k xs ys refl)

-- the first bytes and those behind them are more of the first
pub join : (n k m : ℕ) (xs : List ℕ) → m ≡ n + k → take m xs ≡ take n xs ++ take k (drop n xs)
join n k m xs e =
    let whole = take-append-drop n (take (n + k) xs) in
    rw e (sym (rw (take-take n (n + k) xs (omega arith), drop-take n k xs) at whole))

pub join_on : (n k m : ℕ) (xs ys : List ℕ) → m ≡ n + k → take n xs ++ (take k (drop n xs) ++ ys) ≡ take m xs ++ ys
join_on n k m xs ys e = sym (append_assoc (take n xs) (take k (drop n xs)) ys) ∙ ap (λ l. l ++ ys) (sym (join n k m xs e))

-- a MAC has 48 bytes, and what it is of has 312
pub long_mac : (key text : List ℕ) → length (hmac_sha384 key text) ≡ 48
long_mac key text = length-sha384 _

pub long_text : (f : Facts) → AreFacts f → length (report_text f) ≡ 312
long_text f a =
    let g = length-append f.rtmr3 f.given in
    let d = length-append f.rtmr2 (f.rtmr3 ++ f.given) in
    let c = length-append f.rtmr1 (f.rtmr2 ++ (f.rtmr3 ++ f.given)) in
    let b = length-append f.rtmr0 (f.rtmr1 ++ (f.rtmr2 ++ (f.rtmr3 ++ f.given))) in
    let e = length-append f.mrtd (f.rtmr0 ++ (f.rtmr1 ++ (f.rtmr2 ++ (f.rtmr3 ++ f.given)))) in
    let all : length (report_text f) ≡ 8 + length (f.mrtd ++ (f.rtmr0 ++ (f.rtmr1 ++ (f.rtmr2 ++ (f.rtmr3 ++ f.given))))) =
    length-append (codes "TDXREP01") (f.mrtd ++ (f.rtmr0 ++ (f.rtmr1 ++ (f.rtmr2 ++ (f.rtmr3 ++ f.given))))) in
    omega (arith, all, g, d, c, b, e, a.mrtd, a.rtmr0, a.rtmr1, a.rtmr2, a.rtmr3, a.given)

-- the text and the MAC of a report
pub text_of : (key : List ℕ) (f : Facts) → AreFacts f → take 312 (report_of key f) ≡ report_text f
text_of key f a = take_at (report_text f) (hmac_sha384 key (report_text f)) 312 (long_text f a)

pub mac_of : (key : List ℕ) (f : Facts) → AreFacts f → drop 312 (report_of key f) ≡ hmac_sha384 key (report_text f)
mac_of key f a = let long = long_text f a in skip 312 0 (report_text f) (hmac_sha384 key (report_text f)) (omega (arith, long))

pub long_report : (key : List ℕ) (f : Facts) → AreFacts f → length (report_of key f) ≡ 360
long_report key f a =
    let text = long_text f a in
    let mac = long_mac key (report_text f) in
    let all = length-append (report_text f) (hmac_sha384 key (report_text f)) in
    omega (arith, text, mac, all)

-- the facts of a report's text are read from it
module _ (f : Facts) (a : AreFacts f) where
  read_text : facts_in (report_text f) ≡ f
  read_text =
      let t5 : List ℕ = f.given in
      let t4 : List ℕ = f.rtmr3 ++ t5 in
      let t3 : List ℕ = f.rtmr2 ++ t4 in
      let t2 : List ℕ = f.rtmr1 ++ t3 in
      let t1 : List ℕ = f.rtmr0 ++ t2 in
      let t0 : List ℕ = f.mrtd ++ t1 in
      let m : List ℕ = codes "TDXREP01" in
      let lm = a.mrtd in
      let l0 = a.rtmr0 in
      let l1 = a.rtmr1 in
      let l2 = a.rtmr2 in
      let l3 = a.rtmr3 in
      let l4 = a.given in
      let d0 : drop 8 (m ++ t0) ≡ t0 = refl in
      let d1 : drop 56 (m ++ t0) ≡ t1 = skip 56 48 m t0 refl ∙ skip 48 0 f.mrtd t1 (omega (arith, lm)) in
      let d2 : drop 104 (m ++ t0) ≡ t2 = skip 104 96 m t0 refl ∙ skip 96 48 f.mrtd t1 (omega (arith, lm)) ∙ skip 48 0 f.rtmr0 t2 (omega (arith, l0)) in
      let d3 : drop 152 (m ++ t0) ≡ t3 = skip 152 144 m t0 refl ∙ skip 144 96 f.mrtd t1 (omega (arith, lm)) ∙ skip 96 48 f.rtmr0 t2 (omega (arith, l0)) ∙ skip 48 0 f.rtmr1 t3 (omega (arith, l1)) in
      let d4 : drop 200 (m ++ t0) ≡ t4 =
      skip 200 192 m t0 refl ∙ skip 192 144 f.mrtd t1 (omega (arith, lm)) ∙ skip 144 96 f.rtmr0 t2 (omega (arith, l0)) ∙ skip 96 48 f.rtmr1 t3 (omega (arith, l1)) ∙ skip 48 0 f.rtmr2 t4 (omega (arith, l2)) in
      let d5 : drop 248 (m ++ t0) ≡ t5 =
      skip 248 240 m t0 refl ∙ skip 240 192 f.mrtd t1 (omega (arith, lm)) ∙ skip 192 144 f.rtmr0 t2 (omega (arith, l0)) ∙ skip 144 96 f.rtmr1 t3 (omega (arith, l1)) ∙ skip 96 48 f.rtmr2 t4 (omega (arith, l2)) ∙ skip 48 0 f.rtmr3 t5 (omega (arith, l3)) in
      rw (
        d1,
        d2,
        d3,
        d4,
        d5,
        take_at f.mrtd t1 48 lm,
        take_at f.rtmr0 t2 48 l0,
        take_at f.rtmr1 t3 48 l1,
        take_at f.rtmr2 t4 48 l2,
        take_at f.rtmr3 t5 48 l3,
        take_all 64 f.given (omega (arith, l4)),
      ) refl

-- so different texts are of different facts
pub same_facts : (f g : Facts) → AreFacts f → AreFacts g → report_text f ≡ report_text g → f ≡ g
same_facts f g a b e = sym (read_text f a) ∙ ap facts_in e ∙ read_text g b

pub reports_differ : ReportsDiffer
reports_differ key other f g a b e = same_facts f g a b (sym (text_of key f a) ∙ ap (take 312) e ∙ text_of other g b)

-- the facts in a report's bytes are those of its text
pub text_in : (b : List ℕ) → take 8 b ≡ codes "TDXREP01" → report_text (facts_in b) ≡ take 312 b
text_in b magic =
    ap (λ l. l ++ (take 48 (drop 8 b) ++ (take 48 (drop 56 b) ++ (take 48 (drop 104 b) ++ (take 48 (drop 152 b) ++ (take 48 (drop 200 b) ++ take 64 (drop 248 b))))))) (sym magic)
    ∙ join_on 8 48 56 b _ refl ∙ join_on 56 48 104 b _ refl ∙ join_on 104 48 152 b _ refl ∙ join_on 152 48 200 b _ refl ∙ join_on 200 48 248 b _ refl
    ∙ sym (join 248 64 312 b refl)

pub report_in : (key b : List ℕ) → take 8 b ≡ codes "TDXREP01" → drop 312 b ≡ hmac_sha384 key (take 312 b) → b ≡ report_of key (facts_in b)
report_in key b magic mac =
    let text = text_in b magic in
    sym (take-append-drop 312 b) ∙ ap (λ l. take 312 b ++ l) mac ∙ ap (λ t. t ++ hmac_sha384 key t) (sym text)

-- the facts in a report's bytes have their lengths
part_long : (n k : ℕ) (b : List ℕ) → n + k ≤ length b → length (take k (drop n b)) ≡ k
part_long n k b fits = let less = length-drop n b in length-take-le k (drop n b) (omega (arith, less))

pub facts_long : (b : List ℕ) → length b ≡ 360 → AreFacts (facts_in b)
facts_long b l = record {
  mrtd = part_long 8 48 b (omega (arith, l));
  rtmr0 = part_long 56 48 b (omega (arith, l));
  rtmr1 = part_long 104 48 b (omega (arith, l));
  rtmr2 = part_long 152 48 b (omega (arith, l));
  rtmr3 = part_long 200 48 b (omega (arith, l));
  given = part_long 248 64 b (omega (arith, l));
}

-- facts that are read from a report as it is made
pub read_report : (key : List ℕ) (f : Facts) → AreFacts f → facts_in (report_of key f) ≡ f
read_report key f a =
    let magic : take 8 (report_of key f) ≡ codes "TDXREP01" = refl in
    let same : report_text (facts_in (report_of key f)) ≡ report_text f = text_in (report_of key f) magic ∙ text_of key f a in
    let long = long_report key f a in
    same_facts (facts_in (report_of key f)) f (facts_long (report_of key f) long) a same

-- a report that is put together, a piece behind another
pub six_pieces : (P : List ℕ → Type 0) (m a b c d e g : List ℕ) → P ((((((m ++ a) ++ b) ++ c) ++ d) ++ e) ++ g) → P (m ++ (a ++ (b ++ (c ++ (d ++ (e ++ g))))))
six_pieces P m a b c d e g h = simp append_assoc at h

pub behind : (m : ℕ) (new old done piece : List ℕ) → take m new ≡ old ++ piece → old ≡ done → take m new ≡ done ++ piece
behind m new old done piece e is = e ∙ ap (λ l. l ++ piece) is
