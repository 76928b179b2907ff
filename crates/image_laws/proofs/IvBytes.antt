-- The bytes of a bundle's IV are those of its number, so no two bundles under one key have the same.
use Rattle.std.proofs.Common.{◌≡◌, ◌≢◌, sym, ◌∙◌, ap, ℕ, ◌+◌, ◌*◌, ◌^◌, ◌<◌, List, [], ◌∷◌, ◌++◌, ◌==◌, refl, get_or, arith}
use Rattle.std.specs.Int.{byte_at}
use Rattle.std.proofs.lemmas.List.Elements.{All-weaker}
use Rattle.byteorder.specs.Endian.{little_bytes, little_number}
use Rattle.byteorder.specs.Numbers.{little_number-reads_back}
use Rattle.flat_core.specs.World.{Made}
use Rattle.flat_core.specs.Event.{start, event}
use Rattle.flat_core.specs.Run.{bundles_in}
use Rattle.flat_core.specs.Laws.{with_bundles, reached}
use Rattle.flat_core.proofs.Tests.{by_test}
use Rattle.mig_laws.specs.Ivs.{is_forward, FitsIv, iv_of, AreSealedOnce, HaveOwnIvs}
use Rattle.mig_laws.proofs.Source.{source_kept, own_ivs, no_iv_comes_twice}
use Rattle.bundle_texts.specs.Sealed.{key_of, iv_bytes}
use Rattle.image_laws.specs.IvBytes.{KeysGoByType, UseIvsOnce, HaveOwnIvBytes, IvBytesAreKept, NoIvIsUsedTwice}

-- the bytes of a number of 96 bits, of which the stream is the lowest 16, the session the next 16, and the iv the rest
parts : (stream session iv : ℕ) → stream < 2 ^ 8 → session < 2 ^ 16
    → little_bytes 1 stream ++ (0 ∷ (little_bytes 2 session ++ little_bytes 8 iv)) ≡ little_bytes 12 (stream + (2 ^ 16 * session + 2 ^ 32 * iv))
parts stream session iv s n =
    let x : ℕ = stream + (2 ^ 16 * session + 2 ^ 32 * iv) in
    let b0 : byte_at 0 stream ≡ byte_at 0 x = omega (arith, s, n) in
    let b1 : 0 ≡ byte_at 1 x = omega (arith, s, n) in
    let b2 : byte_at 0 session ≡ byte_at 2 x = omega (arith, s, n) in
    let b3 : byte_at 1 session ≡ byte_at 3 x = omega (arith, s, n) in
    let b4 : byte_at 0 iv ≡ byte_at 4 x = omega (arith, s, n) in
    let b5 : byte_at 1 iv ≡ byte_at 5 x = omega (arith, s, n) in
    let b6 : byte_at 2 iv ≡ byte_at 6 x = omega (arith, s, n) in
    let b7 : byte_at 3 iv ≡ byte_at 7 x = omega (arith, s, n) in
    let b8 : byte_at 4 iv ≡ byte_at 8 x = omega (arith, s, n) in
    let b9 : byte_at 5 iv ≡ byte_at 9 x = omega (arith, s, n) in
    let b10 : byte_at 6 iv ≡ byte_at 10 x = omega (arith, s, n) in
    let b11 : byte_at 7 iv ≡ byte_at 11 x = omega (arith, s, n) in
    λ j. b0 j ∷ b1 j ∷ b2 j ∷ b3 j ∷ b4 j ∷ b5 j ∷ b6 j ∷ b7 j ∷ b8 j ∷ b9 j ∷ b10 j ∷ b11 j ∷ []

number_bytes : (m : Made) → FitsIv m → iv_bytes m.header ≡ little_bytes 12 (iv_of m)
number_bytes m f = parts m.header.stream m.header.session m.header.iv f.stream f.session

number_back : (m : Made) → FitsIv m → little_number 12 (iv_bytes m.header) ≡ iv_of m
number_back m f =
    let s = f.stream in let n = f.session in let i = f.iv in
    ap (little_number 12) (number_bytes m f) ∙ little_number-reads_back 12 (iv_of m) [] (omega (arith, s, n, i))

pub keys_go_by_type : KeysGoByType
keys_go_by_type forward backward m = by_test (m.header.kind == 6) (λ y. rw y refl) (λ y. rw y refl)

same_way : (forward backward : List ℕ) (a b : Made) → forward ≢ backward → key_of forward backward a.header ≡ key_of forward backward b.header → is_forward a ≡ is_forward b
same_way forward backward a b differ same =
    by_test (a.header.kind == 6)
    (λ y. by_test (b.header.kind == 6) (λ z. rw (y, z) refl) (λ z. absurd (differ (sym (rw (y, z) at same)))))
    (λ y. by_test (b.header.kind == 6) (λ z. absurd (differ (rw (y, z) at same))) (λ z. rw (y, z) refl))

used_once : (forward backward : List ℕ) → forward ≢ backward → (bundles : List Made) → AreSealedOnce bundles → HaveOwnIvs bundles → UseIvsOnce forward backward bundles
used_once forward backward differ bundles h own i j d less within key same =
    let a : Made = get_or bundles i d in
    let b : Made = get_or bundles j d in
    own i j d less within (same_way forward backward a b differ key)
    (sym (number_back a (h.fit i d (omega (arith, less, within)))) ∙ ap (little_number 12) same ∙ number_back b (h.fit j d within))

own_bytes : (bundles : List Made) → AreSealedOnce bundles → HaveOwnIvBytes bundles
own_bytes bundles h = record {
  numbers = All-weaker FitsIv (λ m. iv_bytes m.header ≡ little_bytes 12 (iv_of m)) number_bytes bundles h.fit;
  once = λ forward backward differ. used_once forward backward differ bundles h (own_ivs bundles h);
}

pub iv_bytes_are_kept : IvBytesAreKept
iv_bytes_are_kept = record {
  start = λ o ws. (let h = source_kept.start o ws in (h, own_bytes (bundles_in (start o ws)) h.1.ivs.sealed));
  event = λ o bundles s p h. (let next = source_kept.event o bundles s p h.0 in (next, own_bytes (bundles_in (event (with_bundles o bundles) s p)) next.1.ivs.sealed));
}

pub no_iv_is_used_twice : NoIvIsUsedTwice
no_iv_is_used_twice o ws schedule = own_bytes (bundles_in (reached o ws schedule)) (no_iv_comes_twice o ws schedule).0
