-- How long sealed bundles are.
use Rattle.std.proofs.Common.{◌≡◌, ◌+◌, ◌*◌, ◌^◌, ℕ, replicate, List, [], ◌∷◌, length, length-append, refl, arith, slice_index, ◌/◌, ◌%◌, bit_xor}
use Rattle.std.specs.Int.{w128, from_be_bytes}
use Rattle.byteorder.specs.Numbers.{length-bytes_high_first}
use Rattle.aes_block.specs.Aes.{cipher}
use Rattle.gcm_seal.specs.Gcm.{mul, blocks, absorbed, counter_block, mixed, tag_bytes}
use Rattle.gcm_seal.proofs.Mixing.{tabulate-length}
use Rattle.flat_core.specs.World.{Made}
use Rattle.flat_core.specs.Digests.{digest_bytes as word_bytes}
use Rattle.bundle_texts.specs.Sealed.{additional_bytes, iv_bytes, key_of, tag_of, sealed_payload, sealed_bytes}

pub length-mixed : (key iv text : List ℕ) → length (mixed key iv text) ≡ length text
unfolding mixed
length-mixed key iv text =
    tabulate-length 0 (length text) (λ k. bit_xor (slice_index text k) (slice_index (cipher key (counter_block iv (k / 16 + 2))) (k % 16)))

pub length-tag_bytes : (key iv aad text : List ℕ) → length (tag_bytes key iv aad text) ≡ 16
unfolding tag_bytes
length-tag_bytes key iv aad text =
    let h = from_be_bytes w128 (cipher key (replicate 16 0)) in
    let y = absorbed h (absorbed h 0 aad (blocks aad)) text (blocks text) in
    let s = mul (bit_xor y (length aad * 8 * 2 ^ 64 + length text * 8)) h in
    length-bytes_high_first 16 (bit_xor s (from_be_bytes w128 (cipher key (counter_block iv 1))))

pub length-word_bytes : (ws : List ℕ) → length (word_bytes ws) ≡ 8 * length ws
length-word_bytes [] = refl
length-word_bytes (w ∷ ws) = omega (arith, length-word_bytes ws)

pub length-sealed_bytes : (forward backward : List ℕ) (m : Made) → length (sealed_bytes forward backward m) ≡ 64 + 8 * length m.payload
length-sealed_bytes forward backward m =
    let key = key_of forward backward m.header in
    let iv = iv_bytes m.header in
    let tag = length-tag_bytes key iv (additional_bytes m.header) (sealed_payload forward backward m) in
    let payload = length-mixed key iv (word_bytes m.payload) in
    omega (arith, tag, payload, length-word_bytes m.payload, length-append (tag_of forward backward m) (sealed_payload forward backward m))
