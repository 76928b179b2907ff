-- AES-256 in Galois counter mode (SP 800-38D), on lists of bytes, with an IV of 12 bytes. A block is also a number below
-- 2^128, its first byte the highest.
use Rattle.std.specs.Prelude.{ℕ, zero, suc, ◌+◌, ◌*◌, ◌/◌, ◌%◌, ◌^◌, List, ◌++◌, length, bit_xor, slice_index, replicate}
use Rattle.std.specs.Int.{w32, w128, from_be_bytes, to_be_bytes}
use Rattle.aes_block.specs.Aes.{tabulate, sixteen, cipher}

-- v times x in the field of 2^128 elements, modulo x^128 + x^7 + x^2 + x + 1, where the highest bit is the coefficient of
-- x^0 (SP 800-38D, "Multiplication Operation on Blocks")
abbrev pub times_x : ℕ → ℕ
times_x v = bit_xor (v / 2) (v % 2 * (0xe1 * 2 ^ 120))

-- the sum of v times x^i over the set bits i of a, of n bits, the highest first
unfoldable pub times : ℕ → ℕ → ℕ → ℕ
times zero a v = 0
times (suc n) a v = bit_xor (a / 2 ^ n % 2 * v) (times n a (times_x v))

-- the product of two blocks
abbrev pub mul : ℕ → ℕ → ℕ
mul a b = times 128 a b

-- block i of a list of bytes, with zeros past its end
abbrev pub block : List ℕ → ℕ → ℕ
block bs i = from_be_bytes w128 (sixteen (λ k. slice_index bs (16 * i + k)))

-- the number of blocks of a list of bytes
abbrev pub blocks : List ℕ → ℕ
blocks bs = (length bs + 15) / 16

-- GHASH: the state y after n blocks of bs under the hash key h (SP 800-38D, "GHASH Function")
unfoldable pub absorbed : ℕ → ℕ → List ℕ → ℕ → ℕ
absorbed h y bs zero = y
absorbed h y bs (suc n) = mul (bit_xor (absorbed h y bs n) (block bs n)) h

-- the counter block of the 32-bit counter n; that of 1 is the first, J0
abbrev pub counter_block : List ℕ → ℕ → List ℕ
counter_block iv n = iv ++ to_be_bytes w32 (n % 2 ^ 32)

-- GCTR from the second counter block on: each byte of the text plus a byte of the key stream (SP 800-38D, "GCTR
-- Function")
unfoldable pub mixed : List ℕ → List ℕ → List ℕ → List ℕ
mixed key iv text = tabulate 0 (length text) (λ k.
    bit_xor (slice_index text k) (slice_index (cipher key (counter_block iv (k / 16 + 2))) (k % 16)))

-- the tag of the additional bytes and the sealed text: GHASH of both and of their lengths in bits, plus the first counter
-- block under the key (SP 800-38D, "Algorithm for the Authenticated Encryption Function")
unfoldable pub tag_bytes : List ℕ → List ℕ → List ℕ → List ℕ → List ℕ
tag_bytes key iv aad sealed =
    let h = from_be_bytes w128 (cipher key (replicate 16 0)) in
    let y = absorbed h (absorbed h 0 aad (blocks aad)) sealed (blocks sealed) in
    let s = mul (bit_xor y (length aad * 8 * 2 ^ 64 + length sealed * 8)) h in
    to_be_bytes w128 (bit_xor s (from_be_bytes w128 (cipher key (counter_block iv 1))))
