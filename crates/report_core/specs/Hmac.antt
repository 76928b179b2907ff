-- HMAC (FIPS 198-1) with SHA-384, whose blocks have 128 bytes.
use Rattle.std.specs.Prelude.{ℕ, ◌-◌, nat_le, List, ◌++◌, map, length, replicate, bit_xor, if◌then◌else◌}
use Rattle.sha2.specs.Sha512.{sha384}

-- zeros behind a key, up to a block
abbrev pub padded : List ℕ → List ℕ
padded key = key ++ replicate (128 - length key) 0

-- the key of a block's length: a longer key is hashed first (section 4, steps 1 to 3)
abbrev pub block_key : List ℕ → List ℕ
block_key key = if nat_le (length key) 128 then padded key else padded (sha384 key)

-- each byte of a block, with the byte of a pad
abbrev pub masked : (pad : ℕ) → List ℕ → List ℕ
masked pad block = map (λ b. bit_xor b pad) block

-- the MAC of a text: H((K0 xor opad) || H((K0 xor ipad) || text)) (section 4, steps 4 to 9)
abbrev pub hmac_sha384 : (key text : List ℕ) → List ℕ
hmac_sha384 key text = sha384 (masked 0x5c (block_key key) ++ sha384 (masked 0x36 (block_key key) ++ text))
