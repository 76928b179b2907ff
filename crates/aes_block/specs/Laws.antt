-- That the definition is the standard's.
use Rattle.std.specs.Prelude.{◌≡◌, ℕ, ◌<◌, [], ◌∷◌}
use Rattle.aes_block.specs.Aes.{times, inverse, sub, tabulate, cipher}

-- a byte but 0 times its inverse is 1, the S-box of 0x53 is 0xed, and under the key of the bytes 0 to 31 the standard's
-- block is its cipher block (FIPS 197, "Example Vectors", AES-256)
pub record StandardMet : Type 0 where
  pub inverse_is : (a : ℕ) → 0 < a → a < 256 → times a (inverse a) ≡ 1
  pub zero_is : inverse 0 ≡ 0
  pub sub_is : sub 0x53 ≡ 0xed
  pub cipher_is : cipher (tabulate 0 32 (λ k. k))
      (0x00 ∷ 0x11 ∷ 0x22 ∷ 0x33 ∷ 0x44 ∷ 0x55 ∷ 0x66 ∷ 0x77 ∷ 0x88 ∷ 0x99 ∷ 0xaa ∷ 0xbb ∷ 0xcc ∷ 0xdd ∷ 0xee ∷ 0xff ∷ [])
      ≡ 0x8e ∷ 0xa2 ∷ 0xb7 ∷ 0xca ∷ 0x51 ∷ 0x67 ∷ 0x45 ∷ 0xbf ∷ 0xea ∷ 0xfc ∷ 0x49 ∷ 0x90 ∷ 0x4b ∷ 0x49 ∷ 0x60 ∷ 0x89 ∷ []
