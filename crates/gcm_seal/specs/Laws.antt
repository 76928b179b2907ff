-- That the definition is the standard's.
use Rattle.std.specs.Prelude.{◌≡◌, ℕ, List, [], ◌∷◌, replicate}
use Rattle.gcm_seal.specs.Gcm.{mixed, tag_bytes}

-- the sealed text of test case 14 of the mode's specification, where key, IV and text are zeros
abbrev pub sealed_14 : List ℕ
sealed_14 = 0xce ∷ 0xa7 ∷ 0x40 ∷ 0x3d ∷ 0x4d ∷ 0x60 ∷ 0x6b ∷ 0x6e ∷ 0x07 ∷ 0x4e ∷ 0xc5 ∷ 0xd3 ∷ 0xba ∷ 0xf3 ∷ 0x9d ∷ 0x18 ∷ []

-- opening undoes sealing, and the texts and tags of test cases 13 and 14 are those of the definition
pub record GcmStandardMet : Type 0 where
  pub sealing_undone : (key iv text : List ℕ) → mixed key iv (mixed key iv text) ≡ text
  pub empty_tag : tag_bytes (replicate 32 0) (replicate 12 0) [] []
      ≡ 0x53 ∷ 0x0f ∷ 0x8a ∷ 0xfb ∷ 0xc7 ∷ 0x45 ∷ 0x36 ∷ 0xb9 ∷ 0xa9 ∷ 0x63 ∷ 0xb4 ∷ 0xf1 ∷ 0xc4 ∷ 0xcb ∷ 0x73 ∷ 0x8b ∷ []
  pub block_text : mixed (replicate 32 0) (replicate 12 0) (replicate 16 0) ≡ sealed_14
  pub block_tag : tag_bytes (replicate 32 0) (replicate 12 0) [] sealed_14
      ≡ 0xd0 ∷ 0xd1 ∷ 0xc8 ∷ 0xa7 ∷ 0x99 ∷ 0x99 ∷ 0x6b ∷ 0xf0 ∷ 0x26 ∷ 0x5b ∷ 0x98 ∷ 0xb5 ∷ 0xd4 ∷ 0x8a ∷ 0xb9 ∷ 0x19 ∷ []
