-- Examples of the mode's specification, by computing.
use Rattle.std.proofs.Common.{◌≡◌, [], ◌∷◌, refl, replicate}
use Rattle.aes_block.specs.Aes.{sub, cipher, schedule, rounds}
use Rattle.gcm_seal.specs.Gcm.{times, absorbed, mixed, tag_bytes}
use Rattle.gcm_seal.specs.Laws.{sealed_14}

pub tag_13 : tag_bytes (replicate 32 0) (replicate 12 0) [] []
    ≡ 0x53 ∷ 0x0f ∷ 0x8a ∷ 0xfb ∷ 0xc7 ∷ 0x45 ∷ 0x36 ∷ 0xb9 ∷ 0xa9 ∷ 0x63 ∷ 0xb4 ∷ 0xf1 ∷ 0xc4 ∷ 0xcb ∷ 0x73 ∷ 0x8b ∷ []
unfolding sub schedule rounds cipher times absorbed mixed tag_bytes
tag_13 = refl

pub text_14 : mixed (replicate 32 0) (replicate 12 0) (replicate 16 0) ≡ sealed_14
unfolding sub schedule rounds cipher mixed
text_14 = refl

pub tag_14 : tag_bytes (replicate 32 0) (replicate 12 0) [] sealed_14
    ≡ 0xd0 ∷ 0xd1 ∷ 0xc8 ∷ 0xa7 ∷ 0x99 ∷ 0x99 ∷ 0x6b ∷ 0xf0 ∷ 0x26 ∷ 0x5b ∷ 0x98 ∷ 0xb5 ∷ 0xd4 ∷ 0x8a ∷ 0xb9 ∷ 0x19 ∷ []
unfolding sub schedule rounds cipher times absorbed mixed tag_bytes
tag_14 = refl
