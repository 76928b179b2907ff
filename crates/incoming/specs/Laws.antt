-- A bundle that was sealed comes in as it was made, and begins with its header.
use Rattle.std.specs.Prelude.{◌≡◌, ◌<◌, ◌^◌, ℕ, List, ◌++◌, length, slice_index, Ok, true, All}
use Rattle.td_words.specs.declared.headers.Header.{Header}
use Rattle.flat_core.specs.World.{Made}
use Rattle.flat_core.specs.Digests.{digest_bytes as word_bytes}
use Rattle.bundle_format.specs.Headers.{is_lawful, payload_length, bundle_in}
use Rattle.bundle_texts.specs.Sealed.{with_tag, tag_of, sealed_payload, sealed_bytes}
use Rattle.incoming.specs.Opened.{opened}

-- a bundle whose header is lawful, with the payload that its kind wants, and words of 64 bits
pub record IsWhole (forward backward : List ℕ) (m : Made) : Type 0 where
  pub lawful : is_lawful (with_tag (tag_of forward backward m) m.header) ≡ true
  pub whole : length (word_bytes m.payload) ≡ payload_length (with_tag (tag_of forward backward m) m.header)
  pub words : All (λ w. w < 2 ^ 64) m.payload

abbrev pub SealedComesIn : Type 0
SealedComesIn = (forward backward : List ℕ) (m : Made) → IsWhole forward backward m
    → opened forward backward (sealed_bytes forward backward m) ≡ record { header = Ok m.header; opens = true; payload = m.payload }

-- these bytes, and behind them its sealed payload, are each bundle that is sealed under that header, which has its tag
abbrev pub BeginsSealed : Header → List ℕ → Type 0
BeginsSealed h bytes = (forward backward : List ℕ) (m : Made) → with_tag (tag_of forward backward m) m.header ≡ h
    → sealed_bytes forward backward m ≡ bytes ++ sealed_payload forward backward m

-- and they stand before a payload in each text of bytes that is read as a bundle with it
abbrev pub BeginsRead : Header → List ℕ → Type 0
BeginsRead h bytes = (text : List ℕ) → ((i : ℕ) → slice_index text i < 256) → bundle_in text ≡ Ok h → (payload : List ℕ) × (text ≡ bytes ++ payload)
