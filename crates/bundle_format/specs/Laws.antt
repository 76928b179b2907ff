-- Laws of headers and their bytes.
use Rattle.std.specs.Prelude.{◌≡◌, ◌<◌, ℕ, List, ◌++◌, length, slice_index, Ok, true}
use Rattle.td_words.specs.declared.headers.Header.{Header}
use Rattle.bundle_format.specs.Headers.{header_bytes, is_lawful, payload_length, bundle_in}

-- the grammar: a lawful header's bytes, and behind them a payload of its kind's length
pub record IsBundle (bs : List ℕ) (h : Header) (payload : List ℕ) : Type 0 where
  pub lawful : is_lawful h ≡ true
  pub spelled : bs ≡ header_bytes h ++ payload
  pub whole : length payload ≡ payload_length h

-- a bundle is read as its header; what is read is a bundle; and where spellings of lawful headers with anything behind them
-- are the same bytes, the headers are the same
pub record HeadersReadAgain : Type 0 where
  pub read_again : (bs : List ℕ) (h : Header) (payload : List ℕ) → IsBundle bs h payload → bundle_in bs ≡ Ok h
  pub read_from : (bs : List ℕ) (h : Header) → ((i : ℕ) → slice_index bs i < 256) → bundle_in bs ≡ Ok h → (payload : List ℕ) × IsBundle bs h payload
  pub apart : (g h : Header) (xs ys : List ℕ) → is_lawful g ≡ true → is_lawful h ≡ true
      → header_bytes g ++ xs ≡ header_bytes h ++ ys → g ≡ h
