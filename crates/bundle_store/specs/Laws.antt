-- Laws of containers.
use Rattle.std.specs.Prelude.{◌≡◌, ◌<◌, ◌+◌, ℕ, List, [], ◌∷◌, ◌++◌, length, take, slice_index, Ok, Err, false, codes}
use Rattle.td_words.specs.Seen.{BundleSeen}
use Rattle.bundle_store.specs.Containers.{container_in, container_bytes, AreInOrder, is_entry}

-- the least slot of an entry behind those of bundles
abbrev pub next_slot : ℕ → List BundleSeen → ℕ
next_slot least [] = least
next_slot least (b ∷ bs) = next_slot (b.slot + 1) bs

-- a container up to the first bad entry: good ones stand before it, and what is behind them isn't empty and begins with none
pub record IsFirstBad (bs : List ℕ) (place : ℕ) (before : List BundleSeen) (rest : List ℕ) : Type 0 where
  pub spelled : bs ≡ container_bytes before ++ rest
  pub order : AreInOrder 0 before
  pub here : place ≡ length (container_bytes before)
  pub some : 0 < length rest
  pub bad : is_entry (next_slot 0 before) rest ≡ false

-- the container of bundles in order is read as these bundles; what is read is the one spelling of what was read; and behind
-- the name a fault is at the first bad entry
pub record ContainersReadAgain : Type 0 where
  pub read_again : (bundles : List BundleSeen) → AreInOrder 0 bundles → container_in (container_bytes bundles) ≡ Ok bundles
  pub read_from : (bs : List ℕ) (bundles : List BundleSeen) → ((i : ℕ) → slice_index bs i < 256) → container_in bs ≡ Ok bundles
      → (bs ≡ container_bytes bundles) × AreInOrder 0 bundles
  pub first_bad : (bs : List ℕ) (place : ℕ) → ((i : ℕ) → slice_index bs i < 256) → take 8 bs ≡ codes "TDXBNDL1" → container_in bs ≡ Err place
      → (before : List BundleSeen) × (rest : List ℕ) × IsFirstBad bs place before rest
