use Rattle.std.proofs.Common.{[], ◌∷◌, slice_index}
use Rattle.bundle_format.proofs.headers.head.Goals as goal

pub returns : goal.returns
returns c =
    λ j. slice_index (c.to_le_bytes.ensures j) 0 ∷ slice_index (c.to_le_bytes.ensures j) 1
    ∷ slice_index (c.to_le_bytes-2.ensures j) 0 ∷ slice_index (c.to_le_bytes-2.ensures j) 1
    ∷ slice_index (c.to_le_bytes-3.ensures j) 0 ∷ slice_index (c.to_le_bytes-3.ensures j) 1
    ∷ c.args.header.now.kind ∷ c.args.header.now.reserved
    ∷ slice_index (c.to_le_bytes-4.ensures j) 0 ∷ slice_index (c.to_le_bytes-4.ensures j) 1 ∷ slice_index (c.to_le_bytes-4.ensures j) 2 ∷ slice_index (c.to_le_bytes-4.ensures j) 3
    ∷ slice_index (c.to_le_bytes-5.ensures j) 0 ∷ slice_index (c.to_le_bytes-5.ensures j) 1 ∷ slice_index (c.to_le_bytes-5.ensures j) 2 ∷ slice_index (c.to_le_bytes-5.ensures j) 3
    ∷ slice_index (c.to_le_bytes-6.ensures j) 0 ∷ slice_index (c.to_le_bytes-6.ensures j) 1 ∷ slice_index (c.to_le_bytes-6.ensures j) 2 ∷ slice_index (c.to_le_bytes-6.ensures j) 3 ∷ slice_index (c.to_le_bytes-6.ensures j) 4 ∷ slice_index (c.to_le_bytes-6.ensures j) 5 ∷ slice_index (c.to_le_bytes-6.ensures j) 6 ∷ slice_index (c.to_le_bytes-6.ensures j) 7
    ∷ slice_index (c.to_le_bytes-7.ensures j) 0 ∷ slice_index (c.to_le_bytes-7.ensures j) 1
    ∷ slice_index (c.to_le_bytes-8.ensures j) 0 ∷ slice_index (c.to_le_bytes-8.ensures j) 1
    ∷ slice_index (c.to_le_bytes-9.ensures j) 0 ∷ slice_index (c.to_le_bytes-9.ensures j) 1 ∷ slice_index (c.to_le_bytes-9.ensures j) 2 ∷ slice_index (c.to_le_bytes-9.ensures j) 3
    ∷ slice_index (c.to_le_bytes-10.ensures j) 0 ∷ slice_index (c.to_le_bytes-10.ensures j) 1 ∷ slice_index (c.to_le_bytes-10.ensures j) 2 ∷ slice_index (c.to_le_bytes-10.ensures j) 3 ∷ slice_index (c.to_le_bytes-10.ensures j) 4 ∷ slice_index (c.to_le_bytes-10.ensures j) 5 ∷ slice_index (c.to_le_bytes-10.ensures j) 6 ∷ slice_index (c.to_le_bytes-10.ensures j) 7
    ∷ slice_index (c.to_le_bytes-11.ensures j) 0 ∷ slice_index (c.to_le_bytes-11.ensures j) 1 ∷ slice_index (c.to_le_bytes-11.ensures j) 2 ∷ slice_index (c.to_le_bytes-11.ensures j) 3 ∷ slice_index (c.to_le_bytes-11.ensures j) 4 ∷ slice_index (c.to_le_bytes-11.ensures j) 5 ∷ slice_index (c.to_le_bytes-11.ensures j) 6 ∷ slice_index (c.to_le_bytes-11.ensures j) 7 ∷ []
