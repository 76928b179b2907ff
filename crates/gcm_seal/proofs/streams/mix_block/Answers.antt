use Rattle.std.proofs.Common.{◌≡◌, ℕ, ◌+◌, ◌-◌, ◌<◌, ◌≤◌, ◌∙◌, List, length, sym, ap, arith, bit_xor, slice_index}
use Rattle.std.proofs.lemmas.Simd.{length-zip2, length-chunk, get_or-zip2, get_or-chunk, get_or-put_chunk_below, get_or-put_chunk_at, get_or-put_chunk_above}
use Rattle.std.specs.Simd.Lanes.{zip2}
use lib.Lanes.{chunk, put_chunk}
use Rattle.gcm_seal.proofs.streams.mix_block.Goals as goal

long : (at : ℕ) (t pad : List ℕ) → at + 16 ≤ length t → length pad ≡ 16 → length (zip2 bit_xor (chunk at 16 t) pad) ≡ 16
long at t pad room l =
    let c = length-chunk at 16 t room in
    length-zip2 bit_xor (chunk at 16 t) pad (c ∙ sym l) ∙ c

stored : (at : ℕ) (t pad : List ℕ) → at + 16 ≤ length t → length pad ≡ 16 → (k : ℕ) → at ≤ k → k < at + 16
    → slice_index (put_chunk at t (zip2 bit_xor (chunk at 16 t) pad)) k ≡ bit_xor (slice_index t k) (slice_index pad (k - at))
stored at t pad room l k low high =
    let v : List ℕ = zip2 bit_xor (chunk at 16 t) pad in
    let lv : length v ≡ 16 = long at t pad room l in
    let lc = length-chunk at 16 t room in
    let j : ℕ = k - at in
    let place : at + j ≡ k = omega arith in
    ap (slice_index (put_chunk at t v)) (sym place)
    ∙ get_or-put_chunk_at at t v j 0 (omega arith) (omega arith)
    ∙ get_or-zip2 bit_xor (chunk at 16 t) pad j 0 0 0 (omega arith) (omega arith)
    ∙ ap (λ x. bit_xor x (slice_index pad j)) (get_or-chunk at 16 t j 0 (omega arith) ∙ ap (slice_index t) place)

pub returns-then-at-text-clause-before : goal.returns-then-at-text-clause-before
returns-then-at-text-clause-before c k h = get_or-put_chunk_below c.args.at c.args.text.now _ k 0 h

pub returns-then-at-text-clause-mixed : goal.returns-then-at-text-clause-mixed
returns-then-at-text-clause-mixed c k low high inside = stored c.args.at c.args.text.now c.args.pad c.if-at-text.true c.fits-pad.0 k low high

pub returns-then-at-text-clause-after : goal.returns-then-at-text-clause-after
returns-then-at-text-clause-after c k h =
    let lv = long c.args.at c.args.text.now c.args.pad c.if-at-text.true c.fits-pad.0 in
    get_or-put_chunk_above c.args.at c.args.text.now (zip2 bit_xor (chunk c.args.at 16 c.args.text.now) c.args.pad) k 0 (omega arith)
