-- What is read of a container is in the order of its slots.
use Rattle.std.proofs.Common.{◌≡◌, refl, sym, ◌∙◌, subst, ℕ, zero, suc, ◌+◌, ◌-◌, ◌≤◌, List, [], ◌∷◌, ◌++◌, append_assoc, length, take, drop, Bool, true, false, cond, leb, ◌==◌, ◌&&◌, Result, Ok, Err, codes, arith}
use Rattle.std.specs.Str.{bytes_eq}
use Rattle.std.proofs.lemmas.Bool.{and_parts}
use Rattle.std.proofs.lemmas.List.{append-nil, length-take-le, length-drop}
use Rattle.td_words.specs.Seen.{BundleSeen}
use Rattle.bundle_store.specs.Containers.{AreInOrder, slot_of, size_of, is_entry, entry_in, entries_from, entries_in, container_in}

-- bundles in order were read behind those so far
abbrev Listed : ℕ → (so_far read : List BundleSeen) → Type 0
Listed least so_far read = (more : List BundleSeen) × (read ≡ so_far ++ more) × AreInOrder least more

same_list : (xs ys : List BundleSeen) → (let a : Result (List BundleSeen) ℕ = Ok xs in a ≡ Ok ys) → ys ≡ xs ++ []
same_list xs ys h = let same : ys ≡ xs = cc in same ∙ sym (append-nil xs)

-- at the end, at an entry, or at a fault
each_turn : (P : Type 0) (over good : Bool) (x y : Result (List BundleSeen) ℕ) (place : ℕ) (read : List BundleSeen) → (x ≡ Ok read → P) → (good ≡ true → y ≡ Ok read → P)
    → cond over x (cond good y (Err place)) ≡ Ok read → P
each_turn P true good x y place read f g h = f h
each_turn P false true x y place read f g h = g refl h
each_turn P false false x y place read f g h = absurd (cc)

entry_listed : (least : ℕ) (bs : List ℕ) (so_far read : List BundleSeen) → is_entry least bs ≡ true → Listed (slot_of bs + 1) (so_far ++ entry_in bs ∷ []) read → Listed least so_far read
entry_listed least bs so_far read good more =
    let a = and_parts (leb 8 (length bs)) _ good in
    let b = and_parts (leb least (slot_of bs)) _ a.1 in
    let c = and_parts (leb (slot_of bs) 4095) _ b.1 in
    let d = and_parts (leb (size_of bs) 131072) _ c.1 in
    let low : least ≤ slot_of bs = grind (arith, b.0) in
    let high : slot_of bs ≤ 4095 = grind (arith, c.0) in
    let size : size_of bs ≤ 131072 = grind (arith, d.0) in
    let room : 8 + size_of bs ≤ length bs = grind (arith, d.1) in
    let kept : length (take (size_of bs) (drop 8 bs)) ≡ size_of bs = length-take-le (size_of bs) (drop 8 bs) (omega (arith, length-drop 8 bs, room)) in
    let small : length (take (size_of bs) (drop 8 bs)) ≤ 131072 = omega (arith, kept, size) in
    (entry_in bs ∷ more.0, more.1 ∙ append_assoc so_far (entry_in bs ∷ []) more.0, (low, high, small, more.2))

entries_listed : (whole turns : ℕ) (so_far : List BundleSeen) (least : ℕ) (bs : List ℕ) (read : List BundleSeen) → entries_from whole turns so_far least bs ≡ Ok read → Listed least so_far read
entries_listed whole zero so_far least bs read h = absurd (cc)
entries_listed whole (suc turns) so_far least bs read h =
    each_turn (Listed least so_far read) (length bs == 0) (is_entry least bs) (Ok so_far) (entries_from whole turns (so_far ++ entry_in bs ∷ []) (slot_of bs + 1) (drop (8 + size_of bs) bs)) (whole - length bs) read
    (λ e. ([], same_list so_far read e, tt))
    (λ good e. entry_listed least bs so_far read good (entries_listed whole turns (so_far ++ entry_in bs ∷ []) (slot_of bs + 1) (drop (8 + size_of bs) bs) read e))
    h

named : (P : Type 0) (name : Bool) (x : Result (List BundleSeen) ℕ) (read : List BundleSeen) → (x ≡ Ok read → P) → cond name x (Err 0) ≡ Ok read → P
named P true x read f h = f h
named P false x read f h = absurd (cc)

pub container_in_order : (bs : List ℕ) (read : List BundleSeen) → container_in bs ≡ Ok read → AreInOrder 0 read
container_in_order bs read h =
    named (AreInOrder 0 read) (leb 8 (length bs) && bytes_eq (take 8 bs) (codes "TDXBNDL1")) (entries_in bs) read
    (λ e. let more = entries_listed (length bs) (length bs) [] 0 (drop 8 bs) read e in subst (AreInOrder 0) (sym more.1) more.2) h
