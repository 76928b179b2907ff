-- The S-box as a circuit on bits, in the parts that the code has: steps of a proof, which no public contract cites. On
-- the bits of each byte the whole is `Aes.sub`.
use Rattle.std.specs.Prelude.{ℕ, ◌+◌, ◌-◌, ◌%◌, List, [], ◌∷◌, min, slice_index}

-- sums of the bits that go in, the highest bit last
abbrev pub top : List ℕ → List ℕ
top l =
    let x7 : ℕ = slice_index l 0 in
    let x6 : ℕ = slice_index l 1 in
    let x5 : ℕ = slice_index l 2 in
    let x4 : ℕ = slice_index l 3 in
    let x3 : ℕ = slice_index l 4 in
    let x2 : ℕ = slice_index l 5 in
    let x1 : ℕ = slice_index l 6 in
    let x0 : ℕ = slice_index l 7 in
    let y14 : ℕ = (x3 + x5) % 2 in
    let y13 : ℕ = (x0 + x6) % 2 in
    let y9 : ℕ = (x0 + x3) % 2 in
    let y8 : ℕ = (x0 + x5) % 2 in
    let t0 : ℕ = (x1 + x2) % 2 in
    let y1 : ℕ = (t0 + x7) % 2 in
    let y4 : ℕ = (y1 + x3) % 2 in
    let y12 : ℕ = (y13 + y14) % 2 in
    let y2 : ℕ = (y1 + x0) % 2 in
    let y5 : ℕ = (y1 + x6) % 2 in
    let y3 : ℕ = (y5 + y8) % 2 in
    let t1 : ℕ = (x4 + y12) % 2 in
    let y15 : ℕ = (t1 + x5) % 2 in
    let y20 : ℕ = (t1 + x1) % 2 in
    let y6 : ℕ = (y15 + x7) % 2 in
    let y10 : ℕ = (y15 + t0) % 2 in
    let y11 : ℕ = (y20 + y9) % 2 in
    let y7 : ℕ = (x7 + y11) % 2 in
    let y17 : ℕ = (y10 + y11) % 2 in
    let y19 : ℕ = (y10 + y8) % 2 in
    let y16 : ℕ = (t0 + y11) % 2 in
    let y21 : ℕ = (y13 + y16) % 2 in
    let y18 : ℕ = (x0 + y16) % 2 in
    y1 ∷ y2 ∷ y3 ∷ y4 ∷ y5 ∷ y6 ∷ y7 ∷ y8 ∷ y9 ∷ y10 ∷ y11 ∷ y12 ∷ y13 ∷ y14 ∷ y15 ∷ y16 ∷ y17 ∷ x7 ∷ y18 ∷ y19 ∷ y20 ∷ y21 ∷ []

-- what goes into the inverse of a field of sixteen elements
abbrev pub before_inverse : List ℕ → List ℕ
before_inverse l =
    let y1 : ℕ = slice_index l 0 in
    let y2 : ℕ = slice_index l 1 in
    let y3 : ℕ = slice_index l 2 in
    let y4 : ℕ = slice_index l 3 in
    let y5 : ℕ = slice_index l 4 in
    let y6 : ℕ = slice_index l 5 in
    let y7 : ℕ = slice_index l 6 in
    let y8 : ℕ = slice_index l 7 in
    let y9 : ℕ = slice_index l 8 in
    let y10 : ℕ = slice_index l 9 in
    let y11 : ℕ = slice_index l 10 in
    let y12 : ℕ = slice_index l 11 in
    let y13 : ℕ = slice_index l 12 in
    let y14 : ℕ = slice_index l 13 in
    let y15 : ℕ = slice_index l 14 in
    let y16 : ℕ = slice_index l 15 in
    let y17 : ℕ = slice_index l 16 in
    let x7 : ℕ = slice_index l 17 in
    let y18 : ℕ = slice_index l 18 in
    let y19 : ℕ = slice_index l 19 in
    let y20 : ℕ = slice_index l 20 in
    let y21 : ℕ = slice_index l 21 in
    let t2 : ℕ = min y12 y15 in
    let t3 : ℕ = min y3 y6 in
    let t4 : ℕ = (t3 + t2) % 2 in
    let t5 : ℕ = min y4 x7 in
    let t6 : ℕ = (t5 + t2) % 2 in
    let t7 : ℕ = min y13 y16 in
    let t8 : ℕ = min y5 y1 in
    let t9 : ℕ = (t8 + t7) % 2 in
    let t10 : ℕ = min y2 y7 in
    let t11 : ℕ = (t10 + t7) % 2 in
    let t12 : ℕ = min y9 y11 in
    let t13 : ℕ = min y14 y17 in
    let t14 : ℕ = (t13 + t12) % 2 in
    let t15 : ℕ = min y8 y10 in
    let t16 : ℕ = (t15 + t12) % 2 in
    let t17 : ℕ = (t4 + t14) % 2 in
    let t18 : ℕ = (t6 + t16) % 2 in
    let t19 : ℕ = (t9 + t14) % 2 in
    let t20 : ℕ = (t11 + t16) % 2 in
    let t21 : ℕ = (t17 + y20) % 2 in
    let t22 : ℕ = (t18 + y19) % 2 in
    let t23 : ℕ = (t19 + y21) % 2 in
    let t24 : ℕ = (t20 + y18) % 2 in
    t21 ∷ t22 ∷ t23 ∷ t24 ∷ []

-- that inverse, with sums of its bits
abbrev pub inverse : List ℕ → List ℕ
inverse l =
    let t21 : ℕ = slice_index l 0 in
    let t22 : ℕ = slice_index l 1 in
    let t23 : ℕ = slice_index l 2 in
    let t24 : ℕ = slice_index l 3 in
    let t25 : ℕ = (t21 + t22) % 2 in
    let t26 : ℕ = min t21 t23 in
    let t27 : ℕ = (t24 + t26) % 2 in
    let t28 : ℕ = min t25 t27 in
    let t29 : ℕ = (t28 + t22) % 2 in
    let t30 : ℕ = (t23 + t24) % 2 in
    let t31 : ℕ = (t22 + t26) % 2 in
    let t32 : ℕ = min t31 t30 in
    let t33 : ℕ = (t32 + t24) % 2 in
    let t34 : ℕ = (t23 + t33) % 2 in
    let t35 : ℕ = (t27 + t33) % 2 in
    let t36 : ℕ = min t24 t35 in
    let t37 : ℕ = (t36 + t34) % 2 in
    let t38 : ℕ = (t27 + t36) % 2 in
    let t39 : ℕ = min t29 t38 in
    let t40 : ℕ = (t25 + t39) % 2 in
    let t41 : ℕ = (t40 + t37) % 2 in
    let t42 : ℕ = (t29 + t33) % 2 in
    let t43 : ℕ = (t29 + t40) % 2 in
    let t44 : ℕ = (t33 + t37) % 2 in
    let t45 : ℕ = (t42 + t41) % 2 in
    t29 ∷ t33 ∷ t37 ∷ t40 ∷ t41 ∷ t42 ∷ t43 ∷ t44 ∷ t45 ∷ []

-- its products with the first sums
abbrev pub products : List ℕ → List ℕ
products l =
    let t29 : ℕ = slice_index l 0 in
    let t33 : ℕ = slice_index l 1 in
    let t37 : ℕ = slice_index l 2 in
    let t40 : ℕ = slice_index l 3 in
    let t41 : ℕ = slice_index l 4 in
    let t42 : ℕ = slice_index l 5 in
    let t43 : ℕ = slice_index l 6 in
    let t44 : ℕ = slice_index l 7 in
    let t45 : ℕ = slice_index l 8 in
    let y1 : ℕ = slice_index l 9 in
    let y2 : ℕ = slice_index l 10 in
    let y3 : ℕ = slice_index l 11 in
    let y4 : ℕ = slice_index l 12 in
    let y5 : ℕ = slice_index l 13 in
    let y6 : ℕ = slice_index l 14 in
    let y7 : ℕ = slice_index l 15 in
    let y8 : ℕ = slice_index l 16 in
    let y9 : ℕ = slice_index l 17 in
    let y10 : ℕ = slice_index l 18 in
    let y11 : ℕ = slice_index l 19 in
    let y12 : ℕ = slice_index l 20 in
    let y13 : ℕ = slice_index l 21 in
    let y14 : ℕ = slice_index l 22 in
    let y15 : ℕ = slice_index l 23 in
    let y16 : ℕ = slice_index l 24 in
    let y17 : ℕ = slice_index l 25 in
    let x7 : ℕ = slice_index l 26 in
    let z0 : ℕ = min t44 y15 in
    let z1 : ℕ = min t37 y6 in
    let z2 : ℕ = min t33 x7 in
    let z3 : ℕ = min t43 y16 in
    let z4 : ℕ = min t40 y1 in
    let z5 : ℕ = min t29 y7 in
    let z6 : ℕ = min t42 y11 in
    let z7 : ℕ = min t45 y17 in
    let z8 : ℕ = min t41 y10 in
    let z9 : ℕ = min t44 y12 in
    let z10 : ℕ = min t37 y3 in
    let z11 : ℕ = min t33 y4 in
    let z12 : ℕ = min t43 y13 in
    let z13 : ℕ = min t40 y5 in
    let z14 : ℕ = min t29 y2 in
    let z15 : ℕ = min t42 y9 in
    let z16 : ℕ = min t45 y14 in
    let z17 : ℕ = min t41 y8 in
    z0 ∷ z1 ∷ z2 ∷ z3 ∷ z4 ∷ z5 ∷ z6 ∷ z7 ∷ z8 ∷ z9 ∷ z10 ∷ z11 ∷ z12 ∷ z13 ∷ z14 ∷ z15 ∷ z16 ∷ z17 ∷ []

-- the bits that come out
abbrev pub bottom : List ℕ → List ℕ
bottom l =
    let z0 : ℕ = slice_index l 0 in
    let z1 : ℕ = slice_index l 1 in
    let z2 : ℕ = slice_index l 2 in
    let z3 : ℕ = slice_index l 3 in
    let z4 : ℕ = slice_index l 4 in
    let z5 : ℕ = slice_index l 5 in
    let z6 : ℕ = slice_index l 6 in
    let z7 : ℕ = slice_index l 7 in
    let z8 : ℕ = slice_index l 8 in
    let z9 : ℕ = slice_index l 9 in
    let z10 : ℕ = slice_index l 10 in
    let z11 : ℕ = slice_index l 11 in
    let z12 : ℕ = slice_index l 12 in
    let z13 : ℕ = slice_index l 13 in
    let z14 : ℕ = slice_index l 14 in
    let z15 : ℕ = slice_index l 15 in
    let z16 : ℕ = slice_index l 16 in
    let z17 : ℕ = slice_index l 17 in
    let t46 : ℕ = (z15 + z16) % 2 in
    let t47 : ℕ = (z10 + z11) % 2 in
    let t48 : ℕ = (z5 + z13) % 2 in
    let t49 : ℕ = (z9 + z10) % 2 in
    let t50 : ℕ = (z2 + z12) % 2 in
    let t51 : ℕ = (z2 + z5) % 2 in
    let t52 : ℕ = (z7 + z8) % 2 in
    let t53 : ℕ = (z0 + z3) % 2 in
    let t54 : ℕ = (z6 + z7) % 2 in
    let t55 : ℕ = (z16 + z17) % 2 in
    let t56 : ℕ = (z12 + t48) % 2 in
    let t57 : ℕ = (t50 + t53) % 2 in
    let t58 : ℕ = (z4 + t46) % 2 in
    let t59 : ℕ = (z3 + t54) % 2 in
    let t60 : ℕ = (t46 + t57) % 2 in
    let t61 : ℕ = (z14 + t57) % 2 in
    let t62 : ℕ = (t52 + t58) % 2 in
    let t63 : ℕ = (t49 + t58) % 2 in
    let t64 : ℕ = (z4 + t59) % 2 in
    let t65 : ℕ = (t61 + t62) % 2 in
    let t66 : ℕ = (z1 + t63) % 2 in
    let s0 : ℕ = (t59 + t63) % 2 in
    let s6 : ℕ = (t56 + t62) % 2 in
    let s7 : ℕ = (t48 + t60) % 2 in
    let t67 : ℕ = (t64 + t65) % 2 in
    let s3 : ℕ = (t53 + t66) % 2 in
    let s4 : ℕ = (t51 + t66) % 2 in
    let s5 : ℕ = (t47 + t65) % 2 in
    let s1 : ℕ = (t64 + s3) % 2 in
    let s2 : ℕ = (t55 + t67) % 2 in
    let n7 : ℕ = 1 - s7 in
    let n6 : ℕ = 1 - s6 in
    let n2 : ℕ = 1 - s2 in
    let n1 : ℕ = 1 - s1 in
    n7 ∷ n6 ∷ s5 ∷ s4 ∷ s3 ∷ n2 ∷ n1 ∷ s0 ∷ []
