-- A table of first places, filled from the last list to the first, and what is read by it.
use Rattle.std.proofs.Common.{◌≡◌, ◌∙◌, sym, ℕ, suc, ◌+◌, ◌-◌, ◌<◌, ◌≤◌, Bool, true, false, cond, ◌&&◌, ◌==◌, List, [], ◌∷◌, length, drop, get_or, Option, Some, None, Ordering, ap, refl, arith}
use Rattle.std.specs.Prelude.{if◌then◌else◌}
use Rattle.std.proofs.Math.Seq.{drop-cons}
use Rattle.std.proofs.lemmas.Option.{same_Some, none-some}
use Rattle.std.proofs.lemmas.Bool.Decides.{nat_tests}
use Rattle.std.specs.List.{position_from}
use Rattle.std.specs.Map.{lookup}
use Rattle.std.specs.Ordering.{nat_cmp, ordering_then, is_eq}
use Rattle.td_words.specs.declared.calls.GuestOp.{GuestOp}
use Rattle.leaf_dispatch.specs.declared.first_lists.VirtualProcessor.{VirtualProcessor}
use Rattle.td_words.specs.Seen.{CodeSeen}
use Rattle.leaf_table.specs.Table.{code_in}
use Rattle.leaf_dispatch.specs.FirstLists.{is_list_of, is_vcpu}

-- two tests that agree find the same
lookup-agrees : {K X : Type 0} (f g : K → Bool) → ((k : K) → f k ≡ g k) → (es : List (K × X)) → lookup f es ≡ lookup g es
lookup-agrees f g same [] = refl
lookup-agrees f g same (e ∷ es) =
    ap (λ b. cond b (Some e.1) (lookup f es)) (same e.0) ∙ ap (λ o. cond (g e.0) (Some e.1) o) (lookup-agrees f g same es)

-- the order of the table's keys, and what it calls equal
abbrev pub compare_processors : VirtualProcessor → VirtualProcessor → Ordering
compare_processors p q = ordering_then (nat_cmp p.tdr q.tdr) (nat_cmp p.index q.index)

is_eq-then : (a b c d : ℕ) → is_eq (ordering_then (nat_cmp a c) (nat_cmp b d)) ≡ (a == c && b == d)
is_eq-then a b c d = grind (arith, nat_tests)

is_eq-then_turned : (a b c d : ℕ) → is_eq (ordering_then (nat_cmp a c) (nat_cmp b d)) ≡ (c == a && d == b)
is_eq-then_turned a b c d = grind (arith, nat_tests)

-- what the table's look-up finds
compared : (t i : ℕ) (es : List (VirtualProcessor × ℕ)) → lookup (is_vcpu t i) es ≡ lookup (λ p. is_eq (compare_processors (record { tdr = t; index = i }) p)) es
compared t i es = sym (lookup-agrees (λ p. is_eq (compare_processors (record { tdr = t; index = i }) p)) (is_vcpu t i) (λ p. is_eq-then_turned t i p.tdr p.index) es)

-- one more list, in front of those that the table has
pub one_more : (t i at : ℕ) (d : CodeSeen) (cs : List CodeSeen) (k : VirtualProcessor) (es ns : List (VirtualProcessor × ℕ)) → at < length cs → k.tdr ≡ (get_or cs at d).tdr → k.index ≡ (get_or cs at d).index → lookup (is_vcpu t i) es ≡ position_from (is_list_of t i) (at + 1) (drop (at + 1) cs) → ((q : VirtualProcessor) → lookup (λ p. is_eq (compare_processors q p)) ns ≡ cond (is_eq (compare_processors k q)) (Some at) (lookup (λ p. is_eq (compare_processors q p)) es)) → lookup (is_vcpu t i) ns ≡ position_from (is_list_of t i) at (drop at cs)
one_more t i at d cs k es ns inside same_tdr same_index before put =
    let q : VirtualProcessor = record { tdr = t; index = i } in
    let test : is_eq (compare_processors k q) ≡ is_list_of t i (get_or cs at d) =
    is_eq-then k.tdr k.index t i ∙ (ap (λ (n : ℕ). n == t && k.index == i) same_tdr ∙ ap (λ (n : ℕ). (get_or cs at d).tdr == t && n == i) same_index) in
    let further : drop (at + 1) cs ≡ drop (suc at) cs = (let next : at + 1 ≡ suc at = omega arith in ap (λ (n : ℕ). drop n cs) next) in
    compared t i ns ∙ (put q ∙ (ap (λ (b : Bool). cond b (Some at) (lookup (λ p. is_eq (compare_processors q p)) es)) test
    ∙ (ap (λ (o : Option ℕ). cond (is_list_of t i (get_or cs at d)) (Some at) o) (sym (compared t i es) ∙ (before ∙ ap (position_from (is_list_of t i) (at + 1)) further))
    ∙ sym (ap (position_from (is_list_of t i) at) (drop-cons cs at d inside)))))

-- the list at that place is that of the table of leaves
found-from : (t i b : ℕ) (d : CodeSeen) (cs : List CodeSeen) (at : ℕ) → position_from (is_list_of t i) b cs ≡ Some at → (b ≤ at) × (at < b + length cs) × ((get_or cs (at - b) d).ops ≡ code_in cs t i)
found-from t i b d [] at e = absurd (none-some at e)
found-from t i b d (c ∷ cs) at e =
    elim (is_list_of t i c) as (λ v. cond v (Some b) (position_from (is_list_of t i) (b + 1) cs) ≡ Some at → (b ≤ at) × (at < b + length (c ∷ cs)) × ((get_or (c ∷ cs) (at - b) d).ops ≡ if v then c.ops else code_in cs t i)) [
      | true ↦ λ h. (
          let same : b ≡ at = same_Some b at h in
          let none : at - b ≡ 0 = omega arith in
          (omega arith, omega arith, ap (λ (n : ℕ). (get_or (c ∷ cs) n d).ops) none))
      | false ↦ λ h. (
          let further = found-from t i (b + 1) d cs at h in
          let next : at - b ≡ suc (at - (b + 1)) = omega (arith, further.0) in
          (omega (arith, further.0), omega (arith, further.1), ap (λ (n : ℕ). (get_or (c ∷ cs) n d).ops) next ∙ further.2))
    ] e

pub found : (t i at : ℕ) (d : CodeSeen) (cs : List CodeSeen) (es : List (VirtualProcessor × ℕ)) → lookup (is_vcpu t i) es ≡ position_from (is_list_of t i) 0 cs → Some at ≡ lookup (λ p. is_eq (compare_processors (record { tdr = t; index = i }) p)) es → (at < length cs) × ((get_or cs at d).ops ≡ code_in cs t i)
found t i at d cs es places told =
    let from = found-from t i 0 d cs at (sym places ∙ (compared t i es ∙ sym told)) in
    let same : at ≡ at - 0 = omega arith in
    (omega (arith, from.1), ap (λ (n : ℕ). (get_or cs n d).ops) same ∙ from.2)

-- and where there is no place there is no list
none-from : (t i b : ℕ) (cs : List CodeSeen) → position_from (is_list_of t i) b cs ≡ None → let empty : List GuestOp = [] in empty ≡ code_in cs t i
none-from t i b [] e = refl
none-from t i b (c ∷ cs) e =
    elim (is_list_of t i c) as (λ v. cond v (Some b) (position_from (is_list_of t i) (b + 1) cs) ≡ None → let empty : List GuestOp = [] in empty ≡ if v then c.ops else code_in cs t i) [
      | true ↦ λ h. absurd (none-some b (sym h))
      | false ↦ λ h. none-from t i (b + 1) cs h
    ] e

pub missing : (t i : ℕ) (cs : List CodeSeen) (es : List (VirtualProcessor × ℕ)) → lookup (is_vcpu t i) es ≡ position_from (is_list_of t i) 0 cs → None ≡ lookup (λ p. is_eq (compare_processors (record { tdr = t; index = i }) p)) es → let empty : List GuestOp = [] in empty ≡ code_in cs t i
missing t i cs es places told = none-from t i 0 cs (sym places ∙ (compared t i es ∙ sym told))
