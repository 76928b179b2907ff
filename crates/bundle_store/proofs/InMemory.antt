-- Contents held in memory: where a name is first, and what one file changed or added does to each name.
use Rattle.std.proofs.Common.{◌≡◌, ◌≢◌, refl, sym, ◌∙◌, ap, ℕ, zero, suc, ◌+◌, ◌<◌, List, [], ◌∷◌, ◌++◌, length, get_or, take, set, Option, Some, None, Bool, true, false, if◌then◌else◌, arith, add-one}
use Rattle.std.specs.Str.{bytes_eq}
use Rattle.std.proofs.lemmas.Bool.{false_from_ne_true}
use Rattle.std.proofs.lemmas.Slice.Eq.{bytes_eq-Decides}
use Rattle.bundle_store.specs.Seen.{FileSeen}
use Rattle.bundle_store.specs.Outside.{IsSaved}
use Rattle.bundle_store.specs.Held.{contents_in, FirstAt, no_file}

named : (a name : List ℕ) → a ≡ name → bytes_eq a name ≡ true
named a name e = (bytes_eq-Decides a name).1 e

not_named : (a name other : List ℕ) → a ≡ name → other ≢ name → bytes_eq a other ≡ false
not_named a name other e ne = false_from_ne_true (bytes_eq a other) (λ t. ne (sym ((bytes_eq-Decides a other).0 t) ∙ e))

-- a file that isn't of this name is passed over
passed : (b : Bool) (x : List ℕ) (a a' v : Option (List ℕ)) → (if b then Some x else a) ≡ None → (a ≡ None → a' ≡ v) → (if b then Some x else a') ≡ v
passed true x a a' v h go = cc
passed false x a a' v h go = go h

same_inside : (fs : List FileSeen) (i : ℕ) (d d' : FileSeen) → i < length fs → get_or fs i d ≡ get_or fs i d'
same_inside [] i d d' h = absurd (omega arith)
same_inside (f ∷ fs) zero d d' h = refl
same_inside (f ∷ fs) (suc i) d d' h = same_inside fs i d d' (omega arith)

one_more : (fs : List FileSeen) (i : ℕ) (name : List ℕ) (d : FileSeen) → i < length fs → contents_in (take i fs) name ≡ None
    → bytes_eq ((get_or fs i d).name) name ≡ false → contents_in (take (suc i) fs) name ≡ None
one_more [] i name d h none other = absurd (omega arith)
one_more (f ∷ fs) zero name d h none other = rw other refl
one_more (f ∷ fs) (suc i) name d h none other =
    passed (bytes_eq f.name name) f.bytes (contents_in (take i fs) name) _ None none (λ e. one_more fs i name d (omega arith) e other)

first_found : (fs : List FileSeen) (i : ℕ) (name : List ℕ) (d : FileSeen) → i < length fs → contents_in (take i fs) name ≡ None
    → bytes_eq ((get_or fs i d).name) name ≡ true → contents_in fs name ≡ Some ((get_or fs i d).bytes)
first_found [] i name d h none same = absurd (omega arith)
first_found (f ∷ fs) zero name d h none same = rw same refl
first_found (f ∷ fs) (suc i) name d h none same =
    passed (bytes_eq f.name name) f.bytes (contents_in (take i fs) name) _ _ none (λ e. first_found fs i name d (omega arith) e same)

set_there : (fs : List FileSeen) (i : ℕ) (name : List ℕ) (g : FileSeen) → i < length fs → contents_in (take i fs) name ≡ None
    → g.name ≡ name → contents_in (set fs i g) name ≡ Some g.bytes
set_there [] i name g h none same = absurd (omega arith)
set_there (f ∷ fs) zero name g h none same = rw (named g.name name same) refl
set_there (f ∷ fs) (suc i) name g h none same =
    passed (bytes_eq f.name name) f.bytes (contents_in (take i fs) name) _ _ none (λ e. set_there fs i name g (omega arith) e same)

set_others : (fs : List FileSeen) (i : ℕ) (name other : List ℕ) (d g : FileSeen) → i < length fs → (get_or fs i d).name ≡ name → g.name ≡ name
    → other ≢ name → contents_in (set fs i g) other ≡ contents_in fs other
set_others [] i name other d g h was is ne = absurd (omega arith)
set_others (f ∷ fs) zero name other d g h was is ne = rw (not_named g.name name other is ne, not_named f.name name other was ne) refl
set_others (f ∷ fs) (suc i) name other d g h was is ne =
    ap (λ (t : Option (List ℕ)). if bytes_eq f.name other then Some f.bytes else t) (set_others fs i name other d g (omega arith) was is ne)

add_there : (fs : List FileSeen) (name : List ℕ) (g : FileSeen) → contents_in fs name ≡ None → g.name ≡ name → contents_in (fs ++ g ∷ []) name ≡ Some g.bytes
add_there [] name g none same = rw (named g.name name same) refl
add_there (f ∷ fs) name g none same = passed (bytes_eq f.name name) f.bytes (contents_in fs name) _ _ none (λ e. add_there fs name g e same)

add_others : (fs : List FileSeen) (name other : List ℕ) (g : FileSeen) → g.name ≡ name → other ≢ name → contents_in (fs ++ g ∷ []) other ≡ contents_in fs other
add_others [] name other g same ne = rw (not_named g.name name other same ne) refl
add_others (f ∷ fs) name other g same ne =
    ap (λ (t : Option (List ℕ)). if bytes_eq f.name other then Some f.bytes else t) (add_others fs name other g same ne)

-- a file that is read at a place within the list
pub next_none : (fs : List FileSeen) (i : ℕ) (name text : List ℕ) (f : FileSeen) → i < length fs → contents_in (take i fs) name ≡ None → f ≡ get_or fs i f
    → text ≡ f.name → bytes_eq text name ≡ false → contents_in (take (i + 1) fs) name ≡ None
next_none fs i name text f h none is e other =
    rw add-one (one_more fs i name f h none (ap (λ (n : List ℕ). bytes_eq n name) (sym (e ∙ ap (λ (g : FileSeen). g.name) is)) ∙ other))

pub first_at : (fs : List FileSeen) (i : ℕ) (name text : List ℕ) (f : FileSeen) → i < length fs → contents_in (take i fs) name ≡ None → f ≡ get_or fs i f
    → text ≡ f.name → bytes_eq text name ≡ true → FirstAt fs name i
first_at fs i name text f h none is e same = record {
  inside = h;
  named = ap (λ (g : FileSeen). g.name) (same_inside fs i no_file f h ∙ sym is) ∙ (sym e ∙ (bytes_eq-Decides text name).0 same);
  none_before = none;
}

pub found_at : (fs : List FileSeen) (i : ℕ) (name : List ℕ) (f : FileSeen) → FirstAt fs name i → f ≡ get_or fs i f → contents_in fs name ≡ Some f.bytes
found_at fs i name f at is =
    first_found fs i name no_file at.inside at.none_before (named ((get_or fs i no_file).name) name at.named)
    ∙ ap (λ (g : FileSeen). Some g.bytes) (same_inside fs i no_file f at.inside ∙ sym is)

pub gives_set : (fs : List FileSeen) (i : ℕ) (name bytes : List ℕ) (f g : FileSeen) → FirstAt fs name i → f ≡ get_or fs i f → g.name ≡ f.name → g.bytes ≡ bytes
    → IsSaved (contents_in fs) name bytes (contents_in (set fs i g))
gives_set fs i name bytes f g at is same now =
    let was : g.name ≡ name = same ∙ (ap (λ (h : FileSeen). h.name) (is ∙ same_inside fs i f no_file at.inside) ∙ at.named) in
    record {
      there = set_there fs i name g at.inside at.none_before was ∙ ap (λ (b : List ℕ). Some b) now;
      others = λ other ne. set_others fs i name other no_file g at.inside at.named was ne;
    }

pub gives_added : (fs : List FileSeen) (name bytes : List ℕ) (g : FileSeen) → contents_in fs name ≡ None → g.name ≡ name → g.bytes ≡ bytes
    → IsSaved (contents_in fs) name bytes (contents_in (fs ++ g ∷ []))
gives_added fs name bytes g none same now = record {
  there = add_there fs name g none same ∙ ap (λ (b : List ℕ). Some b) now;
  others = λ other ne. add_others fs name other g same ne;
}
