-- Output slots: each is named once.
use Rattle.std.proofs.Common.{◌≡◌, ◌≢◌, ℕ, zero, suc, ◌<◌, ◌≤◌, List, [], ◌∷◌, ◌++◌, length, get_or, set, replicate, Bool, true, false, leb, true≢false, Option, Some, None, Ok, ◌⊎◌, inl, inr, refl, ap, sym, ◌∙◌, subst, arith}
use Rattle.std.specs.List.{All, AllPairs, filter_map, cons_option}
use Rattle.std.proofs.lemmas.Bool.{cases_lt, cases_eq}
use Rattle.std.proofs.lemmas.List.{append_assoc, length-set, get_or-set_other, get_or-set_same, set_past}
use Rattle.std.proofs.lemmas.List.Elements.{All-nil, All-cons, All-head, All-tail, All-weaker, filter_map-append}
use Rattle.std.proofs.lemmas.List.Kept.{AllPairs-cons}
use Rattle.td_words.specs.declared.calls.Call.{Call}
use Rattle.td_words.specs.Slots.{output_slot, all_calls, output_slots}
use Rattle.script_text.specs.Blocks.{with_slot}

-- what is said of a slot, where there is one
abbrev pub IfSlot : (ℕ → Type 0) → Option ℕ → Type 0
IfSlot P None = Unit {0}
IfSlot P (Some slot) = P slot

abbrev pub FitsSlot : Option ℕ → Type 0
FitsSlot o = IfSlot (λ slot. slot ≤ 4095) o

abbrev pub IsNamed : List Bool → ℕ → Type 0
IsNamed named slot = get_or named slot false ≡ true

abbrev pub IsUnnamed : List Bool → ℕ → Type 0
IsUnnamed named slot = get_or named slot false ≡ false

abbrev pub AreApart : List ℕ → Type 0
AreApart slots = AllPairs (λ a b. a ≢ b) slots

pub slot_is : (n : ℕ) → n ≤ 4095 → leb n 4095 ≡ true
slot_is n h = grind arith

-- pairs of a list that begins with a slot

none_apart : AreApart []
none_apart = λ i j d lt within. absurd (omega arith)

first_apart : (x : ℕ) (xs : List ℕ) → AreApart (x ∷ xs) → All (λ n. x ≢ n) xs
first_apart x xs h = λ k d lt. h zero (suc k) d (omega arith) (omega arith)

rest_apart : (x : ℕ) (xs : List ℕ) → AreApart (x ∷ xs) → AreApart xs
rest_apart x xs h = λ i j d lt within. h (suc i) (suc j) d (omega arith) (omega arith)

-- a call behind those of its processor stands somewhere among all calls
record Behind (c : Call) (xs ys : List Call) : Type 0 where
  pub front : List Call
  pub back : List Call
  pub was : xs ≡ front ++ back
  pub is : ys ≡ front ++ c ∷ back

behind_more : (c : Call) (cs xs ys : List Call) → Behind c xs ys → Behind c (cs ++ xs) (cs ++ ys)
behind_more c cs xs ys b = record {
  front = cs ++ b.front;
  back = b.back;
  was = ap (λ t. cs ++ t) b.was ∙ sym (append_assoc cs b.front b.back);
  is = ap (λ t. cs ++ t) b.is ∙ sym (append_assoc cs b.front (c ∷ b.back));
}

behind : (calls : List (List Call)) (lp : ℕ) (c : Call) → lp < length calls → Behind c (all_calls calls) (all_calls (set calls lp (get_or calls lp [] ++ c ∷ [])))
behind [] lp c h = absurd (omega arith)
behind (cs ∷ more) zero c h = record { front = cs; back = all_calls more; was = refl; is = append_assoc cs (c ∷ []) (all_calls more) }
behind (cs ∷ more) (suc lp) c h = behind_more c cs (all_calls more) (all_calls (set more lp (get_or more lp [] ++ c ∷ []))) (behind more lp c (omega arith))

-- and so does its slot among all slots
pub record Put (o : Option ℕ) (xs ys : List ℕ) : Type 0 where
  pub front : List ℕ
  pub back : List ℕ
  pub was : xs ≡ front ++ back
  pub is : ys ≡ front ++ cons_option o back

slots_put : (c : Call) (xs ys : List Call) → Behind c xs ys → Put (output_slot c) (filter_map output_slot xs) (filter_map output_slot ys)
slots_put c xs ys b = record {
  front = filter_map output_slot b.front;
  back = filter_map output_slot b.back;
  was = ap (λ t. filter_map output_slot t) b.was ∙ filter_map-append output_slot b.front b.back;
  is = ap (λ t. filter_map output_slot t) b.is ∙ filter_map-append output_slot b.front (c ∷ b.back);
}

-- where a processor isn't there, its call isn't added
abbrev pub Added : Option ℕ → List (List Call) → List (List Call) → Type 0
Added o old new = Put o (output_slots old) (output_slots new) ⊎ (output_slots new ≡ output_slots old)

added_if : (calls : List (List Call)) (lp : ℕ) (c : Call) → (lp < length calls) ⊎ (length calls ≤ lp) → Added (output_slot c) calls (set calls lp (get_or calls lp [] ++ c ∷ []))
added_if calls lp c (inl lt) = inl (slots_put c (all_calls calls) (all_calls (set calls lp (get_or calls lp [] ++ c ∷ []))) (behind calls lp c lt))
added_if calls lp c (inr past) = inr (ap output_slots (set_past calls lp (get_or calls lp [] ++ c ∷ []) past))

pub added : (calls : List (List Call)) (lp : ℕ) (c : Call) → Added (output_slot c) calls (set calls lp (get_or calls lp [] ++ c ∷ []))
added calls lp c = added_if calls lp c (cases_lt lp (length calls))

-- the slots that lines named are marked, and no two of them are one
pub record FitsSlots (named : List Bool) (slots : List ℕ) : Type 0 where
  pub room : length named ≡ 4096
  pub few : All (λ slot. slot ≤ 4095) slots
  pub marked : All (IsNamed named) slots
  pub apart : AreApart slots

put_all : (P : ℕ → Type 0) (o : Option ℕ) (front back : List ℕ) → All P (front ++ back) → IfSlot P o → All P (front ++ cons_option o back)
put_all P None front back h k = h
put_all P (Some s) [] back h k = All-cons P s back k h
put_all P (Some s) (x ∷ front) back h k =
    All-cons P x (front ++ s ∷ back) (All-head P x (front ++ back) h) (put_all P (Some s) front back (All-tail P x (front ++ back) h) k)

put_apart : (s : ℕ) (front back : List ℕ) → AreApart (front ++ back) → All (λ n. n ≢ s) (front ++ back) → AreApart (front ++ s ∷ back)
put_apart s [] back h k = AllPairs-cons (λ a b. a ≢ b) s back (All-weaker (λ n. n ≢ s) (λ n. s ≢ n) (λ n f e. f (sym e)) back k) h
put_apart s (x ∷ front) back h k =
    AllPairs-cons (λ a b. a ≢ b) x (front ++ s ∷ back) (put_all (λ n. x ≢ n) (Some s) front back (first_apart x (front ++ back) h) (All-head (λ n. n ≢ s) x (front ++ back) k))
    (put_apart s front back (rest_apart x (front ++ back) h) (All-tail (λ n. n ≢ s) x (front ++ back) k))

-- marks stay
pub still_marked : (marks : List Bool) (i k : ℕ) → get_or marks k false ≡ true → (i ≡ k) ⊎ (i ≢ k) → i < length marks → get_or (set marks i true) k false ≡ true
still_marked marks i k h (inl e) room = subst (λ j. get_or (set marks i true) j false ≡ true) e (get_or-set_same marks i true false room)
still_marked marks i k h (inr e) room = let apart : k ≢ i = λ f. e (sym f) in rw (get_or-set_other marks i k true false apart) h

abbrev pub names_after : List Bool → Option ℕ → List Bool
names_after named None = named
names_after named (Some slot) = set named slot true

has_room : (s n : ℕ) → s ≤ 4095 → n ≡ 4096 → s < n
has_room s n h k = omega (arith, h, k)

pub slot_named : (named : List Bool) (s : ℕ) (slots : List ℕ) → FitsSlots named slots → s ≤ 4095 → FitsSlots (set named s true) slots
slot_named named s slots h fit = record {
  room = rw length-set h.room;
  few = h.few;
  marked = All-weaker (IsNamed named) (IsNamed (set named s true)) (λ k m. still_marked named s k m (cases_eq s k) (has_room s (length named) fit h.room)) slots h.marked;
  apart = h.apart;
}

other_slot : (named : List Bool) (s n : ℕ) → IsUnnamed named s → IsNamed named n → n ≢ s
other_slot named s n free marked = λ e. true≢false (sym marked ∙ (ap (λ k. get_or named k false) e ∙ free))

slot_put : (named : List Bool) (o : Option ℕ) (front back : List ℕ) → FitsSlots named (front ++ back) → FitsSlot o → IfSlot (IsUnnamed named) o → FitsSlots (names_after named o) (front ++ cons_option o back)
slot_put named None front back h fit free = h
slot_put named (Some s) front back h fit free =
    let k : FitsSlots (set named s true) (front ++ back) = slot_named named s (front ++ back) h fit in
    record {
      room = k.room;
      few = put_all (λ slot. slot ≤ 4095) (Some s) front back h.few fit;
      marked = put_all (IsNamed (set named s true)) (Some s) front back k.marked (get_or-set_same named s true false (has_room s (length named) fit h.room));
      apart = put_apart s front back h.apart (All-weaker (IsNamed named) (λ n. n ≢ s) (λ n m. other_slot named s n free m) (front ++ back) h.marked);
    }

pub slots_more : (named : List Bool) (o : Option ℕ) (xs ys : List ℕ) → FitsSlots named xs → FitsSlot o → IfSlot (IsUnnamed named) o → Put o xs ys → FitsSlots (names_after named o) ys
slots_more named o xs ys h fit free p =
    subst (λ slots. FitsSlots (names_after named o) slots) (sym p.is) (slot_put named o p.front p.back (subst (λ slots. FitsSlots named slots) p.was h) fit free)

-- before the first call
no_slots : (lps : ℕ) → output_slots (replicate lps []) ≡ []
no_slots zero = refl
no_slots (suc n) = no_slots n

pub none_fit : (named : List Bool) (lps : ℕ) → length named ≡ 4096 → FitsSlots named (output_slots (replicate lps []))
none_fit named lps h =
    subst (λ slots. FitsSlots named slots) (sym (no_slots lps))
    (record { room = h; few = All-nil (λ slot. slot ≤ 4095); marked = All-nil (IsNamed named); apart = none_apart })

-- the slots of the lines to come: none of them is named yet
pub record Left (named : List Bool) (slots : List ℕ) : Type 0 where
  pub few : All (λ slot. slot ≤ 4095) slots
  pub free : All (IsUnnamed named) slots
  pub apart : AreApart slots

still_free : (named : List Bool) (s : ℕ) (slots : List ℕ) → All (λ n. s ≢ n) slots → All (IsUnnamed named) slots → All (IsUnnamed (set named s true)) slots
still_free named s slots other free =
    λ k d lt. let apart : get_or slots k d ≢ s = λ e. other k d lt (sym e) in
    get_or-set_other named s (get_or slots k d) true false apart ∙ free k d lt

-- what is told of the next line, and left for those behind it
pub record LeftFirst (named : List Bool) (o : Option ℕ) (slots : List ℕ) : Type 0 where
  pub fits : FitsSlot o
  pub goes : with_slot named o ≡ Ok (names_after named o)
  pub rest : Left (names_after named o) slots

pub left_first : (named : List Bool) (o : Option ℕ) (slots : List ℕ) → Left named (cons_option o slots) → LeftFirst named o slots
left_first named None slots h = record { fits = tt; goes = refl; rest = h }
left_first named (Some s) slots h = record {
  fits = All-head (λ slot. slot ≤ 4095) s slots h.few;
  goes = rw (All-head (IsUnnamed named) s slots h.free) refl;
  rest = record {
    few = All-tail (λ slot. slot ≤ 4095) s slots h.few;
    free = still_free named s slots (first_apart s slots h.apart) (All-tail (IsUnnamed named) s slots h.free);
    apart = rest_apart s slots h.apart;
  };
}

-- a call stands at that place of that processor's calls
abbrev pub IsCallAt : List (List Call) → (lp i : ℕ) → Call → Type 0
IsCallAt calls lp i c = (i < length (get_or calls lp [])) × (get_or (get_or calls lp []) i c ≡ c)

option_tail : (P : ℕ → Type 0) (o : Option ℕ) (slots : List ℕ) → All P (cons_option o slots) → All P slots
option_tail P None slots h = h
option_tail P (Some s) slots h = All-tail P s slots h

option_rest : (o : Option ℕ) (slots : List ℕ) → AreApart (cons_option o slots) → AreApart slots
option_rest None slots h = h
option_rest (Some s) slots h = rest_apart s slots h

-- what holds of all slots behind some calls
skip_all : (P : ℕ → Type 0) (cs next : List Call) → All P (filter_map output_slot (cs ++ next)) → All P (filter_map output_slot next)
skip_all P [] next h = h
skip_all P (c ∷ cs) next h = skip_all P cs next (option_tail P (output_slot c) (filter_map output_slot (cs ++ next)) h)

skip_apart : (cs next : List Call) → AreApart (filter_map output_slot (cs ++ next)) → AreApart (filter_map output_slot next)
skip_apart [] next h = h
skip_apart (c ∷ cs) next h = skip_apart cs next (option_rest (output_slot c) (filter_map output_slot (cs ++ next)) h)

-- the first of some calls has that slot
slot_first : (b c : Call) (s : ℕ) → b ≡ c → output_slot c ≡ Some s → output_slot b ≡ Some s
slot_first b c s is o = ap output_slot is ∙ o

held : (P : ℕ → Type 0) (cs next : List Call) (i : ℕ) (c : Call) (s : ℕ) → i < length cs → get_or cs i c ≡ c → output_slot c ≡ Some s → All P (filter_map output_slot (cs ++ next)) → P s
held P [] next i c s lt is o h = absurd (omega arith)
held P (b ∷ cs) next zero c s lt is o h =
    let rest : List ℕ = filter_map output_slot (cs ++ next) in
    All-head P s rest (subst (λ x. All P (cons_option x rest)) (slot_first b c s is o) h)
held P (b ∷ cs) next (suc i) c s lt is o h = held P cs next i c s (omega arith) is o (option_tail P (output_slot b) (filter_map output_slot (cs ++ next)) h)

held_all : (P : ℕ → Type 0) (calls : List (List Call)) (lp i : ℕ) (c : Call) (s : ℕ) → IsCallAt calls lp i c → output_slot c ≡ Some s → All P (output_slots calls) → P s
held_all P [] lp i c s at o h = absurd (omega (arith, at.0))
held_all P (cs ∷ more) zero i c s at o h = held P cs (all_calls more) i c s at.0 at.1 o h
held_all P (cs ∷ more) (suc lp) i c s at o h = held_all P more lp i c s at o (skip_all P cs (all_calls more) h)

-- a slot differs from all of later calls
from_later : (cs next : List Call) (i : ℕ) (c : Call) (s : ℕ) → i < length cs → get_or cs i c ≡ c → output_slot c ≡ Some s → AreApart (filter_map output_slot (cs ++ next)) → All (λ n. s ≢ n) (filter_map output_slot next)
from_later [] next i c s lt is o h = absurd (omega arith)
from_later (b ∷ cs) next zero c s lt is o h =
    let rest : List ℕ = filter_map output_slot (cs ++ next) in
    skip_all (λ n. s ≢ n) cs next (first_apart s rest (subst (λ x. AreApart (cons_option x rest)) (slot_first b c s is o) h))
from_later (b ∷ cs) next (suc i) c s lt is o h = from_later cs next i c s (omega arith) is o (option_rest (output_slot b) (filter_map output_slot (cs ++ next)) h)

-- and from all of its own processor
from_own : (cs next : List Call) (i j : ℕ) (c d : Call) (s t : ℕ) → i < j → j < length cs → get_or cs i c ≡ c → get_or cs j d ≡ d → output_slot c ≡ Some s → output_slot d ≡ Some t → AreApart (filter_map output_slot (cs ++ next)) → s ≢ t
from_own [] next i j c d s t lt within is js o p h = absurd (omega arith)
from_own (b ∷ cs) next i zero c d s t lt within is js o p h = absurd (omega arith)
from_own (b ∷ cs) next zero (suc j) c d s t lt within is js o p h =
    let rest : List ℕ = filter_map output_slot (cs ++ next) in
    held (λ n. s ≢ n) cs next j d t (omega arith) js p (first_apart s rest (subst (λ x. AreApart (cons_option x rest)) (slot_first b c s is o) h))
from_own (b ∷ cs) next (suc i) (suc j) c d s t lt within is js o p h =
    from_own cs next i j c d s t (omega arith) (omega arith) is js o p (option_rest (output_slot b) (filter_map output_slot (cs ++ next)) h)

own_cases : (cs next : List Call) (i j : ℕ) (c d : Call) (s t : ℕ) → (i < j) ⊎ (j ≤ i) → i ≢ j → i < length cs → j < length cs → get_or cs i c ≡ c → get_or cs j d ≡ d → output_slot c ≡ Some s → output_slot d ≡ Some t → AreApart (filter_map output_slot (cs ++ next)) → s ≢ t
own_cases cs next i j c d s t (inl lt) ne a b is js o p h = from_own cs next i j c d s t lt b is js o p h
own_cases cs next i j c d s t (inr le) ne a b is js o p h = let back : t ≢ s = from_own cs next j i d c t s (omega (arith, le, ne)) a js is p o h in λ e. back (sym e)

-- Two calls at two places of a script's calls name two slots. So no two bundles that a run makes are for one slot, as each
-- call makes one at most, in the slot that it names.
pub slots_differ : (calls : List (List Call)) → AllPairs (λ a b. a ≢ b) (output_slots calls) → (lp i lq j : ℕ) (c d : Call) (s t : ℕ) → IsCallAt calls lp i c → IsCallAt calls lq j d
    → (lp ≡ lq → i ≢ j) → output_slot c ≡ Some s → output_slot d ≡ Some t → s ≢ t
slots_differ [] h lp i lq j c d s t at here ne o p = absurd (omega (arith, at.0))
slots_differ (cs ∷ more) h zero i zero j c d s t at here ne o p =
    own_cases cs (all_calls more) i j c d s t (cases_lt i j) (ne refl) at.0 here.0 at.1 here.1 o p h
slots_differ (cs ∷ more) h zero i (suc lq) j c d s t at here ne o p =
    held_all (λ n. s ≢ n) more lq j d t here p (from_later cs (all_calls more) i c s at.0 at.1 o h)
slots_differ (cs ∷ more) h (suc lp) i zero j c d s t at here ne o p =
    let back : t ≢ s = held_all (λ n. t ≢ n) more lp i c s at o (from_later cs (all_calls more) j d t here.0 here.1 p h) in λ e. back (sym e)
slots_differ (cs ∷ more) h (suc lp) i (suc lq) j c d s t at here ne o p =
    slots_differ more (skip_apart cs (all_calls more) h) lp i lq j c d s t at here (λ e. ne (ap (λ n. suc n) e)) o p
