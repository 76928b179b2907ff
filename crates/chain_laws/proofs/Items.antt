-- The items that are left of a module, as who walks over its schedule, and then over its processors, has them.
use Rattle.std.proofs.Common.{◌≡◌, ◌⊎◌, inl, inr, refl, sym, ◌∙◌, ap, ℕ, zero, suc, ◌<◌, ◌≤◌, List, [], ◌∷◌, ◌++◌, get_or, replicate, Option, Bool, true, false, ◌==◌, if◌then◌else◌, arith}
use Rattle.std.specs.List.{All}
use Rattle.std.proofs.lemmas.Bool.{cases_lt, ne_eqb}
use Rattle.std.proofs.lemmas.List.Elements.{All-nil, All-cons, All-head, All-tail, All-append, All-weaker}
use Rattle.td_words.specs.declared.calls.Call.{Call}
use Rattle.flat_core.specs.Opening.{Opening, Incoming}
use Rattle.flat_core.specs.Locks.{one_if}
use Rattle.flat_core.specs.Table.{row_of}
use Rattle.flat_core.specs.Event.{State, lines_left, line_event, event_for}
use Rattle.flat_core.specs.Inside.{AreTimely}
use Rattle.flat_core.proofs.Ends.{timely_run_out}
use Rattle.flat_core.specs.Run.{events_in, to_the_end}
use Rattle.flat_core.specs.Bounds.{events_left}
use Rattle.flat_core.specs.Laws.{with_bundles, own_items}
use Rattle.flat_core.proofs.Tests.{by_test}
use Rattle.chain_laws.specs.Chains.{Chain, state_of, has_line, items_due, at_moment, first_modules}
use Rattle.chain_laws.specs.Items.{Rising}
use Rattle.chain_laws.proofs.Ends.{Suffice, due_suffice, turns_on_way, first_on_way}

-- the bundles that come in don't matter
pub due-rebundled : (o : Opening) (bundles : ℕ → Option Incoming) (s : State) (items : List ℕ) → items_due (with_bundles o bundles) s items ≡ items_due o s items
due-rebundled o bundles s [] = refl
due-rebundled o bundles s (p ∷ ps) = ap (λ (xs : List ℕ). if has_line (lines_left o p (s.lps p)) then p ∷ ps else xs) (due-rebundled o bundles s ps)

-- an item of a processor that has ended is passed over
pub due-passed : (o : Opening) (s : State) (p : ℕ) (ps : List ℕ) → lines_left o p (s.lps p) ≡ [] → items_due o s (p ∷ ps) ≡ items_due o s ps
due-passed o s p ps none = ap (λ (cs : List Call). if has_line cs then p ∷ ps else items_due o s ps) none

-- and one of a processor with a line is due
pub due-next : (o : Opening) (s : State) (p : ℕ) (ps : List ℕ) (c : Call) (cs : List Call) → lines_left o p (s.lps p) ≡ c ∷ cs → items_due o s (p ∷ ps) ≡ p ∷ ps
due-next o s p ps c cs some = ap (λ (ls : List Call). if has_line ls then p ∷ ps else items_due o s ps) some

-- where no processor has a line none is
pub due-none : (o : Opening) (s : State) (items : List ℕ) → ((p : ℕ) → lines_left o p (s.lps p) ≡ []) → items_due o s items ≡ []
due-none o s [] none = refl
due-none o s (p ∷ ps) none = due-passed o s p ps (none p) ∙ due-none o s ps none

due-head : (o : Opening) (s : State) (items : List ℕ) (q : ℕ) (qs : List ℕ) → items_due o s items ≡ q ∷ qs → lines_left o q (s.lps q) ≡ [] → ⊥
due-head o s [] q qs e none = cc
due-head o s (p ∷ ps) q qs e none = by_test (has_line (lines_left o p (s.lps p)))
    (λ y. (let same : p ∷ ps ≡ q ∷ qs = sym (by-line y) ∙ e in
    let first : p ≡ q = ap (λ (xs : List ℕ). get_or xs 0 0) same in
    let no : has_line (lines_left o p (s.lps p)) ≡ false = ap (λ (k : ℕ). has_line (lines_left o k (s.lps k))) first ∙ ap has_line none in
    let bad : true ≡ false = sym y ∙ no in cc))
    (λ n. due-head o s ps q qs (sym (by-line n) ∙ e) none)
  where
    by-line : {b : Bool} → has_line (lines_left o p (s.lps p)) ≡ b → items_due o s (p ∷ ps) ≡ (if b then p ∷ ps else items_due o s ps)
    by-line y = ap (λ (b : Bool). if b then p ∷ ps else items_due o s ps) y

pub due-rising : (o : Opening) (s : State) (items : List ℕ) → Rising items → Rising (items_due o s items)
due-rising o s [] h = tt
due-rising o s (p ∷ ps) h = by_test (has_line (lines_left o p (s.lps p))) (λ y. rw y h) (λ n. rw n (due-rising o s ps h.1))

has-events : (o : Opening) (s : State) (p : ℕ) (c : Call) (cs : List Call) → AreTimely o s → lines_left o p (s.lps p) ≡ c ∷ cs → 0 < events_left o s p
has-events o s p c cs timely some =
    let less = timely_run_out.lowers o o.bundles s p (line_event o s.world (s.lps p) (row_of o p c) (s.lps p).guest) timely (ap (event_for o s.world p (s.lps p)) some) in
    omega (arith, less)

-- Of items that rise and suffice, that of the first processor with a line is due.
pub due-first : (o : Opening) (s : State) (items : List ℕ) (p : ℕ) (c : Call) (cs : List Call) → AreTimely o s → Rising items → Suffice o s (items_due o s items) → ((q : ℕ) → q < p → lines_left o q (s.lps q) ≡ []) → lines_left o p (s.lps p) ≡ c ∷ cs
    → (rest : List ℕ) × (items_due o s items ≡ p ∷ rest)
due-first o s items p c cs timely rise enough before some = by (items_due o s items) refl (due-rising o s items rise) enough
  where
    by : (xs : List ℕ) → items_due o s items ≡ xs → Rising xs → Suffice o s xs → (rest : List ℕ) × (items_due o s items ≡ p ∷ rest)
    by [] e r f = (let one = f p in let least = has-events o s p c cs timely some in absurd (omega (arith, one, least)))
    by (q ∷ qs) e r f = on (cases_lt q p) (cases_lt p q)
      where
        on : (q < p) ⊎ (p ≤ q) → (p < q) ⊎ (q ≤ p) → (rest : List ℕ) × (items_due o s items ≡ p ∷ rest)
        on (inl low) x = absurd (due-head o s items q qs e (before q low))
        on (inr high) (inl above) = absurd (none (q ∷ qs) (All-cons (λ k. p < k) q qs above (All-weaker (λ k. q ≤ k) (λ k. p < k) (λ k h. omega (arith, above, h)) qs r.0)) (f p))
          where
            none : (ks : List ℕ) → All (λ k. p < k) ks → events_left o s p ≤ own_items p ks → ⊥
            none [] h g = (let least = has-events o s p c cs timely some in omega (arith, g, least))
            none (k ∷ ks) h g =
                let over : p < k = All-head (λ k. p < k) k ks h in
                let other : one_if (k == p) ≡ 0 = ap one_if (ne_eqb k p (λ z. omega (arith, z, over))) in
                none ks (All-tail (λ k. p < k) k ks h) (omega (arith, g, other))
        on (inr high) (inr low) = (qs, e ∙ ap (λ (k : ℕ). k ∷ qs) (let same : q ≡ p = omega (arith, high, low) in same))

-- those to the end rise

all-same : (k p : ℕ) → All (λ q. p ≤ q) (replicate k p)
all-same zero p = All-nil (λ q. p ≤ q)
all-same (suc k) p = All-cons (λ q. p ≤ q) p (replicate k p) (omega arith) (all-same k p)

ends-above : (p : ℕ) (css : List (List Call)) (least : ℕ) → least ≤ p → All (λ q. least ≤ q) (to_the_end p css)
ends-above p [] least h = All-nil (λ q. least ≤ q)
ends-above p (cs ∷ css) least h =
    All-append (λ q. least ≤ q) (replicate (events_in cs) p) (to_the_end (suc p) css)
    (All-weaker (λ q. p ≤ q) (λ q. least ≤ q) (λ q k. omega (arith, h, k)) (replicate (events_in cs) p) (all-same (events_in cs) p))
    (ends-above (suc p) css least (omega (arith, h)))

same-rising : (k p : ℕ) (more : List ℕ) → All (λ q. p ≤ q) more → Rising more → Rising (replicate k p ++ more)
same-rising zero p more above rise = rise
same-rising (suc k) p more above rise = (All-append (λ q. p ≤ q) (replicate k p) more (all-same k p) above, same-rising k p more above rise)

pub ends-rise : (p : ℕ) (css : List (List Call)) → Rising (to_the_end p css)
ends-rise p [] = tt
ends-rise p (cs ∷ css) = same-rising (events_in cs) p (to_the_end (suc p) css) (ends-above (suc p) css p (omega arith)) (ends-rise (suc p) css)

-- at every moment what is due suffices
module _ (c : Chain) (turns : List ℕ) (i : ℕ) where
  abbrev now : State
  now = state_of (at_moment c turns) i

  pub timely-now : AreTimely (c.openings i) now
  timely-now = (turns_on_way c i turns (first_modules c) _ (first_on_way c i)).timely

  pub enough-now : Suffice (c.openings i) now (items_due (c.openings i) now ((at_moment c turns).modules i).items)
  enough-now = due_suffice (c.openings i) now ((at_moment c turns).modules i).items (turns_on_way c i turns (first_modules c) _ (first_on_way c i)).suffice
