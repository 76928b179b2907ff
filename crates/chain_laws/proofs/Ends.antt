-- A chain's run ends: each turn of a module uses an item, and its items suffice for what each processor can still make.
use Rattle.std.proofs.Common.{◌≡◌, refl, sym, ◌∙◌, ap, subst, ℕ, zero, suc, ◌+◌, ◌-◌, ◌<◌, ◌≤◌, List, [], ◌∷◌, ◌++◌, length, replicate, Option, None, true, false, ◌==◌, arith}
use Rattle.std.specs.Prelude.{flat_map}
use Rattle.std.specs.List.{range_with_len}
use Rattle.std.proofs.lemmas.Bool.{eqb-true, eqb-false, eq-eqb, ne_eqb}
use Rattle.td_words.specs.declared.calls.Call.{Call}
use Rattle.flat_core.specs.Processor.{idle}
use Rattle.flat_core.specs.Opening.{Opening, Incoming}
use Rattle.flat_core.specs.Locks.{one_if}
use Rattle.flat_core.specs.Event.{State, start, calls_of, lines_left, event_for}
use Rattle.flat_core.specs.Run.{to_the_end}
use Rattle.flat_core.specs.Bounds.{left_of, events_left}
use Rattle.flat_core.specs.Inside.{AreTimely}
use Rattle.flat_core.specs.Laws.{with_bundles, own_items}
use Rattle.flat_core.specs.Replies.{AreToLines}
use Rattle.flat_core.proofs.Tests.{by_test}
use Rattle.flat_core.proofs.Ends.{fresh_left, timely_rebundled, timeliness_kept, one_item, items_append, items_replicate, items_end, timely_run_out}
use Rattle.flat_core.proofs.Replies.{none_left, replies_kept}
use Rattle.chain_laws.specs.Chains.{Module, Chain, Running, inputs, opening_now, has_line, items_due, go_on, turn, chain_event, play_chain, first_module, first_modules, turns_of, last_turns, chain_run}
use Rattle.chain_laws.specs.Laws.{ChainsEnd}
use Rattle.chain_laws.proofs.Turns.{modules_keep}

-- these items suffice for what each processor can still make
abbrev pub Suffice : Opening → State → List ℕ → Type 0
Suffice o s items = (p : ℕ) → events_left o s p ≤ own_items p items

no_line : (o : Opening) (s : State) (p : ℕ) (cs : List Call) → has_line cs ≡ false → left_of o s.world cs (s.lps p) ≡ 0
no_line o s p [] e = refl
no_line o s p (c ∷ cs) e = cc

pub due_suffice : (o : Opening) (s : State) (items : List ℕ) → Suffice o s items → Suffice o s (items_due o s items)
due_suffice o s [] h = h
due_suffice o s (p ∷ ps) h = by_test (has_line (lines_left o p (s.lps p)))
    (λ y. rw y h)
    (λ n. rw n (due_suffice o s ps (λ q. by_test (p == q)
    (λ z. let none = ap (λ (k : ℕ). events_left o s k) (sym (eqb-true p q z)) ∙ no_line o s p (lines_left o p (s.lps p)) n in omega (arith, none))
    (λ z. let low = h q in let off = ap one_if z in omega (arith, low, off)))))

due_fewer : (o : Opening) (s : State) (items : List ℕ) → length (items_due o s items) ≤ length items
due_fewer o s [] = omega arith
due_fewer o s (p ∷ ps) = by_test (has_line (lines_left o p (s.lps p))) (λ y. rw y (omega arith)) (λ n. rw n (let low = due_fewer o s ps in omega (arith, low)))

-- a module has at most so many items left, and they suffice
pub record IsOnItsWay (o : Opening) (n : ℕ) (m : Module) : Type 0 where
  pub timely : AreTimely o m.state
  pub suffice : Suffice o m.state m.items
  pub few : length m.items ≤ n

module _ (o : Opening) (bundles : ℕ → Option Incoming) where
  go_on_way : (n : ℕ) (s : State) (ps : List ℕ) → AreTimely o s → Suffice o s ps → length ps ≤ n → IsOnItsWay o (n - 1) (go_on (with_bundles o bundles) s ps)
  go_on_way n s [] t h few = record { timely = t; suffice = h; few = omega arith }
  go_on_way n s (p ∷ ps) t h few = record {
    timely = timeliness_kept.event o bundles s p t;
    suffice = λ q. (let one = one_item (with_bundles o bundles) s q p (timely_rebundled o bundles s t) in let low = h q in omega (arith, one, low));
    few = omega (arith, few);
  }

  turn_on_way : (n : ℕ) (m : Module) → IsOnItsWay o n m → IsOnItsWay o (n - 1) (turn (with_bundles o bundles) m)
  turn_on_way n m h = (let fewer = due_fewer o m.state m.items in let few = h.few in
      go_on_way n m.state (items_due o m.state m.items) h.timely (due_suffice o m.state m.items h.suffice) (omega (arith, fewer, few)))

module _ (c : Chain) (i : ℕ) where
  abbrev o : Opening
  o = c.openings i

  event_on_way : (r : Running) (x n : ℕ) → IsOnItsWay o n (r.modules i) → IsOnItsWay o (n - one_if (x == i)) ((chain_event c r x).modules i)
  event_on_way r x n h = by_test (i == x)
      (λ y. (let same : i ≡ x = eqb-true i x y in
      let one : one_if (x == i) ≡ 1 = ap one_if (eq-eqb x i (sym same)) in
      let moved : (chain_event c r x).modules i ≡ turn (opening_now c r.modules i) (r.modules i) = rw y (ap (λ (k : ℕ). turn (opening_now c r.modules k) (r.modules k)) (sym same)) in
      subst (λ (m : Module). IsOnItsWay o (n - one_if (x == i)) m) (sym moved) (subst (λ (k : ℕ). IsOnItsWay o (n - k) (turn (opening_now c r.modules i) (r.modules i))) (sym one) (turn_on_way o (inputs c r.modules i) n (r.modules i) h))))
      (λ y. (let none : one_if (x == i) ≡ 0 = ap one_if (ne_eqb x i (λ e. let no : true ≡ false = sym (eq-eqb i x (sym e)) ∙ y in cc)) in
      let stays : (chain_event c r x).modules i ≡ r.modules i = rw y refl in
      subst (λ (m : Module). IsOnItsWay o (n - one_if (x == i)) m) (sym stays) (subst (λ (k : ℕ). IsOnItsWay o (n - k) (r.modules i)) (sym none) (subst (λ (k : ℕ). IsOnItsWay o k (r.modules i)) (omega arith) h))))

  pub turns_on_way : (xs : List ℕ) (r : Running) (n : ℕ) → IsOnItsWay o n (r.modules i) → IsOnItsWay o (n - own_items i xs) ((play_chain c xs r).modules i)
  turns_on_way [] r n h = subst (λ (k : ℕ). IsOnItsWay o k (r.modules i)) (omega arith) h
  turns_on_way (x ∷ xs) r n h =
      subst (λ (k : ℕ). IsOnItsWay o k ((play_chain c xs (chain_event c r x)).modules i)) (omega arith) (turns_on_way xs (chain_event c r x) (n - one_if (x == i)) (event_on_way r x n h))

  pub first_on_way : IsOnItsWay o (length (first_module c i).items) (first_module c i)
  first_on_way = record {
    timely = timeliness_kept.start o None;
    suffice = λ p. (let begin = fresh_left o (start o None).world (calls_of o.calls p) idle refl in
        let enough = items_end o.calls 0 p p (omega arith) in
        let both = items_append p (c.schedules i) (to_the_end 0 o.calls) in omega (arith, begin, enough, both));
    few = omega arith;
  }

-- the last turns of a module are as many as its items
last_items : (f : ℕ → ℕ) (i a n : ℕ) → a ≤ i → i < a + n → f i ≤ own_items i (flat_map (λ k. replicate (f k) k) (range_with_len a n))
last_items f i a zero low high = absurd (omega (arith, low, high))
last_items f i a (suc n) low high = by_test (a == i)
    (λ y. (let same = eqb-true a i y in
    subst (λ (k : ℕ). f k ≤ own_items k (replicate (f a) a ++ flat_map (λ k. replicate (f k) k) (range_with_len (a + 1) n))) same
    (omega (arith, items_append a (replicate (f a) a) (flat_map (λ k. replicate (f k) k) (range_with_len (a + 1) n)), items_replicate a (f a)))))
    (λ y. (let more : a + 1 ≤ i = (let other = eqb-false a i y in omega (arith, low, other)) in
    let rest = last_items f i (a + 1) n more (omega (arith, high)) in
    omega (arith, rest, items_append i (replicate (f a) a) (flat_map (λ k. replicate (f k) k) (range_with_len (a + 1) n)))))

pub chains_end : ChainsEnd
chains_end c plan i p within =
    let o : Opening = c.openings i in
    let xs : List ℕ = turns_of plan ++ last_turns c in
    let n : ℕ = length (first_module c i).items in
    let end = turns_on_way c i xs (first_modules c) n (first_on_way c i) in
    let m : Module = (chain_run c plan).modules i in
    let last = last_items (λ k. length (first_module c k).items) i 0 c.count (omega arith) (omega (arith, within)) in
    let all = items_append i (turns_of plan) (last_turns c) in
    let over : length m.items ≤ 0 = (let few = end.few in omega (arith, few, last, all)) in
    let none : events_left o m.state p ≤ 0 = (let enough = end.suffice p in omega (arith, enough, no_items p m.items over)) in
    let most = modules_keep AreToLines replies_kept c xs i p in
    let least : length (calls_of o.calls p) ≤ length (m.state.lps p).replies = none_left (length (m.state.lps p).replies) (calls_of o.calls p) (no_lines o m.state p end.timely none) in
    omega (arith, most, least)
  where
    no_items : (p : ℕ) (items : List ℕ) → length items ≤ 0 → own_items p items ≡ 0
    no_items p [] e = refl
    no_items p (q ∷ qs) e = absurd (omega (arith, e))

    no_lines : (o : Opening) (s : State) (p : ℕ) → AreTimely o s → events_left o s p ≤ 0 → lines_left o p (s.lps p) ≡ []
    no_lines o s p t e = by (lines_left o p (s.lps p)) (timely_run_out.ended o o.bundles s p t (omega (arith, e)))
      where
        by : (cs : List Call) → event_for o s.world p (s.lps p) cs ≡ None → cs ≡ []
        by [] is = refl
        by (c ∷ cs) is = cc
