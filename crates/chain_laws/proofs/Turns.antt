-- The induction over the turns of a chain, written once.
use Rattle.std.proofs.Common.{◌≡◌, refl, subst, ℕ, List, [], ◌∷◌, ◌++◌, None, ◌==◌}
use Rattle.std.proofs.lemmas.Bool.{eqb-true}
use Rattle.flat_core.specs.Opening.{Opening}
use Rattle.flat_core.specs.Event.{State, event}
use Rattle.flat_core.specs.Laws.{IsKept}
use Rattle.flat_core.proofs.Tests.{by_test}
use Rattle.chain_laws.specs.Chains.{Module, Chain, Running, state_of, inputs, opening_now, items_due, go_on, turn, chain_event, play_chain, first_modules}
use Rattle.chain_laws.specs.Laws.{HoldsInChains}

-- a turn is one event, or none
turn_keeps : (P : State → Type 0) (o : Opening) (m : Module) → P m.state → ((p : ℕ) → P (event o m.state p)) → P (turn o m).state
turn_keeps P o m h step = by (items_due o m.state m.items)
  where
    by : (ps : List ℕ) → P (go_on o m.state ps).state
    by [] = h
    by (p ∷ ps) = step p

-- of one module
pub module_keeps : (P : State → Type 0) (c : Chain) (r : Running) (x i : ℕ) → P (state_of r i) → ((p : ℕ) → P (event (opening_now c r.modules i) (state_of r i) p)) → P (state_of (chain_event c r x) i)
module_keeps P c r x i h step = by_test (i == x)
    (λ y. rw (y, state_of) (subst (λ (z : ℕ). P (turn (opening_now c r.modules z) (r.modules z)).state) (eqb-true i x y) (turn_keeps P (opening_now c r.modules i) (r.modules i) h step)))
    (λ y. rw (y, state_of) h)

-- what each event keeps of the chain, all turns keep
module _ (c : Chain) (Q : Running → Type 0) (step : (r : Running) (x : ℕ) → Q r → Q (chain_event c r x)) where
  pub chain_keeps : (xs : List ℕ) (r : Running) → Q r → Q (play_chain c xs r)
  chain_keeps [] r h = h
  chain_keeps (x ∷ xs) r h = chain_keeps xs (chain_event c r x) (step r x h)

pub chain_append : (c : Chain) (xs ys : List ℕ) (r : Running) → play_chain c (xs ++ ys) r ≡ play_chain c ys (play_chain c xs r)
chain_append c [] ys r = refl
chain_append c (x ∷ xs) ys r = chain_append c xs ys (chain_event c r x)

module _ (holds : Opening → State → Type 0) (kept : IsKept holds) (c : Chain) (i : ℕ) where
  abbrev Holds : Running → Type 0
  Holds r = holds (c.openings i) (state_of r i)

  pub event_holds : (r : Running) (x : ℕ) → Holds r → Holds (chain_event c r x)
  event_holds r x h = module_keeps (λ s. holds (c.openings i) s) c r x i h (λ p. kept.event (c.openings i) (inputs c r.modules i) (state_of r i) p h)

  pub begins : Holds (first_modules c)
  begins = kept.start (c.openings i) None

-- what one event keeps, whatever bundles have come in, holds of each module at every moment
pub modules_keep : (holds : Opening → State → Type 0) → IsKept holds → HoldsInChains holds
modules_keep holds kept c turns i = chain_keeps c (λ r. holds (c.openings i) (state_of r i)) (event_holds holds kept c i) turns (first_modules c) (begins holds kept c i)
