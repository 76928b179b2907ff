-- A turn leaves fewer events that are due, and the same state to come to.
use Rattle.std.proofs.Common.{◌≡◌, sym, ◌∙◌, ap, ℕ, suc, ◌-◌, ◌<◌, List, ◌∷◌, arith}
use Rattle.flat_core.specs.Opening.{Opening}
use Rattle.flat_core.specs.Event.{State, event}
use Rattle.leaf_engine.specs.declared.events.Event.{Event}
use Rattle.leaf_dispatch.specs.declared.states.LpState.{LpState}
use Rattle.run_texts.specs.Looking.{IsNext, SeeksOn}
use Rattle.state_lines.specs.After.{after_events}
use Rattle.state_lines.specs.Laws.{StatesGoOn}
use Rattle.state_runs.specs.Counting.{IsCounting}

pub counted-next : StatesGoOn → (n due : ℕ) → 0 < due → (o : Opening) (schedule : List ℕ) (s : State) (items : List ℕ) (p : ℕ) (l l' : LpState) (e : Event)
    → IsNext o s p l e l' → IsCounting n due o schedule s (p ∷ items) → IsCounting n (due - 1) o schedule (event o s p) items
counted-next go n due some o schedule s items p l l' e next h =
    let one-less : suc (due - 1) ≡ due = omega (arith, some) in
    sym (go.moved o s (due - 1) p next.some.0 items next.some.1) ∙ (ap (λ (k : ℕ). after_events o k (p ∷ items) s) one-less ∙ h)

pub counts-on : StatesGoOn → (n : ℕ) (o : Opening) (schedule : List ℕ) → SeeksOn (IsCounting n) o schedule
counts-on go n o schedule due = record {
  idle = λ s p items none h. sym (go.idle o s due p items none) ∙ h;
  one_more = λ events p inside ended h. go.one_more o events due p inside ended ∙ h;
}
