-- What a turn tells.
use Rattle.std.proofs.Common.{◌≡◌, refl, ℕ, zero, suc, List, [], ◌∷◌, Option, Some, None, slice_get}
use Rattle.td_words.specs.declared.calls.GuestOp.{GuestOp}
use Rattle.td_words.specs.declared.replies.Reply.{Reply}
use Rattle.leaf_engine.specs.Guests.{WordGuest}
use Rattle.leaf_engine.specs.OwnLists.{WordLp}
use Rattle.leaf_dispatch.specs.Due.{step_due}
use Rattle.trace_lines.specs.Traces.{reply_behind}
use Rattle.trace_laws.specs.Told.{act_told}
use Rattle.trace_runs.specs.Tracing.{act_by}

-- the act that is told
pub act_due : (codes : ℕ → ℕ → List GuestOp) (at : WordLp) → act_by (step_due codes at) ≡ act_told codes at.guest at.beside
act_due codes at = by at.guest at
  where
    by : (g : Option WordGuest) (at : WordLp) → act_by (step_due codes (record at { guest = g })) ≡ act_told codes g at.beside
    by None at = refl
    by (Some g) at = refl

-- the reply that is told
pub reply_at : (n : ℕ) (rs : List Reply) → slice_get rs n ≡ reply_behind n rs
reply_at zero [] = refl
reply_at (suc n) [] = refl
reply_at zero (r ∷ rs) = refl
reply_at (suc n) (r ∷ rs) = reply_at n rs
