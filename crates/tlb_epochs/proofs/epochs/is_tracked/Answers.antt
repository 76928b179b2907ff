use Rattle.std.proofs.Common.{◌≡◌, ◌∙◌, ℕ, ◌<◌, true, arith}
use Rattle.std.proofs.lemmas.Bool.Decides.{nat_tests}
use Rattle.std.specs.Prelude.{nat_lt}
use Rattle.tlb_epochs.proofs.Counted.{far, next_to}
use Rattle.tlb_epochs.proofs.epochs.is_tracked.Goals as goal

is_far : (d : ℕ) → 1 < d → nat_lt 1 d ≡ true
is_far d h = grind (arith, nat_tests)

pub returns-then-epoch-blocked-gt1 : goal.returns-then-epoch-blocked-gt1
returns-then-epoch-blocked-gt1 c =
    λ entered near told. is_far _ c.if-epoch-blocked-gt1.true ∙ far c.args.blocked c.args.epoch c.if-blocked-epoch.true c.if-epoch-blocked-gt1.true entered near

pub returns-else-epoch-blocked-gt1 : goal.returns-else-epoch-blocked-gt1
returns-else-epoch-blocked-gt1 c =
    λ entered near told. next_to c.args.blocked c.args.epoch c.args.previous_count c.if-blocked-epoch.true c.if-epoch-blocked-gt1.false entered near told
