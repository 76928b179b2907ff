use Rattle.std.proofs.Common.{◌≡◌, false, rules, sym}
use Rattle.leaf_table.proofs.NoBundles.{is_maker, plans-bare}
use Rattle.leaf_table.proofs.plans.AnyPlan.bundle.Goals as goal

pub returns-in_default : goal.returns-in_default
returns-in_default c =
    let none : is_maker c.args.self.now ≡ false = search rules in
    sym (plans-bare c.args.self.now c.args.told.now none).0
