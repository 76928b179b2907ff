use Rattle.std.proofs.Common.{refl}
use Rattle.script_runner.proofs.Promised.{all_histories, all_headlines, all_contents, only_usage, used}
use Rattle.script_runner.proofs.Soaked.{of_soaks}
use Rattle.script_runner.proofs.Verified.{of_verifies, all_verifies}
use Rattle.script_runner.proofs.top.tdx_main.Goals as goal

pub returns-clause-headline : goal.returns-clause-headline
returns-clause-headline g c zero =
    all_headlines c.translation_law.ensures.accesses c.laws_of_worlds.ensures c.laws_of_taking.ensures c.laws_of_carrying.ensures _ _ _ _ _ _ _ _ _ c.do_command.ensures.does zero

pub returns-clause-by_histories : goal.returns-clause-by_histories
returns-clause-by_histories g c =
    all_histories c.translation_law.ensures.accesses c.laws_of_worlds.ensures c.laws_of_taking.ensures c.laws_of_carrying.ensures _ _ _ _ _ _ _ _ _ c.do_command.ensures.does c.do_command.ensures.few

pub returns-clause-by_contents : goal.returns-clause-by_contents
returns-clause-by_contents g c =
    all_contents c.translation_law.ensures.accesses c.laws_of_worlds.ensures c.laws_of_taking.ensures c.laws_of_carrying.ensures _ _ _ _ _ _ _ _ _ c.do_command.ensures.does refl

pub returns-clause-soak : goal.returns-clause-soak
returns-clause-soak g c = of_soaks _ _ _ _ _ _ _ _ _ c.do_command.ensures.does

pub returns-clause-verify : goal.returns-clause-verify
returns-clause-verify g c = of_verifies _ _ _ _ _ _ _ _ _ c.do_command.ensures.does

pub returns-clause-verify_contents : goal.returns-clause-verify_contents
returns-clause-verify_contents g c = all_verifies _ _ _ _ _ _ _ _ _ c.do_command.ensures.does

pub returns-clause-usage : goal.returns-clause-usage
returns-clause-usage g c one = only_usage _ _ _ _ _ _ _ _ _ c.do_command.ensures.does one

pub returns-clause-used : goal.returns-clause-used
returns-clause-used g c = used _ _ _ _ _ _ _ _ _ c.do_command.ensures.does
