use Rattle.std.proofs.Common.{not, ◌==◌}
use Rattle.td_words.specs.declared.refusals.Status.TheVariants.{PageMetadataIncorrect}
use Rattle.leaf_engine.specs.Trees.{Tree}
use Rattle.leaf_parts.specs.HostPages.{host_page_tree}
use Rattle.leaf_parts.proofs.Parts.{goes-behind}
use Rattle.relocate_core.proofs.relocations.another_page.Goals as goal

pub returns-clause-goes : goal.returns-clause-goes
returns-clause-goes c =
    goes-behind c.args.place.machine.pages (not (c.args.page == c.args.old)) (PageMetadataIncorrect c.args.page) (λ (f : Unit {0} → Tree). host_page_tree c.args.page (f tt)) c.args.told.now.left.now c.host_page.new.told.left.now c.host_page.result
    c.in_ok-check.ensures c.host_page.ensures.goes
