use Rattle.std.proofs.Common.{ℕ}
use Rattle.td_words.specs.declared.places.TheConstants.{TDR_CHILDREN}
use Rattle.td_words.specs.Place as place
use Rattle.word_rules.specs.Rules.{Whole}
use Rattle.leaf_engine.specs.Trees.{Tree, Load}
use Rattle.leaf_parts.specs.HostPages.{host_page_tree}
use Rattle.leaf_parts.proofs.Parts.{goes-on, goes-off, goes-load, feeds-on, feeds-load, exit}
use Rattle.leaf_parts.proofs.host_pages.taken_page.Goals as goal

abbrev first : ℕ → (Unit {0} → Tree) → Tree
first page f = host_page_tree page (f tt)

abbrev second : ℕ → Unit {0} → (ℕ → Tree) → Tree
second tdr u f = Load Whole (place.Word tdr TDR_CHILDREN) f

pub returns-in_err-host_page-clause-goes : goal.returns-in_err-host_page-clause-goes
returns-in_err-host_page-clause-goes c =
    goes-off c.args.place.machine.pages (first c.args.page) (second c.args.tdr) c.args.told.now.left.now c.host_page.new.told.left.now c.host_page.new.told.left.now c.in_err-host_page.field-0.0 c.from_residual.result
    (exit c.from_residual.result c.in_err-host_page.field-0.0 _ c.from_residual.ensures.1 (λ y h. h)) c.in_err-host_page.ensures.goes

pub returns-clause-goes : goal.returns-clause-goes
returns-clause-goes c =
    goes-on c.args.place.machine.pages (first c.args.page) (second c.args.tdr) c.args.told.now.left.now c.host_page.new.told.left.now c.load.new.self.left.now tt c.load.result c.in_ok-host_page.ensures.goes
    (goes-load c.args.place.machine.pages (place.Word c.args.tdr TDR_CHILDREN) c.host_page.new.told.left.now c.load.new.self.left.now c.load.result (rw c.word_address.ensures at c.load.ensures))

pub returns-clause-feeds : goal.returns-clause-feeds
returns-clause-feeds c =
    feeds-on (first c.args.page) (second c.args.tdr) c.args.told.now.left.now c.host_page.new.told.left.now c.load.new.self.left.now tt c.load.result c.in_ok-host_page.ensures.feeds
    (feeds-load (place.Word c.args.tdr TDR_CHILDREN) c.host_page.new.told.left.now c.load.new.self.left.now c.load.result _ c.load.ensures)
