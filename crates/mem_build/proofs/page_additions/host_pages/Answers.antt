use Rattle.std.proofs.Common.{ℕ, Err, refl}
use Rattle.td_words.specs.declared.places.TheConstants.{TDR_HKID, TDR_CHILDREN}
use Rattle.td_words.specs.Place as place
use Rattle.word_rules.specs.Rules.{Whole}
use Rattle.leaf_engine.specs.Trees.{Tree, Load}
use Rattle.leaf_parts.proofs.Parts.{goes-stop, exit}
use Rattle.mem_build.specs.declared.page_additions.Counts.{Counts}
use Rattle.leaf_parts.specs.HostPages.{host_page_tree}
use Rattle.mem_build.specs.PageAddTrees.{pages_tree}
use Rattle.mem_build.proofs.page_additions.host_pages.Goals as goal

abbrev counts : ℕ → (Counts → Tree) → Tree
counts t f = Load Whole (place.Word t TDR_HKID) (λ h. Load Whole (place.Word t TDR_CHILDREN) (λ n. f (record { hkid = h; children = n })))

pub returns-in_err-host_page-clause-goes : goal.returns-in_err-host_page-clause-goes
returns-in_err-host_page-clause-goes c =
    goes-stop c.args.place.machine.pages (λ (f : Counts → Tree). pages_tree c.args.tdr c.args.page c.args.source (λ h n. f (record { hkid = h; children = n }))) c.args.told.now.left.now c.host_page.new.told.left.now c.from_residual.result c.in_err-host_page.field-0.0
    (exit c.from_residual.result c.in_err-host_page.field-0.0 _ c.from_residual.ensures.1 (λ y h. h))
    (λ f. c.in_err-host_page.ensures.goes (λ u. host_page_tree c.args.page (counts c.args.tdr f)))

pub returns-in_err-host_page-2-clause-goes : goal.returns-in_err-host_page-2-clause-goes
returns-in_err-host_page-2-clause-goes c =
    goes-stop c.args.place.machine.pages (λ (f : Counts → Tree). pages_tree c.args.tdr c.args.page c.args.source (λ h n. f (record { hkid = h; children = n }))) c.args.told.now.left.now c.host_page-2.new.told.left.now c.from_residual-in_err-host_page-2.result c.in_err-host_page-2.field-0.0
    (exit c.from_residual-in_err-host_page-2.result c.in_err-host_page-2.field-0.0 _ c.from_residual-in_err-host_page-2.ensures.1 (λ y h. h))
    (λ f. c.in_ok-host_page.ensures.goes (λ u. host_page_tree c.args.page (counts c.args.tdr f)) (Err c.in_err-host_page-2.field-0.0)
    (c.in_err-host_page-2.ensures.goes (λ u. counts c.args.tdr f)))

pub returns-in_err-hkid-clause-goes : goal.returns-in_err-hkid-clause-goes
returns-in_err-hkid-clause-goes c =
    goes-stop c.args.place.machine.pages (λ (f : Counts → Tree). pages_tree c.args.tdr c.args.page c.args.source (λ h n. f (record { hkid = h; children = n }))) c.args.told.now.left.now c.load.new.self.left.now c.from_residual-in_err-hkid.result c.in_err-hkid.field-0.0
    (exit c.from_residual-in_err-hkid.result c.in_err-hkid.field-0.0 _ c.from_residual-in_err-hkid.ensures.1 (λ y h. h))
    (λ f. c.in_ok-host_page.ensures.goes (λ u. host_page_tree c.args.page (counts c.args.tdr f)) (Err c.in_err-hkid.field-0.0)
    (c.in_ok-host_page-2.ensures.goes (λ u. counts c.args.tdr f) (Err c.in_err-hkid.field-0.0)
    (rw (c.in_err-hkid.ensures.0, c.in_err-hkid.ensures.1, c.word_address.ensures) refl)))

pub returns-in_err-children-clause-goes : goal.returns-in_err-children-clause-goes
returns-in_err-children-clause-goes c =
    goes-stop c.args.place.machine.pages (λ (f : Counts → Tree). pages_tree c.args.tdr c.args.page c.args.source (λ h n. f (record { hkid = h; children = n }))) c.args.told.now.left.now c.load-2.new.self.left.now c.from_residual-in_err-children.result c.in_err-children.field-0.0
    (exit c.from_residual-in_err-children.result c.in_err-children.field-0.0 _ c.from_residual-in_err-children.ensures.1 (λ y h. h))
    (λ f. c.in_ok-host_page.ensures.goes (λ u. host_page_tree c.args.page (counts c.args.tdr f)) (Err c.in_err-children.field-0.0)
    (c.in_ok-host_page-2.ensures.goes (λ u. counts c.args.tdr f) (Err c.in_err-children.field-0.0)
    (rw (c.in_ok-hkid.ensures, c.in_err-children.ensures.0, c.in_err-children.ensures.1, c.word_address-2.ensures) refl)))

pub returns-clause-goes : goal.returns-clause-goes
returns-clause-goes c = λ further r d.
    c.in_ok-host_page.ensures.goes (λ u. host_page_tree c.args.page (counts c.args.tdr further)) r
    (c.in_ok-host_page-2.ensures.goes (λ u. counts c.args.tdr further) r
    (rw (c.in_ok-hkid.ensures, c.in_ok-children.ensures) d))
