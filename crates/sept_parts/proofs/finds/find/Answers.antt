use Rattle.std.proofs.Common.{ℕ, ◌∙◌}
use Rattle.td_words.specs.Packing.{Entry}
use Rattle.leaf_engine.specs.Trees.{Tree}
use Rattle.leaf_parts.proofs.Parts.{goes-on, goes-off, exit}
use Rattle.sept_parts.specs.declared.finds.Found.{Found}
use Rattle.sept_parts.specs.SeptTrees.{root_page_tree, entry_tree, walk_tree}
use Rattle.sept_parts.proofs.finds.find.Goals as goal

pub returns-in_err-root-clause-goes : goal.returns-in_err-root-clause-goes
returns-in_err-root-clause-goes c =
    goes-off c.args.place.machine.pages (λ (f : ℕ → Tree). root_page_tree c.args.place.machine.pages c.args.tdr f)
    (λ (root : ℕ) (f : Found → Tree). walk_tree c.args.place.machine.pages root c.args.gpa c.args.level (λ page. entry_tree c.args.place.machine.pages page c.args.gpa c.args.level (λ e. f (record { page = page; entry = e }))))
    c.args.told.now.left.now c.root_page.new.told.left.now c.root_page.new.told.left.now c.in_err-root.field-0.0 c.from_residual.result
    (exit c.from_residual.result c.in_err-root.field-0.0 _ c.from_residual.ensures.1 (λ y h. h)) c.in_err-root.ensures.goes

pub returns-in_err-entry-clause-goes : goal.returns-in_err-entry-clause-goes
returns-in_err-entry-clause-goes c =
    goes-on c.args.place.machine.pages (λ (f : ℕ → Tree). root_page_tree c.args.place.machine.pages c.args.tdr f)
    (λ (root : ℕ) (f : Found → Tree). walk_tree c.args.place.machine.pages root c.args.gpa c.args.level (λ page. entry_tree c.args.place.machine.pages page c.args.gpa c.args.level (λ e. f (record { page = page; entry = e }))))
    c.args.told.now.left.now c.root_page.new.told.left.now c.entry.new.told.left.now c.in_ok-root.root c.from_residual-in_err-entry.result
    c.in_ok-root.ensures.goes
    (goes-on c.args.place.machine.pages (λ (f : ℕ → Tree). walk_tree c.args.place.machine.pages c.in_ok-root.root c.args.gpa c.args.level f)
    (λ (page : ℕ) (f : Found → Tree). entry_tree c.args.place.machine.pages page c.args.gpa c.args.level (λ e. f (record { page = page; entry = e })))
    c.root_page.new.told.left.now c.walk.new.told.left.now c.entry.new.told.left.now c.in_ok-page.page c.from_residual-in_err-entry.result
    c.in_ok-page.ensures.goes
    (goes-off c.args.place.machine.pages (λ (f : Entry → Tree). entry_tree c.args.place.machine.pages c.in_ok-page.page c.args.gpa c.args.level f)
    (λ (e : Entry) (f : Found → Tree). f (record { page = c.in_ok-page.page; entry = e }))
    c.walk.new.told.left.now c.entry.new.told.left.now c.entry.new.told.left.now c.in_err-entry.field-0.0 c.from_residual-in_err-entry.result
    (exit c.from_residual-in_err-entry.result c.in_err-entry.field-0.0 _ c.from_residual-in_err-entry.ensures.1 (λ y h. h)) c.in_err-entry.ensures.goes))

pub returns-clause-goes : goal.returns-clause-goes
returns-clause-goes c = λ further r d.
    c.in_ok-root.ensures.goes (λ root. walk_tree c.args.place.machine.pages root c.args.gpa c.args.level (λ page. entry_tree c.args.place.machine.pages page c.args.gpa c.args.level (λ e. further (record { page = page; entry = e })))) r
    (c.in_ok-page.ensures.goes (λ page. entry_tree c.args.place.machine.pages page c.args.gpa c.args.level (λ e. further (record { page = page; entry = e }))) r
    (c.in_ok-entry.ensures.goes (λ e. further (record { page = c.in_ok-page.page; entry = e })) r d))

pub returns-clause-feeds : goal.returns-clause-feeds
returns-clause-feeds c = λ further.
    c.in_ok-root.ensures.feeds (λ root. walk_tree c.args.place.machine.pages root c.args.gpa c.args.level (λ page. entry_tree c.args.place.machine.pages page c.args.gpa c.args.level (λ e. further (record { page = page; entry = e }))))
    ∙ (c.in_ok-page.ensures.feeds (λ page. entry_tree c.args.place.machine.pages page c.args.gpa c.args.level (λ e. further (record { page = page; entry = e })))
    ∙ c.in_ok-entry.ensures.feeds (λ e. further (record { page = c.in_ok-page.page; entry = e })))
