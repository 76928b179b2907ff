use Rattle.std.proofs.Common.{ℕ, sym, subst}
use Rattle.td_words.specs.declared.machines.Machine.{Machine}
use Rattle.td_words.specs.declared.names.Access.{Access}
use Rattle.td_words.specs.declared.replies.Reply.TheVariants.{Done}
use Rattle.td_words.specs.declared.replies.Value.TheVariants.{Number}
use Rattle.leaf_parts.specs.Words.{page_told}
use Rattle.access_core.specs.WalkTrees.{walk_tree}
use Rattle.guest_turns.specs.Turns.{MadeAtOnce}
use Rattle.leaf_dispatch.proofs.step_turns.load_walked.Goals as goal

pub returns-clause-made : goal.returns-clause-made
returns-clause-made g c =
    let page = page_told c.args.place.machine.pages c.args.page in
    let made : (t : ℕ) (access : Access) → MadeAtOnce (g.B.Bench.did c.args.bench.now) (g.B.Bench.machine c.args.bench.now) (walk_tree t access c.args.gpa c.args.level page) c.load_entry.new.bench (Done (Number c.load_entry.result)) =
    rw c.page_told-page.ensures at c.load_entry.ensures.made in
    λ t access. subst (λ (m : Machine). MadeAtOnce (g.B.Bench.did c.args.bench.now) m (walk_tree t access c.args.gpa c.args.level page) c.load_entry.new.bench (Done (Number c.load_entry.result))) (sym c.requires.at) (made t access)
