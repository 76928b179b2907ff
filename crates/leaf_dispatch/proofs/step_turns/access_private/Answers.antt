use Rattle.std.proofs.Common.{ℕ, sym, subst}
use Rattle.td_words.specs.declared.machines.Machine.{Machine}
use Rattle.td_words.specs.declared.names.Access.{Access}
use Rattle.td_words.specs.declared.replies.Reply.TheVariants.{Done}
use Rattle.td_words.specs.declared.replies.Value.TheVariants.{Number}
use Rattle.leaf_parts.specs.Words.{page_told}
use Rattle.access_core.specs.ReachTrees.{access_tree, private_load_tree}
use Rattle.guest_turns.specs.Turns.{MadeAtOnce}
use Rattle.leaf_dispatch.proofs.step_turns.access_private.Goals as goal

pub returns-in-Read-clause-made : goal.returns-in-Read-clause-made
returns-in-Read-clause-made g c =
    let page = page_told c.args.place.machine.pages c.args.page in
    let made : (line : ℕ) → MadeAtOnce (g.B.Bench.did c.args.bench.now) (g.B.Bench.machine c.args.bench.now) (private_load_tree c.args.vp line c.args.register c.args.gpa page) c.load_private.new.bench (Done (Number c.load_private.result)) =
    rw (c.page_told-page.ensures, c.from.ensures) at c.load_private.ensures.made in
    λ line. subst (λ (a : Access). MadeAtOnce (g.B.Bench.did c.args.bench.now) c.args.place.machine (access_tree c.args.vp line a c.args.register c.args.gpa page) c.load_private.new.bench (Done (Number c.load_private.result))) (sym c.in-Read.is)
    (subst (λ (m : Machine). MadeAtOnce (g.B.Bench.did c.args.bench.now) m (private_load_tree c.args.vp line c.args.register c.args.gpa page) c.load_private.new.bench (Done (Number c.load_private.result))) (sym c.requires.at) (made line))
