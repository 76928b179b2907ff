use Rattle.std.proofs.Common.{take, sym, subst, arith}
use Rattle.std.specs.Prelude.{ℕ, List, ◌≡◌}
use Rattle.std.proofs.lemmas.List.{take_rest}
use Rattle.leaf_engine.specs.Decides.{Decides}
use Rattle.leaf_engine.specs.Trees.{feed}
use Rattle.export_sessions.specs.SessionTrees.{words_tree}
use Rattle.export_sessions.proofs.Decided.{too-few, enough, enough-fed}
use Rattle.export_sessions.proofs.sessions.words.Goals as goal

pub returns-then-left-count-clause-goes : goal.returns-then-left-count-clause-goes
returns-then-left-count-clause-goes c = λ n further. rw c.word_address.ensures (too-few n c.args.page c.args.count c.args.at c.args.told.now.left.now (omega (arith, c.if-left-count.true)) further)

pub returns-clause-goes : goal.returns-clause-goes
returns-clause-goes c = λ n further r d.
    enough n c.args.page c.args.count c.args.at c.args.told.now.left.now (omega (arith, c.if-left-count.false)) further r (subst (λ (ys : List ℕ). Decides n (further (take c.args.count c.args.told.now.left.now)) ys r) (take_rest c.args.told.now.left.now c.args.count) d)

pub returns-clause-feeds : goal.returns-clause-feeds
returns-clause-feeds c = λ further.
    subst (λ (ys : List ℕ). feed (words_tree c.args.page c.args.at c.args.count further) c.args.told.now.left.now ≡ feed (further (take c.args.count c.args.told.now.left.now)) ys) (sym (take_rest c.args.told.now.left.now c.args.count))
    (enough-fed 0 c.args.page c.args.count c.args.at c.args.told.now.left.now (omega (arith, c.if-left-count.false)) further)
