use Rattle.std.proofs.Common.{◌≡◌, ℕ, ◌<◌, nat_lt, subst, arith}
use Rattle.std.proofs.lemmas.Bool.{ltb-true}
use Rattle.td_words.specs.declared.refusals.Status.TheVariants.{OperandInvalid}
use Rattle.leaf_engine.specs.Trees.{Tree, needs}
use Rattle.leaf_parts.specs.Parts.{Goes}
use Rattle.leaf_parts.proofs.Parts.{goes-behind}
use Rattle.export_tokens.specs.declared.tokens.TokenWords.{TokenWords}
use Rattle.export_tokens.specs.TokenTrees.{parts_tree}
use Rattle.export_tokens.proofs.tokens.token_words.Goals as goal

pub returns-then-start-eq0-clause-goes : goal.returns-then-start-eq0-clause-goes
returns-then-start-eq0-clause-goes c =
    let a = c.args in
    let n : ℕ = a.place.machine.pages in
    let zero : 0 ≡ a.start = omega arith in
    goes-behind n (nat_lt a.tdr n) (OperandInvalid 1) (λ (f : TokenWords → Tree). needs (nat_lt a.start 2) (OperandInvalid 3) (parts_tree a.place.machine a.tdr a.start f)) a.told.now.left.now c.epoch_token.new.told.left.now c.epoch_token.result (rw c.from-pages.ensures at c.in_ok-check.ensures)
    (goes-behind n (nat_lt a.start 2) (OperandInvalid 3) (λ (f : TokenWords → Tree). parts_tree a.place.machine a.tdr a.start f) a.told.now.left.now c.epoch_token.new.told.left.now c.epoch_token.result c.in_ok-check-2.ensures
    (subst (λ (s : ℕ). Goes n (λ (f : TokenWords → Tree). parts_tree a.place.machine a.tdr s f) a.told.now.left.now c.epoch_token.new.told.left.now c.epoch_token.result) zero c.epoch_token.ensures.goes))

pub returns-else-start-eq0-clause-goes : goal.returns-else-start-eq0-clause-goes
returns-else-start-eq0-clause-goes c =
    let a = c.args in
    let n : ℕ = a.place.machine.pages in
    let few : a.start < 2 = ltb-true a.start 2 c.in_ok-check-2.ensures in
    let one : 1 ≡ a.start = omega (arith, few, c.if-start-eq0.false) in
    goes-behind n (nat_lt a.tdr n) (OperandInvalid 1) (λ (f : TokenWords → Tree). needs (nat_lt a.start 2) (OperandInvalid 3) (parts_tree a.place.machine a.tdr a.start f)) a.told.now.left.now c.start_token.new.told.left.now c.start_token.result (rw c.from-pages.ensures at c.in_ok-check.ensures)
    (goes-behind n (nat_lt a.start 2) (OperandInvalid 3) (λ (f : TokenWords → Tree). parts_tree a.place.machine a.tdr a.start f) a.told.now.left.now c.start_token.new.told.left.now c.start_token.result c.in_ok-check-2.ensures
    (subst (λ (s : ℕ). Goes n (λ (f : TokenWords → Tree). parts_tree a.place.machine a.tdr s f) a.told.now.left.now c.start_token.new.told.left.now c.start_token.result) one c.start_token.ensures.goes))
