use Rattle.std.proofs.Common.{◌+◌, refl, arith}
use Rattle.flat_core.specs.Inputs.{input_in}
use Rattle.import_parts.proofs.WordPuts.{puts-none, puts-some}
use Rattle.import_parts.proofs.payloads.Run.write.Goals as goal

pub returns-then-number-from-clause-hands : goal.returns-then-number-from-clause-hands
returns-then-number-from-clause-hands c = λ h.
    let a = c.args in
    puts-none a.machine a.self.page a.self.at (input_in a.input.now).words a.self.from a.self.count a.number h (omega (arith, c.from.ensures, c.if-number-from.true))

pub returns-clause-hands : goal.returns-clause-hands
returns-clause-hands c = λ h.
    let a = c.args in
    rw c.store.ensures
    (puts-some a.machine a.self.page a.self.at (input_in a.input.now).words a.self.from a.self.count a.number h (a.self.from + a.number) c.word_address.result c.word_given.result c.requires.0 c.requires.1 (omega (arith, c.from.ensures, c.if-number-from.false)) refl
    (omega (arith, c.word_address.ensures, c.requires.1, c.from.ensures, c.if-number-from.false)) (rw c.from-2.ensures at c.word_given.ensures))
