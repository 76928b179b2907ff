use Rattle.std.proofs.Common.{◌≡◌, sym, ◌∙◌, true, false}
use Rattle.td_words.specs.Packing.{Entry}
use Rattle.leaf_parts.proofs.Parts.{exit}
use Rattle.mem_build.proofs.ExtendDecided.{is_mapped, unlocked, unfound, unmapped, unheld, held, fed-on}
use Rattle.mem_build.proofs.extensions.mapped.Goals as goal

pub returns-in_err-tree_lock-clause-goes : goal.returns-in_err-tree_lock-clause-goes
returns-in_err-tree_lock-clause-goes c =
    unlocked c.args.place.machine.pages c.args.tdr c.args.tdcs c.args.gpa c.args.told.now.left.now c.tree_lock.new.told.left.now c.tree_lock.new.told.left.now c.in_err-tree_lock.field-0.0 c.from_residual.result
    (exit c.from_residual.result c.in_err-tree_lock.field-0.0 _ c.from_residual.ensures.1 (λ y h. h)) (c.in_err-tree_lock.ensures.goes c.args.tdr)

pub returns-in_err-found-clause-goes : goal.returns-in_err-found-clause-goes
returns-in_err-found-clause-goes c =
    unfound c.args.place.machine.pages c.args.tdr c.args.tdcs c.args.gpa c.args.told.now.left.now c.tree_lock.new.told.left.now c.in_ok-tree_lock.field-0 (c.in_ok-tree_lock.ensures.goes c.args.tdr) c.find.new.told.left.now
    c.find.new.told.left.now c.in_err-found.field-0.0 c.from_residual-in_err-found.result
    (exit c.from_residual-in_err-found.result c.in_err-found.field-0.0 _ c.from_residual-in_err-found.ensures.1 (λ y h. h)) c.in_err-found.ensures.goes

pub returns-in_err-check-clause-goes : goal.returns-in_err-check-clause-goes
returns-in_err-check-clause-goes c =
    let e : Entry = record { state = c.entry.inside.state; page = c.entry.inside.page; mark = c.entry.inside.mark } in
    let is : c.in_ok-found.found.entry ≡ e = cc in
    let other : is_mapped e ≡ false = sym c.is_state_among.ensures ∙ c.in_err-check.ensures.0 in
    unmapped c.args.place.machine.pages c.args.tdr c.args.tdcs c.args.gpa c.args.told.now.left.now c.tree_lock.new.told.left.now c.in_ok-tree_lock.field-0 (c.in_ok-tree_lock.ensures.goes c.args.tdr) c.find.new.told.left.now
    c.in_ok-found.found e is c.in_ok-found.ensures.goes c.find.new.told.left.now c.in_err-check.field-0.0 c.from_residual-in_err-check.result
    (exit c.from_residual-in_err-check.result c.in_err-check.field-0.0 _ c.from_residual-in_err-check.ensures.1 (λ y h. h)) other c.in_err-check.ensures.1

pub returns-in_err-lock-clause-goes : goal.returns-in_err-lock-clause-goes
returns-in_err-lock-clause-goes c =
    let e : Entry = record { state = c.entry.inside.state; page = c.entry.inside.page; mark = c.entry.inside.mark } in
    let is : c.in_ok-found.found.entry ≡ e = cc in
    let mapped : is_mapped e ≡ true = sym c.is_state_among.ensures ∙ c.in_ok-check.ensures in
    unheld c.args.place.machine.pages c.args.tdr c.args.tdcs c.args.gpa c.args.told.now.left.now c.tree_lock.new.told.left.now c.in_ok-tree_lock.field-0 (c.in_ok-tree_lock.ensures.goes c.args.tdr) c.find.new.told.left.now
    c.in_ok-found.found e is c.in_ok-found.ensures.goes mapped c.lock.new.self.left.now c.in_err-lock.field-0.0 c.from_residual-in_err-lock.result
    (exit c.from_residual-in_err-lock.result c.in_err-lock.field-0.0 _ c.from_residual-in_err-lock.ensures.1 (λ y h. h)) c.in_err-lock.ensures.0 (rw c.lock_address.ensures at c.in_err-lock.ensures.1)

pub returns-clause-goes : goal.returns-clause-goes
returns-clause-goes c =
    let e : Entry = record { state = c.entry.inside.state; page = c.entry.inside.page; mark = c.entry.inside.mark } in
    let is : c.in_ok-found.found.entry ≡ e = cc in
    let mapped : is_mapped e ≡ true = sym c.is_state_among.ensures ∙ c.in_ok-check.ensures in
    held c.args.place.machine.pages c.args.tdr c.args.tdcs c.args.gpa c.args.told.now.left.now c.tree_lock.new.told.left.now c.in_ok-tree_lock.field-0 (c.in_ok-tree_lock.ensures.goes c.args.tdr) c.find.new.told.left.now
    c.in_ok-found.found e is c.in_ok-found.ensures.goes mapped c.in_ok-lock.ensures.0 c.lock.new.self.left.now c.in_ok-lock.ensures.1

pub returns-clause-feeds : goal.returns-clause-feeds
returns-clause-feeds c =
    let e : Entry = record { state = c.entry.inside.state; page = c.entry.inside.page; mark = c.entry.inside.mark } in
    let is : c.in_ok-found.found.entry ≡ e = cc in
    let mapped : is_mapped e ≡ true = sym c.is_state_among.ensures ∙ c.in_ok-check.ensures in
    fed-on c.args.place.machine.pages c.args.tdr c.args.tdcs c.args.gpa c.args.told.now.left.now c.tree_lock.new.told.left.now c.in_ok-tree_lock.field-0 c.find.new.told.left.now
    c.in_ok-found.found e is (c.in_ok-tree_lock.ensures.feeds c.args.tdr) c.in_ok-found.ensures.feeds c.in_ok-lock.ensures.0 c.lock.new.self.left.now mapped c.in_ok-lock.ensures.1
