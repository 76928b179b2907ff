use Rattle.std.proofs.Common.{◌≡◌, true, false, sym, ◌∙◌}
use Rattle.td_words.specs.Packing.{Entry}
use Rattle.leaf_parts.proofs.Parts.{exit}
use Rattle.mem_remove.proofs.NamedDecided.{among, other-state, its-page, its-page-fed}
use Rattle.mem_remove.proofs.named_entries.taken.Goals as goal

pub returns-in_err-check-clause-goes : goal.returns-in_err-check-clause-goes
returns-in_err-check-clause-goes c =
    let n = c.args.place.machine.pages in
    let e : Entry = record { state = c.entry.inside.state; page = c.entry.inside.page; mark = c.entry.inside.mark } in
    let is : c.args.entry ≡ e = cc in
    let other : among n e c.args.allowed.now c.args.told.now.left.now ≡ false = sym c.is_state_among.ensures ∙ c.in_err-check.ensures.0 in
    rw is (other-state n e c.args.allowed.now c.args.told.now.left.now c.args.told.now.left.now c.in_err-check.field-0.0 c.from_residual.result
    (exit c.from_residual.result c.in_err-check.field-0.0 _ c.from_residual.ensures.1 (λ y h. h)) other c.in_err-check.ensures.1)

pub returns-clause-goes : goal.returns-clause-goes
returns-clause-goes c =
    let n = c.args.place.machine.pages in
    let e : Entry = record { state = c.entry.inside.state; page = c.entry.inside.page; mark = c.entry.inside.mark } in
    let is : c.args.entry ≡ e = cc in
    let fits : among n e c.args.allowed.now c.args.told.now.left.now ≡ true = sym c.is_state_among.ensures ∙ c.in_ok-check.ensures in
    rw is (its-page n e c.args.allowed.now c.args.told.now.left.now c.lock.new.self.left.now c.lock.result fits (rw c.lock_address.ensures at c.lock.ensures))

pub returns-clause-feeds : goal.returns-clause-feeds
returns-clause-feeds c =
    let n = c.args.place.machine.pages in
    let e : Entry = record { state = c.entry.inside.state; page = c.entry.inside.page; mark = c.entry.inside.mark } in
    let is : c.args.entry ≡ e = cc in
    let fits : among n e c.args.allowed.now c.args.told.now.left.now ≡ true = sym c.is_state_among.ensures ∙ c.in_ok-check.ensures in
    rw is (its-page-fed n e c.args.allowed.now c.args.told.now.left.now c.lock.new.self.left.now c.lock.result fits (rw c.lock_address.ensures at c.lock.ensures))
