use Rattle.std.proofs.Common.{rules, ◌-◌, ◌≤◌, arith}
use Rattle.td_control.proofs.Finals.{word-at}
use Rattle.td_control.proofs.finalizations.FinalizePlan.write.Goals as goal

pub returns-in-1-to-6-clause-hands : goal.returns-in-1-to-6-clause-hands
returns-in-1-to-6-clause-hands c =
    let k = c.args.number in
    let some : 1 ≤ k = search rules in
    let most : k ≤ 6 = search rules in
    rw (c.store-write-in-1-to-6.ensures, c.word_address-at.ensures)
    (word-at c.args.self.now.place.machine c.args.act.page c.args.act.hkid c.args.hand.now c.in_ok-slot.ensures.0 c.requires (k - 1) k c.word_in_hand.result (omega (arith, some, most)) (omega (arith, some)) c.word_in_hand.ensures)
