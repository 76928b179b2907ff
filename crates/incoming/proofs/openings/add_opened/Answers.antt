use Rattle.std.proofs.Common.{◌≡◌, ◌∙◌, ◌++◌, [], ◌∷◌, List, map, OnOk, ap, sym, subst, arith}
use Rattle.flat_core.specs.Opening.{Incoming}
use Rattle.incoming.specs.Arrivals.{SlotIncoming}
use Rattle.incoming.proofs.Pushing.{slot_seen, slots-push}
use Rattle.incoming.proofs.Opening.{whole-words, opened-is, on-ok}
use Rattle.incoming.proofs.openings.add_opened.Goals as goal

pub add_judged-requires-clause-size : goal.add_judged-requires-clause-size
add_judged-requires-clause-size c = whole-words c.args.bytes.now c.in-Ok.header (λ i. omega (arith, c.type_inv.bytes i)) (sym c.read_bundle.ensures ∙ c.in-Ok.is) c.requires.size

pub returns-in-Ok-clause-added : goal.returns-in-Ok-clause-added
returns-in-Ok-clause-added c forward backward are =
    subst (λ (b : Incoming). OnOk c.add_judged.result (c.add_judged.new.incoming ≡ c.args.incoming.now ++ record { slot = c.args.slot; bundle = b } ∷ []))
    (opened-is forward backward c.args.bytes.now c.in-Ok.header (sym c.read_bundle.ensures ∙ c.in-Ok.is)) (c.add_judged.ensures.added forward backward are)

pub returns-in-Err-clause-slots : goal.returns-in-Err-clause-slots
returns-in-Err-clause-slots c = on-ok c.push.result (λ e. ap (λ (bs : List SlotIncoming). map slot_seen bs) e ∙ slots-push c.args.incoming.now _) c.push.ensures.added
