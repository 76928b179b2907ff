use Rattle.std.proofs.Common.{List, subst, sym}
use Rattle.td_words.specs.declared.machines.Machine.{Machine}
use Rattle.leaf_engine.specs.declared.events.HeldLock.{HeldLock}
use Rattle.leaf_engine.specs.Turns.{AreIn}
use Rattle.leaf_engine.proofs.Turned.{are-in-last, are-in-front}
use Rattle.leaf_engine.proofs.runs.give_back.Goals as goal

pub free-requires : goal.free-requires
free-requires g c =
    are-in-last (g.B.Bench.machine c.args.bench.now) c.pop.new.self.items c.in-Some.newest
    (subst (λ (l : List HeldLock). AreIn (g.B.Bench.machine c.args.bench.now) l) c.in-Some.ensures.items c.requires.in_machine)

pub returns-clause-in_machine : goal.returns-clause-in_machine
returns-clause-in_machine g c =
    subst (λ (m : Machine). AreIn m c.pop.new.self.items) (sym c.free.ensures.machine)
    (are-in-front (g.B.Bench.machine c.args.bench.now) c.pop.new.self.items c.in-Some.newest
    (subst (λ (l : List HeldLock). AreIn (g.B.Bench.machine c.args.bench.now) l) c.in-Some.ensures.items c.requires.in_machine))
