use Rattle.std.proofs.Common.{◌≡◌, ◌∙◌, rules, Some}
use Rattle.leaf_engine.specs.Trees.{changes_left}
use Rattle.leaf_engine.specs.Decides.{HandsNext}
use Rattle.leaf_engine.proofs.Asked.{goes-more, goes-done}
use Rattle.leaf_engine.proofs.asking.change.Goals as goal

pub loop-write-preserved : goal.loop-write-preserved
loop-write-preserved g c =
    let i = c.loop-write.invariant.did in
    let machine : (g.L.Leaf.task c.loop-write.leaf).place.machine ≡ g.B.Bench.machine c.args.bench.now = c.loop-write.invariant.fits ∙ c.loop-write.invariant.same.0 in
    let next : HandsNext (g.B.Bench.machine c.args.bench.now) (changes_left (g.L.Leaf.rest c.loop-write.leaf) (g.L.Leaf.written c.loop-write.leaf)) (changes_left (g.L.Leaf.rest c.write.new.self) (g.L.Leaf.written c.write.new.self)) c.loop-write.hasher c.write.new.hasher (Some c.in-Some.write) =
    rw machine at c.in-Some.ensures.next in
    record {
      did = (
        _,
        g.met.B.Bench.did_more _ _ _ _ _ i.1 c.make.ensures.made.1,
        goes-more _ _ _ _ _ _ _ _ i.0 c.make.ensures.made.0 c.in-Some.write i.2 next c.make.ensures.made.2,
      );
      fits = search rules;
      tries = search rules;
      same = search rules;
      origin = search rules;
    }

pub returns-clause-changed : goal.returns-clause-changed
returns-clause-changed g c =
    let i = c.loop-write.invariant.did in
    (i.0, i.1, goes-done _ _ _ _ _ _ _ i.0 i.2 c.in_default.ensures.next)
