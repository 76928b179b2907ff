use Rattle.std.proofs.Common.{◌≡◌, ap, ◌∙◌, rules}
use Rattle.leaf_engine.specs.Trees.{Tree, settle, fed}
use Rattle.leaf_engine.proofs.Asked.{loaded, load-more}
use Rattle.leaf_engine.proofs.asking.ask.Goals as goal

pub loop-name-preserved : goal.loop-name-preserved
loop-name-preserved g c =
    let i = c.loop-name.invariant.did in
    let h = loaded _ _ _ c.in-Load.ensures.gives in
    let rest : g.L.Leaf.rest c.tell.new.self ≡ fed (settle (g.L.Leaf.rest c.loop-name.leaf)) c.perform-word.result =
    c.tell.ensures.rest ∙ ap (λ (t : Tree). fed t c.perform-word.result) (c.in-Load.ensures.rest ∙ h.1) in
    record {
      did = (
        _,
        g.met.B.Bench.did_more _ _ _ _ _ i.1 c.perform-word.ensures.did,
        rw rest (load-more _ _ _ i.0 c.in-Load.at c.perform-word.result i.2 (rw c.loop-name.invariant.same.1 at h.0)),
      );
      fits = search rules;
      ready = search rules;
      tries = search rules;
      same = search rules;
      origin = search rules;
    }
