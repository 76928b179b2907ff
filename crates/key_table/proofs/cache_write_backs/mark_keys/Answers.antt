use Rattle.std.proofs.Common.{rules, Err, [], ◌∷◌, ◌++◌, ◌∙◌}
use Rattle.td_words.specs.Place as place
use Rattle.leaf_engine.specs.Changes.{Put}
use Rattle.leaf_parts.proofs.Parts.{exit}
use Rattle.key_table.specs.Words.{marked}
use Rattle.key_table.proofs.Marking.{stops, goes, more, ends}
use Rattle.key_table.proofs.cache_write_backs.mark_keys.Goals as goal

pub returns-in_err-load-clause-decides : goal.returns-in_err-load-clause-decides
returns-in_err-load-clause-decides c =
    let l = c.loop-left in
    rw (exit c.from_residual.result c.in_err-load.field-0.0 _ c.from_residual.ensures.1 (λ y h. h))
    (l.invariant.follows (Err c.in_err-load.field-0.0) (λ cs is. stops c.args.machine.pages l.number l.left cs l.answers.left.now (Err c.in_err-load.field-0.0) (search rules) c.in_err-load.ensures.0 (search rules)))

pub loop-left-preserved : goal.loop-left-preserved
loop-left-preserved c =
    let l = c.loop-left in
    let key = c.in_ok-load.field-0 in
    record {
      follows = λ r next. l.invariant.follows r (λ cs is. goes c.args.machine.pages l.number l.left key cs l.answers.left.now c.load.new.self.left.now r (search rules) c.in_ok-load.ensures
          (next (cs ++ Put (place.Key l.number) (marked key) ∷ []) (more l.number l.left key cs l.answers.left.now c.load.new.self.left.now (search rules) c.in_ok-load.ensures ∙ is)));
      number = search rules;
      early = search rules;
    }

pub returns-clause-decides : goal.returns-clause-decides
returns-clause-decides c =
    let l = c.loop-left in
    rw c.done.ensures (l.invariant.follows _ (λ cs is. ends c.args.machine.pages l.number l.left cs _ l.answers.left.now (search rules) is))
