use Rattle.std.proofs.Common.{◌∙◌, ◌<◌, [], length, arith}
use Rattle.std.proofs.Math.ListN.{length-set}
use Rattle.leaf_table.specs.Given.{given_in}
use Rattle.run_texts.specs.Openings.{opening_of}
use Rattle.run_texts.proofs.Replayed.{machine-at, open-of, one-more-left, after-turn, as-before, still-ended, fewer-by, ended-by}
use Rattle.run_texts.proofs.turns.finish.Goals as goal

pub turn-requires : goal.turn-requires
turn-requires g c = machine-at _ _ _ c.loop-moved.lps _ _ c.args.lp c.index-lps-lp.result c.loop-moved.invariant.left (omega (arith, c.loop-moved.invariant.count, c.requires.lp))

pub loop-moved-smaller : goal.loop-moved-smaller
loop-moved-smaller g c =
    let seeks = g.W.Onlooker.seeks c.args.onlooker.now in
    let stops = g.W.Onlooker.stops in
    fewer-by seeks stops c.loop-moved.lps c.args.lp c.index-lps-lp.result c.turn.new.state c.loop-moved.bench c.turn.new.bench c.loop-moved.seen c.turn.new.seen (opening_of (given_in c.args.given) c.args.script.now) [] _ _ (omega (arith, c.loop-moved.invariant.count, c.requires.lp)) c.loop-moved.invariant.left c.in-Some.moved c.if-not-moved.false c.in-Some.ensures

pub loop-moved-preserved : goal.loop-moved-preserved
loop-moved-preserved g c =
    let seeks = g.W.Onlooker.seeks c.args.onlooker.now in
    let stops = g.W.Onlooker.stops in
    let o = opening_of (given_in c.args.given) c.args.script.now in
    let schedule = c.args.script.now.schedule in
    let op = open-of (given_in c.args.given) c.args.script.now c.requires.form in
    let inside : c.args.lp < length c.loop-moved.lps = omega (arith, c.loop-moved.invariant.count, c.requires.lp) in
    record {
      count = length-set c.loop-moved.lps c.args.lp c.turn.new.state ∙ c.loop-moved.invariant.count;
      ended = still-ended c.loop-moved.lps c.args.lp c.turn.new.state c.loop-moved.invariant.ended;
      left =
          after-turn seeks stops c.laws_of_turns.ensures o schedule [] c.loop-moved.lps c.args.lp c.index-lps-lp.result c.turn.new.state _ c.loop-moved.bench c.turn.new.bench c.loop-moved.seen c.turn.new.seen op c.requires.on inside
          (one-more-left c.laws_of_turns.ensures o (seeks c.loop-moved.seen o schedule) c.loop-moved.lps _ _ c.args.lp op (c.requires.on c.loop-moved.seen) inside c.loop-moved.invariant.ended c.loop-moved.invariant.left) c.in-Some.moved c.in-Some.ensures;
    }

pub returns-in_default-clause-gone : goal.returns-in_default-clause-gone
returns-in_default-clause-gone g c =
    (c.in_default.ensures.0, ([], as-before (g.W.Onlooker.seeks c.args.onlooker.now) g.W.Onlooker.stops c.laws_of_turns.ensures (opening_of (given_in c.args.given) c.args.script.now) c.args.script.now.schedule [] c.loop-moved.lps c.args.lp c.index-lps-lp.result c.turn.new.state _ c.loop-moved.bench c.turn.new.bench c.loop-moved.seen c.turn.new.seen c.loop-moved.invariant.left c.in_default.ensures))

pub returns-then-not-moved-clause-gone : goal.returns-then-not-moved-clause-gone
returns-then-not-moved-clause-gone g c =
    let seeks = g.W.Onlooker.seeks c.args.onlooker.now in
    let stops = g.W.Onlooker.stops in
    let o = opening_of (given_in c.args.given) c.args.script.now in
    let schedule = c.args.script.now.schedule in
    let op = open-of (given_in c.args.given) c.args.script.now c.requires.form in
    let inside : c.args.lp < length c.loop-moved.lps = omega (arith, c.loop-moved.invariant.count, c.requires.lp) in (
      ended-by seeks stops c.loop-moved.lps c.args.lp c.index-lps-lp.result c.turn.new.state c.loop-moved.bench c.turn.new.bench c.loop-moved.seen c.turn.new.seen inside c.loop-moved.invariant.ended c.in-Some.moved c.if-not-moved.true c.in-Some.ensures,
      after-turn seeks stops c.laws_of_turns.ensures o schedule [] c.loop-moved.lps c.args.lp c.index-lps-lp.result c.turn.new.state _ c.loop-moved.bench c.turn.new.bench c.loop-moved.seen c.turn.new.seen op c.requires.on inside
          (one-more-left c.laws_of_turns.ensures o (seeks c.loop-moved.seen o schedule) c.loop-moved.lps _ _ c.args.lp op (c.requires.on c.loop-moved.seen) inside c.loop-moved.invariant.ended c.loop-moved.invariant.left) c.in-Some.moved c.in-Some.ensures,
    )
