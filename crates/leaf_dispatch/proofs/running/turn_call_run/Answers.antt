use Rattle.std.proofs.Common.{length, List, Option, None, refl, sym, subst, arith}
use Rattle.td_words.specs.declared.machines.Machine.{Machine}
use Rattle.flat_core.specs.World.{Made}
use Rattle.leaf_engine.specs.Turns.{Standing}
use Rattle.leaf_engine.specs.OwnLists.{running}
use Rattle.leaf_table.specs.Ends.{Ends, call_ends}
use Rattle.leaf_dispatch.specs.BundleRooms.{count_of, words_of, payload_words}
use Rattle.leaf_dispatch.specs.Running.{run_seen, made_in_run, TakesIts, IsKept, RunTurned}
use Rattle.leaf_dispatch.specs.declared.running.Running.{Running}
use Rattle.leaf_table.specs.Given.{given_in}
use Rattle.leaf_table.specs.Table.{task_of}
use Rattle.leaf_dispatch.proofs.Keeping.{can-turn-at, run-turned}
use Rattle.leaf_dispatch.proofs.Making.{counts_bundles, counts_words, call-room, call-facts}
use Rattle.leaf_dispatch.proofs.PageRooms.{turned-room}
use Rattle.leaf_dispatch.proofs.Taking.{takes-turned}
use Rattle.leaf_dispatch.proofs.running.turn_call_run.Goals as goal

pub turn_kept-made-requires : goal.turn_kept-made-requires
turn_kept-made-requires g c = can-turn-at _ _ (call_ends c.args.place.machine c.args.call.now) (running (task_of (given_in c.args.given) c.args.place c.args.call.now) (run_seen c.args.kept.now)) c.begin_where_none.new.kept c.requires.at c.begin_where_none.ensures.kept

pub add_made-requires-clause-room : goal.add_made-requires-clause-room
add_made-requires-clause-room g c =
    let few = call-room count_of length counts_bundles (g.B.Bench.did c.args.bench.now) c.turn_kept-made.new.bench _ (given_in c.args.given) c.args.place c.args.call.now (run_seen c.args.kept.now) c.begin_where_none.new.kept c.turn_kept-made.new.kept c.turn_kept-made.result c.requires.at
    c.begin_where_none.ensures.kept c.turn_kept-made.ensures.turned in
    let room = c.requires.room in
    omega (arith, few, room)

pub add_made-requires-clause-word_room : goal.add_made-requires-clause-word_room
add_made-requires-clause-word_room g c =
    let few = call-room words_of payload_words counts_words (g.B.Bench.did c.args.bench.now) c.turn_kept-made.new.bench _ (given_in c.args.given) c.args.place c.args.call.now (run_seen c.args.kept.now) c.begin_where_none.new.kept c.turn_kept-made.new.kept c.turn_kept-made.result c.requires.at
    c.begin_where_none.ensures.kept c.turn_kept-made.ensures.turned in
    let room = c.requires.word_room in
    omega (arith, few, room)

pub leave_call-requires : goal.leave_call-requires
leave_call-requires g c = record {
  page_room = turned-room (g.B.Bench.did c.args.bench.now) _ c.begin_where_none.new.spare c.begin_where_none.new.kept c.turn_kept-made.new.kept c.turn_kept-made.new.bench c.turn_kept-made.result c.turn_kept-made.ensures.turned c.begin_where_none.ensures.page_room;
}

pub returns-clause-turned : goal.returns-clause-turned
returns-clause-turned g c =
    let e : Ends = call_ends c.args.place.machine c.args.call.now in
    let s : Standing = running (task_of (given_in c.args.given) c.args.place c.args.call.now) (run_seen c.args.kept.now) in
    let made : List Made = made_in_run c.turn_kept-made.new.kept c.turn_kept-made.result.event in
    let k = subst (λ (z : Machine). IsKept z e s c.begin_where_none.new.kept) c.requires.at c.begin_where_none.ensures.kept in (
      made,
      c.add_made.ensures,
      subst (λ (z : Machine). RunTurned (g.B.Bench.did c.args.bench.now) z e s c.turn_kept-made.new.bench c.leave_call.new.kept c.leave_call.new.turn made None) (sym c.requires.at)
          (run-turned (g.B.Bench.did c.args.bench.now) c.turn_kept-made.new.bench _ e s c.begin_where_none.new.kept c.turn_kept-made.new.kept c.leave_call.new.kept c.leave_call.new.turn c.turn_kept-made.result made None k c.turn_kept-made.ensures.turned c.leave_call.ensures.turn
          c.leave_call.ensures.act refl (call-facts (g.B.Bench.did c.args.bench.now) c.turn_kept-made.new.bench _ (given_in c.args.given) c.args.place c.args.call.now s c.begin_where_none.new.kept c.turn_kept-made.new.kept c.turn_kept-made.result k c.turn_kept-made.ensures.turned) c.leave_call.ensures.kept),
    )

pub returns-clause-takes : goal.returns-clause-takes
returns-clause-takes g c =
    subst (λ (k : Option Running). TakesIts (given_in c.args.given) k) (sym c.leave_call.ensures.kept)
    (takes-turned (g.B.Bench.did c.args.bench.now) _ (given_in c.args.given) c.begin_where_none.new.kept c.turn_kept-made.new.kept c.turn_kept-made.new.bench c.turn_kept-made.result c.begin_where_none.ensures.takes c.turn_kept-made.ensures.turned)
