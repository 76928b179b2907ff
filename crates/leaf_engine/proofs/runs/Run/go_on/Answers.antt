use Rattle.std.proofs.Common.{◌≡◌, ◌∙◌, sym, subst}
use Rattle.td_words.specs.declared.machines.Machine.{Machine}
use Rattle.leaf_engine.specs.Turns.{standing, CanRun, IsStageIn}
use Rattle.leaf_engine.specs.declared.events.Stage.{Stage}
use Rattle.leaf_engine.proofs.Turned.{tries-goes, can-after-try, ends-goes}
use Rattle.leaf_engine.proofs.runs.Run.go_on.Goals as goal

pub returns-in-Lock-clause-went : goal.returns-in-Lock-clause-went
returns-in-Lock-clause-went g c =
    let s = standing (g.L.Leaf.rest c.args.self.now.leaf) c.args.self.now.stage c.args.self.now.held.items c.args.self.now.hasher in
    let asked = rw c.requires.machine at c.in-Lock.ensures.asked in
    let tried = c.try_lock-granted.ensures.tried in (
      _,
      g.met.B.Bench.did_more _ _ _ _ _ asked.1.1 tried.1,
      tries-goes (g.B.Bench.machine c.args.bench.now) s asked.0 asked.1.0 (g.L.Leaf.rest c.ask.new.leaf) (record { name = c.in-Lock.name; at = c.in-Lock.at; mode = c.in-Lock.mode }) tried.0 c.try_lock-granted.result c.note_try.new.stage c.note_try.new.held.items
          asked.1.2 asked.1.3 asked.1.4 tried.2 (record { stage = c.note_try.ensures.stage; held = c.note_try.ensures.held }),
    )

pub returns-in-Lock-clause-can_run : goal.returns-in-Lock-clause-can_run
returns-in-Lock-clause-can_run g c =
    let s = standing (g.L.Leaf.rest c.args.self.now.leaf) c.args.self.now.stage c.args.self.now.held.items c.args.self.now.hasher in
    let same : g.B.Bench.machine c.try_lock-granted.new.bench ≡ g.B.Bench.machine c.args.bench.now = c.try_lock-granted.ensures.machine ∙ c.in-Lock.ensures.same.0 in
    subst (λ (m : Machine). CanRun m (standing (g.L.Leaf.rest c.ask.new.leaf) c.note_try.new.stage c.note_try.new.held.items c.args.self.now.hasher) (g.L.Leaf.tries c.ask.new.leaf) (g.L.Leaf.written c.ask.new.leaf) (g.L.Leaf.waits c.ask.new.leaf)) (sym same)
    (can-after-try (g.B.Bench.machine c.args.bench.now) s (g.L.Leaf.rest c.ask.new.leaf) (record { name = c.in-Lock.name; at = c.in-Lock.at; mode = c.in-Lock.mode })
    (g.L.Leaf.tries c.args.self.now.leaf) (g.L.Leaf.tries c.ask.new.leaf) (g.L.Leaf.written c.args.self.now.leaf) (g.L.Leaf.written c.ask.new.leaf) (g.L.Leaf.waits c.args.self.now.leaf) (g.L.Leaf.waits c.ask.new.leaf)
    c.try_lock-granted.result c.note_try.new.stage c.note_try.new.held.items
    c.requires.can_run c.requires.trying c.in-Lock.ensures.inside c.in-Lock.ensures.tries c.in-Lock.ensures.same.2 c.in-Lock.ensures.ready
    (record { stage = c.note_try.ensures.stage; held = c.note_try.ensures.held }))

pub returns-in-Verdict-clause-went : goal.returns-in-Verdict-clause-went
returns-in-Verdict-clause-went g c =
    let s = standing (g.L.Leaf.rest c.args.self.now.leaf) c.args.self.now.stage c.args.self.now.held.items c.args.self.now.hasher in
    let asked = rw c.requires.machine at c.in-Verdict.ensures.asked in
    let changed = rw c.in-Verdict.ensures.same.0 at c.change.ensures.changed in
    let none : g.L.Leaf.written c.args.self.now.leaf ≡ 0 = subst (λ (z : Stage). IsStageIn (g.B.Bench.machine c.args.bench.now) (g.L.Leaf.written c.args.self.now.leaf) z) c.requires.trying c.requires.can_run.stage_in in (
      _,
      g.met.B.Bench.did_more _ _ _ _ _ asked.1.1 changed.1,
      ends-goes (g.B.Bench.machine c.args.bench.now) s asked.0 changed.0 asked.1.0 (g.L.Leaf.rest c.change.new.leaf) (g.L.Leaf.rest c.ask.new.leaf) (g.L.Leaf.written c.ask.new.leaf) c.in-Verdict.reply c.change.new.hasher
          asked.1.2 asked.1.3 asked.1.4 c.change.ensures.same.2 (c.in-Verdict.ensures.same.2 ∙ none) changed.2,
    )
