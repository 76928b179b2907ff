use Rattle.std.proofs.Common.{map, length, refl, ap, arith}
use Rattle.leaf_dispatch.specs.Guests.{note_seen}
use Rattle.leaf_dispatch.specs.NoteRooms.{longest_in}
use Rattle.leaf_dispatch.specs.BundleRooms.{count_of, words_of, payload_words}
use Rattle.leaf_dispatch.specs.CallRuns.{call_run_seen}
use Rattle.leaf_table.specs.Given.{given_in}
use Rattle.leaf_dispatch.proofs.Making.{counts_bundles, counts_words, first-room, line-room, ended-room}
use Rattle.leaf_dispatch.specs.Inside.{acting}
use Rattle.leaf_dispatch.proofs.GuestEvents.{none-acts}
use Rattle.leaf_dispatch.proofs.CallTurns.{host-alone}
use Rattle.leaf_dispatch.proofs.StateEvents.{line-goes-on, line-has-ended}
use Rattle.leaf_dispatch.proofs.states.LpState.line_event.Goals as goal

pub invariant_of-self-clause-inside : goal.invariant_of-self-clause-inside
invariant_of-self-clause-inside g c =
    let l = c.args.self.now in
    let done = line-goes-on l.place (given_in l.given) l.codes.now c.args.call.now c.args.further.now l.cached c.turn_line.new.cached l.replies.items (map (note_seen l.reports.items) l.notes.items) l.told.items l.bundles.made c.turn_line.new.bundles.made (g.B.Bench.did c.args.bench.now) c.turn_line.new.bench c.turn_line.new.kept c.turn_line.new.turn c.turn_line.ensures.turned.0 c.turns_in_pieces.ensures
    c.turn_line.ensures.entered.0 l.lines.now l.guest l.run.host l.run.other l.step_run c.requires.lines (none-acts (acting l.guest l.run.other) c.requires.own) l.inside (host-alone l.place.machine l.lines.now l.run (let n = ap length c.requires.lines in omega (arith, n)) l.under_way) c.turn_line.ensures.stays c.turn_line.ensures.turned.2 c.turn_line.ensures.cached c.turn_line.ensures.turned.1.made c.turn_line.ensures.entered.2 c.turn_line.ensures.entered.3 c.turn_line.new.guest c.turn_line.ensures.entered.1 c.in-None.is in
    done.keeps

pub invariant_of-self-clause-note_room : goal.invariant_of-self-clause-note_room
invariant_of-self-clause-note_room g c =
    let l = c.args.self.now in
    let done = line-goes-on l.place (given_in l.given) l.codes.now c.args.call.now c.args.further.now l.cached c.turn_line.new.cached l.replies.items (map (note_seen l.reports.items) l.notes.items) l.told.items l.bundles.made c.turn_line.new.bundles.made (g.B.Bench.did c.args.bench.now) c.turn_line.new.bench c.turn_line.new.kept c.turn_line.new.turn c.turn_line.ensures.turned.0 c.turns_in_pieces.ensures
    c.turn_line.ensures.entered.0 l.lines.now l.guest l.run.host l.run.other l.step_run c.requires.lines (none-acts (acting l.guest l.run.other) c.requires.own) l.inside (host-alone l.place.machine l.lines.now l.run (let n = ap length c.requires.lines in omega (arith, n)) l.under_way) c.turn_line.ensures.stays c.turn_line.ensures.turned.2 c.turn_line.ensures.cached c.turn_line.ensures.turned.1.made c.turn_line.ensures.entered.2 c.turn_line.ensures.entered.3 c.turn_line.new.guest c.turn_line.ensures.entered.1 c.in-None.is in
    let room = done.room (longest_in l.codes.now) in let had = l.note_room in omega (arith, room, had)

pub invariant_of-self-clause-word_room : goal.invariant_of-self-clause-word_room
invariant_of-self-clause-word_room g c =
    let l = c.args.self.now in
    let done = line-goes-on l.place (given_in l.given) l.codes.now c.args.call.now c.args.further.now l.cached c.turn_line.new.cached l.replies.items (map (note_seen l.reports.items) l.notes.items) l.told.items l.bundles.made c.turn_line.new.bundles.made (g.B.Bench.did c.args.bench.now) c.turn_line.new.bench c.turn_line.new.kept c.turn_line.new.turn c.turn_line.ensures.turned.0 c.turns_in_pieces.ensures
    c.turn_line.ensures.entered.0 l.lines.now l.guest l.run.host l.run.other l.step_run c.requires.lines (none-acts (acting l.guest l.run.other) c.requires.own) l.inside (host-alone l.place.machine l.lines.now l.run (let n = ap length c.requires.lines in omega (arith, n)) l.under_way) c.turn_line.ensures.stays c.turn_line.ensures.turned.2 c.turn_line.ensures.cached c.turn_line.ensures.turned.1.made c.turn_line.ensures.entered.2 c.turn_line.ensures.entered.3 c.turn_line.new.guest c.turn_line.ensures.entered.1 c.in-None.is in
    let room = done.room (longest_in l.codes.now) in let had = l.word_room in omega (arith, room, had)

pub invariant_of-self-clause-fact_room : goal.invariant_of-self-clause-fact_room
invariant_of-self-clause-fact_room g c =
    let l = c.args.self.now in
    let done = line-goes-on l.place (given_in l.given) l.codes.now c.args.call.now c.args.further.now l.cached c.turn_line.new.cached l.replies.items (map (note_seen l.reports.items) l.notes.items) l.told.items l.bundles.made c.turn_line.new.bundles.made (g.B.Bench.did c.args.bench.now) c.turn_line.new.bench c.turn_line.new.kept c.turn_line.new.turn c.turn_line.ensures.turned.0 c.turns_in_pieces.ensures
    c.turn_line.ensures.entered.0 l.lines.now l.guest l.run.host l.run.other l.step_run c.requires.lines (none-acts (acting l.guest l.run.other) c.requires.own) l.inside (host-alone l.place.machine l.lines.now l.run (let n = ap length c.requires.lines in omega (arith, n)) l.under_way) c.turn_line.ensures.stays c.turn_line.ensures.turned.2 c.turn_line.ensures.cached c.turn_line.ensures.turned.1.made c.turn_line.ensures.entered.2 c.turn_line.ensures.entered.3 c.turn_line.new.guest c.turn_line.ensures.entered.1 c.in-None.is in
    let room = done.reports in let had = l.fact_room in omega (arith, room, had)

pub invariant_of-self-clause-few_facts : goal.invariant_of-self-clause-few_facts
invariant_of-self-clause-few_facts g c =
    let l = c.args.self.now in
    let done = line-goes-on l.place (given_in l.given) l.codes.now c.args.call.now c.args.further.now l.cached c.turn_line.new.cached l.replies.items (map (note_seen l.reports.items) l.notes.items) l.told.items l.bundles.made c.turn_line.new.bundles.made (g.B.Bench.did c.args.bench.now) c.turn_line.new.bench c.turn_line.new.kept c.turn_line.new.turn c.turn_line.ensures.turned.0 c.turns_in_pieces.ensures
    c.turn_line.ensures.entered.0 l.lines.now l.guest l.run.host l.run.other l.step_run c.requires.lines (none-acts (acting l.guest l.run.other) c.requires.own) l.inside (host-alone l.place.machine l.lines.now l.run (let n = ap length c.requires.lines in omega (arith, n)) l.under_way) c.turn_line.ensures.stays c.turn_line.ensures.turned.2 c.turn_line.ensures.cached c.turn_line.ensures.turned.1.made c.turn_line.ensures.entered.2 c.turn_line.ensures.entered.3 c.turn_line.new.guest c.turn_line.ensures.entered.1 c.in-None.is in
    let room = done.reports in let had = l.few_facts in omega (arith, room, had)

pub returns-in-None-clause-moved : goal.returns-in-None-clause-moved
returns-in-None-clause-moved g c =
    let l = c.args.self.now in
    let done = line-goes-on l.place (given_in l.given) l.codes.now c.args.call.now c.args.further.now l.cached c.turn_line.new.cached l.replies.items (map (note_seen l.reports.items) l.notes.items) l.told.items l.bundles.made c.turn_line.new.bundles.made (g.B.Bench.did c.args.bench.now) c.turn_line.new.bench c.turn_line.new.kept c.turn_line.new.turn c.turn_line.ensures.turned.0 c.turns_in_pieces.ensures
    c.turn_line.ensures.entered.0 l.lines.now l.guest l.run.host l.run.other l.step_run c.requires.lines (none-acts (acting l.guest l.run.other) c.requires.own) l.inside (host-alone l.place.machine l.lines.now l.run (let n = ap length c.requires.lines in omega (arith, n)) l.under_way) c.turn_line.ensures.stays c.turn_line.ensures.turned.2 c.turn_line.ensures.cached c.turn_line.ensures.turned.1.made c.turn_line.ensures.entered.2 c.turn_line.ensures.entered.3 c.turn_line.new.guest c.turn_line.ensures.entered.1 c.in-None.is in
    ((done.moved.pieces, done.moved.did_them, (refl, refl, refl, record { event_is = c.turn_line.new.turn.event; turns = done.moved.turn; tells = done.moved.tells })), done.moved.fewer)

pub returns-in-Ok-clause-moved : goal.returns-in-Ok-clause-moved
returns-in-Ok-clause-moved g c =
    let l = c.args.self.now in
    let done = line-has-ended l.place (given_in l.given) l.codes.now c.args.call.now c.args.further.now l.cached c.turn_line.new.cached l.replies.items (map (note_seen l.reports.items) l.notes.items) l.told.items l.bundles.made c.turn_line.new.bundles.made (g.B.Bench.did c.args.bench.now) c.turn_line.new.bench c.turn_line.new.kept c.turn_line.new.turn c.turn_line.ensures.turned.0 c.turns_in_pieces.ensures
    c.turn_line.ensures.entered.0 l.lines.now l.guest l.run.host l.run.other l.step_run c.requires.lines (none-acts (acting l.guest l.run.other) c.requires.own) l.inside (host-alone l.place.machine l.lines.now l.run (let n = ap length c.requires.lines in omega (arith, n)) l.under_way) c.turn_line.ensures.stays c.turn_line.ensures.turned.2 c.turn_line.ensures.cached c.turn_line.ensures.turned.1.made c.turn_line.ensures.entered.2 c.turn_line.ensures.entered.3 c.in-Some.reply c.push.new.self.items c.in-Some.is c.in-Ok.ensures.items in
    ((done.moved.pieces, done.moved.did_them, (refl, refl, refl, record { event_is = c.turn_line.new.turn.event; turns = done.moved.turn; tells = done.moved.tells })), done.moved.fewer)

pub invariant_of-self-in-Some-clause-fact_room : goal.invariant_of-self-in-Some-clause-fact_room
invariant_of-self-in-Some-clause-fact_room g c =
    let l = c.args.self.now in
    let done = line-has-ended l.place (given_in l.given) l.codes.now c.args.call.now c.args.further.now l.cached c.turn_line.new.cached l.replies.items (map (note_seen l.reports.items) l.notes.items) l.told.items l.bundles.made c.turn_line.new.bundles.made (g.B.Bench.did c.args.bench.now) c.turn_line.new.bench c.turn_line.new.kept c.turn_line.new.turn c.turn_line.ensures.turned.0 c.turns_in_pieces.ensures
    c.turn_line.ensures.entered.0 l.lines.now l.guest l.run.host l.run.other l.step_run c.requires.lines (none-acts (acting l.guest l.run.other) c.requires.own) l.inside (host-alone l.place.machine l.lines.now l.run (let n = ap length c.requires.lines in omega (arith, n)) l.under_way) c.turn_line.ensures.stays c.turn_line.ensures.turned.2 c.turn_line.ensures.cached c.turn_line.ensures.turned.1.made c.turn_line.ensures.entered.2 c.turn_line.ensures.entered.3 c.in-Some.reply c.push.new.self.items c.in-Some.is c.in-Ok.ensures.items in
    let room = done.reports in let had = l.fact_room in omega (arith, room, had)

pub invariant_of-self-in-Some-clause-few_facts : goal.invariant_of-self-in-Some-clause-few_facts
invariant_of-self-in-Some-clause-few_facts g c =
    let l = c.args.self.now in
    let done = line-has-ended l.place (given_in l.given) l.codes.now c.args.call.now c.args.further.now l.cached c.turn_line.new.cached l.replies.items (map (note_seen l.reports.items) l.notes.items) l.told.items l.bundles.made c.turn_line.new.bundles.made (g.B.Bench.did c.args.bench.now) c.turn_line.new.bench c.turn_line.new.kept c.turn_line.new.turn c.turn_line.ensures.turned.0 c.turns_in_pieces.ensures
    c.turn_line.ensures.entered.0 l.lines.now l.guest l.run.host l.run.other l.step_run c.requires.lines (none-acts (acting l.guest l.run.other) c.requires.own) l.inside (host-alone l.place.machine l.lines.now l.run (let n = ap length c.requires.lines in omega (arith, n)) l.under_way) c.turn_line.ensures.stays c.turn_line.ensures.turned.2 c.turn_line.ensures.cached c.turn_line.ensures.turned.1.made c.turn_line.ensures.entered.2 c.turn_line.ensures.entered.3 c.in-Some.reply c.push.new.self.items c.in-Some.is c.in-Ok.ensures.items in
    let room = done.reports in let had = l.few_facts in omega (arith, room, had)

-- the room for bundles

pub turn_line-requires-clause-room : goal.turn_line-requires-clause-room
turn_line-requires-clause-room g c =
    let l = c.args.self.now in first-room count_of c.args.call.now c.args.further.now l.lines.now (call_run_seen l.run) l.bundles.room c.requires.lines l.bundle_room

pub turn_line-requires-clause-word_room : goal.turn_line-requires-clause-word_room
turn_line-requires-clause-word_room g c =
    let l = c.args.self.now in first-room words_of c.args.call.now c.args.further.now l.lines.now (call_run_seen l.run) l.bundles.word_room c.requires.lines l.payload_room

pub invariant_of-self-clause-bundle_room : goal.invariant_of-self-clause-bundle_room
invariant_of-self-clause-bundle_room g c =
    let l = c.args.self.now in
    let used = line-room count_of length counts_bundles (g.B.Bench.did c.args.bench.now) c.turn_line.new.bench (given_in l.given) l.place c.args.call.now c.args.further.now l.lines.now (call_run_seen l.run) c.turn_line.new.kept c.turn_line.new.turn c.turn_line.ensures.turned.0 c.requires.lines c.turn_line.ensures.turned.2 c.in-None.is in
    let had = l.bundle_room in
    let more = c.turn_line.ensures.turned.1.room in
    omega (arith, used, had, more)

pub invariant_of-self-in-Some-clause-bundle_room : goal.invariant_of-self-in-Some-clause-bundle_room
invariant_of-self-in-Some-clause-bundle_room g c =
    let l = c.args.self.now in
    let used = ended-room count_of length counts_bundles (g.B.Bench.did c.args.bench.now) c.turn_line.new.bench (given_in l.given) l.place c.args.call.now c.args.further.now l.lines.now (call_run_seen l.run) c.turn_line.new.kept c.turn_line.new.turn c.turn_line.ensures.turned.0 c.requires.lines c.turn_line.ensures.turned.2 c.in-Some.reply c.in-Some.is in
    let had = l.bundle_room in
    let more = c.turn_line.ensures.turned.1.room in
    omega (arith, used, had, more)

pub invariant_of-self-clause-payload_room : goal.invariant_of-self-clause-payload_room
invariant_of-self-clause-payload_room g c =
    let l = c.args.self.now in
    let used = line-room words_of payload_words counts_words (g.B.Bench.did c.args.bench.now) c.turn_line.new.bench (given_in l.given) l.place c.args.call.now c.args.further.now l.lines.now (call_run_seen l.run) c.turn_line.new.kept c.turn_line.new.turn c.turn_line.ensures.turned.0 c.requires.lines c.turn_line.ensures.turned.2 c.in-None.is in
    let had = l.payload_room in
    let more = c.turn_line.ensures.turned.1.word_room in
    omega (arith, used, had, more)

pub invariant_of-self-in-Some-clause-payload_room : goal.invariant_of-self-in-Some-clause-payload_room
invariant_of-self-in-Some-clause-payload_room g c =
    let l = c.args.self.now in
    let used = ended-room words_of payload_words counts_words (g.B.Bench.did c.args.bench.now) c.turn_line.new.bench (given_in l.given) l.place c.args.call.now c.args.further.now l.lines.now (call_run_seen l.run) c.turn_line.new.kept c.turn_line.new.turn c.turn_line.ensures.turned.0 c.requires.lines c.turn_line.ensures.turned.2 c.in-Some.reply c.in-Some.is in
    let had = l.payload_room in
    let more = c.turn_line.ensures.turned.1.word_room in
    omega (arith, used, had, more)
