use Rattle.std.proofs.Common.{◌∙◌, ◌+◌, ℕ, List, [], length, map, ap, sym}
use Rattle.std.specs.Prelude.{option_map}
use Rattle.flat_core.specs.Processor.{Note}
use Rattle.leaf_engine.specs.Trees.{added}
use Rattle.leaf_table.specs.Ends.{step_ends}
use Rattle.leaf_table.specs.Steps.{step_seen}
use Rattle.leaf_dispatch.specs.Answers.{answer_with, notes_by}
use Rattle.leaf_dispatch.specs.Guests.{note_seen, facts_at}
use Rattle.leaf_dispatch.proofs.Reporting.{notes-long}
use Rattle.leaf_dispatch.proofs.turns.note_by.Goals as goal

pub add_note-requires : goal.add_note-requires
add_note-requires c = record { room = rw (c.noted-note.ensures.noted 0 []) (rw c.in-Some.is at (c.requires.room 0 (option_map (facts_at []) c.args.place))) }

pub returns-in-Some-clause-noted : goal.returns-in-Some-clause-noted
returns-in-Some-clause-noted c = λ tdr reports.
    let by = ap (notes_by (answer_with (step_ends tdr c.args.line (step_seen c.args.step)) (option_map (facts_at reports) c.args.place))) c.in-Some.is in
    c.add_note.ensures.added reports ∙ ap (added (map (note_seen reports) c.args.notes.now.items)) (c.noted-note.ensures.noted tdr reports ∙ sym by)

pub returns-in-Some-clause-count : goal.returns-in-Some-clause-count
returns-in-Some-clause-count c = λ tdr reports.
    let by = ap (notes_by (answer_with (step_ends tdr c.args.line (step_seen c.args.step)) (option_map (facts_at reports) c.args.place))) c.in-Some.is in
    c.add_note.ensures.count ∙ ap (λ (n : ℕ). length c.args.notes.now.items + n) (notes-long c.noted-note.result [] reports ∙ ap (λ (ns : List Note). length ns) (c.noted-note.ensures.noted tdr reports ∙ sym by))

pub returns-in-Some-clause-placed : goal.returns-in-Some-clause-placed
returns-in-Some-clause-placed c = λ n old at. c.add_note.ensures.placed n old (c.noted-note.ensures.placed n at)
