use Rattle.std.proofs.Common.{◌≡◌, ◌++◌, string_bytes}
use Rattle.state_lines.specs.Lines.{texts_below}
use Rattle.state_lines.specs.WordText.{entry_read, table_read}
use Rattle.state_lines.proofs.pages.+push_table.Given as goal

abbrev pub decreases-push_table : goal.decreases-push_table
decreases-push_table l = l.node

abbrev pub invariant-loop-index : goal.invariant-loop-index
invariant-loop-index l =
    string_bytes l.text ≡ string_bytes l.initial.text ++ texts_below (entry_read l.form l.words (λ q at. table_read l.form l.words l.tdr l.level q at) l.tdr l.level l.page l.base) l.index
