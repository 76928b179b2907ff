-- What a script needs beside itself.
use Rattle.std.specs.Prelude.{List, Bool, is_some, ◌||◌, nat_lt}
use Rattle.std.specs.List.{list_any}
use Rattle.td_words.specs.declared.calls.Call.{Call}
use Rattle.td_words.specs.Seen.{CodeSeen}
use Rattle.td_words.specs.Slots.{output_slot, input_slot}
use Rattle.script_text.specs.Blocks.{reports_in}

-- a call among these makes a bundle or takes one
abbrev pub names_a_slot : List Call → Bool
names_a_slot calls = list_any (λ c. is_some (output_slot c) || is_some (input_slot c)) calls

-- the keys of a key file are needed where a processor has such a call, since a bundle is sealed where it is made and opened
-- where it comes in
abbrev pub needs_keys : List (List Call) → Bool
needs_keys calls = list_any names_a_slot calls

-- the report key is needed where a list has a report
abbrev pub needs_report_key : List CodeSeen → Bool
needs_report_key codes = list_any (λ c. nat_lt 0 (reports_in c.ops)) codes
