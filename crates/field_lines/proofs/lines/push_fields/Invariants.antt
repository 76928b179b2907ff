use Rattle.std.proofs.Common.{◌≡◌, ◌++◌, drop, map, string_bytes}
use Rattle.field_lines.specs.Fields.{field_seen, fields_text}
use Rattle.field_lines.proofs.lines.push_fields.Given as goal

-- the fields that are left go on behind the text so far
abbrev pub invariant-loop-i : goal.invariant-loop-i
invariant-loop-i l = string_bytes l.text ++ fields_text l.form (map field_seen (drop l.i l.fields)) ≡ string_bytes l.initial.text ++ fields_text l.form (map field_seen l.fields)
