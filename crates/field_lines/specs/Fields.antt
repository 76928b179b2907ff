-- Lines of named fields: for reading, and as JSON (RFC 8259), an object a line.
use Rattle.std.specs.Prelude.{ℕ, ◌*◌, List, [], ◌∷◌, ◌++◌, map, codes}
use Rattle.std.specs.List.{concat}
use Rattle.std.specs.Fmt.{decimal}
use Rattle.td_words.specs.declared.names.Mode.{Mode}
use Rattle.td_words.specs.declared.names.Mode.TheVariants.{Shared, Exclusive}
use Rattle.td_words.specs.NameText.{kind_text, life_text, op_text, vcpu_text, entry_text, lock_text, access_text}
use Rattle.td_words.specs.ReplyText.{gpa_text, reply_text}
use Rattle.field_lines.specs.declared.fields.Value.{Value}
use Rattle.field_lines.specs.declared.fields.Value.TheVariants as value
use Rattle.field_lines.specs.declared.fields.Field.{Field}
use Rattle.field_lines.specs.declared.lines.Form.{Form}
use Rattle.field_lines.specs.declared.lines.Form.TheVariants as form

-- what a field says: a number, an address in bytes, that of a page by the page's number, or a word
pub data ValueSeen : Type 0 where
  Number : ℕ → ValueSeen
  Address : ℕ → ValueSeen
  PageAddress : ℕ → ValueSeen
  Word : List ℕ → ValueSeen

-- a field: what stands before its value for reading, its name as a member, and its value
pub record FieldSeen : Type 0 where
  pub label : List ℕ
  pub name : List ℕ
  pub value : ValueSeen

abbrev pub field : (label name : List ℕ) → ValueSeen → FieldSeen
field label name v = record { label = label; name = name; value = v }

abbrev pub mode_text : Mode → List ℕ
mode_text Shared = codes "shared"
mode_text Exclusive = codes "exclusive"

-- names of the profile are words
abbrev pub value_seen : Value → ValueSeen
value_seen (value.Number n) = Number n
value_seen (value.Address a) = Address a
value_seen (value.PageAddress p) = PageAddress p
value_seen (value.Word w) = Word w.now
value_seen (value.Kind k) = Word (kind_text k)
value_seen (value.Life l) = Word (life_text l)
value_seen (value.Op s) = Word (op_text s)
value_seen (value.Vcpu s) = Word (vcpu_text s)
value_seen (value.Entry s) = Word (entry_text s)
value_seen (value.Lock l) = Word (lock_text l)
value_seen (value.Mode m) = Word (mode_text m)
value_seen (value.Access a) = Word (access_text a)
value_seen (value.Reply r) = Word (reply_text r)

abbrev pub field_seen : Field → FieldSeen
field_seen f = field f.0.now f.1.now (value_seen f.2)

-- a value for reading; a page's address ends in three digits 0
abbrev pub value_text : ValueSeen → List ℕ
value_text (Number n) = decimal n
value_text (Address a) = gpa_text a
value_text (PageAddress p) = gpa_text p ++ codes "000"
value_text (Word w) = w

abbrev pub string_text : List ℕ → List ℕ
string_text w = codes "\"" ++ (w ++ codes "\"")

-- a value in an object: an address is a number in bytes too
abbrev pub json_value : ValueSeen → List ℕ
json_value (Number n) = decimal n
json_value (Address a) = decimal a
json_value (PageAddress p) = decimal (p * 4096)
json_value (Word w) = string_text w

-- a field for reading, or as a member behind others
abbrev pub field_text : Form → FieldSeen → List ℕ
field_text form.Plain f = f.label ++ value_text f.value
field_text form.Json f = codes ", \"" ++ (f.name ++ (codes "\": " ++ json_value f.value))

abbrev pub fields_text : Form → List FieldSeen → List ℕ
fields_text f fields = concat (map (field_text f) fields)

-- a line of fields; as an object it says first, in a word, what it tells
abbrev pub plain_line : List FieldSeen → List ℕ
plain_line fields = fields_text form.Plain fields ++ 10 ∷ []

abbrev pub object_line : (what : List ℕ) → List FieldSeen → List ℕ
object_line what fields = codes "{\"what\": \"" ++ (what ++ (codes "\"" ++ (fields_text form.Json fields ++ codes "}\n")))

abbrev pub line_text : Form → (what : List ℕ) → List FieldSeen → List ℕ
line_text form.Plain what fields = plain_line fields
line_text form.Json what fields = object_line what fields
