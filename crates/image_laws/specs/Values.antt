-- The values that a header may have are told by the table of kinds, by which bytes are read, and by the table of the rows,
-- which look at a bundle that came in. The two say the same (TD Migration Architecture, "Migration Bundles").
use Rattle.std.specs.Prelude.{◌≡◌, ◌<◌, ◌≤◌, ℕ, List, length, slice_index, Option, Some, None, Result, Ok, Err, true}
use Rattle.td_words.specs.declared.headers.Header.{Header}
use Rattle.td_words.specs.declared.names.HeaderField.{HeaderField}
use Rattle.flat_core.specs.Opening.{clear_header}
use Rattle.flat_core.specs.Inputs.{most_stream, most_index, most_info, most_gpa, has_values, fault_of_input}
use Rattle.bundle_format.specs.declared.kinds.BundleKind.{BundleKind}
use Rattle.bundle_format.specs.declared.kinds.Allowed.{Allowed}
use Rattle.bundle_format.specs.Kinds.{kind_of, allowed}
use Rattle.bundle_format.specs.Headers.{is_lawful, bundle_in}
use Rattle.incoming.specs.Opened.{opened}

-- the rows allow a number's fields just as much as a line of the table of kinds does
pub record AllowsAsMuch (number : ℕ) (line : Allowed) : Type 0 where
  pub stream : most_stream number ≡ line.stream
  pub index : most_index number ≡ line.index
  pub info : most_info number ≡ line.info
  pub gpa : most_gpa number ≡ line.gpa

abbrev pub TablesAgree : Type 0
TablesAgree = (number : ℕ) (kind : BundleKind) → kind_of number ≡ Some kind → AllowsAsMuch number (allowed kind)

-- what a lawful header has besides: size, version and byte 7 as the layout has them, a tag of 16 bytes, a kind that there is,
-- and an epoch and a total that this allows
pub record HasForm (h : Header) : Type 0 where
  pub size : h.size ≡ 64
  pub version : h.version ≡ 1
  pub reserved : h.reserved ≡ 0
  pub tag : length h.tag ≡ 16
  pub kind : BundleKind
  pub named : kind_of h.kind ≡ Some kind
  pub epoch : h.epoch ≤ (allowed kind).epoch
  pub total : h.total ≤ (allowed kind).total

-- a header is lawful exactly where it has this form, and values that the rows let through
abbrev pub LawfulHaveValues : Type 0
LawfulHaveValues = (h : Header)
    → (is_lawful h ≡ true → HasForm h × (has_values (clear_header h) ≡ true)) × (HasForm h → has_values (clear_header h) ≡ true → is_lawful h ≡ true)

-- the first fault of bytes as a bundle, if there is one
abbrev pub fault_in : Result Header HeaderField → Option HeaderField
fault_in (Ok h) = None
fault_in (Err f) = Some f

-- So a row finds no fault in the form of a bundle that came in but the one that its bytes have.
abbrev pub RowsFindFaultsOfBytes : Type 0
RowsFindFaultsOfBytes = (forward backward bytes : List ℕ) → ((i : ℕ) → slice_index bytes i < 256)
    → fault_of_input (opened forward backward bytes).header ≡ fault_in (bundle_in bytes)
