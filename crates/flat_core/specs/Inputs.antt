-- Bundles that come in, as the rows of the calls with an input slot look at them (TD Migration Architecture, "Migration
-- Bundles").
use Rattle.std.specs.Prelude.{ℕ, ◌+◌, ◌-◌, ◌*◌, ◌%◌, ◌^◌, List, [], ◌∷◌, length, Option, Some, None, Result, Ok, Err, Bool, true, false, ◌==◌, ◌&&◌, nat_lt, nat_le, slice_index_or, if◌then◌else◌}
use Rattle.std.specs.List.{list_any}
use Rattle.td_words.specs.declared.names.HeaderField.{HeaderField}
use Rattle.td_words.specs.declared.names.HeaderField.TheVariants as field
use Rattle.td_words.specs.declared.refusals.Status.TheVariants.{NoBundle, BundleHeader, BundleCounter, BundleTag}
use Rattle.td_words.specs.declared.replies.Reply.{Reply}
use Rattle.flat_core.specs.World.{World, ClearHeader}
use Rattle.flat_core.specs.Opening.{Incoming}
use Rattle.flat_core.specs.Row.{Item, needs}
use Rattle.flat_core.specs.PageLists.{most_pages}

-- what a row looks at: whether the slot has a bundle, the first fault of its form, its header, whether its tag is that of its
-- bytes, and the words of its payload, which are 0 behind the last
pub record Input : Type 0 where
  pub there : Bool
  pub fault : Option HeaderField
  pub header : ClearHeader
  pub tag_right : Bool
  pub words : ℕ → ℕ

-- the most that the fields that depend on the type may be
abbrev pub most_stream : ℕ → ℕ
most_stream kind = if kind == 3 then 3 else 0

abbrev pub most_index : ℕ → ℕ
most_index kind = if kind == 2 then 7 else 0

abbrev pub most_info : ℕ → ℕ
most_info kind = if kind == 0 then 8 else if kind == 2 then 256 else 0

abbrev pub most_gpa : ℕ → ℕ
most_gpa kind = if kind == 3 then 2 ^ 47 - 1 else 0

-- a bundle of pages of version 2 is a list of them: it says how many, and they end by 2^47
abbrev pub is_list : ClearHeader → Bool
is_list h = h.version == 2 && h.kind == 3

abbrev pub fits_list : (info gpa : ℕ) → Bool
fits_list info gpa = nat_le 1 info && (nat_le info most_pages && nat_le (gpa + 4096 * info) (2 ^ 47))

abbrev pub fits_one : (kind info gpa : ℕ) → Bool
fits_one kind info gpa = nat_le info (most_info kind) && nat_le gpa (most_gpa kind)

abbrev pub fits_version : ClearHeader → Bool
fits_version h = if is_list h then fits_list h.info h.gpa else fits_one h.kind h.info h.gpa

-- a header's fields have values that its form allows: those that depend on type and version, a counter and an epoch of 32 bits,
-- a session of 16 bits that isn't 0, and a GPA that is a page's
abbrev pub has_values : ClearHeader → Bool
has_values h =
    nat_le h.stream (most_stream h.kind) && (nat_le h.index (most_index h.kind) && (fits_version h && ((h.gpa % 4096 == 0)
    && (nat_lt h.counter (2 ^ 32) && ((h.iv == h.counter) && (nat_lt h.epoch (2 ^ 32) && (nat_le 1 h.session && nat_lt h.session (2 ^ 16))))))))

abbrev pub no_header : ClearHeader
no_header = record { size = 0; version = 0; stream = 0; kind = 0; reserved = 0; counter = 0; epoch = 0; iv = 0; session = 0; index = 0; info = 0; gpa = 0; total = 0 }

abbrev pub header_of_input : Result ClearHeader HeaderField → ClearHeader
header_of_input (Ok h) = h
header_of_input (Err f) = no_header

-- Bytes with a header that no form allows have a fault already. So no bundle that is read of bytes is refused for its values
-- here.
abbrev pub fault_of_input : Result ClearHeader HeaderField → Option HeaderField
fault_of_input (Ok h) = if has_values h then None else Some field.Value
fault_of_input (Err f) = Some f

abbrev pub word_given : List ℕ → ℕ → ℕ
word_given words i = slice_index_or words i 0

abbrev pub input_in : Option Incoming → Input
input_in None = record { there = false; fault = Some field.Short; header = no_header; tag_right = false; words = λ i. 0 }
input_in (Some b) = record { there = true; fault = fault_of_input b.header; header = header_of_input b.header; tag_right = b.«opens»; words = word_given b.payload }

-- The beginning of these rows, behind their arguments: there is a bundle, it has the form of one, and its type is one of these.
abbrev pub has_no_fault : Option HeaderField → Bool
has_no_fault None = true
has_no_fault (Some f) = false

abbrev pub fault_shown : Option HeaderField → HeaderField
fault_shown None = field.Short
fault_shown (Some f) = f

abbrev pub input_row : Input → (slot : ℕ) → List ℕ → List (Item Reply)
input_row x slot kinds =
    needs x.there (NoBundle slot) ∷ needs (has_no_fault x.fault) (BundleHeader (fault_shown x.fault))
    ∷ needs (list_any (λ k. k == x.header.kind) kinds) (BundleHeader field.Kind) ∷ []

-- conditions on its header, and on its tag
abbrev pub header_says : Bool → HeaderField → Item Reply
header_says holds f = needs holds (BundleHeader f)

abbrev pub stream_there : World → ℕ → ClearHeader → Item Reply
stream_there w t h = header_says (nat_lt h.stream (length (w.tds.streams t))) field.Stream

abbrev pub session_same : World → ℕ → ClearHeader → Item Reply
session_same w t h = header_says (h.session == w.tds.sessions t) field.Session

abbrev pub epoch_same : World → ℕ → ClearHeader → Item Reply
epoch_same w t h = header_says (h.epoch == w.tds.mig_epochs t) field.Epoch

-- the counter is the one that is due. A stream whose counter has its last value takes no bundle, as it makes none
abbrev pub counter_due : ℕ → ClearHeader → Item Reply
counter_due due h = needs (h.counter == due && nat_lt due (2 ^ 32 - 1)) (BundleCounter due h.counter)

abbrev pub tag_holds : Input → Item Reply
tag_holds x = needs x.tag_right BundleTag
