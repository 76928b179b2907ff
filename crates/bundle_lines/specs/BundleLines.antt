-- The bundles of a container as lines.
use Rattle.std.specs.Prelude.{ℕ, List, [], ◌∷◌, ◌++◌, length, Option, Some, None, Result, Ok, Err, codes}
use Rattle.std.specs.Fmt.{decimal}
use Rattle.hex.specs.Hex.{encode_lower}
use Rattle.td_words.specs.Seen.{BundleSeen}
use Rattle.td_words.specs.NameText.{field_text}
use Rattle.td_words.specs.ReplyText.{gpa_text}
use Rattle.td_words.specs.declared.headers.Header.{Header}
use Rattle.td_words.specs.declared.names.HeaderField.{HeaderField}
use Rattle.bundle_format.specs.declared.kinds.BundleKind.{BundleKind}
use Rattle.bundle_format.specs.declared.kinds.BundleKind.TheVariants as kind
use Rattle.bundle_format.specs.Kinds.{kind_of}
use Rattle.bundle_format.specs.Headers.{bundle_in}

-- what a bundle carries (TD Migration Architecture, "Migration Bundles"); no bundle without a fault is of an unknown kind
abbrev pub kind_name : Option BundleKind → List ℕ
kind_name (Some kind.ImmutableState) = codes "immutable-state"
kind_name (Some kind.TdState) = codes "td-state"
kind_name (Some kind.VcpuState) = codes "vcpu-state"
kind_name (Some kind.Memory) = codes "memory"
kind_name (Some kind.EpochToken) = codes "epoch-token"
kind_name (Some kind.StartToken) = codes "start-token"
kind_name (Some kind.AbortToken) = codes "abort-token"
kind_name None = codes "unknown"

-- the fields of a header behind its kind, in the order of its bytes
abbrev pub fields_text : Header → List ℕ
fields_text h =
    kind_name (kind_of h.kind) ++ (codes " stream " ++ (decimal h.stream ++ (codes " counter " ++ (decimal h.counter ++ (codes " epoch " ++ (decimal h.epoch
    ++ (codes " iv " ++ (decimal h.iv ++ (codes " session " ++ (decimal h.session ++ (codes " index " ++ (decimal h.index ++ (codes " info " ++ (decimal h.info
    ++ (codes " gpa " ++ (gpa_text h.gpa ++ (codes " total " ++ decimal h.total)))))))))))))))))

-- what is read of a bundle: its fields with the tag in hexadecimal digits, or its first fault
abbrev pub read_text : Result Header HeaderField → List ℕ
read_text (Ok h) = fields_text h ++ (codes " tag " ++ (encode_lower h.tag ++ 10 ∷ []))
read_text (Err f) = codes "fault " ++ (field_text f ++ 10 ∷ [])

-- a bundle's slot, and how many bytes it has
abbrev pub slot_text : BundleSeen → List ℕ
slot_text b = codes "slot " ++ (decimal b.slot ++ (codes " bytes " ++ (decimal (length b.bytes) ++ codes " ")))

-- and what is read of it
abbrev pub bundle_line : BundleSeen → List ℕ
bundle_line b = slot_text b ++ read_text (bundle_in b.bytes)
