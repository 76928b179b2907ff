-- How replies are printed: the status or reason, and the values that it shows, each after one space.
use Rattle.std.specs.Prelude.{ℕ, ◌/◌, ◌%◌, List, [], ◌++◌, Option, Some, None, Bool, true, false, codes}
use Rattle.std.specs.List.{flat_map}
use Rattle.std.specs.Fmt.{decimal, digits}
use Rattle.td_words.specs.NameText.{kind_text, life_text, op_text, entry_text, vcpu_text, access_text, counter_text, limit_text, field_text, lock_text}
use Rattle.td_words.specs.declared.refusals.Status.{Status}
use Rattle.td_words.specs.declared.refusals.Status.TheVariants as status
use Rattle.td_words.specs.declared.replies.Value.{Value}
use Rattle.td_words.specs.declared.replies.Value.TheVariants as value
use Rattle.td_words.specs.declared.replies.Outcome.{Outcome}
use Rattle.td_words.specs.declared.replies.Outcome.TheVariants as outcome
use Rattle.td_words.specs.declared.replies.Reply.{Reply}
use Rattle.td_words.specs.declared.replies.Reply.TheVariants.{Done, Refused, Exited}

-- a byte as two hexadecimal digits
abbrev pub byte_text : ℕ → List ℕ
byte_text b = digits 16 false (b / 16) ++ digits 16 false (b % 16)

abbrev pub digest_text : List ℕ → List ℕ
digest_text bytes = flat_map byte_text bytes

-- a guest physical address
abbrev pub gpa_text : ℕ → List ℕ
gpa_text g = codes "0x" ++ digits 16 false g

abbrev pub status_text : Status → List ℕ
status_text (status.OperandInvalid place) = codes "OPERAND_INVALID " ++ decimal place
status_text (status.OperandBusy l) = codes "OPERAND_BUSY " ++ lock_text l
status_text (status.PageMetadataIncorrect p) = codes "PAGE_METADATA_INCORRECT " ++ decimal p
status_text (status.LifecycleStateIncorrect s) = codes "LIFECYCLE_STATE_INCORRECT " ++ life_text s
status_text (status.OpStateIncorrect s) = codes "OP_STATE_INCORRECT " ++ op_text s
status_text status.HkidNotFree = codes "HKID_NOT_FREE"
status_text (status.EptWalkFailed l) = codes "EPT_WALK_FAILED " ++ decimal l
status_text (status.EptEntryStateIncorrect s) = codes "EPT_ENTRY_STATE_INCORRECT " ++ entry_text s
status_text status.TlbTrackingNotDone = codes "TLB_TRACKING_NOT_DONE"
status_text (status.PreviousTlbEpochBusy n) = codes "PREVIOUS_TLB_EPOCH_BUSY " ++ decimal n
status_text (status.CounterLimit c) = codes "COUNTER_LIMIT " ++ counter_text c
status_text (status.VcpuAssociated l) = codes "VCPU_ASSOCIATED " ++ decimal l
status_text status.VcpuNotAssociated = codes "VCPU_NOT_ASSOCIATED"
status_text (status.VcpuStateIncorrect s) = codes "VCPU_STATE_INCORRECT " ++ vcpu_text s
status_text (status.PagesExist n) = codes "PAGES_EXIST " ++ decimal n
status_text (status.FlushvpNotDone n) = codes "FLUSHVP_NOT_DONE " ++ decimal n
status_text (status.SeptNotEmpty i) = codes "SEPT_NOT_EMPTY " ++ decimal i
status_text (status.Limit l) = codes "LIMIT " ++ limit_text l
status_text (status.NoBundle s) = codes "NO_BUNDLE " ++ decimal s
status_text (status.BundleHeader f) = codes "BUNDLE_HEADER " ++ field_text f
status_text (status.BundleCounter expected got) = codes "BUNDLE_COUNTER " ++ (decimal expected ++ (codes " " ++ decimal got))
status_text status.BundleTag = codes "BUNDLE_TAG"
status_text (status.DirtyPages n) = codes "DIRTY_PAGES " ++ decimal n
status_text (status.TokenTotal own got) = codes "TOKEN_TOTAL " ++ (decimal own ++ (codes " " ++ decimal got))
status_text status.ExportedThisEpoch = codes "EXPORTED_THIS_EPOCH"
status_text status.NotHost = codes "NOT_HOST"
status_text (status.TdcxNumIncorrect n) = codes "TDCX_NUM_INCORRECT " ++ decimal n
status_text status.CacheWbNotDone = codes "CACHE_WB_NOT_DONE"
status_text (status.StateMissing n) = codes "STATE_MISSING " ++ decimal n
status_text (status.NoStream i) = codes "NO_STREAM " ++ decimal i
status_text (status.UnrestoredPages n) = codes "UNRESTORED_PAGES " ++ decimal n
status_text status.AlreadyExported = codes "ALREADY_EXPORTED"

-- the page that an entry names, where it isn't FREE
abbrev pub named_text : Option ℕ → List ℕ
named_text None = []
named_text (Some page) = codes " " ++ decimal page

-- whether cached translations are dropped
abbrev pub stale_text : Bool → List ℕ
stale_text true = codes "STALE "
stale_text false = codes "FRESH "

abbrev pub value_text : Value → List ℕ
value_text value.Nothing = codes "SUCCESS"
value_text (value.Number n) = codes "SUCCESS " ++ decimal n
value_text (value.Life s) = codes "SUCCESS " ++ life_text s
value_text (value.Op s) = codes "SUCCESS " ++ op_text s
value_text (value.Digest bytes) = codes "SUCCESS " ++ digest_text bytes
value_text (value.Page kind owner epoch) = codes "SUCCESS " ++ (kind_text kind ++ (codes " " ++ (decimal owner ++ (codes " " ++ decimal epoch))))
value_text (value.Entry state page) = codes "SUCCESS " ++ (entry_text state ++ named_text page)
value_text (value.Entered stale index position root) = codes "SUCCESS " ++ (stale_text stale ++ (decimal index ++ (codes " " ++ (decimal position ++ (codes " " ++ decimal root)))))

abbrev pub outcome_text : Outcome → List ℕ
outcome_text outcome.Stop = codes "STOP"
outcome_text outcome.Max = codes "MAX"
outcome_text (outcome.Vmcall w) = codes "VMCALL " ++ decimal w
outcome_text (outcome.EptViolation gpa access) = codes "EPT_VIOLATION " ++ (gpa_text gpa ++ (codes " " ++ access_text access))
outcome_text (outcome.Busy l) = codes "BUSY " ++ lock_text l

abbrev pub reply_text : Reply → List ℕ
reply_text (Done v) = value_text v
reply_text (Refused s) = status_text s
reply_text (Exited o) = codes "EXIT " ++ outcome_text o
