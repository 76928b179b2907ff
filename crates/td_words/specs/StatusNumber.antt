-- The numbers of refusals. Success is 0.
use Rattle.std.specs.Prelude.{ℕ}
use Rattle.td_words.specs.declared.refusals.Status.{Status}
use Rattle.td_words.specs.declared.refusals.Status.TheVariants as status

abbrev pub status_number : Status → ℕ
status_number (status.OperandInvalid x) = 1
status_number (status.OperandBusy x) = 2
status_number (status.PageMetadataIncorrect x) = 3
status_number (status.LifecycleStateIncorrect x) = 4
status_number (status.OpStateIncorrect x) = 5
status_number status.HkidNotFree = 6
status_number (status.EptWalkFailed x) = 7
status_number (status.EptEntryStateIncorrect x) = 8
status_number status.TlbTrackingNotDone = 9
status_number (status.PreviousTlbEpochBusy x) = 10
status_number (status.CounterLimit x) = 11
status_number (status.VcpuAssociated x) = 12
status_number status.VcpuNotAssociated = 13
status_number (status.VcpuStateIncorrect x) = 14
status_number (status.PagesExist x) = 15
status_number (status.FlushvpNotDone x) = 16
status_number (status.SeptNotEmpty x) = 17
status_number (status.Limit x) = 18
status_number (status.NoBundle x) = 19
status_number (status.BundleHeader x) = 20
status_number (status.BundleCounter x y) = 21
status_number status.BundleTag = 22
status_number (status.DirtyPages x) = 23
status_number (status.TokenTotal x y) = 24
status_number status.ExportedThisEpoch = 25
status_number status.NotHost = 26
status_number (status.TdcxNumIncorrect x) = 27
status_number status.CacheWbNotDone = 28
status_number (status.StateMissing x) = 29
status_number (status.NoStream x) = 30
status_number (status.UnrestoredPages x) = 31
status_number status.AlreadyExported = 32
