-- The mnemonics of calls, in the order of the profile.
use Rattle.std.specs.Prelude.{ℕ, List, [], ◌∷◌, Option, Some, None, codes, if◌then◌else◌}
use Rattle.std.specs.Str.{bytes_eq}
use Rattle.line_words.specs.declared.mnemonics.CallName.{CallName}
use Rattle.line_words.specs.declared.mnemonics.CallName.TheVariants as call
use Rattle.line_words.specs.declared.mnemonics.Mnemonic.{Mnemonic}

-- each mnemonic, with the least and the largest number of its arguments; EXPORT.ABORT has two forms
abbrev pub mnemonics : List (List ℕ × CallName × ℕ × ℕ)
mnemonics =
    (codes "HOST.READ", call.HostRead, 2, 2)
    ∷ (codes "HOST.WRITE", call.HostWrite, 3, 3)
    ∷ (codes "PHYMEM.PAGE.RDMD", call.PhymemPageRdmd, 1, 1)
    ∷ (codes "PHYMEM.CACHE.WB", call.PhymemCacheWb, 0, 0)
    ∷ (codes "PHYMEM.PAGE.RECLAIM", call.PhymemPageReclaim, 2, 2)
    ∷ (codes "MNG.CREATE", call.MngCreate, 2, 2)
    ∷ (codes "MNG.KEY.CONFIG", call.MngKeyConfig, 1, 1)
    ∷ (codes "MNG.ADDCX", call.MngAddcx, 2, 2)
    ∷ (codes "MNG.INIT", call.MngInit, 1, 1)
    ∷ (codes "MNG.RD", call.MngRd, 2, 2)
    ∷ (codes "MNG.VPFLUSHDONE", call.MngVpflushdone, 1, 1)
    ∷ (codes "MNG.KEY.FREEID", call.MngKeyFreeid, 1, 1)
    ∷ (codes "MR.EXTEND", call.MrExtend, 2, 2)
    ∷ (codes "MR.FINALIZE", call.MrFinalize, 1, 1)
    ∷ (codes "VP.CREATE", call.VpCreate, 2, 2)
    ∷ (codes "VP.INIT", call.VpInit, 3, 3)
    ∷ (codes "VP.ENTER", call.VpEnter, 3, 3)
    ∷ (codes "VP.FLUSH", call.VpFlush, 2, 2)
    ∷ (codes "MEM.SEPT.ADD", call.MemSeptAdd, 4, 4)
    ∷ (codes "MEM.SEPT.RD", call.MemSeptRd, 3, 3)
    ∷ (codes "MEM.SEPT.REMOVE", call.MemSeptRemove, 3, 3)
    ∷ (codes "MEM.PAGE.ADD", call.MemPageAdd, 4, 4)
    ∷ (codes "MEM.PAGE.AUG", call.MemPageAug, 3, 3)
    ∷ (codes "MEM.PAGE.REMOVE", call.MemPageRemove, 2, 2)
    ∷ (codes "MEM.PAGE.RELOCATE", call.MemPageRelocate, 3, 3)
    ∷ (codes "MEM.RANGE.BLOCK", call.MemRangeBlock, 3, 3)
    ∷ (codes "MEM.RANGE.UNBLOCK", call.MemRangeUnblock, 3, 3)
    ∷ (codes "MEM.TRACK", call.MemTrack, 1, 1)
    ∷ (codes "MIG.STREAM.CREATE", call.MigStreamCreate, 2, 2)
    ∷ (codes "EXPORT.STATE.IMMUTABLE", call.ExportStateImmutable, 2, 2)
    ∷ (codes "EXPORT.BLOCKW", call.ExportBlockw, 2, 2)
    ∷ (codes "EXPORT.UNBLOCKW", call.ExportUnblockw, 2, 2)
    ∷ (codes "EXPORT.MEM", call.ExportMem, 4, 4)
    ∷ (codes "EXPORT.TRACK", call.ExportTrack, 3, 3)
    ∷ (codes "EXPORT.PAUSE", call.ExportPause, 1, 1)
    ∷ (codes "EXPORT.STATE.TD", call.ExportStateTd, 2, 2)
    ∷ (codes "EXPORT.STATE.VP", call.ExportStateVp, 3, 3)
    ∷ (codes "EXPORT.ABORT", call.ExportAbort, 1, 2)
    ∷ (codes "EXPORT.RESTORE", call.ExportRestore, 2, 2)
    ∷ (codes "IMPORT.STATE.IMMUTABLE", call.ImportStateImmutable, 2, 2)
    ∷ (codes "IMPORT.MEM", call.ImportMem, 3, 3)
    ∷ (codes "IMPORT.TRACK", call.ImportTrack, 2, 2)
    ∷ (codes "IMPORT.STATE.TD", call.ImportStateTd, 2, 2)
    ∷ (codes "IMPORT.STATE.VP", call.ImportStateVp, 3, 3)
    ∷ (codes "IMPORT.COMMIT", call.ImportCommit, 1, 1)
    ∷ (codes "IMPORT.END", call.ImportEnd, 1, 1)
    ∷ (codes "IMPORT.ABORT", call.ImportAbort, 2, 2)
    ∷ []

-- the row whose mnemonic a word is
abbrev pub mnemonic_in : List (List ℕ × CallName × ℕ × ℕ) → List ℕ → Option Mnemonic
mnemonic_in [] word = None
mnemonic_in (row ∷ rows) word = if bytes_eq word row.0 then Some (record { call = row.1; least = row.2; most = row.3 }) else mnemonic_in rows word
