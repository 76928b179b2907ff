-- How a script is written: line by line, numbers in decimal.
use Rattle.std.specs.Prelude.{◌≡◌, ℕ, ◌+◌, ◌%◌, ◌^◌, ◌<◌, List, [], ◌∷◌, ◌++◌, map, codes}
use Rattle.std.specs.List.{All}
use Rattle.std.specs.Fmt.{decimal}
use Rattle.td_words.specs.declared.calls.Call.{Call}
use Rattle.td_words.specs.declared.calls.Call.TheVariants as calls
use Rattle.td_words.specs.declared.calls.GuestOp.{GuestOp}
use Rattle.td_words.specs.declared.calls.GuestOp.TheVariants as guest
use Rattle.td_words.specs.NameText.{read_text}
use Rattle.td_words.specs.Seen.{CodeSeen}
use Rattle.line_words.specs.Lines.{line_text}
use Rattle.script_text.specs.Seen.{ScriptSeen}

abbrev pub call_word : Call → List ℕ
call_word (calls.HostRead page word) = codes "HOST.READ"
call_word (calls.HostWrite page word value) = codes "HOST.WRITE"
call_word (calls.PhymemPageRdmd page) = codes "PHYMEM.PAGE.RDMD"
call_word calls.PhymemCacheWb = codes "PHYMEM.CACHE.WB"
call_word (calls.PhymemPageReclaim tdr page) = codes "PHYMEM.PAGE.RECLAIM"
call_word (calls.MngCreate tdr hkid) = codes "MNG.CREATE"
call_word (calls.MngKeyConfig tdr) = codes "MNG.KEY.CONFIG"
call_word (calls.MngAddcx tdr page) = codes "MNG.ADDCX"
call_word (calls.MngInit tdr) = codes "MNG.INIT"
call_word (calls.MngRd tdr field) = codes "MNG.RD"
call_word (calls.MngVpflushdone tdr) = codes "MNG.VPFLUSHDONE"
call_word (calls.MngKeyFreeid tdr) = codes "MNG.KEY.FREEID"
call_word (calls.MrExtend tdr gpa) = codes "MR.EXTEND"
call_word (calls.MrFinalize tdr) = codes "MR.FINALIZE"
call_word (calls.VpCreate tdr page) = codes "VP.CREATE"
call_word (calls.VpInit tdr vp value) = codes "VP.INIT"
call_word (calls.VpEnter tdr vp max) = codes "VP.ENTER"
call_word (calls.VpFlush tdr vp) = codes "VP.FLUSH"
call_word (calls.MemSeptAdd tdr gpa level page) = codes "MEM.SEPT.ADD"
call_word (calls.MemSeptRd tdr gpa level) = codes "MEM.SEPT.RD"
call_word (calls.MemSeptRemove tdr gpa level) = codes "MEM.SEPT.REMOVE"
call_word (calls.MemPageAdd tdr gpa page source) = codes "MEM.PAGE.ADD"
call_word (calls.MemPageAug tdr gpa page) = codes "MEM.PAGE.AUG"
call_word (calls.MemPageRemove tdr gpa) = codes "MEM.PAGE.REMOVE"
call_word (calls.MemPageRelocate tdr gpa page) = codes "MEM.PAGE.RELOCATE"
call_word (calls.MemRangeBlock tdr gpa level) = codes "MEM.RANGE.BLOCK"
call_word (calls.MemRangeUnblock tdr gpa level) = codes "MEM.RANGE.UNBLOCK"
call_word (calls.MemTrack tdr) = codes "MEM.TRACK"
call_word (calls.MigStreamCreate tdr page) = codes "MIG.STREAM.CREATE"
call_word (calls.ExportBlockw tdr gpa) = codes "EXPORT.BLOCKW"
call_word (calls.ExportUnblockw tdr gpa) = codes "EXPORT.UNBLOCKW"
call_word (calls.ExportPause tdr) = codes "EXPORT.PAUSE"
call_word (calls.ExportAbort tdr) = codes "EXPORT.ABORT"
call_word (calls.ExportRestore tdr gpa) = codes "EXPORT.RESTORE"
call_word (calls.ExportStateImmutable tdr slot) = codes "EXPORT.STATE.IMMUTABLE"
call_word (calls.ExportMem tdr gpa stream slot) = codes "EXPORT.MEM"
call_word (calls.ExportTrack tdr slot start) = codes "EXPORT.TRACK"
call_word (calls.ExportStateTd tdr slot) = codes "EXPORT.STATE.TD"
call_word (calls.ExportStateVp tdr vp slot) = codes "EXPORT.STATE.VP"
call_word (calls.ExportAbortByToken tdr slot) = codes "EXPORT.ABORT"
call_word (calls.ImportStateImmutable tdr slot) = codes "IMPORT.STATE.IMMUTABLE"
call_word (calls.ImportMem tdr slot page) = codes "IMPORT.MEM"
call_word (calls.ImportTrack tdr slot) = codes "IMPORT.TRACK"
call_word (calls.ImportStateTd tdr slot) = codes "IMPORT.STATE.TD"
call_word (calls.ImportStateVp tdr vp slot) = codes "IMPORT.STATE.VP"
call_word (calls.ImportCommit tdr) = codes "IMPORT.COMMIT"
call_word (calls.ImportEnd tdr) = codes "IMPORT.END"
call_word (calls.ImportAbort tdr slot) = codes "IMPORT.ABORT"

abbrev pub call_numbers : Call → List ℕ
call_numbers (calls.HostRead page word) = page ∷ word ∷ []
call_numbers (calls.HostWrite page word value) = page ∷ word ∷ value ∷ []
call_numbers (calls.PhymemPageRdmd page) = page ∷ []
call_numbers calls.PhymemCacheWb = []
call_numbers (calls.PhymemPageReclaim tdr page) = tdr ∷ page ∷ []
call_numbers (calls.MngCreate tdr hkid) = tdr ∷ hkid ∷ []
call_numbers (calls.MngKeyConfig tdr) = tdr ∷ []
call_numbers (calls.MngAddcx tdr page) = tdr ∷ page ∷ []
call_numbers (calls.MngInit tdr) = tdr ∷ []
call_numbers (calls.MngRd tdr field) = tdr ∷ []
call_numbers (calls.MngVpflushdone tdr) = tdr ∷ []
call_numbers (calls.MngKeyFreeid tdr) = tdr ∷ []
call_numbers (calls.MrExtend tdr gpa) = tdr ∷ gpa ∷ []
call_numbers (calls.MrFinalize tdr) = tdr ∷ []
call_numbers (calls.VpCreate tdr page) = tdr ∷ page ∷ []
call_numbers (calls.VpInit tdr vp value) = tdr ∷ vp ∷ value ∷ []
call_numbers (calls.VpEnter tdr vp max) = tdr ∷ vp ∷ max ∷ []
call_numbers (calls.VpFlush tdr vp) = tdr ∷ vp ∷ []
call_numbers (calls.MemSeptAdd tdr gpa level page) = tdr ∷ gpa ∷ level ∷ page ∷ []
call_numbers (calls.MemSeptRd tdr gpa level) = tdr ∷ gpa ∷ level ∷ []
call_numbers (calls.MemSeptRemove tdr gpa level) = tdr ∷ gpa ∷ level ∷ []
call_numbers (calls.MemPageAdd tdr gpa page source) = tdr ∷ gpa ∷ page ∷ source ∷ []
call_numbers (calls.MemPageAug tdr gpa page) = tdr ∷ gpa ∷ page ∷ []
call_numbers (calls.MemPageRemove tdr gpa) = tdr ∷ gpa ∷ []
call_numbers (calls.MemPageRelocate tdr gpa page) = tdr ∷ gpa ∷ page ∷ []
call_numbers (calls.MemRangeBlock tdr gpa level) = tdr ∷ gpa ∷ level ∷ []
call_numbers (calls.MemRangeUnblock tdr gpa level) = tdr ∷ gpa ∷ level ∷ []
call_numbers (calls.MemTrack tdr) = tdr ∷ []
call_numbers (calls.MigStreamCreate tdr page) = tdr ∷ page ∷ []
call_numbers (calls.ExportBlockw tdr gpa) = tdr ∷ gpa ∷ []
call_numbers (calls.ExportUnblockw tdr gpa) = tdr ∷ gpa ∷ []
call_numbers (calls.ExportPause tdr) = tdr ∷ []
call_numbers (calls.ExportAbort tdr) = tdr ∷ []
call_numbers (calls.ExportRestore tdr gpa) = tdr ∷ gpa ∷ []
call_numbers (calls.ExportStateImmutable tdr slot) = tdr ∷ slot ∷ []
call_numbers (calls.ExportMem tdr gpa stream slot) = tdr ∷ gpa ∷ stream ∷ slot ∷ []
call_numbers (calls.ExportTrack tdr slot start) = tdr ∷ slot ∷ start ∷ []
call_numbers (calls.ExportStateTd tdr slot) = tdr ∷ slot ∷ []
call_numbers (calls.ExportStateVp tdr vp slot) = tdr ∷ vp ∷ slot ∷ []
call_numbers (calls.ExportAbortByToken tdr slot) = tdr ∷ slot ∷ []
call_numbers (calls.ImportStateImmutable tdr slot) = tdr ∷ slot ∷ []
call_numbers (calls.ImportMem tdr slot page) = tdr ∷ slot ∷ page ∷ []
call_numbers (calls.ImportTrack tdr slot) = tdr ∷ slot ∷ []
call_numbers (calls.ImportStateTd tdr slot) = tdr ∷ slot ∷ []
call_numbers (calls.ImportStateVp tdr vp slot) = tdr ∷ vp ∷ slot ∷ []
call_numbers (calls.ImportCommit tdr) = tdr ∷ []
call_numbers (calls.ImportEnd tdr) = tdr ∷ []
call_numbers (calls.ImportAbort tdr slot) = tdr ∷ slot ∷ []

-- MNG.RD names its field behind its numbers
abbrev pub call_names : Call → List (List ℕ)
call_names (calls.MngRd tdr field) = read_text field ∷ []
call_names _ = []

-- an argument is a number of 64 bits
abbrev pub FitsCall : Call → Type 0
FitsCall c = All (λ n. n < 2 ^ 64) (call_numbers c)

abbrev pub calls_text : List Call → List ℕ
calls_text [] = []
calls_text (c ∷ cs) = line_text (call_word c) (map decimal (call_numbers c) ++ call_names c) ++ calls_text cs

-- one item for each turn; an empty schedule has no line
abbrev pub schedule_text : List ℕ → List ℕ
schedule_text [] = []
schedule_text (lp ∷ lps) = line_text (codes "schedule") (map decimal (lp ∷ lps))

-- a block for each processor, from lp on
abbrev pub blocks_text : ℕ → List (List Call) → List ℕ
blocks_text lp [] = []
blocks_text lp (calls ∷ more) = line_text (codes "lp") (decimal lp ∷ []) ++ (calls_text calls ++ (line_text (codes "end") [] ++ blocks_text (lp + 1) more))

abbrev pub op_word : GuestOp → List ℕ
op_word (guest.Set register value) = codes "set"
op_word (guest.Secret register number) = codes "secret"
op_word (guest.Add register other) = codes "add"
op_word (guest.Load register gpa) = codes "load"
op_word (guest.Store register gpa) = codes "store"
op_word (guest.Accept gpa) = codes "accept"
op_word (guest.Rtmr index) = codes "rtmr"
op_word guest.Report = codes "report"
op_word (guest.Vmcall register) = codes "vmcall"

abbrev pub op_numbers : GuestOp → List ℕ
op_numbers (guest.Set register value) = register ∷ value ∷ []
op_numbers (guest.Secret register number) = register ∷ number ∷ []
op_numbers (guest.Add register other) = register ∷ other ∷ []
op_numbers (guest.Load register gpa) = register ∷ gpa ∷ []
op_numbers (guest.Store register gpa) = register ∷ gpa ∷ []
op_numbers (guest.Accept gpa) = gpa ∷ []
op_numbers (guest.Rtmr index) = index ∷ []
op_numbers guest.Report = []
op_numbers (guest.Vmcall register) = register ∷ []

-- registers 0 to 7, secret words 0 to 511, RTMRs 0 to 3, values of 64 bits; the addresses of words and of private pages
abbrev pub FitsOp : GuestOp → Type 0
FitsOp (guest.Set register value) = (register < 8) × (value < 2 ^ 64)
FitsOp (guest.Secret register number) = (register < 8) × (number < 512)
FitsOp (guest.Add register other) = (register < 8) × (other < 8)
FitsOp (guest.Load register gpa) = (register < 8) × (gpa < 2 ^ 48) × (gpa % 8 ≡ 0)
FitsOp (guest.Store register gpa) = (register < 8) × (gpa < 2 ^ 48) × (gpa % 8 ≡ 0)
FitsOp (guest.Accept gpa) = (gpa < 2 ^ 47) × (gpa % 4096 ≡ 0)
FitsOp (guest.Rtmr index) = index < 4
FitsOp guest.Report = Unit {0}
FitsOp (guest.Vmcall register) = register < 8

abbrev pub ops_text : List GuestOp → List ℕ
ops_text [] = []
ops_text (g ∷ gs) = line_text (op_word g) (map decimal (op_numbers g)) ++ ops_text gs

-- a block for each list of operations, in their order
abbrev pub codes_text : List CodeSeen → List ℕ
codes_text [] = []
codes_text (c ∷ cs) = line_text (codes "code") (map decimal (c.tdr ∷ c.index ∷ [])) ++ (ops_text c.ops ++ (line_text (codes "end") [] ++ codes_text cs))

abbrev pub script_text : ScriptSeen → List ℕ
script_text s =
    line_text (codes "machine") (map decimal (s.machine.lps ∷ s.machine.pages ∷ s.machine.hkids ∷ [])) ++ (schedule_text s.schedule ++ (codes_text s.codes ++ blocks_text 0 s.calls))
