-- What the flat machine knows of each logical processor: how far its call is, and what it caches.
use Rattle.std.specs.Prelude.{ℕ, List, [], Option, None, Bool}
use Rattle.report_core.specs.declared.facts.Facts.{Facts}
use Rattle.td_words.specs.declared.names.LockName.{LockName}
use Rattle.td_words.specs.declared.names.LockName.TheVariants as name
use Rattle.td_words.specs.declared.names.Mode.{Mode}
use Rattle.td_words.specs.declared.replies.Outcome.{Outcome}
use Rattle.td_words.specs.declared.replies.Reply.{Reply}

-- a lock: a page's, one of a TD's four, which its TDR page names, or the key table's
pub data LockId : Type 0 where
  OfPage : (page : ℕ) → LockId
  OfOp : (tdr : ℕ) → LockId
  OfTree : (tdr : ℕ) → LockId
  OfEpoch : (tdr : ℕ) → LockId
  OfRtmr : (tdr : ℕ) → LockId
  OfKeys : LockId

-- as it is printed
abbrev pub name_of : LockId → LockName
name_of (OfPage p) = name.Page p
name_of (OfOp t) = name.Op
name_of (OfTree t) = name.Tree
name_of (OfEpoch t) = name.Epoch
name_of (OfRtmr t) = name.Rtmr
name_of OfKeys = name.Keys

-- a lock that is held, and how
pub record Held : Type 0 where
  pub lock : LockId
  pub mode : Mode

-- where a call or a guest operation stands: on its way through its row, before it undoes a shared try that was denied,
-- or answered
pub data Phase (R : Type 0) : Type 0 where
  Trying : Phase R
  Undoing : (lock : LockId) → Phase R
  Answered : (answer : R) → Phase R

-- how far a call or an operation is
pub record Progress (R : Type 0) : Type 0 where
  pub phase : Phase R
  pub held : List Held  -- its own locks, the newest first

abbrev pub nothing_yet : {R : Type 0} → Progress R
nothing_yet = record { phase = Trying; held = [] }

-- a cached translation of a TD's GPA page
pub record Translation : Type 0 where
  pub tdr : ℕ
  pub gpa_page : ℕ
  pub page : ℕ
  pub may_write : Bool

-- a guest's walk under way: its GPA page, the level of the entry that it loads next, and the secure EPT page where that
-- entry stands
pub record Walk : Type 0 where
  pub gpa_page : ℕ
  pub level : ℕ
  pub page : ℕ

-- the virtual processor that runs on a logical processor, from the act of VP.ENTER to the count step of its exit. An
-- operation answers nothing where the guest goes on behind it, else why the guest is left. `vmcall` is completed and leaves
-- the guest, and isn't counted
pub record Guest : Type 0 where
  pub tdr : ℕ
  pub vp : ℕ
  pub most : ℕ  -- operations, in this entry
  pub completed : ℕ  -- in this entry, so far, but for `vmcall`
  pub operation : Progress (Option Outcome)
  pub walk : Option Walk
  pub leaving : Option Outcome

-- what VP.ENTER asks for, and the guest that begins with it
pub record Entering : Type 0 where
  pub tdr : ℕ
  pub vp : ℕ
  pub most : ℕ

abbrev pub new_guest : Entering → Guest
new_guest e = record { tdr = e.tdr; vp = e.vp; most = e.most; completed = 0; operation = nothing_yet; walk = None; leaving = None }

-- what a guest's reads, measurements and reports came to, by the call line of their VP.ENTER
pub data Note : Type 0 where
  LoadNote : (line gpa word : ℕ) → Note
  RtmrNote : (line index : ℕ) (words : List ℕ) → Note
  ReportNote : (line : ℕ) (facts : Facts) → Note

-- a logical processor
pub record Lp : Type 0 where
  pub call : Progress Reply
  pub guest : Option Guest
  pub cached : List Translation  -- at most 16, oldest first
  pub replies : List Reply  -- of the lines that are done
  pub notes : List Note
  pub told : List ℕ  -- the words that its guests told

abbrev pub idle : Lp
idle = record { call = nothing_yet; guest = None; cached = []; replies = []; notes = []; told = [] }
