-- The whole leaf table against the rules, written by hand: for each call and guest operation its loads, its act, its later
-- stores and its fills, each with locks that its row gets (ABI Reference, "TDH leaf functions"; "TDG leaf functions"). Own
-- and named are those of one page in each use.
use Rattle.std.specs.Prelude.{◌≡◌, Bool, true, false, ◌&&◌, ◌||◌, List, [], ◌∷◌, ◌++◌}
use Rattle.word_rules.specs.Guards.{Guard, Role, Tdr, Tree, Epoch, Rtmr, Own, Named, Keys, Reach, Change, Want, Has, Sole, Clear, Rule, Grip, HasWhatIsSole, MeetsAll, Meets, same_role}
use Rattle.word_rules.specs.Rules.{Class, TdLock, PamtWord, KeyWord, HostWord, GuestWord, TdrWord, ChildCount, TdcsWord, TdEpoch, EpochCount, RtmrWord, DirtyWord, UpperEntry, LeafEntry, Association, VcpuWord, StreamWord, Unused, Hasher, FreeSlot, Whole, ThePage, TheRights, KeepsNothing, KeepsPage, KeepsRights, op_held, op_alone, reads, sees, writes, owes, fills, moves}

-- what is had gives what is wanted
abbrev pub gives : Want → Want → Bool
gives (Has a) (Has b) = same_role a b
gives (Sole a) (Has b) = same_role a b
gives (Sole a) (Sole b) = same_role a b
gives (Clear a) (Clear b) = same_role a b
gives _ _ = false

abbrev pub given_by : List Want → Want → Bool
given_by [] w = false
given_by (h ∷ hs) w = gives h w || given_by hs w

abbrev pub all_given : List Want → List Want → Bool
all_given hs [] = true
all_given hs (w ∷ ws) = given_by hs w && all_given hs ws

abbrev pub met : List Want → Rule → Bool
met hs [] = false
met hs (ws ∷ r) = all_given hs ws || met hs r

abbrev pub all_met : List Want → List Rule → Bool
all_met hs [] = true
all_met hs (r ∷ rs) = met hs r && all_met hs rs

-- what a row does at a word of a class: it loads or finds the whole word, acts on it, still owes it, or fills it
abbrev pub loads : Class → Rule
loads c = reads c Whole

abbrev pub finds : Class → Rule
finds c = sees c Whole

abbrev pub acts : Class → Rule
acts c = writes c KeepsNothing

abbrev pub still : Class → Rule
still c = owes c KeepsNothing

-- a counter that is bumped after the act, which is loaded before
abbrev pub bumps : Class → List Rule
bumps c = loads c ∷ still c ∷ []

-- locks that rows hold
abbrev pub with_tree : List Want
with_tree = Has Tree ∷ op_held

abbrev pub with_tree_alone : List Want
with_tree_alone = Sole Tree ∷ op_held

abbrev pub tree_epoch : List Want
tree_epoch = Has Epoch ∷ with_tree

abbrev pub tree_alone_epoch : List Want
tree_alone_epoch = Has Epoch ∷ with_tree_alone

abbrev pub vp : List Want
vp = Sole Own ∷ op_held

abbrev pub vp_td_alone : List Want
vp_td_alone = Sole Own ∷ op_alone

-- the rows, in the order of the leaf table, and the parts of those whose locks grow on the way
pub data Use : Type 0 where
  -- what rows share: the head of a TD's row, a page that is taken, one that is given back, the epoch of a block, and its test
  HeadPage : Use
  HeadTdr : Use
  HeadOp : Use
  Taken : Use
  GivenBack : Use
  BlockNoted : Use
  BlockTested : Use
  BlockTestedShared : Use
  -- calls on host pages, keys, TDs and virtual processors
  HostRead : Use
  HostWrite : Use
  PageRdmd : Use
  CacheWb : Use
  Reclaim : Use
  MngCreate : Use
  KeyConfig : Use
  Addcx : Use
  MngInit : Use
  MngRdLife : Use
  MngRdOp : Use
  MngRdEpoch : Use
  VpFlushDone : Use
  KeyFreeid : Use
  MrExtend : Use
  MrFinalize : Use
  VpCreate : Use
  VpInit : Use
  VpEnter : Use
  VpExit : Use
  VpFlush : Use
  -- calls that build, block and remove a TD's memory
  SeptAdd : Use
  SeptRd : Use
  SeptRemove : Use
  PageAdd : Use
  PageAddPages : Use
  PageAug : Use
  PageRemove : Use
  RangeBlock : Use
  RangeUnblock : Use
  Track : Use
  Relocate : Use
  RelocateWords : Use
  -- calls of a migration's source
  ExportStreamCreate : Use
  ExportImmutable : Use
  ExportBlockWrite : Use
  ExportBlockWriteEntry : Use
  ExportUnblockWrite : Use
  ExportMemory : Use
  ExportMemoryRunning : Use
  ExportMemoryPaused : Use
  ExportMemoryStream : Use
  ExportMemoryWordsPaused : Use
  ExportMemoryWords : Use
  ExportTokens : Use
  ExportPause : Use
  ExportTdState : Use
  ExportVpState : Use
  ExportAbort : Use
  ExportRestore : Use
  -- calls of a migration's destination
  ImportImmutable : Use
  ImportMemory : Use
  ImportMemoryWords : Use
  ImportTokens : Use
  ImportTdState : Use
  ImportVpState : Use
  ImportCommit : Use
  ImportEnd : Use
  ImportAbort : Use
  -- guest operations, under P of the TDR page and O shared and P of the TDVPR page alone
  GuestRegisters : Use
  GuestWalk : Use
  GuestPrivateLoad : Use
  GuestPrivateStore : Use
  GuestSharedLoad : Use
  GuestSharedStore : Use
  GuestAccept : Use
  GuestAcceptEntry : Use
  GuestAcceptWords : Use
  GuestExtendRtmr : Use
  GuestReport : Use
  -- what acts make of words: pages that are taken or given back, control pages in teardown, entries that name other pages,
  -- operation states that let guests run or not, epoch counts, and HKIDs that are given and freed
  TakesPage : Use
  ReclaimsControl : Use
  ReclaimsRest : Use
  GivesPageBack : Use
  GivesNodeBack : Use
  AddsEntry : Use
  ChangesOp : Use
  Enters : Use
  Leaves : Use
  Tracks : Use
  BeginsEpochs : Use
  GivesHkid : Use
  FreesHkid : Use

-- what is written of a use: locks that its row gets, and the rules for what it does at words
pub record UseLine : Type 0 where
  pub locks : List Want
  pub rules : List Rule

abbrev pub under : List Want → List Rule → UseLine
under had asked = record { locks = had; rules = asked }

abbrev pub line_of : Use → UseLine
-- what rows share: the head of a TD's row, a page that is taken, one that is given back, the epoch of a block, and its test
line_of HeadPage = under (Has Own ∷ []) (loads PamtWord ∷ [])
line_of HeadTdr = under (Has Tdr ∷ []) (loads TdrWord ∷ [])
line_of HeadOp = under op_held (loads TdcsWord ∷ [])
line_of Taken = under (Sole Own ∷ []) (loads PamtWord ∷ fills HostWord ∷ still PamtWord ∷ [])
line_of GivenBack = under (Sole Own ∷ []) (acts PamtWord ∷ still PamtWord ∷ still HostWord ∷ [])
line_of BlockNoted = under (Sole Own ∷ []) (loads PamtWord ∷ still PamtWord ∷ [])
line_of BlockTested = under tree_alone_epoch (loads TdEpoch ∷ loads (EpochCount false true) ∷ finds (EpochCount false false) ∷ [])
line_of BlockTestedShared = under tree_epoch (loads TdEpoch ∷ loads (EpochCount false true) ∷ finds (EpochCount false false) ∷ [])
-- calls on host pages, keys, TDs and virtual processors
line_of HostRead = under (Has Own ∷ []) (loads PamtWord ∷ finds HostWord ∷ [])
line_of HostWrite = under (Has Own ∷ []) (loads PamtWord ∷ acts HostWord ∷ [])
line_of PageRdmd = under (Has Own ∷ []) (loads PamtWord ∷ [])
line_of CacheWb = under (Sole Keys ∷ []) (loads KeyWord ∷ acts KeyWord ∷ still KeyWord ∷ [])
line_of Reclaim = under (Sole Tdr ∷ Sole Own ∷ []) (loads TdrWord ∷ acts PamtWord ∷ bumps ChildCount)
line_of MngCreate = under (Sole Keys ∷ Sole Tdr ∷ Sole Own ∷ []) (loads PamtWord ∷ loads KeyWord ∷ acts KeyWord ∷ still PamtWord ∷ still TdrWord ∷ still ChildCount ∷ still Unused ∷ [])
line_of KeyConfig = under (Sole Tdr ∷ []) (loads TdrWord ∷ acts TdrWord ∷ [])
line_of Addcx = under (Sole Tdr ∷ Sole Own ∷ []) (loads TdrWord ∷ acts TdrWord ∷ still TdrWord ∷ still TdLock ∷ still TdcsWord ∷ still TdEpoch ∷ still (EpochCount false true) ∷ still (EpochCount true true) ∷ still RtmrWord ∷ still DirtyWord ∷ still UpperEntry ∷ still Unused ∷ bumps ChildCount)
line_of MngInit = under op_alone (loads TdrWord ∷ acts Hasher ∷ still TdcsWord ∷ still TdEpoch ∷ [])
line_of MngRdLife = under (Has Tdr ∷ []) (loads TdrWord ∷ [])
line_of MngRdOp = under op_held (loads TdcsWord ∷ [])
line_of MngRdEpoch = under (Has Epoch ∷ op_held) (loads TdEpoch ∷ [])
line_of VpFlushDone = under (Sole Keys ∷ Sole Tdr ∷ []) (loads TdrWord ∷ loads TdcsWord ∷ loads Association ∷ loads KeyWord ∷ acts KeyWord ∷ still TdrWord ∷ [])
line_of KeyFreeid = under (Sole Keys ∷ Sole Tdr ∷ []) (loads TdrWord ∷ loads KeyWord ∷ acts KeyWord ∷ still TdrWord ∷ [])
line_of MrExtend = under (Has Tree ∷ Has Own ∷ op_alone) (loads UpperEntry ∷ loads (LeafEntry false) ∷ loads (GuestWord false) ∷ acts Hasher ∷ still Hasher ∷ [])
line_of MrFinalize = under op_alone (loads TdcsWord ∷ loads VcpuWord ∷ acts Hasher ∷ still TdcsWord ∷ [])
line_of VpCreate = under vp_td_alone (acts TdcsWord ∷ still VcpuWord ∷ still Association ∷ still Unused ∷ still PamtWord ∷ (bumps TdcsWord ++ bumps ChildCount))
line_of VpInit = under vp (loads VcpuWord ∷ acts VcpuWord ∷ still VcpuWord ∷ [])
line_of VpEnter = under (Has Epoch ∷ vp) (loads VcpuWord ∷ loads Association ∷ loads TdEpoch ∷ acts (EpochCount true true) ∷ acts (EpochCount true false) ∷ still Association ∷ still VcpuWord ∷ [])
line_of VpExit = under vp (loads VcpuWord ∷ acts (EpochCount true false) ∷ acts (EpochCount false false) ∷ [])
line_of VpFlush = under (Has Tdr ∷ Sole Own ∷ []) (loads TdrWord ∷ loads Association ∷ acts Association ∷ [])
-- calls that build, block and remove a TD's memory
line_of SeptAdd = under with_tree_alone (loads UpperEntry ∷ acts UpperEntry ∷ bumps ChildCount)
line_of SeptRd = under with_tree_alone (loads UpperEntry ∷ loads (LeafEntry true) ∷ loads (LeafEntry false) ∷ [])
line_of SeptRemove = under tree_alone_epoch (loads UpperEntry ∷ loads (LeafEntry true) ∷ acts UpperEntry ∷ bumps ChildCount)
line_of PageAdd = under (Sole Tree ∷ op_alone) (loads UpperEntry ∷ loads (LeafEntry false) ∷ acts (LeafEntry false) ∷ still Hasher ∷ bumps ChildCount)
line_of PageAddPages = under (Sole Own ∷ []) (loads HostWord ∷ fills HostWord ∷ [])
line_of PageAug = under with_tree_alone (loads UpperEntry ∷ loads (LeafEntry true) ∷ acts (LeafEntry true) ∷ bumps ChildCount)
line_of PageRemove = under tree_alone_epoch (loads UpperEntry ∷ loads (LeafEntry true) ∷ acts (LeafEntry true) ∷ bumps ChildCount)
line_of RangeBlock = under tree_alone_epoch (loads UpperEntry ∷ loads (LeafEntry true) ∷ loads TdEpoch ∷ acts UpperEntry ∷ acts (LeafEntry true) ∷ [])
line_of RangeUnblock = under tree_alone_epoch (loads UpperEntry ∷ loads (LeafEntry true) ∷ acts UpperEntry ∷ acts (LeafEntry true) ∷ [])
line_of Track = under (Sole Epoch ∷ op_held) (loads TdEpoch ∷ loads (EpochCount false true) ∷ finds (EpochCount false false) ∷ acts TdEpoch ∷ [])
line_of Relocate = under tree_alone_epoch (loads UpperEntry ∷ loads (LeafEntry true) ∷ acts (LeafEntry true) ∷ [])
line_of RelocateWords = under (Clear Change ∷ Sole Own ∷ op_held) (loads (GuestWord true) ∷ [])
-- calls of a migration's source
line_of ExportStreamCreate = under vp_td_alone (acts TdcsWord ∷ still StreamWord ∷ still Unused ∷ (bumps TdcsWord ++ bumps ChildCount))
line_of ExportImmutable = under (Sole Keys ∷ op_alone) (loads KeyWord ∷ acts KeyWord ∷ (bumps TdcsWord ++ (bumps StreamWord ++ bumps DirtyWord)))
line_of ExportBlockWrite = under tree_epoch (loads UpperEntry ∷ reads (LeafEntry true) ThePage ∷ loads TdEpoch ∷ [])
line_of ExportBlockWriteEntry = under (Sole Named ∷ tree_epoch) (loads (LeafEntry true) ∷ writes (LeafEntry true) KeepsPage ∷ [])
line_of ExportUnblockWrite = under with_tree_alone (loads UpperEntry ∷ loads (LeafEntry true) ∷ acts (LeafEntry true) ∷ bumps DirtyWord)
line_of ExportMemory = under tree_epoch (loads UpperEntry ∷ reads (LeafEntry true) ThePage ∷ reads (LeafEntry false) ThePage ∷ loads TdEpoch ∷ [])
line_of ExportMemoryRunning = under (Sole Named ∷ tree_epoch) (loads (LeafEntry true) ∷ writes (LeafEntry true) KeepsPage ∷ owes (LeafEntry true) KeepsRights ∷ [])
line_of ExportMemoryPaused = under (Sole Named ∷ tree_epoch) (loads (LeafEntry false) ∷ writes (LeafEntry false) KeepsPage ∷ owes (LeafEntry false) KeepsPage ∷ [])
line_of ExportMemoryStream = under (Sole Own ∷ with_tree) (bumps StreamWord)
line_of ExportMemoryWordsPaused = under (Sole Own ∷ with_tree) (loads (GuestWord false) ∷ [])
line_of ExportMemoryWords = under (Clear Change ∷ Sole Own ∷ op_held) (loads (GuestWord true) ∷ [])
line_of ExportTokens = under (Sole Tree ∷ op_alone) (loads DirtyWord ∷ acts TdcsWord ∷ (bumps TdcsWord ++ bumps StreamWord))
line_of ExportPause = under (Sole Tree ∷ op_alone) (acts TdcsWord ∷ [])
line_of ExportTdState = under op_alone (loads RtmrWord ∷ loads TdcsWord ∷ acts TdcsWord ∷ bumps StreamWord)
line_of ExportVpState = under vp_td_alone (loads VcpuWord ∷ acts VcpuWord ∷ (bumps TdcsWord ++ bumps StreamWord))
line_of ExportAbort = under (Sole Tree ∷ op_alone) (loads TdcsWord ∷ loads StreamWord ∷ acts TdcsWord ∷ [])
line_of ExportRestore = under with_tree_alone (loads UpperEntry ∷ loads (LeafEntry true) ∷ acts (LeafEntry true) ∷ bumps DirtyWord)
-- calls of a migration's destination
line_of ImportImmutable = under (Sole Keys ∷ op_alone) (loads TdcsWord ∷ acts TdcsWord ∷ still TdcsWord ∷ still TdEpoch ∷ (bumps KeyWord ++ bumps StreamWord))
line_of ImportMemory = under with_tree_alone (loads TdcsWord ∷ loads UpperEntry ∷ loads (LeafEntry true) ∷ loads (LeafEntry false) ∷ acts (LeafEntry true) ∷ acts (LeafEntry false) ∷ still (LeafEntry false) ∷ (bumps StreamWord ++ bumps ChildCount))
line_of ImportMemoryWords = under (Sole Own ∷ with_tree_alone) (acts (GuestWord false) ∷ still (GuestWord false) ∷ fills (GuestWord false) ∷ [])
line_of ImportTokens = under (Sole Tree ∷ op_alone) (loads TdcsWord ∷ acts TdcsWord ∷ still TdcsWord ∷ bumps StreamWord)
line_of ImportTdState = under op_alone (loads TdcsWord ∷ acts RtmrWord ∷ still RtmrWord ∷ still TdcsWord ∷ bumps StreamWord)
line_of ImportVpState = under vp_td_alone (loads TdcsWord ∷ loads VcpuWord ∷ acts VcpuWord ∷ still VcpuWord ∷ bumps StreamWord)
line_of ImportCommit = under (Sole Tree ∷ op_alone) (acts TdcsWord ∷ [])
line_of ImportEnd = under op_alone (acts TdcsWord ∷ [])
line_of ImportAbort = under (Sole Tree ∷ op_alone) (loads TdcsWord ∷ acts TdcsWord ∷ [])
-- guest operations, under P of the TDR page and O shared and P of the TDVPR page alone
line_of GuestRegisters = under vp (loads VcpuWord ∷ acts VcpuWord ∷ still VcpuWord ∷ [])
line_of GuestWalk = under op_held (sees UpperEntry TheRights ∷ sees (LeafEntry true) TheRights ∷ [])
line_of GuestPrivateLoad = under (Has Reach ∷ op_held) (finds (GuestWord true) ∷ [])
line_of GuestPrivateStore = under (Has Change ∷ Has Reach ∷ op_held) (acts (GuestWord true) ∷ [])
line_of GuestSharedLoad = under (Has Own ∷ op_held) (loads PamtWord ∷ finds HostWord ∷ [])
line_of GuestSharedStore = under (Has Own ∷ op_held) (loads PamtWord ∷ acts HostWord ∷ [])
line_of GuestAccept = under with_tree (loads UpperEntry ∷ reads (LeafEntry true) ThePage ∷ [])
line_of GuestAcceptEntry = under (Sole Named ∷ with_tree) (loads (LeafEntry true) ∷ writes (LeafEntry true) KeepsPage ∷ [])
line_of GuestAcceptWords = under (Clear Reach ∷ Sole Own ∷ op_held) (fills (GuestWord true) ∷ [])
line_of GuestExtendRtmr = under (Sole Rtmr ∷ op_held) (loads RtmrWord ∷ acts RtmrWord ∷ still RtmrWord ∷ [])
line_of GuestReport = under (Has Rtmr ∷ vp) (loads TdcsWord ∷ loads RtmrWord ∷ loads VcpuWord ∷ acts VcpuWord ∷ [])
-- what acts make of words: pages that are taken or given back, control pages in teardown, entries that name other pages,
-- operation states that let guests run or not, epoch counts, and HKIDs that are given and freed
line_of TakesPage = under (Sole Own ∷ []) (moves HostWord ∷ [])
line_of ReclaimsControl = under (Sole Tdr ∷ Sole Own ∷ []) (moves TdLock ∷ moves TdrWord ∷ moves ChildCount ∷ moves TdcsWord ∷ moves TdEpoch ∷ moves (EpochCount true true) ∷ moves (EpochCount true false) ∷ moves (EpochCount false true) ∷ moves (EpochCount false false) ∷ moves RtmrWord ∷ moves DirtyWord ∷ moves Unused ∷ [])
line_of ReclaimsRest = under (Sole Tdr ∷ Sole Own ∷ []) (moves UpperEntry ∷ moves (LeafEntry true) ∷ moves (LeafEntry false) ∷ moves Association ∷ moves VcpuWord ∷ moves StreamWord ∷ moves (GuestWord true) ∷ moves (GuestWord false) ∷ [])
line_of GivesPageBack = under (Sole Own ∷ tree_alone_epoch) (moves (GuestWord true) ∷ moves (LeafEntry true) ∷ [])
line_of GivesNodeBack = under (Sole Own ∷ tree_alone_epoch) (moves UpperEntry ∷ moves (LeafEntry true) ∷ moves Unused ∷ [])
line_of AddsEntry = under with_tree_alone (moves (LeafEntry true) ∷ moves (LeafEntry false) ∷ [])
line_of ChangesOp = under op_alone (moves (GuestWord true) ∷ moves (GuestWord false) ∷ moves (LeafEntry true) ∷ moves (LeafEntry false) ∷ [])
line_of Enters = under (Has Epoch ∷ vp) (moves (EpochCount true true) ∷ moves (EpochCount true false) ∷ [])
line_of Leaves = under vp (moves (EpochCount true false) ∷ moves (EpochCount false false) ∷ [])
line_of Tracks = under (Sole Epoch ∷ op_held) (moves (EpochCount true true) ∷ moves (EpochCount true false) ∷ moves (EpochCount false true) ∷ [])
line_of BeginsEpochs = under op_alone (moves (EpochCount true true) ∷ moves (EpochCount false true) ∷ [])
line_of GivesHkid = under (Sole Keys ∷ Sole Tdr ∷ Sole Own ∷ []) (moves FreeSlot ∷ [])
line_of FreesHkid = under (Sole Keys ∷ Sole Tdr ∷ []) (moves Hasher ∷ [])

-- each of its rules is met with its locks
abbrev pub fits : Use → Bool
fits u = all_met (line_of u).locks (line_of u).rules

-- Each use fits; and a rule that is met by a list of wants is met by every grip that meets these, at every word.
pub record LeafTableFits : Type 0 where
  pub each : (u : Use) → fits u ≡ true
  pub given : (g : Grip) (at : Role → Guard) (had : List Want) (r : Rule) → HasWhatIsSole g → MeetsAll g at had → met had r ≡ true → Meets g at r
