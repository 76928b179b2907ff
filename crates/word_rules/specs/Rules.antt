-- Who may change what: for each class of words the locks under which a word is stable to read, safe to see, allowed to
-- store, owed, filled, and allowed to become a word of another class (Base Architecture, "Concurrency Restrictions and
-- Enforcement"; TD Migration Architecture, "Migration Concurrency"). docs/permissions.md has the same in words.
use Rattle.std.specs.Prelude.{◌≡◌, Bool, true, false, List, [], ◌∷◌}
use Rattle.word_rules.specs.Guards.{Tdr, Op, Tree, Epoch, Rtmr, Own, Named, Keys, Reach, Change, Want, Has, Sole, Clear, Rule, clashes}

-- the kinds of words. `runs` says that the TD's operation state lets virtual processors be in guest
pub data Class : Type 0 where
  PageLock : Class  -- lock words of pages, and K
  TdLock : Class  -- lock words O, T, E and R
  PamtWord : Class
  KeyWord : Class
  HostWord : Class
  GuestWord : (runs : Bool) → Class
  TdrWord : Class
  ChildCount : Class
  TdcsWord : Class
  TdEpoch : Class
  EpochCount : (current zero : Bool) → Class  -- of TD_EPOCH or of the epoch before, and whether it is 0
  RtmrWord : Class
  DirtyWord : Class
  UpperEntry : Class
  LeafEntry : (runs : Bool) → Class
  Association : Class
  VcpuWord : Class
  StreamWord : Class
  Unused : Class  -- a word of a control page that means nothing
  Hasher : Class  -- in the slot of a TD's HKID
  FreeSlot : Class  -- the slot of a free HKID

-- what of a word a load depends on: all of it, the page that an entry names, or that page and what the entry allows
pub data View : Type 0 where
  Whole : View
  ThePage : View
  TheRights : View

-- what of a word a store keeps
pub data Grade : Type 0 where
  KeepsNothing : Grade
  KeepsPage : Grade
  KeepsRights : Grade

abbrev pub spares : Grade → View → Bool
spares KeepsPage ThePage = true
spares KeepsRights ThePage = true
spares KeepsRights TheRights = true
spares _ _ = false

-- lists of locks that stand often. P of the TDR page is held, shared at least, in every rule on a TD's words

abbrev pub tdr_held : List Want
tdr_held = Has Tdr ∷ []

abbrev pub tdr_alone : List Want
tdr_alone = Sole Tdr ∷ []

abbrev pub op_held : List Want
op_held = Has Tdr ∷ Has Op ∷ []

abbrev pub op_alone : List Want
op_alone = Has Tdr ∷ Sole Op ∷ []

abbrev pub tree_held : List Want
tree_held = Has Tdr ∷ Has Op ∷ Has Tree ∷ []

abbrev pub tree_alone : List Want
tree_alone = Has Tdr ∷ Has Op ∷ Sole Tree ∷ []

abbrev pub epoch_held : List Want
epoch_held = Has Tdr ∷ Has Op ∷ Has Epoch ∷ []

abbrev pub epoch_alone : List Want
epoch_alone = Has Tdr ∷ Has Op ∷ Sole Epoch ∷ []

abbrev pub rtmr_held : List Want
rtmr_held = Has Tdr ∷ Has Op ∷ Has Rtmr ∷ []

abbrev pub rtmr_alone : List Want
rtmr_alone = Has Tdr ∷ Has Op ∷ Sole Rtmr ∷ []

abbrev pub own_held : List Want
own_held = Has Tdr ∷ Has Op ∷ Has Own ∷ []

abbrev pub own_alone : List Want
own_alone = Has Tdr ∷ Has Op ∷ Sole Own ∷ []

abbrev pub named_held : List Want
named_held = Has Tdr ∷ Has Op ∷ Has Tree ∷ Has Named ∷ []

abbrev pub named_alone : List Want
named_alone = Has Tdr ∷ Has Op ∷ Has Tree ∷ Sole Named ∷ []

-- an export holds T shared besides P of its stream, so an import, which holds T alone, isn't beside it
abbrev pub stream_held : List Want
stream_held = Has Tdr ∷ Has Op ∷ Has Tree ∷ Has Own ∷ []

abbrev pub stream_alone : List Want
stream_alone = Has Tdr ∷ Has Op ∷ Has Tree ∷ Sole Own ∷ []

-- no guest writes there, or reaches there
abbrev pub own_unwritten : List Want
own_unwritten = Has Tdr ∷ Has Op ∷ Has Own ∷ Clear Change ∷ []

abbrev pub own_unreached : List Want
own_unreached = Has Tdr ∷ Has Op ∷ Sole Own ∷ Clear Reach ∷ []

abbrev pub guest_reads : List Want
guest_reads = Has Tdr ∷ Has Op ∷ Has Reach ∷ []

abbrev pub guest_writes : List Want
guest_writes = Has Tdr ∷ Has Op ∷ Has Reach ∷ Has Change ∷ []

abbrev pub nobody : Rule
nobody = []

abbrev pub one : List Want → Rule
one ws = ws ∷ []

-- a load under one of these stays as it is until the act
abbrev pub reads : Class → View → Rule
reads PageLock v = nobody
reads TdLock v = nobody
reads PamtWord v = one (Has Own ∷ [])
reads KeyWord v = one (Has Keys ∷ [])
reads HostWord v = one (Sole Own ∷ [])
reads (GuestWord false) v = one own_held
reads (GuestWord true) v = one own_unwritten
reads TdrWord v = one tdr_held
reads ChildCount v = tdr_alone ∷ op_alone ∷ tree_alone ∷ []
reads TdcsWord v = tdr_alone ∷ op_held ∷ []
reads TdEpoch v = tdr_alone ∷ op_alone ∷ epoch_held ∷ []
reads (EpochCount false true) v = tdr_alone ∷ epoch_held ∷ []  -- the count of the previous epoch may fall, and never rises from 0
reads (EpochCount _ _) v = nobody
reads RtmrWord v = tdr_alone ∷ op_alone ∷ rtmr_held ∷ []
reads DirtyWord v = tdr_alone ∷ op_alone ∷ tree_alone ∷ []
reads UpperEntry v = tdr_alone ∷ op_alone ∷ tree_held ∷ []
reads (LeafEntry r) ThePage = tdr_alone ∷ op_alone ∷ tree_held ∷ []
reads (LeafEntry r) _ = tdr_alone ∷ op_alone ∷ tree_alone ∷ named_held ∷ []
reads Association v = tdr_alone ∷ (Has Tdr ∷ Has Own ∷ []) ∷ []
reads VcpuWord v = tdr_alone ∷ op_alone ∷ own_held ∷ []
reads StreamWord v = tdr_alone ∷ op_alone ∷ tree_alone ∷ stream_held ∷ []
reads Unused v = nobody
reads Hasher v = one op_alone
reads FreeSlot v = nobody

-- a load under one of these finds what is shown, so it may be the act itself. A guest's walk and word access are among
-- them
abbrev pub sees : Class → View → Rule
sees HostWord v = one (Has Own ∷ [])
sees (GuestWord true) v = guest_reads ∷ own_unwritten ∷ []
sees (EpochCount c z) v = one tdr_held
sees UpperEntry v = tdr_alone ∷ op_held ∷ []
sees (LeafEntry true) Whole = tdr_alone ∷ op_alone ∷ tree_alone ∷ named_held ∷ []
sees (LeafEntry true) _ = tdr_alone ∷ op_held ∷ []
sees c v = reads c v

-- a store under one of these may be the act
abbrev pub writes : Class → Grade → Rule
writes PageLock g = nobody
writes TdLock g = one tdr_alone
writes PamtWord g = one (Sole Own ∷ [])
writes KeyWord g = one (Sole Keys ∷ [])
writes HostWord g = one (Has Own ∷ [])
writes (GuestWord false) g = one own_alone
writes (GuestWord true) g = one guest_writes
writes TdrWord g = one tdr_alone
writes ChildCount g = tdr_alone ∷ op_alone ∷ tree_alone ∷ []
writes TdcsWord g = tdr_alone ∷ op_alone ∷ []
writes TdEpoch g = tdr_alone ∷ op_alone ∷ epoch_alone ∷ []
writes (EpochCount true z) g = tdr_alone ∷ op_held ∷ []
writes (EpochCount false true) g = one tdr_alone
writes (EpochCount false false) g = tdr_alone ∷ op_held ∷ []
writes RtmrWord g = tdr_alone ∷ op_alone ∷ rtmr_alone ∷ []
writes DirtyWord g = tdr_alone ∷ op_alone ∷ tree_alone ∷ []
writes UpperEntry g = tdr_alone ∷ tree_alone ∷ []
writes (LeafEntry r) KeepsNothing = tdr_alone ∷ tree_alone ∷ []
writes (LeafEntry r) _ = tdr_alone ∷ tree_alone ∷ named_alone ∷ []
writes Association g = one (Has Tdr ∷ Sole Own ∷ [])
writes VcpuWord g = tdr_alone ∷ own_alone ∷ []
writes StreamWord g = tdr_alone ∷ op_alone ∷ tree_alone ∷ stream_alone ∷ []
writes Unused g = one (Has Tdr ∷ Sole Own ∷ [])
writes Hasher g = one op_alone
writes FreeSlot g = nobody

-- a store under one of these may still be to come after the act
abbrev pub owes : Class → Grade → Rule
owes HostWord g = one (Sole Own ∷ [])
owes (GuestWord true) g = nobody
owes (EpochCount c z) g = one tdr_alone
owes UpperEntry g = one tdr_alone
owes (LeafEntry true) KeepsRights = tdr_alone ∷ tree_alone ∷ named_alone ∷ []
owes (LeafEntry true) _ = one tdr_alone
owes c g = writes c g

-- a store under one of these may come before the act, where nobody sees it
abbrev pub fills : Class → Rule
fills HostWord = one (Sole Own ∷ [])
fills (GuestWord false) = one own_alone
fills (GuestWord true) = one own_unreached
fills _ = nobody

-- an act under one of these may make a word one of another class, of another TD or page, or an entry that names another
-- page
abbrev pub moves : Class → Rule
moves PageLock = nobody
moves TdLock = one tdr_alone
moves PamtWord = nobody
moves KeyWord = nobody
moves HostWord = one (Sole Own ∷ [])
moves (GuestWord r) = tdr_alone ∷ op_alone ∷ (Has Tdr ∷ Sole Own ∷ []) ∷ []
moves TdrWord = one tdr_alone
moves ChildCount = one tdr_alone
moves TdcsWord = one tdr_alone
moves TdEpoch = one tdr_alone
moves (EpochCount false true) = tdr_alone ∷ op_alone ∷ epoch_alone ∷ []
moves (EpochCount _ _) = one tdr_held
moves RtmrWord = one tdr_alone
moves DirtyWord = one tdr_alone
moves UpperEntry = tdr_alone ∷ tree_alone ∷ []
moves (LeafEntry r) = tdr_alone ∷ op_alone ∷ tree_alone ∷ []
moves Association = one tdr_alone
moves VcpuWord = one tdr_alone
moves StreamWord = one tdr_alone
moves Unused = one (Has Tdr ∷ Sole Own ∷ [])
moves Hasher = one tdr_alone
moves FreeSlot = one (Sole Keys ∷ [])

-- a try, an undo or a release steps on lock words alone, those of a TD under P of its TDR page
abbrev pub tries : Class → Rule
tries TdLock = one tdr_held
tries PageLock = one []
tries _ = nobody

-- No two processors meet two rules that are named together, where a store doesn't spare what a load depends on.
pub record RulesClash : Type 0 where
  pub reads_writes : (c : Class) (v : View) (g : Grade) → spares g v ≡ false → clashes (reads c v) (writes c g) ≡ true
  pub reads_owes : (c : Class) (v : View) (g : Grade) → spares g v ≡ false → clashes (reads c v) (owes c g) ≡ true
  pub reads_moves : (c : Class) (v : View) → clashes (reads c v) (moves c) ≡ true
  pub sees_owes : (c : Class) (v : View) (g : Grade) → spares g v ≡ false → clashes (sees c v) (owes c g) ≡ true
  pub writes_owes : (c : Class) (f g : Grade) → clashes (writes c f) (owes c g) ≡ true
  pub owes_owes : (c : Class) (f g : Grade) → clashes (owes c f) (owes c g) ≡ true
  pub owes_moves : (c : Class) (g : Grade) → clashes (owes c g) (moves c) ≡ true
  pub tries_owes : (c : Class) (g : Grade) → clashes (tries c) (owes c g) ≡ true
  pub tries_reads : (c : Class) (v : View) → clashes (tries c) (reads c v) ≡ true
  pub tries_writes : (c : Class) (g : Grade) → clashes (tries c) (writes c g) ≡ true
  pub tries_fills : (c : Class) → clashes (tries c) (fills c) ≡ true
  pub tries_moves : (c : Class) → clashes (tries c) (moves c) ≡ true
  pub fills_reads : (c : Class) (v : View) → clashes (fills c) (reads c v) ≡ true
  pub fills_sees : (c : Class) (v : View) → clashes (fills c) (sees c v) ≡ true
  pub fills_writes : (c : Class) (g : Grade) → clashes (fills c) (writes c g) ≡ true
  pub fills_owes : (c : Class) (g : Grade) → clashes (fills c) (owes c g) ≡ true
  pub fills_fills : (c : Class) → clashes (fills c) (fills c) ≡ true
  pub fills_moves : (c : Class) → clashes (fills c) (moves c) ≡ true
  pub swaps : clashes (writes Hasher KeepsNothing) (writes Hasher KeepsNothing) ≡ true
  pub swaps_moves : clashes (writes Hasher KeepsNothing) (moves Hasher) ≡ true
