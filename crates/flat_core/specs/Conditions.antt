-- Words that conditions are written in, and the beginnings that the rows of a TD's calls share.
use Rattle.std.specs.Prelude.{ℕ, zero, suc, ◌+◌, List, [], ◌∷◌, length, Option, Some, None, Bool, true, false, not, ◌==◌, ◌&&◌, nat_lt}
use Rattle.std.specs.List.{list_any, list_all}
use Rattle.td_words.specs.declared.names.PageKind.{PageKind}
use Rattle.td_words.specs.declared.names.PageKind.TheVariants as kind
use Rattle.td_words.specs.declared.names.LifeState.{LifeState}
use Rattle.td_words.specs.declared.names.LifeState.TheVariants as life
use Rattle.td_words.specs.declared.names.OpState.{OpState}
use Rattle.td_words.specs.declared.names.OpState.TheVariants as op
use Rattle.td_words.specs.declared.names.VcpuState.{VcpuState}
use Rattle.td_words.specs.declared.names.VcpuState.TheVariants as vcpu
use Rattle.td_words.specs.declared.names.LimitName.TheVariants.{Vcpus}
use Rattle.td_words.specs.declared.names.Mode.{Mode}
use Rattle.td_words.specs.declared.names.Mode.TheVariants.{Shared, Exclusive}
use Rattle.td_words.specs.declared.refusals.Status.TheVariants.{PageMetadataIncorrect, LifecycleStateIncorrect, OpStateIncorrect, TdcxNumIncorrect, VcpuStateIncorrect, VcpuAssociated, VcpuNotAssociated, PagesExist, FlushvpNotDone, Limit, CacheWbNotDone}
use Rattle.td_words.specs.declared.replies.Reply.{Reply}
use Rattle.td_words.specs.NameNumber.{kind_number, life_number, op_number, vcpu_number}
use Rattle.td_words.specs.Packing.{Key, Unassigned, AssignedTo, FlushedOf}
use Rattle.flat_core.specs.World.{World, Pages}
use Rattle.flat_core.specs.Processor.{OfPage, OfOp, OfTree, OfEpoch, OfKeys}
use Rattle.flat_core.specs.Locks.{one_if}
use Rattle.flat_core.specs.Row.{Item, Try, needs}

abbrev pub same_kind : PageKind → PageKind → Bool
same_kind a b = kind_number a == kind_number b

abbrev pub is_host_in : Pages → ℕ → Bool
is_host_in pages p = same_kind (pages.kinds p) kind.Nda

abbrev pub is_host : World → ℕ → Bool
is_host w p = is_host_in w.pages p

-- a page of that kind, of that TD
abbrev pub is_page_of : World → ℕ → ℕ → PageKind → Bool
is_page_of w t p k = same_kind (w.pages.kinds p) k && w.pages.owners p == t

abbrev pub is_free_key : Key → Bool
is_free_key Unassigned = true
is_free_key (AssignedTo t) = false
is_free_key (FlushedOf t b) = false

abbrev pub is_key_free : World → ℕ → Bool
is_key_free w h = is_free_key (w.key_table.keys h)

-- an HKID that PHYMEM.CACHE.WB came for since it was flushed
abbrev pub is_written_back : Key → Bool
is_written_back Unassigned = false
is_written_back (AssignedTo t) = false
is_written_back (FlushedOf t b) = b

-- the pages below n, its TDR page aside, that a TD owns
abbrev pub owned_below : Pages → ℕ → ℕ → ℕ
owned_below pages t zero = 0
owned_below pages t (suc n) =
    one_if (not (n == t) && (not (is_host_in pages n) && pages.owners n == t)) + owned_below pages t n

-- the child count of a TDR
abbrev pub children : World → ℕ → ℕ
children w t = owned_below w.pages t w.size

-- how many of these virtual processors are associated with a logical processor
abbrev pub one_if_some : Option ℕ → ℕ
one_if_some None = 0
one_if_some (Some lp) = 1

abbrev pub associated_in : (ℕ → Option ℕ) → List ℕ → ℕ
associated_in associated [] = 0
associated_in associated (v ∷ vs) = one_if_some (associated v) + associated_in associated vs

abbrev pub associated_count : World → ℕ → ℕ
associated_count w t = associated_in w.vps.associated (w.tds.vps t)

-- how many virtual processors a TD may have: eight, or where it is being imported as many as the import expects
abbrev pub vp_limit : OpState → ℕ → ℕ
vp_limit op.MemoryImport expected = expected
vp_limit _ expected = 8

abbrev pub same_vp_state : VcpuState → VcpuState → Bool
same_vp_state a b = vcpu_number a == vcpu_number b

-- tries
abbrev pub page_shared : ℕ → Item Reply
page_shared p = Try (OfPage p) Shared

abbrev pub page_exclusive : ℕ → Item Reply
page_exclusive p = Try (OfPage p) Exclusive

abbrev pub tree_shared : ℕ → Item Reply
tree_shared t = Try (OfTree t) Shared

abbrev pub tree_exclusive : ℕ → Item Reply
tree_exclusive t = Try (OfTree t) Exclusive

abbrev pub epoch_shared : ℕ → Item Reply
epoch_shared t = Try (OfEpoch t) Shared

abbrev pub epoch_exclusive : ℕ → Item Reply
epoch_exclusive t = Try (OfEpoch t) Exclusive

abbrev pub keys_exclusive : Item Reply
keys_exclusive = Try OfKeys Exclusive

-- page metadata: the TDR page, a host page, a page of a TD
abbrev pub root : World → ℕ → Item Reply
root w t = needs (same_kind (w.pages.kinds t) kind.Tdr) (PageMetadataIncorrect t)

abbrev pub host_page : World → ℕ → Item Reply
host_page w p = needs (is_host w p) (PageMetadataIncorrect p)

abbrev pub td_page : World → ℕ → ℕ → PageKind → Item Reply
td_page w t p k = needs (is_page_of w t p k) (PageMetadataIncorrect p)

-- any page of a TD
abbrev pub owned_page : World → ℕ → ℕ → Item Reply
owned_page w t p = needs (not (is_host w p) && w.pages.owners p == t) (PageMetadataIncorrect p)

-- the life state and the operation state are among these
abbrev pub life_in : World → ℕ → List LifeState → Item Reply
life_in w t allowed = needs (list_any (λ s. life_number s == life_number (w.tds.lives t)) allowed) (LifecycleStateIncorrect (w.tds.lives t))

abbrev pub op_in : World → ℕ → List OpState → Item Reply
op_in w t allowed = needs (list_any (λ s. op_number s == op_number (w.tds.ops t)) allowed) (OpStateIncorrect (w.tds.ops t))

-- the TD has that many TDCX pages
abbrev pub tdcx_count : World → ℕ → ℕ → Item Reply
tdcx_count w t n = needs (length (w.tds.controls t) == n) (TdcxNumIncorrect (length (w.tds.controls t)))

-- the TD has room for another TDCX page, or for another virtual processor
abbrev pub tdcx_room : World → ℕ → Item Reply
tdcx_room w t = needs (nat_lt (length (w.tds.controls t)) 2) (TdcxNumIncorrect 2)

abbrev pub vp_room : World → ℕ → Item Reply
vp_room w t = needs (nat_lt (length (w.tds.vps t)) (vp_limit (w.tds.ops t) (w.tds.vps_expected t))) (Limit Vcpus)

-- a virtual processor is in that state; and all of a TD are READY
abbrev pub vp_in : World → ℕ → VcpuState → Item Reply
vp_in w v s = needs (same_vp_state (w.vps.states v) s) (VcpuStateIncorrect (w.vps.states v))

abbrev pub vps_ready : World → ℕ → Item Reply
vps_ready w t = needs (list_all (λ v. same_vp_state (w.vps.states v) vcpu.Ready) (w.tds.vps t)) (VcpuStateIncorrect vcpu.Created)

-- a virtual processor is associated with no other logical processor
abbrev pub is_elsewhere : ℕ → Option ℕ → Bool
is_elsewhere me None = false
is_elsewhere me (Some lp) = not (lp == me)

abbrev pub lp_shown : Option ℕ → ℕ
lp_shown None = 0
lp_shown (Some lp) = lp

abbrev pub not_elsewhere : World → ℕ → ℕ → Item Reply
not_elsewhere w me v = needs (not (is_elsewhere me (w.vps.associated v))) (VcpuAssociated (lp_shown (w.vps.associated v)))

-- it is associated with one
abbrev pub is_associated : Option ℕ → Bool
is_associated None = false
is_associated (Some lp) = true

abbrev pub associated_vp : World → ℕ → Item Reply
associated_vp w v = needs (is_associated (w.vps.associated v)) VcpuNotAssociated

-- no virtual processor of the TD is associated; its HKID was written back; the TDR has no child page
abbrev pub none_associated : World → ℕ → Item Reply
none_associated w t = needs (associated_count w t == 0) (FlushvpNotDone (associated_count w t))

abbrev pub written_back_key : World → ℕ → Item Reply
written_back_key w t = needs (is_written_back (w.key_table.keys (w.tds.hkids t))) CacheWbNotDone

abbrev pub no_children : World → ℕ → Item Reply
no_children w t = needs (children w t == 0) (PagesExist (children w t))

-- operation states: all that a TD has once it is built, or is imported; with the one before; and all
abbrev pub later_ops : List OpState
later_ops = op.Runnable ∷ op.LiveExport ∷ op.PausedExport ∷ op.PostExport ∷ op.MemoryImport ∷ op.StateImport ∷ op.PostImport ∷ op.LiveImport ∷ op.FailedImport ∷ []

abbrev pub begun_ops : List OpState
begun_ops = op.Initialized ∷ later_ops

abbrev pub all_ops : List OpState
all_ops = op.Uninitialized ∷ begun_ops

-- those in which a TD's virtual processors run
abbrev pub running_ops : List OpState
running_ops = op.Runnable ∷ op.LiveExport ∷ op.LiveImport ∷ []

-- the one in which its pages are blocked, unblocked, removed and relocated: while it runs and no session stands
abbrev pub blocking_ops : List OpState
blocking_ops = op.Runnable ∷ []

-- those in which a TD may get secure EPT pages: while it is built or imported, and while it runs
abbrev pub growing_ops : List OpState
growing_ops = op.Initialized ∷ op.Runnable ∷ op.LiveExport ∷ op.MemoryImport ∷ op.StateImport ∷ op.PostImport ∷ op.LiveImport ∷ []

-- those in which it may get private pages that its guest is to accept, and in which its epoch may advance: while it runs, or
-- is exported running
abbrev pub augmented_ops : List OpState
augmented_ops = op.Runnable ∷ op.LiveExport ∷ []

-- The beginning of the rows that begin and end a TD's life: its TDR page is held alone and is one, and its life state is
-- one of these.
abbrev pub tdr_exclusive : World → ℕ → List LifeState → List (Item Reply)
tdr_exclusive w t allowed = page_exclusive t ∷ root w t ∷ life_in w t allowed ∷ []

-- The beginning of the rows of a TD's calls: its TDR page is held and is one, its keys are configured, its two TDCX pages
-- are there, its operation state is held in this mode and is one of these (ABI Reference, "TDH leaf functions").
abbrev pub td_row : World → ℕ → Mode → List OpState → List (Item Reply)
td_row w t mode allowed =
    page_shared t ∷ root w t ∷ life_in w t (life.KeysConfigured ∷ []) ∷ tdcx_count w t 2 ∷ Try (OfOp t) mode ∷ op_in w t allowed ∷ []

abbrev pub td_shared : World → ℕ → List OpState → List (Item Reply)
td_shared w t allowed = td_row w t Shared allowed

abbrev pub td_exclusive : World → ℕ → List OpState → List (Item Reply)
td_exclusive w t allowed = td_row w t Exclusive allowed
