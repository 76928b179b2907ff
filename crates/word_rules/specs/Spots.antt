-- What a word is: its class, the TD that it belongs to, the page that it stands in, and the page that it names if it is an
-- entry of level 0. It is all of the world that a rule depends on.
use Rattle.std.specs.Prelude.{ℕ, zero, suc, ◌+◌, ◌*◌, ◌%◌, Bool, true, false, ◌==◌, ◌||◌, if◌then◌else◌, Option, Some, None, List, [], ◌∷◌}
use Rattle.td_words.specs.declared.names.PageKind.{PageKind}
use Rattle.td_words.specs.declared.names.PageKind.TheVariants as kind
use Rattle.td_words.specs.declared.names.LifeState.{LifeState}
use Rattle.td_words.specs.declared.names.LifeState.TheVariants as life
use Rattle.td_words.specs.declared.names.OpState.{OpState}
use Rattle.td_words.specs.declared.names.OpState.TheVariants as op
use Rattle.td_words.specs.declared.places.TheConstants.{TDR_LIFE, TDR_HKID, TDR_CHILDREN, TDR_TDCX_COUNT, TDR_TDCS, TDR_ROOT, TDCS_OP_LOCK, TDCS_OP, TDCS_EPOCH, TDCS_ENTERED, TDCS_DIRTIED, TDCS_UNRESTORED, TDCS_MIG_EPOCH, TDCS_RTMRS, TDCS_VPS, TDCS_STREAM_COUNT, TDCS_STREAMS, TDCS_MRTD, VP_INDEX, VP_STATE, VP_ASSOCIATED, VP_LAST_EPOCH, VP_POSITION, VP_EXPORTED, VP_REGISTERS, STREAM_COUNTER, STREAM_CLEANED, STREAM_FIRST_EXPORTS, KEY_LOCK}
use Rattle.td_words.specs.Place.{WordPlace}
use Rattle.td_words.specs.Place as place
use Rattle.flat_core.specs.World.{World}
use Rattle.flat_core.specs.Processor.{OfPage, OfOp, OfTree, OfEpoch, OfRtmr, OfKeys}
use Rattle.flat_core.specs.Lawful.{key_owner}
use Rattle.word_rules.specs.Guards.{Guard, Locked, Reached, Written, Role, Tdr, Op, Tree, Epoch, Rtmr, Own, Named, Keys, Reach, Change}
use Rattle.word_rules.specs.Rules.{Class, PageLock, TdLock, PamtWord, KeyWord, HostWord, GuestWord, TdrWord, ChildCount, TdcsWord, TdEpoch, EpochCount, RtmrWord, DirtyWord, UpperEntry, LeafEntry, Association, VcpuWord, StreamWord, Unused, Hasher, FreeSlot}
use Rattle.word_rules.specs.Views.{no_page, named_by}
use Rattle.word_rules.specs.Lines.{Line, At, Run, in_lines}
use Rattle.word_rules.specs.Cells.{entered_of_parity}

pub record Spot : Type 0 where
  pub class : Class
  pub td : ℕ
  pub page : ℕ
  pub named : ℕ

-- the guard that a role is at a spot
abbrev pub guard_at : Spot → Role → Guard
guard_at s Tdr = Locked (OfPage s.td)
guard_at s Op = Locked (OfOp s.td)
guard_at s Tree = Locked (OfTree s.td)
guard_at s Epoch = Locked (OfEpoch s.td)
guard_at s Rtmr = Locked (OfRtmr s.td)
guard_at s Own = Locked (OfPage s.page)
guard_at s Named = Locked (OfPage s.named)
guard_at s Keys = Locked OfKeys
guard_at s Reach = Reached s.page
guard_at s Change = Written s.page

-- the operation states in which VP.ENTER enters a guest
abbrev pub runs_in : OpState → Bool
runs_in op.Runnable = true
runs_in op.LiveExport = true
runs_in op.LiveImport = true
runs_in _ = false

-- the classes of a control page's words, of which those that aren't listed mean nothing

abbrev pub or_unused : Option Class → Class
or_unused None = Unused
or_unused (Some c) = c

abbrev pub run : ℕ → ℕ → Class → Line Class
run at count c = Run at count (λ k. Some c)

abbrev pub tdr_classes : List (Line Class)
tdr_classes = At TDR_LIFE TdrWord ∷ At TDR_HKID TdrWord ∷ At TDR_CHILDREN ChildCount ∷ At TDR_TDCX_COUNT TdrWord ∷ At TDR_TDCS TdrWord ∷ At TDR_ROOT TdrWord ∷ []

abbrev pub tdcs_classes : (current empty : ℕ → Bool) → List (Line Class)
tdcs_classes current empty =
    run TDCS_OP_LOCK 4 TdLock
    ∷ At TDCS_OP TdcsWord
    ∷ At TDCS_EPOCH TdEpoch
    ∷ Run TDCS_ENTERED 2 (λ b. Some (EpochCount (current b) (empty b)))
    ∷ At TDCS_DIRTIED DirtyWord
    ∷ At TDCS_UNRESTORED DirtyWord
    ∷ run TDCS_MIG_EPOCH 6 TdcsWord
    ∷ run TDCS_RTMRS 24 RtmrWord
    ∷ run TDCS_VPS 8 TdcsWord
    ∷ At TDCS_STREAM_COUNT TdcsWord
    ∷ run TDCS_STREAMS 4 TdcsWord
    ∷ run TDCS_MRTD 6 TdcsWord
    ∷ []

abbrev pub vp_classes : List (Line Class)
vp_classes = At VP_INDEX VcpuWord ∷ At VP_STATE VcpuWord ∷ At VP_ASSOCIATED Association ∷ At VP_LAST_EPOCH VcpuWord ∷ At VP_POSITION VcpuWord ∷ At VP_EXPORTED VcpuWord ∷ run VP_REGISTERS 8 VcpuWord ∷ []

abbrev pub stream_classes : List (Line Class)
stream_classes = At STREAM_COUNTER StreamWord ∷ At STREAM_CLEANED StreamWord ∷ At STREAM_FIRST_EXPORTS StreamWord ∷ []

-- whether a parity is TD_EPOCH's, and whether no virtual processor in guest entered at an epoch of it. Of a TD in
-- TD_TEARDOWN none is in guest, and its TDVPR pages may be another TD's by now
abbrev pub is_at_end : LifeState → Bool
is_at_end life.Teardown = true
is_at_end _ = false

abbrev pub is_current : World → ℕ → ℕ → Bool
is_current w t b = w.tds.epochs t % 2 == b

abbrev pub is_empty : World → ℕ → ℕ → Bool
is_empty w t b = is_at_end (w.tds.lives t) || entered_of_parity b w.vps.entered (w.tds.vps t) == 0

abbrev pub root_class : ℕ → List ℕ → Class
root_class p [] = Unused
root_class p (r ∷ rest) = if r == p then UpperEntry else Unused

abbrev pub control_class : World → (t p : ℕ) → List ℕ → ℕ → Class
control_class w t p [] i = Unused
control_class w t p (c ∷ rest) i = if c == p then or_unused (in_lines (tdcs_classes (is_current w t) (is_empty w t)) i) else root_class p rest

-- the words of a secure EPT page, by the level of its node
abbrev pub entry_class : World → ℕ → ℕ → Class
entry_class w t zero = Unused
entry_class w t (suc zero) = LeafEntry (runs_in (w.tds.ops t))
entry_class w t (suc (suc level)) = UpperEntry

abbrev pub entry_named : World → (t level number : ℕ) → ℕ → ℕ
entry_named w t zero number i = no_page
entry_named w t (suc zero) number i = named_by (w.tds.entries t 0 (512 * number + i))
entry_named w t (suc (suc level)) number i = no_page

-- a content word of page p, which is of this kind and of TD t
abbrev pub page_spot : World → (t p : ℕ) → PageKind → ℕ → Spot
page_spot w t p kind.Nda i = record { class = HostWord; td = 0; page = p; named = no_page }
page_spot w t p kind.Reg i = record { class = GuestWord (runs_in (w.tds.ops t)); td = t; page = p; named = no_page }
page_spot w t p kind.Tdr i = record { class = or_unused (in_lines tdr_classes i); td = t; page = p; named = no_page }
page_spot w t p kind.Tdcx i = record { class = control_class w t p (w.tds.controls t) i; td = t; page = p; named = no_page }
page_spot w t p kind.Tdvpr i = record { class = or_unused (in_lines vp_classes i); td = t; page = p; named = no_page }
page_spot w t p kind.Ept i = record { class = entry_class w t (w.pages.levels p); td = t; page = p; named = entry_named w t (w.pages.levels p) (w.pages.numbers p) i }
page_spot w t p kind.Migsc i = record { class = or_unused (in_lines stream_classes i); td = t; page = p; named = no_page }

abbrev pub spot : World → WordPlace → Spot
spot w (place.Lock p) = record { class = PageLock; td = 0; page = p; named = no_page }
spot w (place.Pamt p) = record { class = PamtWord; td = 0; page = p; named = no_page }
spot w (place.Key k) = record { class = if k == KEY_LOCK then PageLock else KeyWord; td = 0; page = 0; named = no_page }
spot w (place.Word p i) = page_spot w (w.pages.owners p) p (w.pages.kinds p) i

-- the slot of an HKID, with the hasher of the TD that it is given to
abbrev pub slot_of : Option ℕ → Spot
slot_of None = record { class = FreeSlot; td = 0; page = 0; named = no_page }
slot_of (Some t) = record { class = Hasher; td = t; page = 0; named = no_page }

abbrev pub slot_spot : World → ℕ → Spot
slot_spot w h = slot_of (key_owner (w.key_table.keys h))
