-- What words show: what each word of memory is, as far as the state of the flat machine fixes it. Of a TD in TD_TEARDOWN
-- the entries, TDCS with its locks, VCPU and stream words are left out.
use Rattle.std.specs.Prelude.{◌≡◌, ℕ, zero, suc, ◌+◌, ◌-◌, ◌*◌, ◌%◌, ◌^◌, Bool, true, false, ◌==◌, if◌then◌else◌, Option, Some, None, List, [], ◌∷◌, length, slice_get, slice_index}
use Rattle.td_words.specs.declared.names.PageKind.{PageKind}
use Rattle.td_words.specs.declared.names.PageKind.TheVariants as kind
use Rattle.td_words.specs.declared.names.LifeState.{LifeState}
use Rattle.td_words.specs.declared.names.LifeState.TheVariants as life
use Rattle.td_words.specs.declared.names.OpState.{OpState}
use Rattle.td_words.specs.declared.names.OpState.TheVariants as op
use Rattle.td_words.specs.declared.machines.Machine.{Machine}
use Rattle.td_words.specs.declared.places.TheConstants.{TDR_LIFE, TDR_HKID, TDR_CHILDREN, TDR_TDCX_COUNT, TDR_TDCS, TDR_ROOT, TDCS_OP_LOCK, TDCS_TREE_LOCK, TDCS_EPOCH_LOCK, TDCS_RTMR_LOCK, TDCS_OP, TDCS_EPOCH, TDCS_ENTERED, TDCS_DIRTIED, TDCS_UNRESTORED, TDCS_MIG_EPOCH, TDCS_SESSION, TDCS_TD_EXPORTED, TDCS_VPS_EXPORTED, TDCS_VPS_EXPECTED, TDCS_VP_COUNT, TDCS_RTMRS, TDCS_VPS, TDCS_STREAM_COUNT, TDCS_STREAMS, TDCS_MRTD, VP_INDEX, VP_STATE, VP_ASSOCIATED, VP_LAST_EPOCH, VP_POSITION, VP_EXPORTED, VP_REGISTERS, STREAM_COUNTER, STREAM_CLEANED, STREAM_FIRST_EXPORTS, KEY_LOCK, KEY_LAST_EXPORTED, KEY_LAST_IMPORTED, KEY_FIRST}
use Rattle.td_words.specs.NameNumber.{life_number, op_number, vcpu_number}
use Rattle.td_words.specs.Packing.{pamt_word, entry_word, key_word}
use Rattle.td_words.specs.Place.{WordPlace, IsIn}
use Rattle.td_words.specs.Place as place
use Rattle.flat_core.specs.World.{World}
use Rattle.flat_core.specs.Processor.{LockId, OfPage, OfOp, OfTree, OfEpoch, OfRtmr, OfKeys, Lp}
use Rattle.flat_core.specs.Locks.{one_if, holders, sharers, refusals}
use Rattle.flat_core.specs.Conditions.{children}
use Rattle.flat_core.specs.Lawful.{key_owner}
use Rattle.flat_core.specs.Opening.{Opening}
use Rattle.flat_core.specs.Event.{State, start}
use Rattle.word_rules.specs.Lines.{Line, At, Run, in_lines}

-- a lock word: bit 63 for who holds it alone, and the number of those who share it or are being refused it
abbrev pub lock_word : (ℕ → Lp) → ℕ → LockId → ℕ
lock_word lps n l = 2 ^ 63 * holders lps n l + (sharers lps n l + refusals lps n l)

-- TLB epochs are counted by parity: the virtual processors in guest that entered at an epoch of this one
abbrev pub one_of_parity : ℕ → Option ℕ → ℕ
one_of_parity b None = 0
one_of_parity b (Some e) = one_if (e % 2 == b)

abbrev pub entered_of_parity : ℕ → (ℕ → Option ℕ) → List ℕ → ℕ
entered_of_parity b entered [] = 0
entered_of_parity b entered (v ∷ vs) = one_of_parity b (entered v) + entered_of_parity b entered vs

-- the control page of TD t itself (Base Architecture, "TD Root (TDR)")
abbrev pub tdr_lines : World → ℕ → List (Line ℕ)
tdr_lines w t =
    At TDR_LIFE (life_number (w.tds.lives t))
    ∷ At TDR_HKID (w.tds.hkids t)
    ∷ At TDR_CHILDREN (children w t)
    ∷ At TDR_TDCX_COUNT (length (w.tds.controls t))
    ∷ At TDR_TDCS (slice_index (w.tds.controls t) 0)
    ∷ At TDR_ROOT (slice_index (w.tds.controls t) 1)
    ∷ []

-- its lock words O, T, E and R, which TDCS begins with
abbrev pub td_lock_lines : (LockId → ℕ) → ℕ → List (Line ℕ) → List (Line ℕ)
td_lock_lines locks t rest =
    At TDCS_OP_LOCK (locks (OfOp t))
    ∷ At TDCS_TREE_LOCK (locks (OfTree t))
    ∷ At TDCS_EPOCH_LOCK (locks (OfEpoch t))
    ∷ At TDCS_RTMR_LOCK (locks (OfRtmr t))
    ∷ rest

-- its TDCS without them (Base Architecture, "TD Control Structure (TDCS)")
abbrev pub tdcs_lines : World → ℕ → List (Line ℕ)
tdcs_lines w t =
    At TDCS_OP (op_number (w.tds.ops t))
    ∷ At TDCS_EPOCH (w.tds.epochs t)
    ∷ Run TDCS_ENTERED 2 (λ b. Some (entered_of_parity b w.vps.entered (w.tds.vps t)))
    ∷ At TDCS_DIRTIED (w.tds.dirtied t)
    ∷ At TDCS_UNRESTORED (w.tds.unrestored t)
    ∷ At TDCS_MIG_EPOCH (w.tds.mig_epochs t)
    ∷ At TDCS_SESSION (w.tds.sessions t)
    ∷ At TDCS_TD_EXPORTED (w.tds.td_exported t)
    ∷ At TDCS_VPS_EXPORTED (w.tds.vps_exported t)
    ∷ At TDCS_VPS_EXPECTED (w.tds.vps_expected t)
    ∷ At TDCS_VP_COUNT (length (w.tds.vps t))
    ∷ Run TDCS_RTMRS 24 (λ k. Some (w.hidden.rtmrs t k))
    ∷ Run TDCS_VPS 8 (slice_get (w.tds.vps t))
    ∷ At TDCS_STREAM_COUNT (length (w.tds.streams t))
    ∷ Run TDCS_STREAMS 4 (slice_get (w.tds.streams t))
    ∷ Run TDCS_MRTD 6 (λ k. Some (w.tds.mrtds t k))
    ∷ []

-- a virtual processor (Base Architecture, "TD VCPU State (TDVPS)")
abbrev pub associated_word : Option ℕ → ℕ
associated_word None = 0
associated_word (Some lp) = lp + 1

abbrev pub vp_lines : World → ℕ → List (Line ℕ)
vp_lines w v =
    At VP_INDEX (w.vps.indexes v)
    ∷ At VP_STATE (vcpu_number (w.vps.states v))
    ∷ At VP_ASSOCIATED (associated_word (w.vps.associated v))
    ∷ At VP_LAST_EPOCH (w.vps.lasts v)
    ∷ At VP_POSITION (w.vps.positions v)
    ∷ At VP_EXPORTED (w.vps.exported v)
    ∷ Run VP_REGISTERS 8 (λ r. Some (w.hidden.registers v r))
    ∷ []

-- a migration stream (TD Migration Architecture, "Migration Streams")
abbrev pub stream_lines : World → ℕ → List (Line ℕ)
stream_lines w s =
    At STREAM_COUNTER (w.streams.counters s) ∷ At STREAM_CLEANED (w.streams.cleaned s) ∷ At STREAM_FIRST_EXPORTS (w.streams.first_exports s) ∷ []

-- the key table: K, the last sessions, and a word for each HKID from 1 on (Base Architecture, "Key Ownership Table")
abbrev pub hkid_of : ℕ → ℕ
hkid_of k = suc (k - KEY_FIRST)

abbrev pub key_cell : World → ℕ → ℕ → Option ℕ
key_cell w lock k =
    if k == KEY_LOCK then Some lock
    else if k == KEY_LAST_EXPORTED then Some w.key_table.last_exported
    else if k == KEY_LAST_IMPORTED then Some w.key_table.last_imported
    else Some (key_word (w.key_table.keys (hkid_of k)))

-- the entries of a node of a TD's secure EPT stand one level below it
abbrev pub entry_cell : World → (t level number : ℕ) → ℕ → Option ℕ
entry_cell w t zero number i = None
entry_cell w t (suc level) number i = Some (entry_word (w.tds.entries t level (512 * number + i)))

-- a TDCX page of a TD: its first one is TDCS, its second one the root of its secure EPT
abbrev pub root_cell : World → (t p : ℕ) → List ℕ → ℕ → Option ℕ
root_cell w t p [] i = None
root_cell w t p (r ∷ rest) i = if r == p then entry_cell w t 4 0 i else None

abbrev pub control_cell : World → (LockId → ℕ) → (t p : ℕ) → List ℕ → ℕ → Option ℕ
control_cell w locks t p [] i = None
control_cell w locks t p (c ∷ rest) i = if c == p then in_lines (td_lock_lines locks t (tdcs_lines w t)) i else root_cell w t p rest i

-- left out of a TD in TD_TEARDOWN
abbrev pub if_stands : {A : Type 0} → LifeState → Option A → Option A
if_stands s c = if life_number s == life_number life.Teardown then None else c

-- a content word of page p, which is of this kind and of TD t
abbrev pub page_cell : World → (LockId → ℕ) → (t p : ℕ) → PageKind → ℕ → Option ℕ
page_cell w locks t p kind.Nda i = Some (w.words p i)
page_cell w locks t p kind.Reg i = Some (w.words p i)
page_cell w locks t p kind.Tdr i = in_lines (tdr_lines w t) i
page_cell w locks t p kind.Tdcx i = if_stands (w.tds.lives t) (control_cell w locks t p (w.tds.controls t) i)
page_cell w locks t p kind.Tdvpr i = if_stands (w.tds.lives t) (in_lines (vp_lines w p) i)
page_cell w locks t p kind.Ept i = if_stands (w.tds.lives t) (entry_cell w t (w.pages.levels p) (w.pages.numbers p) i)
page_cell w locks t p kind.Migsc i = if_stands (w.tds.lives t) (in_lines (stream_lines w p) i)

-- a word of memory, where locks have these words
abbrev pub cell_in : World → (LockId → ℕ) → WordPlace → Option ℕ
cell_in w locks (place.Lock p) = Some (locks (OfPage p))
cell_in w locks (place.Pamt p) = Some (pamt_word (record { kind = w.pages.kinds p; owner = w.pages.owners p; epoch = w.pages.blocked p }))
cell_in w locks (place.Key k) = key_cell w (locks OfKeys) k
cell_in w locks (place.Word p i) = page_cell w locks (w.pages.owners p) p (w.pages.kinds p) i

abbrev pub cell : State → WordPlace → Option ℕ
cell s q = cell_in s.world (lock_word s.lps s.lp_count) q

-- the hasher at home in the slot of an HKID: of a TD that is being built it holds the bytes measured so far
abbrev pub is_built : OpState → Bool
is_built op.Initialized = true
is_built _ = false

abbrev pub built_hasher : World → Option ℕ → Option (Option (List ℕ))
built_hasher w None = None
built_hasher w (Some t) = if_stands (w.tds.lives t) (if is_built (w.tds.ops t) then Some (Some (w.tds.measured t)) else None)

abbrev pub hasher_cell : World → ℕ → Option (Option (List ℕ))
hasher_cell w h = built_hasher w (key_owner (w.key_table.keys h))

abbrev pub IsAs : {A : Type 0} → Option A → A → Type 0
IsAs None x = Unit {0}
IsAs (Some v) x = x ≡ v

-- the words of a machine, by their places, and the hashers in its slots, by HKID, show a state: the words with what
-- processors have still to store laid over them, and what they have filled before their acts taken off
pub record Shows (m : Machine) (words : WordPlace → ℕ) (slots : ℕ → Option (List ℕ)) (s : State) : Type 0 where
  pub word : (q : WordPlace) → IsIn m q → IsAs (cell s q) (words q)
  pub hasher : (h : ℕ) → IsAs (hasher_cell s.world h) (slots h)

-- words that are all 0, with no hasher in any slot, show the start of every run
abbrev pub StartIsShown : Type 0
StartIsShown = (o : Opening) (words_to_tell : Option (List ℕ)) → Shows o.machine (λ q. 0) (λ h. None) (start o words_to_tell)
