-- Where the words of each control page stand, as lists, so that it can be said that no two stand at one place.
use Rattle.std.specs.Prelude.{ℕ, zero, suc, ◌+◌, List, [], ◌∷◌, ◌++◌, Bool, true, ◌==◌, ◌&&◌, not, nat_lt}
use Rattle.std.specs.List.{list_any}
use Rattle.td_words.specs.declared.places.TheConstants.{TDR_LIFE, TDR_HKID, TDR_CHILDREN, TDR_TDCX_COUNT, TDR_TDCS, TDR_ROOT, TDCS_OP_LOCK, TDCS_TREE_LOCK, TDCS_EPOCH_LOCK, TDCS_RTMR_LOCK, TDCS_OP, TDCS_EPOCH, TDCS_ENTERED, TDCS_DIRTIED, TDCS_UNRESTORED, TDCS_MIG_EPOCH, TDCS_SESSION, TDCS_TD_EXPORTED, TDCS_VPS_EXPORTED, TDCS_VPS_EXPECTED, TDCS_VP_COUNT, TDCS_RTMRS, TDCS_VPS, TDCS_STREAM_COUNT, TDCS_STREAMS, TDCS_MRTD, VP_INDEX, VP_STATE, VP_ASSOCIATED, VP_LAST_EPOCH, VP_POSITION, VP_EXPORTED, VP_REGISTERS, STREAM_COUNTER, STREAM_CLEANED, STREAM_FIRST_EXPORTS, KEY_LOCK, KEY_LAST_EXPORTED, KEY_LAST_IMPORTED, KEY_FIRST}

-- so many words from a place on
abbrev pub run_of : ℕ → ℕ → List ℕ
run_of zero at = []
run_of (suc n) at = at ∷ run_of n (at + 1)

abbrev pub tdr_places : List ℕ
tdr_places = TDR_LIFE ∷ TDR_HKID ∷ TDR_CHILDREN ∷ TDR_TDCX_COUNT ∷ TDR_TDCS ∷ TDR_ROOT ∷ []

abbrev pub tdcs_places : List ℕ
tdcs_places =
    TDCS_OP_LOCK ∷ TDCS_TREE_LOCK ∷ TDCS_EPOCH_LOCK ∷ TDCS_RTMR_LOCK ∷ TDCS_OP ∷ TDCS_EPOCH ∷ TDCS_DIRTIED ∷ TDCS_UNRESTORED ∷ TDCS_MIG_EPOCH
    ∷ TDCS_SESSION ∷ TDCS_TD_EXPORTED ∷ TDCS_VPS_EXPORTED ∷ TDCS_VPS_EXPECTED ∷ TDCS_VP_COUNT ∷ TDCS_STREAM_COUNT
    ∷ (run_of 2 TDCS_ENTERED ++ (run_of 24 TDCS_RTMRS ++ (run_of 8 TDCS_VPS ++ (run_of 4 TDCS_STREAMS ++ run_of 6 TDCS_MRTD))))

abbrev pub vp_places : List ℕ
vp_places = VP_INDEX ∷ VP_STATE ∷ VP_ASSOCIATED ∷ VP_LAST_EPOCH ∷ VP_POSITION ∷ VP_EXPORTED ∷ run_of 8 VP_REGISTERS

abbrev pub stream_places : List ℕ
stream_places = STREAM_COUNTER ∷ STREAM_CLEANED ∷ STREAM_FIRST_EXPORTS ∷ []

abbrev pub key_places : List ℕ
key_places = KEY_LOCK ∷ KEY_LAST_EXPORTED ∷ KEY_LAST_IMPORTED ∷ run_of 15 KEY_FIRST

-- each place is one of a page's, and none comes twice
abbrev pub are_apart : List ℕ → Bool
are_apart [] = true
are_apart (x ∷ xs) = nat_lt x 512 && (not (list_any (λ y. y == x) xs) && are_apart xs)
