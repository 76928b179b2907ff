-- Calls that end a TD's life and give its HKID and pages back (Base Architecture, "TD Life Cycle State Machine").
use Rattle.std.specs.Prelude.{ℕ, List, [], ◌∷◌, ◌++◌, Bool, true, false, ◌==◌}
use Rattle.td_words.specs.declared.names.LifeState.TheVariants as life
use Rattle.td_words.specs.declared.replies.Value.TheVariants as value
use Rattle.td_words.specs.declared.replies.Reply.{Reply}
use Rattle.td_words.specs.declared.machines.Machine.{Machine}
use Rattle.td_words.specs.Packing.{Unassigned, FlushedOf}
use Rattle.flat_core.specs.World.{World}
use Rattle.flat_core.specs.Row.{Item, Row, call_row}
use Rattle.flat_core.specs.Arguments.{page_argument}
use Rattle.flat_core.specs.Conditions.{page_exclusive, keys_exclusive, owned_page, no_children, none_associated, written_back_key, tdr_exclusive}
use Rattle.flat_core.specs.Effects.{give_back, end_memory_in, set_key, set_life, write_back}

-- PHYMEM.CACHE.WB (ABI Reference, "TDH.PHYMEM.CACHE.WB")
abbrev pub write_caches_back : Row
write_caches_back = call_row (λ w. keys_exclusive ∷ []) write_back (λ w. value.Nothing)

-- PHYMEM.PAGE.RECLAIM TDR PAGE: a page of a TD in TD_TEARDOWN, its TDR page last (ABI Reference,
-- "TDH.PHYMEM.PAGE.RECLAIM")
abbrev pub reclaim_conditions : World → (tdr page : ℕ) → Bool → List (Item Reply)
reclaim_conditions w tdr page true = no_children w tdr ∷ []
reclaim_conditions w tdr page false = page_exclusive page ∷ owned_page w tdr page ∷ []

abbrev pub reclaim_page : Machine → ℕ → ℕ → Row
reclaim_page m tdr page = call_row
    (λ w. page_argument m 1 tdr ∷ page_argument m 2 page ∷ (tdr_exclusive w tdr (life.Teardown ∷ []) ++ reclaim_conditions w tdr page (page == tdr)))
    (λ w. give_back page (end_memory_in tdr page w))
    (λ w. value.Nothing)

-- MNG.VPFLUSHDONE TDR (ABI Reference, "TDH.MNG.VPFLUSHDONE")
abbrev pub end_flush : Machine → ℕ → Row
end_flush m tdr = call_row
    (λ w. page_argument m 1 tdr ∷ (tdr_exclusive w tdr (life.HkidAssigned ∷ life.KeysConfigured ∷ []) ++ none_associated w tdr ∷ keys_exclusive ∷ []))
    (λ w. set_key (w.tds.hkids tdr) (FlushedOf tdr false) (set_life tdr life.Blocked w))
    (λ w. value.Nothing)

-- MNG.KEY.FREEID TDR (ABI Reference, "TDH.MNG.KEY.FREEID")
abbrev pub free_hkid : Machine → ℕ → Row
free_hkid m tdr = call_row
    (λ w. page_argument m 1 tdr ∷ (tdr_exclusive w tdr (life.Blocked ∷ []) ++ keys_exclusive ∷ written_back_key w tdr ∷ []))
    (λ w. set_key (w.tds.hkids tdr) Unassigned (set_life tdr life.Teardown w))
    (λ w. value.Nothing)
