-- Calls that build a TD (ABI Reference, "TDH.MNG.CREATE" and the other leaves that are named).
use Rattle.std.specs.Prelude.{ℕ, List, [], ◌∷◌, ◌++◌}
use Rattle.td_words.specs.declared.names.PageKind.TheVariants as kind
use Rattle.td_words.specs.declared.names.LifeState.TheVariants as life
use Rattle.td_words.specs.declared.names.OpState.TheVariants as op
use Rattle.td_words.specs.declared.names.ReadField.{ReadField}
use Rattle.td_words.specs.declared.names.ReadField.TheVariants as field
use Rattle.td_words.specs.declared.refusals.Status.TheVariants.{HkidNotFree}
use Rattle.td_words.specs.declared.replies.Value.{Value}
use Rattle.td_words.specs.declared.replies.Value.TheVariants as value
use Rattle.td_words.specs.declared.replies.Reply.{Reply}
use Rattle.td_words.specs.declared.machines.Machine.{Machine}
use Rattle.td_words.specs.Packing.{AssignedTo}
use Rattle.flat_core.specs.World.{World}
use Rattle.flat_core.specs.Row.{Item, Row, call_row, needs}
use Rattle.flat_core.specs.Arguments.{page_argument, hkid_argument, apart_argument}
use Rattle.flat_core.specs.Digests.{digest_bytes, six_words}
use Rattle.flat_core.specs.Conditions.{is_key_free, page_shared, page_exclusive, epoch_shared, keys_exclusive, root, host_page, tdcx_room, vps_ready, later_ops, begun_ops, all_ops, tdr_exclusive, td_shared, td_exclusive}
use Rattle.flat_core.specs.Effects.{take_page, clear_page, new_td, set_key, set_life, set_op, set_epoch, add_control, begin_measurement, end_measurement}

-- MNG.CREATE TDR HKID: the page is cleared and becomes the TDR of a TD, to which the HKID is assigned
abbrev pub create : Machine → ℕ → ℕ → Row
create m tdr hkid = call_row
    (λ w. page_argument m 1 tdr ∷ hkid_argument m 2 hkid ∷ page_exclusive tdr ∷ host_page w tdr ∷ keys_exclusive ∷ needs (is_key_free w hkid) HkidNotFree ∷ [])
    (λ w. set_key hkid (AssignedTo tdr) (new_td tdr hkid (clear_page tdr (take_page tdr kind.Tdr tdr w))))
    (λ w. value.Nothing)

-- MNG.KEY.CONFIG TDR (ABI Reference, "TDH.MNG.KEY.CONFIG")
abbrev pub configure_key : Machine → ℕ → Row
configure_key m tdr = call_row
    (λ w. page_argument m 1 tdr ∷ tdr_exclusive w tdr (life.HkidAssigned ∷ []))
    (set_life tdr life.KeysConfigured)
    (λ w. value.Nothing)

-- MNG.ADDCX TDR PAGE: the page is cleared and becomes a TDCX page (ABI Reference, "TDH.MNG.ADDCX")
abbrev pub add_tdcx : Machine → ℕ → ℕ → Row
add_tdcx m tdr page = call_row
    (λ w. page_argument m 1 tdr ∷ page_argument m 2 page ∷ apart_argument 2 page tdr
    ∷ (tdr_exclusive w tdr (life.KeysConfigured ∷ []) ++ tdcx_room w tdr ∷ page_exclusive page ∷ host_page w page ∷ []))
    (λ w. add_control tdr page (clear_page page (take_page page kind.Tdcx tdr w)))
    (λ w. value.Nothing)

-- MNG.INIT TDR: TD_EPOCH and the measurement begin (ABI Reference, "TDH.MNG.INIT")
abbrev pub initialize : Machine → ℕ → Row
initialize m tdr = call_row
    (λ w. page_argument m 1 tdr ∷ td_exclusive w tdr (op.Uninitialized ∷ []))
    (λ w. begin_measurement tdr (set_epoch tdr 1 (set_op tdr op.Initialized w)))
    (λ w. value.Nothing)

-- MNG.RD TDR FIELD (ABI Reference, "TDH.MNG.RD")
abbrev pub read_conditions : World → ℕ → ReadField → List (Item Reply)
read_conditions w tdr field.Life = page_shared tdr ∷ root w tdr ∷ []
read_conditions w tdr field.Op = td_shared w tdr all_ops
read_conditions w tdr field.Epoch = td_shared w tdr begun_ops ++ epoch_shared tdr ∷ []
read_conditions w tdr field.Mrtd = td_shared w tdr later_ops

abbrev pub field_value : World → ℕ → ReadField → Value
field_value w tdr field.Life = value.Life (w.tds.lives tdr)
field_value w tdr field.Op = value.Op (w.tds.ops tdr)
field_value w tdr field.Epoch = value.Number (w.tds.epochs tdr)
field_value w tdr field.Mrtd = value.Digest (digest_bytes (six_words (w.tds.mrtds tdr)))

abbrev pub read_td : Machine → ℕ → ReadField → Row
read_td m tdr f = call_row
    (λ w. page_argument m 1 tdr ∷ read_conditions w tdr f)
    (λ w. w)
    (λ w. field_value w tdr f)

-- MR.FINALIZE TDR: MRTD is the digest of what was measured (ABI Reference, "TDH.MR.FINALIZE")
abbrev pub finalize : Machine → ℕ → Row
finalize m tdr = call_row
    (λ w. page_argument m 1 tdr ∷ (td_exclusive w tdr (op.Initialized ∷ []) ++ vps_ready w tdr ∷ []))
    (λ w. set_op tdr op.Runnable (end_measurement tdr w))
    (λ w. value.Nothing)
