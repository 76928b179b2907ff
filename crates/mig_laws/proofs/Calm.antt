-- What stays of what was paused, where an act makes no bundle and pauses nothing.
use Rattle.std.proofs.Common.{◌≡◌, refl, subst, ℕ, None, Bool, true, false}
use Rattle.td_words.specs.declared.names.OpState.{OpState}
use Rattle.td_words.specs.declared.calls.Call.{Call}
use Rattle.td_words.specs.Slots.{output_slot}
use Rattle.flat_core.specs.World.{World}
use Rattle.flat_core.specs.Opening.{Opening}
use Rattle.flat_core.specs.Row.{Passes}
use Rattle.flat_core.specs.Effects.{set_op}
use Rattle.flat_core.specs.Table.{row_of}
use Rattle.flat_core.specs.Lawful.{Lawful, is_exporting}
use Rattle.mig_laws.specs.Ivs.{IsExporting}
use Rattle.mig_laws.specs.Paused.{is_paused}
use Rattle.mig_laws.proofs.Changes.{pauses_none, OpStays, same_op, pauses, Goes, each_goes}
use Rattle.mig_laws.proofs.CallChanges.{over_goes, call-changes, call-keeps}

-- of a TD whose export stands afterwards
pub record IsCalm (w v : World) : Type 0 where
  pub noted : v.hidden.paused ≡ w.hidden.paused
  pub op : (x : ℕ) → IsExporting v x → v.tds.ops x ≡ w.tds.ops x
  pub memory : (x : ℕ) → IsExporting v x → is_paused (w.tds.ops x) ≡ true → (n : ℕ) → v.hidden.memories x n ≡ w.hidden.memories x n

-- where each export that stands goes on
calm_where : (w v : World) → v.hidden.paused ≡ w.hidden.paused → ((x : ℕ) → IsExporting v x → Goes true w v x) → IsCalm w v
calm_where w v noted goes = record { noted = noted; op = λ x a. same (goes x a).op; memory = λ x a p n. (goes x a).memories n }
  where
    same : {s s' : OpState} → OpStays true s s' → s' ≡ s
    same (same_op e) = e
    same (pauses k e f) = cc

-- and where an op state comes that is none of an export
pub calm_over : (t : ℕ) (s : OpState) (w : World) → is_exporting s ≡ false → IsCalm w (set_op t s w)
calm_over t s w off = calm_where w (set_op t s w) refl (over_goes w t s off)

pub row-calm : (o : Opening) (me : ℕ) (w : World) → Lawful o.machine w → (c : Call) → Passes ((row_of o me c).items w) → output_slot c ≡ None → pauses_none c ≡ true → IsCalm w ((row_of o me c).act w)
row-calm o me w l c ps none calm =
    let v : World = (row_of o me c).act w in
    calm_where w v ((call-keeps o me w l c).paused calm) (λ x a. subst (λ (b : Bool). Goes b w v x) calm (each_goes (call-changes o me w l c ps) none x a))
