-- RTMRs, in a reader's terms (Base Architecture, "TD Measurement").
use Rattle.std.specs.Prelude.{◌≡◌, ℕ, ◌+◌, ◌*◌, List, ◌∷◌, ◌++◌, replicate, Option, Some, ◌==◌, ◌&&◌, if◌then◌else◌}
use Rattle.sha2.specs.Sha512.{sha384}
use Rattle.td_words.specs.declared.calls.Call.{Call}
use Rattle.td_words.specs.declared.calls.Call.TheVariants as call
use Rattle.td_words.specs.declared.calls.GuestOp.{GuestOp}
use Rattle.td_words.specs.declared.calls.GuestOp.TheVariants as op
use Rattle.flat_core.specs.World.{World}
use Rattle.flat_core.specs.Processor.{Guest}
use Rattle.flat_core.specs.Opening.{Opening, Incoming}
use Rattle.flat_core.specs.Inputs.{input_in}
use Rattle.flat_core.specs.Row.{Succeeds}
use Rattle.flat_core.specs.Digests.{digest_bytes, six_words}
use Rattle.flat_core.specs.Reports.{rtmr_bytes}
use Rattle.flat_core.specs.Event.{State, Event, OfCall, OfOperation, lines_left, next_event, event, operation_due}

-- what a guest extends it with: registers 0 to 5 of its virtual processor
abbrev pub extension_bytes : World → (vp : ℕ) → List ℕ
extension_bytes w v = digest_bytes (six_words (w.hidden.registers v))

-- RTMR i of a bundle with the TD state
abbrev pub rtmr_given : Option Incoming → (index : ℕ) → List ℕ
rtmr_given b i = digest_bytes (six_words (λ k. (input_in b).words (6 * i + k)))

-- an RTMR after a call has succeeded: MNG.CREATE begins all four with zeros, and IMPORT.STATE.TD gives those of its bundle
abbrev pub rtmr_after_call : Opening → Call → World → (tdr index : ℕ) → List ℕ
rtmr_after_call o (call.MngCreate tdr hkid) w t i = if t == tdr then replicate 48 0 else rtmr_bytes w t i
rtmr_after_call o (call.ImportStateTd tdr slot) w t i = if t == tdr then rtmr_given (o.bundles slot) i else rtmr_bytes w t i
rtmr_after_call o _ w t i = rtmr_bytes w t i

-- and after a guest's operation has: `rtmr I` makes RTMR I the SHA-384 of what it was and of the guest's registers
abbrev pub rtmr_after_operation : Option GuestOp → Guest → World → (tdr index : ℕ) → List ℕ
rtmr_after_operation (Some (op.Rtmr n)) g w t i = if t == g.tdr && i == n then sha384 (rtmr_bytes w t i ++ extension_bytes w g.vp) else rtmr_bytes w t i
rtmr_after_operation _ g w t i = rtmr_bytes w t i

-- after an event of a processor with these lines left and this guest: any other event leaves RTMRs as they are
abbrev pub rtmr_after_event : Opening → List Call → Option Guest → Option Event → World → (tdr index : ℕ) → List ℕ
rtmr_after_event o (c ∷ cs) guest (Some (OfCall row Succeeds)) w = rtmr_after_call o c w
rtmr_after_event o cs (Some g) (Some (OfOperation row Succeeds)) w = rtmr_after_operation (operation_due o w g) g w
rtmr_after_event _ _ _ _ w = rtmr_bytes w

abbrev pub EventsExtend : Type 0
EventsExtend = (o : Opening) (s : State) (p t i : ℕ)
    → rtmr_bytes (event o s p).world t i ≡ rtmr_after_event o (lines_left o p (s.lps p)) (s.lps p).guest (next_event o s p) s.world t i
