-- Life states: in which of them each call comes, and to which it leads (Base Architecture, "TD Life Cycle State Machine").
use Rattle.std.specs.Prelude.{ℕ, List, [], ◌∷◌, Option, Some, None}
use Rattle.td_words.specs.declared.names.LifeState.{LifeState}
use Rattle.td_words.specs.declared.names.LifeState.TheVariants as life
use Rattle.td_words.specs.declared.names.OpState.{OpState}
use Rattle.td_words.specs.NameNumber.{life_number}
use Rattle.td_words.specs.declared.calls.Call.{Call}
use Rattle.td_words.specs.declared.calls.Call.TheVariants as call
use Rattle.flat_core.specs.World.{Tds}
use Rattle.flat_core.specs.Opening.{Opening}
use Rattle.td_laws.specs.Steps.{Step, comes, leads, CallsCome, EventsLead, EventsMove}
use Rattle.td_laws.specs.Ops.{op_step}

abbrev pub each : List LifeState
each = life.HkidAssigned ∷ life.KeysConfigured ∷ life.Blocked ∷ life.Teardown ∷ []

-- a call that asks for an operation state comes while the TD has its keys
abbrev pub with_keys : Option (Step OpState) → Option (Step LifeState)
with_keys None = None
with_keys (Some step) = comes step.tdr (life.KeysConfigured ∷ [])

-- The calls. MNG.CREATE begins a TD, whatever there was at its page before.
abbrev pub life_step : Opening → Call → Option (Step LifeState)
life_step o (call.MngCreate tdr hkid) = leads tdr each life.HkidAssigned
life_step o (call.MngKeyConfig tdr) = leads tdr (life.HkidAssigned ∷ []) life.KeysConfigured
life_step o (call.MngAddcx tdr page) = comes tdr (life.KeysConfigured ∷ [])
life_step o (call.VpFlush tdr vp) = comes tdr (life.KeysConfigured ∷ [])
life_step o (call.MngVpflushdone tdr) = leads tdr (life.HkidAssigned ∷ life.KeysConfigured ∷ []) life.Blocked
life_step o (call.MngKeyFreeid tdr) = leads tdr (life.Blocked ∷ []) life.Teardown
life_step o (call.PhymemPageReclaim tdr page) = comes tdr (life.Teardown ∷ [])
life_step o c = with_keys (op_step o c)

abbrev pub lives_of : Tds → ℕ → LifeState
lives_of tds = tds.lives

-- the states to which a TD goes on from each
abbrev pub next_lives : LifeState → List LifeState
next_lives life.HkidAssigned = life.KeysConfigured ∷ life.Blocked ∷ []
next_lives life.KeysConfigured = life.Blocked ∷ []
next_lives life.Blocked = life.Teardown ∷ []
next_lives life.Teardown = []

abbrev pub CallsComeInTheirLives : Type 0
CallsComeInTheirLives = CallsCome life_number lives_of life_step

abbrev pub EventsLeadLives : Type 0
EventsLeadLives = EventsLead lives_of life_step

abbrev pub EventsMoveLives : Type 0
EventsMoveLives = EventsMove life_number lives_of next_lives
