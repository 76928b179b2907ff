-- HKIDs: which event gives one to a TD, flushes it, marks it as written back and frees it (Base Architecture, "Private HKID
-- Management").
use Rattle.std.specs.Prelude.{◌≡◌, ℕ, Bool, true, false, ◌==◌}
use Rattle.td_words.specs.declared.calls.Call.{Call}
use Rattle.td_words.specs.declared.calls.Call.TheVariants as call
use Rattle.td_words.specs.Packing.{Key, Unassigned, AssignedTo, FlushedOf}
use Rattle.flat_core.specs.World.{World, put}
use Rattle.flat_core.specs.Opening.{Opening}
use Rattle.flat_core.specs.Lawful.{Lawful}
use Rattle.flat_core.specs.Event.{State, lines_left, next_event, event}
use Rattle.td_laws.specs.Steps.{by_acts}

-- a write-back marks an HKID that was flushed
abbrev pub marked : Key → Key
marked (FlushedOf t b) = FlushedOf t true
marked k = k

-- what HKIDs are once a call has succeeded
abbrev pub keys_after : Call → World → (hkid : ℕ) → Key
keys_after (call.MngCreate tdr hkid) w = put w.key_table.keys hkid (AssignedTo tdr)
keys_after (call.MngVpflushdone tdr) w = put w.key_table.keys (w.tds.hkids tdr) (FlushedOf tdr false)
keys_after call.PhymemCacheWb w = λ h. marked (w.key_table.keys h)
keys_after (call.MngKeyFreeid tdr) w = put w.key_table.keys (w.tds.hkids tdr) Unassigned
keys_after _ w = w.key_table.keys

abbrev pub EventsChangeKeys : Type 0
EventsChangeKeys = (o : Opening) (s : State) (p h : ℕ)
    → (event o s p).world.key_table.keys h ≡ by_acts (λ c w. keys_after c w h) (λ w. w.key_table.keys h) (lines_left o p (s.lps p)) (next_event o s p) s.world

-- An HKID stays as it is, or it goes round: a free one is assigned to a TD, that one is flushed, marked as written back, and free
-- again.
abbrev pub goes_round : (before after : Key) → Bool
goes_round Unassigned Unassigned = true
goes_round Unassigned (AssignedTo t) = true
goes_round (AssignedTo t) (AssignedTo u) = t == u
goes_round (AssignedTo t) (FlushedOf u false) = t == u
goes_round (FlushedOf t false) (FlushedOf u b) = t == u
goes_round (FlushedOf t true) (FlushedOf u true) = t == u
goes_round (FlushedOf t true) Unassigned = true
goes_round _ _ = false

-- So it is in every lawful world: no HKID is given to another TD before it was flushed and written back.
abbrev pub HkidsGoRound : Type 0
HkidsGoRound = (o : Opening) (s : State) (p h : ℕ) → Lawful o.machine s.world → goes_round (s.world.key_table.keys h) ((event o s p).world.key_table.keys h) ≡ true
