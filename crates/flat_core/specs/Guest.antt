-- Guest operations. One that has locks of its own, or none, goes by a row; a private access goes by a cached translation,
-- or walks the secure EPT from its root until there is one (Base Architecture, "Secure EPT Walk").
use Rattle.std.specs.Prelude.{ℕ, zero, suc, ◌+◌, ◌-◌, ◌*◌, ◌%◌, ◌^◌, List, [], ◌∷◌, ◌++◌, Option, Some, None, Bool, true, false, not, ◌==◌, ◌&&◌, ◌||◌, nat_lt, if◌then◌else◌}
use Rattle.std.specs.List.{list_all}
use Rattle.sha2.specs.Sha512.{sha384}
use Rattle.td_words.specs.declared.names.Mode.TheVariants.{Shared, Exclusive}
use Rattle.td_words.specs.declared.machines.Machine.{Machine}
use Rattle.td_words.specs.declared.names.EntryState.TheVariants as entry
use Rattle.td_words.specs.declared.names.Access.{Access}
use Rattle.td_words.specs.declared.names.Access.TheVariants.{Read, Write}
use Rattle.td_words.specs.declared.calls.GuestOp.{GuestOp}
use Rattle.td_words.specs.declared.calls.GuestOp.TheVariants as op
use Rattle.td_words.specs.declared.replies.Outcome.{Outcome}
use Rattle.td_words.specs.declared.replies.Outcome.TheVariants.{EptViolation, Vmcall}
use Rattle.td_words.specs.Packing.{Entry}
use Rattle.flat_core.specs.World.{World}
use Rattle.flat_core.specs.Processor.{OfPage, OfTree, OfRtmr, Answered, Translation, Walk, Guest, Note, LoadNote, RtmrNote, ReportNote}
use Rattle.flat_core.specs.Opening.{Opening}
use Rattle.flat_core.specs.Row.{Item, Check, Try, OperationRow}
use Rattle.flat_core.specs.Conditions.{is_host}
use Rattle.flat_core.specs.Tree.{page_of_gpa, word_of_gpa, number_at, entry_at, same_state, may_read, may_write, allows, levels_above, is_passed}
use Rattle.flat_core.specs.Digests.{digest_word, digest_bytes, six_words}
use Rattle.flat_core.specs.Reports.{facts_of}
use Rattle.flat_core.specs.Effects.{set_word, clear_page, set_entry, begin_memory, set_register, set_rtmr, store_memory, pass_operation, word_told}
use Rattle.flat_core.specs.Translations.{cache}

-- how an operation is done
pub data Operation : Type 0 where
  ByRow : (row : OperationRow) → Operation
  Private : (access : Access) (register gpa : ℕ) → Operation

-- where an access isn't allowed the guest is left with an EPT violation
abbrev pub unless_violated : Access → ℕ → Bool → Item (Option Outcome)
unless_violated access gpa holds = Check holds (Some (EptViolation gpa access))

-- an operation that asks for nothing, and is completed by its act
abbrev pub plain_operation : (World → World) → OperationRow
plain_operation change = record { items = λ w. []; act = change; answer = λ w. None; notes = λ w. []; tells = λ w. [] }

-- set R V
abbrev pub set_value : (vp register value : ℕ) → OperationRow
set_value v r x = plain_operation (λ w. pass_operation v (set_register v r x w))

-- secret R K
abbrev pub take_secret : Opening → (vp register number : ℕ) → OperationRow
take_secret o v r k = set_value v r (o.secrets k)

-- add R S, modulo 2^64
abbrev pub add_registers : (vp register other : ℕ) → OperationRow
add_registers v r s = plain_operation (λ w. pass_operation v (set_register v r ((w.hidden.registers v r + w.hidden.registers v s) % 2 ^ 64) w))

-- A GPA from 2^47 on is shared: it is the host's page of the same number. A word of it is read or written under the page's
-- lock; the virtual processor's own TDVPR page, and a page that isn't the machine's or the host's, is an EPT violation.
abbrev pub shared_page : ℕ → ℕ
shared_page gpa = page_of_gpa (gpa - 2 ^ 47)

abbrev pub shared_items : Machine → (vp : ℕ) → Access → (gpa : ℕ) → World → List (Item (Option Outcome))
shared_items m v access gpa w =
    unless_violated access gpa (nat_lt (shared_page gpa) m.pages && not (shared_page gpa == v)) ∷ Try (OfPage (shared_page gpa)) Shared
    ∷ unless_violated access gpa (is_host w (shared_page gpa)) ∷ []

abbrev pub shared_load : Machine → (vp line register gpa : ℕ) → OperationRow
shared_load m v line r gpa = record {
  items = shared_items m v Read gpa;
  act = λ w. pass_operation v (set_register v r (w.words (shared_page gpa) (word_of_gpa gpa)) w);
  answer = λ w. None;
  notes = λ w. LoadNote line gpa (w.words (shared_page gpa) (word_of_gpa gpa)) ∷ [];
  tells = λ w. [];
}

-- the word of a register as it is told to the host
abbrev pub register_told : World → (vp register : ℕ) → ℕ
register_told w v r = word_told w.outgoing.to_tell (w.hidden.registers v r)

abbrev pub shared_store : Machine → (vp register gpa : ℕ) → OperationRow
shared_store m v r gpa = record {
  items = shared_items m v Write gpa;
  act = λ w. pass_operation v (set_word (shared_page gpa) (word_of_gpa gpa) (register_told w v r) w);
  answer = λ w. None;
  notes = λ w. [];
  tells = λ w. register_told w v r ∷ [];
}

-- accept GPA: a page that the host added while the TD runs holds zeros, and becomes usable (ABI Reference,
-- "TDG.MEM.PAGE.ACCEPT"). A page that may be read already stays as it is; any other entry is an EPT violation.
abbrev pub names_page : World → (tdr gpa : ℕ) → Bool
names_page w t gpa = list_all (λ l. is_passed w t gpa l) (levels_above 0) && not (same_state (entry_at w t 0 gpa).state entry.Free)

abbrev pub is_pending_at : World → (tdr gpa : ℕ) → Bool
is_pending_at w t gpa = same_state (entry_at w t 0 gpa).state entry.Pending

abbrev pub accept_items : (tdr gpa : ℕ) → World → List (Item (Option Outcome))
accept_items t gpa w =
    Try (OfTree t) Shared ∷ unless_violated Write gpa (names_page w t gpa) ∷ Try (OfPage (entry_at w t 0 gpa).page) Exclusive
    ∷ unless_violated Write gpa (is_pending_at w t gpa || may_read (entry_at w t 0 gpa).state) ∷ []

abbrev pub accept_page : (pending : Bool) → (tdr gpa : ℕ) → World → World
accept_page true t gpa w =
    let p = (entry_at w t 0 gpa).page in
    begin_memory t (page_of_gpa gpa) (λ i. 0) (clear_page p (set_entry t 0 (number_at 0 gpa) (record { state = entry.Mapped; page = p; mark = 0 }) w))
accept_page false t gpa w = w

abbrev pub accept : (tdr vp gpa : ℕ) → OperationRow
accept t v gpa = record {
  items = accept_items t gpa;
  act = λ w. pass_operation v (accept_page (is_pending_at w t gpa) t gpa w);
  answer = λ w. None;
  notes = λ w. [];
  tells = λ w. [];
}

-- rtmr I: an RTMR's new value is the SHA-384 of its old one followed by registers 0 to 5 (ABI Reference,
-- "TDG.MR.RTMR.EXTEND")
abbrev pub extended_rtmr : World → (tdr vp index : ℕ) → ℕ → ℕ
extended_rtmr w t v i = digest_word (sha384 (digest_bytes (six_words (λ k. w.hidden.rtmrs t (6 * i + k))) ++ digest_bytes (six_words (w.hidden.registers v))))

abbrev pub extend_rtmr : (tdr vp line index : ℕ) → OperationRow
extend_rtmr t v line i = record {
  items = λ w. Try (OfRtmr t) Exclusive ∷ [];
  act = λ w. pass_operation v (set_rtmr t i (extended_rtmr w t v i) w);
  answer = λ w. None;
  notes = λ w. RtmrNote line i (six_words (extended_rtmr w t v i)) ∷ [];
  tells = λ w. [];
}

-- report: MRTD, the RTMRs and the registers are noted, and nothing changes (ABI Reference, "TDG.MR.REPORT")
abbrev pub report_facts : (tdr vp line : ℕ) → OperationRow
report_facts t v line = record {
  items = λ w. Try (OfRtmr t) Shared ∷ [];
  act = λ w. pass_operation v w;
  answer = λ w. None;
  notes = λ w. ReportNote line (facts_of w t v) ∷ [];
  tells = λ w. [];
}

-- vmcall R: the host is told a register, and the guest is left (ABI Reference, "TDG.VP.VMCALL")
abbrev pub call_host : (vp register : ℕ) → OperationRow
call_host v r = record {
  items = λ w. [];
  act = λ w. pass_operation v w;
  answer = λ w. Some (Vmcall (register_told w v r));
  notes = λ w. [];
  tells = λ w. register_told w v r ∷ [];
}

abbrev pub is_private : ℕ → Bool
is_private gpa = nat_lt gpa (2 ^ 47)

-- the operation of a virtual processor of a TD, at a call line
abbrev pub operation_of : Opening → (tdr vp line : ℕ) → GuestOp → Operation
operation_of o t v line (op.Set r x) = ByRow (set_value v r x)
operation_of o t v line (op.Secret r k) = ByRow (take_secret o v r k)
operation_of o t v line (op.Add r s) = ByRow (add_registers v r s)
operation_of o t v line (op.Load r gpa) = if is_private gpa then Private Read r gpa else ByRow (shared_load o.machine v line r gpa)
operation_of o t v line (op.Store r gpa) = if is_private gpa then Private Write r gpa else ByRow (shared_store o.machine v r gpa)
operation_of o t v line (op.Accept gpa) = ByRow (accept t v gpa)
operation_of o t v line (op.Rtmr i) = ByRow (extend_rtmr t v line i)
operation_of o t v line op.Report = ByRow (report_facts t v line)
operation_of o t v line (op.Vmcall r) = ByRow (call_host v r)

abbrev pub word_reached : World → ℕ → ℕ → ℕ
word_reached w page gpa = w.words page (word_of_gpa gpa)

-- A private access reaches the page of its translation: a load puts the word into the register, a store the register
-- into the word.
abbrev pub reach : (tdr vp : ℕ) → Access → (register gpa page : ℕ) → World → World
reach t v Read r gpa page w = pass_operation v (set_register v r (word_reached w page gpa) w)
reach t v Write r gpa page w =
    let x = w.hidden.registers v r in
    pass_operation v (store_memory t (page_of_gpa gpa) (word_of_gpa gpa) x (set_word page (word_of_gpa gpa) x w))

abbrev pub reach_notes : World → Access → (line gpa page : ℕ) → List Note
reach_notes w Read line gpa page = LoadNote line gpa (word_reached w page gpa) ∷ []
reach_notes w Write line gpa page = []

abbrev pub answered : Option Outcome → Guest → Guest
answered out g = record g { operation = record { phase = Answered out; held = g.operation.held } }

abbrev pub violation : Access → ℕ → Guest → Guest
violation access gpa g = answered (Some (EptViolation gpa access)) g

-- A walk begins at the root, whose entries are of level 3. The entry that it loads next is the TD's map's.
abbrev pub walk_level : Option Walk → ℕ
walk_level None = 3
walk_level (Some k) = k.level

abbrev pub walked_entry : World → Guest → ℕ → Entry
walked_entry w g gpa = entry_at w g.tdr (walk_level g.walk) gpa

-- A walk goes on behind an upper entry that is NL_MAPPED, and ends well at an entry of level 0 that allows the access.
abbrev pub goes_on : Access → ℕ → Entry → Bool
goes_on access zero e = allows e.state access
goes_on access (suc level) e = same_state e.state entry.NlMapped

-- Any other entry is an EPT violation.
abbrev pub walked_on : Access → ℕ → Bool → ℕ → Entry → Guest → Guest
walked_on access gpa true zero e g = record g { walk = None }
walked_on access gpa true (suc level) e g = record g { walk = Some (record { gpa_page = page_of_gpa gpa; level = level; page = e.page }) }
walked_on access gpa false level e g = violation access gpa g

abbrev pub walk_step : World → Guest → Access → ℕ → Guest
walk_step w g access gpa =
    let e = walked_entry w g gpa in walked_on access gpa (goes_on access (walk_level g.walk) e) (walk_level g.walk) e g

-- An entry of level 0 that allows the access is cached, with the right to write where its state allows writing.
abbrev pub cached_after : Bool → ℕ → Translation → List Translation → List Translation
cached_after true zero c cs = cache c cs
cached_after true (suc level) c cs = cs
cached_after false level c cs = cs

abbrev pub translation_of : Guest → ℕ → Entry → Translation
translation_of g gpa e = record { tdr = g.tdr; gpa_page = page_of_gpa gpa; page = e.page; may_write = may_write e.state }

abbrev pub walk_cached : World → Guest → Access → ℕ → List Translation → List Translation
walk_cached w g access gpa cs =
    let e = walked_entry w g gpa in cached_after (goes_on access (walk_level g.walk) e) (walk_level g.walk) (translation_of g gpa e) cs
