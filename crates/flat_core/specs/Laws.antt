-- Laws of the flat machine, for every opening and every schedule.
use Rattle.std.specs.Prelude.{◌≡◌, ◌≢◌, ℕ, suc, ◌+◌, ◌*◌, ◌%◌, ◌^◌, List, [], ◌∷◌, ◌++◌, length, Option, Some, None, IfSome, Bool, true, false, ◌==◌, if◌then◌else◌}
use Rattle.std.specs.List.{list_any, sum_by}
use Rattle.sha2.specs.Sha512.{sha384}
use Rattle.mrtd_measure.specs.Records.{page_record, chunk_records}
use Rattle.td_words.specs.declared.machines.Machine.{Machine}
use Rattle.td_words.specs.declared.names.ReadField.TheVariants.{Mrtd}
use Rattle.td_words.specs.declared.names.EntryState.{EntryState}
use Rattle.td_words.specs.declared.names.EntryState.TheVariants as entry
use Rattle.td_words.specs.declared.replies.Value.TheVariants.{Digest}
use Rattle.td_words.specs.declared.refusals.Status.{Status}
use Rattle.td_words.specs.declared.refusals.Status.TheVariants.{OperandInvalid}
use Rattle.td_words.specs.declared.replies.Value.{Value}
use Rattle.td_words.specs.declared.replies.Outcome.{Outcome}
use Rattle.td_words.specs.declared.replies.Reply.{Reply}
use Rattle.td_words.specs.declared.replies.Reply.TheVariants.{Done, Refused}
use Rattle.td_words.specs.declared.calls.Call.{Call}
use Rattle.td_words.specs.declared.calls.Call.TheVariants as call
use Rattle.td_words.specs.NameNumber.{op_number}
use Rattle.td_words.specs.Packing.{Entry, is_exported}
use Rattle.flat_core.specs.World.{World, Pages, Tds, put}
use Rattle.flat_core.specs.Processor.{Guest, Lp, nothing_yet}
use Rattle.flat_core.specs.Locks.{one_if}
pub use Rattle.flat_core.specs.Locks.{IsSole}
use Rattle.flat_core.specs.Opening.{Opening, Incoming, Agree}
use Rattle.flat_core.specs.Digests.{digest_bytes, six_words}
use Rattle.flat_core.specs.Row.{Passes, Succeeds, Row, OperationRow, Move, tries_in}
use Rattle.flat_core.specs.Conditions.{is_host_in, running_ops, later_ops}
use Rattle.flat_core.specs.Tree.{entry_at}
use Rattle.flat_core.specs.TdRows.{read_td, finalize}
use Rattle.flat_core.specs.MemRows.{chunk_bytes}
use Rattle.flat_core.specs.Table.{row_of}
use Rattle.flat_core.specs.Event.{State, Event, OfCall, OfOperation, Reaches, Leaves, start, lines_left, next_event, event, world_after, operation_told, lp_after}
use Rattle.flat_core.specs.Run.{play}
use Rattle.flat_core.specs.Exports.{is_dirty}
use Rattle.flat_core.specs.Lawful.{IsAlive, Lawful, RowKeeps, is_free, is_named_kind, all_differ}
use Rattle.flat_core.specs.Inside.{AreTimely}
pub use Rattle.flat_core.specs.Inside.{IsExclusive}
use Rattle.flat_core.specs.Alike.{AreBlind}

-- beside each row, its two facts
abbrev pub RowsKeep : Type 0
RowsKeep = (o : Opening) (me : ℕ) (c : Call) → RowKeeps o.machine (row_of o me c)

abbrev pub RowsAreBlind : Type 0
RowsAreBlind = (o q : Opening) → Agree o q → (me : ℕ) (c : Call) → AreBlind o.machine (row_of o me c) (row_of q me c)

-- once MR.FINALIZE has come, MNG.RD gives MRTD as the SHA-384 of the bytes that were measured
abbrev pub MrtdIsTheDigest : Type 0
MrtdIsTheDigest = (m : Machine) (w : World) (tdr : ℕ) → (read_td m tdr Mrtd).value ((finalize m tdr).act w) ≡ Digest (sha384 (w.tds.measured tdr))

-- what a TD has measured once a call has succeeded: MNG.INIT begins with nothing, adding a page adds its record, and
-- extending adds the chunk's records. Nothing is left of a TD that had the TDR page before.
abbrev pub measured_after : Call → World → ℕ → List ℕ
measured_after (call.MngCreate tdr hkid) w = put w.tds.measured tdr []
measured_after (call.MngInit tdr) w = put w.tds.measured tdr []
measured_after (call.MemPageAdd tdr gpa page source) w = put w.tds.measured tdr (w.tds.measured tdr ++ page_record gpa)
measured_after (call.MrExtend tdr gpa) w = put w.tds.measured tdr (w.tds.measured tdr ++ chunk_records gpa (chunk_bytes (w.words (entry_at w tdr 0 gpa).page) gpa))
measured_after _ w = w.tds.measured

abbrev pub RecordsAreMeasured : Type 0
RecordsAreMeasured = (o : Opening) (me : ℕ) (c : Call) (w : World) (t : ℕ) → ((row_of o me c).act w).tds.measured t ≡ measured_after c w t

-- a state that a schedule leads to
abbrev pub reached : Opening → Option (List ℕ) → List ℕ → State
reached o words_to_tell schedule = play o schedule (start o words_to_tell)

-- the opening, where these bundles have come in
abbrev pub with_bundles : Opening → (ℕ → Option Incoming) → Opening
with_bundles o bundles = record o { bundles = bundles }

-- Every run starts with it, and one event keeps it, whatever bundles have come in by then.
pub record IsKept (holds : Opening → State → Type 0) : Type 0 where
  pub start : (o : Opening) (words_to_tell : Option (List ℕ)) → holds o (start o words_to_tell)
  pub event : (o : Opening) (bundles : ℕ → Option Incoming) (s : State) (p : ℕ) → holds o s → holds o (event (with_bundles o bundles) s p)

-- What goes by the bundles that have come in is kept by the events of one opening.
pub record IsKeptInRuns (holds : Opening → State → Type 0) : Type 0 where
  pub start : (o : Opening) (words_to_tell : Option (List ℕ)) → holds o (start o words_to_tell)
  pub event : (o : Opening) (s : State) (p : ℕ) → holds o s → holds o (event o s p)

-- so every schedule keeps it
abbrev pub HoldsInRuns : (Opening → State → Type 0) → Type 0
HoldsInRuns holds = (o : Opening) (words_to_tell : Option (List ℕ)) (schedule : List ℕ) → holds o (reached o words_to_tell schedule)

-- the world is lawful; and, where processors stand as they do in runs, what is said of it besides holds
abbrev pub IsLawful : Opening → State → Type 0
IsLawful o s = Lawful o.machine s.world

abbrev pub IsLawfulWith : (World → Type 0) → Opening → State → Type 0
IsLawfulWith besides o s = AreTimely o s × besides s.world

abbrev pub EveryWorldIsLawful : Type 0
EveryWorldIsLawful = HoldsInRuns IsLawful

-- Ownership in a reader's terms: an entry of a TD that is alive, where it isn't FREE, names a page that the TD owns, and so
-- none of the host's; no other entry of such a TD names that page; and each secure EPT page and private page of such a TD is
-- named by an entry of it that isn't FREE.
pub record IsOwned (pages : Pages) (tds : Tds) : Type 0 where
  pub own : (t l n : ℕ) → IsAlive pages tds t → is_free (tds.entries t l n).state ≡ false
      → let p = (tds.entries t l n).page in (is_host_in pages p ≡ false) × (pages.owners p ≡ t)
  pub once : (t l n u k i : ℕ) → IsAlive pages tds t → IsAlive pages tds u → is_free (tds.entries t l n).state ≡ false → is_free (tds.entries u k i).state ≡ false
      → (tds.entries t l n).page ≡ (tds.entries u k i).page → (t ≡ u) × (l ≡ k) × (n ≡ i)
  pub named : (t p : ℕ) → IsAlive pages tds t → is_named_kind (pages.kinds p) ≡ true → pages.owners p ≡ t
      → (l : ℕ) × (n : ℕ) × (is_free (tds.entries t l n).state ≡ false) × ((tds.entries t l n).page ≡ p)

-- of a world
abbrev pub ArePagesOwned : World → Type 0
ArePagesOwned w = IsOwned w.pages w.tds

abbrev pub LawfulPagesAreOwned : Type 0
LawfulPagesAreOwned = (m : Machine) (w : World) → Lawful m w → ArePagesOwned w

abbrev pub OwnersAreKept : Type 0
OwnersAreKept = IsKept (IsLawfulWith ArePagesOwned)

abbrev pub EveryPageIsOwned : Type 0
EveryPageIsOwned = HoldsInRuns (λ o s. ArePagesOwned s.world)

-- so many entries are in a state that f holds of: those of these numbers, each once, and no others
pub record AreSoMany (f : EntryState → Bool) (entries : ℕ → Entry) (k : ℕ) : Type 0 where
  pub numbers : List ℕ
  pub each : (n : ℕ) → list_any (λ i. i == n) numbers ≡ f (entries n).state
  pub once : all_differ numbers ≡ true
  pub many : length numbers ≡ k

-- Counts in a reader's terms: so many entries of a TD that is alive are dirty as pages were dirtied less all that were
-- cleaned, and so many are exported as unrestored entries and all first exports say together, modulo 2^64. Entries of
-- level 0 alone can be.
pub record AreCounted (w : World) : Type 0 where
  pub dirty : (t : ℕ) → IsAlive w.pages w.tds t → (k : ℕ) × (k + sum_by w.streams.cleaned (w.tds.streams t) ≡ w.tds.dirtied t) × AreSoMany is_dirty (w.tds.entries t 0) k
  pub exported : (t : ℕ) → IsAlive w.pages w.tds t → AreSoMany is_exported (w.tds.entries t 0) ((w.tds.unrestored t + sum_by w.streams.first_exports (w.tds.streams t)) % 2 ^ 64)
  pub upper : (t l n : ℕ) → IsAlive w.pages w.tds t → is_exported (w.tds.entries t (suc l) n).state ≡ false

abbrev pub LawfulWorldsAreCounted : Type 0
LawfulWorldsAreCounted = (m : Machine) (w : World) → Lawful m w → AreCounted w

abbrev pub CountsAreKept : Type 0
CountsAreKept = IsKept (IsLawfulWith AreCounted)

abbrev pub ExportedAreCounted : Type 0
ExportedAreCounted = HoldsInRuns (λ o s. AreCounted s.world)

-- the TD of a processor's guest runs
abbrev pub GuestRuns : World → Lp → Type 0
GuestRuns w lp = (g : Guest) → lp.guest ≡ Some g → list_any (λ s. op_number s == op_number (w.tds.ops g.tdr)) running_ops ≡ true

-- the world stays lawful, and processors stand as they do in runs
abbrev pub TimelinessIsKept : Type 0
TimelinessIsKept = IsKept AreTimely

-- so does each event of any opening with that machine, where the TD of its processor's guest runs, and so is built: one that
-- isn't has RTMRs of zeros in every lawful world
abbrev pub EventsKeepLawful : Type 0
EventsKeepLawful = (o : Opening) (s : State) (p : ℕ) → Lawful o.machine s.world → GuestRuns s.world (s.lps p) → Lawful o.machine (event o s p).world

-- an event of one processor leaves the records of the others alone
abbrev pub OthersStay : Type 0
OthersStay = (o : Opening) (s : State) (p q : ℕ) → q ≢ p → (event o s p).lps q ≡ s.lps q

-- an event that isn't an act that succeeds, a guest's access or a count step
abbrev pub IsQuiet : Event → Type 0
IsQuiet (OfCall row Succeeds) = ⊥
IsQuiet (OfOperation row Succeeds) = ⊥
IsQuiet (Reaches t v access r gpa page) = ⊥
IsQuiet (Leaves v out) = ⊥
IsQuiet _ = Unit {0}

-- what is refused, tried, undone, released or walked changes nothing of the world
abbrev pub QuietEventsStay : Type 0
QuietEventsStay = (e : Event) (w : World) → IsQuiet e → world_after e w ≡ w

-- in a run without words to tell there are none to tell in any state
abbrev pub NoWordsToTell : Type 0
NoWordsToTell = (o : Opening) (s : State) (p : ℕ) → s.world.outgoing.to_tell ≡ None → (event o s p).world.outgoing.to_tell ≡ None

abbrev pub ExclusionIsKept : Type 0
ExclusionIsKept = IsKept (λ o s. IsExclusive s)

abbrev pub LocksExclude : Type 0
LocksExclude = HoldsInRuns (λ o s. IsExclusive s)

-- a processor between two calls
pub record IsBetween (lp : Lp) : Type 0 where
  pub call : lp.call ≡ nothing_yet
  pub guest : lp.guest ≡ None

-- each event of processor p in a schedule is quiet
abbrev pub OwnEventsAreQuiet : Opening → ℕ → List ℕ → State → Type 0
OwnEventsAreQuiet o p [] s = Unit {0}
OwnEventsAreQuiet o p (q ∷ qs) s = (q ≡ p → IfSome (next_event o s p) IsQuiet) × OwnEventsAreQuiet o p qs (event o s q)

-- A call that is refused changed nothing of the world from its first event to its last, and it holds no lock at its end.
pub record RefusedCallsStay : Type 0 where
  pub quiet : (o : Opening) (s : State) (p : ℕ) (schedule : List ℕ) (status : Status) → IsBetween (s.lps p)
      → let t = play o schedule s in
      (t.lps p).replies ≡ (s.lps p).replies → ((event o t p).lps p).replies ≡ (s.lps p).replies ++ Refused status ∷ []
      → OwnEventsAreQuiet o p (schedule ++ p ∷ []) s
  pub ended : (o : Opening) (s : State) (p : ℕ) (r : Reply)
      → ((event o s p).lps p).replies ≡ (s.lps p).replies ++ r ∷ [] → ((event o s p).lps p).call ≡ nothing_yet

-- What a TD's MRTD is to be: the SHA-384 of what the TD has measured, or what its import gave.
abbrev pub given_or_measured : Option (ℕ → ℕ) → List ℕ → List ℕ
given_or_measured None records = sha384 records
given_or_measured (Some words) records = digest_bytes (six_words words)

-- MNG.RD gives just that of each TD that isn't being built
abbrev pub AreMrtdsTrue : Machine → World → Type 0
AreMrtdsTrue m w = (tdr : ℕ) → list_any (λ s. op_number s == op_number (w.tds.ops tdr)) later_ops ≡ true
    → (read_td m tdr Mrtd).value w ≡ Digest (given_or_measured (w.tds.mrtds_given tdr) (w.tds.measured tdr))

abbrev pub MrtdsAreKept : Type 0
MrtdsAreKept = IsKept (λ o s. AreMrtdsTrue o.machine s.world)

abbrev pub EveryMrtdIsTrue : Type 0
EveryMrtdIsTrue = HoldsInRuns (λ o s. AreMrtdsTrue o.machine s.world)

-- what TDs have measured after an event of a processor with these lines left: after the act of its call what that call
-- leaves measured, and after any other event what they had
abbrev pub measured_after_event : List Call → Option Event → World → ℕ → List ℕ
measured_after_event (c ∷ cs) (Some (OfCall row Succeeds)) w = measured_after c w
measured_after_event _ _ w = w.tds.measured

abbrev pub EventsMeasure : Type 0
EventsMeasure = (o : Opening) (s : State) (p t : ℕ) → (event o s p).world.tds.measured t ≡ measured_after_event (lines_left o p (s.lps p)) (next_event o s p) s.world t

-- the page that a call gives back to the host
abbrev pub gives_back : Call → World → ℕ → Bool
gives_back (call.PhymemPageReclaim tdr page) w p = p == page
gives_back (call.MemPageRemove tdr gpa) w p = p == (entry_at w tdr 0 gpa).page
gives_back (call.MemPageRelocate tdr gpa page) w p = p == (entry_at w tdr 0 gpa).page
gives_back (call.MemSeptRemove tdr gpa level) w p = p == (entry_at w tdr level gpa).page
gives_back _ w p = false

-- what a page is used for: its kind, its TD and its node
pub record IsUsedAsBefore (old new : Pages) (p : ℕ) : Type 0 where
  pub kind : new.kinds p ≡ old.kinds p
  pub owner : new.owners p ≡ old.owners p
  pub level : new.levels p ≡ old.levels p
  pub number : new.numbers p ≡ old.numbers p

-- Pages have one use: a page that isn't the host's isn't given to a second use before it is the host's again.
abbrev pub RowKeepsUses : Row → (gives : World → ℕ → Bool) → Type 0
RowKeepsUses row gives = (w : World) (p : ℕ) → Passes (row.items w) → is_host_in w.pages p ≡ false → gives w p ≡ false → IsUsedAsBefore w.pages (row.act w).pages p

abbrev pub PagesHaveOneUse : Type 0
PagesHaveOneUse = (o : Opening) (me : ℕ) (c : Call) → RowKeepsUses (row_of o me c) (gives_back c)

-- whether the page that an entry names holds its guest's memory: not before the guest has accepted it (Base Architecture,
-- "Secure EPT Entry State Diagram")
abbrev pub holds_memory : EntryState → Bool
holds_memory entry.Free = false
holds_memory entry.Pending = false
holds_memory entry.PendingBlocked = false
holds_memory _ = true

-- what the private page that an entry names holds of its guest's memory
abbrev pub memory_of : Entry → (ℕ → ℕ → ℕ) → Option (ℕ → ℕ)
memory_of e words = if holds_memory e.state then Some (words e.page) else None

-- Guest memory: what the guest of a TD that is alive knows of its private page, from the events of its TD, is what the page holds.
abbrev pub ArePagesKnown : World → Type 0
ArePagesKnown w = (t n : ℕ) → IsAlive w.pages w.tds t → w.hidden.memories t n ≡ memory_of (w.tds.entries t 0 n) w.words

abbrev pub GuestsKnowTheirPages : Type 0
GuestsKnowTheirPages = HoldsInRuns (λ o s. ArePagesKnown s.world)

-- Told words: the lists of all processors are merged into one, which grows by the words that one of them grows by.
pub data AreMerged : (ℕ → List ℕ) → List ℕ → Type 0 where
  nothing_told : AreMerged (λ p. []) []
  more_told : (own : ℕ → List ℕ) (all : List ℕ) (p : ℕ) (words : List ℕ) → AreMerged own all → AreMerged (put own p (own p ++ words)) (all ++ words)

-- The world's list of told words is a merge of those of the processors.
abbrev pub ToldAreMerged : Type 0
ToldAreMerged = (o : Opening) (words_to_tell : Option (List ℕ)) (schedule : List ℕ) → let s = reached o words_to_tell schedule in AreMerged (λ p. (s.lps p).told) s.world.outgoing.told

-- An operation, whatever its row is, where its act leaves that list as it is: its event puts the words that it tells at the
-- end of the world's list and of its processor's.
abbrev pub OperationsTellBoth : Type 0
OperationsTellBoth = (w : World) (granted : Bool) (row : OperationRow) (move : Move (Option Outcome)) (lp : Lp) → (row.act w).outgoing.told ≡ w.outgoing.told
    → let e = OfOperation row move in
    ((world_after e w).outgoing.told ≡ w.outgoing.told ++ operation_told w row move) × ((lp_after w granted e lp).told ≡ lp.told ++ operation_told w row move)

-- What a refused call leaves of its processor's record

-- the same but for the call's progress and the replies: the guest, the cached translations, and what guests noted and told
pub record IsKeptBesides (before after : Lp) : Type 0 where
  pub guest : after.guest ≡ before.guest
  pub cached : after.cached ≡ before.cached
  pub notes : after.notes ≡ before.notes
  pub told : after.told ≡ before.told

-- an event of a call that isn't its act
abbrev pub QuietCallsKeep : Type 0
QuietCallsKeep = (o : Opening) (s : State) (p : ℕ) (row : Row) (move : Move Reply)
    → next_event o s p ≡ Some (OfCall row move) → IsQuiet (OfCall row move) → IsKeptBesides (s.lps p) ((event o s p).lps p)

-- after the schedule processor p has given no reply yet, and its next event brings this one
pub record AnswersNext (o : Opening) (s : State) (p : ℕ) (schedule : List ℕ) (reply : Reply) : Type 0 where
  pub none_yet : ((play o schedule s).lps p).replies ≡ (s.lps p).replies
  pub last : ((event o (play o schedule s) p).lps p).replies ≡ (s.lps p).replies ++ reply ∷ []

-- A call that is refused leaves its processor's record as it was, but for the refusal.
abbrev pub RefusalsLeaveTheirReply : Type 0
RefusalsLeaveTheirReply = (o : Opening) (s : State) (p : ℕ) (schedule : List ℕ) (status : Status) → IsBetween (s.lps p) → AnswersNext o s p schedule (Refused status)
    → (event o (play o schedule s) p).lps p ≡ record (s.lps p) { replies = (s.lps p).replies ++ Refused status ∷ [] }

-- How many events a call has

-- how many locks a call tries, where no condition fails, is the same in every world
abbrev pub RowsTryTheSame : Type 0
RowsTryTheSame = (o : Opening) (me : ℕ) (c : Call) (v w : World) → tries_in ((row_of o me c).items v) ≡ tries_in ((row_of o me c).items w)

-- how many items of a schedule are a processor's own: each is an event of it while it has a line left
abbrev pub own_items : ℕ → List ℕ → ℕ
own_items p [] = 0
own_items p (q ∷ qs) = one_if (q == p) + own_items p qs

-- A call that succeeds with n locks has 2n + 1 events, and one that is refused for an argument has one, whatever the other
-- processors do in between.
pub record CallsHaveTheirEvents : Type 0 where
  pub succeeds : (o : Opening) (s : State) (p : ℕ) (schedule : List ℕ) (c : Call) (cs : List Call) (v : Value) → IsBetween (s.lps p) → lines_left o p (s.lps p) ≡ c ∷ cs
      → AnswersNext o s p schedule (Done v) → own_items p schedule + 1 ≡ 2 * tries_in ((row_of o p c).items s.world) + 1
  pub argument : (o : Opening) (s : State) (p : ℕ) (schedule : List ℕ) (place : ℕ) → IsBetween (s.lps p)
      → AnswersNext o s p schedule (Refused (OperandInvalid place)) → own_items p schedule + 1 ≡ 1
