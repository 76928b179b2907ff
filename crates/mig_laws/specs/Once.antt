-- A run takes no bundle of types 0 to 5 twice, whoever made it: of a session it takes the bundle with one counter on one stream
-- once at most, and it begins a session once at most (TD Migration Architecture, "Migration Session Control").
use Rattle.std.specs.Prelude.{◌≡◌, ◌≢◌, ℕ, ◌<◌, ◌≤◌, List, ◌∷◌, ◌++◌, Option, Some, Ok, false, ◌==◌, slice_index_or}
use Rattle.td_words.specs.declared.calls.Call.{Call}
use Rattle.td_words.specs.Slots.{input_slot}
use Rattle.flat_core.specs.World.{World, ClearHeader}
use Rattle.flat_core.specs.Opening.{Opening, Incoming}
use Rattle.flat_core.specs.Row.{Succeeds}
use Rattle.flat_core.specs.Table.{row_of}
use Rattle.flat_core.specs.Event.{State, OfCall, lines_left, next_event, event}
use Rattle.flat_core.specs.Laws.{with_bundles, reached}
use Rattle.flat_core.specs.AccessLaw.{IsGuarded}
use Rattle.mig_laws.specs.Ivs.{IsImporting, AbortsHold}
use Rattle.mig_laws.specs.Imports.{counts_of}

-- by what the bundles of types 0 to 5 of one source are told apart
pub record BundleNumber : Type 0 where
  pub session : ℕ
  pub stream : ℕ
  pub counter : ℕ

abbrev pub number_of : ClearHeader → BundleNumber
number_of h = record { session = h.session; stream = h.stream; counter = h.counter }

-- A processor's next event takes in a bundle with this header, which is no token back: it is the act of the call in its line, which
-- names the bundle's slot.
pub record TakesBundle (o : Opening) (s : State) (p : ℕ) (h : ClearHeader) : Type 0 where
  pub call : Call
  pub rest : List Call
  pub slot : ℕ
  pub bundle : Incoming
  pub line : lines_left o p (s.lps p) ≡ call ∷ rest
  pub acts : next_event o s p ≡ Some (OfCall (row_of o p call) Succeeds)
  pub named : input_slot call ≡ Some slot
  pub there : o.bundles slot ≡ Some bundle
  pub header : bundle.header ≡ Ok h
  pub forward : (h.kind == 6) ≡ false

-- Of two events of a run neither takes what the other took, nor begins the session that the other began.
pub record AreTakenApart (h k : ClearHeader) : Type 0 where
  pub places : number_of h ≢ number_of k
  pub sessions : h.kind ≡ 0 → k.kind ≡ 0 → h.session ≢ k.session

abbrev pub NoBundleIsTakenTwice : Type 0
NoBundleIsTakenTwice = (o : Opening) (words_to_tell : Option (List ℕ)) (front between : List ℕ) (p q : ℕ) (h k : ClearHeader)
    → TakesBundle o (reached o words_to_tell front) p h → TakesBundle o (reached o words_to_tell (front ++ p ∷ between)) q k → AreTakenApart h k

-- Why it is so, event by event

-- a number is spent: its session has begun here, and each import that stands under that session has counted it
pub record IsSpent (w : World) (at : BundleNumber) : Type 0 where
  pub begun : at.session ≤ w.key_table.last_imported
  pub counted : (t : ℕ) → IsImporting w t → w.tds.sessions t ≡ at.session → at.counter < slice_index_or (counts_of w t) at.stream 0

-- Whatever has come in: the number of a bundle that is taken is spent from then on, and what is spent isn't taken.
pub record TakenAreSpent : Type 0 where
  pub taken : (o : Opening) (bundles : ℕ → Option Incoming) (s : State) (p : ℕ) (h : ClearHeader) → IsGuarded o s → AbortsHold s.world
      → let now = with_bundles o bundles in TakesBundle now s p h → IsSpent (event now s p).world (number_of h)
  pub kept : (o : Opening) (bundles : ℕ → Option Incoming) (s : State) (p : ℕ) (at : BundleNumber) → IsGuarded o s
      → IsSpent s.world at → IsSpent (event (with_bundles o bundles) s p).world at
  pub spent : (o : Opening) (bundles : ℕ → Option Incoming) (s : State) (p : ℕ) (h : ClearHeader) → IsGuarded o s
      → IsSpent s.world (number_of h) → TakesBundle (with_bundles o bundles) s p h → ⊥
