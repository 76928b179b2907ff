-- All logical processors of a machine over words, beside the flat machine, whatever bundles have come in by then; and one turn of
-- one of them.
use Rattle.std.specs.Prelude.{◌≡◌, ◌≢◌, ℕ, ◌<◌, ◌≤◌, Option, Some, None, List, ◌∷◌, length}
use Rattle.td_words.specs.Place.{WordPlace}
use Rattle.td_words.specs.declared.machines.Machine.{Machine}
use Rattle.td_words.specs.declared.calls.Call.{Call}
use Rattle.flat_core.specs.World.{put}
use Rattle.flat_core.specs.Processor.{nothing_yet}
use Rattle.flat_core.specs.Opening.{Opening, Incoming}
use Rattle.flat_core.specs.Event.{State, start, calls_of, event}
use Rattle.flat_core.specs.Run.{bundles_in}
use Rattle.flat_core.specs.Laws.{with_bundles}
use Rattle.flat_core.specs.AccessLaw.{IsGuarded}
use Rattle.word_rules.specs.Cells.{Shows}
use Rattle.lock_words.specs.Reached.{AreSound}
use Rattle.step_core.specs.Items.{Table, PlaysTo}
use Rattle.leaf_engine.specs.declared.events.Event.{Event}
use Rattle.leaf_engine.specs.Changes.{Hand, Memory}
use Rattle.leaf_engine.specs.Decides.{IsHand}
use Rattle.leaf_engine.specs.Facts.{Facts}
use Rattle.leaf_engine.specs.Tables.{IsMemory}
use Rattle.leaf_engine.specs.declared.events.Stage.TheVariants as stage
use Rattle.leaf_engine.specs.Turns.{Standing}
use Rattle.leaf_engine.specs.Guests.{WordGuest}
use Rattle.leaf_engine.specs.OwnLists.{Piece, taken_in, LeafTable, WordLp, first_lp, LpTurns}
use Rattle.leaf_engine.specs.Merges.{no_table, AreLeaves, AreCodes}
use Rattle.leaf_engine.specs.Following.{hasher_at}
use Rattle.leaf_engine.specs.Standing.{LpStands}
use Rattle.merge_laws.specs.Laws.{AreBundlesOf}

-- What is asked of a state: locks are sound, no stale translation is used, and no words are told for guests.
pub record IsKnown (o : Opening) (s : State) : Type 0 where
  pub sound : AreSound o s
  pub guarded : IsGuarded o s
  pub facts : Facts s
  pub nothing_to_tell : s.world.outgoing.to_tell ≡ None

-- a processor stands where a state has it, with what its run has in hand
pub record StandsBy (o : Opening) (t : LeafTable) (p : ℕ) (s : State) (words : WordPlace → ℕ) (at : WordLp) : Type 0 where
  pub hand : Hand
  pub in_hand : IsHand (hasher_at at) hand
  pub stands : LpStands o t p s.world words (s.lps p) at

-- the words and slots of a table show a state; each processor stands where that has it; and the bundles made so far are theirs
pub record AllStand (o : Opening) (leaf : ℕ → LeafTable) (now : ℕ → WordLp) (s : State) (u : Table) : Type 0 where
  pub memory : Memory
  pub is : IsMemory o.machine u None memory
  pub shows : Shows o.machine memory.words memory.slots s
  pub each : (p : ℕ) → p < length o.calls → StandsBy o (leaf p) p s memory.words (now p)
  pub bundles : AreBundlesOf (length o.calls) now (bundles_in s)

-- A call whose run has begun holds a lock, was denied one, or is answered; in a guest nothing is said.
abbrev pub HasBegun : Option Standing → Option WordGuest → Type 0
HasBegun None g = Unit {0}
HasBegun (Some run) None = run.stage ≡ stage.Trying → length run.held ≡ 0 → ⊥
HasBegun (Some run) (Some x) = Unit {0}

-- With other bundles, what a processor makes its events by is the same, but for calls that haven't begun, and VP.ENTER's.
abbrev pub IsSameCall : (t t' : LeafTable) → List Call → Option Standing → Option WordGuest → Type 0
IsSameCall t t' (c ∷ cs) (Some run) None = t'.call c ≡ t.call c
IsSameCall t t' _ _ _ = Unit {0}

pub record GoesOnBy (t t' : LeafTable) (at : WordLp) : Type 0 where
  pub step : t'.step ≡ t.step
  pub codes : t'.codes ≡ t.codes
  pub call : IsSameCall t t' at.lines at.run at.guest

-- At the start all stand. After a turn of one processor, with the bundles that have come in by then, all stand where the state after
-- its next event has them; and so they do once other bundles are there.
pub record TurnsKeepAll : Type 0 where
  pub first : (o : Opening) → IsKnown o (start o None)
  pub known : (o : Opening) (bundles : ℕ → Option Incoming) (s : State) (p : ℕ) → IsKnown o s → IsKnown o (event (with_bundles o bundles) s p)
  pub start : (o : Opening) (leaf : ℕ → LeafTable) → AllStand o leaf (λ p. first_lp (calls_of o.calls p)) (start o None) no_table
  pub turn : (o : Opening) (bundles : ℕ → Option Incoming) (leaf : ℕ → LeafTable) (now : ℕ → WordLp) (s : State) (t u : Table) (p : ℕ) (e : Event) (ps : List Piece) (after : WordLp)
      → let o' = with_bundles o bundles in length o.calls ≤ 8 → AreLeaves o' leaf → AreCodes o → IsKnown o s → AllStand o' leaf now s t → p < length o.calls
      → LpTurns (leaf p) o.machine (now p) e ps after → PlaysTo t (taken_in ps) u → AllStand o' leaf (put now p after) (event o' s p) u
  pub begun : (t : LeafTable) (m : Machine) (at : WordLp) (e : Event) (ps : List Piece) (after : WordLp) → LpTurns t m at e ps after → HasBegun after.run after.guest
  pub call_begun : (o : Opening) (leaf : ℕ → LeafTable) (now : ℕ → WordLp) (s : State) (u : Table) (p : ℕ) (c : Call) (cs : List Call) (run : Standing) → AllStand o leaf now s u → p < length o.calls
      → (now p).lines ≡ c ∷ cs → (now p).run ≡ Some run → (now p).guest ≡ None → HasBegun (Some run) None → (s.lps p).call ≢ nothing_yet
  pub more : (o : Opening) (earlier later : ℕ → Option Incoming) (leaf leaf' : ℕ → LeafTable) (now : ℕ → WordLp) (s : State) (u : Table)
      → let a = with_bundles o earlier in let b = with_bundles o later in AreLeaves a leaf → ((p : ℕ) → p < length o.calls → GoesOnBy (leaf p) (leaf' p) (now p))
      → AllStand a leaf now s u → AllStand b leaf' now s u
