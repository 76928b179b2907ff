-- The texts of a script whose processors ran in threads.
use Rattle.std.specs.Prelude.{◌≡◌, ℕ, ◌<◌, List, [], length, Option}
use Rattle.std.specs.List.{All}
use Rattle.flat_core.specs.Opening.{Opening}
use Rattle.flat_core.specs.Event.{calls_of}
use Rattle.flat_core.specs.HostText.{host_text}
use Rattle.flat_core.specs.GuestText.{guest_text}
use Rattle.step_core.specs.Items.{Table, PlaysTo}
use Rattle.leaf_engine.specs.OwnLists.{Piece, joined, WordLp, first_lp, OwnTurns}
use Rattle.leaf_engine.specs.Merges.{Item, IsMerge, steps_taken, order, no_table}
use Rattle.leaf_table.specs.Given.{given_of}
use Rattle.leaf_table.specs.Table.{leaf_table}
use Rattle.run_texts.specs.declared.replay.Texts.{Texts}
use Rattle.run_texts.specs.Sealing.{bundles_text}
use Rattle.run_texts.specs.Replaying.{TellAll}

-- Processor p's own list of word steps: what its turns did, from the first of its lines to the end of the last one, each step
-- with the answer that it got.
pub record IsOwnList (o : Opening) (p : ℕ) (own : List Piece) : Type 0 where
  pub turns : List (List Piece)
  pub last : WordLp
  pub lead : OwnTurns (leaf_table o.machine (given_of o) o.codes p) o.machine (first_lp (calls_of o.calls p)) turns last
  pub over : last.lines ≡ []
  pub is : own ≡ joined turns

-- One order of all steps, in which each own list stands as it is, and that plays, from words that are all 0 and slots without
-- hashers, to this table: each answer is what the steps before it have made.
pub record PlaysInOrder (o : Opening) (own : ℕ → List Piece) (made : List Item) (u : Table) : Type 0 where
  pub merge : IsMerge (length o.calls) own made
  pub plays : PlaysTo no_table (steps_taken made) u

-- The processors have own lists of word steps that have such an order, whose events are theirs. Every such order, also one that
-- didn't come about, is one of events under which the flat machine's run prints these texts, the reports under this report key, and
-- makes these bundles, sealed under these keys.
pub record AreOfThreads (o : Opening) (forward backward report_key : List ℕ) (out_bundles guest_out : Option (List ℕ)) (t : Texts) : Type 0 where
  pub own : ℕ → List Piece
  pub lists : (p : ℕ) → p < length o.calls → IsOwnList o p (own p)
  pub made : List Item
  pub table : Table
  pub ordered : PlaysInOrder o own made table
  pub processors : All (λ p. p < length o.calls) (order made)
  pub each : (made : List Item) (u : Table) → PlaysInOrder o own made u → TellAll out_bundles guest_out (host_text o (order made)) (bundles_text forward backward o (order made)) (guest_text report_key o (order made)) t
