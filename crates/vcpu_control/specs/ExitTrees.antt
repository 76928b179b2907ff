-- The count step of an exit as a decision over the words that it is told, under the locks of the guest's VP.ENTER.
use Rattle.std.specs.Prelude.{ℕ, ◌+◌, ◌-◌, ◌%◌, ◌^◌, List, [], ◌∷◌}
use Rattle.td_words.specs.declared.machines.Machine.{Machine}
use Rattle.td_words.specs.declared.places.TheConstants.{TDR_TDCS, TDCS_ENTERED, VP_LAST_EPOCH}
use Rattle.td_words.specs.declared.replies.Outcome.{Outcome}
use Rattle.td_words.specs.declared.replies.Reply.TheVariants.{Exited}
use Rattle.td_words.specs.Place as place
use Rattle.word_rules.specs.Rules.{Whole}
use Rattle.leaf_engine.specs.declared.needs.Place.{Place}
use Rattle.leaf_engine.specs.Changes.{Change, Raise}
use Rattle.leaf_engine.specs.Trees.{Tree, Load, acts}
use Rattle.leaf_engine.specs.Means.{Task, OfExit, MeansRow}
use Rattle.leaf_parts.specs.Words.{page_told}

-- one is taken off the count of the last epoch's parity: 2^64 - 1 is added, and nothing is carried
abbrev pub exit_changes : (tdcs last : ℕ) → List Change
exit_changes tdcs last = Raise (place.Word tdcs (TDCS_ENTERED + last % 2)) (2 ^ 64 - 1) ∷ []

-- the virtual processor's last epoch is the one that it entered at
abbrev pub exit_at : (vp : ℕ) → Outcome → (tdcs : ℕ) → Tree
exit_at v out d = Load Whole (place.Word v VP_LAST_EPOCH) (λ last. acts (Exited out) (exit_changes d last))

abbrev pub exit_tree : Machine → (tdr vp : ℕ) → Outcome → Tree
exit_tree m t v out = Load Whole (place.Word t TDR_TDCS) (λ word. exit_at v out (page_told m.pages word))

abbrev pub exit_task : Place → (tdr vp : ℕ) → Outcome → Task
exit_task p t v out = record { place = p; tree = exit_tree p.machine t v out; meaning = OfExit t v out }

-- The leaf of an exit's count step means that step.
abbrev pub ExitMeans : Type 0
ExitMeans = (p : Place) (tdr vp : ℕ) (out : Outcome) → MeansRow (exit_task p tdr vp out)
