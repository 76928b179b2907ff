-- VP.FLUSH as a decision over the words that it is told.
use Rattle.std.specs.Prelude.{ℕ, ◌<◌, not, Option, None, List, [], ◌∷◌}
use Rattle.td_words.specs.declared.names.PageKind.TheVariants as kind
use Rattle.td_words.specs.declared.names.LifeState.TheVariants as life
use Rattle.td_words.specs.declared.names.Mode.TheVariants.{Shared, Exclusive}
use Rattle.td_words.specs.declared.machines.Machine.{Machine}
use Rattle.td_words.specs.declared.places.TheConstants.{VP_ASSOCIATED}
use Rattle.td_words.specs.declared.refusals.Status.TheVariants.{PageMetadataIncorrect, VcpuAssociated, VcpuNotAssociated}
use Rattle.td_words.specs.declared.replies.Value.TheVariants as value
use Rattle.td_words.specs.declared.replies.Reply.TheVariants.{Done}
use Rattle.td_words.specs.Place as place
use Rattle.flat_core.specs.Processor.{OfPage}
use Rattle.flat_core.specs.Conditions.{is_associated, is_elsewhere, lp_shown}
use Rattle.flat_core.specs.Translations.{drop_td}
use Rattle.flat_core.specs.VpRows.{flush_vp}
use Rattle.word_rules.specs.Rules.{Whole}
use Rattle.leaf_engine.specs.declared.needs.Place.{Place}
use Rattle.leaf_engine.specs.Changes.{Change, Put}
use Rattle.leaf_engine.specs.Trees.{Answer, Tree, Lock, Load, End, needs}
use Rattle.leaf_engine.specs.Means.{Task, OfCall, MeansRow}
use Rattle.leaf_parts.specs.Arguments.{checked, two_pages}
use Rattle.leaf_parts.specs.Heads.{root_tree, life_tree}
use Rattle.vcpu_control.specs.Words.{says_page_of}
use Rattle.vcpu_control.specs.EnterTrees.{lp_told}

-- the association's word is the act
abbrev pub flush_changes : ℕ → List Change
flush_changes vp = Put (place.Word vp VP_ASSOCIATED) 0 ∷ []

-- the translations that this logical processor has cached for the TD are dropped
abbrev pub flush_answer : ℕ → Answer
flush_answer tdr = record { reply = Done value.Nothing; cached = drop_td tdr; enters = None; notes = []; tells = []; bundles = [] }

-- the virtual processor is associated, and with no other logical processor
abbrev pub flush_at : (me tdr vp : ℕ) → Option ℕ → Tree
flush_at me tdr vp associated =
    needs (is_associated associated) VcpuNotAssociated
    (needs (not (is_elsewhere me associated)) (VcpuAssociated (lp_shown associated)) (End (flush_answer tdr) [] (flush_changes vp)))

-- behind the life state of its TD
abbrev pub flush_rest : (me tdr vp : ℕ) → Tree
flush_rest me tdr vp =
    Lock (OfPage vp) (place.Lock vp) Exclusive
    (Load Whole (place.Pamt vp) (λ pamt.
    needs (says_page_of tdr kind.Tdvpr pamt) (PageMetadataIncorrect vp)
    (Load Whole (place.Word vp VP_ASSOCIATED) (λ word. flush_at me tdr vp (lp_told word)))))

abbrev pub flush_tree : Machine → (me tdr vp : ℕ) → Tree
flush_tree m me tdr vp = checked (two_pages m tdr vp) (root_tree tdr Shared (life_tree tdr (life.KeysConfigured ∷ []) (flush_rest me tdr vp)))

abbrev pub vp_flush_task : Place → (tdr vp : ℕ) → Task
vp_flush_task p tdr vp = record { place = p; tree = flush_tree p.machine p.lp tdr vp; meaning = OfCall (flush_vp p.machine p.lp tdr vp) }

-- The leaf of VP.FLUSH means its row.
abbrev pub FlushMeans : Type 0
FlushMeans = (p : Place) (tdr vp : ℕ) → p.machine.pages < 65536 → MeansRow (vp_flush_task p tdr vp)
