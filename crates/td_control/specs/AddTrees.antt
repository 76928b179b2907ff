-- The addition of a TDCX page as a decision over the words that it is told.
use Rattle.std.specs.Prelude.{ℕ, None, nat_lt, [], ◌∷◌}
use Rattle.td_words.specs.declared.names.PageKind.TheVariants as kind
use Rattle.td_words.specs.declared.names.LifeState.TheVariants as life
use Rattle.td_words.specs.declared.machines.Machine.{Machine}
use Rattle.td_words.specs.declared.places.TheConstants.{TDR_TDCX_COUNT, TDR_TDCS}
use Rattle.td_words.specs.declared.refusals.Status.TheVariants.{TdcxNumIncorrect}
use Rattle.td_words.specs.Place as place
use Rattle.flat_core.specs.TdRows.{add_tdcx}
use Rattle.word_rules.specs.Rules.{Whole}
use Rattle.leaf_engine.specs.declared.needs.Place.{Place}
use Rattle.leaf_engine.specs.Trees.{Tree, Load, needs}
use Rattle.leaf_engine.specs.Means.{Task, OfCall}
use Rattle.leaf_parts.specs.declared.listed_pages.PageList.{PageList}
use Rattle.leaf_parts.specs.Arguments.{checked, two_pages}
use Rattle.leaf_parts.specs.Heads.{tdr_head_tree}
use Rattle.leaf_parts.specs.ListTrees.{listed_tree}

-- the TD's TDCX pages, as its TDR page lists them: TDCS, and behind it the root
abbrev pub control_list : (tdr : ℕ) → PageList
control_list tdr = record { kind = kind.Tdcx; page = tdr; first = TDR_TDCS; counted = TDR_TDCX_COUNT; index = None }

-- there is room for another, and the page is a host page
abbrev pub room_tree : (pages tdr page : ℕ) → Tree
room_tree pages tdr page =
    Load Whole (place.Word tdr TDR_TDCX_COUNT) (λ count.
    needs (nat_lt count 2) (TdcxNumIncorrect 2) (listed_tree (control_list tdr) pages tdr page count))

abbrev pub add_tree : Machine → ℕ → ℕ → Tree
add_tree m tdr page = checked (two_pages m tdr page) (tdr_head_tree tdr (life.KeysConfigured ∷ []) (room_tree m.pages tdr page))

abbrev pub add_task : Place → ℕ → ℕ → Task
add_task p tdr page = record { place = p; tree = add_tree p.machine tdr page; meaning = OfCall (add_tdcx p.machine tdr page) }
