-- The creation of a migration stream as a decision over the words that it is told.
use Rattle.std.specs.Prelude.{ℕ, None, nat_lt}
use Rattle.td_words.specs.declared.names.PageKind.TheVariants as kind
use Rattle.td_words.specs.declared.names.LimitName.TheVariants.{Streams}
use Rattle.td_words.specs.declared.names.Mode.TheVariants.{Exclusive}
use Rattle.td_words.specs.declared.machines.Machine.{Machine}
use Rattle.td_words.specs.declared.places.TheConstants.{TDCS_STREAM_COUNT, TDCS_STREAMS}
use Rattle.td_words.specs.declared.refusals.Status.TheVariants.{Limit}
use Rattle.td_words.specs.Place as place
use Rattle.flat_core.specs.ExportRows.{stream_ops, create_stream}
use Rattle.word_rules.specs.Rules.{Whole}
use Rattle.leaf_engine.specs.declared.needs.Place.{Place}
use Rattle.leaf_engine.specs.Trees.{Tree, Load, needs}
use Rattle.leaf_engine.specs.Means.{Task, OfCall}
use Rattle.leaf_parts.specs.declared.listed_pages.PageList.{PageList}
use Rattle.leaf_parts.specs.Arguments.{checked, two_pages}
use Rattle.leaf_parts.specs.Heads.{td_head_tree}
use Rattle.leaf_parts.specs.ListTrees.{listed_tree}

-- the TD's streams, as TDCS lists them
abbrev pub stream_list : (tdcs : ℕ) → PageList
stream_list tdcs = record { kind = kind.Migsc; page = tdcs; first = TDCS_STREAMS; counted = TDCS_STREAM_COUNT; index = None }

-- there is room for another, and the page is a host page
abbrev pub stream_counted : (pages tdr tdcs page count : ℕ) → Tree
stream_counted pages tdr tdcs page count = needs (nat_lt count 4) (Limit Streams) (listed_tree (stream_list tdcs) pages tdr page count)

abbrev pub stream_rest : (pages tdr tdcs page : ℕ) → Tree
stream_rest pages tdr tdcs page = Load Whole (place.Word tdcs TDCS_STREAM_COUNT) (λ count. stream_counted pages tdr tdcs page count)

abbrev pub stream_tree : Machine → (tdr page : ℕ) → Tree
stream_tree m tdr page = checked (two_pages m tdr page) (td_head_tree m.pages tdr Exclusive stream_ops (λ td. stream_rest m.pages tdr td.tdcs page))

abbrev pub stream_create_task : Place → (tdr page : ℕ) → Task
stream_create_task p tdr page = record { place = p; tree = stream_tree p.machine tdr page; meaning = OfCall (create_stream p.machine tdr page) }
