-- A page of the host's that becomes one of a TD's, as a decision over the words that it is told.
use Rattle.std.specs.Prelude.{ℕ}
use Rattle.td_words.specs.declared.names.Mode.TheVariants.{Exclusive}
use Rattle.td_words.specs.declared.places.TheConstants.{TDR_CHILDREN}
use Rattle.td_words.specs.declared.refusals.Status.TheVariants.{PageMetadataIncorrect}
use Rattle.td_words.specs.Place as place
use Rattle.flat_core.specs.Processor.{OfPage}
use Rattle.word_rules.specs.Rules.{Whole}
use Rattle.leaf_engine.specs.Trees.{Tree, Lock, Load, needs}
use Rattle.leaf_parts.specs.Words.{says_host}

-- a page is held alone, and is the host's
abbrev pub host_page_tree : (page : ℕ) → Tree → Tree
host_page_tree page further =
    Lock (OfPage page) (place.Lock page) Exclusive
    (Load Whole (place.Pamt page) (λ pamt. needs (says_host pamt) (PageMetadataIncorrect page) further))

-- it will be a TD's, whose child count is told
abbrev pub taken_page_tree : (tdr page : ℕ) → (ℕ → Tree) → Tree
taken_page_tree tdr page further = host_page_tree page (Load Whole (place.Word tdr TDR_CHILDREN) further)
