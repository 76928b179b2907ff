-- The reclaim of a page as a decision over the words that it is told.
use Rattle.std.specs.Prelude.{ℕ, Bool, true, false, ◌==◌, nat_lt, List, [], ◌∷◌}
use Rattle.td_words.specs.declared.names.LifeState.TheVariants as life
use Rattle.td_words.specs.declared.names.Mode.TheVariants.{Exclusive}
use Rattle.td_words.specs.declared.machines.Machine.{Machine}
use Rattle.td_words.specs.declared.places.TheConstants.{TDR_CHILDREN}
use Rattle.td_words.specs.declared.refusals.Status.TheVariants.{OperandInvalid, PageMetadataIncorrect, PagesExist}
use Rattle.td_words.specs.declared.replies.Value.TheVariants as value
use Rattle.td_words.specs.declared.replies.Reply.TheVariants.{Done}
use Rattle.td_words.specs.Place as place
use Rattle.flat_core.specs.Processor.{OfPage}
use Rattle.flat_core.specs.KeyRows.{reclaim_page}
use Rattle.word_rules.specs.Rules.{Whole}
use Rattle.leaf_engine.specs.declared.needs.Place.{Place}
use Rattle.leaf_engine.specs.Changes.{Change, Put, Clear}
use Rattle.leaf_engine.specs.Trees.{Tree, Lock, Load, needs, acts}
use Rattle.leaf_engine.specs.Means.{Task, OfCall}
use Rattle.leaf_parts.specs.Words.{lowered}
use Rattle.leaf_parts.specs.Heads.{tdr_head_tree}
use Rattle.key_table.specs.Words.{is_owned}

-- the page's PAMT word is the act; then the page is cleared
abbrev pub give_back_tdr : ℕ → List Change
give_back_tdr page = Put (place.Pamt page) 0 ∷ Clear page ∷ []

-- and then the child count falls
abbrev pub give_back_child : (t page children : ℕ) → List Change
give_back_child t page children = Put (place.Pamt page) 0 ∷ Clear page ∷ Put (place.Word t TDR_CHILDREN) (lowered children) ∷ []

abbrev pub give_back : (t page : ℕ) → (is_tdr : Bool) → (children : ℕ) → List Change
give_back t page true children = give_back_tdr page
give_back t page false children = give_back_child t page children

-- the TDR page itself, or another page of the TD
abbrev pub reclaim_rest : (t page : ℕ) → Bool → Tree
reclaim_rest t page true =
    Load Whole (place.Word t TDR_CHILDREN) (λ children.
    needs (children == 0) (PagesExist children) (acts (Done value.Nothing) (give_back_tdr page)))
reclaim_rest t page false =
    Lock (OfPage page) (place.Lock page) Exclusive
    (Load Whole (place.Pamt page) (λ pamt.
    needs (is_owned t pamt) (PageMetadataIncorrect page)
    (Load Whole (place.Word t TDR_CHILDREN) (λ children. acts (Done value.Nothing) (give_back_child t page children)))))

-- PHYMEM.PAGE.RECLAIM
abbrev pub reclaim_tree : Machine → (t page : ℕ) → Tree
reclaim_tree m t page =
    needs (nat_lt t m.pages) (OperandInvalid 1)
    (needs (nat_lt page m.pages) (OperandInvalid 2)
    (tdr_head_tree t (life.Teardown ∷ []) (reclaim_rest t page (page == t))))

abbrev pub reclaim_task : Place → (t page : ℕ) → Task
reclaim_task p t page = record { place = p; tree = reclaim_tree p.machine t page; meaning = OfCall (reclaim_page p.machine t page) }
