-- The beginnings of the rows of a TD's calls, as decisions over the words that they are told.
use Rattle.std.specs.Prelude.{ℕ, ◌==◌, List, [], ◌∷◌}
use Rattle.std.specs.List.{list_any}
use Rattle.td_words.specs.declared.names.PageKind.TheVariants as kind
use Rattle.td_words.specs.declared.names.Mode.{Mode}
use Rattle.td_words.specs.declared.names.Mode.TheVariants.{Shared, Exclusive}
use Rattle.td_words.specs.declared.names.LifeState.{LifeState}
use Rattle.td_words.specs.declared.names.LifeState.TheVariants.{KeysConfigured}
use Rattle.td_words.specs.declared.names.OpState.{OpState}
use Rattle.td_words.specs.declared.places.TheConstants.{TDR_LIFE, TDR_TDCX_COUNT, TDR_TDCS, TDCS_OP_LOCK, TDCS_OP}
use Rattle.td_words.specs.declared.refusals.Status.TheVariants.{PageMetadataIncorrect, LifecycleStateIncorrect, TdcxNumIncorrect, OpStateIncorrect}
use Rattle.td_words.specs.NameNumber.{life_number, op_number}
use Rattle.td_words.specs.Place as place
use Rattle.flat_core.specs.Processor.{OfPage, OfOp}
use Rattle.word_rules.specs.Rules.{Whole}
use Rattle.leaf_engine.specs.Trees.{Tree, Lock, Load, needs}
use Rattle.leaf_parts.specs.declared.heads.Td.{Td}
use Rattle.leaf_parts.specs.Words.{says_kind, life_told, op_told, page_told}

-- the lock of the TDR page, which is one
abbrev pub root_tree : ℕ → Mode → Tree → Tree
root_tree t mode further =
    Lock (OfPage t) (place.Lock t) mode
    (Load Whole (place.Pamt t) (λ pamt. needs (says_kind kind.Tdr pamt) (PageMetadataIncorrect t) further))

-- the life state is one of these
abbrev pub life_tree : ℕ → List LifeState → Tree → Tree
life_tree t allowed further =
    Load Whole (place.Word t TDR_LIFE) (λ life.
    needs (list_any (λ s. life_number s == life_number (life_told life)) allowed) (LifecycleStateIncorrect (life_told life)) further)

-- the operation state is held, and is one of these
abbrev pub op_tree : (t tdcs : ℕ) → Mode → List OpState → (Td → Tree) → Tree
op_tree t tdcs mode allowed further =
    Lock (OfOp t) (place.Word tdcs TDCS_OP_LOCK) mode
    (Load Whole (place.Word tdcs TDCS_OP) (λ op.
    needs (list_any (λ s. op_number s == op_number (op_told op)) allowed) (OpStateIncorrect (op_told op)) (further (record { tdcs = tdcs; op = op_told op }))))

-- the two TDCX pages are there
abbrev pub tdcs_tree : (pages t : ℕ) → (ℕ → Tree) → Tree
tdcs_tree pages t further =
    Load Whole (place.Word t TDR_TDCX_COUNT) (λ count.
    needs (count == 2) (TdcxNumIncorrect count)
    (Load Whole (place.Word t TDR_TDCS) (λ tdcs. further (page_told pages tdcs))))

-- the beginning of the rows of a TD's calls
abbrev pub td_head_tree : (pages t : ℕ) → Mode → List OpState → (Td → Tree) → Tree
td_head_tree pages t mode allowed further = root_tree t Shared (life_tree t (KeysConfigured ∷ []) (tdcs_tree pages t (λ tdcs. op_tree t tdcs mode allowed further)))

-- the beginning of the rows that begin and end a TD's life
abbrev pub tdr_head_tree : ℕ → List LifeState → Tree → Tree
tdr_head_tree t allowed further = root_tree t Exclusive (life_tree t allowed further)
