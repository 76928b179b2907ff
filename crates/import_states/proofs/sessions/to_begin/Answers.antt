use Rattle.std.proofs.Common.{ℕ, nat_lt, Ok, Err, [], ◌∷◌, subst}
use Rattle.td_words.specs.declared.names.Mode.TheVariants.{Exclusive}
use Rattle.td_words.specs.declared.refusals.Status.TheVariants.{OperandInvalid}
use Rattle.flat_core.specs.World.{ClearHeader}
use Rattle.flat_core.specs.Inputs.{Input, input_in}
use Rattle.flat_core.specs.ImportRows.{first_ops}
use Rattle.leaf_engine.specs.Trees.{Tree}
use Rattle.leaf_parts.specs.Parts.{Goes}
use Rattle.leaf_parts.specs.declared.heads.Td.{Td}
use Rattle.leaf_parts.specs.Heads.{td_head_tree}
use Rattle.leaf_parts.proofs.Parts.{goes-stop, passes, exit}
use Rattle.import_parts.specs.InputTrees.{input_tree}
use Rattle.import_states.specs.declared.sessions.Begun.{Begun}
use Rattle.import_states.specs.BeginImportTrees.{begin_import_tree, begin_import_asked}
use Rattle.import_states.proofs.sessions.to_begin.Goals as goal

-- what comes behind each part
module _ (n t slot : ℕ) (x : Input) (f : Begun → Tree) where
  abbrev told_on : (tdcs page : ℕ) → Tree
  told_on tdcs page = f (record { tdcs = tdcs; page = page })

  abbrev rest : Td → Tree
  rest td = begin_import_tree n td.tdcs x.header x (λ page. f (record { tdcs = td.tdcs; page = page }))

  abbrev headed : Tree
  headed = td_head_tree n t Exclusive first_ops (λ td. begin_import_tree n td.tdcs x.header x (λ page. f (record { tdcs = td.tdcs; page = page })))

  abbrev given : Tree
  given = input_tree x slot (0 ∷ []) (td_head_tree n t Exclusive first_ops (λ td. begin_import_tree n td.tdcs x.header x (λ page. f (record { tdcs = td.tdcs; page = page }))))

pub returns-in_err-input_of-clause-goes : goal.returns-in_err-input_of-clause-goes
returns-in_err-input_of-clause-goes c =
    let a = c.args in
    let n : ℕ = a.place.machine.pages in
    let x : Input = input_in a.input.now in
    let e = c.in_err-input_of.field-0.0 in
    goes-stop n (λ (f : Begun → Tree). begin_import_asked a.place.machine x a.tdr a.slot f) a.told.now.left.now a.told.now.left.now c.from_residual-in_err-input_of.result e
    (exit c.from_residual-in_err-input_of.result e _ c.from_residual-in_err-input_of.ensures.1 (λ y h. h))
    (λ f. passes n (nat_lt a.tdr n) (OperandInvalid 1) (given n a.tdr a.slot x f) a.told.now.left.now (Err e) (rw c.from.ensures at c.in_ok-check.ensures) (c.in_err-input_of.ensures.goes n (λ u. headed n a.tdr a.slot x f)))

pub returns-in_err-td-clause-goes : goal.returns-in_err-td-clause-goes
returns-in_err-td-clause-goes c =
    let a = c.args in
    let n : ℕ = a.place.machine.pages in
    let x : Input = input_in a.input.now in
    let e = c.in_err-td.field-0.0 in
    goes-stop n (λ (f : Begun → Tree). begin_import_asked a.place.machine x a.tdr a.slot f) a.told.now.left.now c.td_head.new.told.left.now c.from_residual-in_err-td.result e
    (exit c.from_residual-in_err-td.result e _ c.from_residual-in_err-td.ensures.1 (λ y h. h))
    (λ f. passes n (nat_lt a.tdr n) (OperandInvalid 1) (given n a.tdr a.slot x f) a.told.now.left.now (Err e) (rw c.from.ensures at c.in_ok-check.ensures)
    (c.in_ok-input_of.ensures.goes n (λ u. headed n a.tdr a.slot x f) (Err e) (c.in_err-td.ensures.goes (rest n a.tdr a.slot x f))))

pub returns-in_err-page-clause-goes : goal.returns-in_err-page-clause-goes
returns-in_err-page-clause-goes c =
    let a = c.args in
    let n : ℕ = a.place.machine.pages in
    let x : Input = input_in a.input.now in
    let d : ℕ = c.in_ok-td.td.tdcs in
    let e = c.in_err-page.field-0.0 in
    let stops = subst (λ (h : ClearHeader). Goes {A = ℕ} n (λ f. begin_import_tree n d h x f) c.td_head.new.told.left.now c.begin.new.told.left.now (Err e)) c.header_of-header.ensures c.in_err-page.ensures.goes in
    goes-stop n (λ (f : Begun → Tree). begin_import_asked a.place.machine x a.tdr a.slot f) a.told.now.left.now c.begin.new.told.left.now c.from_residual-in_err-page.result e
    (exit c.from_residual-in_err-page.result e _ c.from_residual-in_err-page.ensures.1 (λ y h. h))
    (λ f. passes n (nat_lt a.tdr n) (OperandInvalid 1) (given n a.tdr a.slot x f) a.told.now.left.now (Err e) (rw c.from.ensures at c.in_ok-check.ensures)
    (c.in_ok-input_of.ensures.goes n (λ u. headed n a.tdr a.slot x f) (Err e) (c.in_ok-td.ensures.goes (rest n a.tdr a.slot x f) (Err e) (stops (told_on n a.tdr a.slot x f d)))))

pub returns-clause-goes : goal.returns-clause-goes
returns-clause-goes c = λ f r end.
    let a = c.args in
    let n : ℕ = a.place.machine.pages in
    let x : Input = input_in a.input.now in
    let d : ℕ = c.in_ok-td.td.tdcs in
    let page : ℕ = c.in_ok-page.page in
    let goes = subst (λ (h : ClearHeader). Goes {A = ℕ} n (λ f. begin_import_tree n d h x f) c.td_head.new.told.left.now c.begin.new.told.left.now (Ok page)) c.header_of-header.ensures c.in_ok-page.ensures.goes in
    passes n (nat_lt a.tdr n) (OperandInvalid 1) (given n a.tdr a.slot x f) a.told.now.left.now r (rw c.from.ensures at c.in_ok-check.ensures)
    (c.in_ok-input_of.ensures.goes n (λ u. headed n a.tdr a.slot x f) r (c.in_ok-td.ensures.goes (rest n a.tdr a.slot x f) r (goes (told_on n a.tdr a.slot x f d) r end)))
