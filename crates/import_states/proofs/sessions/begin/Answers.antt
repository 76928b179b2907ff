use Rattle.std.proofs.Common.{ℕ, Err}
use Rattle.flat_core.specs.World.{ClearHeader}
use Rattle.flat_core.specs.Opening.{clear_header}
use Rattle.flat_core.specs.Inputs.{Input, input_in}
use Rattle.leaf_engine.specs.Trees.{Tree}
use Rattle.leaf_parts.proofs.Parts.{goes-stop, exit}
use Rattle.stream_parts.specs.Streams.{page_tree}
use Rattle.import_parts.specs.InputTrees.{tag_tree}
use Rattle.import_states.specs.BeginImportTrees.{stream_there_tree, session_first_tree, begin_import_tree}
use Rattle.import_states.proofs.sessions.begin.Goals as goal

-- what comes behind each part
module _ (n d : ℕ) (h : ClearHeader) (x : Input) (f : ℕ → Tree) where
  abbrev tagged : ℕ → Tree
  tagged page = tag_tree x (f page)

  abbrev paged : Tree
  paged = page_tree n d 0 (λ page. tag_tree x (f page))

  abbrev first : Tree
  first = session_first_tree h (page_tree n d 0 (λ page. tag_tree x (f page)))

  abbrev there : Tree
  there = stream_there_tree d (session_first_tree h (page_tree n d 0 (λ page. tag_tree x (f page))))

pub returns-in_err-hold_keys-clause-goes : goal.returns-in_err-hold_keys-clause-goes
returns-in_err-hold_keys-clause-goes c =
    let a = c.args in
    let n : ℕ = a.machine.pages in
    let h : ClearHeader = clear_header a.header.now in
    let x : Input = input_in a.input.now in
    let e = c.in_err-hold_keys.field-0.0 in
    goes-stop n (λ (f : ℕ → Tree). begin_import_tree n a.tdcs h x f) a.told.now.left.now c.hold_keys.new.told.left.now c.from_residual.result e
    (exit c.from_residual.result e _ c.from_residual.ensures.1 (λ y i. i)) (λ f. c.in_err-hold_keys.ensures.goes (λ u. there n a.tdcs h x f))

pub returns-in_err-has_stream-clause-goes : goal.returns-in_err-has_stream-clause-goes
returns-in_err-has_stream-clause-goes c =
    let a = c.args in
    let n : ℕ = a.machine.pages in
    let h : ClearHeader = clear_header a.header.now in
    let x : Input = input_in a.input.now in
    let e = c.in_err-has_stream.field-0.0 in
    goes-stop n (λ (f : ℕ → Tree). begin_import_tree n a.tdcs h x f) a.told.now.left.now c.has_stream.new.told.left.now c.from_residual-in_err-has_stream.result e
    (exit c.from_residual-in_err-has_stream.result e _ c.from_residual-in_err-has_stream.ensures.1 (λ y i. i))
    (λ f. c.in_ok-hold_keys.ensures.goes (λ u. there n a.tdcs h x f) (Err e) (c.in_err-has_stream.ensures.goes (λ u. first n a.tdcs h x f)))

pub returns-in_err-is_first-clause-goes : goal.returns-in_err-is_first-clause-goes
returns-in_err-is_first-clause-goes c =
    let a = c.args in
    let n : ℕ = a.machine.pages in
    let h : ClearHeader = clear_header a.header.now in
    let x : Input = input_in a.input.now in
    let e = c.in_err-is_first.field-0.0 in
    goes-stop n (λ (f : ℕ → Tree). begin_import_tree n a.tdcs h x f) a.told.now.left.now c.is_first.new.told.left.now c.from_residual-in_err-is_first.result e
    (exit c.from_residual-in_err-is_first.result e _ c.from_residual-in_err-is_first.ensures.1 (λ y i. i))
    (λ f. c.in_ok-hold_keys.ensures.goes (λ u. there n a.tdcs h x f) (Err e) (c.in_ok-has_stream.ensures.goes (λ u. first n a.tdcs h x f) (Err e) (c.in_err-is_first.ensures.goes (λ u. paged n a.tdcs h x f))))

pub returns-in_err-page-clause-goes : goal.returns-in_err-page-clause-goes
returns-in_err-page-clause-goes c =
    let a = c.args in
    let n : ℕ = a.machine.pages in
    let h : ClearHeader = clear_header a.header.now in
    let x : Input = input_in a.input.now in
    let e = c.in_err-page.field-0.0 in
    goes-stop n (λ (f : ℕ → Tree). begin_import_tree n a.tdcs h x f) a.told.now.left.now c.stream_page.new.told.left.now c.from_residual-in_err-page.result e
    (exit c.from_residual-in_err-page.result e _ c.from_residual-in_err-page.ensures.1 (λ y i. i))
    (λ f. c.in_ok-hold_keys.ensures.goes (λ u. there n a.tdcs h x f) (Err e) (c.in_ok-has_stream.ensures.goes (λ u. first n a.tdcs h x f) (Err e)
    (c.in_ok-is_first.ensures.goes (λ u. paged n a.tdcs h x f) (Err e) (c.in_err-page.ensures.goes (tagged n a.tdcs h x f)))))

pub returns-in_err-tag_holds-clause-goes : goal.returns-in_err-tag_holds-clause-goes
returns-in_err-tag_holds-clause-goes c =
    let a = c.args in
    let n : ℕ = a.machine.pages in
    let h : ClearHeader = clear_header a.header.now in
    let x : Input = input_in a.input.now in
    let e = c.in_err-tag_holds.field-0.0 in
    goes-stop n (λ (f : ℕ → Tree). begin_import_tree n a.tdcs h x f) a.told.now.left.now c.stream_page.new.told.left.now c.from_residual-in_err-tag_holds.result e
    (exit c.from_residual-in_err-tag_holds.result e _ c.from_residual-in_err-tag_holds.ensures.1 (λ y i. i))
    (λ f. c.in_ok-hold_keys.ensures.goes (λ u. there n a.tdcs h x f) (Err e) (c.in_ok-has_stream.ensures.goes (λ u. first n a.tdcs h x f) (Err e)
    (c.in_ok-is_first.ensures.goes (λ u. paged n a.tdcs h x f) (Err e) (c.in_ok-page.ensures.goes (tagged n a.tdcs h x f) (Err e) (c.in_err-tag_holds.ensures.goes n (λ u. f c.in_ok-page.page))))))

pub returns-clause-goes : goal.returns-clause-goes
returns-clause-goes c = λ f r end.
    let a = c.args in
    let n : ℕ = a.machine.pages in
    let h : ClearHeader = clear_header a.header.now in
    let x : Input = input_in a.input.now in
    c.in_ok-hold_keys.ensures.goes (λ u. there n a.tdcs h x f) r (c.in_ok-has_stream.ensures.goes (λ u. first n a.tdcs h x f) r
    (c.in_ok-is_first.ensures.goes (λ u. paged n a.tdcs h x f) r (c.in_ok-page.ensures.goes (tagged n a.tdcs h x f) r (c.in_ok-tag_holds.ensures.goes n (λ u. f c.in_ok-page.page) r end))))
