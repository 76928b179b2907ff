use Rattle.std.proofs.Common.{ℕ, List, Ok, Err, ◌∷◌, [], refl, ap, ◌∙◌, subst}
use Rattle.td_words.specs.declared.names.OpState.{OpState}
use Rattle.flat_core.specs.World.{ClearHeader}
use Rattle.flat_core.specs.Inputs.{Input, input_in}
use Rattle.flat_core.specs.ImportRows.{is_start, import_token_ops}
use Rattle.leaf_engine.specs.Trees.{Tree}
use Rattle.leaf_parts.specs.Parts.{Goes}
use Rattle.leaf_parts.proofs.Parts.{exit}
use Rattle.stream_parts.specs.declared.rooms.Room.{Room}
use Rattle.import_parts.specs.InputTrees.{input_alone_tree}
use Rattle.import_core.specs.TokenTrees.{token_due_tree, import_token_end}
use Rattle.import_core.proofs.tokens.ImportTokenPlan.decide.Goals as goal

abbrev next : (n : ℕ) → Input → ℕ → Tree
next n x d = token_due_tree n d x.header x (import_token_end x.header d)

pub returns-in_err-tdcs-clause-decides : goal.returns-in_err-tdcs-clause-decides
returns-in_err-tdcs-clause-decides c =
    let l = c.args.self.now in
    let n : ℕ = l.place.machine.pages in
    let x : Input = input_in l.input in
    let e = c.in_err-tdcs.field-0.0 in
    let ops = c.token_ops.ensures ∙ ap (λ (h : ClearHeader). import_token_ops (is_start h)) c.header_of-header.ensures in
    let here = subst (λ (os : List OpState). Goes {A = ℕ} n (λ f. input_alone_tree n x l.tdr l.slot (4 ∷ 5 ∷ []) os f) c.args.told.left.now c.input_alone.new.told.left.now (Err e)) ops c.in_err-tdcs.ensures.goes in
    rw (exit c.from_residual.result e _ c.from_residual.ensures.1 (λ y h. h)) (here (next n x))

pub returns-in_err-room-clause-decides : goal.returns-in_err-room-clause-decides
returns-in_err-room-clause-decides c =
    let l = c.args.self.now in
    let n : ℕ = l.place.machine.pages in
    let x : Input = input_in l.input in
    let d : ℕ = c.in_ok-tdcs.tdcs in
    let e = c.in_err-room.field-0.0 in
    let ops = c.token_ops.ensures ∙ ap (λ (h : ClearHeader). import_token_ops (is_start h)) c.header_of-header.ensures in
    let first = subst (λ (os : List OpState). Goes {A = ℕ} n (λ f. input_alone_tree n x l.tdr l.slot (4 ∷ 5 ∷ []) os f) c.args.told.left.now c.input_alone.new.told.left.now (Ok d)) ops c.in_ok-tdcs.ensures.goes in
    let here = subst (λ (h : ClearHeader). Goes {A = Room} n (λ f. token_due_tree n d h x f) c.input_alone.new.told.left.now c.token_due.new.told.left.now (Err e)) c.header_of-header.ensures c.in_err-room.ensures.goes in
    rw (exit c.from_residual-in_err-room.result e _ c.from_residual-in_err-room.ensures.1 (λ y h. h)) (first (next n x) (Err e) (here (import_token_end x.header d)))

pub returns-clause-decides : goal.returns-clause-decides
returns-clause-decides c =
    let l = c.args.self.now in
    let n : ℕ = l.place.machine.pages in
    let x : Input = input_in l.input in
    let d : ℕ = c.in_ok-tdcs.tdcs in
    let ops = c.token_ops.ensures ∙ ap (λ (h : ClearHeader). import_token_ops (is_start h)) c.header_of-header.ensures in
    let epoch = ap (λ (h : ClearHeader). h.epoch) c.header_of-header.ensures in
    let first = subst (λ (os : List OpState). Goes {A = ℕ} n (λ f. input_alone_tree n x l.tdr l.slot (4 ∷ 5 ∷ []) os f) c.args.told.left.now c.input_alone.new.told.left.now (Ok d)) ops c.in_ok-tdcs.ensures.goes in
    let here = subst (λ (h : ClearHeader). Goes {A = Room} n (λ f. token_due_tree n d h x f) c.input_alone.new.told.left.now c.token_due.new.told.left.now (Ok c.in_ok-room.room)) c.header_of-header.ensures c.in_ok-room.ensures.goes in
    first (next n x) _ (here (import_token_end x.header d) _ (rw (c.done.ensures, c.from.ensures, c.from-2.ensures, epoch) (refl, refl)))
