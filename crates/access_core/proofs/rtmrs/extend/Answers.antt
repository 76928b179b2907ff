use Rattle.std.proofs.Common.{ℕ, ◌+◌, ◌*◌, List, None, Ok, Err, ap, ◌∙◌}
use Rattle.td_words.specs.declared.names.EntryState.TheVariants.{Free}
use Rattle.td_words.specs.declared.replies.Value.TheVariants.{Digest}
use Rattle.td_words.specs.declared.replies.Reply.TheVariants.{Done}
use Rattle.flat_core.specs.Digests.{digest_bytes}
use Rattle.leaf_engine.specs.Decides.{ending}
use Rattle.leaf_engine.specs.Trees.{Tree}
use Rattle.leaf_parts.proofs.Parts.{exit}
use Rattle.access_core.specs.OperationTrees.{with_position}
use Rattle.access_core.specs.RtmrTrees.{with_words, register_at, extension, extended, rtmr_changes}
use Rattle.access_core.proofs.Extensions.{rtmr-words, extended-told}
use Rattle.access_core.proofs.rtmrs.extend.Goals as goal

abbrev last : (v line d i : ℕ) (old registers : List ℕ) → Tree
last v line d i old registers = with_position v (λ at. extended v line d i at (extension old registers))

abbrev further : (v line d i : ℕ) (old : List ℕ) → Tree
further v line d i old = with_words (register_at v) 0 6 (last v line d i old)

pub returns-in_err-old-clause-decides : goal.returns-in_err-old-clause-decides
returns-in_err-old-clause-decides c = λ line.
    rw (exit c.from_residual.result c.in_err-old.field-0.0 _ c.from_residual.ensures.1 (λ y h. h))
    (rtmr-words c.args.place.machine.pages c.args.tdcs c.args.index (16 + 6 * c.from.result) (ap (λ (i : ℕ). 16 + 6 * i) c.from.ensures) (further c.args.vp line c.args.tdcs c.args.index) c.args.told.left.now (Err c.in_err-old.field-0.0)
    (c.in_err-old.ensures.goes (further c.args.vp line c.args.tdcs c.args.index)))

pub returns-in_err-given-clause-decides : goal.returns-in_err-given-clause-decides
returns-in_err-given-clause-decides c = λ line.
    rw (exit c.from_residual-in_err-given.result c.in_err-given.field-0.0 _ c.from_residual-in_err-given.ensures.1 (λ y h. h))
    (rtmr-words c.args.place.machine.pages c.args.tdcs c.args.index (16 + 6 * c.from.result) (ap (λ (i : ℕ). 16 + 6 * i) c.from.ensures) (further c.args.vp line c.args.tdcs c.args.index) c.args.told.left.now (Err c.in_err-given.field-0.0)
    (c.in_ok-old.ensures.goes (further c.args.vp line c.args.tdcs c.args.index) (Err c.in_err-given.field-0.0)
    (c.in_err-given.ensures.goes (last c.args.vp line c.args.tdcs c.args.index c.in_ok-old.old))))

pub returns-clause-decides : goal.returns-clause-decides
returns-clause-decides c = λ line.
    let n = c.args.place.machine.pages in
    let v = c.args.vp in
    let d = c.args.tdcs in
    let i = c.args.index in
    let r = ending (λ a. rtmr_changes v i a.page a.count c.args.told.left.now) (Ok (record { reply = Done (Digest c.digest.result); act = record { page = d; hkid = 0; count = c.in_ok-position.position; children = 0; named = 0; state = Free; epoch = 0; cleared = None } })) in
    rtmr-words n d i (16 + 6 * c.from.result) (ap (λ (k : ℕ). 16 + 6 * k) c.from.ensures) (further v line d i) c.args.told.left.now r
    (c.in_ok-old.ensures.goes (further v line d i) r
    (c.in_ok-given.ensures.goes (last v line d i c.in_ok-old.old) r
    (extended-told c.args.told.left.now c.in_ok-old.old c.six_told.new.told.left.now c.in_ok-given.given c.six_told-2.new.told.left.now c.in_ok-old.ensures.told c.in_ok-given.ensures.told c.in_ok-old.ensures.inside c.in_ok-given.ensures.inside
    n v line d i c.in_ok-position.position c.load.new.self.left.now c.digest.result c.in_ok-position.ensures (c.digest.ensures ∙ ap digest_bytes c.extension.ensures))))
