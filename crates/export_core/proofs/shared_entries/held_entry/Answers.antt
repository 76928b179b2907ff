use Rattle.std.proofs.Common.{◌≡◌, true, false, Err, sym, ◌∙◌, subst}
use Rattle.std.specs.List.{list_any}
use Rattle.td_words.specs.declared.refusals.Status.TheVariants.{EptEntryStateIncorrect}
use Rattle.td_words.specs.Packing.{Entry}
use Rattle.flat_core.specs.Tree.{same_state}
use Rattle.leaf_engine.specs.Decides.{Decides}
use Rattle.leaf_engine.specs.Trees.{feed}
use Rattle.leaf_parts.proofs.Parts.{goes-stop, passes, refuses, feed-passes, exit}
use Rattle.export_core.proofs.SharedDecided.{holding, behind_entry}
use Rattle.export_core.proofs.shared_entries.held_entry.Goals as goal

pub returns-in_err-entry-clause-goes : goal.returns-in_err-entry-clause-goes
returns-in_err-entry-clause-goes c =
    let n = c.args.place.machine.pages in let a = c.args.allowed.now in let e = c.in_err-entry.field-0.0 in
    goes-stop n (holding n c.args.tdcs c.args.gpa c.args.at a c.args.page) c.args.told.now.left.now c.entry.new.told.left.now c.from_residual-in_err-entry.result e
    (exit c.from_residual-in_err-entry.result e _ c.from_residual-in_err-entry.ensures.1 (λ y h. h))
    (λ k. rw c.in_ok-lock.ensures.1 (c.in_err-entry.ensures.goes (behind_entry n c.args.tdcs c.args.gpa c.args.at a k)))

pub returns-in_err-check-clause-goes : goal.returns-in_err-check-clause-goes
returns-in_err-check-clause-goes c =
    let n = c.args.place.machine.pages in let a = c.args.allowed.now in let e = c.in_err-check.field-0.0 in
    let f : Entry = record { state = c.entry-2.inside.state; page = c.entry-2.inside.page; mark = c.entry-2.inside.mark } in
    let is : c.in_ok-entry.entry ≡ f = cc in
    let other : list_any (λ s. same_state s f.state) a ≡ false = sym c.is_state_among.ensures ∙ c.in_err-check.ensures.0 in
    goes-stop n (holding n c.args.tdcs c.args.gpa c.args.at a c.args.page) c.args.told.now.left.now c.entry.new.told.left.now c.from_residual-in_err-check.result e
    (exit c.from_residual-in_err-check.result e _ c.from_residual-in_err-check.ensures.1 (λ y h. h))
    (λ k. rw c.in_ok-lock.ensures.1 (c.in_ok-entry.ensures.goes (behind_entry n c.args.tdcs c.args.gpa c.args.at a k) (Err e)
    (subst (λ (x : Entry). Decides n (behind_entry n c.args.tdcs c.args.gpa c.args.at a k x) c.entry.new.told.left.now (Err e)) (sym is)
    (refuses n (list_any (λ s. same_state s f.state) a) (EptEntryStateIncorrect f.state) (k (record { tdcs = c.args.tdcs; page = c.args.at; entry = f })) c.entry.new.told.left.now e other c.in_err-check.ensures.1))))

pub returns-clause-goes : goal.returns-clause-goes
returns-clause-goes c = λ k r d.
    let n = c.args.place.machine.pages in let a = c.args.allowed.now in
    let f : Entry = record { state = c.entry-2.inside.state; page = c.entry-2.inside.page; mark = c.entry-2.inside.mark } in
    let is : c.in_ok-entry.entry ≡ f = cc in
    let fits : list_any (λ s. same_state s f.state) a ≡ true = sym c.is_state_among.ensures ∙ c.in_ok-check.ensures in
    rw c.in_ok-lock.ensures.1 (c.in_ok-entry.ensures.goes (behind_entry n c.args.tdcs c.args.gpa c.args.at a k) r
    (subst (λ (x : Entry). Decides n (behind_entry n c.args.tdcs c.args.gpa c.args.at a k x) c.entry.new.told.left.now r) (sym is)
    (passes n (list_any (λ s. same_state s f.state) a) (EptEntryStateIncorrect f.state) (k (record { tdcs = c.args.tdcs; page = c.args.at; entry = f })) c.entry.new.told.left.now r fits
    (subst (λ (x : Entry). Decides n (k (record { tdcs = c.args.tdcs; page = c.args.at; entry = x })) c.entry.new.told.left.now r) is d))))

pub returns-clause-feeds : goal.returns-clause-feeds
returns-clause-feeds c = λ k.
    let n = c.args.place.machine.pages in let a = c.args.allowed.now in
    let f : Entry = record { state = c.entry-2.inside.state; page = c.entry-2.inside.page; mark = c.entry-2.inside.mark } in
    let is : c.in_ok-entry.entry ≡ f = cc in
    let fits : list_any (λ s. same_state s f.state) a ≡ true = sym c.is_state_among.ensures ∙ c.in_ok-check.ensures in
    rw c.in_ok-lock.ensures.1 (c.in_ok-entry.ensures.feeds (behind_entry n c.args.tdcs c.args.gpa c.args.at a k)
    ∙ subst (λ (x : Entry). feed (behind_entry n c.args.tdcs c.args.gpa c.args.at a k x) c.entry.new.told.left.now ≡ feed (k (record { tdcs = c.args.tdcs; page = c.args.at; entry = x })) c.entry.new.told.left.now) (sym is)
    (feed-passes (list_any (λ s. same_state s f.state) a) (EptEntryStateIncorrect f.state) (k (record { tdcs = c.args.tdcs; page = c.args.at; entry = f })) c.entry.new.told.left.now fits))
