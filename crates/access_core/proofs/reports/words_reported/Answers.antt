use Rattle.std.proofs.Common.{[], ◌∷◌, Ok, Err, ap, ◌∙◌}
use Rattle.td_words.specs.declared.replies.Value.TheVariants as value
use Rattle.td_words.specs.declared.replies.Reply.TheVariants.{Done}
use Rattle.leaf_engine.specs.declared.plans.Stop.TheVariants as stop
use Rattle.leaf_parts.proofs.Parts.{exit}
use Rattle.access_core.specs.OperationTrees.{put_next}
use Rattle.access_core.specs.RtmrTrees.{register_at}
use Rattle.access_core.specs.ReportTrees.{mrtd_at, rtmrs_at}
use Rattle.access_core.proofs.ReportsTold.{behind-r, behind-fed, run-stops, run-goes, run-fed, by_registers, by_rtmrs, by_mrtd, ends-stop, ends-fed, ends-as}
use Rattle.access_core.proofs.reports.words_reported.Goals as goal

pub returns-in_err-mrtd-clause-comes : goal.returns-in_err-mrtd-clause-comes
returns-in_err-mrtd-clause-comes c = λ line.
    let m = c.args.place.machine in
    let v = c.args.vp in
    let d = c.page_told-tdcs.result in
    let ys = c.lock.new.self.left.now in
    let e = c.in_err-mrtd.field-0.0 in
    rw (exit c.from_residual-in_err-mrtd.result e _ c.from_residual-in_err-mrtd.ensures.1 (λ y h. h))
    (behind-r m c.args.tdr v line c.in_ok-word.word _ d c.args.told.now c.load.new.self.left.now ys c.in_ok-word.ensures c.in_ok-lock.ensures.1 c.page_told-tdcs.ensures (Err e)
    (run-stops m.pages (mrtd_at d) 6 (by_mrtd v line d) ys e c.in_err-mrtd.ensures.told.0 c.in_err-mrtd.ensures.told.1))

pub returns-in_err-rtmrs-clause-comes : goal.returns-in_err-rtmrs-clause-comes
returns-in_err-rtmrs-clause-comes c = λ line.
    let m = c.args.place.machine in
    let v = c.args.vp in
    let d = c.page_told-tdcs.result in
    let ys = c.lock.new.self.left.now in
    let zs = c.words_told.new.told.left.now in
    let mrtd = c.in_ok-mrtd.mrtd.now in
    let a = c.in_ok-mrtd.ensures.told in
    let e = c.in_err-rtmrs.field-0.0 in
    rw (exit c.from_residual-in_err-rtmrs.result e _ c.from_residual-in_err-rtmrs.ensures.1 (λ y h. h))
    (behind-r m c.args.tdr v line c.in_ok-word.word _ d c.args.told.now c.load.new.self.left.now ys c.in_ok-word.ensures c.in_ok-lock.ensures.1 c.page_told-tdcs.ensures (Err e)
    (run-goes m.pages (mrtd_at d) 6 (by_mrtd v line d) ys zs mrtd a.0 a.1 a.2 (Err e)
    (run-stops m.pages (rtmrs_at d) 24 (by_rtmrs v line mrtd) zs e c.in_err-rtmrs.ensures.told.0 c.in_err-rtmrs.ensures.told.1)))

pub returns-in_err-registers-clause-comes : goal.returns-in_err-registers-clause-comes
returns-in_err-registers-clause-comes c = λ line.
    let m = c.args.place.machine in
    let v = c.args.vp in
    let d = c.page_told-tdcs.result in
    let ys = c.lock.new.self.left.now in
    let zs = c.words_told.new.told.left.now in
    let us = c.words_told-2.new.told.left.now in
    let mrtd = c.in_ok-mrtd.mrtd.now in
    let rtmrs = c.in_ok-rtmrs.rtmrs.now in
    let a = c.in_ok-mrtd.ensures.told in
    let b = c.in_ok-rtmrs.ensures.told in
    let e = c.in_err-registers.field-0.0 in
    rw (exit c.from_residual-in_err-registers.result e _ c.from_residual-in_err-registers.ensures.1 (λ y h. h))
    (behind-r m c.args.tdr v line c.in_ok-word.word _ d c.args.told.now c.load.new.self.left.now ys c.in_ok-word.ensures c.in_ok-lock.ensures.1 c.page_told-tdcs.ensures (Err e)
    (run-goes m.pages (mrtd_at d) 6 (by_mrtd v line d) ys zs mrtd a.0 a.1 a.2 (Err e)
    (run-goes m.pages (rtmrs_at d) 24 (by_rtmrs v line mrtd) zs us rtmrs b.0 b.1 b.2 (Err e)
    (run-stops m.pages (register_at v) 8 (by_registers v line mrtd rtmrs) us e c.in_err-registers.ensures.told.0 c.in_err-registers.ensures.told.1))))

pub returns-in_err-position-clause-comes : goal.returns-in_err-position-clause-comes
returns-in_err-position-clause-comes c = λ line.
    let m = c.args.place.machine in
    let v = c.args.vp in
    let d = c.page_told-tdcs.result in
    let ys = c.lock.new.self.left.now in
    let zs = c.words_told.new.told.left.now in
    let us = c.words_told-2.new.told.left.now in
    let ws = c.words_told-3.new.told.left.now in
    let mrtd = c.in_ok-mrtd.mrtd.now in
    let rtmrs = c.in_ok-rtmrs.rtmrs.now in
    let registers = c.in_ok-registers.registers.now in
    let a = c.in_ok-mrtd.ensures.told in
    let b = c.in_ok-rtmrs.ensures.told in
    let k = c.in_ok-registers.ensures.told in
    let e = c.in_err-position.field-0.0 in
    rw (exit c.from_residual-in_err-position.result e _ c.from_residual-in_err-position.ensures.1 (λ y h. h))
    (behind-r m c.args.tdr v line c.in_ok-word.word _ d c.args.told.now c.load.new.self.left.now ys c.in_ok-word.ensures c.in_ok-lock.ensures.1 c.page_told-tdcs.ensures (Err e)
    (run-goes m.pages (mrtd_at d) 6 (by_mrtd v line d) ys zs mrtd a.0 a.1 a.2 (Err e)
    (run-goes m.pages (rtmrs_at d) 24 (by_rtmrs v line mrtd) zs us rtmrs b.0 b.1 b.2 (Err e)
    (run-goes m.pages (register_at v) 8 (by_registers v line mrtd rtmrs) us ws registers k.0 k.1 k.2 (Err e)
    (ends-stop m.pages v line mrtd rtmrs registers ws e c.in_err-position.ensures.0 (c.in_err-position.ensures.1 ∙ ap stop.Load c.word_address-3.ensures))))))

pub returns-clause-comes : goal.returns-clause-comes
returns-clause-comes c = λ line.
    let m = c.args.place.machine in
    let v = c.args.vp in
    let d = c.page_told-tdcs.result in
    let ys = c.lock.new.self.left.now in
    let zs = c.words_told.new.told.left.now in
    let us = c.words_told-2.new.told.left.now in
    let ws = c.words_told-3.new.told.left.now in
    let mrtd = c.in_ok-mrtd.mrtd.now in
    let rtmrs = c.in_ok-rtmrs.rtmrs.now in
    let registers = c.in_ok-registers.registers.now in
    let a = c.in_ok-mrtd.ensures.told in
    let b = c.in_ok-rtmrs.ensures.told in
    let k = c.in_ok-registers.ensures.told in
    let at = c.in_ok-position.position in
    let end = Ok (record { reply = Done value.Nothing; changes = put_next v at ∷ [] }) in (
      behind-fed m c.args.tdr v line c.in_ok-word.word _ d c.args.told.now c.load.new.self.left.now ys c.in_ok-word.ensures c.in_ok-lock.ensures.1 c.page_told-tdcs.ensures
          ∙ (run-fed m.pages (mrtd_at d) 6 (by_mrtd v line d) ys zs mrtd a.0 a.1 a.2
          ∙ (run-fed m.pages (rtmrs_at d) 24 (by_rtmrs v line mrtd) zs us rtmrs b.0 b.1 b.2
          ∙ (run-fed m.pages (register_at v) 8 (by_registers v line mrtd rtmrs) us ws registers k.0 k.1 k.2
          ∙ ends-fed v line mrtd rtmrs registers at ws _ c.in_ok-position.ensures))),
      behind-r m c.args.tdr v line c.in_ok-word.word _ d c.args.told.now c.load.new.self.left.now ys c.in_ok-word.ensures c.in_ok-lock.ensures.1 c.page_told-tdcs.ensures end
          (run-goes m.pages (mrtd_at d) 6 (by_mrtd v line d) ys zs mrtd a.0 a.1 a.2 end
          (run-goes m.pages (rtmrs_at d) 24 (by_rtmrs v line mrtd) zs us rtmrs b.0 b.1 b.2 end
          (run-goes m.pages (register_at v) 8 (by_registers v line mrtd rtmrs) us ws registers k.0 k.1 k.2 end
          (ends-as m.pages v line mrtd rtmrs registers at ws _ c.in_ok-position.ensures)))),
    )
