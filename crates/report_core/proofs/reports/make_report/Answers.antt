use Rattle.std.proofs.Common.{◌≡◌, ◌++◌, ap, sym, ◌∙◌, take, codes, arith}
use Rattle.std.proofs.lemmas.List.{take_all, length-take-le}
use Rattle.report_core.specs.Hmac.{hmac_sha384}
use Rattle.report_core.specs.Report.{report_text}
use Rattle.report_core.proofs.Pieces.{six_pieces, behind}
use Rattle.report_core.proofs.reports.make_report.Goals as goal

pub slice_bounds-hmac-end : goal.slice_bounds-hmac-end
slice_bounds-hmac-end c = sym (length-take-le 312 c.put-7.new.report (omega (arith, c.put-7.array_long)))

pub returns : goal.returns
returns c =
    let f = c.args.facts.now in
    let p1 : take 8 c.put.new.report ≡ codes "TDXREP01" = c.put.ensures in
    let p2 = behind 56 _ _ _ f.mrtd c.put-2.ensures p1 in
    let p3 = behind 104 _ _ _ f.rtmr0 c.put-3.ensures p2 in
    let p4 = behind 152 _ _ _ f.rtmr1 c.put-4.ensures p3 in
    let p5 = behind 200 _ _ _ f.rtmr2 c.put-5.ensures p4 in
    let p6 = behind 248 _ _ _ f.rtmr3 c.put-6.ensures p5 in
    let p7 = behind 312 _ _ _ f.given c.put-7.ensures p6 in
    let text : take 312 c.put-7.new.report ≡ report_text f = six_pieces (λ l. take 312 c.put-7.new.report ≡ l) (codes "TDXREP01") f.mrtd f.rtmr0 f.rtmr1 f.rtmr2 f.rtmr3 f.given p7 in
    sym (take_all 360 c.put-8.new.report (omega (arith, c.put-8.array_long))) ∙ behind 360 _ _ _ _ c.put-8.ensures text
    ∙ ap (λ l. report_text f ++ l) (c.hmac-mac.ensures ∙ ap (λ t. hmac_sha384 c.args.key.now t) text)
