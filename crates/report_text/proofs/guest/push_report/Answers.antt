use Rattle.std.proofs.Common.{◌≡◌, ◌-◌, ◌∷◌, [], ◌++◌, take, drop, ap, subst, ◌∙◌, codes}
use Rattle.std.specs.Fmt.{decimal}
use Rattle.std.proofs.lemmas.List.{take_rest}
use Rattle.td_words.specs.ReplyText.{digest_text}
use Rattle.report_core.specs.Report.{report_of}
use Rattle.report_text.proofs.Reports.{line_of, two_pieces}
use Rattle.report_text.proofs.guest.push_report.Goals as goal

pub returns : goal.returns
returns c =
    let at = c.write_head-at.result in
    let line = c.write_head-at.new.line in
    let digits = digest_text (report_of c.args.key.now c.args.facts.now) in
    let head = decimal c.args.lp ++ (codes "." ++ (decimal c.args.number ++ codes " report ")) in
    let whole : take (72 - at) (drop at line) ≡ drop at line = subst (λ n. take (n - at) (drop at line) ≡ drop at line) c.write_head-at.array_long (take_rest line at) in
    two_pieces c.extend_from_slice-2.result _ c.extend_from_slice.new.self.items c.args.text.now.items _ _ _ c.extend_from_slice-2.ensures.items c.in_ok-extend_from_slice.ensures.items
    (ap (λ front. front ++ c.report_digits.result) (whole ∙ c.write_head-at.ensures.written) ∙ ap (λ rest. head ++ rest) (c.report_digits.ensures ∙ ap (λ report. digest_text report ++ 10 ∷ []) c.make_report.ensures) ∙ line_of (decimal c.args.lp) (decimal c.args.number) digits)
