use Rattle.std.proofs.Common.{ap, sym, subst, ◌∙◌, take, drop, arith, Ok, codes}
use Rattle.std.proofs.lemmas.List.{length-take-le}
use Rattle.report_core.specs.declared.facts.Facts.{Facts}
use Rattle.report_core.specs.Hmac.{hmac_sha384}
use Rattle.report_core.specs.Report.{report_of, AreFacts, IsFileOf, HasLength}
use Rattle.report_core.proofs.Files.{file_long, file_decodes_sized, digits_decode, alike, unlike, all_digits, magic_seen, magic_there, mac_seen, told, report_magic, report_mac, report_facts}
use Rattle.report_core.proofs.reports.check_report.Goals.{then-file-ne721-via-then-file-ne721, then-file-ne721-via-else-file-ne721+then-file-ne10}
use Rattle.report_core.proofs.reports.check_report.Goals as goal

pub returns-then-file-ne721-clause-accepted : goal.returns-then-file-ne721-clause-accepted
returns-then-file-ne721-clause-accepted c f a h =
    let long = file_long c.args.key.now c.args.file.now f a h in
    elim c.then-file-ne721.branch [
      | then-file-ne721-via-then-file-ne721 w ↦ absurd (w.if-file-ne721.true long.0)
      | then-file-ne721-via-else-file-ne721+then-file-ne10 w ↦ absurd (w.if-file-ne10.true long.1)
    ]

pub slice_bounds-from_hex-end : goal.slice_bounds-from_hex-end
slice_bounds-from_hex-end c = sym (length-take-le 720 c.args.file.now (omega (arith, c.if-file-ne721.false)))

pub returns-in_default-clause-accepted : goal.returns-in_default-clause-accepted
returns-in_default-clause-accepted c f a h =
    absurd (c.in_default.not-Ok (report_of c.args.key.now f) (c.from_hex.ensures ∙ file_decodes_sized c.args.key.now c.args.file.now f a h))

pub returns-in_default-clause-refused : goal.returns-in_default-clause-refused
returns-in_default-clause-refused c =
    let long : HasLength c.args.file.now = (c.if-file-ne721.false, c.if-file-ne10.false) in
    (long, λ all. let r = digits_decode c.args.file.now long all in c.in_default.not-Ok r.0 (c.from_hex.ensures ∙ r.1))

pub returns-then-ne-clause-accepted : goal.returns-then-ne-clause-accepted
returns-then-ne-clause-accepted c f a h =
    let long : HasLength c.args.file.now = (c.if-file-ne721.false, c.if-file-ne10.false) in
    let bytes = sym c.from_hex.ensures ∙ c.in-Ok.is in
    absurd (unlike c.ne.result (take 8 c.in-Ok.report) c.as_slice.result.now (codes "TDXREP01") c.ne.ensures c.if-ne.true c.as_slice.ensures
    (report_magic c.args.key.now c.args.file.now c.in-Ok.report long bytes f a h))

pub returns-then-ne-clause-refused : goal.returns-then-ne-clause-refused
returns-then-ne-clause-refused c =
    let long : HasLength c.args.file.now = (c.if-file-ne721.false, c.if-file-ne10.false) in
    let bytes = sym c.from_hex.ensures ∙ c.in-Ok.is in (
      long,
      all_digits c.args.key.now c.args.file.now c.in-Ok.report long bytes,
      λ m. unlike c.ne.result (take 8 c.in-Ok.report) c.as_slice.result.now (codes "TDXREP01") c.ne.ensures c.if-ne.true c.as_slice.ensures
          (magic_seen c.args.key.now c.args.file.now c.in-Ok.report long bytes m),
    )

pub slice_bounds-hmac-end : goal.slice_bounds-hmac-end
slice_bounds-hmac-end c = sym (length-take-le 312 c.in-Ok.report (omega arith))

pub returns-then-ne-2-clause-accepted : goal.returns-then-ne-2-clause-accepted
returns-then-ne-2-clause-accepted c f a h =
    let long : HasLength c.args.file.now = (c.if-file-ne721.false, c.if-file-ne10.false) in
    let bytes = sym c.from_hex.ensures ∙ c.in-Ok.is in
    absurd (unlike c.ne-2.result (take 48 (drop 312 c.in-Ok.report)) c.as_slice-2.result.now (hmac_sha384 c.args.key.now (take 312 c.in-Ok.report)) c.ne-2.ensures c.if-ne-2.true (c.as_slice-2.ensures ∙ c.hmac-due.ensures)
    (report_mac c.args.key.now c.args.file.now c.in-Ok.report long bytes f a h))

pub returns-then-ne-2-clause-refused : goal.returns-then-ne-2-clause-refused
returns-then-ne-2-clause-refused c =
    let long : HasLength c.args.file.now = (c.if-file-ne721.false, c.if-file-ne10.false) in
    let bytes = sym c.from_hex.ensures ∙ c.in-Ok.is in
    let magic = alike c.ne.result (take 8 c.in-Ok.report) c.as_slice.result.now (codes "TDXREP01") c.ne.ensures c.if-ne.false c.as_slice.ensures in (
      long,
      all_digits c.args.key.now c.args.file.now c.in-Ok.report long bytes,
      magic_there c.args.key.now c.args.file.now c.in-Ok.report long bytes magic,
      λ m. unlike c.ne-2.result (take 48 (drop 312 c.in-Ok.report)) c.as_slice-2.result.now (hmac_sha384 c.args.key.now (take 312 c.in-Ok.report)) c.ne-2.ensures c.if-ne-2.true (c.as_slice-2.ensures ∙ c.hmac-due.ensures)
          (mac_seen c.args.key.now c.args.file.now c.in-Ok.report long bytes m),
    )

pub returns-clause-told : goal.returns-clause-told
returns-clause-told c =
    let long : HasLength c.args.file.now = (c.if-file-ne721.false, c.if-file-ne10.false) in
    let bytes = sym c.from_hex.ensures ∙ c.in-Ok.is in
    let magic = alike c.ne.result (take 8 c.in-Ok.report) c.as_slice.result.now (codes "TDXREP01") c.ne.ensures c.if-ne.false c.as_slice.ensures in
    let mac = alike c.ne-2.result (take 48 (drop 312 c.in-Ok.report)) c.as_slice-2.result.now (hmac_sha384 c.args.key.now (take 312 c.in-Ok.report)) c.ne-2.ensures c.if-ne-2.false (c.as_slice-2.ensures ∙ c.hmac-due.ensures) in
    subst (λ (f : Facts). AreFacts f × IsFileOf c.args.key.now c.args.file.now f) (sym c.read_facts.ensures) (told c.args.key.now c.args.file.now c.in-Ok.report long bytes magic mac)

pub returns-clause-accepted : goal.returns-clause-accepted
returns-clause-accepted c f a h =
    let long : HasLength c.args.file.now = (c.if-file-ne721.false, c.if-file-ne10.false) in
    let bytes = sym c.from_hex.ensures ∙ c.in-Ok.is in
    ap Ok (c.read_facts.ensures ∙ report_facts c.args.key.now c.args.file.now c.in-Ok.report long bytes f a h)
