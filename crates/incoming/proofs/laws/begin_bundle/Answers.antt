use Rattle.std.proofs.Common.{◌∙◌, ◌++◌, List, ℕ, ap, sym}
use Rattle.td_words.specs.declared.headers.Header.{Header}
use Rattle.bundle_format.specs.Headers.{header_bytes}
use Rattle.bundle_texts.specs.Sealed.{sealed_payload}
use Rattle.incoming.proofs.laws.begin_bundle.Goals as goal

pub returns-clause-sealed : goal.returns-clause-sealed
returns-clause-sealed c forward backward m is =
    let payload : List ℕ = sealed_payload forward backward m in
    ap (λ (h : Header). header_bytes h ++ payload) is ∙ ap (λ (bytes : List ℕ). bytes ++ payload) (sym c.write_header.ensures)

pub returns-clause-read : goal.returns-clause-read
returns-clause-read c text small is =
    let behind = c.headers_read_again.ensures.read_from text c.args.header.now small is in
    (behind.0, behind.1.spelled ∙ ap (λ (bytes : List ℕ). bytes ++ behind.0) (sym c.write_header.ensures))
