-- The host's plain memory accesses, and its look at page metadata (ABI Reference, "TDH.PHYMEM.PAGE.RDMD").
use Rattle.std.specs.Prelude.{ℕ, [], ◌∷◌, if◌then◌else◌}
use Rattle.td_words.specs.declared.refusals.Status.TheVariants.{NotHost}
use Rattle.td_words.specs.declared.replies.Value.TheVariants as value
use Rattle.td_words.specs.declared.machines.Machine.{Machine}
use Rattle.flat_core.specs.Row.{Row, call_row, needs}
use Rattle.flat_core.specs.Arguments.{page_argument, word_argument}
use Rattle.flat_core.specs.Conditions.{is_host, page_shared}
use Rattle.flat_core.specs.Effects.{set_word}

-- HOST.READ PAGE WORD: 0 where the page isn't the host's
abbrev pub host_read : Machine → ℕ → ℕ → Row
host_read m page i = call_row
    (λ w. page_argument m 1 page ∷ word_argument 2 i ∷ page_shared page ∷ [])
    (λ w. w)
    (λ w. value.Number (if is_host w page then w.words page i else 0))

-- HOST.WRITE PAGE WORD VALUE
abbrev pub host_write : Machine → ℕ → ℕ → ℕ → Row
host_write m page i v = call_row
    (λ w. page_argument m 1 page ∷ word_argument 2 i ∷ page_shared page ∷ needs (is_host w page) NotHost ∷ [])
    (set_word page i v)
    (λ w. value.Nothing)

-- PHYMEM.PAGE.RDMD PAGE: kind, owner and BEPOCH
abbrev pub read_metadata : Machine → ℕ → Row
read_metadata m page = call_row
    (λ w. page_argument m 1 page ∷ page_shared page ∷ [])
    (λ w. w)
    (λ w. value.Page (w.pages.kinds page) (w.pages.owners page) (w.pages.blocked page))
