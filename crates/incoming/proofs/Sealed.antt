-- A sealed bundle comes in as it was made.
use Rattle.std.proofs.Common.{◌≡◌, ◌∙◌, ℕ, List, [], ◌++◌, length, drop, Ok, Bool, true, if◌then◌else◌, refl, ap, sym, arith}
use Rattle.std.proofs.Math.Seq.{drop-append_seam}
use Rattle.std.proofs.lemmas.Slice.Eq.{bytes_eq-Decides}
use Rattle.td_words.specs.declared.headers.Header.{Header}
use Rattle.flat_core.specs.World.{Made}
use Rattle.gcm_seal.specs.Gcm.{mixed}
use Rattle.bundle_format.specs.Headers.{header_bytes}
use Rattle.bundle_texts.specs.Sealed.{with_tag, key_of, iv_bytes, additional_bytes, tag_of, sealed_payload, sealed_bytes}
use Rattle.bundle_texts.proofs.Sizes.{length-tag_bytes}
use Rattle.bundle_texts.proofs.Again.{bundles_again}
use Rattle.incoming.specs.Opened.{opened, opened_by, opened_as, opened_words, words_in, is_right}
use Rattle.incoming.specs.Laws.{IsWhole, SealedComesIn}
use Rattle.incoming.proofs.Words.{words-back}

module _ (forward backward : List ℕ) (m : Made) where
  abbrev tag : List ℕ
  tag = tag_of forward backward m

  abbrev header : Header
  header = with_tag tag m.header

  abbrev text : List ℕ
  text = sealed_payload forward backward m

  header-long : length (header_bytes header) ≡ 64
  header-long = omega (arith, length-tag_bytes (key_of forward backward m.header) (iv_bytes m.header) (additional_bytes m.header) text)

  behind : drop 64 (sealed_bytes forward backward m) ≡ text
  behind = ap (λ (n : ℕ). drop n (header_bytes header ++ text)) (sym header-long) ∙ drop-append_seam (header_bytes header) text

  right : is_right forward backward header text ≡ true
  right = (bytes_eq-Decides tag tag).1 refl

  module _ (whole : IsWhole forward backward m) where
    words : opened_words forward backward header text ≡ m.payload
    words =
        ap (λ (b : Bool). if b then words_in (mixed (key_of forward backward m.header) (iv_bytes m.header) text) else []) right
        ∙ ap words_in (bundles_again.opened forward backward m)
        ∙ words-back m.payload whole.words

    whole-as : opened_as forward backward header text ≡ record { header = Ok m.header; opens = true; payload = m.payload }
    whole-as = λ i. record { header = Ok m.header; opens = right i; payload = words i }

    pub sealed-in : opened forward backward (sealed_bytes forward backward m) ≡ record { header = Ok m.header; opens = true; payload = m.payload }
    sealed-in =
        ap (opened_by forward backward (sealed_bytes forward backward m)) (bundles_again.header forward backward m whole.lawful whole.whole)
        ∙ ap (opened_as forward backward header) behind ∙ whole-as

pub sealed-comes-in : SealedComesIn
sealed-comes-in = λ forward backward m whole. sealed-in forward backward m whole
