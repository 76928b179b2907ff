use Rattle.std.proofs.Common.{◌≡◌, ◌∙◌, ◌∷◌, [], ◌/◌, ◌%◌, ap₂, ap, sym, List, ℕ, arith}
use Rattle.aes_block.specs.Aes.{xor_word, stirred}
use Rattle.aes_block.proofs.Words.{constant_is}
use Rattle.aes_block.proofs.key_schedules.stirred.Goals as goal

pub returns-then-i-eq0 : goal.returns-then-i-eq0
returns-then-i-eq0 c =
    let zero_there : c.args.i % 8 ≡ 0 = omega arith in
    c.xor_word.ensures ∙ ap₂ (λ (a : List ℕ) (x : ℕ). xor_word a (x ∷ 0 ∷ 0 ∷ 0 ∷ [])) c.sub_word.ensures (constant_is (c.args.i / 8) (omega arith) (omega arith))
    ∙ sym (ap (stirred c.args.w c.args.i) zero_there)
