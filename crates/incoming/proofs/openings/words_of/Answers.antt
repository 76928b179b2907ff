use Rattle.std.proofs.Common.{◌≡◌, ◌∙◌, ◌/◌, ℕ, length, ap, arith}
use Rattle.std.proofs.lemmas.List.{take_at, length-replicate}
use Rattle.incoming.proofs.Words.{words-read}
use Rattle.incoming.proofs.openings.words_of.Goals as goal

pub returns : goal.returns
returns c =
    let long : length c.read_u64_into.new.dst ≡ c.in_ok-words.words.len = omega (arith, c.read_u64_into.auto.dst, ap length c.deref_mut.ensures.value, c.in_ok-words.words.ok) in
    let count : length c.read_u64_into.new.dst ≡ length c.args.bytes.now / 8 = omega (arith, c.read_u64_into.auto.dst, ap length c.deref_mut.ensures.value, ap length c.in_ok-words.ensures, length-replicate {A = ℕ} (length c.args.bytes.now / 8) 0) in
    take_at c.read_u64_into.new.dst _ c.in_ok-words.words.len long
    ∙ words-read c.args.bytes.now c.read_u64_into.new.dst count c.read_u64_into.ensures
