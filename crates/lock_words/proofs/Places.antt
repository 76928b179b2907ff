-- Places that are the same.
use Rattle.std.proofs.Common.{◌≡◌, refl, ℕ, true, ◌==◌}
use Rattle.std.proofs.lemmas.Bool.{eq-eqb}
use Rattle.td_words.specs.Place.{Word, same_place}

pub same-word : (c i j : ℕ) → (i == j) ≡ true → same_place (Word c i) (Word c j) ≡ true
same-word c i j y = rw (eq-eqb c c refl, y) refl
