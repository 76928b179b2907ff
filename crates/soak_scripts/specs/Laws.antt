-- Both scripts are in form, as one that is read.
use Rattle.std.specs.Prelude.{ℕ, ◌≤◌}
use Rattle.script_text.specs.Laws.{IsInForm}
use Rattle.soak_scripts.specs.Soak.{source_script, destination_script}

pub record SoaksAreInForm : Type 0 where
  pub source : (n : ℕ) → n ≤ 512 → IsInForm (source_script n)
  pub destination : (n : ℕ) → n ≤ 512 → IsInForm (destination_script n)
