-- Without others no try of a row of an import that names a page besides the TDR page is denied.
use Rattle.std.proofs.Common.{◌≡◌, refl, ℕ, [], Option, false, ◌==◌}
use Rattle.td_words.specs.declared.machines.Machine.{Machine}
use Rattle.flat_core.specs.World.{World}
use Rattle.flat_core.specs.Opening.{Incoming}
use Rattle.flat_core.specs.ImportRows.{import_vp}
use Rattle.flat_alone.proofs.Free.{FreeTries, other_page}

pub import_vp-free : (m : Machine) (b : Option Incoming) (t v slot : ℕ) (w : World) → FreeTries [] ((import_vp m b t v slot).items w)
import_vp-free m b t v slot w = λ a d apart there form type. (
  refl,
  refl,
  λ root living two. (refl, refl, λ s. (let n : (t == v) ≡ false = other_page v t apart in (refl, rw n refl, λ page created session epoch index counter tag. tt))),
)
