-- In the rows of an import arguments come before all tries, and are the same in every world.
use Rattle.std.proofs.Common.{refl, ℕ, Option}
use Rattle.td_words.specs.declared.machines.Machine.{Machine}
use Rattle.flat_core.specs.World.{World}
use Rattle.flat_core.specs.Opening.{Incoming}
use Rattle.flat_core.specs.ImportRows.{import_immutable, import_token, import_td, import_vp, commit_import, end_import, abort_import, abort_by_token}
use Rattle.flat_core.proofs.Ordered.{IsOrdered}

pub import_immutable-ordered : (m : Machine) (b : Option Incoming) (t slot : ℕ) (w : World) → IsOrdered 0 ((import_immutable m b t slot).items w)
import_immutable-ordered m b t slot w = (refl, (tt, (tt, (tt, (tt, (tt, (tt, (tt, (tt, (tt, (tt, (tt, (tt, tt)))))))))))))

pub import_token-ordered : (m : Machine) (b : Option Incoming) (t slot : ℕ) (w : World) → IsOrdered 0 ((import_token m b t slot).items w)
import_token-ordered m b t slot w = (refl, (tt, (tt, (tt, (tt, (tt, (tt, (tt, (tt, (tt, (tt, (tt, (tt, tt)))))))))))))

pub import_td-ordered : (m : Machine) (b : Option Incoming) (t slot : ℕ) (w : World) → IsOrdered 0 ((import_td m b t slot).items w)
import_td-ordered m b t slot w = (refl, (tt, (tt, (tt, (tt, (tt, (tt, (tt, (tt, (tt, (tt, (tt, tt))))))))))))

pub import_vp-ordered : (m : Machine) (b : Option Incoming) (t v slot : ℕ) (w : World) → IsOrdered 0 ((import_vp m b t v slot).items w)
import_vp-ordered m b t v slot w = (refl, (refl, (refl, (tt, (tt, (tt, (tt, (tt, (tt, (tt, (tt, (tt, (tt, (tt, (tt, (tt, (tt, tt)))))))))))))))))

pub commit_import-ordered : (m : Machine) (t : ℕ) (w : World) → IsOrdered 0 ((commit_import m t).items w)
commit_import-ordered m t w = (refl, (tt, (tt, (tt, (tt, tt)))))

pub end_import-ordered : (m : Machine) (t : ℕ) (w : World) → IsOrdered 0 ((end_import m t).items w)
end_import-ordered m t w = (refl, (tt, (tt, (tt, (tt, tt)))))

pub abort_import-ordered : (m : Machine) (t slot : ℕ) (w : World) → IsOrdered 0 ((abort_import m t slot).items w)
abort_import-ordered m t slot w = (refl, (tt, (tt, (tt, (tt, tt)))))

pub abort_by_token-ordered : (m : Machine) (b : Option Incoming) (t slot : ℕ) (w : World) → IsOrdered 0 ((abort_by_token m b t slot).items w)
abort_by_token-ordered m b t slot w = (refl, (tt, (tt, (tt, (tt, (tt, (tt, (tt, (tt, (tt, (tt, tt)))))))))))
