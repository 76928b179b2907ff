use Rattle.std.proofs.Common.{◌≡◌, take, None}
use Rattle.bundle_store.specs.Held.{contents_in}
use Rattle.bundle_store.proofs.held.place_of.Given as goal

abbrev pub invariant-loop-i : goal.invariant-loop-i
invariant-loop-i l = contents_in (take l.i l.files) l.name ≡ None
