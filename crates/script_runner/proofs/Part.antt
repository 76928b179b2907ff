-- What a put added is a front of what was to be put.
use Rattle.std.proofs.Common.{refl, sym, ap, ◌∙◌, ℕ, List, [], append-nil, length, Option, Some, None, Result, Ok, Err}
use Rattle.std.proofs.Math.Seq.{take-length}
use Rattle.bundle_store.specs.declared.outside.PutFault.{PutFault}
use Rattle.bundle_store.specs.declared.outside.PutFault.TheVariants as put
use Rattle.bundle_store.specs.Outside.{PutsTold, Gains}
use Rattle.script_runner.specs.Ends.{PutsPart}

nothing : (old : Option (List ℕ)) → Gains old [] old
nothing None = refl
nothing (Some b) = ap (λ (x : List ℕ). Some x) (sym (append-nil b))

pub puts_part : (old : Option (List ℕ)) (bytes : List ℕ) (new : Option (List ℕ)) (r : Result (Unit {0}) PutFault) → PutsTold old bytes new r → PutsPart old bytes new
puts_part old bytes new (Ok t) h = (length bytes, rw take-length h)
puts_part old bytes new (Err put.Failed) h = h
puts_part old bytes new (Err put.OutOfMemory) h = (0, h ∙ nothing old)
