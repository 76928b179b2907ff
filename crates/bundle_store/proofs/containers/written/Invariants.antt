use Rattle.std.proofs.Common.{◌≡◌, take}
use Rattle.bundle_store.specs.Containers.{container_bytes}
use Rattle.bundle_store.proofs.containers.written.Given as goal

abbrev pub invariant-loop-bundle : goal.invariant-loop-bundle
invariant-loop-bundle l = l.out.items ≡ container_bytes (take l.bundle-index l.bundles)
