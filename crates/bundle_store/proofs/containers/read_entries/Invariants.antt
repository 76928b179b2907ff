use Rattle.std.proofs.Common.{◌≡◌, ◌≤◌, ◌+◌, ◌*◌, ◌-◌, length}
use Rattle.bundle_store.specs.Containers.{entries_from, entries_in}
use Rattle.bundle_store.proofs.containers.read_entries.Given as goal

-- the entries that are left go on from the bundles so far, and each turn took eight bytes at least
abbrev pub invariant-each : goal.invariant-each
invariant-each l = record {
  so_far : entries_from (length l.bytes) (length l.bytes - l._turn) l.bundles.items l.least l.rest ≡ entries_in l.bytes;
  room : length l.rest + (8 * l._turn + 8) ≤ length l.bytes;
  low : l.least ≤ 4096;
}
