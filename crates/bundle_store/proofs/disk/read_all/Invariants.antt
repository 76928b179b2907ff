use Rattle.std.proofs.Common.{◌≡◌, ◌≤◌, ◌+◌, ◌-◌, ◌^◌, max, min, length}
use Rattle.std.specs.Io.KnownBytes.{Consumes}
use Rattle.bundle_store.proofs.disk.read_all.Given as goal

-- the count has risen by what was read, or stands at its end; what was read is kept and isn't too much
abbrev pub invariant-loop : goal.invariant-loop
invariant-loop g l = record {
  count : l.fn.bytes_read ≤ l.bytes_read;
  risen : min (l.fn.bytes_read + l.total) (2 ^ 64 - 1) ≤ l.bytes_read;
  short : l.total ≤ l.most;
  whole : length l.bytes.items ≡ l.total;
  exact : l.bytes_read ≡ max l.fn.bytes_read (min (l.fn.bytes_read + l.total) (2 ^ 64 - 1));
  read : Consumes (g.F.Read.remaining l.initial.file) (g.F.Read.remaining l.file) l.bytes.items;
}
