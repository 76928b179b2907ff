use Rattle.std.proofs.Common.{length}
use Rattle.export_sessions.proofs.changes.+stream_write.Given as goal

abbrev pub decreases-stream_write : goal.decreases-stream_write
decreases-stream_write l = length l.streams.now
