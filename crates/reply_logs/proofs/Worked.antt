-- The worked logs compute.
use Rattle.std.proofs.Common.{◌≡◌, map, refl}
use Rattle.reply_logs.specs.Logs.{place_in, line_of, log_of}
use Rattle.reply_logs.specs.Worked.{calls, worked_logs}

pub are_read_so : map (λ row. log_of calls row.0) worked_logs ≡ map (λ row. row.1) worked_logs
unfolding place_in line_of log_of
are_read_so = refl
