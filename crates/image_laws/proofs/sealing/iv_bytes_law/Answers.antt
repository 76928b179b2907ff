use Rattle.image_laws.proofs.IvBytes.{keys_go_by_type, iv_bytes_are_kept, no_iv_is_used_twice}
use Rattle.image_laws.proofs.sealing.iv_bytes_law.Goals as goal

pub returns-clause-keys : goal.returns-clause-keys
returns-clause-keys c = keys_go_by_type

pub returns-clause-kept : goal.returns-clause-kept
returns-clause-kept c = iv_bytes_are_kept

pub returns-clause-runs : goal.returns-clause-runs
returns-clause-runs c = no_iv_is_used_twice
