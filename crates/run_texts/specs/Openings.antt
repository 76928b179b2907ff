-- What a script opens.
use Rattle.flat_core.specs.Opening.{Opening}
use Rattle.leaf_table.specs.Given.{Given}
use Rattle.leaf_table.specs.Table.{code_in}
use Rattle.script_text.specs.Seen.{ScriptSeen}

-- with these secret words, and the bundles that come in
abbrev pub opening_of : Given → ScriptSeen → Opening
opening_of given s = record { machine = s.machine; codes = code_in s.codes; calls = s.calls; bundles = given.bundles; secrets = given.secrets }
