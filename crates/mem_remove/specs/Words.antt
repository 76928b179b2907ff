-- What the metadata of a page say.
use Rattle.std.specs.Prelude.{Option, Some, None}
use Rattle.td_words.specs.declared.replies.Value.{Value}
use Rattle.td_words.specs.declared.replies.Value.TheVariants as value
use Rattle.td_words.specs.Packing.{Pamt}

-- what the metadata of a page say, as an answer
abbrev pub metadata : Option Pamt → Value
metadata None = value.Nothing
metadata (Some p) = value.Page p.kind p.owner p.epoch
