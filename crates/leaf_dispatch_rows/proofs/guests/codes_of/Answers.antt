use Rattle.std.proofs.Common.{Bool, true, false, if◌then◌else◌, List, [], ◌∷◌, ◌==◌, ◌&&◌}
use Rattle.std.specs.List.{All}
use Rattle.std.proofs.lemmas.List.Elements.{All-nil}
use Rattle.td_words.specs.Seen.{CodeSeen}
use Rattle.td_words.specs.declared.calls.GuestOp.{GuestOp}
use Rattle.leaf_engine.specs.Merges.{IsOperation}
use Rattle.leaf_dispatch.specs.Inside.{AreOperations}
use Rattle.leaf_dispatch_rows.proofs.guests.codes_of.Goals as goal

all_or_none : (b : Bool) (ops : List GuestOp) → All IsOperation ops → All IsOperation (if b then ops else [])
all_or_none true ops h = h
all_or_none false ops h = All-nil IsOperation

one_list : (c : CodeSeen) → All IsOperation c.ops → AreOperations (c ∷ [])
one_list c h t i = all_or_none (c.tdr == t && c.index == i) c.ops h

pub returns : goal.returns
returns c = one_list _ c.requires
