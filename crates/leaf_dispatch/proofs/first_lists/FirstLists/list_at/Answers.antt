use Rattle.std.proofs.Common.{◌∙◌, [], ap, arith}
use Rattle.td_words.specs.Seen.{CodeSeen}
use Rattle.leaf_dispatch.proofs.Firsts.{found, missing}
use Rattle.leaf_dispatch.proofs.first_lists.FirstLists.list_at.Goals as goal

pub bounds-codes-at : goal.bounds-codes-at
bounds-codes-at c =
    (found c.args.tdr c.args.index c.in-Some.at.now (record { tdr = 0; index = 0; ops = [] }) c.args.codes.now c.args.self.now.firsts.entries (c.requires c.args.tdr c.args.index) c.in-Some.ensures.value).0

pub offset_bounds-codes-at : goal.offset_bounds-codes-at
offset_bounds-codes-at c = let inside = bounds-codes-at c in omega arith

pub returns-in-Some : goal.returns-in-Some
returns-in-Some c =
    c.as_slice.ensures.value ∙ (ap (λ (s : CodeSeen). s.ops) (c.code.view_is ∙ c.index-codes-at.is)
    ∙ (found c.args.tdr c.args.index c.in-Some.at.now c.index-codes-at.result c.args.codes.now c.args.self.now.firsts.entries (c.requires c.args.tdr c.args.index) c.in-Some.ensures.value).1)

pub returns-in-None : goal.returns-in-None
returns-in-None c = missing c.args.tdr c.args.index c.args.codes.now c.args.self.now.firsts.entries (c.requires c.args.tdr c.args.index) c.in-None.ensures.value
