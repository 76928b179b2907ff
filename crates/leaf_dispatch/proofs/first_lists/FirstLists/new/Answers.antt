use Rattle.std.proofs.Common.{◌≡◌, ◌∙◌, ℕ, ◌+◌, ◌-◌, ◌<◌, length, drop, arith, ap}
use Rattle.std.specs.List.{position_from}
use Rattle.leaf_dispatch.specs.FirstLists.{is_list_of}
use Rattle.td_words.specs.Seen.{CodeSeen}
use Rattle.leaf_dispatch.proofs.Firsts.{one_more}
use Rattle.leaf_dispatch.proofs.first_lists.FirstLists.new.Goals as goal

pub loop-at-preserved : goal.loop-at-preserved
loop-at-preserved c =
    let back : c.loop-at.at ≡ c.loop-at.at - 1 + 1 = omega arith in
    let inside : c.loop-at.at - 1 < length c.args.codes.now = omega arith in
    record {
      inside = omega arith;
      firsts = λ tdr index. one_more tdr index (c.loop-at.at - 1) c.index-codes-at.result c.args.codes.now (record { tdr = c.code.inside.tdr; index = c.from.result }) c.loop-at.firsts.entries c.insert.new.self.entries inside
          (ap (λ (s : CodeSeen). s.tdr) (c.code.view_is ∙ c.index-codes-at.is))
          (c.from.ensures ∙ ap (λ (s : CodeSeen). s.index) (c.code.view_is ∙ c.index-codes-at.is))
          (c.loop-at.invariant.firsts tdr index ∙ ap (λ (n : ℕ). position_from (is_list_of tdr index) n (drop n c.args.codes.now)) back)
          c.in-Ok.ensures.updates.0;
    }
