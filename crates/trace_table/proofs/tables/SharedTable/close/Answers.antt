use Rattle.std.proofs.Common.{◌∙◌, ap, sym, subst, ℕ, List, drop, ◌+◌, slice_index, arith}
use Rattle.std.proofs.lemmas.List.{length-drop, get_or-drop}
use Rattle.std.specs.Slots.{slots_items, slots_counts}
use Rattle.td_words.specs.declared.machines.Machine.{Machine}
use Rattle.trace_table.specs.Views.{guards}
use Rattle.trace_table.specs.Kept.{Kept}
use Rattle.trace_table.proofs.Ended.{closes}
use Rattle.trace_table.proofs.tables.SharedTable.close.Goals as goal

pub returns : goal.returns
returns c =
    let t = c.args.self in
    let p = c.args.pass in
    let row = c.close_with.result.words in
    let end = c.close_with.ensures.values.2 in
    let count = c.close_with.ensures.counts.0 in
    let wide = t.wide in
    let long = (slots_counts row).0 in
    let rest = length-drop guards (slots_items row) in
    closes t.machine end.0 (subst (λ (m : Machine). Kept m end.0) t.key end.1.0) p.seat.id p.seat.me.0 end.1.1 c.requires.first c.requires.none_out p.rest.idle (drop guards (slots_items row)) (omega (arith, count, wide, long, rest))
    (λ n lt. get_or-drop guards (slots_items row) n 0 ∙ ap (λ (ws : List ℕ). slice_index ws (guards + n)) (sym end.2))
