use Rattle.std.proofs.Common.{ℕ, List, map, drop, ap, ◌∙◌, rules}
use Rattle.std.proofs.lemmas.List.{take_rest}
use Rattle.line_words.specs.Words.{words}
use Rattle.script_text.specs.Schedule.{turns_in, written_of}
use Rattle.script_text.proofs.Eights.{eights_written}
use Rattle.script_text.proofs.schedules.write_eights.Goals as goal

pub loop-rest-preserved : goal.loop-rest-preserved
loop-rest-preserved c =
    let rest = c.loop-rest.rest.now in
    let old = c.loop-rest.schedule.items in
    let new = c.extend_from_slice.new.self.items in
    ap (λ (xs : List ℕ). written_of new (map (turns_in c.args.lps) (words xs))) (take_rest rest 16)
    ∙ eights_written c.args.lps old new rest c.in-Some.items (drop 16 rest) c.in-Some.ensures (search rules) c.in_ok-extend_from_slice.ensures.items
    ∙ c.loop-rest.invariant
