use Rattle.std.proofs.Common.{rules, sym, ◌∙◌, ap, ◌+◌, ◌-◌, ◌*◌, ◌++◌, string_bytes, arith}
use Rattle.td_words.specs.Packing.{Entry}
use Rattle.state_lines.specs.WordText.{table_read}
use Rattle.state_lines.proofs.Texts.{one-more}
use Rattle.state_lines.proofs.Tables.{inside, none-below, all-read, some-read, none-read}
use Rattle.state_lines.proofs.pages.+push_table.Goals as goal
use Rattle.state_lines.proofs.pages.+push_table.Goals.{in-Some+in_ok-push_entry+in_ok-push_table, in_default}

pub returns-then-node-eq0 : goal.returns-then-node-eq0
returns-then-node-eq0 t c = none-below c.args.form c.args.words.now c.args.tdr c.args.page c.args.base c.args.node (string_bytes c.args.text.now) c.if-node-eq0.true

pub overflow_mul-gpa : goal.overflow_mul-gpa
overflow_mul-gpa t c =
    let its = inside c.args.node c.level_size-size.result c.loop-index.index c.args.base c.requires.node c.if-node-eq0.false c.level_size-size.ensures c.loop-index-test.true c.requires.inside in
    omega (arith, its.offset)

pub overflow_add-gpa : goal.overflow_add-gpa
overflow_add-gpa t c =
    let its = inside c.args.node c.level_size-size.result c.loop-index.index c.args.base c.requires.node c.if-node-eq0.false c.level_size-size.ensures c.loop-index-test.true c.requires.inside in
    omega (arith, its.gpa)

pub push_table-requires : goal.push_table-requires
push_table-requires t c = (
  search rules,
  (
    omega (arith, c.requires.node),
    (inside c.args.node c.level_size-size.result c.loop-index.index c.args.base c.requires.node c.if-node-eq0.false c.level_size-size.ensures c.loop-index-test.true c.requires.inside).within,
  ),
)

pub loop-index-preserved : goal.loop-index-preserved
loop-index-preserved t c =
    one-more _ c.loop-index.index (string_bytes c.args.text.now) (string_bytes c.loop-index.text) (string_bytes c.match-used_entry.text) c.loop-index.invariant
    (elim c.match-used_entry.branch [
      | in-Some+in_ok-push_entry+in_ok-push_table w ↦
          some-read c.args.form c.args.words.now c.args.tdr c.args.page c.args.base (c.args.node - 1) c.loop-index.index c.level_size-size.result (string_bytes c.loop-index.text) (string_bytes c.match-used_entry.text)
          w.in-Some.entry (string_bytes w.push_entry.new.text) (sym c.used_entry.ensures ∙ w.in-Some.is) c.level_size-size.ensures w.in_ok-push_entry.ensures
          (ap (λ z. string_bytes z) w.text-is ∙ (w.in_ok-push_table.ensures ∙ ap (λ (d : Entry). string_bytes w.push_entry.new.text ++ table_read c.args.form c.args.words.now c.args.tdr (c.args.node - 1) d.page (c.args.base + c.level_size-size.result * c.loop-index.index)) w.entry.view_is))
      | in_default w ↦
          none-read c.args.form c.args.words.now c.args.tdr c.args.page c.args.base (c.args.node - 1) c.loop-index.index c.level_size-size.result (string_bytes c.loop-index.text) (string_bytes c.match-used_entry.text)
          (sym c.used_entry.ensures ∙ w.in_default.is) (ap (λ z. string_bytes z) w.text-is)
    ])

pub returns : goal.returns
returns t c = all-read c.args.form c.args.words.now c.args.tdr c.args.page c.args.base c.args.node c.loop-index.index _ _ c.if-node-eq0.false (omega (arith, c.loop-index.auto.index-end, c.loop-index-test.false)) c.loop-index.invariant
