use Rattle.std.proofs.Common.{ap, sym, ◌∙◌}
use Rattle.bundle_store.specs.Seen.{FileSeen}
use Rattle.bundle_store.proofs.InMemory.{first_at, next_none}
use Rattle.bundle_store.proofs.held.place_of.Goals as goal

pub returns-then-eq : goal.returns-then-eq
returns-then-eq c =
    first_at _ _ _ c.as_str.result.now c.index-files-i.result c.loop-i-test.true c.loop-i.invariant c.index-files-i.is
    (c.as_str.ensures.value ∙ ap (λ (f : FileSeen). f.name) c.file.view_is) (sym c.eq.ensures ∙ c.if-eq.true)

pub loop-i-preserved : goal.loop-i-preserved
loop-i-preserved c =
    next_none _ _ _ c.as_str.result.now c.index-files-i.result c.loop-i-test.true c.loop-i.invariant c.index-files-i.is
    (c.as_str.ensures.value ∙ ap (λ (f : FileSeen). f.name) c.file.view_is) (sym c.eq.ensures ∙ c.if-eq.false)
