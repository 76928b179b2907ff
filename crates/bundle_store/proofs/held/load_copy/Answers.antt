use Rattle.std.proofs.Common.{◌≡◌, ◌∙◌, Some, length, ap, arith, rules}
use Rattle.bundle_store.specs.Seen.{FileSeen}
use Rattle.bundle_store.specs.Held.{contents_in}
use Rattle.bundle_store.proofs.InMemory.{found_at}
use Rattle.bundle_store.proofs.held.load_copy.Goals as goal

pub returns-then-len-most-clause-told : goal.returns-then-len-most-clause-told
returns-then-len-most-clause-told c =
    let found : contents_in c.args.files.now c.args.name.now ≡ Some c.index-files-place.result.bytes = found_at _ _ _ _ c.in-Some.ensures c.index-files-place.is in
    rw found (omega (arith, ap (λ (f : FileSeen). length f.bytes) c.file.view_is))

pub returns-in-Ok-clause-told : goal.returns-in-Ok-clause-told
returns-in-Ok-clause-told c =
    let found : contents_in c.args.files.now c.args.name.now ≡ Some c.index-files-place.result.bytes = found_at _ _ _ _ c.in-Some.ensures c.index-files-place.is in
    let copied : c.in-Ok.copy.items ≡ c.deref.result.now = search rules in
    rw found (copied ∙ (c.deref.ensures.value ∙ ap (λ (f : FileSeen). f.bytes) c.file.view_is), omega (arith, ap (λ (f : FileSeen). length f.bytes) c.file.view_is))
