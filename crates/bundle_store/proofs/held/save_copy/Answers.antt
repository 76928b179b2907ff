use Rattle.std.proofs.Common.{◌≡◌, ap, rules}
use Rattle.bundle_store.specs.Seen.{FileSeen}
use Rattle.bundle_store.proofs.InMemory.{gives_set}
use Rattle.bundle_store.proofs.held.save_copy.Goals as goal

pub returns-in-Some-clause-told : goal.returns-in-Some-clause-told
returns-in-Some-clause-told c =
    let copied : c.in-Ok.copy.items ≡ c.args.bytes.now = search rules in
    gives_set _ _ _ _ c.index_mut-file.result.now _ (rw c.deref.ensures.value at c.in-Some.ensures) c.index_mut-file.ensures.value (ap (λ (f : FileSeen). f.name) c.file.view_is) copied
