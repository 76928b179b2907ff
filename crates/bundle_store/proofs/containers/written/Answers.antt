use Rattle.bundle_store.proofs.Steps.{all_small, put_step}
use Rattle.bundle_store.proofs.containers.written.Goals as goal

pub put_entry-requires : goal.put_entry-requires
put_entry-requires c = all_small 0 c.loop-bundle.bundle-index c.args.bundles.now c.bundle-item.result c.requires c.loop-bundle-test.true c.bundle-item.is

pub loop-bundle-preserved : goal.loop-bundle-preserved
loop-bundle-preserved c =
    put_step c.args.bundles.now c.loop-bundle.bundle-index c.bundle-item.result c.loop-bundle.out.items c.put_entry.new.out.items
    c.loop-bundle-test.true c.bundle-item.is c.loop-bundle.invariant c.in_ok-put_entry.ensures
