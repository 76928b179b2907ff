use Rattle.std.proofs.Common.{◌∷◌, [], slice_index}
use Rattle.aes_block.proofs.Table.{table_is}
use Rattle.aes_block.proofs.key_schedules.sub_word.Goals as goal

pub returns : goal.returns
returns c = λ j. table_is (slice_index c.args.w 0) c.element_fits.fits j ∷ table_is (slice_index c.args.w 1) c.element_fits2.fits j
    ∷ table_is (slice_index c.args.w 2) c.element_fits3.fits j ∷ table_is (slice_index c.args.w 3) c.element_fits4.fits j ∷ []
