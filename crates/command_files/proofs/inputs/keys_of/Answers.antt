use Rattle.std.proofs.Common.{refl, sym, arith}
use Rattle.std.proofs.lemmas.List.{length-take-le, take_rest}
use Rattle.command_files.proofs.inputs.keys_of.Goals as goal

pub slice_bounds-half-end : goal.slice_bounds-half-end
slice_bounds-half-end c = sym (length-take-le 32 c.args.bytes.now (omega (arith, c.requires)))

pub returns : goal.returns
returns c = rw (c.half.ensures, c.half-2.ensures, take_rest c.args.bytes.now 32) refl
