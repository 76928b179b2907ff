use Rattle.std.proofs.Common.{sym, subst, replicate, codes, w64}
use Rattle.std.specs.Int.{to_le_bytes}
use Rattle.sha2.specs.Hashers.{Holds384}
use Rattle.mrtd_measure.proofs.Pieces.{five_pieces}
use Rattle.mrtd_measure.proofs.measures.Measure.extend_chunk.Goals as goal

pub returns : goal.returns
returns c m held =
    let start : Holds384 c.self.inside.hasher m = subst (λ s. Holds384 s m) (sym c.self.view_is) held in
    five_pieces (Holds384 c.update-5.new.self) m (codes "MR.EXTEND") (replicate 7 0) (to_le_bytes w64 c.args.gpa) (replicate 104 0) c.args.chunk.now
    (rw (← c.to_le_bytes.ensures) (c.update-5.ensures _ (c.update-4.ensures _ (c.update-3.ensures _ (c.update-2.ensures _ (c.update.ensures m start))))))
