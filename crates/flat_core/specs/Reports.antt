-- What a report tells of a TD, and of the virtual processor that asks for it (ABI Reference, "TDG.MR.REPORT").
use Rattle.std.specs.Prelude.{ℕ, ◌+◌, ◌*◌, List, [], ◌∷◌, ◌++◌}
use Rattle.report_core.specs.declared.facts.Facts.{Facts}
use Rattle.flat_core.specs.World.{World}
use Rattle.flat_core.specs.Digests.{digest_bytes, six_words}

-- MRTD of a TD, and an RTMR of it: 48 bytes
abbrev pub mrtd_bytes : World → (tdr : ℕ) → List ℕ
mrtd_bytes w t = digest_bytes (six_words (w.tds.mrtds t))

abbrev pub rtmr_bytes : World → (tdr index : ℕ) → List ℕ
rtmr_bytes w t i = digest_bytes (six_words (λ k. w.hidden.rtmrs t (6 * i + k)))

-- registers 0 to 7 of a virtual processor: 64 bytes
abbrev pub register_bytes : World → (vp : ℕ) → List ℕ
register_bytes w v = digest_bytes (six_words (w.hidden.registers v) ++ (w.hidden.registers v 6 ∷ w.hidden.registers v 7 ∷ []))

abbrev pub facts_of : World → (tdr vp : ℕ) → Facts
facts_of w t v = record {
  mrtd = mrtd_bytes w t;
  rtmr0 = rtmr_bytes w t 0;
  rtmr1 = rtmr_bytes w t 1;
  rtmr2 = rtmr_bytes w t 2;
  rtmr3 = rtmr_bytes w t 3;
  given = register_bytes w v;
}
