-- The records that are measured into MRTD, as lists of bytes.
use Rattle.std.specs.Prelude.{ℕ, ◌-◌, List, ◌++◌, length, replicate, codes}
use Rattle.std.specs.Int.{w64, to_le_bytes}

-- a record of 128 bytes: a name in ASCII, the GPA at bytes 16 to 23, and zeros elsewhere
abbrev pub named_record : List ℕ → ℕ → List ℕ
named_record name gpa = name ++ (replicate (16 - length name) 0 ++ (to_le_bytes w64 gpa ++ replicate 104 0))

-- what adding a page measures (Base Architecture, "TD Measurement"): its GPA
abbrev pub page_record : ℕ → List ℕ
page_record gpa = named_record (codes "MEM.PAGE.ADD") gpa

-- what extending by a chunk of 256 bytes measures: its GPA, and its bytes as two records
abbrev pub chunk_records : ℕ → List ℕ → List ℕ
chunk_records gpa chunk = named_record (codes "MR.EXTEND") gpa ++ chunk
