-- The report of a TD, the file that has one, and what is wrong with a file that hasn't.
use Rattle.std.specs.Prelude.{◌≡◌, ℕ, List, [], ◌∷◌, ◌++◌, take, drop, length, slice_index, codes, Ok}
use Rattle.std.specs.List.{AllPass}
use Rattle.std.specs.Result.{result_unwrap_or}
use Rattle.hex.specs.Hex.{decode_of, is_hex_digit}
use Rattle.report_core.specs.declared.facts.Facts.{Facts}
use Rattle.report_core.specs.declared.reports.ReportFault.{ReportFault}
use Rattle.report_core.specs.declared.reports.ReportFault.TheVariants as fault
use Rattle.report_core.specs.Hmac.{hmac_sha384}

-- what a report's MAC is of, 312 bytes: its name, MRTD, RTMRs 0 to 3, and the bytes of registers 0 to 7
abbrev pub report_text : Facts → List ℕ
report_text f = codes "TDXREP01" ++ (f.mrtd ++ (f.rtmr0 ++ (f.rtmr1 ++ (f.rtmr2 ++ (f.rtmr3 ++ f.given)))))

-- the report of facts under a key, 360 bytes: these, and their MAC
abbrev pub report_of : (key : List ℕ) → Facts → List ℕ
report_of key f = report_text f ++ hmac_sha384 key (report_text f)

-- facts of the lengths that they have
pub record AreFacts (f : Facts) : Type 0 where
  pub mrtd : length f.mrtd ≡ 48
  pub rtmr0 : length f.rtmr0 ≡ 48
  pub rtmr1 : length f.rtmr1 ≡ 48
  pub rtmr2 : length f.rtmr2 ≡ 48
  pub rtmr3 : length f.rtmr3 ≡ 48
  pub given : length f.given ≡ 64

-- the facts in the bytes of a report, each at its place
abbrev pub facts_in : List ℕ → Facts
facts_in b = record {
  mrtd = take 48 (drop 8 b);
  rtmr0 = take 48 (drop 56 b);
  rtmr1 = take 48 (drop 104 b);
  rtmr2 = take 48 (drop 152 b);
  rtmr3 = take 48 (drop 200 b);
  given = take 64 (drop 248 b);
}

-- the file of a report: its hexadecimal digits, each of either case, and a newline
abbrev pub IsFileOf : (key file : List ℕ) → Facts → Type 0
IsFileOf key file f = (digits : List ℕ) × (file ≡ digits ++ 10 ∷ []) × (decode_of digits ≡ Ok (report_of key f))

-- a file has a report's length, digits alone, a report's name, and the MAC of what is in front of it
abbrev pub HasLength : List ℕ → Type 0
HasLength file = (length file ≡ 721) × (slice_index file 720 ≡ 10)

abbrev pub HasDigits : List ℕ → Type 0
HasDigits file = AllPass is_hex_digit (take 720 file)

abbrev pub bytes_in : List ℕ → List ℕ
bytes_in file = result_unwrap_or (decode_of (take 720 file)) []

abbrev pub HasMagic : List ℕ → Type 0
HasMagic file = take 8 (bytes_in file) ≡ codes "TDXREP01"

abbrev pub HasMac : (key file : List ℕ) → Type 0
HasMac key file = drop 312 (bytes_in file) ≡ hmac_sha384 key (take 312 (bytes_in file))

-- the first of these that a file hasn't
abbrev pub IsFirstFault : (key file : List ℕ) → ReportFault → Type 0
IsFirstFault key file fault.Length = ¬ HasLength file
IsFirstFault key file fault.Hex = HasLength file × ¬ HasDigits file
IsFirstFault key file fault.Magic = HasLength file × HasDigits file × ¬ HasMagic file
IsFirstFault key file fault.Mac = HasLength file × HasDigits file × HasMagic file × ¬ HasMac key file

-- different facts have different reports, whatever the keys
abbrev pub ReportsDiffer : Type 0
ReportsDiffer = (key other : List ℕ) (f g : Facts) → AreFacts f → AreFacts g → report_of key f ≡ report_of other g → f ≡ g
