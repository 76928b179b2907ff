-- How a reason is printed.
use Rattle.std.specs.Prelude.{ℕ, List, codes}
use Rattle.script_text.specs.declared.faults.Reason.{Reason}
use Rattle.script_text.specs.declared.faults.Reason.TheVariants as reason

abbrev pub reason_text : Reason → List ℕ
reason_text reason.Length = codes "LENGTH"
reason_text reason.Unterminated = codes "UNTERMINATED"
reason_text reason.Byte = codes "BYTE"
reason_text reason.Machine = codes "MACHINE"
reason_text reason.Place = codes "PLACE"
reason_text reason.Word = codes "WORD"
reason_text reason.Count = codes "COUNT"
reason_text reason.Number = codes "NUMBER"
reason_text reason.Name = codes "NAME"
reason_text reason.Range = codes "RANGE"
reason_text reason.Repeated = codes "REPEATED"
reason_text reason.Full = codes "FULL"
reason_text reason.Slot = codes "SLOT"
reason_text reason.Endless = codes "ENDLESS"
