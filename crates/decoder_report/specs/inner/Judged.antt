-- Inner. Only helps proofs: faults with what was said of them, and their lines.
use Rattle.std.specs.Prelude.{◌≡◌, ◌++◌, ℕ, Bool, true, false, Option, Some, None, List, map, length, count_by}
use Rattle.std.specs.List.{AllByRecursion, flat_map}
use Rattle.march_core.specs.March.{MarchElement}
use Rattle.decoder_faults.specs.declared.fault.DecoderFault.{DecoderFault}
use Rattle.decoder_faults.specs.declared.fault.DecoderFault.TheVariants.{NoCell}
use Rattle.decoder_faults.specs.declared.escape.DecoderEscape.{DecoderEscape}
use Rattle.decoder_faults.specs.Escapes.{IsVerdict}
use Rattle.report_lines.specs.Lines.{march_line, total_line}
use Rattle.report_lines.specs.Listed.{covered_line, escape_line}
use Rattle.decoder_report.specs.declared.judged.JudgedFault.{JudgedFault}
use Rattle.decoder_report.specs.Report.{fault_order, fault_text, escape_text}

-- for proofs about places of a list: a judged fault
abbrev pub first : JudgedFault
first = record { fault = NoCell false; escape = None }

-- the verdict is right
abbrev pub IsJudged : List MarchElement → JudgedFault → Type 0
IsJudged march j = IsVerdict march j.fault j.escape

abbrev pub fault_of : JudgedFault → DecoderFault
fault_of j = j.fault

abbrev pub is_none : Option DecoderEscape → Bool
is_none None = true
is_none (Some e) = false

unfoldable pub is_covered : JudgedFault → Bool
is_covered j = is_none j.escape

-- the six faults were judged in their order, each rightly
pub record AreJudged (march : List MarchElement) (judged : List JudgedFault) : Type 0 where
  pub each : AllByRecursion (IsJudged march) judged
  pub in_order : map fault_of judged ≡ fault_order

-- the line of a fault with this verdict, under a march with so many elements
abbrev pub line_by : ℕ → DecoderFault → Option DecoderEscape → List ℕ
line_by size fault None = covered_line (fault_text fault)
line_by size fault (Some e) = escape_line (fault_text fault) (escape_text size e)

abbrev pub judged_line : ℕ → JudgedFault → List ℕ
judged_line size j = line_by size j.fault j.escape

abbrev pub judged_lines : ℕ → List JudgedFault → List ℕ
judged_lines size judged = flat_map (judged_line size) judged

abbrev pub covered_count : List JudgedFault → ℕ
covered_count judged = count_by is_covered judged

abbrev pub report_text : List MarchElement → List JudgedFault → List ℕ
report_text march judged = march_line march ++ judged_lines (length march) judged ++ total_line 6 (covered_count judged)
