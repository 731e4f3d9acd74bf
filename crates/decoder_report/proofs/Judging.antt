-- The lines and the count of right verdicts are those of the faults that the march detects.
use Rattle.std.proofs.Common.{◌≡◌, ℕ, Option, Some, None, List, length, refl, subst, inl, inr}
use Rattle.march_core.specs.March.{MarchElement}
use Rattle.decoder_faults.specs.declared.fault.DecoderFault.{DecoderFault}
use Rattle.decoder_faults.specs.declared.escape.DecoderEscape.{DecoderEscape}
use Rattle.decoder_faults.specs.Detection.{DetectsDecoder}
use Rattle.decoder_faults.specs.Escapes.{IsVerdict}
use Rattle.report_lines.specs.Listed.{CountsOf, AreLinesOf}
use Rattle.report_lines.proofs.Listed.{Tells, counted, lines_of}
use Rattle.decoder_report.specs.declared.judged.JudgedFault.{JudgedFault}
use Rattle.decoder_report.specs.Report.{IsLine, DetectsOfSix, IsDecoderReport}
use Rattle.decoder_report.specs.inner.Judged.{IsJudged, AreJudged, fault_of, is_none, is_covered, line_by, judged_line, judged_lines, covered_count, report_text}

tells : (march : List MarchElement) (j : JudgedFault) → IsJudged march j → Tells (DetectsDecoder march) (fault_of j) (is_covered j)
unfolding is_covered
tells march j = go j.fault j.escape
  where
    go : (fault : DecoderFault) (o : Option DecoderEscape) → IsVerdict march fault o → Tells (DetectsDecoder march) fault (is_none o)
    go fault None h = h
    go fault (Some e) h = h.2

line : (march : List MarchElement) (j : JudgedFault) → IsJudged march j → IsLine march (fault_of j) (judged_line (length march) j)
line march j = go j.fault j.escape
  where
    go : (fault : DecoderFault) (o : Option DecoderEscape) → IsVerdict march fault o → IsLine march fault (line_by (length march) fault o)
    go fault None h = inl (h, refl)
    go fault (Some e) h = inr (h.2, _, (e, h.0, h.1, refl), refl)

pub detected : (march : List MarchElement) (js : List JudgedFault) → AreJudged march js → DetectsOfSix march (covered_count js)
detected march js h =
    subst (λ fs. CountsOf (DetectsDecoder march) fs (covered_count js)) h.in_order (counted (DetectsDecoder march) fault_of is_covered (IsJudged march) (tells march) js h.each)

pub report_of : (march : List MarchElement) (js : List JudgedFault) (text : List ℕ) → AreJudged march js → text ≡ report_text march js → IsDecoderReport text march
report_of march js text h is = record {
  lines = judged_lines (length march) js;
  covered = covered_count js;
  are_lines =
      subst (λ fs. AreLinesOf (IsLine march) fs (judged_lines (length march) js)) h.in_order
      (lines_of (IsLine march) fault_of (judged_line (length march)) (IsJudged march) (line march) js h.each);
  detects = detected march js h;
  is = is;
}
