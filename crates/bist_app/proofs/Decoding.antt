-- What was written and said of the faults of the address decoder.
use Rattle.bist_app.proofs.Common.{◌≡◌, ◌∙◌, ℕ, List, [], ◌∷◌, nat_lt, length, refl, ap, sym, subst, MarchElement, Written, total_line}
use Rattle.decoder_faults.specs.Detection.{DetectsDecoder}
use Rattle.decoder_report.specs.Report.{fault_order, DetectsOfSix, IsDecoderReport}
use Rattle.report_lines.specs.Listed.{SomeLacks}
use Rattle.report_lines.proofs.Listed.{lacks_where}
use Rattle.bist_app.specs.Decoder.{IsDecoderDone}

six : length fault_order ≡ 6
unfolding fault_order
six = refl

pub decoder_done : (march : List MarchElement) (covered : ℕ) (outputs : List Written) (bytes line : List ℕ) → IsDecoderReport bytes march → DetectsOfSix march covered
    → line ≡ total_line 6 covered → outputs ≡ (record { position = 2; bytes = bytes }) ∷ []
    → IsDecoderDone march (record { found = nat_lt covered 6; outputs = outputs; line = line })
decoder_done march covered outputs bytes line report detects is_line is_outputs = record {
  bytes = bytes;
  reports = record {
    found = subst (λ n. SomeLacks (DetectsDecoder march) fault_order (nat_lt covered n)) six (lacks_where (DetectsDecoder march) fault_order covered detects);
    report = report;
    covered = covered;
    detects = detects;
    last = is_line ∙ ap (λ n. total_line n covered) (sym six);
  };
  outputs = is_outputs;
}
