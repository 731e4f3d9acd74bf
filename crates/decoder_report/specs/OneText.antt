-- Public. That the bytes of a report are determined.
use Rattle.std.specs.Prelude.{◌≡◌, ℕ, List}
use Rattle.march_core.specs.March.{MarchElement}
use Rattle.decoder_report.specs.Report.{IsDecoderReport}

-- two texts that are the report of one march are the same
abbrev pub OneText : Type 0
OneText = (march : List MarchElement) (text other : List ℕ) → IsDecoderReport text march → IsDecoderReport other march → text ≡ other
