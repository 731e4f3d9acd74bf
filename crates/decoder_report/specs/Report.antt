-- Trusted. The report of the faults of the address decoder: the march, a line for each fault, and the total. Every line ends with a line feed.
use Rattle.std.specs.Prelude.{◌≡◌, ◌++◌, ℕ, true, false, List, [], ◌∷◌, length, codes, decimal}
use Rattle.march_core.specs.March.{MarchElement}
use Rattle.decoder_faults.specs.declared.fault.WiredRead.TheVariants.{And, Or, Own}
use Rattle.decoder_faults.specs.declared.fault.DecoderFault.{DecoderFault}
use Rattle.decoder_faults.specs.declared.fault.DecoderFault.TheVariants.{NoCell, OtherCell, BothCells, TakenCell}
use Rattle.decoder_faults.specs.declared.escape.DecoderEscape.{DecoderEscape}
use Rattle.decoder_faults.specs.Detection.{DetectsDecoder}
use Rattle.decoder_faults.specs.Escapes.{IsLeastEscape}
use Rattle.report_lines.specs.Lines.{march_line, total_line, passing_text}
use Rattle.report_lines.specs.Listed.{CountsOf, AreLinesOf, IsVerdictLine}

-- the faults in their order; a taken cell has the verdict of no cell, and no line
unfoldable pub fault_order : List DecoderFault
fault_order = NoCell false ∷ NoCell true ∷ OtherCell ∷ BothCells And ∷ BothCells Or ∷ BothCells Own ∷ []

-- the name of a fault
abbrev pub fault_text : DecoderFault → List ℕ
fault_text (NoCell false) = codes "none 0"
fault_text (NoCell true) = codes "none 1"
fault_text OtherCell = codes "other"
fault_text (BothCells And) = codes "both and"
fault_text (BothCells Or) = codes "both or"
fault_text (BothCells Own) = codes "both own"
fault_text (TakenCell answer wired) = codes "taken"

-- the two addresses of the fault
abbrev pub addresses_text : DecoderEscape → List ℕ
addresses_text e = codes " x " ++ decimal e.x ++ codes " y " ++ decimal e.y

-- an escape of a march with so many elements
abbrev pub escape_text : ℕ → DecoderEscape → List ℕ
escape_text size e = addresses_text e ++ passing_text size e.content e.directions

-- the text is that of the least escape of a fault
abbrev pub IsEscapeText : List MarchElement → DecoderFault → List ℕ → Type 0
IsEscapeText march fault text = (e : DecoderEscape) × (e.fault ≡ fault) × IsLeastEscape march e × (text ≡ escape_text (length march) e)

-- the line of a fault: covered exactly where the march detects it, and else its least escape
abbrev pub IsLine : List MarchElement → DecoderFault → List ℕ → Type 0
IsLine march fault line = IsVerdictLine (fault_text fault) (DetectsDecoder march fault) (IsEscapeText march fault) line

-- so many of the faults does the march detect
abbrev pub DetectsOfSix : List MarchElement → ℕ → Type 0
DetectsOfSix march covered = CountsOf (DetectsDecoder march) fault_order covered

-- the bytes are the report of the march
pub record IsDecoderReport (text : List ℕ) (march : List MarchElement) : Type 0 where
  pub lines : List ℕ
  pub covered : ℕ
  pub are_lines : AreLinesOf (IsLine march) fault_order lines
  pub detects : DetectsOfSix march covered
  pub is : text ≡ march_line march ++ lines ++ total_line 6 covered
