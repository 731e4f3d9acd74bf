-- Public. What a line of a fault list is read to, as the reader keeps it.
use Rattle.std.specs.Prelude.{◌≡◌, false, Option, Result, Ok, Err}
use Rattle.bist_text.specs.Grammar.{IsTruncated}
use Rattle.bist_text.specs.Lines.{TextLine}
use Rattle.fault_syntax.specs.declared.fault.FaultFault.{FaultFault}
use Rattle.fault_syntax.specs.declared.fault.FaultFault.TheVariants.{Unexpected, Truncated}
use Rattle.fault_syntax.specs.declared.reader.ReadItem.{ReadItem}
use Rattle.fault_syntax.specs.declared.words.AllowedNames.{AllowedNames}
use Rattle.fault_syntax.specs.Brief.{read_item_of}
use Rattle.fault_syntax.specs.LineByLine.{IsUnexpectedOn}
use Rattle.fault_syntax.specs.ListText.{Item, LineOf}

-- why a line's bytes aren't read
abbrev pub IsTextFault : AllowedNames → TextLine → FaultFault → Type 0
IsTextFault set l (Unexpected line byte) = (line ≡ l.number) × IsUnexpectedOn (LineOf set) l byte
IsTextFault set l (Truncated line) = (line ≡ l.number) × (l.ended ≡ false) × IsTruncated (LineOf set) l.text
IsTextFault set l fault = ⊥

-- what a line is read to
abbrev pub LineGives : AllowedNames → TextLine → Result ReadItem FaultFault → Type 0
LineGives set l (Ok item) = (v : Option Item) × LineOf set l.text v × (item ≡ read_item_of v)
LineGives set l (Err fault) = IsTextFault set l fault
