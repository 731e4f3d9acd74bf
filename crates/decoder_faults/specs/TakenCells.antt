-- Public. That an address without a cell has one verdict, whether another address reaches that cell or none does.
use Rattle.std.specs.Prelude.{◌↔◌, Bool, List}
use Rattle.march_core.specs.March.{MarchElement, IsMarch}
use Rattle.decoder_faults.specs.declared.fault.WiredRead.{WiredRead}
use Rattle.decoder_faults.specs.declared.fault.DecoderFault.TheVariants.{NoCell, TakenCell}
use Rattle.decoder_faults.specs.Detection.{DetectsDecoder}

abbrev pub AreAsNoCell : Type 0
AreAsNoCell =
    (march : List MarchElement) (answer : Bool) (wired : WiredRead) → IsMarch march
    → DetectsDecoder march (TakenCell answer wired) ↔ DetectsDecoder march (NoCell answer)
