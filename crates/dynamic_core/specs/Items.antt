-- Trusted. What the lines of a list with dynamic primitives bring, and the first line that is refused.
use Rattle.std.specs.Prelude.{Result, ℕ, List}
use Rattle.fault_syntax.specs.declared.fault.FaultFault.{FaultFault}
use Rattle.fault_syntax.specs.declared.words.AllowedNames.{AllowedNames}
use Rattle.fault_syntax.specs.declared.words.AllowedNames.TheVariants.{Every}
use Rattle.fault_syntax.specs.LineByLine.{SpellsLines, ReadsLines}
use Rattle.fault_syntax.specs.ListText.{Primitive as OnePrimitive, LineOf}
use Rattle.dynamic_core.specs.declared.item.Item.{Item}
use Rattle.dynamic_core.specs.ItemParts.{RefusesOn, BringsIn}

-- what the bytes of a list with these names are read as
abbrev pub ReadsIn : AllowedNames → List ℕ → Result (List Item) FaultFault → Type 0
ReadsIn set bytes r = ReadsLines (LineOf set) (BringsIn set) OnePrimitive (RefusesOn set) bytes r

-- the bytes are a list of these items, with any names
abbrev pub SpellsItems : List ℕ → List Item → Type 0
SpellsItems bytes items = SpellsLines (LineOf Every) (BringsIn Every) bytes items

-- what the bytes of such a list are read as
abbrev pub ReadsItems : List ℕ → Result (List Item) FaultFault → Type 0
ReadsItems bytes r = ReadsIn Every bytes r
