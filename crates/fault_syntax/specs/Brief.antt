-- Public. What the reader of a primitive keeps of it: of the operations of a cell the first two, and whether there are more.
use Rattle.std.specs.Prelude.{Bool, true, false, Option, Some, None, List, [], ◌∷◌, option_map}
use Rattle.fault_syntax.specs.declared.words.Operation.{Operation}
use Rattle.fault_syntax.specs.declared.reader.Brief.{Brief}
use Rattle.fault_syntax.specs.declared.reader.ReadParts.{ReadParts}
use Rattle.fault_syntax.specs.declared.reader.ReadItem.{ReadItem}
use Rattle.fault_syntax.specs.declared.reader.ReadItem.TheVariants.{Nothing, Primitive as ReadPrimitive, Named as ReadName}
use Rattle.fault_syntax.specs.ListText.{Item, Primitive, Named}
use Rattle.fault_syntax.specs.PrimText.{SenseText, PrimParts}

abbrev pub first_of : List Operation → Option Operation
first_of [] = None
first_of (o ∷ os) = Some o

abbrev pub second_of : List Operation → Option Operation
second_of [] = None
second_of (o ∷ os) = first_of os

-- whether there are more than two
abbrev pub has_more : List Operation → Bool
has_more [] = false
has_more (o ∷ []) = false
has_more (o ∷ p ∷ []) = false
has_more (o ∷ p ∷ q ∷ os) = true

abbrev pub brief_of : SenseText → Brief
brief_of text = record { state = text.state; first = first_of text.ops; second = second_of text.ops; more = has_more text.ops }

abbrev pub read_parts_of : PrimParts → ReadParts
read_parts_of p = record { agg = option_map brief_of p.agg; vic = brief_of p.vic; after = p.after; answer = p.answer }

abbrev pub read_item_of : Option Item → ReadItem
read_item_of None = Nothing
read_item_of (Some (Primitive p)) = ReadPrimitive (read_parts_of p)
read_item_of (Some (Named n)) = ReadName n
