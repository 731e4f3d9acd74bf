-- Inner. For proofs and private contracts alone, beside Items: what the lines of a list with dynamic primitives bring, and the first line that is refused.
use Rattle.std.specs.Prelude.{List}
use Rattle.bist_text.specs.Lines.{TextLine}
use Rattle.fault_syntax.specs.declared.words.AllowedNames.TheVariants.{Every}
use Rattle.fault_syntax.specs.LineByLine.{BringBy}
use Rattle.fault_syntax.specs.ListText.{ItemLine}
use Rattle.dynamic_core.specs.declared.item.Item.{Item}
use Rattle.dynamic_core.specs.ItemParts.{BringsIn}

-- lines that are read, and the primitives that they bring, in their order
abbrev pub BringAll : List TextLine → List Item → Type 0
BringAll lines items = BringBy ItemLine (BringsIn Every) lines items
