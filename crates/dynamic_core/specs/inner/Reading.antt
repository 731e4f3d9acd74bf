-- Inner. For proofs and private contracts alone: what is made of written parts, and what a line adds to the primitives.
use Rattle.std.specs.Prelude.{ℕ, Option, List, [], ◌∷◌, Result, Ok, Err}
use Rattle.std.specs.List.{flat_map}
use Rattle.fault_core.specs.declared.primitive.PrimFault.{PrimFault}
use Rattle.fault_core.specs.Primitive.{Primitive}
use Rattle.fault_syntax.specs.declared.fault.FaultFault.{FaultFault}
use Rattle.fault_syntax.specs.declared.words.AllowedNames.{AllowedNames}
use Rattle.fault_syntax.specs.inner.LineByLine.{AddsBy, NotAddedBy}
use Rattle.fault_syntax.specs.ListText.{Item as ListedItem, Primitive as OnePrimitive}
use Rattle.fault_syntax.specs.PrimText.{PrimParts}
use Rattle.dynamic_core.specs.declared.item.Item.{Item}
use Rattle.dynamic_core.specs.declared.item.Item.TheVariants.{Plain, Dyn}
use Rattle.dynamic_core.specs.ItemParts.{IsItem, RefusesItem, IsItemIn, RefusesIn, RefusesOn, BringsIn}

-- what is made of written parts, of those in a list with these names, and of those on its line
abbrev pub JudgesItem : PrimParts → Result Item PrimFault → Type 0
JudgesItem text (Ok item) = IsItem text item
JudgesItem text (Err fault) = RefusesItem text fault

abbrev pub JudgesItemIn : AllowedNames → PrimParts → Result Item PrimFault → Type 0
JudgesItemIn set text (Ok item) = IsItemIn set text item
JudgesItemIn set text (Err fault) = RefusesIn set text fault

abbrev pub JudgesItemOn : AllowedNames → ℕ → PrimParts → Result Item FaultFault → Type 0
JudgesItemOn set line text (Ok item) = IsItemIn set text item
JudgesItemOn set line text (Err fault) = RefusesOn set line text fault

-- what a line brings is added
abbrev pub AddsItems : AllowedNames → Option ListedItem → List Item → List Item → Type 0
AddsItems set v old new = AddsBy (BringsIn set) v old new

-- or isn't
abbrev pub NotAdded : AllowedNames → Option ListedItem → ℕ → List Item → FaultFault → Type 0
NotAdded set v line old fault = NotAddedBy (BringsIn set) OnePrimitive (RefusesOn set) v line old fault

-- the static primitives of a list
abbrev pub static_of : Item → List Primitive
static_of (Plain p) = p ∷ []
static_of (Dyn p) = []

abbrev pub statics_of : List Item → List Primitive
statics_of items = flat_map static_of items
