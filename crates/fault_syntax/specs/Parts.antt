-- Trusted. What the parts of a primitive's text stand for, and when they are refused.
use Rattle.std.specs.Prelude.{◌≡◌, ◌<◌, ◌≤◌, ◌+◌, ℕ, Bool, Option, Some, None, List, [], ◌∷◌, ◌++◌, length, Result, Ok, Err}
use Rattle.fault_core.specs.declared.primitive.Act.{Act}
use Rattle.fault_core.specs.declared.primitive.Act.TheVariants.{Write as Writes, Read as Reads, Pause as Pauses}
use Rattle.fault_core.specs.declared.primitive.Sense.{Sense}
use Rattle.fault_core.specs.declared.primitive.PrimFault.{PrimFault}
use Rattle.fault_core.specs.declared.primitive.PrimFault.TheVariants.{NotAFault, TooManyOperations}
use Rattle.fault_core.specs.Primitive.{Primitive, IsPrimitive}
use Rattle.fault_core.specs.Table.{members_of, one_cell_table, two_cell_table}
use Rattle.fault_syntax.specs.declared.words.Operation.{Operation}
use Rattle.fault_syntax.specs.declared.words.Operation.TheVariants.{Write, Read, Pause}
use Rattle.fault_syntax.specs.declared.words.GroupName.{GroupName}
use Rattle.fault_syntax.specs.declared.words.GroupName.TheVariants.{OfClass, One, Two, All, DynOne, DynTwo}
use Rattle.fault_syntax.specs.ListText.{Item, Primitive as OnePrimitive, Named}
use Rattle.fault_syntax.specs.PrimText.{SenseText, PrimParts}

-- a written operation is this act: a read shows the state before it
abbrev pub IsAct : Bool → Operation → Option Act → Type 0
IsAct state (Write digit) act = act ≡ Some (Writes digit)
IsAct state (Read digit) act = (digit ≡ state) × (act ≡ Some Reads)
IsAct state Pause act = act ≡ Some Pauses

-- the operations are no act, or this one
abbrev pub AreAct : Bool → List Operation → Option Act → Type 0
AreAct state [] act = act ≡ None
AreAct state (o ∷ []) act = IsAct state o act
AreAct state (o ∷ p ∷ os) act = ⊥

-- a written sense is this one
abbrev pub IsSense : SenseText → Sense → Type 0
IsSense text sense = (sense.state ≡ text.state) × AreAct text.state text.ops sense.act

abbrev pub IsAggressor : Option SenseText → Option Sense → Type 0
IsAggressor None agg = agg ≡ None
IsAggressor (Some text) agg = (sense : Sense) × (agg ≡ Some sense) × IsSense text sense

-- the written parts stand for these
pub record StandsFor (text : PrimParts) (p : Primitive) : Type 0 where
  pub agg : IsAggressor text.agg p.agg
  pub vic : IsSense text.vic p.vic
  pub after : p.after ≡ text.after
  pub answer : p.answer ≡ text.answer

abbrev pub agg_ops : Option SenseText → List Operation
agg_ops None = []
agg_ops (Some text) = text.ops

-- how many operations are written in all
abbrev pub op_count : PrimParts → ℕ
op_count text = length (agg_ops text.agg) + length text.vic.ops

-- why written parts are no primitive: more than one operation in all comes first
abbrev pub Refuses : PrimParts → PrimFault → Type 0
Refuses text TooManyOperations = 1 < op_count text
Refuses text NotAFault = (op_count text ≤ 1) × ((p : Primitive) → StandsFor text p → IsPrimitive p → ⊥)

-- what is made of written parts
abbrev pub Judges : PrimParts → Result Primitive PrimFault → Type 0
Judges text (Ok p) = StandsFor text p × IsPrimitive p
Judges text (Err fault) = Refuses text fault

-- the static primitives of a name, in their order
abbrev pub primitives_of : GroupName → List Primitive
primitives_of (OfClass class) = members_of class
primitives_of One = one_cell_table
primitives_of Two = two_cell_table
primitives_of All = one_cell_table ++ two_cell_table
primitives_of DynOne = []
primitives_of DynTwo = []

-- the primitives that an item brings
abbrev pub Brings : Option Item → List Primitive → Type 0
Brings None ps = ps ≡ []
Brings (Some (OnePrimitive text)) ps = (p : Primitive) × StandsFor text p × IsPrimitive p × (ps ≡ p ∷ [])
Brings (Some (Named n)) ps = ps ≡ primitives_of n
