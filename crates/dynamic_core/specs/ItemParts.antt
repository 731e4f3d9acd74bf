-- Trusted. What the parts of a primitive's text stand for where two operations may act together, and when they are refused.
use Rattle.std.specs.Prelude.{◌≡◌, ◌<◌, ◌⊎◌, ℕ, Bool, Option, Some, None, List, [], ◌∷◌, map, length}
use Rattle.fault_core.specs.declared.primitive.PrimFault.{PrimFault}
use Rattle.fault_core.specs.declared.primitive.PrimFault.TheVariants.{NotAFault as IsNotAFault, TooManyOperations as HasTooManyOperations}
use Rattle.fault_core.specs.Primitive.{IsPrimitive}
use Rattle.fault_syntax.specs.declared.fault.FaultFault.{FaultFault}
use Rattle.fault_syntax.specs.declared.fault.FaultFault.TheVariants.{Unexpected, Truncated, NotAFault, TooManyOperations, TooManyPrimitives, NoMemory}
use Rattle.fault_syntax.specs.declared.words.Operation.{Operation}
use Rattle.fault_syntax.specs.declared.words.GroupName.{GroupName}
use Rattle.fault_syntax.specs.declared.words.GroupName.TheVariants.{DynOne, DynTwo}
use Rattle.fault_syntax.specs.declared.words.AllowedNames.{AllowedNames}
use Rattle.fault_syntax.specs.declared.words.AllowedNames.TheVariants.{Static, Every}
use Rattle.fault_syntax.specs.ListText.{Item as ListedItem, Primitive as OnePrimitive, Named}
use Rattle.fault_syntax.specs.Parts.{IsAct, StandsFor, Refuses, agg_ops, op_count, primitives_of}
use Rattle.fault_syntax.specs.PrimText.{SenseText, PrimParts}
use Rattle.dynamic_core.specs.declared.item.Item.{Item}
use Rattle.dynamic_core.specs.declared.item.Item.TheVariants.{Plain, Dyn}
use Rattle.dynamic_core.specs.Primitive.{TwoActs, DynamicSense, DynamicPrimitive, IsDynamic, left_by}
use Rattle.dynamic_core.specs.Table.{dyn_one_table, dyn_two_table}

-- two written operations are these acts: a read shows the content before it, which for the second is what the first leaves
abbrev pub AreTwo : Bool → Operation → Operation → Option TwoActs → Type 0
AreTwo state o p acts =
    (two : TwoActs) × (acts ≡ Some two) × IsAct state o (Some two.first) × IsAct (left_by state two.first) p (Some two.second)

-- the operations are no acts, or these two
abbrev pub AreActs : Bool → List Operation → Option TwoActs → Type 0
AreActs state [] acts = acts ≡ None
AreActs state (o ∷ []) acts = ⊥
AreActs state (o ∷ p ∷ []) acts = AreTwo state o p acts
AreActs state (o ∷ p ∷ q ∷ os) acts = ⊥

-- a written sense is this one
abbrev pub IsDynamicSense : SenseText → DynamicSense → Type 0
IsDynamicSense text sense = (sense.state ≡ text.state) × AreActs text.state text.ops sense.acts

abbrev pub IsDynamicAggressor : Option SenseText → Option DynamicSense → Type 0
IsDynamicAggressor None agg = agg ≡ None
IsDynamicAggressor (Some text) agg = (sense : DynamicSense) × (agg ≡ Some sense) × IsDynamicSense text sense

-- the written parts stand for these
pub record StandsForDynamic (text : PrimParts) (p : DynamicPrimitive) : Type 0 where
  pub agg : IsDynamicAggressor text.agg p.agg
  pub vic : IsDynamicSense text.vic p.vic
  pub after : p.after ≡ text.after
  pub answer : p.answer ≡ text.answer

-- the written parts are this primitive, of at most one operation or of two
abbrev pub IsItem : PrimParts → Item → Type 0
IsItem text (Plain p) = StandsFor text p × IsPrimitive p
IsItem text (Dyn p) = StandsForDynamic text p × IsDynamic p

-- more than two operations, or two in different senses
abbrev pub HasTooMany : PrimParts → Type 0
HasTooMany text = (2 < op_count text) ⊎ ((length (agg_ops text.agg) ≡ 1) × (length text.vic.ops ≡ 1))

-- why written parts are no primitive: too many operations come first; then that they are no static primitive where they have
-- at most one, and no dynamic one where they have two
abbrev pub RefusesItem : PrimParts → PrimFault → Type 0
RefusesItem text HasTooManyOperations = HasTooMany text
RefusesItem text IsNotAFault = (HasTooMany text → ⊥) × ((item : Item) → IsItem text item → ⊥)

-- ---- on a line of a list with these names; one of static names has static primitives alone

abbrev pub IsItemIn : AllowedNames → PrimParts → Item → Type 0
IsItemIn Every text item = IsItem text item
IsItemIn Static text (Plain p) = StandsFor text p × IsPrimitive p
IsItemIn Static text (Dyn p) = ⊥

abbrev pub RefusesIn : AllowedNames → PrimParts → PrimFault → Type 0
RefusesIn Every text fault = RefusesItem text fault
RefusesIn Static text fault = Refuses text fault

abbrev pub RefusesOn : AllowedNames → ℕ → PrimParts → FaultFault → Type 0
RefusesOn set line text (TooManyOperations l) = (l ≡ line) × RefusesIn set text HasTooManyOperations
RefusesOn set line text (NotAFault l) = (l ≡ line) × RefusesIn set text IsNotAFault
RefusesOn set line text (Unexpected l byte) = ⊥
RefusesOn set line text (Truncated l) = ⊥
RefusesOn set line text (TooManyPrimitives l) = ⊥
RefusesOn set line text NoMemory = ⊥

-- the primitives of a name, in their order
abbrev pub items_of : GroupName → List Item
items_of DynOne = map Dyn dyn_one_table
items_of DynTwo = map Dyn dyn_two_table
items_of name = map Plain (primitives_of name)

-- the primitives that a line brings
abbrev pub BringsIn : AllowedNames → Option ListedItem → List Item → Type 0
BringsIn set None items = items ≡ []
BringsIn set (Some (OnePrimitive text)) items = (item : Item) × IsItemIn set text item × (items ≡ item ∷ [])
BringsIn set (Some (Named n)) items = items ≡ items_of n
