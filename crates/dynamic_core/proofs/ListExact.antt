-- A list with dynamic primitives is read as one list, or refused in one way.
use Rattle.std.proofs.Common.{◌≡◌, ℕ, List, [], ◌∷◌, ◌∙◌, Option, Some, None, Result, refl, sym, ap}
use Rattle.fault_core.specs.declared.primitive.PrimFault.{PrimFault}
use Rattle.fault_core.specs.declared.primitive.PrimFault.TheVariants.{NotAFault as IsNotAFault, TooManyOperations as HasTooManyOperations}
use Rattle.fault_syntax.specs.declared.fault.FaultFault.{FaultFault}
use Rattle.fault_syntax.specs.declared.fault.FaultFault.TheVariants.{Unexpected, Truncated, NotAFault, TooManyOperations, TooManyPrimitives, NoMemory}
use Rattle.fault_syntax.specs.inner.Answers.{fault_at}
use Rattle.fault_syntax.specs.declared.words.AllowedNames.TheVariants.{Every}
use Rattle.fault_syntax.specs.ListText.{Item as ListedItem, Primitive as OnePrimitive, Named, ItemLine}
use Rattle.fault_syntax.specs.PrimText.{PrimParts}
use Rattle.fault_syntax.proofs.LineByLine.{IsSettled, lines_one}
use Rattle.dynamic_core.specs.declared.item.Item.{Item}
use Rattle.dynamic_core.specs.ItemParts.{IsItem, RefusesItem, RefusesOn, BringsIn}
use Rattle.dynamic_core.specs.Items.{ReadsItems}
use Rattle.fault_syntax.proofs.LineExact.{outcome_one}
use Rattle.dynamic_core.proofs.Standing.{within_two, item_one}

brings_one : (v : Option ListedItem) (xs ys : List Item) → BringsIn Every v xs → BringsIn Every v ys → xs ≡ ys
brings_one None xs ys h k = h ∙ sym k
brings_one (Some (OnePrimitive text)) xs ys h k = h.2 ∙ ap (λ x. x ∷ []) (item_one text h.0 k.0 h.1 k.1) ∙ sym k.2
brings_one (Some (Named n)) xs ys h k = h ∙ sym k

-- ---- written parts are refused in one way

refusal_why : (line : ℕ) (text : PrimParts) (fault : FaultFault) → RefusesOn Every line text fault
    → (why : PrimFault) × (fault ≡ fault_at line why) × RefusesItem text why
refusal_why line text (TooManyOperations l) h = (HasTooManyOperations, ap TooManyOperations h.0, h.1)
refusal_why line text (NotAFault l) h = (IsNotAFault, ap NotAFault h.0, h.1)
refusal_why line text (Unexpected l k) h = absurd h
refusal_why line text (Truncated l) h = absurd h
refusal_why line text (TooManyPrimitives l) h = absurd h
refusal_why line text NoMemory h = absurd h

why_one : (text : PrimParts) (a b : PrimFault) → RefusesItem text a → RefusesItem text b → a ≡ b
why_one text HasTooManyOperations HasTooManyOperations h k = refl
why_one text HasTooManyOperations IsNotAFault h k = absurd (k.0 h)
why_one text IsNotAFault HasTooManyOperations h k = absurd (h.0 k)
why_one text IsNotAFault IsNotAFault h k = refl

refuses_one : (line : ℕ) (text : PrimParts) (f g : FaultFault) → RefusesOn Every line text f → RefusesOn Every line text g → f ≡ g
refuses_one line text f g h k =
    let x = refusal_why line text f h in
    let y = refusal_why line text g k in
    x.1 ∙ ap (fault_at line) (why_one text x.0 y.0 x.2 y.2) ∙ sym y.1

-- a primitive isn't
no_why : (text : PrimParts) (item : Item) (why : PrimFault) → IsItem text item → RefusesItem text why → ⊥
no_why text item HasTooManyOperations h r = within_two text item h r
no_why text item IsNotAFault h r = r.1 item h

not_refused : (line : ℕ) (text : PrimParts) (item : Item) (fault : FaultFault) → IsItem text item → RefusesOn Every line text fault → ⊥
not_refused line text item fault h r = let x = refusal_why line text fault r in no_why text item x.0 h x.2

written_one : (text other : PrimParts) → Some (OnePrimitive text) ≡ Some (OnePrimitive other) → other ≡ text
written_one text other e = cc

pub settled : IsSettled ItemLine (BringsIn Every) OnePrimitive (RefusesOn Every)
settled = record {
  outcome_one = outcome_one Every;
  brings_one = brings_one;
  not_refused = λ text items line fault b r. not_refused line text b.0 fault b.1 r;
  refuses_one = refuses_one;
  written_one = written_one;
}

-- the bytes of a list are read as one thing
pub list_one : (b : List ℕ) (q r : Result (List Item) FaultFault) → ReadsItems b q → ReadsItems b r → q ≡ r
list_one = lines_one ItemLine (BringsIn Every) OnePrimitive (RefusesOn Every) settled
