-- Inner. For proofs and private contracts alone, beside LineByLine: what the lines of a list bring, and the first line that is refused: for any grammar of a line, and any primitives.
use Rattle.std.specs.Prelude.{◌≡◌, ◌<◌, ◌≤◌, ◌+◌, ◌⊎◌, ℕ, Option, Some, List, ◌++◌, length}
use Rattle.fault_syntax.specs.declared.fault.FaultFault.{FaultFault}
use Rattle.fault_syntax.specs.declared.fault.FaultFault.TheVariants.{Unexpected, Truncated, NotAFault, TooManyOperations, TooManyPrimitives, NoMemory}
use Rattle.fault_syntax.specs.PrimText.{PrimParts}

-- there is no room for more primitives, or no memory
abbrev pub HasNoRoom : {P : Type 0} → List P → List P → ℕ → FaultFault → Type 0
HasNoRoom held more line fault = (fault ≡ NoMemory) ⊎ ((fault ≡ TooManyPrimitives line) × (1024 < length held + length more))

module _ {V P : Type 0} (Brings : Option V → List P → Type 0) where
  -- what a line brings is added
  pub record AddsBy (v : Option V) (old new : List P) : Type 0 where
    pub more : List P
    pub brought : Brings v more
    pub joined : new ≡ old ++ more
    pub within : length new ≤ 1024

module _ {V P : Type 0} (Brings : Option V → List P → Type 0) (written : PrimParts → V)
    (Refuses : ℕ → PrimParts → FaultFault → Type 0) where
  -- or isn't
  abbrev pub NotAddedBy : Option V → ℕ → List P → FaultFault → Type 0
  NotAddedBy v line old (TooManyPrimitives l) = (l ≡ line) × (more : List P) × Brings v more × (1024 < length old + length more)
  NotAddedBy v line old NoMemory = Unit {0}
  NotAddedBy v line old (NotAFault l) = (text : PrimParts) × (v ≡ Some (written text)) × Refuses line text (NotAFault l)
  NotAddedBy v line old (TooManyOperations l) = (text : PrimParts) × (v ≡ Some (written text)) × Refuses line text (TooManyOperations l)
  NotAddedBy v line old (Unexpected l byte) = ⊥
  NotAddedBy v line old (Truncated l) = ⊥
