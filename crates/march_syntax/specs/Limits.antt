-- Trusted. The first place in a march's text that exceeds a limit: 64 elements, 16 operations an element, 256
-- operations in all.
use Rattle.std.specs.Prelude.{◌≡◌, ◌<◌, ◌≤◌, List, [], ◌∷◌, ◌++◌, length}
use Rattle.std.specs.List.{AllByRecursion}
use Rattle.march_core.specs.declared.operation.Op.{Op}
use Rattle.march_core.specs.declared.fault.MarchFault.{MarchFault}
use Rattle.march_core.specs.declared.fault.MarchFault.TheVariants.{Unexpected, Truncated, Empty, TooManyElements, TooManyOps, TooManyInAll, ReadBeforeWrite, WrongExpect}
use Rattle.march_core.specs.March.{MarchElement, sweep, order_of, ops_of, all_ops}

-- the elements are within the limits
pub record IsWithin (elements : List MarchElement) : Type 0 where
  pub elements_within : length elements ≤ 64
  pub each : AllByRecursion (λ e. length (ops_of e) ≤ 16) elements
  pub ops_within : length (all_ops elements) ≤ 256

-- a place before an operation: the elements that are whole, and the operations of the next one that stand
-- before it
pub record BeforeOp (elements : List MarchElement) : Type 0 where
  pub whole : List MarchElement
  pub element : MarchElement
  pub others : List MarchElement
  pub ops : List Op
  pub next : Op
  pub more : List Op
  pub split : elements ≡ whole ++ element ∷ others
  pub ops_split : ops_of element ≡ ops ++ next ∷ more

-- what stands before that place
abbrev pub so_far : {elements : List MarchElement} → BeforeOp elements → List MarchElement
so_far place = place.whole ++ sweep (order_of place.element) place.ops ∷ []

-- a place before an element
pub record BeforeElement (elements : List MarchElement) : Type 0 where
  pub whole : List MarchElement
  pub next : MarchElement
  pub others : List MarchElement
  pub split : elements ≡ whole ++ next ∷ others

-- The elements exceed a limit, and the first place that does so answers this: what stands before it is
-- within the limits, and the next element or operation is one too many.
abbrev pub Exceeds : List MarchElement → MarchFault → Type 0
Exceeds elements TooManyElements =
    (place : BeforeElement elements) × IsWithin place.whole × (length place.whole ≡ 64)
Exceeds elements (TooManyOps element) =
    (place : BeforeOp elements) × IsWithin (so_far place) × (length place.ops ≡ 16) × (length place.whole ≡ element)
Exceeds elements TooManyInAll =
    (place : BeforeOp elements) × IsWithin (so_far place) × (length place.ops < 16) × (length (all_ops (so_far place)) ≡ 256)
Exceeds elements (Unexpected byte) = ⊥
Exceeds elements Truncated = ⊥
Exceeds elements Empty = ⊥
Exceeds elements (ReadBeforeWrite element op) = ⊥
Exceeds elements (WrongExpect element op) = ⊥
