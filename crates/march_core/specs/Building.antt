-- Trusted. A march under construction: one more operation, and why it is not yet a march.
use Rattle.std.specs.Prelude.{◌≡◌, ◌<◌, ◌≤◌, ◌⊎◌, IsTrue, ℕ, Bool, true, false, not, Some, List, [], ◌∷◌, ◌++◌, length, take, slice_get}
use Rattle.std.specs.List.{AllByRecursion}
use Rattle.march_core.specs.declared.operation.Op.{Op}
use Rattle.march_core.specs.declared.fault.MarchFault.{MarchFault}
use Rattle.march_core.specs.declared.fault.MarchFault.TheVariants.{Unexpected, Truncated, Empty, TooManyElements, TooManyOps, TooManyInAll, ReadBeforeWrite, WrongExpect}
use Rattle.march_core.specs.Operation.{expected_by, HasNoWrite, LastWrites, IsConsistent}
use Rattle.march_core.specs.March.{MarchElement, sweep, order_of, ops_of, is_pause, all_ops, has_sweep, ops_at}

-- the elements with one more operation in the last one; only asked for where that isn't a pause
abbrev pub with_op : List MarchElement → Op → List MarchElement
with_op [] op = []
with_op (e ∷ []) op = sweep (order_of e) (ops_of e ++ op ∷ []) ∷ []
with_op (e ∷ f ∷ es) op = e ∷ with_op (f ∷ es) op

-- the operations of the last element
abbrev pub last_ops : List MarchElement → List Op
last_ops [] = []
last_ops (e ∷ []) = ops_of e
last_ops (e ∷ f ∷ es) = last_ops (f ∷ es)

-- there is a last element, and it isn't a pause
abbrev pub ends_in_sweep : List MarchElement → Bool
ends_in_sweep [] = false
ends_in_sweep (e ∷ []) = not (is_pause e)
ends_in_sweep (e ∷ f ∷ es) = ends_in_sweep (f ∷ es)

-- an element other than a pause has operations
abbrev pub HasOps : MarchElement → Type 0
HasOps e = (is_pause e ≡ true) ⊎ (0 < length (ops_of e))

-- one element at least isn't a pause, and each of these has operations
abbrev pub IsFilled : List MarchElement → Type 0
IsFilled elements = IsTrue (has_sweep elements) × AllByRecursion HasOps elements

-- what is built so far is within the limits, and its operations are counted
pub record IsBuilt (elements : List MarchElement) (total : ℕ) : Type 0 where
  pub each : AllByRecursion (λ e. length (ops_of e) ≤ 16) elements
  pub counted : total ≡ length (all_ops elements)
  pub within : total ≤ 256

-- all operations that stand before one of an element, named by the two numbers
abbrev pub ops_before : List MarchElement → ℕ → ℕ → List Op
ops_before elements element number = all_ops (take element elements) ++ take number (ops_at elements element)

-- the operation is a read that expects this bit, and every read before it expects what was written last
pub record IsReadAfterRightOnes (elements : List MarchElement) (element number : ℕ) (bit : Bool) : Type 0 where
  pub read : Op
  pub is_there : slice_get (ops_at elements element) number ≡ Some read
  pub expects : expected_by read ≡ Some bit
  pub right_before : IsConsistent (ops_before elements element number)

-- why the elements, which are within the limits, are no march
abbrev pub IsRefused : List MarchElement → MarchFault → Type 0
IsRefused elements Empty = IsFilled elements → ⊥
IsRefused elements (ReadBeforeWrite element number) =
    IsFilled elements × (bit : Bool) × IsReadAfterRightOnes elements element number bit × HasNoWrite (ops_before elements element number)
IsRefused elements (WrongExpect element number) =
    IsFilled elements × (bit : Bool) × IsReadAfterRightOnes elements element number bit
    × LastWrites (ops_before elements element number) (not bit)
IsRefused elements (Unexpected byte) = ⊥
IsRefused elements Truncated = ⊥
IsRefused elements TooManyElements = ⊥
IsRefused elements (TooManyOps element) = ⊥
IsRefused elements TooManyInAll = ⊥
