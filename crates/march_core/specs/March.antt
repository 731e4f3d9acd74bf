-- Trusted. A march as a plain list of elements.
use Rattle.std.specs.Prelude.{◌≡◌, ◌<◌, ◌≤◌, ℕ, zero, suc, Bool, true, false, not, ◌||◌, ◌⊎◌, IsTrue, List, [], ◌∷◌, length}
use Rattle.std.specs.List.{AllByRecursion, flat_map}
use Rattle.march_core.specs.declared.operation.Order.{Order}
use Rattle.march_core.specs.declared.operation.Order.TheVariants.{Up, Any}
use Rattle.march_core.specs.declared.operation.Op.{Op}
use Rattle.march_core.specs.Operation.{IsConsistent}

-- an element: a pause, or an order and the operations on each cell
pub data MarchElement : Type 0 where
  pause : MarchElement
  sweep : Order → List Op → MarchElement

-- a pause has the order up and no operations
abbrev pub order_of : MarchElement → Order
order_of pause = Up
order_of (sweep order ops) = order

abbrev pub ops_of : MarchElement → List Op
ops_of pause = []
ops_of (sweep order ops) = ops

abbrev pub is_pause : MarchElement → Bool
is_pause pause = true
is_pause (sweep order ops) = false

-- all operations of a march, one element after another
abbrev pub all_ops : List MarchElement → List Op
all_ops march = flat_map ops_of march

-- one element at least isn't a pause
abbrev pub has_sweep : List MarchElement → Bool
has_sweep [] = false
has_sweep (e ∷ es) = not (is_pause e) || has_sweep es

-- an element that isn't a pause has 1 to 16 operations
abbrev pub IsElement : MarchElement → Type 0
IsElement e = (is_pause e ≡ true) ⊎ ((0 < length (ops_of e)) × (length (ops_of e) ≤ 16))

-- an accepted march: at most 64 elements, of which one at least isn't a pause, at most 256 operations in all, and each
-- read expects what was written last
pub record IsMarch (march : List MarchElement) : Type 0 where
  pub some : IsTrue (has_sweep march)
  pub elements_within : length march ≤ 64
  pub each : AllByRecursion IsElement march
  pub ops_within : length (all_ops march) ≤ 256
  pub consistent : IsConsistent (all_ops march)

-- an element by its number; only asked for below the length
abbrev pub element_at : List MarchElement → ℕ → MarchElement
element_at [] i = pause
element_at (e ∷ es) zero = e
element_at (e ∷ es) (suc i) = element_at es i

-- the order of an element by its number; only asked for below the length
abbrev pub order_at : List MarchElement → ℕ → Order
order_at [] i = Any
order_at (e ∷ es) zero = order_of e
order_at (e ∷ es) (suc i) = order_at es i

-- the operations of an element by its number; none past the end
abbrev pub ops_at : List MarchElement → ℕ → List Op
ops_at [] i = []
ops_at (e ∷ es) zero = ops_of e
ops_at (e ∷ es) (suc i) = ops_at es i

-- whether an element is a pause, by its number; none is past the end
abbrev pub is_pause_at : List MarchElement → ℕ → Bool
is_pause_at [] i = false
is_pause_at (e ∷ es) zero = is_pause e
is_pause_at (e ∷ es) (suc i) = is_pause_at es i
