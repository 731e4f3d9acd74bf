-- Trusted. The ways in which elements go over the addresses.
use Rattle.std.specs.Prelude.{Bool, true, false, ◌&&◌, List, [], ◌∷◌}
use Rattle.march_core.specs.declared.operation.Order.{Order}
use Rattle.march_core.specs.declared.operation.Order.TheVariants.{Up, Down, Any}
use Rattle.march_core.specs.March.{MarchElement, order_of}

-- the way in which an element goes over the addresses
pub data Direction : Type 0 where
  Upward : Direction
  Downward : Direction

-- whether an order leaves this direction open
abbrev pub allows : Order → Direction → Bool
allows Up Upward = true
allows Down Downward = true
allows Any direction = true
allows order direction = false

-- whether there is a direction for each element, as its order allows; upward for a pause
abbrev pub is_direction : List MarchElement → List Direction → Bool
is_direction [] [] = true
is_direction (e ∷ es) (d ∷ ds) = allows (order_of e) d && is_direction es ds
is_direction march directions = false
