-- Trusted. The visits of a march to the cells of an array, in a choice of directions.
use Rattle.std.specs.Prelude.{◌+◌, ℕ, List, [], ◌∷◌, ◌++◌, map, reverse}
use Rattle.std.specs.List.{flat_map, range_with_len}
use Rattle.march_core.specs.declared.operation.Op.{Op}
use Rattle.march_core.specs.declared.visit.Miss.{Miss}
use Rattle.march_core.specs.March.{MarchElement, pause, sweep}
pub use Rattle.march_core.specs.Directions.{Direction, Upward, Downward, allows, is_direction}
unfoldable pub use Rattle.march_core.specs.DirectionWords.{direction_at}
pub use Rattle.march_core.specs.DirectionWords.{is_down_at, directions_of, FitsWord}

-- one operation of one element on one cell
pub record Visit : Type 0 where
  pub element : ℕ
  pub address : ℕ
  pub number : ℕ
  pub op : Op

-- a visit as it is told, where its read differs
abbrev pub miss_at : Visit → Miss
miss_at v = record { element = v.element; address = v.address; op = v.number }

-- the visits of an element to one cell, from this operation on
abbrev pub cell_visits : ℕ → ℕ → ℕ → List Op → List Visit
cell_visits element address number [] = []
cell_visits element address number (op ∷ ops) =
    (record { element = element; address = address; number = number; op = op }) ∷ cell_visits element address (number + 1) ops

-- the addresses in the order of a direction
unfoldable pub addresses : Direction → ℕ → List ℕ
addresses Upward size = range_with_len 0 size
addresses Downward size = reverse (range_with_len 0 size)

-- the visits of an element to these addresses
abbrev pub address_visits : ℕ → List Op → List ℕ → List Visit
address_visits element ops xs = flat_map (λ x. cell_visits element x 0 ops) xs

-- what a march does next: a pause, which is named by the number of its element, or an operation on a cell
pub data MarchStep : Type 0 where
  pausing : ℕ → MarchStep
  visiting : Visit → MarchStep

-- one element in one direction, in an array of this size
abbrev pub element_visits : ℕ → MarchElement → Direction → ℕ → List MarchStep
element_visits element pause d size = pausing element ∷ []
element_visits element (sweep order ops) d size = map visiting (address_visits element ops (addresses d size))

-- the visits of the elements from this one on
abbrev pub visits_from : ℕ → List MarchElement → List Direction → ℕ → List MarchStep
visits_from element (e ∷ es) (d ∷ ds) size = element_visits element e d size ++ visits_from (element + 1) es ds size
visits_from element march directions size = []

-- the visits of a march
abbrev pub visits : List MarchElement → List Direction → ℕ → List MarchStep
visits march directions size = visits_from 0 march directions size
