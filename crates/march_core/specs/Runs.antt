-- Trusted. How the hardware runs a march: in which directions, and what an operation does there.
use Rattle.std.specs.Prelude.{Bool, true, false, List, map}
use Rattle.march_core.specs.declared.operation.Order.{Order}
use Rattle.march_core.specs.declared.operation.Order.TheVariants.{Down}
use Rattle.march_core.specs.declared.operation.Op.{Op}
use Rattle.march_core.specs.declared.operation.Op.TheVariants.{W0, W1, R0, R1}
use Rattle.march_core.specs.March.{MarchElement, order_of}
use Rattle.march_core.specs.Visits.{Direction, Upward, Downward}

-- the direction in which the hardware runs an element
abbrev pub upward : Order → Direction
upward Down = Downward
upward other = Upward

abbrev pub up : List MarchElement → List Direction
up march = map (λ e. upward (order_of e)) march

abbrev pub is_write : Op → Bool
is_write W0 = true
is_write W1 = true
is_write read = false

-- the data value that an operation writes or expects
abbrev pub data_value : Op → Bool
data_value W0 = false
data_value W1 = true
data_value R0 = false
data_value R1 = true
