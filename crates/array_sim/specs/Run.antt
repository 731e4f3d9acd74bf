-- Trusted. A run of the steps of a march on an array with one instance of a primitive.
use Rattle.std.specs.Prelude.{true, false}
use Rattle.fault_core.specs.declared.primitive.Act.{Act}
use Rattle.fault_core.specs.declared.primitive.Act.TheVariants.{Write, Read}
use Rattle.fault_core.specs.declared.cells.Places.{Places}
use Rattle.march_core.specs.declared.operation.Op.{Op}
use Rattle.march_core.specs.declared.operation.Op.TheVariants.{W0, W1, R0, R1}
use Rattle.array_sim.specs.declared.simulation.Instance.{Instance}

-- an operation as an act: the bit that a read expects plays no part
abbrev pub act_of : Op → Act
act_of W0 = Write false
act_of W1 = Write true
act_of R0 = Read
act_of R1 = Read

-- where an instance stands
abbrev pub places_of : Instance → Places
places_of i = record { agg = i.agg; vic = i.vic }
