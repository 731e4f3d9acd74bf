-- Trusted. Where an instance stands in an array of two cells.
use Rattle.std.specs.Prelude.{◌≡◌, ℕ, Some, None, IsSome, List, Bool}
use Rattle.fault_core.specs.declared.cells.Places.{Places}
use Rattle.fault_core.specs.Primitive.{Primitive}
use Rattle.cell_machine.specs.declared.pair.Pair.{Pair}
use Rattle.pair_tracker.specs.declared.placement.Placement.{Placement}
use Rattle.pair_tracker.specs.declared.placement.Placement.TheVariants.{Alone, Below, Above}
use Rattle.cell_machine.specs.Seen.{pair_at}

abbrev pub places_in : Placement → Places
places_in Alone = record { agg = None; vic = 0 }
places_in Below = record { agg = Some 0; vic = 1 }
places_in Above = record { agg = Some 1; vic = 0 }

-- a primitive of one cell stands alone; one of two cells has its aggressor below or above its victim
abbrev pub FitsPlacement : Primitive → Placement → Type 0
FitsPlacement p Alone = p.agg ≡ None
FitsPlacement p Below = IsSome p.agg
FitsPlacement p Above = IsSome p.agg

-- the cell that a pair shows beside the victim: the aggressor's, or the bystander's of a primitive of one cell
abbrev pub beside_place : Placement → ℕ
beside_place Alone = 1
beside_place Below = 0
beside_place Above = 1

abbrev pub victim_place : Placement → ℕ
victim_place Alone = 0
victim_place Below = 1
victim_place Above = 0

-- the two cells as a pair
abbrev pub pair_in : Placement → List Bool → Pair
pair_in placement cells = pair_at cells (beside_place placement) (victim_place placement)
