-- Public. A march on two cells alone: the aggressor's (or, for a primitive of one cell, a bystander's) and the victim's.
use Rattle.std.specs.Prelude.{Bool, true, false, Some, [], ◌∷◌}
use Rattle.march_core.specs.Visits.{Upward, Downward}
use Rattle.fault_core.specs.Primitive.{Primitive}
use Rattle.cell_machine.specs.Pairs.{pair_step, pair_answer, pair_pause}
use Rattle.cell_machine.specs.declared.pair.Pair.{Pair}
use Rattle.cell_machine.specs.declared.pair.Side.{Side}
use Rattle.cell_machine.specs.declared.pair.Side.TheVariants.{A, V}
use Rattle.pair_tracker.specs.Few.{Machine, Order}

-- what an instance of a primitive makes of its own two cells; an act on another cell leaves them
abbrev pub machine_of : Primitive → Machine Pair Side
machine_of p = record {
  step = λ q on act. pair_step p q on act;
  answer = λ q on act. pair_answer p q on act;
  other = λ q. q;
  pause = λ q. pair_pause p q;
}

-- the order in which a direction visits the two cells, by whether the aggressor has the lower address
abbrev pub sides_in : Bool → Order Side
sides_in true Upward = Some A ∷ Some V ∷ []
sides_in true Downward = Some V ∷ Some A ∷ []
sides_in false Upward = Some V ∷ Some A ∷ []
sides_in false Downward = Some A ∷ Some V ∷ []
