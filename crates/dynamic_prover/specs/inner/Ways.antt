-- Inner. Only helps proofs: whether some choice of directions leads through elements to any end, and the first that does.
use Rattle.std.specs.Prelude.{Bool, true, List}
use Rattle.march_core.specs.Visits.{Direction}
use Rattle.pair_tracker.specs.Ways.{Leading, can_reach, ways_to}
use Rattle.dynamic_prover.specs.declared.own_cells.OwnCells.{OwnCells}

abbrev pub any_end : OwnCells → Bool
any_end q = true

abbrev pub can_pass : {E : Type 0} → Leading OwnCells E → List E → OwnCells → Bool
can_pass lead es q = can_reach any_end lead es q

abbrev pub least_ways : {E : Type 0} → Leading OwnCells E → List E → OwnCells → List Direction
least_ways lead es q = ways_to any_end lead es q
