-- Inner. For proofs and private contracts alone, beside Run: a run of the steps of a march on an array with one instance of a primitive.
use Rattle.std.specs.Prelude.{Bool, if◌then◌else◌, Option, Some, None, List, [], ◌∷◌}
use Rattle.fault_core.specs.declared.cells.Places.{Places}
use Rattle.fault_core.specs.Primitive.{Primitive}
use Rattle.fault_core.specs.Cells.{step_cells, step_answer, pause_cells}
use Rattle.march_core.specs.Operation.{is_wrong_of}
use Rattle.march_core.specs.Visits.{MarchStep, pausing, visiting, miss_at}
use Rattle.march_core.specs.declared.visit.Miss.{Miss}
use Rattle.array_sim.specs.Run.{act_of}

-- the cells after a run, and the read that differed, if one did
pub record Outcome : Type 0 where
  pub cells : List Bool
  pub miss : Option Miss

-- the steps one after another, up to the first read that differs
abbrev pub run_of : Primitive → Places → List Bool → List MarchStep → Outcome
run_of p at cells [] = record { cells = cells; miss = None }
run_of p at cells (pausing element ∷ steps) = run_of p at (pause_cells p at cells) steps
run_of p at cells (visiting v ∷ steps) =
    if is_wrong_of v.op (step_answer p at cells v.address (act_of v.op))
    then (record { cells = step_cells p at cells v.address (act_of v.op); miss = Some (miss_at v) })
    else run_of p at (step_cells p at cells v.address (act_of v.op)) steps
