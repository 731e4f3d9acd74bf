-- Inner. For proofs and private contracts alone, beside Dynamic: what one instance of a dynamic primitive does to an array of cells, step by step.
use Rattle.std.specs.Prelude.{if◌then◌else◌, Option, Some, None, List, [], ◌∷◌}
use Rattle.fault_core.specs.declared.cells.Places.{Places}
use Rattle.march_core.specs.Visits.{MarchStep, pausing, visiting, miss_at}
use Rattle.march_core.specs.declared.visit.Miss.{Miss}
use Rattle.march_core.specs.Operation.{is_wrong_of}
use Rattle.array_sim.specs.Run.{act_of}
use Rattle.dynamic_core.specs.Primitive.{DynamicPrimitive}
use Rattle.dynamic_core.specs.Dynamic.{Held, dyn_step, dyn_answer, after_pause}

-- how a run ends: behind the first read that differs, or behind the last step
pub data Ending : Type 0 where
  Differs : Miss → Held → Ending
  Ends : Held → Ending

-- the steps one after another, up to the first read that differs
abbrev pub dyn_run : DynamicPrimitive → Places → Held → List MarchStep → Ending
dyn_run p at h [] = Ends h
dyn_run p at h (pausing element ∷ steps) = dyn_run p at (after_pause h) steps
dyn_run p at h (visiting v ∷ steps) =
    if is_wrong_of v.op (dyn_answer p at h v.address (act_of v.op))
    then Differs (miss_at v) (dyn_step p at h v.address (act_of v.op))
    else dyn_run p at (dyn_step p at h v.address (act_of v.op)) steps

-- the read that differed, if one did
abbrev pub miss_of : Ending → Option Miss
miss_of (Differs miss h) = Some miss
miss_of (Ends h) = None

-- what is left
abbrev pub held_of : Ending → Held
held_of (Differs miss h) = h
held_of (Ends h) = h

-- how a run ended that left this, with this answer
abbrev pub ending_as : Option Miss → Held → Ending
ending_as None h = Ends h
ending_as (Some miss) h = Differs miss h
