-- Trusted. Which visit of a run differs first.
use Rattle.std.specs.Prelude.{◌≡◌, Bool, List}
use Rattle.fault_core.specs.declared.cells.Places.{Places}
use Rattle.march_core.specs.Visits.{Visit, MarchStep, pausing, visiting}
use Rattle.march_core.specs.declared.visit.Miss.{Miss}
use Rattle.array_sim.specs.Differing.{SomeDiffersBy, IsFirstBy, behind_first}
use Rattle.march_core.specs.Operation.{is_wrong_of}
use Rattle.array_sim.specs.Run.{act_of}
use Rattle.dynamic_core.specs.Primitive.{DynamicPrimitive}
use Rattle.dynamic_core.specs.Dynamic.{Held, dyn_step, dyn_answer, after_pause}

-- what one step leaves
abbrev pub held_after : DynamicPrimitive → Places → Held → MarchStep → Held
held_after p at h (pausing element) = after_pause h
held_after p at h (visiting v) = dyn_step p at h v.address (act_of v.op)

-- whether a visit is a read that answers another bit than the march expects
abbrev pub is_wrong_visit : DynamicPrimitive → Places → Held → Visit → Bool
is_wrong_visit p at h v = is_wrong_of v.op (dyn_answer p at h v.address (act_of v.op))

-- some read of these steps differs
abbrev pub SomeDynDiffers : DynamicPrimitive → Places → Held → List MarchStep → Type 0
SomeDynDiffers p at h steps = SomeDiffersBy (held_after p at) (is_wrong_visit p at) h steps

-- the first visit whose read differs
abbrev pub IsFirstDynMiss : DynamicPrimitive → Places → Held → List MarchStep → Miss → Type 0
IsFirstDynMiss p at h steps miss = IsFirstBy (held_after p at) (is_wrong_visit p at) h steps miss

-- the run stops behind the first visit whose read differs, and leaves these cells
abbrev pub StopsAtDyn : DynamicPrimitive → Places → Held → List MarchStep → Miss → List Bool → Type 0
StopsAtDyn p at h steps miss left =
    (first : IsFirstDynMiss p at h steps miss)
    × (let behind : Held = behind_first (held_after p at) (is_wrong_visit p at) h steps miss first in left ≡ behind.cells)
