-- Trusted. Which visit of a run differs first: for any state, and then for an array with an instance of a primitive.
use Rattle.std.specs.Prelude.{◌≡◌, Bool, true, List, [], ◌∷◌, ◌++◌}
use Rattle.fault_core.specs.declared.cells.Places.{Places}
use Rattle.fault_core.specs.Primitive.{Primitive}
use Rattle.fault_core.specs.Cells.{step_cells, step_answer, pause_cells}
use Rattle.march_core.specs.Operation.{is_wrong_of}
use Rattle.march_core.specs.Visits.{Visit, MarchStep, pausing, visiting, miss_at}
use Rattle.march_core.specs.declared.visit.Miss.{Miss}
use Rattle.array_sim.specs.Run.{act_of}

-- what these steps leave, whatever the reads answer, by what one step leaves
abbrev pub left_behind : {S : Type 0} → (S → MarchStep → S) → S → List MarchStep → S
left_behind after s [] = s
left_behind after s (step ∷ steps) = left_behind after (after s step) steps

-- by what one step leaves of a state, and whether a visit to it is a read that answers another bit than the march expects
module _ {S : Type 0} (after : S → MarchStep → S) (is_wrong : S → Visit → Bool) where
  -- one of these steps is this visit, and its read differs
  pub record DiffersBy (s : S) (steps : List MarchStep) (v : Visit) : Type 0 where
    pub before : List MarchStep
    pub behind : List MarchStep
    pub split : steps ≡ before ++ visiting v ∷ behind
    pub wrong : is_wrong (left_behind after s before) v ≡ true

  -- some read of these steps differs
  abbrev pub SomeDiffersBy : S → List MarchStep → Type 0
  SomeDiffersBy s steps = (v : Visit) × DiffersBy s steps v

-- by the same two of a state
module _ {S : Type 0} (after : S → MarchStep → S) (is_wrong : S → Visit → Bool) where
  -- the first visit whose read differs
  pub record IsFirstBy (s : S) (steps : List MarchStep) (miss : Miss) : Type 0 where
    pub visit : Visit
    pub differs : DiffersBy after is_wrong s steps visit
    pub none_before : SomeDiffersBy after is_wrong s differs.before → ⊥
    pub named : miss ≡ miss_at visit

  -- what stands behind the first visit whose read differs
  abbrev pub behind_first : (s : S) (steps : List MarchStep) (miss : Miss) → IsFirstBy s steps miss → S
  behind_first s steps miss first = after (left_behind after s first.differs.before) (visiting first.visit)

-- the cells after one step
abbrev pub after_step : Primitive → Places → List Bool → MarchStep → List Bool
after_step p at cells (pausing element) = pause_cells p at cells
after_step p at cells (visiting v) = step_cells p at cells v.address (act_of v.op)

-- whether a visit to these cells is a read that answers another bit than the march expects
abbrev pub is_wrong_at : Primitive → Places → List Bool → Visit → Bool
is_wrong_at p at cells v = is_wrong_of v.op (step_answer p at cells v.address (act_of v.op))

-- some read of these steps differs
abbrev pub SomeDiffers : Primitive → Places → List Bool → List MarchStep → Type 0
SomeDiffers p at cells steps = SomeDiffersBy (after_step p at) (is_wrong_at p at) cells steps

-- the first visit whose read differs
abbrev pub IsFirstMiss : Primitive → Places → List Bool → List MarchStep → Miss → Type 0
IsFirstMiss p at cells steps miss = IsFirstBy (after_step p at) (is_wrong_at p at) cells steps miss

-- the run stops behind the first visit whose read differs, and leaves these cells
abbrev pub StopsAt : Primitive → Places → List Bool → List MarchStep → Miss → List Bool → Type 0
StopsAt p at cells steps miss left =
    (first : IsFirstMiss p at cells steps miss) × (left ≡ behind_first (after_step p at) (is_wrong_at p at) cells steps miss first)
