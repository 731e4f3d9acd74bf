-- Public. When a march detects such a primitive: at one size, and at every size.
use Rattle.std.specs.Prelude.{◌≡◌, ◌≢◌, ◌<◌, ◌≤◌, ℕ, Bool, IsTrue, List, [], ◌∷◌, length}
use Rattle.std.specs.List.{AllByRecursion}
use Rattle.march_core.specs.March.{MarchElement}
use Rattle.march_core.specs.Operation.{is_wrong_of}
use Rattle.march_core.specs.Visits.{Visit, MarchStep, pausing, visiting, Direction, is_direction, visits}
use Rattle.array_sim.specs.Run.{act_of}
use Rattle.array_sim.specs.Differing.{SomeDiffersBy}
use Rattle.sequence_faults.specs.Primitive.{SequencePrimitive}
use Rattle.sequence_faults.specs.Stepping.{Held, held_as, nothing, seq_step, seq_answer, after_pause}

abbrev pub AreDifferent : List ℕ → Type 0
AreDifferent [] = Unit {0}
AreDifferent (x ∷ xs) = AllByRecursion (λ y. x ≢ y) xs × AreDifferent xs

-- the addresses of an instance in an array of this size
pub record FitsAt (p : SequencePrimitive) (at : List ℕ) (size : ℕ) : Type 0 where
  pub each : length at ≡ length p.states
  pub within : AllByRecursion (λ x. x < size) at
  pub different : AreDifferent at

-- what one step leaves
abbrev pub held_after : SequencePrimitive → List ℕ → Held → MarchStep → Held
held_after p at h (pausing element) = after_pause h
held_after p at h (visiting v) = seq_step p at h v.address (act_of v.op)

-- whether a visit is a read that answers another bit than the march expects
abbrev pub is_wrong_visit : SequencePrimitive → List ℕ → Held → Visit → Bool
is_wrong_visit p at h v = is_wrong_of v.op (seq_answer p at h v.address (act_of v.op))

-- in these directions on this content some read answers another bit than the march expects
abbrev pub IsCaught : List MarchElement → List Direction → SequencePrimitive → List ℕ → List Bool → Type 0
IsCaught march directions p at content =
    SomeDiffersBy (held_after p at) (is_wrong_visit p at) (held_as content nothing) (visits march directions (length content))

-- in arrays of this size the primitive is caught in every place, from every content, in every choice of directions
abbrev pub DetectsAt : ℕ → List MarchElement → SequencePrimitive → Type 0
DetectsAt size march p =
    (directions : List Direction) (at : List ℕ) (content : List Bool)
    → IsTrue (is_direction march directions) → FitsAt p at size → length content ≡ size
    → IsCaught march directions p at content

-- it is caught so in arrays of every size from two cells on; in an array of two there is no place for three
abbrev pub Detects : List MarchElement → SequencePrimitive → Type 0
Detects march p = (size : ℕ) → 2 ≤ size → DetectsAt size march p
