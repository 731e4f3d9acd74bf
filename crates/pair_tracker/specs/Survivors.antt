-- Public. What a march lets through on an array of two cells, over all choices of direction.
use Rattle.std.specs.Prelude.{◌≡◌, ◌<◌, ◌≤◌, ◌+◌, ◌*◌, ◌^◌, ℕ, Bool, Option, Some, None, List, length, map, if◌then◌else◌, Contains}
use Rattle.std.specs.List.{AllByRecursion}
use Rattle.std.specs.List.Sorted.{IsStrictlyIncreasing}
use Rattle.fault_core.specs.Primitive.{Primitive}
use Rattle.march_core.specs.March.{MarchElement}
use Rattle.march_core.specs.Visits.{FitsWord, directions_of}
use Rattle.array_sim.specs.Detection.{IsCaught, cells_after}
use Rattle.cell_machine.specs.declared.pair.Pair.{Pair}
use Rattle.pair_tracker.specs.declared.placement.Placement.{Placement}
use Rattle.pair_tracker.specs.declared.placement.Survivor.{Survivor}
use Rattle.pair_tracker.specs.Placements.{places_in, pair_in}

-- no read differs in the directions of a fitting word, and the two cells end so
pub record Survives (march : List MarchElement) (p : Primitive) (placement : Placement) (content : List Bool) (word : ℕ)
    (final : Pair) : Type 0 where
  pub is_word : word < 2 ^ 64
  pub fits : FitsWord march word
  pub passes : IsCaught march (directions_of word (length march)) p (places_in placement) content → ⊥
  pub ends : pair_in placement (cells_after march (directions_of word (length march)) p (places_in placement) content) ≡ final

-- pairs in their order: the aggressor's bit first, 0 before 1
abbrev pub pair_number : Pair → ℕ
pair_number q = 2 * (if q.a then 1 else 0) + (if q.v then 1 else 0)

-- a final pair with the least word that leads there
pub record IsEnd (Leads : Pair → ℕ → Type 0) (s : Survivor) : Type 0 where
  pub leads : Leads s.pair s.directions
  pub least : (word : ℕ) → Leads s.pair word → s.directions ≤ word

-- every final pair stands once, in the order of the pairs
pub record AreEnds (Leads : Pair → ℕ → Type 0) (found : List Survivor) : Type 0 where
  pub each : AllByRecursion (IsEnd Leads) found
  pub all : (final : Pair) (word : ℕ) → Leads final word → (s : Survivor) × Contains found s × (s.pair ≡ final)
  pub ordered : IsStrictlyIncreasing (map (λ s. pair_number s.pair) found)

-- the final pairs that a march lets through from this content
abbrev pub AreSurvivors : List MarchElement → Primitive → Placement → List Bool → List Survivor → Type 0
AreSurvivors march p placement content found = AreEnds (λ final word. Survives march p placement content word final) found

-- the least number of which this holds, where there is one
abbrev pub IsLeastOf : (ℕ → Type 0) → Option ℕ → Type 0
IsLeastOf P None = (word : ℕ) → P word → ⊥
IsLeastOf P (Some least) = P least × ((word : ℕ) → P word → least ≤ word)

-- the march lets this content through in the directions of this word
abbrev pub LetsThrough : List MarchElement → Primitive → Placement → List Bool → ℕ → Type 0
LetsThrough march p placement content word = (final : Pair) × Survives march p placement content word final

-- the least word in which the content is let through, where there is one
abbrev pub IsLeastWord : List MarchElement → Primitive → Placement → List Bool → Option ℕ → Type 0
IsLeastWord march p placement content least = IsLeastOf (λ word. LetsThrough march p placement content word) least
