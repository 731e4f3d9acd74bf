-- Trusted. Arrays of two cells that pass a march, and the least of them.
use Rattle.std.specs.Prelude.{◌≡◌, ◌<◌, ◌≤◌, ◌+◌, ◌^◌, ◌⊎◌, ℕ, Bool, Option, Some, None, List, [], ◌∷◌, length, if◌then◌else◌}
use Rattle.fault_core.specs.declared.cells.Places.{Places}
use Rattle.march_core.specs.March.{MarchElement}
use Rattle.march_core.specs.Visits.{FitsWord, directions_of}
use Rattle.array_sim.specs.Detection.{IsCaught}
use Rattle.pair_tracker.specs.declared.placement.Placement.{Placement}
use Rattle.pair_tracker.specs.Placements.{places_in, FitsPlacement}
use Rattle.escape_array.specs.declared.escape.EscapeArray.{EscapeArray}

abbrev pub places_of_escape : EscapeArray → Places
places_of_escape e = record { agg = e.agg; vic = e.vic }

-- an array of two cells with the instance in one of its placements, and a direction word that fits the march
pub record IsArray (march : List MarchElement) (e : EscapeArray) : Type 0 where
  pub placement : Placement
  pub fits : FitsPlacement e.prim placement
  pub places : places_of_escape e ≡ places_in placement
  pub two_cells : length e.content ≡ 2
  pub is_word : e.directions < 2 ^ 64
  pub directions : FitsWord march e.directions

-- no read differs in it
pub record IsEscape (march : List MarchElement) (e : EscapeArray) : Type 0 where
  pub array : IsArray march e
  pub passes : IsCaught march (directions_of e.directions (length march)) e.prim (places_of_escape e) e.content → ⊥

-- placements in their order: aggressor 0 before aggressor 1
abbrev pub placement_number : Option ℕ → ℕ
placement_number None = 0
placement_number (Some a) = a

-- contents in their order: 00, 01, 10, 11, the digit of cell 0 first
abbrev pub content_number : List Bool → ℕ
content_number [] = 0
content_number (b ∷ bs) = (if b then 2 ^ length bs else 0) + content_number bs

-- the order of escapes: by placement, then by content, then by direction word
abbrev pub IsNoGreater : EscapeArray → EscapeArray → Type 0
IsNoGreater e f =
    (placement_number e.agg < placement_number f.agg)
    ⊎ ((placement_number e.agg ≡ placement_number f.agg)
    × ((content_number e.content < content_number f.content)
    ⊎ ((content_number e.content ≡ content_number f.content) × (e.directions ≤ f.directions))))

-- the least escape of its primitive
pub record IsLeastEscape (march : List MarchElement) (e : EscapeArray) : Type 0 where
  pub escape : IsEscape march e
  pub least : (f : EscapeArray) → f.prim ≡ e.prim → IsEscape march f → IsNoGreater e f
