-- Inner. Only helps proofs: what the search for the least escape finds in one placement.
use Rattle.std.specs.Prelude.{◌≡◌, ◌<◌, ℕ, Bool, Some, List, length}
use Rattle.fault_core.specs.Primitive.{Primitive}
use Rattle.march_core.specs.March.{MarchElement}
use Rattle.pair_tracker.specs.declared.placement.Placement.{Placement}
use Rattle.pair_tracker.specs.Placements.{places_in}
use Rattle.pair_tracker.specs.Survivors.{LetsThrough, IsLeastWord}
use Rattle.escape_array.specs.declared.escape.EscapeArray.{EscapeArray}
use Rattle.escape_array.specs.Escapes.{places_of_escape, content_number}

-- no content before this one is let through
abbrev pub NoneBefore : List MarchElement → Primitive → Placement → ℕ → Type 0
NoneBefore march p placement number =
    (content : List Bool) → length content ≡ 2 → content_number content < number → (word : ℕ)
    → LetsThrough march p placement content word → ⊥

-- the array of the least content that is let through, with its least word
pub record IsLeastIn (march : List MarchElement) (p : Primitive) (placement : Placement) (e : EscapeArray) : Type 0 where
  pub prim : e.prim ≡ p
  pub places : places_of_escape e ≡ places_in placement
  pub two_cells : length e.content ≡ 2
  pub before : NoneBefore march p placement (content_number e.content)
  pub word : IsLeastWord march p placement e.content (Some e.directions)
