-- Trusted. Arrays of three cells that pass a march with a linked fault, the least of them, and what a verdict says.
use Rattle.std.specs.Prelude.{◌≡◌, ◌<◌, ◌≤◌, ◌+◌, ◌*◌, ◌^◌, ◌⊎◌, ℕ, Bool, true, false, not, ◌&&◌, if◌then◌else◌, Option, Some, None, List, [], ◌∷◌, length}
use Rattle.fault_core.specs.Primitive.{has_aggressor}
use Rattle.march_core.specs.March.{MarchElement}
use Rattle.march_core.specs.Visits.{FitsWord, directions_of}
use Rattle.linked_faults.specs.declared.link.Link.{Link}
use Rattle.linked_faults.specs.declared.link.LinkPlaces.{LinkPlaces}
use Rattle.linked_faults.specs.declared.three.Three.{Three}
use Rattle.linked_faults.specs.declared.escape.LinkEscape.{LinkEscape}
use Rattle.linked_faults.specs.Linking.{FitsLinkPlaces}
use Rattle.linked_faults.specs.Detection.{IsCaught, DetectsAt, Detects}

abbrev pub cells_of : Three → List Bool
cells_of q = q.x ∷ q.y ∷ q.z ∷ []

-- an array of three cells with the three cells of its fault, and a direction word that fits the march
pub record IsArray (march : List MarchElement) (e : LinkEscape) : Type 0 where
  pub spots : FitsLinkPlaces e.spots 3
  pub is_word : e.directions < 2 ^ 64
  pub directions : FitsWord march e.directions

-- no read differs in it
pub record IsEscape (march : List MarchElement) (e : LinkEscape) : Type 0 where
  pub array : IsArray march e
  pub passes : IsCaught march (directions_of e.directions (length march)) e.link e.spots (cells_of e.content) → ⊥

-- places by the cells that take part: the first aggressor's, the second's, the victim's; a cell that takes no part comes last
abbrev pub number_by : Bool → Bool → LinkPlaces → ℕ
number_by true true at = 9 * at.a + 3 * at.b + at.v
number_by true false at = 9 * at.a + 3 * at.v + at.b
number_by false true at = 9 * at.b + 3 * at.v + at.a
number_by false false at = 9 * at.v + 3 * at.a + at.b

-- whether the second has an aggressor of its own
abbrev pub has_other : Link → Bool
has_other link = has_aggressor link.second && not link.is_shared

-- places in their order
abbrev pub spots_number : Link → LinkPlaces → ℕ
spots_number link at = number_by (has_aggressor link.first) (has_other link) at

-- contents in their order: 000 to 111, the digit of cell 0 first
abbrev pub three_number : Three → ℕ
three_number q = 4 * (if q.x then 1 else 0) + 2 * (if q.y then 1 else 0) + (if q.z then 1 else 0)

abbrev pub array_number : LinkEscape → ℕ
array_number e = 8 * spots_number e.link e.spots + three_number e.content

-- the order of escapes: by the array, then by the direction word
abbrev pub IsNoGreater : LinkEscape → LinkEscape → Type 0
IsNoGreater e f =
    (array_number e < array_number f) ⊎ ((array_number e ≡ array_number f) × (e.directions ≤ f.directions))

-- the least escape of its fault
pub record IsLeastEscape (march : List MarchElement) (e : LinkEscape) : Type 0 where
  pub escape : IsEscape march e
  pub least : (f : LinkEscape) → f.link ≡ e.link → IsEscape march f → IsNoGreater e f

-- none exactly where the fault is detected at every size; else the least escape
abbrev pub IsVerdict : List MarchElement → Link → Option LinkEscape → Type 0
IsVerdict march link None = Detects march link
IsVerdict march link (Some e) = (e.link ≡ link) × IsLeastEscape march e × (Detects march link → ⊥)

-- at this single size the verdict is the same
abbrev pub IsVerdictAt : ℕ → List MarchElement → Link → Option LinkEscape → Type 0
IsVerdictAt size march link None = DetectsAt size march link
IsVerdictAt size march link (Some e) = DetectsAt size march link → ⊥
