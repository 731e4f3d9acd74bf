-- Public. Arrays that pass a march with one instance of such a primitive, the least of them, and what a verdict says.
use Rattle.std.specs.Prelude.{◌≡◌, ◌<◌, ◌≤◌, ◌/◌, ◌%◌, ◌^◌, ◌==◌, ◌⊎◌, ℕ, zero, suc, Bool, Option, Some, None, List, [], ◌∷◌, map, length}
use Rattle.march_core.specs.March.{MarchElement}
use Rattle.march_core.specs.Visits.{FitsWord, directions_of}
use Rattle.sequence_faults.specs.declared.escape.SeqEscape.{SeqEscape}
use Rattle.sequence_faults.specs.Primitive.{SequencePrimitive}
use Rattle.sequence_faults.specs.Detection.{FitsAt, IsCaught, DetectsAt, Detects}

-- so many digits of a number, the greatest first
abbrev pub digits : ℕ → ℕ → ℕ → List ℕ
digits base zero number = []
digits base (suc count) number = ((number / base ^ count) % base) ∷ digits base count number

-- the addresses of the fault's cells are the digits of a number, to the base of the size
abbrev pub addresses_in : ℕ → SequencePrimitive → ℕ → List ℕ
addresses_in size p places = digits size (length p.states) places

-- the content is a binary number, with cell 0 first
abbrev pub content_in : ℕ → ℕ → List Bool
content_in size content = map (λ digit. digit == 1) (digits 2 size content)

-- an array of two or more cells with an instance of the primitive, and a direction word that fits the march
pub record IsArray (march : List MarchElement) (p : SequencePrimitive) (e : SeqEscape) : Type 0 where
  pub some : 2 ≤ e.size
  pub fits : FitsAt p (addresses_in e.size p e.places) e.size
  pub places_within : e.places < e.size ^ length p.states
  pub content_within : e.content < 2 ^ e.size
  pub is_word : e.directions < 2 ^ 64
  pub directions : FitsWord march e.directions

-- no read differs in it
pub record IsEscape (march : List MarchElement) (p : SequencePrimitive) (e : SeqEscape) : Type 0 where
  pub array : IsArray march p e
  pub passes : IsCaught march (directions_of e.directions (length march)) p (addresses_in e.size p e.places) (content_in e.size e.content) → ⊥

-- arrays in their order: by the size, by the addresses (the aggressors' first), by the content, by the direction word
abbrev pub IsInOrder : List ℕ → List ℕ → Type 0
IsInOrder [] ys = Unit {0}
IsInOrder (x ∷ xs) [] = ⊥
IsInOrder (x ∷ xs) (y ∷ ys) = (x < y) ⊎ ((x ≡ y) × IsInOrder xs ys)

abbrev pub order_of : SeqEscape → List ℕ
order_of e = e.size ∷ e.places ∷ e.content ∷ e.directions ∷ []

-- none that passes, of any size, is less
pub record IsLeastEscape (march : List MarchElement) (p : SequencePrimitive) (e : SeqEscape) : Type 0 where
  pub escape : IsEscape march p e
  pub least : (f : SeqEscape) → IsEscape march p f → IsInOrder (order_of e) (order_of f)

-- none exactly where the primitive is detected at every size; else the least escape
abbrev pub IsVerdict : List MarchElement → SequencePrimitive → Option SeqEscape → Type 0
IsVerdict march p None = Detects march p
IsVerdict march p (Some e) = IsLeastEscape march p e × (Detects march p → ⊥)

-- at this single size the verdict is the same
abbrev pub IsVerdictAt : ℕ → List MarchElement → SequencePrimitive → Option SeqEscape → Type 0
IsVerdictAt size march p None = DetectsAt size march p
IsVerdictAt size march p (Some e) = DetectsAt size march p → ⊥
