-- Trusted. Arrays of any size that pass a march with one instance of a dynamic primitive, and the least of them.
use Rattle.std.specs.Prelude.{◌≡◌, ◌<◌, ◌≤◌, ◌^◌, ◌⊎◌, ℕ, Bool, true, false, Option, Some, None, List, [], ◌∷◌, ◌++◌, length, map, take, drop}
use Rattle.std.specs.List.{AllByRecursion}
use Rattle.fault_core.specs.declared.cells.Places.{Places}
use Rattle.march_core.specs.March.{MarchElement}
use Rattle.march_core.specs.Visits.{FitsWord, directions_of}
use Rattle.dynamic_core.specs.Primitive.{DynamicPrimitive}
use Rattle.dynamic_core.specs.Detecting.{FitsDyn, IsCaughtDyn}
use Rattle.dynamic_prover.specs.declared.escape.DynEscape.{DynEscape}

-- an array with the places of an instance, its content, and a direction word
pub record DynArray : Type 0 where
  pub size : ℕ
  pub agg : Option ℕ
  pub vic : ℕ
  pub content : List Bool
  pub directions : ℕ

abbrev pub places_of_array : DynArray → Places
places_of_array x = record { agg = x.agg; vic = x.vic }

-- an array of two or more cells with an instance of the primitive, and a direction word that fits the march
pub record IsDynArray (march : List MarchElement) (p : DynamicPrimitive) (x : DynArray) : Type 0 where
  pub some : 2 ≤ x.size
  pub places : FitsDyn p (places_of_array x) x.size
  pub each_cell : length x.content ≡ x.size
  pub is_word : x.directions < 2 ^ 64
  pub directions : FitsWord march x.directions

-- no read differs in it
pub record PassesDyn (march : List MarchElement) (p : DynamicPrimitive) (x : DynArray) : Type 0 where
  pub array : IsDynArray march p x
  pub passes : IsCaughtDyn march (directions_of x.directions (length march)) p (places_of_array x) x.content → ⊥

-- the numbers that order arrays: the size, the aggressor's address, the victim's, the content with cell 0 first, and the direction word. Arrays
-- with and without an aggressor are never compared
abbrev pub address_number : Option ℕ → ℕ
address_number None = 0
address_number (Some a) = a

abbrev pub digit_of : Bool → ℕ
digit_of true = 1
digit_of false = 0

abbrev pub digits_of : List Bool → List ℕ
digits_of content = map digit_of content

abbrev pub order_of_array : DynArray → List ℕ
order_of_array x = x.size ∷ address_number x.agg ∷ x.vic ∷ (digits_of x.content ++ x.directions ∷ [])

-- lists of numbers in their order: the first number that differs decides
abbrev pub IsInOrder : List ℕ → List ℕ → Type 0
IsInOrder [] ys = Unit {0}
IsInOrder (x ∷ xs) [] = ⊥
IsInOrder (x ∷ xs) (y ∷ ys) = (x < y) ⊎ ((x ≡ y) × IsInOrder xs ys)

-- the cells of an escape are the first of its five, and the rest are 0
abbrev pub array_of : DynEscape → DynArray
array_of e = record { size = e.size; agg = e.agg; vic = e.vic; content = take e.size e.content; directions = e.directions }

-- an array that passes, of two to five cells; none that passes, of any size, is less
pub record LeastDyn (march : List MarchElement) (e : DynEscape) : Type 0 where
  pub escape : PassesDyn march e.prim (array_of e)
  pub few : e.size ≤ 5
  pub blank : AllByRecursion (λ b. b ≡ false) (drop e.size e.content)
  pub least : (x : DynArray) → PassesDyn march e.prim x → IsInOrder (order_of_array (array_of e)) (order_of_array x)
