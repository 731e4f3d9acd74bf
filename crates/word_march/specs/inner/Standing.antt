-- Inner. For proofs and private contracts alone, beside Standing: proof help, and nothing that a clause claims: where an iterator over the operations stands, and what it has left.
use Rattle.std.specs.Prelude.{◌≡◌, ℕ, suc, ◌+◌, ◌<◌, ◌≤◌, true, false, List, [], ◌∷◌, length, slice_index}
use Rattle.march_core.specs.declared.operation.Op.{Op}
use Rattle.march_core.specs.March.{MarchElement, pause, sweep, ops_at, is_pause_at}
use Rattle.march_core.specs.Visits.{Visit}
use Rattle.memory_desc.specs.Descriptions.{Description}
use Rattle.word_march.specs.declared.place.MarchPlace.{MarchPlace}
use Rattle.word_march.specs.Standing.{addresses_at}

-- the visit at a place, of this operation
abbrev pub visit_at : List MarchElement → ℕ → MarchPlace → Op → Visit
visit_at march size p op =
    record { element = p.element; address = slice_index (addresses_at march p.element size) p.step; number = p.op; op = op }

-- all elements from this one on are pauses
abbrev pub ArePauses : List MarchElement → ℕ → ℕ → Type 0
ArePauses march from n = (k : ℕ) → from ≤ k → k < n → is_pause_at march k ≡ true

-- the first element from this one on that isn't a pause
pub record IsNextSweep (march : List MarchElement) (from n : ℕ) : Type 0 where
  pub reached : from ≤ n
  pub within : n < length march
  pub sweeps : is_pause_at march n ≡ false
  pub pauses : ArePauses march from n

-- the first place of a run, in this element
abbrev pub first_of : ℕ → ℕ → MarchPlace
first_of background element = record { background = background; element = element; step = 0; op = 0 }

-- a place is the first of a run
abbrev pub IsFirst : List MarchElement → ℕ → MarchPlace → Type 0
IsFirst march background p = (n : ℕ) × IsNextSweep march 0 n × (p ≡ first_of background n)

-- the place behind a place, in the order of the visits
pub data Follows (march : List MarchElement) (d : Description) (p q : MarchPlace) : Type 0 where
  next_op : p.op + 1 < length (ops_at march p.element) → q ≡ record p { op = p.op + 1 } → Follows march d p q
  next_step : p.op + 1 ≡ length (ops_at march p.element) → p.step + 1 < d.words
      → q ≡ record p { step = p.step + 1; op = 0 } → Follows march d p q
  next_elem : p.op + 1 ≡ length (ops_at march p.element) → p.step + 1 ≡ d.words → IsNextSweep march (p.element + 1) q.element
      → q ≡ record p { element = q.element; step = 0; op = 0 } → Follows march d p q
  next_run : p.op + 1 ≡ length (ops_at march p.element) → p.step + 1 ≡ d.words → ArePauses march (p.element + 1) (length march)
      → IsFirst march (p.background + 1) q → Follows march d p q

-- how many elements are pauses
abbrev pub pause_count : List MarchElement → ℕ
pause_count [] = 0
pause_count (pause ∷ march) = suc (pause_count march)
pause_count (sweep order ops ∷ march) = pause_count march
