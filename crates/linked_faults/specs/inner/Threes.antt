-- Inner. Only helps proofs: three cells of an array, and a march on three cells alone.
use Rattle.std.specs.Prelude.{Bool, ℕ, Option, Some, List, [], ◌∷◌}
use Rattle.fault_core.specs.declared.primitive.Act.{Act}
use Rattle.fault_core.specs.Cells.{cell}
use Rattle.march_core.specs.Visits.{Upward, Downward}
use Rattle.pair_tracker.specs.Few.{Machine, Order}
use Rattle.linked_faults.specs.declared.link.Link.{Link}
use Rattle.linked_faults.specs.declared.link.LinkPlaces.{LinkPlaces}
use Rattle.linked_faults.specs.declared.three.Three.{Three}
use Rattle.linked_faults.specs.declared.three.Seat.{Seat}
use Rattle.linked_faults.specs.declared.three.Seat.TheVariants.{Low, Mid, High}
use Rattle.linked_faults.specs.Linking.{linked_cells, linked_answer, linked_pause}
use Rattle.linked_faults.specs.Escapes.{cells_of}

-- three addresses from the lowest on
pub record Trio : Type 0 where
  pub low : ℕ
  pub mid : ℕ
  pub high : ℕ

abbrev pub three_at : Trio → List Bool → Three
three_at t cells = record { x = cell cells t.low; y = cell cells t.mid; z = cell cells t.high }

abbrev pub three_of : List Bool → Three
three_of cells = record { x = cell cells 0; y = cell cells 1; z = cell cells 2 }

abbrev pub step_three : Link → LinkPlaces → Three → ℕ → Act → Three
step_three link at q i act = three_of (linked_cells link at (cells_of q) i act)

abbrev pub answer_three : Link → LinkPlaces → Three → ℕ → Act → Option Bool
answer_three link at q i act = linked_answer link at (cells_of q) i act

abbrev pub pause_three : Link → LinkPlaces → Three → Three
pause_three link at q = three_of (linked_pause link at (cells_of q))

abbrev pub seat_index : Seat → ℕ
seat_index Low = 0
seat_index Mid = 1
seat_index High = 2

-- what a linked fault makes of its three cells; an act on another cell leaves them
abbrev pub machine_of : Link → LinkPlaces → Machine Three Seat
machine_of link at = record {
  step = λ q s act. step_three link at q (seat_index s) act;
  answer = λ q s act. answer_three link at q (seat_index s) act;
  other = λ q. q;
  pause = λ q. pause_three link at q;
}

abbrev pub cells_in : Order Seat
cells_in Upward = Some Low ∷ Some Mid ∷ Some High ∷ []
cells_in Downward = Some High ∷ Some Mid ∷ Some Low ∷ []
