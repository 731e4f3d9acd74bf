-- The addresses of an element in turn, as the cells of an instance see them, and the elements of a march in turn.
use Rattle.std.proofs.Common.{◌≡◌, ◌+◌, ◌<◌, ◌≤◌, ℕ, zero, suc, Option, Some, None, List, [], ◌∷◌, length, drop, get_or, ap, sym, subst, ◌∙◌, arith}
use Rattle.std.specs.Option.{option_and_then}
use Rattle.std.specs.List.{All, Contains}
use Rattle.std.proofs.lemmas.List.{drop_more, get_or-map, length-map}
use Rattle.std.proofs.Math.ListN.{drop_of_length-le}
use Rattle.march_core.specs.declared.operation.Op.{Op}
use Rattle.march_core.specs.March.{MarchElement, pause, element_at}
use Rattle.march_core.specs.Visits.{Direction, Upward, Downward, addresses}
use Rattle.march_core.specs.Addresses.{address_at}
use Rattle.march_core.proofs.Addresses.{length-addresses, address_upward, address_downward}
use Rattle.array_sim.proofs.Runs.{element_at-get}
use Rattle.pair_tracker.specs.Few.{Machine, cell_run, cells_run}
use Rattle.sequence_faults.specs.declared.few.Few.{Few}
use Rattle.sequence_faults.specs.declared.few.Spots.{Spots}
use Rattle.sequence_faults.specs.inner.Few.{seat_at, order_at}

turn_at : (d : Direction) (size turn : ℕ) → turn < size → get_or (addresses d size) turn 0 ≡ address_at d turn size
unfolding address_at
turn_at Upward size turn h = address_upward size turn h
turn_at Downward size turn h = address_downward size turn h

length-order : (s : Spots) (d : Direction) → length (order_at s d) ≡ s.size
length-order s d = length-map (addresses d s.size) (seat_at s) ∙ length-addresses d s.size

next_turn : (s : Spots) (d : Direction) (turn : ℕ) → turn < s.size → drop turn (order_at s d) ≡ seat_at s (address_at d turn s.size) ∷ drop (turn + 1) (order_at s d)
next_turn s d turn h =
    let size = length-order s d in
    let count = length-addresses d s.size in
    drop_more (order_at s d) turn None (omega arith)
    ∙ ap (λ t. t ∷ drop (turn + 1) (order_at s d))
    (get_or-map (seat_at s) (addresses d s.size) turn 0 None (omega arith) ∙ ap (seat_at s) (turn_at d s.size turn h))

module _ (m : Machine Few ℕ) (s : Spots) (d : Direction) (ops : List Op) (few : Few) (turn address : ℕ) (seat : Option ℕ) (h : turn < s.size)
    (is : address ≡ address_at d turn s.size) (there : seat ≡ seat_at s address) where
  one_turn : cells_run m few (drop turn (order_at s d)) ops ≡ option_and_then (λ r. cells_run m r (drop (turn + 1) (order_at s d)) ops) (cell_run m few seat ops)
  one_turn =
      ap (λ ts. cells_run m few ts ops) (next_turn s d turn h)
      ∙ ap (λ t. option_and_then (λ r. cells_run m r (drop (turn + 1) (order_at s d)) ops) (cell_run m few t ops)) (sym (there ∙ ap (seat_at s) is))

  pub turn_stops : (o : Option Few) → o ≡ cell_run m few seat ops → o ≡ None → cells_run m few (drop turn (order_at s d)) ops ≡ None
  turn_stops o e none = one_turn ∙ ap (option_and_then (λ r. cells_run m r (drop (turn + 1) (order_at s d)) ops)) (sym e ∙ none)

  pub turn_goes_on : (o : Option Few) (next : Few) → o ≡ cell_run m few seat ops → o ≡ Some next
      → cells_run m few (drop turn (order_at s d)) ops ≡ cells_run m next (drop (turn + 1) (order_at s d)) ops
  turn_goes_on o next e some = one_turn ∙ ap (option_and_then (λ r. cells_run m r (drop (turn + 1) (order_at s d)) ops)) (sym e ∙ some)

pub turns_end : (m : Machine Few ℕ) (s : Spots) (d : Direction) (ops : List Op) (few : Few) (turn : ℕ) → s.size ≤ turn → cells_run m few (drop turn (order_at s d)) ops ≡ Some few
turns_end m s d ops few turn h = let size = length-order s d in ap (λ ts. cells_run m few ts ops) (drop_of_length-le (order_at s d) (omega arith))

-- the elements from one on
pub next_element : (march : List MarchElement) (i : ℕ) → i < length march → drop i march ≡ element_at march i ∷ drop (i + 1) march
next_element march i h = drop_more march i pause h ∙ ap (λ e. e ∷ drop (i + 1) march) (sym (element_at-get march i pause h))

pub no_element : (march : List MarchElement) (i : ℕ) → length march ≤ i → drop i march ≡ []
no_element march i h = drop_of_length-le march h

-- what holds of each is true of one
pub all_contained : {X : Type 0} (P : X → Type 0) (xs : List X) (x : X) → All P xs → Contains xs x → P x
all_contained P xs x all (k, within, is) = subst P is (all k x within)

pub all_single : {X : Type 0} (P : X → Type 0) (x : X) → P x → All P (x ∷ [])
all_single P x p zero d within = p
all_single P x p (suc k) d within = absurd (omega arith)
