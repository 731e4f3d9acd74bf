-- Inner. Only helps proofs: the cells of an instance alone, and which address is which of them.
use Rattle.std.specs.Prelude.{◌==◌, ◌+◌, ℕ, Bool, if◌then◌else◌, Option, Some, None, List, [], ◌∷◌, map, slice_index_or}
use Rattle.fault_core.specs.Cells.{cell}
use Rattle.march_core.specs.Visits.{addresses}
use Rattle.pair_tracker.specs.Few.{Machine, Order}
use Rattle.sequence_faults.specs.declared.few.Few.{Few}
use Rattle.sequence_faults.specs.declared.few.Spots.{Spots}
use Rattle.sequence_faults.specs.Primitive.{SequencePrimitive}
use Rattle.sequence_faults.specs.Stepping.{Held, held_as, nothing, seq_step, seq_answer}

abbrev pub three : List ℕ
three = 0 ∷ 1 ∷ 2 ∷ []

abbrev pub few_as : Bool → Bool → Bool → List Bool → Few
few_as x y z done = record { x = x; y = y; z = z; done = done }

abbrev pub few_of : Held → Few
few_of h = few_as (cell h.cells 0) (cell h.cells 1) (cell h.cells 2) h.done

abbrev pub held_of : Few → Held
held_of q = held_as (q.x ∷ q.y ∷ q.z ∷ []) q.done

abbrev pub passed_by : Few → Few
passed_by q = few_as q.x q.y q.z nothing

-- what an instance makes of its own cells; behind an act on another cell and behind a pause nothing was done just now
abbrev pub machine_of : SequencePrimitive → Machine Few ℕ
machine_of p = record {
  step = λ q i act. few_of (seq_step p three (held_of q) i act);
  answer = λ q i act. seq_answer p three (held_of q) i act;
  other = λ q. passed_by q;
  pause = λ q. passed_by q;
}

-- which of the cells an address is
abbrev pub seat_at : Spots → ℕ → Option ℕ
seat_at s x = if x == s.a then Some 0 else if x == s.b then Some 1 else if x == s.c then Some 2 else None

abbrev pub order_at : Spots → Order ℕ
order_at s d = map (seat_at s) (addresses d s.size)

-- the three cells; those that there aren't are behind the array
abbrev pub spots_at : ℕ → List ℕ → Spots
spots_at size at = record { size = size; a = slice_index_or at 0 size; b = slice_index_or at 1 (size + 1); c = slice_index_or at 2 (size + 2) }

-- what is seen of an array
abbrev pub few_at : Spots → Held → Few
few_at s h = few_as (cell h.cells s.a) (cell h.cells s.b) (cell h.cells s.c) h.done
