-- Public. Proof help, and nothing that a clause claims: where an iterator over the operations stands, and what it has left.
use Rattle.std.specs.Prelude.{ℕ, suc, ◌+◌, ◌<◌, ◌≤◌, nat_lt, if◌then◌else◌, List, [], ◌∷◌, ◌++◌, drop, map, length, slice_index}
use Rattle.std.specs.List.{flat_map}
use Rattle.march_core.specs.March.{MarchElement, order_of, ops_of, order_at, ops_at}
use Rattle.march_core.specs.Visits.{Visit, cell_visits, addresses, address_visits}
use Rattle.memory_desc.specs.Descriptions.{Description}
use Rattle.word_march.specs.declared.operations.WordOp.{WordOp}
use Rattle.word_march.specs.declared.place.MarchPlace.{MarchPlace}
use Rattle.march_core.specs.Runs.{upward}
use Rattle.word_march.specs.Commands.{word_op}

-- the addresses of an element in the order in which the hardware visits them
abbrev pub addresses_at : List MarchElement → ℕ → ℕ → List ℕ
addresses_at march element size = addresses (upward (order_at march element)) size

-- the visits of the elements from this one on, without the pauses
abbrev pub sweeps_from : ℕ → List MarchElement → ℕ → List Visit
sweeps_from element [] size = []
sweeps_from element (e ∷ es) size =
    address_visits element (ops_of e) (addresses (upward (order_of e)) size) ++ sweeps_from (element + 1) es size

-- the word operations of one run
abbrev pub run_ops : List MarchElement → Description → ℕ → List WordOp
run_ops march d background = map (word_op d.bits background) (sweeps_from 0 march d.words)

-- the visits that are left in this run of the march
abbrev pub visits_left : List MarchElement → ℕ → ℕ → ℕ → ℕ → List Visit
visits_left march size element step op =
    cell_visits element (slice_index (addresses_at march element size) step) op (drop op (ops_at march element))
    ++ (address_visits element (ops_at march element) (drop (suc step) (addresses_at march element size))
    ++ sweeps_from (element + 1) (drop (suc element) march) size)

-- the operations that are left in this run and the runs after it
abbrev pub run_left : List MarchElement → Description → MarchPlace → List WordOp
run_left march d p =
    map (word_op d.bits (slice_index d.backgrounds p.background)) (visits_left march d.words p.element p.step p.op)
    ++ flat_map (run_ops march d) (drop (suc p.background) d.backgrounds)

abbrev pub ops_left : List MarchElement → Description → MarchPlace → List WordOp
ops_left march d p = if nat_lt p.background (length d.backgrounds) then run_left march d p else []

-- the place is one of the march's, or the end
pub record IsPlace (march : List MarchElement) (d : Description) (p : MarchPlace) : Type 0 where
  pub background : p.background ≤ length d.backgrounds
  pub element : p.element < length march
  pub step : p.step < d.words
  pub op : p.op < length (ops_at march p.element)
