-- Public. The code of a march: one instruction for each operation, and one for each pause.
use Rattle.std.specs.Prelude.{◌≡◌, ℕ, zero, suc, ◌+◌, ◌-◌, ◌==◌, Bool, true, false, List, [], ◌∷◌, length}
use Rattle.std.specs.List.{flat_map, slice_index_or}
use Rattle.march_core.specs.declared.operation.Order.{Order}
use Rattle.march_core.specs.declared.operation.Order.TheVariants.{Up, Down, Any}
use Rattle.march_core.specs.declared.operation.Op.TheVariants.{R0}
use Rattle.march_core.specs.March.{MarchElement, pause, sweep, order_of, ops_of, is_pause, element_at, IsMarch}
use Rattle.march_core.specs.Runs.{is_write, data_value}
use Rattle.microcode.specs.declared.code.Instr.{Instr}

abbrev pub goes_down : Order → Bool
goes_down Up = false
goes_down Down = true
goes_down Any = false

-- how many instructions an element has: one for each operation, and one for a pause
abbrev pub opers_of : MarchElement → ℕ
opers_of pause = 1
opers_of (sweep order ops) = length ops

abbrev pub opers_at : List MarchElement → ℕ → ℕ
opers_at march e = opers_of (element_at march e)

-- instruction o of an element: it goes down in an element of order down alone, and is the last where it is the element's last
abbrev pub instr_of : MarchElement → ℕ → Instr
instr_of x o = record {
  write = is_write (slice_index_or (ops_of x) o R0);
  bit = data_value (slice_index_or (ops_of x) o R0);
  down = goes_down (order_of x);
  last = o == opers_of x - 1;
  pause = is_pause x;
}

-- n instructions of an element, from instruction o on
abbrev pub instrs_from : MarchElement → ℕ → ℕ → List Instr
instrs_from x o zero = []
instrs_from x o (suc n) = instr_of x o ∷ instrs_from x (o + 1) n

abbrev pub assemble : List MarchElement → List Instr
assemble march = flat_map (λ x. instrs_from x 0 (opers_of x)) march

-- the code of some march
abbrev pub IsCode : List Instr → Type 0
IsCode code = (march : List MarchElement) × IsMarch march × (code ≡ assemble march)

-- the number of the first instruction of element e
abbrev pub first_of : List MarchElement → ℕ → ℕ
first_of [] e = 0
first_of (x ∷ march) zero = 0
first_of (x ∷ march) (suc e) = opers_of x + first_of march e
