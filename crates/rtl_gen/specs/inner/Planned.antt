-- Inner. The plan of a march and a memory.
use Rattle.std.specs.Prelude.{◌≡◌, ℕ, zero, suc, ◌+◌, ◌<◌, ◌==◌, true, false, List, [], ◌∷◌, map, length}
use Rattle.std.specs.Int.{bit_at}
use Rattle.march_core.specs.declared.operation.Op.{Op}
use Rattle.march_core.specs.March.{MarchElement, pause, sweep, is_pause_at}
use Rattle.scrambler.specs.Scrambling.{Scrambling, row, logical}
use Rattle.memory_desc.specs.Descriptions.{Description}
use Rattle.march_core.specs.Runs.{is_write, data_value}
use Rattle.microcode.specs.Code.{goes_down}
use Rattle.self_test.specs.SelfTest.{module_name}
use Rattle.rtl_layout.specs.declared.element.PlanOperation.{PlanOperation}
use Rattle.rtl_layout.specs.declared.row.Row.{Row}
use Rattle.rtl_layout.specs.Plan.{Element, Plan}
use Rattle.rtl_layout.specs.Control.{idle}
use Rattle.rtl_layout.specs.Control as C

abbrev pub operation_of : Op → PlanOperation
operation_of o = record { write = is_write o; bit = data_value o }

abbrev pub element_of : MarchElement → Element
element_of pause = record { down = false; pause = true; operations = idle ∷ [] }
element_of (sweep order ops) = record { down = goes_down order; pause = false; operations = map operation_of ops }

-- the row of bit i of an address
abbrev pub row_of : Scrambling → ℕ → Row
row_of m i = record { mask = row m i; flip = bit_at m.constant i == 1 }

-- those of n bits, from bit i on
abbrev pub rows_from : Scrambling → ℕ → ℕ → List Row
rows_from m i zero = []
rows_from m i (suc n) = row_of m i ∷ rows_from m (i + 1) n

-- p is a plan of the march and the memory
pub record Plans (march : List MarchElement) (d : Description) (p : Plan) : Type 0 where
  pub name : p.name ≡ module_name d.name
  pub elements : p.elements ≡ map element_of march
  pub words : p.words ≡ d.words
  pub bits : p.bits ≡ d.bits
  pub backgrounds : p.backgrounds ≡ d.backgrounds
  pub latency : suc p.delay ≡ d.latency
  pub polarity : p.polarity ≡ d.polarity
  -- a march without a pause needs none
  pub pauses : (k : ℕ) → k < length march → is_pause_at march k ≡ true → p.pause ≡ d.pause
  pub address_width : p.addr_width ≡ d.scramble.width
  pub addresses : (k : ℕ) → k < d.words → C.logical p k ≡ logical d.scramble k
