-- Trusted. What a boxed memory tells, and what its calls make of that.
use Rattle.std.specs.Prelude.{◌≡◌, ◌<◌, ◌≤◌, ◌+◌, ◌-◌, ◌*◌, ◌/◌, ◌%◌, ◌^◌, ℕ, Option, Some, None, List, length, map, replicate, bit_xor}
use Rattle.std.specs.List.{range_with_len}
use Rattle.bist_bits.specs.Width.{IsWidthOf}
use Rattle.word_device.specs.declared.device.Planted.{Planted}
use Rattle.word_device.specs.declared.device.PortCmd.{PortCmd}
use Rattle.word_device.specs.declared.shape.Shape.{Shape}
use Rattle.word_device.specs.Chips.{closed_by, FitsMemory}
use Rattle.word_device.specs.Ports.{Chip, chip_after, cycle_answer, planted_chip}

-- a script of answers: base, base + step, and so on; `count` of them were given
pub record Script : Type 0 where
  pub base : ℕ
  pub step : ℕ
  pub count : ℕ

abbrev pub script_answer : Script → ℕ
script_answer s = (s.base + s.step * s.count) % 2 ^ 64

abbrev pub script_after : Script → Script
script_after s = record s { count = (s.count + 1) % 2 ^ 64 }

-- what a box tells
pub data Tells : Type 0 where
  TellsChip : Chip → Tells
  TellsScript : Script → Tells
  TellsNothing : Tells

-- ---- shapes

-- a shape that a box takes: its addresses are as wide as the last index needs
pub record IsShape (shape : Shape) : Type 0 where
  pub words_low : 2 ≤ shape.words
  pub words_high : shape.words ≤ 65536
  pub bits_low : 1 ≤ shape.bits
  pub bits_high : shape.bits ≤ 64
  pub address : IsWidthOf (shape.words - 1) shape.scramble.width
  pub latency_low : 1 ≤ shape.latency
  pub latency_high : shape.latency ≤ 4
  pub polarity : shape.polarity < 2 ^ shape.bits
  pub pause_low : 1 ≤ shape.pause
  pub pause_high : shape.pause ≤ 65535

-- the planted instance, where there is one, fits words of so many bits
abbrev pub FitsPlanted : Option Planted → ℕ → ℕ → Type 0
FitsPlanted None words bits = Unit {0}
FitsPlanted (Some i) words bits = FitsMemory i words bits

-- a chip of this shape: an answer is under way for each cycle that it takes beyond the first
pub record IsChip (shape : Shape) (chip : Chip) : Type 0 where
  pub words : length chip.words ≡ shape.words
  pub planted : FitsPlanted chip.planted shape.words shape.bits
  pub pending : length chip.pending + 1 ≡ shape.latency
  pub idle : chip.idle ≤ shape.pause

-- what a box with a shape tells is of that shape
abbrev pub IsTold : Option Shape → Tells → Type 0
IsTold None tells = Unit {0}
IsTold (Some shape) (TellsChip c) = IsChip shape c
IsTold (Some shape) (TellsScript s) = Unit {0}
IsTold (Some shape) TellsNothing = Unit {0}

-- an instance fits the shape of a box
abbrev pub FitsBox : Option Shape → Planted → Type 0
FitsBox None i = ⊥
FitsBox (Some shape) i = FitsMemory i shape.words shape.bits

-- ---- what the calls make of it

-- a freshly fitted chip
abbrev pub blank : Shape → Chip
blank shape = record { words = replicate shape.words 0; planted = None; pending = replicate (shape.latency - 1) 0; idle = 0 }

abbrev pub after_fit : Shape → Tells → Tells
after_fit shape (TellsChip c) = TellsChip (blank shape)
after_fit shape (TellsScript s) = TellsScript s
after_fit shape TellsNothing = TellsNothing

abbrev pub after_plant : Planted → Tells → Tells
after_plant i (TellsChip c) = TellsChip (planted_chip i c)
after_plant i (TellsScript s) = TellsScript s
after_plant i TellsNothing = TellsNothing

-- the content that a number stands for: word k is the low bits of x ^ (x >> 32), where x is the number times 2k+1
abbrev pub mixed : ℕ → ℕ
mixed x = bit_xor x (x / 2 ^ 32)

abbrev pub pattern : ℕ → ℕ → ℕ → ℕ
pattern number bits k = mixed (number * (2 * k + 1) % 2 ^ 64) % 2 ^ bits

abbrev pub filled : ℕ → Shape → List ℕ
filled number shape = map (pattern number shape.bits) (range_with_len 0 shape.words)

-- the words are stored as they stand in the content, and closed
abbrev pub filled_chip : ℕ → Shape → Chip → Chip
filled_chip number shape c = record c { words = closed_by c.planted (filled number shape) }

abbrev pub after_fill : Option Shape → ℕ → Tells → Tells
after_fill None number tells = tells
after_fill (Some shape) number (TellsChip c) = TellsChip (filled_chip number shape c)
after_fill (Some shape) number (TellsScript s) = TellsScript (record s { count = 0 })
after_fill (Some shape) number TellsNothing = TellsNothing

abbrev pub after_cycle : Option Shape → PortCmd → Tells → Tells
after_cycle None cmd tells = tells
after_cycle (Some shape) cmd (TellsChip c) = TellsChip (chip_after shape c cmd)
after_cycle (Some shape) cmd (TellsScript s) = TellsScript (script_after s)
after_cycle (Some shape) cmd TellsNothing = TellsNothing

-- what a cycle answers
abbrev pub Answers : Option Shape → PortCmd → Tells → ℕ → Type 0
Answers None cmd tells answer = Unit {0}
Answers (Some shape) cmd (TellsChip c) answer = answer ≡ cycle_answer shape c cmd
Answers (Some shape) cmd (TellsScript s) answer = answer ≡ script_answer s
Answers (Some shape) cmd TellsNothing answer = Unit {0}

-- ---- boxes

-- a box to the world
pub record Told : Type 0 where
  pub room : ℕ
  pub shape : Option Shape
  pub tells : Tells

-- a memory of words: its room, its shape, once it has one, and its chip
pub record ArrayState : Type 0 where
  pub room : ℕ
  pub shape : Option Shape
  pub chip : Chip

abbrev pub IsArray : Option Shape → Chip → Type 0
IsArray None chip = Unit {0}
IsArray (Some shape) chip = IsShape shape × IsChip shape chip
