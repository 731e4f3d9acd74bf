-- Public. What the port does at the places of a march's run on a memory.
use Rattle.std.specs.Prelude.{ℕ, Bool, if◌then◌else◌, List, Option, Some, None, length, slice_index, bit_xor}
use Rattle.std.specs.List.{slice_index_or}
use Rattle.march_core.specs.declared.operation.Op.{Op}
use Rattle.march_core.specs.declared.operation.Op.TheVariants.{R0}
use Rattle.march_core.specs.March.{MarchElement, order_of, ops_of, is_pause, element_at}
use Rattle.scrambler.specs.Scrambling.{logical}
use Rattle.backgrounds.specs.Backgrounds.{word_of}
use Rattle.memory_desc.specs.Descriptions.{Description}
use Rattle.word_march.specs.declared.operations.PortOp.{PortOp}
use Rattle.march_core.specs.Runs.{upward, is_write, data_value}
use Rattle.microcode.specs.declared.place.Extent.{Extent}
use Rattle.microcode.specs.Places.{Place, index_in, IsPlace as IsWithin, next_place as next_within, is_last as is_last_within, rest as rest_within, Turns as TurnsWithin}

-- an element is done at each word, a pause takes some cycles, and the march runs in each background
abbrev pub extent_of : Description → Extent
extent_of d = record { words = d.words; pause = d.pause; runs = length d.backgrounds }

-- ---- the march by numbers

-- the operation; a read of 0 where there is none
abbrev pub op_at : List MarchElement → ℕ → ℕ → Op
op_at march e o = slice_index_or (ops_of (element_at march e)) o R0

abbrev pub index_at : List MarchElement → Description → ℕ → ℕ → ℕ
index_at march d e x = index_in (upward (order_of (element_at march e))) d.words x

-- the word of a data value at the port, in a background by its number
abbrev pub word_at : Description → ℕ → Bool → ℕ
word_at d b value = bit_xor (word_of (slice_index d.backgrounds b) value d.bits) d.polarity

-- ---- what the port does at a place

abbrev pub command_of : List MarchElement → Description → Place → PortOp
command_of march d p = record {
  write = is_write (op_at march p.element p.oper);
  addr = logical d.scramble (index_at march d p.element p.visit);
  word = word_at d p.back (data_value (op_at march p.element p.oper));
}

abbrev pub slot_at : List MarchElement → Description → Place → Option PortOp
slot_at march d p = if is_pause (element_at march p.element) then None else Some (command_of march d p)

-- ---- the places

abbrev pub IsPlace : List MarchElement → Description → Place → Type 0
IsPlace march d p = IsWithin march (extent_of d) p

abbrev pub next_place : List MarchElement → Description → Place → Place
next_place march d p = next_within march (extent_of d) p

abbrev pub is_last : List MarchElement → Description → Place → Bool
is_last march d p = is_last_within march (extent_of d) p

-- ---- what the port does in the run, and what is left of it from a place on

abbrev pub rest : List MarchElement → Description → Place → List (Option PortOp)
rest march d p = rest_within (slot_at march d) march (extent_of d) p

-- a place's slot, and then what is left of the place behind it
abbrev pub Turns : List MarchElement → Description → Place → Type 0
Turns march d p = TurnsWithin (slot_at march d) march (extent_of d) p
