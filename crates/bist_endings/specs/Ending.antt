-- Trusted. What a command ends with: its plan as plain data, the statuses and the said lines.
use Rattle.std.specs.Prelude.{◌++◌, ◌==◌, ℕ, zero, suc, Bool, true, false, if◌then◌else◌, List, [], ◌∷◌, map, Result, Ok, Err, codes, decimal}
use Rattle.std.specs.Int.{bit_at}
use Rattle.march_core.specs.declared.fault.MarchFault.{MarchFault}
use Rattle.fault_syntax.specs.declared.fault.FaultFault.{FaultFault}
use Rattle.memory_desc.specs.declared.fault.Field.{Field}
use Rattle.memory_desc.specs.declared.fault.MemoryFault.{MemoryFault}
use Rattle.arrayvec.specs.ArrayString.{ArrayString}
use Rattle.verilog_tree.specs.declared.fault.TreeFault.{TreeFault}
use Rattle.verilog_tree.specs.declared.fault.ReadFault.{ReadFault}
use Rattle.chip_desc.specs.declared.fault.ChipField.{ChipField}
use Rattle.chip_desc.specs.declared.fault.ChipFault.{ChipFault}
use Rattle.bist_endings.specs.declared.ending.Refusal.{Refusal}
use Rattle.bist_endings.specs.declared.ending.InputRefusal.{InputRefusal}
use Rattle.bist_endings.specs.declared.ending.ChipRefusal.{ChipRefusal}
use Rattle.bist_endings.specs.declared.ending.DeviceRefusal.{DeviceRefusal}
use Rattle.bist_endings.specs.declared.ending.VerilogRefusal.{VerilogRefusal}
use Rattle.bist_endings.specs.declared.ending.Misfit.{Misfit}
use Rattle.bist_endings.specs.declared.ending.Output.{Output}
use Rattle.bist_endings.specs.declared.ending.Effects.{Effects}

-- the bytes for the file that a word names
pub record Written : Type 0 where
  pub position : ℕ
  pub bytes : List ℕ

-- what a command leaves: whether its status is 1, its files in their order, and its line
pub record Done : Type 0 where
  pub found : Bool
  pub outputs : List Written
  pub line : List ℕ

abbrev pub written_of : Output → Written
written_of o = record { position = o.position; bytes = o.bytes.items }

abbrev pub done_of : Effects → Done
done_of p = record { found = p.found; outputs = map written_of p.outputs.items; line = p.line.items }

abbrev pub plain : Result Effects Refusal → Result Done Refusal
plain (Ok plan) = Ok (done_of plan)
plain (Err refusal) = Err refusal

abbrev pub input_status : InputRefusal → ℕ
input_status (InputRefusal.March fault) = 3
input_status (InputRefusal.Memory fault) = 4
input_status (InputRefusal.TooLarge position) = 6
input_status (InputRefusal.ReadFailed position) = 7
input_status (InputRefusal.Absent position) = 10

abbrev pub status_of : Refusal → ℕ
status_of Refusal.Usage = 2
status_of (Refusal.March fault) = 3
status_of (Refusal.Memory fault) = 4
status_of (Refusal.Fault fault) = 5
status_of (Refusal.TooLarge position) = 6
status_of (Refusal.ReadFailed position) = 7
status_of Refusal.NoMemory = 9
status_of (Refusal.Absent position) = 10
status_of (Refusal.Device refusal) = 11
status_of (Refusal.TooLong number) = 12
status_of (Refusal.Misfit misfit) = 13
status_of (Refusal.Verilog refusal) = 14
status_of (Refusal.Chip refusal) = 15
status_of (Refusal.Unit unit refusal) = input_status refusal

abbrev pub found_status : Bool → ℕ
found_status false = 0
found_status true = 1

-- a text, a number and a line end
abbrev pub numbered_line : List ℕ → ℕ → List ℕ
numbered_line text number = text ++ decimal number ++ codes "\n"

abbrev pub no_memory_line : List ℕ
no_memory_line = codes "no memory\n"

abbrev pub write_failed_line : ℕ → List ℕ
write_failed_line position = numbered_line (codes "write failed ") position

-- why a march is refused: its code and places
abbrev pub march_fault_text : MarchFault → List ℕ
march_fault_text (MarchFault.Unexpected byte) = codes "M1 byte " ++ decimal byte
march_fault_text MarchFault.Truncated = codes "M2"
march_fault_text MarchFault.Empty = codes "M3"
march_fault_text MarchFault.TooManyElements = codes "M4"
march_fault_text (MarchFault.TooManyOps element) = codes "M5 element " ++ decimal element
march_fault_text MarchFault.TooManyInAll = codes "M6"
march_fault_text (MarchFault.ReadBeforeWrite element op) = codes "M7 element " ++ decimal element ++ codes " operation " ++ decimal op
march_fault_text (MarchFault.WrongExpect element op) = codes "M8 element " ++ decimal element ++ codes " operation " ++ decimal op

-- why a primitive or a list is refused: its code, line and byte (want of memory has a refusal of its own)
abbrev pub fault_text : FaultFault → List ℕ
fault_text (FaultFault.Unexpected line byte) = codes "F1 line " ++ decimal line ++ codes " byte " ++ decimal byte
fault_text (FaultFault.Truncated line) = codes "F2 line " ++ decimal line
fault_text (FaultFault.NotAFault line) = codes "F3 line " ++ decimal line
fault_text (FaultFault.TooManyOperations line) = codes "F4 line " ++ decimal line
fault_text (FaultFault.TooManyPrimitives line) = codes "F5 line " ++ decimal line
fault_text FaultFault.NoMemory = codes "no memory"

-- a field that is missing
abbrev pub field_text : Field → List ℕ
field_text Field.Name = codes "name"
field_text Field.Words = codes "words"
field_text Field.Bits = codes "bits"
field_text (Field.Row i) = codes "a" ++ decimal i

-- a row behind a blank, where it is one of these
abbrev pub row_text : ℕ → ℕ → List ℕ
row_text rows i = if bit_at rows i == 1 then codes " a" ++ decimal i else []

-- those of the first n rows that are among these, in ascending order
abbrev pub rows_text : ℕ → ℕ → List ℕ
rows_text rows zero = []
rows_text rows (suc n) = rows_text rows n ++ row_text rows n

-- why a memory is refused: its code, line and byte, field or rows
abbrev pub memory_fault_text : MemoryFault → List ℕ
memory_fault_text (MemoryFault.Unexpected line byte) = codes "D1 line " ++ decimal line ++ codes " byte " ++ decimal byte
memory_fault_text MemoryFault.Truncated = codes "D2"
memory_fault_text (MemoryFault.Repeated line) = codes "D3 line " ++ decimal line
memory_fault_text (MemoryFault.Missing field) = codes "D4 " ++ field_text field
memory_fault_text (MemoryFault.OutOfRange line) = codes "D5 line " ++ decimal line
memory_fault_text (MemoryFault.Singular rows) = codes "D6 rows" ++ rows_text rows 16
memory_fault_text MemoryFault.ScrambleNeedsPowerOfTwo = codes "D7"
memory_fault_text MemoryFault.NoSolidBackground = codes "D8"
memory_fault_text MemoryFault.TooManyBackgrounds = codes "D9"
memory_fault_text MemoryFault.OtherVersion = codes "D11"

-- why the first box isn't taken
abbrev pub device_text : DeviceRefusal → List ℕ
device_text (DeviceRefusal.TooSmall words room) = codes "V1 words " ++ decimal words ++ codes " room " ++ decimal room
device_text DeviceRefusal.BadPlace = codes "V2"
device_text DeviceRefusal.NoBox = codes "V4"

-- why a text is no module's: its code and byte (want of memory has a refusal of its own)
abbrev pub read_fault_text : ReadFault → List ℕ
read_fault_text (ReadFault.Unexpected byte) = codes "L1 byte " ++ decimal byte
read_fault_text ReadFault.Truncated = codes "L2"
read_fault_text (ReadFault.TooDeep byte) = codes "L3 byte " ++ decimal byte
read_fault_text (ReadFault.LongName byte) = codes "L4 byte " ++ decimal byte
read_fault_text (ReadFault.OutOfRange byte) = codes "L5 byte " ++ decimal byte
read_fault_text ReadFault.NoMemory = codes "no memory"

-- names in their order, each behind a blank
abbrev pub names_text : List ArrayString → List ℕ
names_text [] = []
names_text (name ∷ names) = codes " " ++ name.bytes ++ names_text names

-- why a module can't be run: its code, and the name, the two widths or the names of a loop (want of memory has a refusal of its own)
abbrev pub tree_fault_text : TreeFault → List ℕ
tree_fault_text (TreeFault.Unknown name) = codes "N1 " ++ name.bytes
tree_fault_text (TreeFault.Twice name) = codes "N2 " ++ name.bytes
tree_fault_text (TreeFault.Width left right) = codes "N3 " ++ decimal left ++ codes " " ++ decimal right
tree_fault_text (TreeFault.TwoBlocks name) = codes "N4 " ++ name.bytes
tree_fault_text (TreeFault.NotAssignable name) = codes "N5 " ++ name.bytes
tree_fault_text (TreeFault.SelectRange name) = codes "N6 " ++ name.bytes
tree_fault_text (TreeFault.Loop names) = codes "N7" ++ names_text names.items
tree_fault_text TreeFault.NoMemory = codes "no memory"
tree_fault_text (TreeFault.Undriven name) = codes "N9 " ++ name.bytes
tree_fault_text (TreeFault.Clock name) = codes "N10 " ++ name.bytes

-- why a text gives no module that can be run beside the memory
abbrev pub verilog_text : VerilogRefusal → List ℕ
verilog_text (VerilogRefusal.Read fault) = read_fault_text fault
verilog_text (VerilogRefusal.Tree fault) = tree_fault_text fault
verilog_text (VerilogRefusal.WrongPort name) = codes "B2 " ++ name.bytes

-- a part of a chip file that is missing
abbrev pub chip_field_text : ChipField → List ℕ
chip_field_text ChipField.Name = codes "name"
chip_field_text ChipField.Budget = codes "budget"
chip_field_text ChipField.Unit = codes "unit"

-- why a file describes no chip: its code, line and byte, or field
abbrev pub chip_fault_text : ChipFault → List ℕ
chip_fault_text (ChipFault.Unexpected line byte) = codes "C1 line " ++ decimal line ++ codes " byte " ++ decimal byte
chip_fault_text ChipFault.Truncated = codes "C2"
chip_fault_text (ChipFault.Repeated line) = codes "C3 line " ++ decimal line
chip_fault_text (ChipFault.Missing field) = codes "C4 " ++ chip_field_text field
chip_fault_text (ChipFault.OutOfRange line) = codes "C5 line " ++ decimal line
chip_fault_text ChipFault.TooManyUnits = codes "C6"
chip_fault_text ChipFault.OtherVersion = codes "C7"
chip_fault_text (ChipFault.TooHeavy line) = codes "C9 line " ++ decimal line

-- why a chip isn't tested
abbrev pub chip_text : ChipRefusal → List ℕ
chip_text (ChipRefusal.File fault) = chip_fault_text fault
chip_text (ChipRefusal.SameName unit) = codes "C8 unit " ++ decimal unit

-- why an input is refused
abbrev pub input_line : InputRefusal → List ℕ
input_line (InputRefusal.March fault) = codes "march " ++ march_fault_text fault ++ codes "\n"
input_line (InputRefusal.Memory fault) = codes "memory " ++ memory_fault_text fault ++ codes "\n"
input_line (InputRefusal.TooLarge position) = numbered_line (codes "too large ") position
input_line (InputRefusal.ReadFailed position) = numbered_line (codes "read failed ") position
input_line (InputRefusal.Absent position) = numbered_line (codes "absent ") position

-- which unit of a chip an input is of, before the line of the input
abbrev pub unit_text : ℕ → List ℕ
unit_text unit = codes "unit " ++ decimal unit ++ codes " "

abbrev pub refusal_line : Refusal → List ℕ
refusal_line Refusal.Usage = codes "usage\n"
refusal_line (Refusal.March fault) = input_line (InputRefusal.March fault)
refusal_line (Refusal.Memory fault) = input_line (InputRefusal.Memory fault)
refusal_line (Refusal.Fault fault) = codes "fault " ++ fault_text fault ++ codes "\n"
refusal_line (Refusal.TooLarge position) = input_line (InputRefusal.TooLarge position)
refusal_line (Refusal.ReadFailed position) = input_line (InputRefusal.ReadFailed position)
refusal_line (Refusal.Absent position) = input_line (InputRefusal.Absent position)
refusal_line (Refusal.TooLong number) = numbered_line (codes "too long ") number
refusal_line (Refusal.Misfit Misfit.Aggressor) = codes "misfit aggressor\n"
refusal_line (Refusal.Misfit Misfit.Directions) = codes "misfit directions\n"
refusal_line (Refusal.Device refusal) = codes "device " ++ device_text refusal ++ codes "\n"
refusal_line (Refusal.Verilog refusal) = codes "verilog " ++ verilog_text refusal ++ codes "\n"
refusal_line (Refusal.Chip refusal) = codes "chip " ++ chip_text refusal ++ codes "\n"
refusal_line (Refusal.Unit unit refusal) = unit_text unit ++ input_line refusal
refusal_line Refusal.NoMemory = no_memory_line
