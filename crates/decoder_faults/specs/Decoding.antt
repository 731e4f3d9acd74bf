-- Trusted. What an operation does to an array whose address decoder has one fault.
use Rattle.std.specs.Prelude.{◌≡◌, ◌≢◌, ◌<◌, ◌==◌, ◌&&◌, ◌||◌, ℕ, Bool, if◌then◌else◌, Option, Some, None, List, slice_set}
use Rattle.fault_core.specs.declared.primitive.Act.{Act}
use Rattle.fault_core.specs.declared.primitive.Act.TheVariants.{Write, Read}
use Rattle.fault_core.specs.Cells.{cell}
use Rattle.decoder_faults.specs.declared.fault.WiredRead.{WiredRead}
use Rattle.decoder_faults.specs.declared.fault.WiredRead.TheVariants.{And, Or, Own}
use Rattle.decoder_faults.specs.declared.fault.DecoderFault.{DecoderFault}
use Rattle.decoder_faults.specs.declared.fault.DecoderFault.TheVariants.{NoCell, OtherCell, BothCells, TakenCell}

-- the two addresses of a fault
pub record AddressPair : Type 0 where
  pub x : ℕ
  pub y : ℕ

-- they are different addresses of an array of this size
pub record FitsPair (at : AddressPair) (size : ℕ) : Type 0 where
  pub x_within : at.x < size
  pub y_within : at.y < size
  pub apart : at.x ≢ at.y

-- the cells that an address reaches: none, where a read answers this bit; one; or two, its own and then another
pub data Reach : Type 0 where
  no_cell : Bool → Reach
  one_cell : ℕ → Reach
  two_cells : WiredRead → ℕ → ℕ → Reach

-- which cells each address reaches
abbrev pub Decoder : Type 0
Decoder = ℕ → Reach

-- what address x reaches
abbrev pub reach_of_x : DecoderFault → AddressPair → Reach
reach_of_x (NoCell answer) at = no_cell answer
reach_of_x OtherCell at = one_cell at.y
reach_of_x (BothCells wired) at = two_cells wired at.x at.y
reach_of_x (TakenCell answer wired) at = no_cell answer

-- what address y reaches
abbrev pub reach_of_y : DecoderFault → AddressPair → Reach
reach_of_y (TakenCell answer wired) at = two_cells wired at.y at.x
reach_of_y fault at = one_cell at.y

-- the decoder with the fault: an address reaches its own cell, unless it is one of the two
unfoldable pub reach_of : DecoderFault → AddressPair → Decoder
reach_of fault at address =
    if address == at.x then reach_of_x fault at else if address == at.y then reach_of_y fault at else one_cell address

-- what a read answers of two cells, of which the first is the address's own
abbrev pub wired_bit : WiredRead → Bool → Bool → Bool
wired_bit And own other = own && other
wired_bit Or own other = own || other
wired_bit Own own other = own

-- a write writes each cell that it reaches
abbrev pub write_through : Reach → List Bool → Bool → List Bool
write_through (no_cell answer) cells bit = cells
write_through (one_cell c) cells bit = slice_set cells c bit
write_through (two_cells wired c d) cells bit = slice_set (slice_set cells c bit) d bit

-- what a read answers
abbrev pub read_through : Reach → List Bool → Bool
read_through (no_cell answer) cells = answer
read_through (one_cell c) cells = cell cells c
read_through (two_cells wired c d) cells = wired_bit wired (cell cells c) (cell cells d)

-- the cells after an operation at an address
abbrev pub act_through : Reach → List Bool → Act → List Bool
act_through reach cells (Write bit) = write_through reach cells bit
act_through reach cells other = cells

-- what it answers
abbrev pub answer_through : Reach → List Bool → Act → Option Bool
answer_through reach cells Read = Some (read_through reach cells)
answer_through reach cells other = None

-- a decoder that has the fault at two addresses, whatever the others reach
pub record HasFault (decoder : Decoder) (fault : DecoderFault) (at : AddressPair) : Type 0 where
  pub at_x : decoder at.x ≡ reach_of_x fault at
  pub at_y : decoder at.y ≡ reach_of_y fault at
