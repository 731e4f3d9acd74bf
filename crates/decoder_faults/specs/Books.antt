-- Public. That the faults are the four of the books, by which addresses reach which cells.
use Rattle.std.specs.Prelude.{◌≡◌, ◌≢◌, ◌==◌, ◌+◌, ℕ, if◌then◌else◌}
use Rattle.decoder_faults.specs.declared.fault.DecoderFault.{DecoderFault}
use Rattle.decoder_faults.specs.declared.fault.DecoderFault.TheVariants.{NoCell, OtherCell, BothCells, TakenCell}
use Rattle.decoder_faults.specs.Decoding.{AddressPair, Decoder, Reach, no_cell, one_cell, two_cells, reach_of, HasFault}

-- 1 where the cells are the same
abbrev pub once : ℕ → ℕ → ℕ
once c d = if c == d then 1 else 0

-- how often an address reaches a cell
abbrev pub times : Reach → ℕ → ℕ
times (no_cell answer) cell = 0
times (one_cell c) cell = once c cell
times (two_cells wired c d) cell = once c cell + once d cell

-- how often address x reaches cells x and y, and address y the two
pub record Reaches (decoder : Decoder) (at : AddressPair) (xx xy yx yy : ℕ) : Type 0 where
  pub x_to_x : times (decoder at.x) at.x ≡ xx
  pub x_to_y : times (decoder at.x) at.y ≡ xy
  pub y_to_x : times (decoder at.y) at.x ≡ yx
  pub y_to_y : times (decoder at.y) at.y ≡ yy

-- no cell is reached by x, and cell x by none; cell x by none, and cell y by both; both cells by x, and cell y by both; no cell is
-- reached by x, and both by y
abbrev pub IsOfBooks : DecoderFault → AddressPair → Type 0
IsOfBooks (NoCell answer) at = Reaches (reach_of (NoCell answer) at) at 0 0 0 1
IsOfBooks OtherCell at = Reaches (reach_of OtherCell at) at 0 1 0 1
IsOfBooks (BothCells wired) at = Reaches (reach_of (BothCells wired) at) at 1 1 0 1
IsOfBooks (TakenCell answer wired) at = Reaches (reach_of (TakenCell answer wired) at) at 0 0 1 1

abbrev pub AreOfBooks : Type 0
AreOfBooks = (fault : DecoderFault) (at : AddressPair) → at.x ≢ at.y → IsOfBooks fault at

-- of two cells that an address reaches, the first is its own
abbrev pub OwnIsFirst : ℕ → Reach → Type 0
OwnIsFirst address (no_cell answer) = Unit {0}
OwnIsFirst address (one_cell c) = Unit {0}
OwnIsFirst address (two_cells wired c d) = c ≡ address

abbrev pub OwnAreFirst : Type 0
OwnAreFirst = (fault : DecoderFault) (at : AddressPair) (address : ℕ) → at.x ≢ at.y → OwnIsFirst address (reach_of fault at address)

-- each fault is there, at any two addresses
abbrev pub AreThere : Type 0
AreThere = (fault : DecoderFault) (at : AddressPair) → at.x ≢ at.y → HasFault (reach_of fault at) fault at
