use Rattle.decoder_faults.proofs.TakenCells.{as_no_cell}
use Rattle.decoder_faults.proofs.laws.taken_cells_are_as_none.Goals as goal

pub returns : goal.returns
returns c = as_no_cell
