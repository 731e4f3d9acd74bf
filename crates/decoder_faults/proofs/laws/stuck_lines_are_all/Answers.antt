use Rattle.decoder_faults.proofs.Lines.{all_lines}
use Rattle.decoder_faults.proofs.laws.stuck_lines_are_all.Goals as goal

pub returns : goal.returns
returns c = all_lines
