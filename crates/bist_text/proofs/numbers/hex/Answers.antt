use Rattle.std.proofs.Common.{arith}
use Rattle.bist_text.proofs.Powers.{fewer_digits}
use Rattle.bist_text.proofs.numbers.hex.Goals as goal

pub number-requires-clause-fits : goal.number-requires-clause-fits
number-requires-clause-fits c = fewer_digits 16 _ 16 (omega arith) (omega arith)
