use Rattle.std.proofs.Common.{length}
use Rattle.verilog_read.proofs.words.+expected_behind.Given as goal

abbrev pub decreases-expected_behind : goal.decreases-expected_behind
decreases-expected_behind l = length l.waiting.now
