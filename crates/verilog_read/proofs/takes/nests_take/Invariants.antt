use Rattle.std.proofs.Common.{◌≡◌, ◌≤◌, length}
use Rattle.verilog_read.specs.inner.Ends.{closes}
use Rattle.verilog_read.specs.inner.Frames.{alone_of}
use Rattle.verilog_read.specs.inner.Holding.{nests_of}
use Rattle.verilog_read.proofs.takes.nests_take.Given as goal

-- the choices that end make no difference
abbrev pub invariant-loop-rest : goal.invariant-loop-rest
invariant-loop-rest l = (length l.rest ≤ length l.fn.nests) × (closes (nests_of l.rest (alone_of l.outer)) l.mark ≡ closes (nests_of l.fn.nests (alone_of l.outer)) l.mark)

abbrev pub decreases-loop-rest : goal.decreases-loop-rest
decreases-loop-rest l = length l.rest
