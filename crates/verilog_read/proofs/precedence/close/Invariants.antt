use Rattle.std.proofs.Common.{◌≡◌, length}
use Rattle.verilog_tree.specs.Plain.{plain}
use Rattle.verilog_read.specs.inner.Frames.{alone_of}
use Rattle.verilog_read.specs.inner.Holding.{token_of, nests_of}
use Rattle.verilog_text.specs.Steps.{close_step}
use Rattle.verilog_read.proofs.precedence.close.Given as goal

-- the choices that have ended so far make no difference
abbrev pub invariant-loop-around : goal.invariant-loop-around
invariant-loop-around l = close_step l.depth l.count (plain l.last) (nests_of l.outer.nests.items (alone_of l.outer)) (token_of l.token) ≡ close_step l.fn.depth l.fn.count (plain l.fn.x) (nests_of l.fn.outer.nests.items (alone_of l.fn.outer)) (token_of l.fn.token)

abbrev pub decreases-loop-around : goal.decreases-loop-around
decreases-loop-around l = length l.outer.nests.items
