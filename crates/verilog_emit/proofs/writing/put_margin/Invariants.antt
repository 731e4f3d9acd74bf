use Rattle.std.proofs.Common.{◌≡◌, ◌++◌}
use Rattle.verilog_emit.specs.Printed.{margin}
use Rattle.verilog_emit.proofs.writing.put_margin.Given as goal

abbrev pub invariant-loop-i : goal.invariant-loop-i
invariant-loop-i l = l.out.items ≡ l.initial.out.items ++ margin l._i
