use Rattle.std.proofs.Common.{codes, add-one}
use Rattle.verilog_emit.specs.Printed.{margin}
use Rattle.verilog_emit.proofs.Bodies.{two_parts}
use Rattle.verilog_emit.proofs.writing.put_margin.Goals as goal

pub loop-i-preserved : goal.loop-i-preserved
loop-i-preserved c = rw add-one (two_parts c.args.out.now.items c.loop-i.out.items c.put.new.out.items (margin c.loop-i._i) (codes "  ") c.loop-i.invariant c.in_ok-put.ensures.ok)
