use Rattle.std.proofs.Common.{arith}
use Rattle.rtl_gen.proofs.Listed.{element_more}
use Rattle.rtl_gen.proofs.tables.elements.Goals as goal

pub loop-i-preserved : goal.loop-i-preserved
loop-i-preserved c = element_more c.args.march.now c.loop-i.i c.loop-i.elements.items c.push.new.self.items c.element.result (omega arith) c.loop-i.invariant c.push.ensures.items c.element.ensures
