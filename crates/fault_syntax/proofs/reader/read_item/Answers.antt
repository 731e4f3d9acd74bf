use Rattle.std.proofs.Common.{ap, sym}
use Rattle.fault_syntax.specs.inner.Brief.{answer_of}
use Rattle.fault_syntax.proofs.Kept.{stands_on, stands_stop}
use Rattle.fault_syntax.proofs.reader.read_item.Goals as goal

pub returns-in-None : goal.returns-in-None
returns-in-None c = ap answer_of (sym (stands_stop c.args.text.now c.args.form c.loop-i.reader c.loop-i.i c.loop-i.invariant c.loop-i-test.true c.in-None.ensures))

pub loop-i-preserved : goal.loop-i-preserved
loop-i-preserved c = stands_on c.args.text.now c.args.form c.loop-i.reader c.loop-i.i c.loop-i.invariant c.in-Some.next c.loop-i-test.true c.in-Some.ensures
