use Rattle.fault_syntax.proofs.Kept.{Stands}
use Rattle.fault_syntax.proofs.reader.read_item.Given as goal

abbrev pub invariant-loop-i : goal.invariant-loop-i
invariant-loop-i l = Stands l.text l.form l.reader l.i
