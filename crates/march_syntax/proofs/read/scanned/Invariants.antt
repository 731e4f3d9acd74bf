use Rattle.march_syntax.proofs.Standing.{Stands}
use Rattle.march_syntax.proofs.read.scanned.Given as goal

abbrev pub invariant-loop-i : goal.invariant-loop-i
invariant-loop-i l = Stands l.bytes l.place l.braced l.builder l.exceeded l.i
