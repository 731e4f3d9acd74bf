use Rattle.memory_desc.proofs.Common.{Adds, with_rows, ℕ}
use Rattle.memory_desc.proofs.print.put_rows.Given as goal

abbrev pub invariant-loop-i : goal.invariant-loop-i
invariant-loop-i l = (size : ℕ) → Adds size (with_rows l.scramble l.i) l.initial.out.items l.out.items
