use Rattle.std.proofs.Common.{◌≡◌, length}
use Rattle.rtl_gen.specs.inner.Planned.{rows_from}
use Rattle.rtl_gen.proofs.tables.rows.Given as goal

abbrev pub invariant-loop-i : goal.invariant-loop-i
invariant-loop-i l = (l.rows.items ≡ rows_from l.scramble 0 l.i) × (length l.rows.items ≡ l.i)
