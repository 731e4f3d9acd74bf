use Rattle.std.proofs.Common.{ℕ, ◌<◌, ◌≤◌, length}
use Rattle.march_core.specs.March.{ops_at}
use Rattle.rtl_gen.proofs.tables.most_ops.Given as goal

abbrev pub invariant-loop-i : goal.invariant-loop-i
invariant-loop-i l = (1 ≤ l.most) × (l.most ≤ 16) × ((k : ℕ) → k < l.i → length (ops_at l.march k) ≤ l.most)
