use Rattle.std.proofs.Common.{◌≡◌, ℕ, ◌<◌, false}
use Rattle.march_core.specs.March.{is_pause_at}
use Rattle.rtl_gen.proofs.tables.has_pause.Given as goal

abbrev pub invariant-loop-i : goal.invariant-loop-i
invariant-loop-i l = (k : ℕ) → k < l.i → is_pause_at l.march k ≡ false
