use Rattle.std.proofs.Common.{◌≡◌, map}
use Rattle.rtl_layout.specs.Build.{counted, number_of}
use Rattle.rtl_layout.specs.inner.Flags.{row_flag}
use Rattle.rtl_layout.proofs.tables.row_number.Given as goal

abbrev pub invariant-loop-i : goal.invariant-loop-i
invariant-loop-i l = l.row ≡ number_of (map (row_flag l.which l.element) (counted l.i))
