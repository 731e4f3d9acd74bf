use Rattle.std.proofs.Common.{◌≡◌, map, take}
use Rattle.rtl_gen.specs.inner.Planned.{element_of}
use Rattle.rtl_gen.proofs.tables.elements.Given as goal

abbrev pub invariant-loop-i : goal.invariant-loop-i
invariant-loop-i l = l.elements.items ≡ map element_of (take l.i l.march)
