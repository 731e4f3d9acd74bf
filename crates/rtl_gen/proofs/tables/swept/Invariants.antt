use Rattle.std.proofs.Common.{◌≡◌, false, map, take}
use Rattle.microcode.specs.Code.{goes_down}
use Rattle.rtl_gen.specs.inner.Planned.{operation_of}
use Rattle.rtl_gen.proofs.tables.swept.Given as goal

abbrev pub invariant-loop-op : goal.invariant-loop-op
invariant-loop-op l = l.element ≡ record { down = goes_down l.fn.order; pause = false; operations = map operation_of (take l.op-index l.ops) }
