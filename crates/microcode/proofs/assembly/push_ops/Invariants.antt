use Rattle.std.proofs.Common.{◌≡◌, ◌++◌}
use Rattle.march_core.specs.March.{sweep}
use Rattle.microcode.specs.Code.{instrs_from}
use Rattle.microcode.proofs.assembly.push_ops.Given as goal

abbrev pub invariant-loop-number : goal.invariant-loop-number
invariant-loop-number l = l.code.items ≡ l.initial.code.items ++ instrs_from (sweep l.fn.order l.ops) 0 l.number
