use Rattle.std.proofs.Common.{◌≡◌, take}
use Rattle.microcode.specs.Code.{assemble}
use Rattle.microcode.proofs.assembly.assemble.Given as goal

abbrev pub invariant-loop-element : goal.invariant-loop-element
invariant-loop-element l = l.code.items ≡ assemble (take l.element l.march)
