use Rattle.std.proofs.Common.{◌≡◌, ◌+◌, drop}
use Rattle.std.specs.List.{prefix_len}
use Rattle.bist_text.specs.ByteSets.{in_set}
use Rattle.bist_text.proofs.cursors.run_len.Given as goal

abbrev pub invariant-loop-i : goal.invariant-loop-i
invariant-loop-i l = prefix_len (in_set l.set) (drop l.i l.bytes) + l.i ≡ prefix_len (in_set l.set) l.bytes
