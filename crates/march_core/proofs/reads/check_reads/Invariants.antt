use Rattle.std.proofs.Common.{◌≡◌, take, Some, None}
use Rattle.march_core.specs.inner.Scan.{scan_of}
use Rattle.march_core.specs.March.{all_ops}
use Rattle.march_core.proofs.reads.check_reads.Given as goal

abbrev pub invariant-loop-number : goal.invariant-loop-number
invariant-loop-number l = scan_of None (all_ops (take l.number l.elements)) ≡ Some l.last
