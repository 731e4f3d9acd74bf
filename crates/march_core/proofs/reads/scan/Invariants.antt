use Rattle.std.proofs.Common.{◌≡◌, take, Some}
use Rattle.march_core.specs.inner.Scan.{scan_of}
use Rattle.march_core.proofs.reads.scan.Given as goal

abbrev pub invariant-loop-index : goal.invariant-loop-index
invariant-loop-index l = scan_of l.fn.last (take l.index l.ops) ≡ Some l.last
