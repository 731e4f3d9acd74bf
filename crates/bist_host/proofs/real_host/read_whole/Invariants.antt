use Rattle.std.proofs.Common.{◌≤◌, length}
use Rattle.std.specs.Io.KnownBytes.{Consumes}
use Rattle.bist_host.proofs.real_host.read_whole.Given as goal

abbrev pub invariant-loop : goal.invariant-loop
invariant-loop g l =
    (length l.bytes.items ≤ l.limit) × Consumes (g.F.Read.remaining l.fn.file) (g.F.Read.remaining l.file) l.bytes.items
