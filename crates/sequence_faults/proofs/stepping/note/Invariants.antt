use Rattle.std.proofs.Common.{◌≡◌, ◌++◌, take, drop, length}
use Rattle.sequence_faults.specs.Stepping.{done_by}
use Rattle.sequence_faults.proofs.stepping.note.Given as goal

abbrev pub invariant-loop-k : goal.invariant-loop-k
invariant-loop-k l =
    (done_by l.act l.holds l.acts l.fn.done ≡ take l.k l.done ++ done_by l.act l.before (drop l.k l.acts) (drop l.k l.done)) × (length l.done ≡ length l.fn.done)
