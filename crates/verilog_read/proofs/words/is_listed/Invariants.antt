use Rattle.std.proofs.Common.{◌≡◌, map, drop}
use Rattle.verilog_read.specs.inner.WordSets.{lists}
use Rattle.verilog_read.proofs.words.is_listed.Given as goal

abbrev pub invariant-loop-other : goal.invariant-loop-other
invariant-loop-other l = lists l.part l.word (map (λ w. w.now) (drop l.other-index l.words)) ≡ lists l.part l.word (map (λ w. w.now) l.words)
