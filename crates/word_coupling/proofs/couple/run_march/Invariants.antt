use Rattle.std.proofs.Common.{◌≡◌, drop}
use Rattle.word_coupling.specs.inner.Couples.{run_march}
use Rattle.word_coupling.proofs.couple.run_march.Given as goal

abbrev pub invariant-loop-element : goal.invariant-loop-element
invariant-loop-element l = run_march l.reading l.prim l.background (drop l.element l.march) l.pair ≡ run_march l.reading l.prim l.background l.march l.fn.start
