use Rattle.word_march.specs.inner.Standing.{ArePauses}
use Rattle.word_march.proofs.place.sweep_from.Given as goal

abbrev pub invariant-loop-element : goal.invariant-loop-element
invariant-loop-element l = ArePauses l.march l.first l.element
