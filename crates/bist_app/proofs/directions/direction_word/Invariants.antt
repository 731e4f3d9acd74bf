use Rattle.bist_app.specs.inner.LetterBits.{HasBits}
use Rattle.bist_app.proofs.directions.direction_word.Given as goal

abbrev pub invariant-loop-letter : goal.invariant-loop-letter
invariant-loop-letter l = HasBits l.letters l.letter-index l.value
