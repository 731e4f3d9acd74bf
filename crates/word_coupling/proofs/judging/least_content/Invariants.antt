use Rattle.word_coupling.specs.inner.Searching.{end_in}
use Rattle.word_coupling.proofs.Contents.{NoneBefore}
use Rattle.word_coupling.proofs.judging.least_content.Given as goal

abbrev pub invariant-loop-number : goal.invariant-loop-number
invariant-loop-number l = NoneBefore (end_in l.table) l.prim l.memory.backgrounds l.agg l.vic l.number
