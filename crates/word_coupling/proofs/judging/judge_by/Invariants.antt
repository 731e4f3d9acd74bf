use Rattle.std.proofs.Common.{◌<◌}
use Rattle.word_coupling.specs.declared.judging.WordEscape.{WordEscape}
use Rattle.word_coupling.specs.inner.Searching.{end_in, PassesBy}
use Rattle.word_coupling.proofs.judging.judge_by.Given as goal

abbrev pub invariant-loop-vic : goal.invariant-loop-vic
invariant-loop-vic l = (f : WordEscape) → PassesBy (end_in l.table) l.prim l.memory.bits l.memory.backgrounds f → f.vic < l.vic → ⊥
