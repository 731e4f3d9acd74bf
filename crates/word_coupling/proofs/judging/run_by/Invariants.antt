use Rattle.std.proofs.Common.{◌≡◌, drop}
use Rattle.word_coupling.specs.inner.Searching.{end_in, run_by}
use Rattle.word_coupling.proofs.judging.run_by.Given as goal

abbrev pub invariant-loop-background : goal.invariant-loop-background
invariant-loop-background l =
    run_by (end_in l.table) l.agg l.vic (drop l.background-index l.background-items) l.pair
    ≡ run_by (end_in l.table) l.agg l.vic l.memory.backgrounds l.fn.start
