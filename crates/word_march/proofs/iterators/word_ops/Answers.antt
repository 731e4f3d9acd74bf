use Rattle.std.proofs.Common.{zero-le, arith}
use Rattle.word_march.proofs.Places.{first_place}
use Rattle.word_march.proofs.iterators.word_ops.Goals as goal

pub invariant_of-result : goal.invariant_of-result
invariant_of-result c =
    let words = c.known-2.ensures.words_low in
    first_place c.args.march.now c.args.memory.now 0 c.run_start.result c.known.ensures zero-le (omega arith) c.run_start.ensures
