use Rattle.std.proofs.Common.{◌≡◌, replicate}
use Rattle.word_device.proofs.pending.no_answers.Given as goal

abbrev pub invariant-loop : goal.invariant-loop
invariant-loop l = l.pending.items ≡ replicate l.counter 0
