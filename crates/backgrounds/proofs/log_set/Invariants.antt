use Rattle.backgrounds.proofs.StripeLemmas.{HasStripes}
use Rattle.backgrounds.proofs.log_set.Given as goal

abbrev pub invariant-loop-k : goal.invariant-loop-k
invariant-loop-k l = HasStripes l.bits l.k l.set.items
