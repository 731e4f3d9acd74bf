use Rattle.pair_tracker.proofs.LeastWords.{are_between}
use Rattle.pair_tracker.proofs.march_search.word_between.Goals as goal

pub word_from-requires-clause-from : goal.word_from-requires-clause-from
word_from-requires-clause-from g c = are_between c.args.march.now c.args.end (record { is_march = c.known.ensures; within = c.requires.within })
