use Rattle.word_march.proofs.Runs.{small_runs}
use Rattle.word_march.proofs.laws.examples.Goals as goal

pub returns : goal.returns
returns c = small_runs
