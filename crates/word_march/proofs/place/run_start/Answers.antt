use Rattle.word_march.proofs.Places.{run_begins}
use Rattle.word_march.proofs.place.run_start.Goals as goal

pub returns : goal.returns
returns c =
    run_begins c.args.march.now c.args.background c.unwrap_or.result c.sweep_from.result c.known.ensures c.sweep_from.ensures.found c.sweep_from.ensures.none c.unwrap_or.ensures
