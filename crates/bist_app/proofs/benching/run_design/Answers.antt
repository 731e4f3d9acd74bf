use Rattle.std.proofs.lemmas.Bool.{false≢true}
use Rattle.bist_app.proofs.benching.run_design.Goals as goal

pub unreachable-requires : goal.unreachable-requires
unreachable-requires g c = false≢true (c.in-Err.ensures.ran (c.requires.short, c.requires.ports))

pub returns-clause-runs : goal.returns-clause-runs
returns-clause-runs g c = record { now = _; after = _; runs = c.in-Ok.ensures.runs }
