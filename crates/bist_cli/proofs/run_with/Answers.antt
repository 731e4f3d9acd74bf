use Rattle.std.proofs.Common.{rules}
use Rattle.bist_cli.proofs.Program.{runs_alone}
use Rattle.bist_cli.proofs.run_with.Goals as goal

pub returns-clause-runs : goal.returns-clause-runs
returns-clause-runs g c =
    runs_alone c.args.words.now _ _ (g.H.Host.state c.args.host.now) (g.H.Host.state c.run.new.host) c.run.result.status (search rules) c.run.ensures.answer
