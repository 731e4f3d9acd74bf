use Rattle.bist_app.proofs.Common.{ℕ, ◌<◌, subst}
use Rattle.bist_app.proofs.Benched.{file_benched}
use Rattle.bist_app.proofs.benchfile_command.plan_benchfile.Goals as goal

pub returns-clause-answer : goal.returns-clause-answer
returns-clause-answer g c =
    file_benched _ c.args.devices.now.items c.args.design.now.tree c.args.march.now c.args.memory.now c.run_beside.result
    (subst (λ (n : ℕ). 0 < n) c.args.devices.now.ok.0 c.requires.some) c.run_beside.ensures.wants c.run_beside.ensures.run
