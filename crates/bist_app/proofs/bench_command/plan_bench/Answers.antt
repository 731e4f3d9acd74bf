use Rattle.bist_app.proofs.Common.{ℕ, ◌<◌, subst}
use Rattle.bist_app.proofs.Benched.{benched}
use Rattle.bist_app.proofs.bench_command.plan_bench.Goals as goal

pub returns-clause-answer : goal.returns-clause-answer
returns-clause-answer g c =
    benched _ c.args.devices.now.items c.args.march.now c.args.memory.now c.test_beside.result (subst (λ (n : ℕ). 0 < n) c.args.devices.now.ok.0 c.requires.some)
    c.unplanted_passes.ensures.alone c.test_beside.ensures.wants c.test_beside.ensures.benched
