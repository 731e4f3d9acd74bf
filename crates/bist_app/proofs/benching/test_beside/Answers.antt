use Rattle.self_test.proofs.Wrong.{test_ports}
use Rattle.bist_app.proofs.Benched.{tested}
use Rattle.bist_app.proofs.benching.test_beside.Goals as goal

pub run_beside-plan-requires-clause-ports : goal.run_beside-plan-requires-clause-ports
run_beside-plan-requires-clause-ports g c = test_ports c.in_ok-design.design.tree c.args.march.now c.args.memory.now c.in_ok-design.ensures.test

pub returns-clause-benched : goal.returns-clause-benched
returns-clause-benched g c =
    tested _ c.args.devices.now.items c.in_ok-design.design.tree c.args.march.now c.args.memory.now c.args.planted.now c.run_beside-plan.result c.in_ok-design.ensures.test c.run_beside-plan.ensures.run
