use Rattle.bench.proofs.Stages.{whole}
use Rattle.bench.proofs.Histories.{ends_test}
use Rattle.bench.proofs.run.bench.Goals as goal

pub returns-clause-runs : goal.returns-clause-runs
returns-clause-runs g c =
    whole c.args.design.now.tree c.args.march.now c.args.memory.now c.args.design.now.registers c.run_cycles-watch.new.design.registers _ _
    c.cycle_count-cycles.result c.run_cycles-watch.result c.cycle_count-cycles.ensures.march c.cycle_count-cycles.ensures.memory
    c.cycle_count-cycles.ensures.count c.run_cycles-watch.ensures.stage

pub returns-clause-self_test : goal.returns-clause-self_test
returns-clause-self_test g c = λ test.
    ends_test c.args.design.now.tree c.args.march.now c.args.memory.now c.args.design.now.registers c.run_cycles-watch.new.design.registers _ _ _
    c.run_cycles-watch.result.fail c.run_cycles-watch.result.done_cycle c.run_cycles-watch.result.first c.cycle_count-cycles.ensures.march
    c.cycle_count-cycles.ensures.memory c.in_default.ensures.refuses.0 c.requires.fitted c.is_fitted.ensures
    (whole c.args.design.now.tree c.args.march.now c.args.memory.now c.args.design.now.registers c.run_cycles-watch.new.design.registers _ _
    c.cycle_count-cycles.result c.run_cycles-watch.result c.cycle_count-cycles.ensures.march c.cycle_count-cycles.ensures.memory
    c.cycle_count-cycles.ensures.count c.run_cycles-watch.ensures.stage) test
