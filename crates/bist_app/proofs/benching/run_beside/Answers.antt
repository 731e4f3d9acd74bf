use Rattle.bist_app.proofs.Common.{subst, Tells, done_of}
use Rattle.bist_app.specs.inner.RunsBeside.{RunsBeside}
use Rattle.bist_app.proofs.Benched.{plan_is}
use Rattle.bist_app.proofs.BenchedFile.{words_low}
use Rattle.bist_app.proofs.benching.run_beside.Goals as goal

pub end_plan-requires-clause-fits : goal.end_plan-requires-clause-fits
end_plan-requires-clause-fits g c =
    words_low c.bits-bits.result c.args.design.now.tree c.args.march.now c.args.memory.now _ _ c.run_design-end.result c.bits-bits.ensures.value c.bits-bits.ensures.memory
    c.requires.ports c.run_design-end.ensures.runs

pub returns-clause-run : goal.returns-clause-run
returns-clause-run g c = λ b rest e.
    subst (λ (x : Tells). RunsBeside c.args.design.now.tree c.args.march.now c.args.memory.now x (done_of c.in_ok-plan.plan)) (c.in_ok-device.ensures.tells b rest e)
    (plan_is c.args.design.now.tree c.args.march.now c.args.memory.now _ _ c.run_design-end.result c.bits-bits.result _ c.requires.zero c.run_design-end.ensures.runs
    c.run_design-end.ensures.test c.bits-bits.ensures.value c.in_ok-plan.ensures)
