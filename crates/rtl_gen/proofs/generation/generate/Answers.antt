use Rattle.std.proofs.Common.{sym, ap, ◌∙◌, subst, arith}
use Rattle.verilog_tree.specs.Plain.{ModuleTree}
use Rattle.verilog_tree.specs.Fits.{fits}
use Rattle.self_test.specs.SelfTest.{SelfTest}
use Rattle.self_test.specs.Expected.{ShowsExpected}
use Rattle.self_test.specs.Numbers.{ShowsNumbers}
use Rattle.rtl_layout.specs.Seen.{seen}
use Rattle.rtl_layout.proofs.Text.{all_fits}
use Rattle.rtl_gen.proofs.Runs.{self_tested, expected}
use Rattle.rtl_gen.proofs.Numbers.{numbered}
use Rattle.rtl_gen.proofs.generation.generate.Goals as goal

pub returns-in-Ok-clause-fits : goal.returns-in-Ok-clause-fits
returns-in-Ok-clause-fits c =
    let p = c.plan-plan.result.is_plan in
    ap fits c.in-Ok.ensures ∙ all_fits (seen c.plan-plan.result) p.ready p.ready.sized (let l = p.few_ages in omega arith) p.element_small p.oper_small p.back_small p.name

pub returns-in-Ok-clause-self_test : goal.returns-in-Ok-clause-self_test
returns-in-Ok-clause-self_test c =
    subst (λ (mo : ModuleTree). SelfTest mo c.args.march.now c.args.memory.now) (sym c.in-Ok.ensures)
    (self_tested c.args.march.now c.args.memory.now (seen c.plan-plan.result) c.plan-plan.ensures.plans c.plan-plan.result.is_plan c.plan-plan.ensures.march c.plan-plan.ensures.memory)

pub returns-in-Ok-clause-expected : goal.returns-in-Ok-clause-expected
returns-in-Ok-clause-expected c =
    subst (λ (mo : ModuleTree). ShowsExpected mo c.args.march.now c.args.memory.now) (sym c.in-Ok.ensures)
    (expected c.args.march.now c.args.memory.now (seen c.plan-plan.result) c.plan-plan.ensures.plans c.plan-plan.result.is_plan c.plan-plan.ensures.march c.plan-plan.ensures.memory)

pub returns-in-Ok-clause-numbers : goal.returns-in-Ok-clause-numbers
returns-in-Ok-clause-numbers c =
    subst (λ (mo : ModuleTree). ShowsNumbers mo c.args.march.now c.args.memory.now) (sym c.in-Ok.ensures)
    (numbered c.args.march.now c.args.memory.now (seen c.plan-plan.result) c.plan-plan.ensures.plans c.plan-plan.result.is_plan c.plan-plan.ensures.march c.plan-plan.ensures.memory)

pub returns-in-Ok-clause-layout : goal.returns-in-Ok-clause-layout
returns-in-Ok-clause-layout c = (seen c.plan-plan.result, c.plan-plan.result.is_plan, c.in-Ok.ensures)
