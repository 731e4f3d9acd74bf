use Rattle.bist_app.proofs.Common.{ap, sym, subst, ModuleTree, SelfTest}
use Rattle.self_test.proofs.Wrong.{test_ports}
use Rattle.bist_app.proofs.benching_all.does_fail.Goals as goal

pub run_design-requires-clause-ports : goal.run_design-requires-clause-ports
run_design-requires-clause-ports g c =
    let test = subst (λ (mo : ModuleTree). SelfTest mo c.args.march.now c.args.memory.now) (ap (λ design. design.tree) (sym c.set_registers.ensures)) c.requires.test in
    test_ports c.set_registers.new.self.tree c.args.march.now c.args.memory.now test

pub returns-clause-end : goal.returns-clause-end
returns-clause-end g c =
    let test = subst (λ (mo : ModuleTree). SelfTest mo c.args.march.now c.args.memory.now) (ap (λ design. design.tree) (sym c.set_registers.ensures)) c.requires.test in
    let ends = c.run_design.ensures.test test in
    record { seen = c.run_design.result.first; is_seen = ends.is_seen; read = ends.ends.read; fail = ends.ends.fail }
