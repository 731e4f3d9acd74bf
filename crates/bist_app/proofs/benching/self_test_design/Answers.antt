use Rattle.bist_app.proofs.Common.{List, ℕ, sym, subst, plain_module}
use Rattle.verilog_tree.specs.Spells.{Spells}
use Rattle.bist_app.proofs.ReadBack.{read_test, new_tests, new_zero}
use Rattle.bist_app.proofs.benching.self_test_design.Goals as goal

pub read_back-requires : goal.read_back-requires
read_back-requires c =
    let written = c.in_ok-text.ensures in
    (written.tree, subst (λ (bytes : List ℕ). Spells bytes written.tree) (sym c.deref.ensures.value) written.spells)

pub designed-requires-clause-legal : goal.designed-requires-clause-legal
designed-requires-clause-legal c =
    (read_test c.args.march.now c.args.memory.now _ _ (plain_module c.in_ok-read.read) c.in_ok-text.ensures c.deref.ensures.value c.in_ok-read.ensures.spells).legal

pub designed-requires-clause-loopless : goal.designed-requires-clause-loopless
designed-requires-clause-loopless c =
    (read_test c.args.march.now c.args.memory.now _ _ (plain_module c.in_ok-read.read) c.in_ok-text.ensures c.deref.ensures.value c.in_ok-read.ensures.spells).no_loop

pub returns-clause-test : goal.returns-clause-test
returns-clause-test c =
    let test = read_test c.args.march.now c.args.memory.now _ _ (plain_module c.in_ok-read.read) c.in_ok-text.ensures c.deref.ensures.value c.in_ok-read.ensures.spells in
    new_tests c.designed.result c.args.march.now c.args.memory.now (plain_module c.in_ok-read.read) test c.designed.ensures

pub returns-clause-zero : goal.returns-clause-zero
returns-clause-zero c = new_zero c.designed.result (plain_module c.in_ok-read.read) c.designed.ensures
