-- The pair clauses, seen as an array of two cells.
use Rattle.std.proofs.Common.{◌≡◌, arith, ap, ◌∙◌}
use Rattle.std.proofs.lemmas.Grind.{common_steps}
use Rattle.cell_machine.specs.Pairs.{pair_step, pair_answer}
use Rattle.cell_machine.specs.Seen.{cells_of}
use Rattle.cell_machine.proofs.Alone.{step_as_cells, answer_as_cells}
use Rattle.cell_machine.proofs.pair.act.Goals as goal

pub returns-then-not-does_act-clause-cells : goal.returns-then-not-does_act-clause-cells
returns-then-not-does_act-clause-cells c =
    let pair : c.close.result ≡ pair_step c.args.prim.now c.args.pair c.args.on c.args.act =
    unfold pair_step in grind (arith, common_steps) in
    ap cells_of pair ∙ step_as_cells c.args.prim.now c.args.pair c.args.on c.args.act

pub returns-then-not-does_act-clause-cells_answer : goal.returns-then-not-does_act-clause-cells_answer
returns-then-not-does_act-clause-cells_answer c =
    let answer : c.do_plainly-plain.result.1 ≡ pair_answer c.args.prim.now c.args.pair c.args.on c.args.act =
    unfold pair_answer in grind (arith, common_steps) in
    answer ∙ answer_as_cells c.args.prim.now c.args.pair c.args.on c.args.act

pub returns-clause-cells : goal.returns-clause-cells
returns-clause-cells c =
    let pair : c.close-2.result ≡ pair_step c.args.prim.now c.args.pair c.args.on c.args.act =
    unfold pair_step in grind (arith, common_steps) in
    ap cells_of pair ∙ step_as_cells c.args.prim.now c.args.pair c.args.on c.args.act

pub returns-clause-cells_answer : goal.returns-clause-cells_answer
returns-clause-cells_answer c =
    let answer : c.or.result ≡ pair_answer c.args.prim.now c.args.pair c.args.on c.args.act =
    unfold pair_answer in grind (arith, common_steps) in
    answer ∙ answer_as_cells c.args.prim.now c.args.pair c.args.on c.args.act
