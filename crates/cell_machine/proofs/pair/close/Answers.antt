-- The pair clause, seen as an array of two cells.
use Rattle.std.proofs.Common.{◌≡◌, rules, arith, ap, ◌∙◌}
use Rattle.std.proofs.lemmas.Grind.{common_steps}
use Rattle.cell_machine.specs.Pairs.{pair_of, pair_close}
use Rattle.cell_machine.specs.Seen.{cells_of}
use Rattle.cell_machine.proofs.Alone.{close_as_cells}
use Rattle.cell_machine.proofs.pair.close.Goals as goal

pub returns-then-do_states_hold-clause-cells : goal.returns-then-do_states_hold-clause-cells
returns-then-do_states_hold-clause-cells c =
    let pair : pair_of c.args.pair.a c.after.result ≡ pair_close c.args.prim.now c.args.pair = unfold pair_close in search rules in
    ap cells_of pair ∙ close_as_cells c.args.prim.now c.args.pair

pub returns-else-not-has_any_act-clause-cells : goal.returns-else-not-has_any_act-clause-cells
returns-else-not-has_any_act-clause-cells c =
    let pair : c.args.pair ≡ pair_close c.args.prim.now c.args.pair = unfold pair_close in grind (arith, common_steps) in
    ap cells_of pair ∙ close_as_cells c.args.prim.now c.args.pair
