-- The pair clause, seen as an array of two cells.
use Rattle.std.proofs.Common.{◌≡◌, arith, ap, ◌∙◌}
use Rattle.std.proofs.lemmas.Grind.{common_steps}
use Rattle.cell_machine.specs.Pairs.{pair_pause}
use Rattle.cell_machine.specs.Seen.{cells_of}
use Rattle.cell_machine.proofs.Alone.{pause_as_cells}
use Rattle.cell_machine.proofs.pair.pause.Goals as goal

pub returns-clause-cells : goal.returns-clause-cells
returns-clause-cells c =
    let pair : c.close-2.result ≡ pair_pause c.args.prim.now c.args.pair = unfold pair_pause in grind (arith, common_steps) in
    ap cells_of pair ∙ pause_as_cells c.args.prim.now c.args.pair

pub returns-then-do_states_hold-clause-cells : goal.returns-then-do_states_hold-clause-cells
returns-then-do_states_hold-clause-cells c =
    let pair : c.close.result ≡ pair_pause c.args.prim.now c.args.pair = unfold pair_pause in grind (arith, common_steps) in
    ap cells_of pair ∙ pause_as_cells c.args.prim.now c.args.pair
