use Rattle.std.proofs.Common.{◌∙◌, sym, arith}
use Rattle.march_core.specs.Addresses.{direction_of}
use Rattle.sequence_faults.specs.inner.Few.{machine_of}
use Rattle.sequence_faults.proofs.Turns.{turn_stops, turn_goes_on, turns_end}
use Rattle.sequence_faults.proofs.few.run_cells.Goals as goal

pub returns-in_default : goal.returns-in_default
returns-in_default c =
    sym (turn_stops (machine_of c.args.prim.now) c.args.spots (direction_of c.args.is_down) c.args.ops.now c.loop-turn.few c.loop-turn.turn c.address_of-address.result
    c.seat_at.result (omega (arith, c.loop-turn-test.true)) c.address_of-address.ensures.value c.seat_at.ensures.seat c.run_cell.result c.run_cell.ensures c.in_default.is)
    ∙ c.loop-turn.invariant

pub loop-turn-preserved : goal.loop-turn-preserved
loop-turn-preserved c =
    sym (turn_goes_on (machine_of c.args.prim.now) c.args.spots (direction_of c.args.is_down) c.args.ops.now c.loop-turn.few c.loop-turn.turn c.address_of-address.result
    c.seat_at.result (omega (arith, c.loop-turn-test.true)) c.address_of-address.ensures.value c.seat_at.ensures.seat c.run_cell.result c.in-Some.next c.run_cell.ensures c.in-Some.is)
    ∙ c.loop-turn.invariant

pub returns : goal.returns
returns c =
    sym (turns_end (machine_of c.args.prim.now) c.args.spots (direction_of c.args.is_down) c.args.ops.now c.loop-turn.few c.loop-turn.turn (omega (arith, c.loop-turn-test.false)))
    ∙ c.loop-turn.invariant
