use Rattle.std.proofs.Common.{◌≡◌, length, ap, arith}
use Rattle.sequence_faults.proofs.Digits.{three_spots}
use Rattle.sequence_faults.proofs.escape.spots_in.Goals as goal

pub returns : goal.returns
returns c =
    let same : length c.states-cells.result.now ≡ length c.args.prim.now.states = ap (λ l. length l) c.states-cells.ensures in
    let three : length c.args.prim.now.states ≡ 3 = omega (arith, same, c.if-cells-eq1.false, c.if-cells-eq2.false, c.known.ensures.few_cells, c.known.ensures.actor_there) in
    three_spots c.args.size c.args.places (length c.args.prim.now.states) three
