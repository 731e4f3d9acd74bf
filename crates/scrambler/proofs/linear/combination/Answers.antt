use Rattle.std.proofs.Common.{slice_index, ◌∙◌}
use Rattle.scrambler.proofs.Steps.{combination_taken, combination_left}
use Rattle.scrambler.proofs.linear.combination.Goals as goal
use Rattle.scrambler.proofs.linear.combination.Goals.{then-set-i-eq1, else-set-i-eq1}

pub loop-i-preserved : goal.loop-i-preserved
loop-i-preserved c =
    let vector = slice_index c.args.vectors.now in
    elim c.if-set-i-eq1.branch [
      | then-set-i-eq1 w ↦ w.x-is ∙ combination_taken vector c.args.set c.loop-i.i c.loop-i.x c.loop-i.invariant w.if-set-i-eq1.true
      | else-set-i-eq1 w ↦ w.x-is ∙ combination_left vector c.args.set c.loop-i.i c.loop-i.x c.loop-i.invariant w.if-set-i-eq1.false
    ]
