use Rattle.std.proofs.Common.{◌∙◌, sym, arith, ap, ◌^◌, ◌≡◌}
use Rattle.sequence_faults.proofs.Digits.{first_power, square, cube}
use Rattle.sequence_faults.proofs.escape.places_count.Goals as goal

pub returns-then-cells-eq1 : goal.returns-then-cells-eq1
returns-then-cells-eq1 c = first_power c.args.size ∙ ap (λ k. c.args.size ^ k) (sym c.if-cells-eq1.true)

pub returns-then-cells-eq2 : goal.returns-then-cells-eq2
returns-then-cells-eq2 c = square c.args.size ∙ ap (λ k. c.args.size ^ k) (sym c.if-cells-eq2.true)

pub returns : goal.returns
returns c = let three : 3 ≡ c.args.cells = omega (arith, c.if-cells-eq1.false, c.if-cells-eq2.false, c.requires.some, c.requires.few) in cube c.args.size ∙ ap (λ k. c.args.size ^ k) three
