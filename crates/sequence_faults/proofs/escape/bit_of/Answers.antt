use Rattle.std.proofs.Common.{sym, arith, false}
use Rattle.std.specs.Prelude.{◌==◌}
use Rattle.sequence_faults.proofs.Digits.{digit_at, digit_past}
use Rattle.sequence_faults.proofs.escape.bit_of.Goals as goal

pub returns-then-address-size : goal.returns-then-address-size
returns-then-address-size c = sym (digit_past (λ digit. digit == 1) 2 c.args.size c.args.content c.args.address false (omega (arith, c.if-address-size.true)))

pub returns : goal.returns
returns c = sym (digit_at (λ digit. digit == 1) 2 c.args.size c.args.content c.args.address false (omega (arith, c.if-address-size.false)))
