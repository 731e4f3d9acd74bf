use Rattle.std.proofs.Common.{arith, ◌≤◌, ◌^◌, length}
use Rattle.bist_text.proofs.Powers.{fewer_digits}
use Rattle.bist_text.proofs.numbers.decimal.Goals as goal

pub overflow_cast-result : goal.overflow_cast-result
overflow_cast-result c = let bound : 10 ^ length c.args.bytes.now ≤ 10 ^ 9 = fewer_digits 10 _ 9 (omega arith) (omega arith) in omega (arith, c.in_ok-value.ensures.small)
