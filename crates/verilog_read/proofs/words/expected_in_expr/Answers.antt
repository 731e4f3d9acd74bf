use Rattle.verilog_read.proofs.ExprExpectations.{expr_expects}
use Rattle.verilog_read.proofs.words.expected_in_expr.Goals as goal

pub returns : goal.returns
returns c = expr_expects c.plain.result c.args.place.now c.begins-begins.result c.plain.ensures c.begins-begins.ensures
