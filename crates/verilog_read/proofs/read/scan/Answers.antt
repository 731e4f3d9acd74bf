use Rattle.verilog_read.specs.inner.Told.{both_of}
use Rattle.verilog_read.proofs.Scanning.{scanned}
use Rattle.verilog_read.proofs.read.scan.Goals as goal

pub returns : goal.returns
returns c = scanned (both_of c.args.place.now c.args.outer.now c.args.lexer) c.args.c c.most_at-most.result c.lex.result c.most_at-most.ensures.value c.lex.ensures
