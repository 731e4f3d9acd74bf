use Rattle.std.proofs.Common.{◌≡◌, drop}
use Rattle.verilog_text.specs.Answering.{run}
use Rattle.verilog_read.specs.inner.Told.{both_of}
use Rattle.verilog_read.specs.declared.lexer.Scanner.TheVariants.{InGap}
use Rattle.verilog_tree.specs.declared.tokens.Within.TheVariants.{Between}
use Rattle.verilog_read.proofs.read.scan_all.Given as goal

-- what the rest of the text makes of what is read is what the whole makes of what stood before it
abbrev pub invariant-loop-i : goal.invariant-loop-i
invariant-loop-i l = run (drop l.i l.bytes) (both_of l.place l.outer l.lexer) l.start l.i ≡ run l.bytes (both_of l.fn.place l.fn.outer (InGap Between)) 0 0
