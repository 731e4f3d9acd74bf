use Rattle.std.proofs.Common.{◌++◌, codes}
use Rattle.std.proofs.lemmas.Result.{on_ok_weaker}
use Rattle.verilog_tree.specs.Plain.{plain_stmts}
use Rattle.verilog_emit.specs.Printed.{line, statements_text}
use Rattle.verilog_emit.proofs.Bodies.{three_parts}
use Rattle.verilog_emit.proofs.items.put_always.Goals as goal

pub returns : goal.returns
returns c =
    on_ok_weaker c.put_line.result
    (three_parts c.args.out.now.items c.put_name_line.new.out.items c.put_stmts.new.out.items c.put_line.new.out.items (line 1 (codes "always @(posedge " ++ c.args.clock.now.bytes ++ codes ") begin")) (statements_text 2 (plain_stmts c.args.body.now)) (line 1 (codes "end"))
    c.in_ok-put_name_line.ensures c.in_ok-put_stmts.ensures) c.put_line.ensures
