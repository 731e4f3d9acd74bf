use Rattle.std.proofs.Common.{◌++◌, codes}
use Rattle.bist_endings.specs.Ending.{names_text}
use Rattle.bist_endings.proofs.Names.{names_more, names_all}
use Rattle.bist_endings.proofs.Parts.{three_parts}
use Rattle.bist_endings.proofs.verilog_lines.put_loop.Goals as goal

pub loop-name-preserved : goal.loop-name-preserved
loop-name-preserved c =
    names_more (c.put.new.out.items ++ names_text c.args.names.now) c.loop-name.line.items c.put_between.new.out.items c.args.names.now c.loop-name.name-index c.name-item.result
    c.loop-name-test.true c.name-item.is (rw (c.as_bytes.ensures.value, c.as_str.ensures.value) at c.in_ok-put_between.ensures) c.loop-name.invariant

pub returns : goal.returns
returns c =
    three_parts c.put-2.result c.args.line.now.items (codes "verilog N7") (names_text c.args.names.now) (codes "\n") c.put.new.out.items c.loop-name.line.items c.put-2.new.out.items c.in_ok-put.ensures.ok
    (names_all (c.put.new.out.items ++ names_text c.args.names.now) c.loop-name.line.items c.args.names.now c.loop-name.name-index c.loop-name-test.false c.loop-name.invariant)
    c.put-2.ensures.ok
