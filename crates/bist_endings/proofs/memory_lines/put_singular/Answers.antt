use Rattle.std.proofs.Common.{sym, append-nil, codes}
use Rattle.bist_endings.specs.Ending.{rows_text}
use Rattle.bist_endings.proofs.Parts.{three_parts}
use Rattle.bist_endings.proofs.Rows.{rows_more, rows_all}
use Rattle.bist_endings.proofs.memory_lines.put_singular.Goals as goal

pub loop-row-init : goal.loop-row-init
loop-row-init c = sym (append-nil c.put.new.out.items)

pub put_row-requires : goal.put_row-requires
put_row-requires c = c.loop-row-test.true

pub loop-row-preserved : goal.loop-row-preserved
loop-row-preserved c = rows_more c.put.new.out.items c.loop-row.line.items c.put_row.new.line.items c.args.rows c.loop-row.row c.loop-row.invariant c.in_ok-put_row.ensures

pub returns : goal.returns
returns c =
    three_parts c.put-2.result c.args.line.now.items (codes "memory D6 rows") (rows_text c.args.rows 16) (codes "\n") c.put.new.out.items c.loop-row.line.items c.put-2.new.out.items c.in_ok-put.ensures.ok
    (rows_all c.put.new.out.items c.loop-row.line.items c.args.rows c.loop-row.row c.loop-row.auto.row-end c.loop-row-test.false c.loop-row.invariant)
    c.put-2.ensures.ok
