use Rattle.std.proofs.Common.{◌++◌, true, false, refl}
use Rattle.verilog_emit.specs.Printed.{literal_text, separator, labels_text}
use Rattle.verilog_emit.proofs.Bodies.{two_parts, one_written, all_written}
use Rattle.verilog_emit.proofs.writing.put_labels.Goals as goal

pub loop-label-preserved : goal.loop-label-preserved
loop-label-preserved c =
    let labels = c.args.labels.now in
    let first = c.loop-label.first in
    let x = c.label-item.result in
    one_written (labels_text first) (labels_text false) (separator first ++ literal_text x) labels c.loop-label.label-index x c.loop-label.out.items c.put_literal.new.out.items (c.args.out.now.items ++ labels_text true labels)
    c.loop-label-test.true c.label-item.is refl c.loop-label.invariant
    (two_parts c.loop-label.out.items c.put_separator.new.out.items c.put_literal.new.out.items (separator first) (literal_text x) c.in_ok-put_separator.ensures c.in_ok-put_literal.ensures)

pub returns : goal.returns
returns c =
    let labels = c.args.labels.now in
    all_written (labels_text c.loop-label.first) labels c.loop-label.label-index c.loop-label.out.items (c.args.out.now.items ++ labels_text true labels) c.loop-label-test.false refl c.loop-label.invariant
