use Rattle.std.specs.Prelude.{codes}
use Rattle.fault_syntax.specs.PrimText.{bit_text}
use Rattle.report_lines.specs.Lines.{content_text}
use Rattle.report_lines.proofs.LinesGrow.{all_texts, two_parts}
use Rattle.report_lines.proofs.passing.write_content.Goals as goal

pub returns : goal.returns
returns c =
    two_parts c.args.out.now.items (codes " content ") (content_text c.args.content.now) c.put.new.out.items c.loop-bit.out.items c.in_ok-put.ensures.ok
    (all_texts bit_text c.args.content.now c.loop-bit.bit-index c.put.new.out.items c.loop-bit.out.items c.loop-bit-test.false c.loop-bit.invariant)
