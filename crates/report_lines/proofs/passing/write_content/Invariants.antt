use Rattle.std.proofs.Common.{◌≡◌, ◌++◌, take}
use Rattle.report_lines.specs.Lines.{content_text}
use Rattle.report_lines.proofs.passing.write_content.Given as goal

abbrev pub invariant-loop-bit : goal.invariant-loop-bit
invariant-loop-bit l = l.out.items ≡ l.initial.out.items ++ content_text (take l.bit-index l.content)
