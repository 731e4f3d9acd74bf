use Rattle.std.proofs.Common.{◌≡◌}
use Rattle.made_inputs.specs.MadeList.{all_lines}
use Rattle.made_inputs.proofs.made_list.list_text.Given as goal

abbrev pub invariant-loop-line : goal.invariant-loop-line
invariant-loop-line l = l.text.items ≡ all_lines l._line
