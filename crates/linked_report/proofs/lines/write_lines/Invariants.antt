use Rattle.std.proofs.Common.{◌≡◌, ◌++◌, take}
use Rattle.std.specs.List.{flat_map}
use Rattle.linked_report.specs.inner.Counted.{judged_link_line}
use Rattle.linked_report.proofs.lines.write_lines.Given as goal

abbrev pub invariant-loop-link : goal.invariant-loop-link
invariant-loop-link l = l.out.items ≡ l.initial.out.items ++ flat_map (judged_link_line l.size) (take l.link-index l.judged)
