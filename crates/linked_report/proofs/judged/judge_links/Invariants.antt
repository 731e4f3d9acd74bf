use Rattle.std.proofs.Common.{take}
use Rattle.linked_report.specs.Links.{AreJudgedLinks}
use Rattle.linked_report.proofs.judged.judge_links.Given as goal

abbrev pub invariant-loop-link : goal.invariant-loop-link
invariant-loop-link l = AreJudgedLinks l.march (take l.link-index l.links) l.judged.items
