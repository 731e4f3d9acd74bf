-- Links that are judged one after another.
use Rattle.std.proofs.Common.{List, [], ◌∷◌, ◌++◌}
use Rattle.march_core.specs.March.{MarchElement}
use Rattle.linked_faults.specs.declared.link.Link.{Link}
use Rattle.report_lines.proofs.Listed.{one_judged}
use Rattle.linked_report.specs.declared.judged.JudgedLink.{JudgedLink}
use Rattle.linked_report.specs.Links.{IsJudgedLink, AreJudgedLinks}

pub one_link_more : (march : List MarchElement) (links : List Link) (js : List JudgedLink) (j : JudgedLink) → AreJudgedLinks march links js → IsJudgedLink march j
    → AreJudgedLinks march (links ++ j.link ∷ []) (js ++ j ∷ [])
one_link_more march links js j h right =
    let both = one_judged (λ (k : JudgedLink). k.link) (IsJudgedLink march) links js j h.each h.in_order right in
    record { each = both.0; in_order = both.1 }
