use Rattle.std.proofs.Common.{◌≡◌, ◌∙◌, List, ap, subst, nat_lt, length}
use Rattle.std.specs.Prelude.{count_by}
use Rattle.report_lines.specs.Lines.{total_line}
use Rattle.linked_faults.specs.declared.link.Link.{Link}
use Rattle.linked_report.specs.Links.{AreJudgedLinks, is_link_covered}
use Rattle.linked_report.specs.inner.Counted.{linked_text}
use Rattle.linked_report.proofs.Reporting.{reports_of}
use Rattle.linked_report.proofs.write.report_links.Goals as goal

pub returns : goal.returns
returns c =
    let march = c.args.march.now in
    let js = c.in_ok-judged.judged.items in
    let seen : c.as_slice-verdicts.result.now ≡ js = c.as_slice-verdicts.ensures.value in
    let count : c.count_covered-covered.result ≡ count_by is_link_covered js = c.count_covered-covered.ensures.value ∙ ap (count_by is_link_covered) seen in
    reports_of march c.in_ok-links.links.items js _ c.in_ok-bytes.bytes.items c.in_ok-line.line.items c.in_ok-links.ensures
    (subst (λ (l : List Link). AreJudgedLinks march l js) c.as_slice.ensures.value c.in_ok-judged.ensures)
    (λ k. nat_lt (count k) (length (seen k)))
    (c.in_ok-bytes.ensures ∙ ap (linked_text march) seen)
    (c.in_ok-line.ensures ∙ (λ k. total_line (length (seen k)) (count k)))
