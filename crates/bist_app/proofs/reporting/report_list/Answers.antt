use Rattle.bist_app.proofs.Common.{ap, ◌∙◌, sym, subst, length, nat_lt, option_copied}
use Rattle.report.specs.Items.{AreJudged}
use Rattle.report_lines.specs.Lines.{total_line}
use Rattle.bist_app.proofs.Judging.{reports_of, covered_of}
use Rattle.bist_app.proofs.reporting.report_list.Goals as goal

pub returns-clause-reports : goal.returns-clause-reports
returns-clause-reports c =
    let verdicts = c.as_slice-verdicts.result.now in
    let judged = subst (AreJudged c.args.march.now c.args.items.now) (sym c.as_slice-verdicts.ensures.value) c.in_ok-judged.ensures in
    reports_of c.args.march.now (option_copied c.args.memory) verdicts c.args.items.now _ _ _
    (ap (λ n. nat_lt n (length verdicts)) c.count_covered-covered.ensures.value) c.in_ok-bytes.ensures.report
    (c.in_ok-line.ensures ∙ ap (total_line (length verdicts)) c.count_covered-covered.ensures.value) judged

pub returns-clause-covered : goal.returns-clause-covered
returns-clause-covered c =
    let judged = subst (AreJudged c.args.march.now c.args.items.now) (sym c.as_slice-verdicts.ensures.value) c.in_ok-judged.ensures in
    covered_of c.args.march.now c.as_slice-verdicts.result.now c.args.items.now _ c.count_covered-covered.ensures.value judged
