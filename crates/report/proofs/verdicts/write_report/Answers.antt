use Rattle.std.proofs.Common.{◌≡◌, ◌∙◌, List, subst}
use Rattle.std.specs.Option.{option_copied}
use Rattle.std.specs.Prelude.{IfOk}
use Rattle.report.specs.declared.judged.JudgedItem.{JudgedItem}
use Rattle.report.specs.Report.{report_text}
use Rattle.report.proofs.PlainItems.{written_of_verdicts}
use Rattle.report.proofs.verdicts.write_report.Goals as goal

pub returns-clause-report : goal.returns-clause-report
returns-clause-report c =
    written_of_verdicts c.args.march.now (option_copied c.args.memory) c.args.prims.now c.args.verdicts.now c.write_judged.result
    (subst (λ (js : List JudgedItem). IfOk c.write_judged.result (λ text. text.items ≡ report_text c.args.march.now (option_copied c.args.memory) js))
    (c.as_slice.ensures.value ∙ c.in_ok-judged.ensures) c.write_judged.ensures.text)
