use Rattle.std.proofs.Common.{rules, ◌≡◌}
use Rattle.std.specs.Option.{option_copied}
use Rattle.report.specs.Report.{report_text}
use Rattle.report.proofs.Counts.{report_of}
use Rattle.report.proofs.write.write_judged.Goals as goal

pub returns-clause-report : goal.returns-clause-report
returns-clause-report c =
    let text : c.write_total.new.out.items ≡ report_text c.args.march.now (option_copied c.args.memory) c.args.judged.now = search rules in
    report_of c.args.march.now (option_copied c.args.memory) c.args.judged.now c.write_total.new.out.items text
