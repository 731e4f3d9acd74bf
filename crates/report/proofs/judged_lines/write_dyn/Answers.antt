use Rattle.std.proofs.Common.{ap, ◌∙◌, ◌++◌}
use Rattle.std.specs.Prelude.{codes}
use Rattle.dynamic_core.specs.declared.item.Item.TheVariants.{Dyn}
use Rattle.dynamic_core.specs.Printed.{printed_dynamic}
use Rattle.report.specs.Report.{class_text, item_class}
use Rattle.report_lines.proofs.LinesGrow.{item_written}
use Rattle.report.proofs.judged_lines.write_dyn.Goals as goal

pub returns : goal.returns
returns c =
    let prim = c.args.prim.now in
    item_written c.put.result c.args.out.now.items c.args.verdict.now (printed_dynamic prim) c.class_name.result.now (class_text (item_class (Dyn prim))) c.put_between.new.out.items c.put.new.out.items
    (c.in_ok-put_between.ensures ∙ ap (λ l. c.args.out.now.items ++ (c.args.verdict.now ++ l ++ codes " ")) (c.as_bytes.ensures.value ∙ c.as_str.ensures.value ∙ c.print_dyn.ensures.form)) c.put.ensures.ok
    (c.class_name.ensures ∙ ap class_text c.dyn_class.ensures)
