use Rattle.std.proofs.Common.{ap, ◌∙◌, ◌++◌}
use Rattle.std.specs.Prelude.{codes}
use Rattle.fault_core.specs.Classes.{class_by_parts}
use Rattle.fault_syntax.specs.Names.{class_text}
use Rattle.fault_syntax.specs.Printed.{printed}
use Rattle.report_lines.proofs.LinesGrow.{item_written}
use Rattle.report_lines.proofs.passing.write_prim.Goals as goal

pub returns : goal.returns
returns c =
    let prim = c.args.prim.now in
    item_written c.put.result c.args.out.now.items c.args.verdict.now (printed prim) c.as_bytes-2.result.now (class_text (class_by_parts prim)) c.put_between.new.out.items c.put.new.out.items
    (c.in_ok-put_between.ensures ∙ ap (λ l. c.args.out.now.items ++ (c.args.verdict.now ++ l ++ codes " ")) (c.as_bytes.ensures.value ∙ c.as_str.ensures.value ∙ c.print_prim.ensures.form)) c.put.ensures.ok
    (c.as_bytes-2.ensures.value ∙ c.class_name.ensures ∙ ap class_text c.class_of.ensures.by_parts)
