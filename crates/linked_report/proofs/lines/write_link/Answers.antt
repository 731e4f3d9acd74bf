use Rattle.std.proofs.Common.{◌≡◌, ap, subst, ◌∙◌, ◌++◌, [], codes, OnOk}
use Rattle.fault_syntax.specs.Printed.{printed as printed_prim}
use Rattle.linked_faults.specs.Kinds.{kind_of}
use Rattle.linked_report.specs.Report.{kind_text}
use Rattle.linked_report.proofs.Written.{link_written}
use Rattle.linked_report.proofs.lines.write_link.Goals as goal

pub returns : goal.returns
returns c =
    let link = c.args.link.now in
    let verdict = c.args.verdict.now in
    let first = c.as_bytes.ensures.value ∙ c.as_str.ensures.value ∙ c.print_prim.ensures.form in
    let second = c.as_bytes-2.ensures.value ∙ c.as_str-2.ensures.value ∙ c.print_prim-2.ensures.form in
    link_written c.put.result c.args.out.now.items verdict (kind_text (kind_of link)) (printed_prim link.first) (printed_prim link.second) (codes " ")
    c.put_between.new.out.items c.put_between-2.new.out.items c.put.new.out.items
    (c.in_ok-put_between.ensures ∙ ap (λ l. c.args.out.now.items ++ (verdict ++ l ++ codes " ")) (c.kind_name.ensures ∙ ap kind_text c.kind_of.ensures))
    (c.in_ok-put_between-2.ensures ∙ ap (λ l. c.put_between.new.out.items ++ ([] ++ l ++ codes " ")) first)
    (subst (λ l. OnOk c.put.result (c.put.new.out.items ≡ c.put_between-2.new.out.items ++ l)) second c.put.ensures.ok)
