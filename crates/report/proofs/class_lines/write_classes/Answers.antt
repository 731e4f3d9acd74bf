use Rattle.std.proofs.Common.{◌∙◌, ap, sym, ◌++◌, List, ℕ, map, take, append_assoc, get_or}
use Rattle.fault_core.specs.declared.table.Class.TheVariants.{SF}
use Rattle.report.specs.declared.class_lines.ItemClass.{ItemClass}
use Rattle.report.specs.declared.class_lines.ItemClass.TheVariants.{Static}
use Rattle.report.specs.Items.{item_of}
use Rattle.report.specs.Report.{class_line, class_size, class_covered, class_lines, class_order}
use Rattle.report.proofs.ClassLines.{class_line_more}
use Rattle.report.proofs.class_lines.write_classes.Goals as goal

pub loop-class-preserved : goal.loop-class-preserved
loop-class-preserved c =
    let k : ℕ = c.loop-class.class-index in
    let class : ItemClass = get_or class_order k (Static SF) in
    let before : List ℕ = class_lines (take k class_order) c.args.judged.now in
    let here : List ℕ = class_line class (class_size class (map item_of c.args.judged.now)) (class_covered class c.args.judged.now) in
    c.in_ok-write_class.ensures ∙ ap (λ l. l ++ here) c.loop-class.invariant ∙ append_assoc c.args.out.now.items before here
    ∙ ap (λ l. c.args.out.now.items ++ l) (sym (class_line_more c.args.judged.now k c.loop-class-test.true))
