use Rattle.std.proofs.Common.{sym, ◌∙◌}
use Rattle.dynamic_core.proofs.ListReads.{one_not_added}
use Rattle.dynamic_core.proofs.list.add_item.Goals as goal

pub returns-in_ok-item-in-Primitive-clause-err : goal.returns-in_ok-item-in-Primitive-clause-err
returns-in_ok-item-in-Primitive-clause-err c = λ v e. one_not_added c.args.set v c.in-Primitive.parts c.in_ok-item-in-Primitive.item c.args.line c.args.items.now.items c.append.result (sym c.in-Primitive.is ∙ e) c.in_ok-item-in-Primitive.ensures c.append.ensures.err
