use Rattle.std.proofs.Common.{map, refl, sym, ap, ◌∙◌}
use Rattle.fault_core.specs.Table.{two_cell_table}
use Rattle.fault_syntax.proofs.Appending.{same_added, same_refused, both_added, first_refused, second_refused}
use Rattle.fault_syntax.proofs.PassedOn.{passed_on}
use Rattle.dynamic_core.specs.declared.item.Item.TheVariants.{Plain}
use Rattle.dynamic_core.specs.ItemParts.{items_of}
use Rattle.dynamic_core.proofs.ListReads.{all_plain}
use Rattle.dynamic_core.proofs.list.append_named.Goals as goal

pub returns-in-OfClass-clause-ok : goal.returns-in-OfClass-clause-ok
returns-in-OfClass-clause-ok c =
    same_added c.append.result c.args.items.now.items c.append.new.items.items _ _ (ap (map Plain) (c.as_slice.ensures.value ∙ c.members.ensures) ∙ ap items_of (sym c.in-OfClass.is)) c.append.ensures.ok

pub returns-in-OfClass-clause-err : goal.returns-in-OfClass-clause-err
returns-in-OfClass-clause-err c =
    same_refused c.append.result c.args.items.now.items _ _ c.args.line (ap (map Plain) (c.as_slice.ensures.value ∙ c.members.ensures) ∙ ap items_of (sym c.in-OfClass.is)) c.append.ensures.err

pub returns-in-One-clause-ok : goal.returns-in-One-clause-ok
returns-in-One-clause-ok c =
    same_added c.append-in-One.result c.args.items.now.items c.append-in-One.new.items.items _ _ (ap (map Plain) c.one_cell.ensures.rows ∙ ap items_of (sym c.in-One.is)) c.append-in-One.ensures.ok

pub returns-in-One-clause-err : goal.returns-in-One-clause-err
returns-in-One-clause-err c =
    same_refused c.append-in-One.result c.args.items.now.items _ _ c.args.line (ap (map Plain) c.one_cell.ensures.rows ∙ ap items_of (sym c.in-One.is)) c.append-in-One.ensures.err

pub returns-in-Two-clause-ok : goal.returns-in-Two-clause-ok
returns-in-Two-clause-ok c =
    same_added c.append-in-Two.result c.args.items.now.items c.append-in-Two.new.items.items _ _ (ap (map Plain) c.two_cell.ensures.rows ∙ ap items_of (sym c.in-Two.is)) c.append-in-Two.ensures.ok

pub returns-in-Two-clause-err : goal.returns-in-Two-clause-err
returns-in-Two-clause-err c =
    same_refused c.append-in-Two.result c.args.items.now.items _ _ c.args.line (ap (map Plain) c.two_cell.ensures.rows ∙ ap items_of (sym c.in-Two.is)) c.append-in-Two.ensures.err

pub returns-in_err-append-in-All-clause-err : goal.returns-in_err-append-in-All-clause-err
returns-in_err-append-in-All-clause-err c =
    passed_on c.from_residual.result c.in_err-append-in-All.field-0.0 _ c.from_residual.ensures
    (first_refused c.args.items.now.items (map Plain c.one_cell-in-All.result) (map Plain two_cell_table) _ c.args.line c.in_err-append-in-All.field-0.0
    (all_plain c.one_cell-in-All.result two_cell_table c.args.name c.one_cell-in-All.ensures.rows refl c.in-All.is) c.in_err-append-in-All.ensures.err)

pub returns-in_ok-append-in-All-clause-ok : goal.returns-in_ok-append-in-All-clause-ok
returns-in_ok-append-in-All-clause-ok c =
    both_added c.append-in-All-2.result c.args.items.now.items c.append-in-All.new.items.items c.append-in-All-2.new.items.items (map Plain c.one_cell-in-All.result) (map Plain c.two_cell-in-All.result) _
    (all_plain c.one_cell-in-All.result c.two_cell-in-All.result c.args.name c.one_cell-in-All.ensures.rows c.two_cell-in-All.ensures.rows c.in-All.is)
    c.in_ok-append-in-All.ensures.ok c.append-in-All-2.ensures.ok

pub returns-in_ok-append-in-All-clause-err : goal.returns-in_ok-append-in-All-clause-err
returns-in_ok-append-in-All-clause-err c =
    second_refused c.append-in-All-2.result c.args.items.now.items c.append-in-All.new.items.items (map Plain c.one_cell-in-All.result) (map Plain c.two_cell-in-All.result) _ c.args.line
    (all_plain c.one_cell-in-All.result c.two_cell-in-All.result c.args.name c.one_cell-in-All.ensures.rows c.two_cell-in-All.ensures.rows c.in-All.is)
    c.in_ok-append-in-All.ensures.ok c.append-in-All-2.ensures.err
