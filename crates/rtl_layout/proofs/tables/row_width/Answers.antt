use Rattle.rtl_layout.proofs.Rows.{narrow_shift}
use Rattle.rtl_layout.proofs.tables.row_width.Goals as goal

pub overflow_shl-result : goal.overflow_shl-result
overflow_shl-result c = narrow_shift c.args.plan.now.oper_width c.args.plan.now.is_plan.ready.sized.row_narrow
