use Rattle.rtl_layout.specs.Seen.{seen}
use Rattle.rtl_layout.proofs.Tabled.{row_of_all}
use Rattle.rtl_layout.proofs.tables.flag_row.Goals as goal

pub returns : goal.returns
returns c = row_of_all (seen c.args.plan.now) c.args.which _ _ c.row_width.ensures c.flags_ahead.ensures
