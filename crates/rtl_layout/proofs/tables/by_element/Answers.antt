use Rattle.rtl_layout.specs.Seen.{seen}
use Rattle.rtl_layout.proofs.Tabled.{flag_of_all}
use Rattle.rtl_layout.proofs.tables.by_element.Goals as goal

pub returns : goal.returns
returns c = flag_of_all (seen c.args.plan.now) c.args.which _ c.flags_ahead.ensures
