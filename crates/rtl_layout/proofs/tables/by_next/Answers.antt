use Rattle.rtl_layout.specs.Seen.{seen}
use Rattle.rtl_layout.proofs.Tabled.{flag_of_next}
use Rattle.rtl_layout.proofs.tables.by_next.Goals as goal

pub returns : goal.returns
returns c = flag_of_next (seen c.args.plan.now) c.args.which _ c.flags_ahead.ensures
