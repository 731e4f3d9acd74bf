use Rattle.rtl_layout.proofs.Choice.{pick_is}
use Rattle.rtl_layout.proofs.laws.choice_gives_its_leaf.Goals as goal

pub returns : goal.returns
returns c = pick_is
