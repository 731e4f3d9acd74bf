use Rattle.std.proofs.Common.{length}
use Rattle.collar_top.proofs.top.+push_macro_outputs.Given as goal

abbrev pub decreases-push_macro_outputs : goal.decreases-push_macro_outputs
decreases-push_macro_outputs l = length l.outputs.now
