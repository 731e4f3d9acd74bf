use Rattle.rtl_layout.proofs.History.{always}
use Rattle.rtl_layout.proofs.laws.module_is_a_controller.Goals as goal

pub returns : goal.returns
returns c = λ p ready. always p ready ready.sized
