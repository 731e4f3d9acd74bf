use Rattle.collar_rtl.proofs.Settles.{interface_settles}
use Rattle.collar_rtl.proofs.laws.interface_settles.Goals as goal

pub returns : goal.returns
returns c = λ name p b a forms legal regs ins starts. interface_settles name p b a forms legal regs ins starts
