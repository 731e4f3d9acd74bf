use Rattle.collar_rtl.proofs.Equations.{passes_through}
use Rattle.collar_rtl.proofs.laws.collar_shows_the_macro.Goals as goal

pub returns-clause-in_use : goal.returns-clause-in_use
returns-clause-in_use c = λ name p b w regs inputs e s. passes_through p b w name regs inputs e s
