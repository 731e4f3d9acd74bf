use Rattle.rtl_layout.proofs.Numbers.{numbers_always}
use Rattle.rtl_layout.proofs.laws.open_run_shows_numbers.Goals as goal

pub returns : goal.returns
returns c = λ p ready. numbers_always p ready ready.sized
