use Rattle.macro_pins.proofs.One.{ask_one}
use Rattle.macro_pins.proofs.laws.pins_ask_one.Goals as goal

pub returns : goal.returns
returns c = ask_one
