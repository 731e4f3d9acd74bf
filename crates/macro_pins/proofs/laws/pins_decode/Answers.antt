use Rattle.macro_pins.proofs.Going.{port_decodes}
use Rattle.macro_pins.proofs.laws.pins_decode.Goals as goal

pub returns : goal.returns
returns c = port_decodes
