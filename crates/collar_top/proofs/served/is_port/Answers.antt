use Rattle.std.proofs.Common.{List, map, sym, ap, ◌∙◌, ◌&&◌, ◌||◌}
use Rattle.macro_pins.specs.declared.pins.Pin.{Pin}
use Rattle.macro_pins.specs.Pins.{plain_pin, has_enable}
use Rattle.macro_pins.specs.Ports.{has, is_address, is_data, is_read_alone, is_write_alone, is_way}
use Rattle.collar_top.proofs.Serving.{port}
use Rattle.collar_top.proofs.served.is_port.Goals as goal

pub returns-clause-yes : goal.returns-clause-yes
returns-clause-yes c = λ h.
    let same = sym c.as_slice-pins.ensures.value in
    port c.args.address c.args.macro_.now c.requires
    (ap (λ (l : List Pin). has is_address (map plain_pin l)) same ∙ sym c.if-not-has_address.ensures)
    (ap (λ (l : List Pin). has is_data (map plain_pin l)) same ∙ sym c.if-not-has_data.ensures)
    (ap (λ (l : List Pin). has is_way (map plain_pin l)) same ∙ sym c.if-not-has_way.ensures)
    (ap (λ (l : List Pin). has_enable (map plain_pin l) || (has is_read_alone (map plain_pin l) && has is_write_alone (map plain_pin l))) same
    ∙ sym c.tells_commands.ensures ∙ h)
