use Rattle.std.proofs.Common.{ap, ◌∙◌, sym}
use Rattle.std.specs.Str.Parse.{digits_value}
use Rattle.bist_text.specs.keyed.Reading.{took, onward}
use Rattle.bist_text.proofs.keyed.Numbers.{hex_value}
use Rattle.bist_text.proofs.keyed_lines.hex_number.Goals as goal

pub returns : goal.returns
returns c =
    let digits = c.in_ok-digits in
    ap (λ r. onward r (λ ds x. took (digits_value 16 ds) x)) digits.ensures
    ∙ ap (λ n. took n digits.text.now) (sym (hex_value c.args.text.now digits.digits.now digits.text.now c.hex.result c.unwrap_or-value.result digits.ensures c.hex.ensures c.unwrap_or-value.ensures))
