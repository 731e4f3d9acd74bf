use Rattle.bist_app.proofs.Common.{Some, None}
use Rattle.bist_app.proofs.PlaceWords.{split_place, rejected, none_found}
use Rattle.bist_app.proofs.benchfault_command.place_of.Goals as goal

pub returns-in_err-word : goal.returns-in_err-word
returns-in_err-word c = rejected c.args.text.now _ c.from_residual.ensures (λ place is. split_place c.args.text.now None place c.in_err-word.ensures.cases is)

pub returns-in_err-word-2 : goal.returns-in_err-word-2
returns-in_err-word-2 c =
    rejected c.args.text.now _ c.from_residual-in_err-word-2.ensures (λ place is.
    let parts = split_place c.args.text.now (Some (c.in_ok-word.word, c.in_ok-word.bit)) place c.in_ok-word.ensures.cases is in
    none_found place.word (c.in_err-word-2.ensures.every place.word parts.0))

pub returns-in_err-bit : goal.returns-in_err-bit
returns-in_err-bit c =
    rejected c.args.text.now _ c.from_residual-in_err-bit.ensures (λ place is.
    let parts = split_place c.args.text.now (Some (c.in_ok-word.word, c.in_ok-word.bit)) place c.in_ok-word.ensures.cases is in
    none_found place.bit (c.in_err-bit.ensures.every place.bit parts.1))
