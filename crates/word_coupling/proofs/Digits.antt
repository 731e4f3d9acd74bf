-- The digits of an escape's line are those bits of a word that holds it.
use Rattle.std.proofs.Common.{◌++◌, Some, [], ◌∷◌, sym}
use Rattle.std.specs.Prelude.{codes}
use Rattle.report_lines.specs.Lines.{places_text, content_text}
use Rattle.word_coupling.specs.Digits.{DigitsAreOfPlaces}

pub digits_are_of_places : DigitsAreOfPlaces
digits_are_of_places e content word holds =
    let agg = sym holds.agg in
    let vic = sym holds.vic in
    λ j. places_text (Some e.agg) e.vic ++ (codes " content " ++ content_text (agg j ∷ vic j ∷ []))
