-- The line of an escape names the places of both primitives.
use Rattle.std.proofs.Common.{◌≡◌, ◌++◌}
use Rattle.std.specs.Prelude.{codes, decimal}
use Rattle.report_lines.specs.Lines.{aggressor_text}
use Rattle.linked_faults.specs.Linking.{first_places, second_places}
use Rattle.linked_report.specs.Places.{PlacesAreNamed}

pub places_are_named : PlacesAreNamed
places_are_named e first second size are =
    let one : first_places e.link e.spots ≡ first = are.first_is in
    let other : second_places e.link e.spots ≡ second = are.second_is in
    λ j. codes " a " ++ aggressor_text (one j).agg ++ codes " b " ++ aggressor_text (other j).agg ++ codes " v " ++ decimal (one j).vic
