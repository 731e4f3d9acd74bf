use Rattle.linked_report.proofs.Places.{places_are_named}
use Rattle.linked_report.proofs.one_text.places_are_named.Goals as goal

pub returns : goal.returns
returns c = places_are_named
