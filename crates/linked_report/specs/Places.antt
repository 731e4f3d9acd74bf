-- Public. What an escape's line says of places: behind `a` the cell of the first primitive's aggressor, behind `b` that of the second's,
-- behind `v` the victim's.
use Rattle.std.specs.Prelude.{◌≡◌, ◌++◌, ℕ, codes, decimal}
use Rattle.fault_core.specs.declared.cells.Places.{Places}
use Rattle.report_lines.specs.Lines.{aggressor_text}
use Rattle.linked_faults.specs.declared.escape.LinkEscape.{LinkEscape}
use Rattle.linked_faults.specs.Linking.{AreSpotsOf}
use Rattle.linked_report.specs.Report.{spots_text}

abbrev pub PlacesAreNamed : Type 0
PlacesAreNamed =
    (e : LinkEscape) (first second : Places) (size : ℕ) → AreSpotsOf e.link first second size e.spots
    → spots_text e ≡ codes " a " ++ aggressor_text first.agg ++ codes " b " ++ aggressor_text second.agg ++ codes " v " ++ decimal first.vic
