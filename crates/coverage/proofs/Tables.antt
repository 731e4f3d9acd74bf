-- The verdict is that of the march's tables.
use Rattle.std.proofs.Common.{◌≡◌, List, length, sym, subst, arith}
use Rattle.fault_core.specs.Primitive.{Primitive, IsPrimitive}
use Rattle.march_core.specs.March.{MarchElement, IsMarch}
use Rattle.march_core.specs.Visits.{directions_of}
use Rattle.array_sim.specs.Detection.{Detects}
use Rattle.pair_tracker.specs.declared.placement.Placement.{Placement}
use Rattle.pair_tracker.specs.Placements.{places_in, pair_in, FitsPlacement}
use Rattle.pair_tracker.specs.Legs.{cells_in}
use Rattle.pair_tracker.specs.Reached.{IsSpan}
use Rattle.pair_tracker.specs.Tables.{NothingPasses}
use Rattle.pair_tracker.proofs.Tables.{two_cells, survives_composed, composed_survives}
use Rattle.escape_array.specs.declared.escape.EscapeArray.{EscapeArray}
use Rattle.escape_array.specs.Escapes.{IsEscape}
use Rattle.escape_array.proofs.LeastArray.{lets_through}
use Rattle.escape_array.proofs.Replaying.{placement_fits}

whole : (p : Primitive) (march : List MarchElement) (placement : Placement) → IsPrimitive p → IsMarch march → FitsPlacement p placement
    → IsSpan march p placement 0 (length march)
whole p march placement is is_march fits =
    record { is_march = is_march; primitive = is; fits = fits; ordered = omega arith; within = omega arith }

-- where two cells get through the tables, an array passes
pub nothing_passes : (p : Primitive) (march : List MarchElement) → IsPrimitive p → IsMarch march → Detects march p → NothingPasses march p
nothing_passes p march is is_march detects placement fits start final leads =
    let passes = composed_survives march p placement (whole p march placement is is_march fits) start final leads in
    passes.1.passes
    (detects 2 (omega arith) (directions_of passes.0 (length march)) (places_in placement) (cells_in placement start) passes.1.fits.allowed
    (placement_fits p placement fits) (two_cells placement start))

-- where an array passes, two cells get through
pub something_passes : (p : Primitive) (march : List MarchElement) (e : EscapeArray) → IsPrimitive p → IsMarch march → e.prim ≡ p → IsEscape march e
    → NothingPasses march p → ⊥
something_passes p march e is is_march same escape nothing =
    let array = escape.array in
    let q : Primitive = e.prim in
    let prim : IsPrimitive q = subst IsPrimitive (sym same) is in
    let through = lets_through march e escape array.placement array.places in
    subst (NothingPasses march) (sym same) nothing array.placement array.fits (pair_in array.placement e.content) through.0
    (survives_composed march q array.placement (whole q march array.placement prim is_march array.fits) e.content e.directions through.0 array.two_cells through.1)
