-- A run without a miss is one in which no read differs; and the places of an array of two cells fit.
use Rattle.std.proofs.Common.{◌≡◌, Bool, true, false, not, Option, Some, None, is_some, List, refl, sym, subst, ◌↔◌, arith}
use Rattle.std.specs.Option.{IsSome}
use Rattle.std.specs.Bool.{IsTrue}
use Rattle.fault_core.specs.declared.primitive.Sense.{Sense}
use Rattle.fault_core.specs.Primitive.{Primitive}
use Rattle.fault_core.specs.Cells.{FitsPlace, FitsAgg}
use Rattle.fault_core.specs.declared.cells.Places.{Places}
use Rattle.march_core.specs.March.{MarchElement}
use Rattle.march_core.specs.Visits.{Direction}
use Rattle.march_core.specs.declared.visit.Miss.{Miss}
use Rattle.array_sim.specs.Detection.{IsCaught}
use Rattle.pair_tracker.specs.declared.placement.Placement.{Placement}
use Rattle.pair_tracker.specs.declared.placement.Placement.TheVariants.{Alone, Below, Above}
use Rattle.pair_tracker.specs.Placements.{places_in, FitsPlacement}
use Rattle.escape_array.specs.declared.escape.EscapeArray.{EscapeArray}
use Rattle.escape_array.specs.Escapes.{IsArray, places_of_escape}

pub passes_where_none : (march : List MarchElement) (ds : List Direction) (p q : Primitive) (at to : Places) (content : List Bool) (miss : Option Miss) (passes : Bool)
    → p ≡ q → at ≡ to → is_some miss ≡ not passes → (IsSome miss ↔ IsCaught march ds p at content) → IsTrue passes ↔ (IsCaught march ds q to content → ⊥)
passes_where_none march ds p q at to content miss passes same there is caught =
    subst (λ x. IsTrue passes ↔ (IsCaught march ds q x content → ⊥)) there
    (subst (λ x. IsTrue passes ↔ (IsCaught march ds x at content → ⊥)) same (unless (IsCaught march ds p at content) miss passes is caught))
  where
    unless : (C : Type 0) (m : Option Miss) (b : Bool) → is_some m ≡ not b → (IsSome m ↔ C) → IsTrue b ↔ (C → ⊥)
    unless C None true e h = (λ passes c. let some = h.1 c in cc, λ none. refl)
    unless C None false e h = cc
    unless C (Some m) true e h = cc
    unless C (Some m) false e h = (λ passes c. cc, λ none. absurd (none (h.0 refl)))

pub placement_fits : (p : Primitive) (placement : Placement) → FitsPlacement p placement → FitsPlace p (places_in placement) 2
placement_fits p Alone h = record { victim = omega arith; aggressor = subst (λ s. FitsAgg s None 0 2) (sym h) tt }
placement_fits p Below h = record { victim = omega arith; aggressor = given p.agg h }
  where
    given : (agg : Option Sense) → IsSome agg → FitsAgg agg (Some 0) 1 2
    given None h = cc
    given (Some s) h = (omega arith, omega arith)
placement_fits p Above h = record { victim = omega arith; aggressor = given p.agg h }
  where
    given : (agg : Option Sense) → IsSome agg → FitsAgg agg (Some 1) 0 2
    given None h = cc
    given (Some s) h = (omega arith, omega arith)

-- the instance stands within the two cells
pub array_fits : (march : List MarchElement) (e : EscapeArray) → IsArray march e → FitsPlace e.prim (places_of_escape e) 2
array_fits march e a = subst (λ at. FitsPlace e.prim at 2) (sym a.places) (placement_fits e.prim a.placement a.fits)
