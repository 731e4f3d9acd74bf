-- What a march makes of an array is seen in the array's shape and the contents of its instance's cells.
use Rattle.std.proofs.Common.{◌≡◌, ◌≢◌, ◌<◌, ℕ, Option, Some, None, List, length, refl, Bool, false, arith}
use Rattle.fault_core.specs.declared.cells.Places.{Places}
use Rattle.march_core.specs.March.{MarchElement, IsMarch}
use Rattle.march_core.specs.Visits.{Direction}
use Rattle.cell_machine.specs.declared.pair.Side.{Side}
use Rattle.pair_tracker.specs.Few.{Order, few_run}
use Rattle.pair_tracker.proofs.Few.{march_passes, march_through}
use Rattle.pair_tracker.proofs.Tags.{side_at}
use Rattle.dynamic_core.specs.Primitive.{DynamicSense, DynamicPrimitive}
use Rattle.dynamic_core.specs.Dynamic.{held_as}
use Rattle.dynamic_core.specs.Differing.{held_after, is_wrong_visit}
use Rattle.dynamic_core.specs.Detecting.{FitsDynAgg, FitsDyn, IsCaughtDyn}
use Rattle.dynamic_prover.specs.declared.own_cells.OwnCells.{OwnCells}
use Rattle.dynamic_prover.specs.inner.Own.{machine_of}
use Rattle.dynamic_prover.specs.inner.Shapes.{shape_of, order_of}
use Rattle.dynamic_prover.proofs.Own.{own_of, About, about}
use Rattle.dynamic_prover.proofs.Passing.{dyn_sees, DoesSame}
use Rattle.dynamic_prover.proofs.Blocks.{over_pair, over_victim}

-- the cell seen beside the victim: the aggressor's, or none of the array where there is no aggressor
abbrev pub beside_of : Option ℕ → ℕ → ℕ
beside_of None n = n
beside_of (Some a) n = a

sees : (p : DynamicPrimitive) (at : Places) (n : ℕ) → FitsDyn p at n → About p at (beside_of at.agg n) n
sees p at n fits = about p at (beside_of at.agg n) n fits (apart at.agg p.agg fits.aggressor) (is at.agg)
  where
    apart : (place : Option ℕ) (agg : Option DynamicSense) → FitsDynAgg agg place at.vic n → beside_of place n ≢ at.vic
    apart None agg f = let within : at.vic < n = fits.victim in omega arith
    apart (Some a) None f = absurd f
    apart (Some a) (Some sense) f = f.1

    is : (place : Option ℕ) (b : ℕ) → place ≡ Some b → b ≡ beside_of place n
    is None b e = cc
    is (Some a) b e = cc

does_same : (p : DynamicPrimitive) (at : Places) (n : ℕ) → FitsDyn p at n → DoesSame p (beside_of at.agg n) at.vic n (shape_of at.agg at.vic n)
does_same p at n fits = go at.agg p.agg fits.aggressor
  where
    go : (place : Option ℕ) (agg : Option DynamicSense) → FitsDynAgg agg place at.vic n → DoesSame p (beside_of place n) at.vic n (shape_of place at.vic n)
    go None agg f = over_victim p n at.vic n (omega arith) fits.victim
    go (Some a) None f = absurd f
    go (Some a) (Some sense) f = over_pair p a at.vic n f.1 f.0 fits.victim

-- the two cells at the start
abbrev pub own_start : Option ℕ → ℕ → ℕ → List Bool → OwnCells
own_start agg vic n content = own_of (beside_of agg n) vic (held_as content false)

module _ (p : DynamicPrimitive) (at : Places) (march : List MarchElement) (is : IsMarch march) (ds : List Direction) (content : List Bool) (fits : FitsDyn p at (length content)) where
  abbrev n : ℕ
  n = length content

  abbrev order : Order Side
  order = order_of (shape_of at.agg at.vic n)

  -- no read differs exactly where the two cells get through
  pub passes_where : (q : OwnCells) → few_run (machine_of p) order (own_start at.agg at.vic n content) march ds ≡ Some q → IsCaughtDyn march ds p at content → ⊥
  passes_where q e =
      march_passes (held_after p at) (is_wrong_visit p at) (λ h. h.cells) (own_of (beside_of at.agg n) at.vic) (side_at (beside_of at.agg n) at.vic) n (machine_of p) (λ h. length h.cells ≡ n) (Unit {0})
      (dyn_sees p at (beside_of at.agg n) n (sees p at n fits)) order (does_same p at n fits) march is ds (held_as content false) refl tt q e

  pub through_unless : (IsCaughtDyn march ds p at content → ⊥) → (q : OwnCells) × (few_run (machine_of p) order (own_start at.agg at.vic n content) march ds ≡ Some q)
  through_unless passes =
      march_through (held_after p at) (is_wrong_visit p at) (λ h. h.cells) (own_of (beside_of at.agg n) at.vic) (side_at (beside_of at.agg n) at.vic) n (machine_of p) (λ h. length h.cells ≡ n) (Unit {0})
      (dyn_sees p at (beside_of at.agg n) n (sees p at n fits)) order (does_same p at n fits) march is ds (held_as content false) refl tt passes
