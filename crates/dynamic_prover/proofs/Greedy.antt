-- The first directions that lead to the end: at each element upward, unless no way on from there does.
use Rattle.std.proofs.Common.{◌≡◌, ℕ, Bool, true, cond, None, List, length, refl, ap, sym, subst, ◌∙◌}
use Rattle.fault_core.specs.declared.cells.Places.{Places}
use Rattle.march_core.specs.March.{MarchElement, IsMarch}
use Rattle.march_core.specs.Visits.{Direction, is_direction}
use Rattle.dynamic_core.specs.Primitive.{DynamicPrimitive}
use Rattle.dynamic_core.specs.Detecting.{FitsDyn, IsCaughtDyn}
use Rattle.dynamic_prover.specs.declared.own_cells.OwnCells.{OwnCells}
use Rattle.dynamic_prover.specs.declared.shape.Shape.{Shape}
use Rattle.dynamic_prover.specs.inner.Own.{machine_of}
use Rattle.dynamic_prover.specs.inner.Shapes.{shape_of, order_of, end_in}
use Rattle.pair_tracker.specs.Few.{few_run}
use Rattle.pair_tracker.specs.Ways.{IsNotAfter}
use Rattle.pair_tracker.proofs.LeastWords.{fitting_is, holds_if}
use Rattle.pair_tracker.proofs.Reaching.{ways_lead, ways_least}
use Rattle.dynamic_prover.specs.inner.Ways.{any_end, can_pass, least_ways}
use Rattle.dynamic_prover.proofs.Sized.{own_start, passes_where, through_unless}

-- what is known of an array by its shape and its start
pub record Foretells (march : List MarchElement) (p : DynamicPrimitive) (at : Places) (content : List Bool) (shape : Shape) (q : OwnCells) : Type 0 where
  -- where some way leads to the end, the first is one in which the array passes
  pub some : can_pass (end_in p shape) march q ≡ true
      → (is_direction march (least_ways (end_in p shape) march q) ≡ true) × (IsCaughtDyn march (least_ways (end_in p shape) march q) p at content → ⊥)
  -- where the array passes, some way leads to the end, and the first is not after
  pub only : (ds : List Direction) → is_direction march ds ≡ true → (IsCaughtDyn march ds p at content → ⊥)
      → (can_pass (end_in p shape) march q ≡ true) × IsNotAfter (least_ways (end_in p shape) march q) ds

pub foretold : (march : List MarchElement) (p : DynamicPrimitive) (at : Places) (n : ℕ) (content : List Bool) → IsMarch march → FitsDyn p at n → length content ≡ n
    → Foretells march p at content (shape_of at.agg at.vic n) (own_start at.agg at.vic n content)
foretold march p at n content is_march fits size =
    subst (λ k. Foretells march p at content (shape_of at.agg at.vic k) (own_start at.agg at.vic k content)) size (at_length (subst (FitsDyn p at) (sym size) fits))
  where
    at_length : FitsDyn p at (length content) → Foretells march p at content (shape_of at.agg at.vic (length content)) (own_start at.agg at.vic (length content) content)
    at_length here =
        let shape : Shape = shape_of at.agg at.vic (length content) in
        let q : OwnCells = own_start at.agg at.vic (length content) content in
        record {
          some = λ e.
              let ways : List Direction = least_ways (end_in p shape) march q in
              let w = ways_lead any_end (end_in p shape) march q e in
              let t = holds_if (is_direction march ways) (few_run (machine_of p) (order_of shape) q march ways) w.0 (sym (fitting_is (machine_of p) (order_of shape) march q ways) ∙ w.1) in
              (t.0, passes_where p at march is_march ways content here w.0 t.1);
          only = λ ds d not.
              let z = through_unless p at march is_march ds content here not in
              ways_least any_end (end_in p shape) march q ds
              (z.0, fitting_is (machine_of p) (order_of shape) march q ds ∙ ap (λ b. cond b (few_run (machine_of p) (order_of shape) q march ds) None) d ∙ z.1, refl);
        }
