-- A run of steps that ends at the first read that differs, for any state.
use Rattle.std.proofs.Common.{◌≡◌, ℕ, Bool, true, false, not, cond, Option, Some, None, is_some, List, [], ◌∷◌, ◌++◌, refl, ap, sym, ◌∙◌}
use Rattle.std.proofs.lemmas.List.{map-append}
use Rattle.std.specs.Option.{option_and_then}
use Rattle.march_core.specs.declared.operation.Op.{Op}
use Rattle.march_core.specs.Visits.{Visit, MarchStep, pausing, visiting, miss_at, cell_visits, address_visits}
use Rattle.march_core.specs.inner.Addresses.{steps_of}
use Rattle.march_core.specs.declared.visit.Miss.{Miss}
use Rattle.array_sim.specs.Differing.{SomeDiffersBy}
use Rattle.array_sim.proofs.Differing.{first_of, first_found}

module _ {S : Type 0} (after : S → MarchStep → S) (is_wrong : S → Visit → Bool) where
  -- what these steps leave, unless a read differs
  abbrev pub run_by : S → List MarchStep → Option S
  run_by s [] = Some s
  run_by s (pausing e ∷ steps) = run_by (after s (pausing e)) steps
  run_by s (visiting v ∷ steps) = cond (is_wrong s v) None (run_by (after s (visiting v)) steps)

  pub run_append : (s : S) (xs ys : List MarchStep) → run_by s (xs ++ ys) ≡ option_and_then (λ r. run_by r ys) (run_by s xs)
  run_append s [] ys = refl
  run_append s (pausing e ∷ xs) ys = run_append (after s (pausing e)) xs ys
  run_append s (visiting v ∷ xs) ys =
      either (is_wrong s v) (run_by (after s (visiting v)) (xs ++ ys)) (run_by (after s (visiting v)) xs) (run_append (after s (visiting v)) xs ys)
    where
      either : (b : Bool) (whole first : Option S) → whole ≡ option_and_then (λ r. run_by r ys) first
          → cond b None whole ≡ option_and_then (λ r. run_by r ys) (cond b None first)
      either true whole first e = refl
      either false whole first e = e

  -- it ends early exactly where a read differs
  misses : (s : S) (steps : List MarchStep) → is_some (first_of after is_wrong s steps) ≡ not (is_some (run_by s steps))
  misses s [] = refl
  misses s (pausing e ∷ steps) = misses (after s (pausing e)) steps
  misses s (visiting v ∷ steps) =
      either (is_wrong s v) (first_of after is_wrong (after s (visiting v)) steps) (run_by (after s (visiting v)) steps) (misses (after s (visiting v)) steps)
    where
      either : (b : Bool) (miss : Option Miss) (left : Option S) → is_some miss ≡ not (is_some left)
          → is_some (cond b (Some (miss_at v)) miss) ≡ not (is_some (cond b None left))
      either true miss left e = refl
      either false miss left e = e

  pub differs_where : (s : S) (steps : List MarchStep) → run_by s steps ≡ None → SomeDiffersBy after is_wrong s steps
  differs_where s steps none =
      (first_found after is_wrong s steps (first_of after is_wrong s steps) refl).0.0 (misses s steps ∙ ap (λ o. not (is_some o)) none)

  pub right_where : (s left : S) (steps : List MarchStep) → run_by s steps ≡ Some left → SomeDiffersBy after is_wrong s steps → ⊥
  right_where s left steps some differs =
      let miss : is_some (first_of after is_wrong s steps) ≡ true = (first_found after is_wrong s steps (first_of after is_wrong s steps) refl).0.1 differs in
      let none : is_some (first_of after is_wrong s steps) ≡ false = misses s steps ∙ ap (λ o. not (is_some o)) some in
      let clash : true ≡ false = sym miss ∙ none in
      cc

-- the visits to the first address, and to the others
pub visits_split : (e z : ℕ) (ops : List Op) (xs : List ℕ)
    → steps_of (address_visits e ops (z ∷ xs)) ≡ steps_of (cell_visits e z 0 ops) ++ steps_of (address_visits e ops xs)
visits_split e z ops xs = map-append visiting (cell_visits e z 0 ops) (address_visits e ops xs)
