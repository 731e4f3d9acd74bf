-- Two runs that do the same at each step differ at the same reads.
use Rattle.std.proofs.Common.{◌≡◌, ◌↔◌, Bool, List, [], ◌∷◌, ◌∙◌, sym}
use Rattle.march_core.specs.Visits.{Visit, MarchStep}
use Rattle.array_sim.specs.Differing.{left_behind, SomeDiffersBy}

module _ {S T : Type 0} (after : S → MarchStep → S) (is_wrong : S → Visit → Bool) (then : T → MarchStep → T) (is_off : T → Visit → Bool) (Same : S → T → Type 0)
    (stays : (s : S) (t : T) (step : MarchStep) → Same s t → Same (after s step) (then t step))
    (tells : (s : S) (t : T) (v : Visit) → Same s t → is_wrong s v ≡ is_off t v) where
  left_same : (s : S) (t : T) (steps : List MarchStep) → Same s t → Same (left_behind after s steps) (left_behind then t steps)
  left_same s t [] same = same
  left_same s t (step ∷ steps) same = left_same (after s step) (then t step) steps (stays s t step same)

  pub both_differ : (s : S) (t : T) (steps : List MarchStep) → Same s t → SomeDiffersBy after is_wrong s steps ↔ SomeDiffersBy then is_off t steps
  both_differ s t steps same = (
    λ (v, d). (v, record { before = d.before; behind = d.behind; split = d.split; wrong = sym (tells _ _ v (left_same s t d.before same)) ∙ d.wrong }),
    λ (v, d). (v, record { before = d.before; behind = d.behind; split = d.split; wrong = tells _ _ v (left_same s t d.before same) ∙ d.wrong }),
  )
